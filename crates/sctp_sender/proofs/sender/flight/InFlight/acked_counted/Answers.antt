use Rattle.sctp_sender.proofs.Names.{◌≡◌, ◌+◌, ◌*◌, ◌≤◌, List, [], length, map, drop, refl, ap, sym, subst, ◌∙◌, arith, if◌then◌else◌, count_by, filter}
use Rattle.sctp_sender.proofs.Names.{length-map, length-filter, change_where, distance, negated, Sack, sack_of, ChunkPayloadData, GapAckBlock, as_acknowledged}
use Rattle.sctp_sender.proofs.Names.{Outbound, with_inflight, partially_sent, following_tsn, Released, to_sort, Flight, is_outdated, is_whole, sack_refusal}
use Rattle.sctp_sender.proofs.Names.{released_of, reports, reports_anew, AreKnown, AreSorted, StandSideBySide, messages_of, number_of_half, AreInFlight}
use Rattle.sctp_sender.proofs.Names.{PicksAnew, is_answered, judged, no_message, AreUnmarked}
use Rattle.sctp_sender.proofs.Counts.{numbers-of-those, numbers_of, picked-beside}
use Rattle.sctp_sender.proofs.InLine.{messages-changed, shorter}
use Rattle.sctp_sender.proofs.Keepings.{taken-within}
use Rattle.sctp_sender.proofs.Reported.{IsTaken, answered-judged, ends, known-then, picks}
use Rattle.sctp_sender.proofs.Runs.{IsRunFrom}
use Rattle.sctp_sender.proofs.SackCosts.{all-reported, few-known, same-messages}
use Rattle.sctp_sender.proofs.Sacks.{contiguous, count, run, taken-is}
use Rattle.sctp_sender.proofs.Seen.{flight_in}
use Rattle.sctp_sender.proofs.Settled.{after-bytes}
use Rattle.sctp_sender.proofs.Answered.{of-changed, answered-are, answered-in-flight}
use Rattle.sctp_sender.proofs.Unmarked.{changed-on, left-over}
use Rattle.sctp_sender.proofs.sender.flight.InFlight.acked_counted.Goals.{After-acknowledge_answered, After-deref-3, After-judge_each, After-pop_run}
use Rattle.sctp_sender.proofs.sender.flight.InFlight.acked_counted.Goals.{After-tell_anew, In_ok-tell_anew}
use Rattle.sctp_sender.proofs.sender.flight.InFlight.acked_counted.Goals as goal

-- The SACK is taken, and these are its blocks.
taken : (c : After-deref-3) → IsTaken (sack_of c.args.sack.now) (flight_in c.self.inside) c.deref-3.result.now
taken c =
    let s = sack_of c.args.sack.now in
    record {
      whole = c.self.invariant.contiguous;
      fits = c.distance-count.ensures.to_fits;
      none = ap (sack_refusal s) c.self.view_is ∙ c.in_ok-is_current_counted.ensures.accepted refl;
      current = ap (is_outdated s) c.self.view_is
          ∙ negated (is_outdated s c.args.self.now) (sym c.in_ok-is_current_counted.ensures.answer ∙ c.if-not-branch.false);
      are = subst (λ (bs : List GapAckBlock). AreSorted bs s.gap_ack_blocks) (sym c.deref-3.ensures.value)
          (subst (AreSorted c.in_ok-sorted.sorted.items) c.deref.ensures.value c.in_ok-sorted.ensures.ok);
    }

-- What is told.
abbrev AreTold : Sack → Flight → List Released → Type 0
AreTold s f rs = rs ≡ map (released_of no_message) (filter (reports_anew s) f.queue.inflight.chunks)

told : (c : In_ok-tell_anew) → IsTaken (sack_of c.args.sack.now) (flight_in c.self.inside) c.deref-3.result.now
    → AreTold (sack_of c.args.sack.now) (flight_in c.self.inside) c.tell_anew.new.released.items
told c t =
    let p = reports_anew (sack_of c.args.sack.now) in
    c.in_ok-tell_anew.ensures.answered p
    (subst (λ k. PicksAnew p k c.deref-3.result.now c.self.inside.queue.inflight.chunks) (sym c.distance-count.ensures.value) (picks t))

-- What it has cost until then.
walked : (c : After-tell_anew) → IsTaken (sack_of c.args.sack.now) (flight_in c.self.inside) c.deref-3.result.now
    → c.tell_anew.new.turns ≤ c.args.turns.now + 5 * length (sack_of c.args.sack.now).gap_ack_blocks
    + 3 * to_sort (sack_of c.args.sack.now).gap_ack_blocks + count_by (λ (c : ChunkPayloadData). c.acked) c.self.inside.queue.inflight.chunks
    + 2 * count_by (reports (sack_of c.args.sack.now)) c.self.inside.queue.inflight.chunks
walked c t =
    let few = few-known c.self.inside.known.items c.self.inside.queue.inflight.chunks c.self.invariant.ascend c.self.invariant.known in
    let known = ap (λ (bs : List GapAckBlock). length bs) c.deref-2.ensures.value in
    let blocks = ap (λ (bs : List GapAckBlock). length bs) c.deref.ensures.value in
    let unsorted = ap (λ (bs : List GapAckBlock). to_sort bs) c.deref.ensures.value in
    let many = ap (λ (bs : List GapAckBlock). length bs) c.deref-3.ensures.value in
    omega (
      arith,
      c.in_ok-is_current_counted.ensures.cost,
      c.in_ok-sorted.ensures.cost,
      c.in_ok-sorted.ensures.few,
      c.tell_anew.ensures.cost,
      few,
      known,
      blocks,
      unsorted,
      many,
      all-reported t,
      c.distance-count.ensures.value,
    )

-- What is told of is acknowledged.
abbrev IsMarked : Sack → Flight → Outbound → Type 0
IsMarked s f q = q ≡ with_inflight f.queue (change_where (reports_anew s) as_acknowledged f.queue.inflight.chunks)

marked : (c : After-acknowledge_answered) → IsTaken (sack_of c.args.sack.now) (flight_in c.self.inside) c.deref-3.result.now
    → AreTold (sack_of c.args.sack.now) (flight_in c.self.inside) c.tell_anew.new.released.items
    → IsMarked (sack_of c.args.sack.now) (flight_in c.self.inside) c.acknowledge_answered.new.queue
marked c t a =
    let f : Flight = flight_in c.self.inside in
    let cs = f.queue.inflight.chunks in
    c.acknowledge_answered.ensures.value
    ∙ ap (with_inflight f.queue) (ap (λ (rs : List Released). change_where (is_answered rs) as_acknowledged cs) (c.deref-4.ensures.value ∙ a)
    ∙ answered-are (reports_anew (sack_of c.args.sack.now)) no_message (following_tsn f.acked_tsn) cs (omega arith) t.whole.run t.whole.few)

beside : (f : Flight) {s : Sack} {sorted : List GapAckBlock} → IsTaken s f sorted → StandSideBySide (messages_of f.queue.inflight.chunks)
beside f t = shorter (messages_of f.queue.inflight.chunks) (number_of_half (partially_sent f.queue.pending)) t.whole.side_by_side

-- What is told, once it is judged.
said : (c : After-judge_each) → AreTold (sack_of c.args.sack.now) (flight_in c.self.inside) c.tell_anew.new.released.items
    → IsMarked (sack_of c.args.sack.now) (flight_in c.self.inside) c.acknowledge_answered.new.queue
    → c.judge_each.new.released.items
    ≡ map (released_of (is_whole (sack_of c.args.sack.now) (flight_in c.self.inside)))
    (filter (reports_anew (sack_of c.args.sack.now)) c.self.inside.queue.inflight.chunks)
said c a m =
    let ds = c.acknowledge_answered.new.queue.inflight.chunks in
    c.judge_each.ensures.value ∙ ap (map (judged c.partial_of-partial.result ds)) a
    ∙ answered-judged (sack_of c.args.sack.now) (flight_in c.self.inside) c.partial_of-partial.result
    (c.partial_of-partial.ensures ∙ ap (λ (o : Outbound). partially_sent o.pending) m) c.self.inside.queue.inflight.chunks
    ds refl (ap (λ (o : Outbound). o.inflight.chunks) m)

-- What goes from the front.
abbrev IsCut : Sack → Flight → Outbound → Outbound → Type 0
IsCut s f q r = r ≡ with_inflight q (drop (distance f.acked_tsn s.cumulative_tsn_ack) q.inflight.chunks)

cut : (c : After-pop_run) → IsCut (sack_of c.args.sack.now) (flight_in c.self.inside) c.acknowledge_answered.new.queue c.pop_run.new.queue
cut c =
    let q = c.acknowledge_answered.new.queue in
    c.pop_run.ensures.value ∙ ap (λ k. with_inflight q (drop k q.inflight.chunks)) c.distance-count.ensures.value

pub tell_anew-requires-clause-within : goal.tell_anew-requires-clause-within
tell_anew-requires-clause-within c =
    let t = taken (goal.at.tell_anew-requires-clause-within c).After-deref-3 in
    λ n h. let e = ends t n h in omega (arith, e, c.distance-count.ensures.value)

pub acknowledge_answered-requires-clause-answered : goal.acknowledge_answered-requires-clause-answered
acknowledge_answered-requires-clause-answered c =
    let p = goal.at.acknowledge_answered-requires-clause-answered c in
    let a = told p.In_ok-tell_anew (taken p.After-deref-3) in
    let cs = c.self.inside.queue.inflight.chunks in
    subst (λ (rs : List Released). AreInFlight rs cs) (sym (c.deref-4.ensures.value ∙ a))
    (answered-in-flight (reports_anew (sack_of c.args.sack.now)) no_message cs cs (λ r h. h))

pub judge_each-requires-clause-run : goal.judge_each-requires-clause-run
judge_each-requires-clause-run c =
    let p = goal.at.judge_each-requires-clause-run c in
    let t = taken p.After-deref-3 in
    subst (λ (o : Outbound). IsRunFrom (following_tsn c.self.inside.acked_tsn) o.inflight.chunks)
    (sym (marked p.After-acknowledge_answered t (told p.In_ok-tell_anew t))) (run (flight_in c.self.inside) t.whole (sack_of c.args.sack.now) t.fits)

pub judge_each-requires-clause-few : goal.judge_each-requires-clause-few
judge_each-requires-clause-few c =
    let p = goal.at.judge_each-requires-clause-few c in
    let t = taken p.After-deref-3 in
    let n = ap (λ (o : Outbound). length o.inflight.chunks) (marked p.After-acknowledge_answered t (told p.In_ok-tell_anew t)) in
    omega (arith, n, count (flight_in c.self.inside) t.whole (sack_of c.args.sack.now) t.fits, t.whole.few)

pub judge_each-requires-clause-beside : goal.judge_each-requires-clause-beside
judge_each-requires-clause-beside c =
    let p = goal.at.judge_each-requires-clause-beside c in
    let t = taken p.After-deref-3 in
    subst (λ (o : Outbound). StandSideBySide (messages_of o.inflight.chunks)) (sym (marked p.After-acknowledge_answered t (told p.In_ok-tell_anew t)))
    (subst StandSideBySide
    (sym (messages-changed (reports_anew (sack_of c.args.sack.now)) as_acknowledged (λ d. refl) c.self.inside.queue.inflight.chunks))
    (beside (flight_in c.self.inside) t))

pub judge_each-requires-clause-answered : goal.judge_each-requires-clause-answered
judge_each-requires-clause-answered c =
    let p = goal.at.judge_each-requires-clause-answered c in
    let t = taken p.After-deref-3 in
    let a = told p.In_ok-tell_anew t in
    let q = reports_anew (sack_of c.args.sack.now) in
    let cs = c.self.inside.queue.inflight.chunks in
    subst (λ (rs : List Released). AreInFlight rs c.acknowledge_answered.new.queue.inflight.chunks) (sym a)
    (subst (λ (o : Outbound). AreInFlight (map (released_of no_message) (filter q cs)) o.inflight.chunks) (sym (marked p.After-acknowledge_answered t a))
    (answered-in-flight q no_message cs (change_where q as_acknowledged cs) (λ r h. of-changed q r cs ∙ h)))

pub judge_each-requires-clause-in_turn : goal.judge_each-requires-clause-in_turn
judge_each-requires-clause-in_turn c =
    let p = goal.at.judge_each-requires-clause-in_turn c in
    let t = taken p.After-deref-3 in
    let q = reports_anew (sack_of c.args.sack.now) in
    let cs = c.self.inside.queue.inflight.chunks in
    subst StandSideBySide (sym (ap (λ (rs : List Released). numbers_of rs) (told p.In_ok-tell_anew t) ∙ numbers-of-those no_message (filter q cs)))
    (picked-beside q cs (beside (flight_in c.self.inside) t))

pub pop_run-requires-clause-run : goal.pop_run-requires-clause-run
pop_run-requires-clause-run c =
    let p = goal.at.pop_run-requires-clause-run c in
    let t = taken p.After-deref-3 in
    subst (λ (o : Outbound). IsRunFrom (following_tsn c.self.inside.acked_tsn) o.inflight.chunks)
    (sym (marked p.After-acknowledge_answered t (told p.In_ok-tell_anew t))) (run (flight_in c.self.inside) t.whole (sack_of c.args.sack.now) t.fits)

pub pop_run-requires-clause-within : goal.pop_run-requires-clause-within
pop_run-requires-clause-within c =
    let p = goal.at.pop_run-requires-clause-within c in
    let t = taken p.After-deref-3 in
    let s = sack_of c.args.sack.now in
    let f : Flight = flight_in c.self.inside in
    let within = taken-within s f t.none t.current in
    let n = ap (λ (o : Outbound). length o.inflight.chunks) (marked p.After-acknowledge_answered t (told p.In_ok-tell_anew t)) in
    omega (arith, within, c.distance-count.ensures.value, n, count f t.whole s t.fits)

pub invariant_of-self : goal.invariant_of-self
invariant_of-self c =
    let p = goal.at.invariant_of-self c in
    let t = taken p.After-deref-3 in
    let m = marked p.After-acknowledge_answered t (told p.In_ok-tell_anew t) in
    let left = cut p.After-pop_run in
    let s = sack_of c.args.sack.now in
    let f : Flight = flight_in c.self.inside in
    let own : IsTaken s f c.in_ok-sorted.sorted.items = subst (IsTaken s f) c.deref-3.ensures.value t in
    record {
      contiguous = contiguous f t.whole s t.fits (taken-within s f t.none t.current) c.acknowledge_answered.new.queue c.pop_run.new.queue m left;
      ascend = own.are.ascend;
      known = subst (λ (o : Outbound). AreKnown c.in_ok-sorted.sorted.items o.inflight.chunks)
          (sym (left ∙ ap (λ (o : Outbound). with_inflight o (drop (distance f.acked_tsn s.cumulative_tsn_ack) o.inflight.chunks)) m)) (known-then own);
      unmarked =
          let now : AreUnmarked c.self.inside.unmarked c.acknowledge_answered.new.queue.inflight.chunks =
          changed-on c.self.inside.unmarked f.queue c.acknowledge_answered.new.queue (reports_anew s) as_acknowledged
          (λ d e. refl) m c.self.invariant.unmarked in
          let gone : c.pop_run.new.queue.inflight.chunks ≡ drop c.distance-count.result c.acknowledge_answered.new.queue.inflight.chunks =
          ap (λ (o : Outbound). o.inflight.chunks) c.pop_run.ensures.value in
          subst (AreUnmarked c.saturating_sub-self-inside.result) (sym gone) (left-over c.self.inside.unmarked c.distance-count.result c.saturating_sub-self-inside.result
          c.acknowledge_answered.new.queue.inflight.chunks c.saturating_sub-self-inside.ensures now);
    }

pub returns-clause-ok : goal.returns-clause-ok
returns-clause-ok c =
    let p = goal.at.returns-clause-ok c in
    let t = taken p.After-deref-3 in
    let s = sack_of c.args.sack.now in
    let f : Flight = flight_in c.self.inside in
    rw (← c.self.view_is) (taken-is f t.whole s t.fits (taken-within s f t.none t.current) c.acknowledge_answered.new.queue c.pop_run.new.queue
    (marked p.After-acknowledge_answered t (told p.In_ok-tell_anew t)) (cut p.After-pop_run) t.current)

pub returns-clause-released : goal.returns-clause-released
returns-clause-released c =
    let p = goal.at.returns-clause-released c in
    let t = taken p.After-deref-3 in
    let a = told p.In_ok-tell_anew t in
    let m = marked p.After-acknowledge_answered t a in
    let s = sack_of c.args.sack.now in
    let f : Flight = flight_in c.self.inside in
    let g : Flight = record { queue = c.pop_run.new.queue; next_tsn = c.self.inside.next_tsn; acked_tsn = c.args.sack.now.cumulative_tsn_ack } in
    let is = taken-is f t.whole s t.fits (taken-within s f t.none t.current) c.acknowledge_answered.new.queue c.pop_run.new.queue m (cut p.After-pop_run)
    t.current in
    rw (← c.self.view_is) (after-bytes s f g c.judge_each.new.released.items t.current is (said p.After-judge_each a m))

pub returns-clause-answer : goal.returns-clause-answer
returns-clause-answer c =
    let p = goal.at.returns-clause-answer c in
    let t = taken p.After-deref-3 in
    let a = told p.In_ok-tell_anew t in
    let s = sack_of c.args.sack.now in
    let f : Flight = flight_in c.self.inside in
    rw (← c.self.view_is) (said p.After-judge_each a (marked p.After-acknowledge_answered t a)
    ∙ ap (λ b. if b then [] else map (released_of (is_whole s f)) (filter (reports_anew s) f.queue.inflight.chunks)) (sym t.current))

pub returns-in_err-tell_anew-clause-cost : goal.returns-in_err-tell_anew-clause-cost
returns-in_err-tell_anew-clause-cost c =
    let p = goal.at.returns-in_err-tell_anew-clause-cost c in
    rw (← c.self.view_is) (omega (arith, walked p.After-tell_anew (taken p.After-deref-3)))

pub returns-clause-cost : goal.returns-clause-cost
returns-clause-cost c =
    let p = goal.at.returns-clause-cost c in
    let t = taken p.After-deref-3 in
    let a = told p.In_ok-tell_anew t in
    let s = sack_of c.args.sack.now in
    let q = reports_anew s in
    let cs = c.self.inside.queue.inflight.chunks in
    let n = ap (λ (rs : List Released). length rs) a ∙ length-map (filter q cs) (released_of no_message) ∙ length-filter q cs in
    let answer = ap (λ (rs : List Released). length rs) c.deref-4.ensures.value in
    let messages = same-messages s cs c.acknowledge_answered.new.queue.inflight.chunks c.tell_anew.new.released.items a
    (ap (λ (o : Outbound). o.inflight.chunks) (marked p.After-acknowledge_answered t a)) in
    rw (← c.self.view_is) (omega (
      arith,
      walked p.After-tell_anew t,
      c.acknowledge_answered.ensures.cost,
      c.judge_each.ensures.cost,
      c.pop_run.ensures.cost,
      c.distance-count.ensures.value,
      all-reported t,
      n,
      answer,
      messages,
    ))
