use Rattle.sctp_sender.proofs.Names.{◌≡◌, ◌+◌, ◌*◌, ◌≤◌, List, length, map, get_or, ap, sym, subst, ◌∙◌, arith, All, count_by, filter, length-map}
use Rattle.sctp_sender.proofs.Names.{length-filter, sack_of, ChunkPayloadData, following_tsn, Released, Flight, count_acked, is_outdated, sack_refusal}
use Rattle.sctp_sender.proofs.Names.{released_of, reports, reports_anew, IsOwn, AreInFlight, PicksAnew, is_answered, no_message}
use Rattle.sctp_sender.proofs.Answered.{answered-at, answered-in-flight}
use Rattle.sctp_sender.proofs.Covering.{both-ok, each-ok}
use Rattle.sctp_sender.proofs.SackCosts.{all-reported, few-known}
use Rattle.sctp_sender.proofs.Reported.{IsTaken, ends, picks}
use Rattle.sctp_sender.proofs.Runs.{any_chunk}
use Rattle.sctp_sender.proofs.Seen.{flight_in}
use Rattle.sctp_sender.proofs.sender.flight.InFlight.reported_anew.Goals.{After-deref-2, After-distance-count, After-tell_anew}
use Rattle.sctp_sender.proofs.sender.flight.InFlight.reported_anew.Goals as goal

taken : (c : After-distance-count) → IsTaken (sack_of c.args.sack.now) (flight_in c.self.inside) c.args.sorted.now
taken c =
    let s = sack_of c.args.sack.now in
    record {
      whole = c.self.invariant.contiguous;
      fits = c.distance-count.ensures.to_fits;
      none = ap (sack_refusal s) c.self.view_is ∙ c.requires.taken;
      current = ap (is_outdated s) c.self.view_is ∙ c.requires.current;
      are = c.requires.sorted;
    }

-- What is told.
told : (c : After-deref-2) → IsTaken (sack_of c.args.sack.now) (flight_in c.self.inside) c.args.sorted.now
    → c.deref-2.result.now ≡ map (released_of no_message) (filter (reports_anew (sack_of c.args.sack.now)) c.self.inside.queue.inflight.chunks)
told c t =
    let p = reports_anew (sack_of c.args.sack.now) in
    c.deref-2.ensures.value ∙ c.in_ok-tell_anew.ensures.answered p
    (subst (λ k. PicksAnew p k c.args.sorted.now c.self.inside.queue.inflight.chunks) (sym c.distance-count.ensures.value) (picks t))

-- How much that is.
many : (c : After-deref-2) → IsTaken (sack_of c.args.sack.now) (flight_in c.self.inside) c.args.sorted.now
    → length c.deref-2.result.now ≡ count_by (reports_anew (sack_of c.args.sack.now)) c.self.inside.queue.inflight.chunks
many c t =
    let p = reports_anew (sack_of c.args.sack.now) in
    let cs = c.self.inside.queue.inflight.chunks in
    ap length (told c t) ∙ length-map (filter p cs) (released_of no_message) ∙ length-filter p cs

-- What it has cost until then.
walked : (c : After-tell_anew) → IsTaken (sack_of c.args.sack.now) (flight_in c.self.inside) c.args.sorted.now
    → c.tell_anew.new.turns ≤ c.args.turns.now + length c.args.sorted.now
    + count_by (λ (c : ChunkPayloadData). c.acked) c.self.inside.queue.inflight.chunks
    + 2 * count_by (reports (sack_of c.args.sack.now)) c.self.inside.queue.inflight.chunks
walked c t =
    let few = few-known c.self.inside.known.items c.self.inside.queue.inflight.chunks c.self.invariant.ascend c.self.invariant.known in
    let k = ap length c.deref.ensures.value in
    omega (arith, all-reported t, few, k, c.distance-count.ensures.value, c.tell_anew.ensures.cost)

pub tell_anew-requires-clause-within : goal.tell_anew-requires-clause-within
tell_anew-requires-clause-within c =
    let t = taken (goal.at.tell_anew-requires-clause-within c).After-distance-count in
    λ n h. let e = ends t n h in omega (arith, e, c.distance-count.ensures.value)

pub shared_each-requires-clause-answered : goal.shared_each-requires-clause-answered
shared_each-requires-clause-answered c =
    let p = goal.at.shared_each-requires-clause-answered c in
    let cs = c.self.inside.queue.inflight.chunks in
    subst (λ (rs : List Released). AreInFlight rs cs) (sym (told p.After-deref-2 (taken p.After-distance-count)))
    (answered-in-flight (reports_anew (sack_of c.args.sack.now)) no_message cs cs (λ r h. h))

pub returns-clause-anew : goal.returns-clause-anew
returns-clause-anew c =
    let at = goal.at.returns-clause-anew c in
    let t = taken at.After-distance-count in
    let f : Flight = flight_in c.self.inside in
    let s = sack_of c.args.sack.now in
    let cs = f.queue.inflight.chunks in
    let p = reports_anew s in
    let n : c.distance-count.result ≡ count_acked s f = c.distance-count.ensures.value in
    rw (← c.self.view_is) (both-ok c.shared_each.result (λ anew own each.
    let owns : All (IsOwn (count_acked s f) cs) anew.items = subst (λ k. All (IsOwn k cs) anew.items) n own in
    record {
      own = owns;
      small = λ k d lt. let h = (owns k d lt any_chunk).0 in omega (arith, h, t.whole.few);
      each = λ k d lt.
          each k d (omega (arith, lt, n))
          ∙ ap (λ (rs : List Released). is_answered rs (get_or cs (c.distance-count.result + k) d)) (told at.After-deref-2 t)
          ∙ answered-at p no_message (following_tsn f.acked_tsn) cs (omega arith) t.whole.run t.whole.few (c.distance-count.result + k) d
          (omega (arith, lt, n))
          ∙ ap (λ j. p (get_or cs (j + k) d)) n;
    }) c.shared_each.ensures.own c.shared_each.ensures.each)

pub returns-clause-few : goal.returns-clause-few
returns-clause-few c =
    let p = goal.at.returns-clause-few c in
    let n = many p.After-deref-2 (taken p.After-distance-count) in
    rw (← c.self.view_is) (each-ok c.shared_each.result (λ anew few. omega (arith, few, n)) c.shared_each.ensures.few)

pub returns-in_err-tell_anew-clause-cost : goal.returns-in_err-tell_anew-clause-cost
returns-in_err-tell_anew-clause-cost c =
    let p = goal.at.returns-in_err-tell_anew-clause-cost c in
    rw (← c.self.view_is) (omega (arith, walked p.After-tell_anew (taken p.After-distance-count)))

pub returns-clause-cost : goal.returns-clause-cost
returns-clause-cost c =
    let p = goal.at.returns-clause-cost c in
    let t = taken p.After-distance-count in
    rw (← c.self.view_is) (omega (arith, walked p.After-tell_anew t, many p.After-deref-2 t, c.shared_each.ensures.cost))
