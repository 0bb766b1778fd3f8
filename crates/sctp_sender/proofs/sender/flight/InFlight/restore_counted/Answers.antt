use Rattle.sctp_sender.proofs.Names.{◌≡◌, ◌≤◌, length, map, get_or, true, List, [], refl, ap, sym, subst, ◌∙◌, arith, All, GapAckBlock, Outbound, Flight}
use Rattle.sctp_sender.proofs.Names.{IsContiguous, can_resend, back_each, answered_back, placed, answered_of_placed, with_restored, TakenBack, same-is}
use Rattle.sctp_sender.proofs.Names.{AreKnown, ascends_from, AreUnmarked}
use Rattle.sctp_sender.proofs.Placed.{back-length, nil-of, placed-answer, put-contiguous, put-restored}
use Rattle.sctp_sender.proofs.Runs.{any_chunk}
use Rattle.sctp_sender.proofs.TakenBacks.{outstanding}
use Rattle.sctp_sender.proofs.Known.{none-known}
use Rattle.sctp_sender.proofs.Seen.{flight_in}
use Rattle.sctp_sender.proofs.Unmarked.{put-unmarked}
use Rattle.sctp_sender.proofs.sender.flight.InFlight.restore_counted.Goals as goal

pub invariant_of-self : goal.invariant_of-self
invariant_of-self c =
    let f : Flight = flight_in c.self.inside in
    record {
      contiguous = subst (λ (o : Outbound). IsContiguous (record { queue = o; next_tsn = f.next_tsn; acked_tsn = f.acked_tsn }))
          (sym c.restore_each.ensures.value) (put-contiguous c.args.backs.items f c.self.invariant.contiguous);
      ascend = ap (ascends_from 0) c.clear.ensures.items;
      known = subst (λ (bs : List GapAckBlock). AreKnown bs c.restore_each.new.queue.inflight.chunks) (sym c.clear.ensures.items)
          (none-known c.restore_each.new.queue.inflight.chunks);
      unmarked = subst (λ (o : Outbound). AreUnmarked c.self.inside.unmarked o.inflight.chunks) (sym c.restore_each.ensures.value)
          (put-unmarked c.self.inside.unmarked c.args.backs.items f.queue.inflight.chunks c.self.invariant.unmarked);
    }

pub returns-then-is_empty-clause-restored : goal.returns-then-is_empty-clause-restored
returns-then-is_empty-clause-restored c = λ bs is le.
    let none : c.args.backs.items ≡ [] = nil-of c.args.backs.items (sym c.args.backs.ok.0 ∙ same-is _ 0 (sym c.is_empty.ensures ∙ c.if-is_empty.true)) in
    put-restored c.args.self.now [] bs (sym none ∙ is) le

pub returns-then-is_empty-clause-outstanding : goal.returns-then-is_empty-clause-outstanding
returns-then-is_empty-clause-outstanding c = λ s ks is.
    let none : c.args.backs.items ≡ [] = nil-of c.args.backs.items (sym c.args.backs.ok.0 ∙ same-is _ 0 (sym c.is_empty.ensures ∙ c.if-is_empty.true)) in
    let cs = c.args.self.now.queue.inflight.chunks in
    let bs = back_each s cs ks in
    let answer : answered_back bs cs ≡ [] = sym (placed-answer 0 bs cs any_chunk (let le = back-length s cs ks in omega (arith, le)))
    ∙ ap (map (λ b. answered_of_placed b (get_or cs b.place any_chunk))) (sym is ∙ none) in
    let n = ap length answer in
    λ k d lt. absurd (omega (arith, n, lt))

pub returns-clause-restored : goal.returns-clause-restored
returns-clause-restored c = λ bs is le.
    let f : Flight = flight_in c.self.inside in
    let short : length bs ≤ length f.queue.inflight.chunks = subst (λ (g : Flight). length bs ≤ length g.queue.inflight.chunks) (sym c.self.view_is) le in
    ap (λ (o : Outbound). let g : Flight = record f { queue = o } in g) c.restore_each.ensures.value ∙ put-restored f c.args.backs.items bs is short
    ∙ ap (with_restored bs) c.self.view_is

pub returns-clause-outstanding : goal.returns-clause-outstanding
returns-clause-outstanding c = λ s ks is.
    let f : Flight = flight_in c.self.inside in
    let g : Flight = record f { queue = c.restore_each.new.queue } in
    let cs = f.queue.inflight.chunks in
    let bs = back_each s cs ks in
    let here : c.args.backs.items ≡ placed 0 bs = is ∙ ap (λ (h : Flight). placed 0 (back_each s h.queue.inflight.chunks ks)) (sym c.self.view_is) in
    let new : with_restored bs f ≡ g = sym (ap (λ (o : Outbound). let h : Flight = record f { queue = o } in h) c.restore_each.ensures.value
    ∙ put-restored f c.args.backs.items bs here (back-length s cs ks)) in
    let all = subst (λ (h : Flight). All (λ (b : TakenBack). can_resend b.tsn h ≡ true) (answered_back bs cs)) new
    (outstanding s f c.self.invariant.contiguous ks bs refl) in
    subst (λ (h : Flight). All (λ (b : TakenBack). can_resend b.tsn g ≡ true) (answered_back (back_each s h.queue.inflight.chunks ks) h.queue.inflight.chunks))
    c.self.view_is all

pub returns-then-is_empty-clause-cost : goal.returns-then-is_empty-clause-cost
returns-then-is_empty-clause-cost c =
    let none : c.args.backs.items ≡ [] = nil-of c.args.backs.items (sym c.args.backs.ok.0 ∙ same-is _ 0 (sym c.is_empty.ensures ∙ c.if-is_empty.true)) in
    let n = ap length none in omega (arith, n)
