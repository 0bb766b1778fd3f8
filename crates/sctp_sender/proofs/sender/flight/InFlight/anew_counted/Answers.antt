use Rattle.sctp_sender.proofs.Names.{length, ap, subst, ◌∙◌, arith, Sack, sack_of, to_sort, is_outdated, sack_refusal, AreSorted}
use Rattle.sctp_sender.proofs.Reported.{IsTaken}
use Rattle.sctp_sender.proofs.SackCosts.{all-reported}
use Rattle.sctp_sender.proofs.Seen.{flight_in}
use Rattle.sctp_sender.proofs.sender.flight.InFlight.anew_counted.Goals as goal

pub returns-clause-cost : goal.returns-clause-cost
returns-clause-cost c = λ known.
    let after = c.reported_after.ensures.cost known in
    let n = ap length c.deref.ensures.value in
    let m = ap to_sort c.deref.ensures.value in
    let k = ap length c.deref-2.ensures.value in
    omega (arith, after, n, m, k, c.sorted_blocks.ensures.cost, c.in_ok-sorted.ensures.few, c.reported_anew.ensures.cost)

pub returns-clause-passed : goal.returns-clause-passed
returns-clause-passed c =
    let s : Sack = sack_of c.args.sack.now in
    let t : IsTaken s (flight_in c.self.inside) c.in_ok-sorted.sorted.items = record {
      whole = c.self.invariant.contiguous;
      fits = c.distance-count.ensures.to_fits;
      none = ap (sack_refusal s) c.self.view_is ∙ c.requires.taken;
      current = ap (is_outdated s) c.self.view_is ∙ c.requires.current;
      are = subst (AreSorted c.in_ok-sorted.sorted.items) c.deref.ensures.value c.in_ok-sorted.ensures.ok;
    } in
    rw (← c.self.view_is) (omega (arith, all-reported t, c.distance-count.ensures.value))
