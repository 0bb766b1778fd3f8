use Rattle.sctp_sender.proofs.Names.{sym, subst, arith, Outbound, following_tsn, Flight, IsContiguous, AreKnown, AreUnmarked}
use Rattle.sctp_sender.proofs.Seen.{flight_in}
use Rattle.sctp_sender.proofs.Undone.{again-contiguous, again-known, again-unmarked, own-tsns}
use Rattle.sctp_sender.proofs.sender.flight.InFlight.report_again_counted.Goals as goal

pub report_each_again-requires-clause-own : goal.report_each_again-requires-clause-own
report_each_again-requires-clause-own c =
    let f : Flight = flight_in c.self.inside in
    own-tsns (following_tsn f.acked_tsn) f.queue.inflight.chunks (omega arith) c.self.invariant.contiguous.run c.self.invariant.contiguous.few

pub invariant_of-self : goal.invariant_of-self
invariant_of-self c =
    let f : Flight = flight_in c.self.inside in
    let cs = f.queue.inflight.chunks in
    let ks = c.args.places.now in
    record {
      contiguous = subst (λ (o : Outbound). IsContiguous (record { queue = o; next_tsn = f.next_tsn; acked_tsn = f.acked_tsn }))
          (sym c.report_each_again.ensures.value) (again-contiguous ks f c.self.invariant.contiguous);
      ascend = c.self.invariant.ascend;
      known = subst (λ (o : Outbound). AreKnown c.self.inside.known.items o.inflight.chunks) (sym c.report_each_again.ensures.value)
          (again-known c.self.inside.known.items ks cs c.self.invariant.known);
      unmarked = subst (λ (o : Outbound). AreUnmarked c.self.inside.unmarked o.inflight.chunks) (sym c.report_each_again.ensures.value)
          (again-unmarked c.self.inside.unmarked ks cs c.self.invariant.unmarked);
    }
