use Rattle.std.proofs.Common.{IsTrue, subst}
use Rattle.sctp_serial.specs.Window.{IsWindow, is_new}
use Rattle.sctp_outbound.proofs.lemmas.payload_queue.Ends.{new_window}
use Rattle.sctp_outbound.proofs.payload_queue.PayloadQueue.fits.Goals as goal

pub returns-then-are_within_half-clause-yes : goal.returns-then-are_within_half-clause-yes
returns-then-are_within_half-clause-yes c _ =
    subst (λ q. IsTrue (is_new q.chunks c.args.tsn c.args.cumulative_tsn) → IsWindow c.args.cumulative_tsn q.chunks c.args.tsn) c.self.view_is
    (new_window c.self.inside.held.chunks c.args.cumulative_tsn c.args.tsn c.ranges.cumulative_tsn.fits c.ranges.tsn.fits
    (c.are_within_half.ensures.yes c.if-are_within_half.true))
