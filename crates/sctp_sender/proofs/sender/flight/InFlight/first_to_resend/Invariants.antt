use Rattle.sctp_sender.proofs.Names.{◌≡◌, drop, find, is_to_resend}
use Rattle.sctp_sender.proofs.sender.flight.InFlight.first_to_resend.Given as goal

abbrev pub invariant-loop-place : goal.invariant-loop-place
invariant-loop-place l = find is_to_resend l.self.queue.inflight.chunks ≡ find is_to_resend (drop l.place l.self.queue.inflight.chunks)
