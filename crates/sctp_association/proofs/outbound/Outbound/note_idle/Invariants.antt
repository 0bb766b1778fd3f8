use Rattle.std.proofs.Common.{◌≡◌}
use Rattle.sctp_association.specs.Sending.{lowered_times}
use Rattle.sctp_association.proofs.outbound.Outbound.note_idle.Given as goal

-- so many idle RTOs are taken into the window, and nothing else has changed
abbrev pub invariant-loop-step : goal.invariant-loop-step
invariant-loop-step l = l.self ≡ record l.initial.self { congestion = lowered_times l._step l.initial.self.congestion }
