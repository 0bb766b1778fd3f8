use Rattle.std.proofs.Common.{◌≡◌, ℕ, ◌<◌, true, length}
use Rattle.std.specs.Prelude.{is_some}
use Rattle.sctp_association.proofs.inbound.Inbound.note_readable.Given as goal
use Rattle.sctp_association.specs.Brought.{AddsOnly}
use Rattle.sctp_association.specs.StreamSet.{is_in}
use Rattle.sctp_association.specs.Telling.{Stays}
use Rattle.sctp_receiver.specs.Receiver.{message_on}

-- the streams before this one are noted
abbrev pub invariant-loop-stream : goal.invariant-loop-stream
invariant-loop-stream l = record {
  noted : (s : ℕ) → s < l.stream → is_some (message_on s l.self.receiver) ≡ true → s < length l.initial.events.readable
      → is_in s l.events.readable ≡ true;
  rest : l.events ≡ record l.initial.events { readable = l.events.readable };
  room : length l.events.readable ≡ length l.initial.events.readable;
  readable : Stays l.initial.events.readable l.events.readable;
  only : AddsOnly (λ s. is_some (message_on s l.self.receiver) ≡ true) l.initial.events.readable l.events.readable;
}
