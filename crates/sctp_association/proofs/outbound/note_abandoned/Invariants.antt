use Rattle.std.proofs.Common.{◌≡◌, length, take, true}
use Rattle.std.specs.List.{list_any}
use Rattle.sctp_association.specs.Brought.{AddsOnly}
use Rattle.sctp_association.specs.Lows.{PutsAll}
use Rattle.sctp_association.specs.Telling.{Stays}
use Rattle.sctp_sender.specs.Thresholds.{tells_message_low}
use Rattle.sctp_association.proofs.outbound.note_abandoned.Given as goal

-- what waited waits still, and those are in the set that were looked at and tell so
abbrev pub invariant-loop-one : goal.invariant-loop-one
invariant-loop-one l = record {
  stays : Stays l.initial.low l.low;
  told : PutsAll (λ s. list_any (tells_message_low s) (take l.one-index l.gone)) l.initial.low l.low;
  only : AddsOnly (λ s. list_any (tells_message_low s) (take l.one-index l.gone) ≡ true) l.initial.low l.low;
  room : length l.low ≡ length l.initial.low;
}
