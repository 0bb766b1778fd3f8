use Rattle.std.proofs.Common.{◌≡◌, length, take, true}
use Rattle.std.specs.List.{list_any}
use Rattle.sctp_association.specs.Brought.{AddsOnly}
use Rattle.sctp_association.specs.Lows.{PutsAll}
use Rattle.sctp_association.specs.Telling.{Stays}
use Rattle.sctp_sender.specs.Thresholds.{tells_low}
use Rattle.sctp_association.proofs.outbound.acks.note_low.Given as goal

-- what waited waits still, and else what those tell that were looked at, all of them
abbrev pub invariant-loop-one : goal.invariant-loop-one
invariant-loop-one l = record {
  stays : Stays l.initial.low l.low;
  only : AddsOnly (λ n. list_any (tells_low n) (take l.one-index l.released) ≡ true) l.initial.low l.low;
  told : PutsAll (λ n. list_any (tells_low n) (take l.one-index l.released)) l.initial.low l.low;
  room : length l.low ≡ length l.initial.low;
}
