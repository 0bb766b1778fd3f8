use Rattle.std.proofs.Common.{◌≡◌, ◌++◌, drop}
use Rattle.sctp_capture.specs.Record.{digits_in}
use Rattle.sctp_capture.proofs.record.digits_of.Given as goal

abbrev pub invariant-loop-byte : goal.invariant-loop-byte
invariant-loop-byte l = digits_in l.line ≡ l.digits.items ++ digits_in (drop l.byte-index l.line)
