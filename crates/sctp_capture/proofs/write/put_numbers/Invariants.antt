use Rattle.std.proofs.Common.{◌≡◌, ◌++◌, take, flat_map}
use Rattle.sctp_util.specs.Field.{le32}
use Rattle.sctp_capture.proofs.write.put_numbers.Given as goal

abbrev pub invariant-loop-number : goal.invariant-loop-number
invariant-loop-number l = l.block.items ≡ l.initial.block.items ++ flat_map le32 (take l.number-index l.numbers)
