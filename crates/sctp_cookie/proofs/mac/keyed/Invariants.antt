use Rattle.std.proofs.Common.{◌≡◌, ◌++◌, map, take, drop}
use Rattle.std.specs.Int.RustNames.{bit_xor}
use Rattle.sctp_cookie.proofs.mac.keyed.Given as goal

abbrev pub invariant-loop-byte : goal.invariant-loop-byte
invariant-loop-byte l = l.byte-items ≡ map (λ byte. bit_xor byte l.pad) (take l.byte-index l.key) ++ drop l.byte-index l.key
