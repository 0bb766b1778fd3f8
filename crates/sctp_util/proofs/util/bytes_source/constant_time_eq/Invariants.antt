use Rattle.std.proofs.Common.{◌≡◌, ℕ, ◌<◌, true, false, get_or}
use Rattle.sctp_util.proofs.util.bytes_source.constant_time_eq.Given as goal

abbrev pub invariant-loop-i : goal.invariant-loop-i
invariant-loop-i l = record {
  same : l.same ≡ true → (k : ℕ) → k < l.i → get_or l.a k 0 ≡ get_or l.b k 0;
  differ : l.same ≡ false → l.a ≡ l.b → ⊥;
}
