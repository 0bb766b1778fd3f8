use Rattle.std.proofs.Common.{◌≡◌, ℕ, ◌+◌, ◌-◌, ◌≤◌, length, drop}
use Rattle.std.specs.List.{concat}
use Rattle.sctp_util.specs.Sources.{used_up}
use Rattle.sctp_util.proofs.util.bytes_source.first_filled.Given as goal

abbrev pub invariant-loop-place : goal.invariant-loop-place
invariant-loop-place l = record {
  in_range : l.place ≤ length l.chunks;
  onwards : l.from ≤ l.place;
  skipped : concat (drop l.place l.chunks) ≡ concat (drop l.from l.chunks);
  used : (limit : ℕ) → used_up limit (drop l.from l.chunks) ≡ (l.place - l.from) + used_up limit (drop l.place l.chunks);
}

abbrev pub decreases-loop-place : goal.decreases-loop-place
decreases-loop-place l = length l.chunks - l.place
