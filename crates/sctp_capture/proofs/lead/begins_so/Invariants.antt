use Rattle.std.proofs.Common.{◌≡◌, ℕ, ◌<◌, true, slice_index}
use Rattle.sctp_capture.specs.Lead.{fits}
use Rattle.sctp_capture.proofs.lead.begins_so.Given as goal

abbrev pub invariant-loop-i : goal.invariant-loop-i
invariant-loop-i l = (k : ℕ) → k < l.i → fits (slice_index l.pattern k) (slice_index l.line k) ≡ true
