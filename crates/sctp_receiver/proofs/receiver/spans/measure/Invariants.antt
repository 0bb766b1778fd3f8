use Rattle.sctp_receiver.proofs.Names.{ℕ, ◌≡◌, ◌+◌, ◌<◌, Some, slice_get, ChunkSet}
use Rattle.sctp_receiver.proofs.Spans.{IsMeasured}
use Rattle.sctp_receiver.proofs.receiver.spans.measure.Given as goal

abbrev pub invariant-loop-place : goal.invariant-loop-place
invariant-loop-place l = record {
  here : (k : ℕ) (s : ChunkSet) → k < l.place → slice_get l.sets.items k ≡ Some s → IsMeasured l.span l.all s;
  turns : l.skips ≡ l.initial.skips + l.place;
}
