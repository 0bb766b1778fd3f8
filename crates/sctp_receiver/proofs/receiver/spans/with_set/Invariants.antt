use Rattle.sctp_receiver.proofs.Names.{ℕ, ◌≡◌, ◌<◌, false, Some, slice_get, ChunkPayloadData}
use Rattle.sctp_receiver.specs.Spans.{is_outside}
use Rattle.sctp_receiver.proofs.receiver.spans.with_set.Given as goal

abbrev pub invariant-loop-place : goal.invariant-loop-place
invariant-loop-place l = record {
  here : (k : ℕ) (x : ChunkPayloadData) → k < l.place → slice_get l.chunks k ≡ Some x → is_outside l.span x.tsn ≡ false;
  wider : (t : ℕ) → is_outside l.initial.span t ≡ false → is_outside l.span t ≡ false;
}
