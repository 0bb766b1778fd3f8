use Rattle.sctp_sender.proofs.Names.{◌≡◌, ◌+◌, ◌<◌, ◌≤◌, ◌^◌, ℕ, length, slice_index_or, PlacedData}
use Rattle.sctp_sender.proofs.sender.flight.anew.places_of.Given as goal

abbrev pub invariant-loop-one : goal.invariant-loop-one
invariant-loop-one l = record {
  all : (k : ℕ) (d : PlacedData) → k < l.one-index → k < length l.chunks → (slice_index_or l.chunks k d).place < l.places;
  top : l.one-index ≤ length l.chunks;
  turns : l.turns ≡ l.initial.turns + l.one-index;
  small : l.places ≤ 2 ^ 31;
}
