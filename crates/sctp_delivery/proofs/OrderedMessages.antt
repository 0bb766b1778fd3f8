-- Ordered and unordered messages as a receiver holds and reads them, and a chunk whose number is not refused.
use Rattle.sctp_delivery.proofs.Names.{◌≡◌, ℕ, Bool, true, false, not, List, [], ◌∷◌, None, ◌==◌, ◌&&◌, nat_tests, arith, ChunkPayloadData, ChunkSet, Reception}
use Rattle.sctp_delivery.proofs.Names.{arrival_refusal, filter_of, stream_of, Message, is_too_far_on, has_come}
use Rattle.sctp_delivery.proofs.Every.{Every}

abbrev pub IsUnorderedSet : ChunkSet → Type 0
IsUnorderedSet set = Every (λ c. c.unordered ≡ true) set.chunks

abbrev pub starts_ordered : List ChunkPayloadData → Bool
starts_ordered [] = false
starts_ordered (c ∷ cs) = not c.unordered

-- on the stream, and ordered by its first fragment
abbrev pub is_in_order : ℕ → Message → Bool
is_in_order st m = (m.stream == st) && starts_ordered m.fragments

-- a new TSN whose number is not refused
pub not-far : (c : ChunkPayloadData) (r : Reception) → has_come c.tsn (filter_of r) ≡ false → arrival_refusal c r ≡ None
    → is_too_far_on c (stream_of c.stream_identifier r) ≡ false
not-far c r fresh e = grind (arith, nat_tests)
