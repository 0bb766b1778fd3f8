-- A message taken piece by piece.
use Rattle.std.specs.Prelude.{ℕ, ◌+◌, ◌-◌, nat_le, if◌then◌else◌, List, [], ◌∷◌, map, take, drop, length, Option, Some, None}
use Rattle.std.specs.List.{concat}
use Rattle.sctp_data.specs.declared.chunk.chunk_payload_data.ChunkPayloadData.{ChunkPayloadData}
use Rattle.sctp_reassembly.specs.declared.reassembly_queue.chunks.Chunk.{Chunk}
use Rattle.sctp_reassembly.specs.declared.reassembly_queue.chunks.Chunks.{Chunks}

-- the first list without so many elements
abbrev pub cut_first : ℕ → List (List ℕ) → List (List ℕ)
cut_first n [] = []
cut_first n (xs ∷ xss) = drop n xs ∷ xss

-- the bytes of each fragment from a place on
abbrev pub left_from : List ChunkPayloadData → ℕ → ℕ → List (List ℕ)
left_from chunks index offset = cut_first offset (map (λ c. c.user_data) (drop index chunks))

-- what wasn't taken yet
abbrev pub left_of : Chunks → List (List ℕ)
left_of c = left_from c.set.chunks c.index c.offset

-- the next piece: as many bytes as are asked for, or all; none where no fragment is left
abbrev pub piece_of : ℕ → List (List ℕ) → Option (List ℕ)
piece_of n [] = None
piece_of n (xs ∷ xss) = Some (take n (concat (xs ∷ xss)))

-- what is left behind the next piece
abbrev pub left_after : ℕ → List (List ℕ) → List (List ℕ)
left_after n [] = []
left_after n (xs ∷ xss) =
    if nat_le (length xs) n then left_after (n - length xs) xss else drop n xs ∷ xss

-- how many fragments the next piece takes to their end
abbrev pub taken_whole : ℕ → List (List ℕ) → ℕ
taken_whole n [] = 0
taken_whole n (xs ∷ xss) = if nat_le (length xs) n then taken_whole (n - length xs) xss + 1 else 0

-- the bytes of a piece
abbrev pub bytes_given : Option Chunk → List ℕ
bytes_given None = []
bytes_given (Some c) = c.bytes
