-- The bytes of unassembled fragments, as they come and go.
use Rattle.std.proofs.Common.{◌≡◌, ℕ, ◌+◌, ◌<◌, ◌++◌, List, length, get_or, take, drop, ap, arith}
use Rattle.std.specs.List.{remove}
use Rattle.std.proofs.lemmas.List.{drop-drop}
use Rattle.std.proofs.lemmas.List.Sums.{sum_by-append, sum_by-remove, sum_by-take-drop}
use Rattle.sctp_data.specs.declared.chunk.chunk_payload_data.ChunkPayloadData.{ChunkPayloadData}
use Rattle.sctp_serial.specs.DataChunks.{bytes_of}

-- one is taken out
pub one_out : (xs ys : List ChunkPayloadData) (place : ℕ) (y : ChunkPayloadData) → place < length xs → ys ≡ remove xs place → y ≡ get_or xs place y
    → bytes_of xs ≡ length y.user_data + bytes_of ys
one_out xs ys place y lt rest read = omega (
  arith,
  ap bytes_of rest,
  ap (λ (c : ChunkPayloadData). length c.user_data) read,
  sum_by-remove (λ (c : ChunkPayloadData). length c.user_data) xs place y lt,
)

-- neighbours are taken out
pub some_out : (xs : List ChunkPayloadData) (first count : ℕ)
    → bytes_of xs ≡ bytes_of (take count (drop first xs)) + bytes_of (take first xs ++ drop (first + count) xs)
some_out xs first count =
    let around = sum_by-append (λ (c : ChunkPayloadData). length c.user_data) (take first xs) (drop (first + count) xs) in
    let behind = sum_by-take-drop (λ (c : ChunkPayloadData). length c.user_data) (drop first xs) count in
    let all = sum_by-take-drop (λ (c : ChunkPayloadData). length c.user_data) xs first in
    omega (arith, around, behind, all, ap bytes_of (drop-drop count first xs))
