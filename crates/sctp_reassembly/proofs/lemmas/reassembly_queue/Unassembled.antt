-- Unassembled fragments and their places.
use Rattle.std.proofs.Common.{◌≡◌, ℕ, List, length, ap, ap₂}
use Rattle.sctp_data.specs.declared.chunk.chunk_payload_data.ChunkPayloadData.{ChunkPayloadData}
use Rattle.sctp_reassembly.specs.reassembly_queue.Loose.{Unassembled}

-- equal ones have the same fragments, so many of them, and as many places
pub same_list : {p q : Unassembled} → p ≡ q → p.chunks ≡ q.chunks
same_list e = ap (λ (p : Unassembled). p.chunks) e

pub same_long : {p q : Unassembled} → p ≡ q → length p.chunks ≡ length q.chunks
same_long e = ap (λ (p : Unassembled). length p.chunks) e

pub same_places : {p q : Unassembled} → p ≡ q → p.places ≡ q.places
same_places e = ap (λ (p : Unassembled). p.places) e

-- and with both they are equal
pub same_parts : {xs ys : List ChunkPayloadData} {m n : ℕ} → xs ≡ ys → m ≡ n
    → (let p : Unassembled = record { chunks = xs; places = m } in p) ≡ record { chunks = ys; places = n }
same_parts e f = ap₂ (λ cs k. let p : Unassembled = record { chunks = cs; places = k } in p) e f
