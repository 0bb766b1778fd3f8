-- What is in flight: a chunk looked up, marks that the record does not know, and room for the next TSN.
use Rattle.sctp_model.proofs.Names.{◌≡◌, ℕ, zero, suc, ◌+◌, ◌<◌, ◌≤◌, ◌^◌, Bool, true, false, List, [], ◌∷◌, map, Some, refl, ap, arith, ◌==◌, find, nat_tests}
use Rattle.sctp_model.proofs.Names.{numbers_where, always, change_where, ChunkPayloadData, data_of, has_tsn, Outbound, with_inflight, LinkRecord, tsn_of}
use Rattle.sctp_model.proofs.Names.{chunk_at, is_cleared, Sending, sending_of, sending_at, RefinesOutbound}
use Rattle.sctp_outbound.specs.Marks.{with_nsent}

abbrev pub head_of : List Sending → Sending → Sending
head_of [] d = d
head_of (s ∷ ss) d = s

abbrev pub tail_of : List Sending → List Sending
tail_of [] = []
tail_of (s ∷ ss) = ss

-- ## A chunk looked up

pub record Found (w : LinkRecord) (p : ℕ) (cs : List ChunkPayloadData) : Type 0 where
  pub chunk : ChunkPayloadData
  pub is : find (has_tsn (tsn_of w p)) cs ≡ Some chunk
  pub says : sending_of chunk ≡ sending_at w p

pub found-in : (w : LinkRecord) (p : ℕ) → p < 2 ^ 31 → (cs : List ChunkPayloadData) (from count : ℕ) → from + count ≤ 2 ^ 31 → from ≤ p → p < from + count
    → map sending_of cs ≡ map (sending_at w) (numbers_where always from count) → Found w p cs
found-in w p short [] from zero le low high e = absurd (omega arith)
found-in w p short [] from (suc count) le low high e = cc
found-in w p short (c ∷ cs) from zero le low high e = absurd (omega arith)
found-in w p short (c ∷ cs) from (suc count) le low high e =
    by (from == p) refl (λ ne. found-in w p short cs (from + 1) count (omega (arith, le)) (omega (arith, low, ne)) (omega (arith, high)) (ap tail_of e))
  where
    by : (b : Bool) → (from == p) ≡ b → ((from ≡ p → ⊥) → Found w p cs) → Found w p (c ∷ cs)
    by true h ih = grind (arith, nat_tests)
    by false h ih = grind (arith, nat_tests)

-- a chunk that may leave again says what its slot does
pub says-same : (w : LinkRecord) (p : ℕ) (c : ChunkPayloadData) → sending_of c ≡ sending_at w p → is_cleared w p ≡ false → data_of c ≡ data_of (chunk_at w p)
says-same w p c e clear = grind (arith, nat_tests)

-- ## Marks that the record does not know

pub marked-quiet : (t : ChunkPayloadData → Bool) (f : ChunkPayloadData → ChunkPayloadData) → ((c : ChunkPayloadData) → sending_of (f c) ≡ sending_of c)
    → (cs : List ChunkPayloadData) → map sending_of (change_where t f cs) ≡ map sending_of cs
marked-quiet t f same [] = refl
marked-quiet t f same (c ∷ cs) = grind (arith, nat_tests, marked-quiet t f same cs)

pub refines-marked : (w : LinkRecord) (q : Outbound) (t : ChunkPayloadData → Bool) (f : ChunkPayloadData → ChunkPayloadData) → ((c : ChunkPayloadData)
    → sending_of (f c) ≡ sending_of c) → RefinesOutbound w q → RefinesOutbound w (with_inflight q (change_where t f q.inflight.chunks))
refines-marked w q t f same h = grind (arith, nat_tests, marked-quiet)

pub nsent-quiet : (n : ℕ) (c : ChunkPayloadData) → sending_of (with_nsent n c) ≡ sending_of c
nsent-quiet n c = refl
