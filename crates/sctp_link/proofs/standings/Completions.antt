-- Several DATA chunks, one after another, and the numbers of the messages that they complete.
use Rattle.std.proofs.Common.{◌≡◌, ℕ, suc, ◌<◌, List, [], ◌∷◌, ◌++◌, length, Bool, true, false, refl, ap, ◌∙◌, arith}
use Rattle.std.specs.Prelude.{◌&&◌, if◌then◌else◌, slice_index_or}
use Rattle.sctp_util.specs.Lists.{change_where}
use Rattle.sctp_data.specs.declared.chunk.chunk_payload_data.ChunkPayloadData.{ChunkPayloadData}
use Rattle.sctp_receiver.specs.declared.receiver.arrival.Arrival.{Arrival}
use Rattle.sctp_receiver.specs.Receiver.{Reception, TakesEach, is_answered_complete}
use Rattle.sctp_link.specs.Progress.{Standing, has_number, numbers_of, with_complete, after_one, after_each}

-- one more is answered
pub each-next : (cs : List ChunkPayloadData) (ns : List ℕ) (bs : List Arrival) (c : ChunkPayloadData) (b : Arrival) (ps : List Standing) → length cs ≡ length bs
    → length cs < length ns → after_each (cs ++ c ∷ []) ns (bs ++ b ∷ []) ps ≡ after_one c (slice_index_or ns (length cs) 0) b (after_each cs ns bs ps)
each-next [] [] bs c b ps same lt = absurd (omega (arith, lt))
each-next [] (n ∷ ns) [] c b ps same lt = refl
each-next [] (n ∷ ns) (d ∷ bs) c b ps same lt = absurd (omega (arith, same))
each-next (e ∷ cs) [] bs c b ps same lt = absurd (omega (arith, lt))
each-next (e ∷ cs) (n ∷ ns) [] c b ps same lt = absurd (omega (arith, same))
each-next (e ∷ cs) (n ∷ ns) (d ∷ bs) c b ps same lt = each-next cs ns bs c b (after_one e n d ps) (omega (arith, same)) (omega (arith, lt))

-- each chunk has its answer
pub answered : (cs : List ChunkPayloadData) (bs : List Arrival) (r s : Reception) → TakesEach cs bs r s → length bs ≡ length cs
answered [] [] r s t = refl
answered [] (b ∷ bs) r s t = absurd t
answered (c ∷ cs) [] r s t = absurd t
answered (c ∷ cs) (b ∷ bs) r s t = ap suc (answered cs bs t.0 s t.1.1)

-- a message became complete, or none did
pub one-complete : (c : ChunkPayloadData) (n : ℕ) (b : Arrival) (ps : List Standing) → (is_answered_complete b && c.unordered) ≡ true
    → after_one c n b ps ≡ change_where (has_number c.stream_identifier) (with_complete n) ps
one-complete c n b ps e = ap (λ t. if t then change_where (has_number c.stream_identifier) (with_complete n) ps else ps) e

pub one-more : (c : ChunkPayloadData) (n : ℕ) (b : Arrival) (ps : List Standing) → (is_answered_complete b && c.unordered) ≡ false → after_one c n b ps ≡ ps
one-more c n b ps e = ap (λ t. if t then change_where (has_number c.stream_identifier) (with_complete n) ps else ps) e

-- on a stream that is not open nothing is recorded
pub one-absent : (c : ChunkPayloadData) (n : ℕ) (b : Arrival) (ps : List Standing) → ps ≡ change_where (has_number c.stream_identifier) (with_complete n) ps
    → ps ≡ after_one c n b ps
one-absent c n b ps e = by (is_answered_complete b && c.unordered)
  where
    by : (t : Bool) → ps ≡ (if t then change_where (has_number c.stream_identifier) (with_complete n) ps else ps)
    by true = e
    by false = refl

-- the numbers of the streams stay
changed-numbers : (s n : ℕ) (ps : List Standing) → numbers_of (change_where (has_number s) (with_complete n) ps) ≡ numbers_of ps
changed-numbers s n [] = refl
changed-numbers s n (p ∷ ps) = ap (λ m. m ∷ numbers_of (change_where (has_number s) (with_complete n) ps)) (by (has_number s p))
    ∙ ap (λ ms. p.number ∷ ms) (changed-numbers s n ps)
  where
    by : (b : Bool) → (if b then with_complete n p else p).number ≡ p.number
    by true = refl
    by false = refl

pub one-numbers : (c : ChunkPayloadData) (n : ℕ) (b : Arrival) (ps : List Standing) → numbers_of (after_one c n b ps) ≡ numbers_of ps
one-numbers c n b ps = by (is_answered_complete b && c.unordered)
  where
    by : (t : Bool) → numbers_of (if t then change_where (has_number c.stream_identifier) (with_complete n) ps else ps) ≡ numbers_of ps
    by true = changed-numbers c.stream_identifier n ps
    by false = refl

pub each-numbers : (cs : List ChunkPayloadData) (ns : List ℕ) (bs : List Arrival) (ps : List Standing) → numbers_of (after_each cs ns bs ps) ≡ numbers_of ps
each-numbers [] ns bs ps = refl
each-numbers (c ∷ cs) [] bs ps = refl
each-numbers (c ∷ cs) (n ∷ ns) [] ps = refl
each-numbers (c ∷ cs) (n ∷ ns) (b ∷ bs) ps = each-numbers cs ns bs (after_one c n b ps) ∙ one-numbers c n b ps
