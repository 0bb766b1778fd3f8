-- How many chunks sets have, as chunks come in.
use Rattle.std.proofs.Common.{◌≡◌, ◌+◌, Bool, true, false, if◌then◌else◌, Option, Some, None, is_some, option_map, List, [], ◌∷◌, length, ap, sym, refl, ◌∙◌}
use Rattle.std.proofs.Common.{arith}
use Rattle.std.proofs.lemmas.Bool.{true≢false}
use Rattle.std.specs.List.{list_any}
use Rattle.sctp_util.specs.Lists.{insert_before}
use Rattle.sctp_data.specs.declared.chunk.chunk_payload_data.ChunkPayloadData.{ChunkPayloadData}
use Rattle.sctp_data.specs.ChunkSet.{ChunkSet}
use Rattle.sctp_serial.specs.DataChunks.{has_tsn, chunk_before}
use Rattle.sctp_reassembly.specs.reassembly_queue.Fragments.{is_complete, with_chunk, answer_with}

length-inserted : {A : Type 0} (before : A → A → Bool) (x : A) (xs : List A) → length (insert_before before x xs) ≡ length xs + 1
length-inserted before x [] = refl
length-inserted {A = A} before x (e ∷ es) = at_head (before x e) (length-inserted before x es)
  where
    at_head : (b : Bool) → length (insert_before before x es) ≡ length es + 1
        → length (if b then x ∷ e ∷ es else e ∷ insert_before before x es) ≡ length (e ∷ es) + 1
    at_head true rec = omega arith
    at_head false rec = omega (arith, rec)

-- a chunk whose TSN was not there is one more
pub one_more : (x : ChunkPayloadData) (s : ChunkSet) (whole : Option Bool) → whole ≡ answer_with x s.chunks → is_some whole ≡ true
    → length (with_chunk x s).chunks ≡ length s.chunks + 1
one_more x s whole answer some = at_any (list_any (has_tsn x.tsn) s.chunks) answer
  where
    at_any : (b : Bool) → whole ≡ (if b then None else Some (is_complete (insert_before chunk_before x s.chunks)))
        → length (if b then s.chunks else insert_before chunk_before x s.chunks) ≡ length s.chunks + 1
    at_any true e = absurd (true≢false (sym some ∙ ap is_some e))
    at_any false e = length-inserted chunk_before x s.chunks

pub is_some-mapped : {A B : Type 0} (f : A → B) (o : Option A) → is_some (option_map f o) ≡ is_some o
is_some-mapped f None = refl
is_some-mapped f (Some x) = refl
