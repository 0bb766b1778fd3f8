-- A fragment put among the unassembled ones, and a run taken out of them, are taken back.
use Rattle.std.proofs.Common.{◌≡◌, ℕ, zero, suc, ◌+◌, ◌≤◌, List, [], ◌∷◌, ◌++◌, length, max, take, drop, length-append, length-take-le, sym, ap, ap₂, subst}
use Rattle.std.proofs.Common.{◌∙◌, arith}
use Rattle.std.specs.List.{insert, remove}
use Rattle.std.proofs.lemmas.List.{take-append-drop}
use Rattle.std.proofs.lemmas.List.Edits.{length-insert}
use Rattle.sctp_data.specs.declared.chunk.chunk_payload_data.ChunkPayloadData.{ChunkPayloadData}
use Rattle.sctp_serial.proofs.lemmas.ListEdits.{remove-insert}
use Rattle.sctp_reassembly.specs.declared.reassembly_queue.unassembled.InsertionUndo.{InsertionUndo}
use Rattle.sctp_reassembly.specs.reassembly_queue.Loose.{Unassembled, with_one, with_chunks}
use Rattle.sctp_reassembly.specs.reassembly_queue.PoolUndo.{put_back, insertion_undone, IsNoted, CanUndoInsertion}
use Rattle.sctp_reassembly.proofs.lemmas.reassembly_queue.Unassembled.{same_list, same_long, same_places, same_parts}

-- neighbours that were taken out, put back
pub put_back_taken : (f n : ℕ) (xs : List ChunkPayloadData)
    → f + n ≤ length xs → put_back f (take n (drop f xs)) (take f xs ++ drop (f + n) xs) ≡ xs
put_back_taken zero n xs le = ap (λ i. take n xs ++ drop i xs) {x = 0 + n} {y = n} (omega arith) ∙ take-append-drop n xs
put_back_taken (suc f) n [] le = absurd (omega arith)
put_back_taken (suc f) n (x ∷ xs) le =
    let behind : drop (suc f + n) (x ∷ xs) ≡ drop (f + n) xs = ap (λ i. drop i (x ∷ xs)) {x = suc f + n} {y = suc (f + n)} (omega arith) in
    ap (λ rest. put_back (suc f) (take n (drop f xs)) (x ∷ take f xs ++ rest)) behind ∙ ap (λ ys. x ∷ ys) (put_back_taken f n xs (omega (arith, le)))

pub put_back_long : (f : ℕ) (ks xs : List ChunkPayloadData) → length (put_back f ks xs) ≡ length xs + length ks
put_back_long f ks xs =
    let behind = length-append (take f xs ++ ks) (drop f xs) in
    let front = length-append (take f xs) ks in
    omega (arith, behind, front, length-append (take f xs) (drop f xs), ap length (take-append-drop f xs))

-- what the undo makes of the fragments, and that it can
pub record Undoes (u : InsertionUndo) (ks : List ChunkPayloadData) (old new : Unassembled) : Type 0 where
  pub done : insertion_undone u ks new ≡ old
  pub can : CanUndoInsertion u ks new

undoes : (u : InsertionUndo) (ks : List ChunkPayloadData) (old new : Unassembled) (x : ChunkPayloadData)
    → IsNoted u.flags old → u.place ≤ length old.chunks → u.first ≤ length new.chunks
    → put_back u.first ks new.chunks ≡ insert old.chunks u.place x
    → new.places ≡ max old.places (length old.chunks + 1) → Undoes u ks old new
undoes u ks old new x noted within first back places =
    let done : insertion_undone u ks new ≡ old =
    same_parts (ap (λ ys. remove ys u.place) back ∙ remove-insert old.chunks u.place x within) noted.places in
    let whole : length new.chunks + length ks ≡ length old.chunks + 1 =
    omega (arith, put_back_long u.first ks new.chunks, ap length back, length-insert old.chunks u.place x within) in
    record {
      done = done;
      can = record {
        first = first;
        place = omega (arith, whole, within);
        room = omega (arith, whole, places);
        fewer = omega (arith, noted.places, places);
        noted = subst (IsNoted u.flags) (sym done) noted;
      };
    }

-- one was put in
pub one_undone : (v u : InsertionUndo) (ks : List ChunkPayloadData) (old new : Unassembled) (x : ChunkPayloadData)
    → v ≡ u → u.first ≡ 0 → ks ≡ [] → IsNoted u.flags old → u.place ≤ length old.chunks → new ≡ with_one u.place x old → Undoes v ks old new
one_undone v u ks old new x same front none noted within put =
    let back = ap₂ (λ f ls. put_back f ls new.chunks) front none ∙ same_list put in
    subst (λ w. Undoes w ks old new) (sym same) (undoes u ks old new x noted within (omega (arith, front)) back (same_places put))

-- and a run was taken out then
pub run_undone : (v u : InsertionUndo) (ks : List ChunkPayloadData) (old mid new : Unassembled) (x : ChunkPayloadData) (n : ℕ)
    → v ≡ u → ks ≡ take n (drop u.first mid.chunks) → u.first + n ≤ length mid.chunks
    → IsNoted u.flags old → u.place ≤ length old.chunks → mid ≡ with_one u.place x old
    → new ≡ with_chunks mid (take u.first mid.chunks ++ drop (u.first + n) mid.chunks) → Undoes v ks old new
run_undone v u ks old mid new x n same kept in_range noted within put taken =
    let xs = mid.chunks in
    let back = ap₂ (λ ls ys. put_back u.first ls ys) kept (same_list taken) ∙ put_back_taken u.first n xs in_range ∙ same_list put in
    let front = length-take-le u.first xs (omega (arith, in_range)) in
    let first : u.first ≤ length new.chunks =
    omega (arith, in_range, same_long taken, length-append (take u.first xs) (drop (u.first + n) xs), front) in
    subst (λ w. Undoes w ks old new) (sym same) (undoes u ks old new x noted within first back (same_places taken ∙ same_places put))
