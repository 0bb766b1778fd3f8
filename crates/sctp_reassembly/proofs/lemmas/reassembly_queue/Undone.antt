-- What is put among sets, and taken out again.
use Rattle.std.proofs.Common.{◌≡◌, ℕ, zero, suc, ◌-◌, ◌<◌, ◌++◌, remove, append-nil, length-append, Option, Some, None, MatchOption, List, [], ◌∷◌, length}
use Rattle.std.proofs.Common.{get_or, set, refl, sym, ap, subst, ◌∙◌, arith}
use Rattle.std.proofs.lemmas.List.{set-get_or, get_or-set_same}
use Rattle.sctp_util.specs.Lists.{change_at}
use Rattle.sctp_serial.proofs.lemmas.ListEdits.{remove_seam}
use Rattle.sctp_data.specs.ChunkSet.{ChunkSet}
use Rattle.sctp_reassembly.specs.declared.reassembly_queue.chunks.Placed.{Placed}
use Rattle.sctp_reassembly.specs.reassembly_queue.Fragments.{without_chunk}
use Rattle.sctp_reassembly.specs.reassembly_queue.Undo.{last_chunks}

-- a change at a place writes what it makes of the element there
pub changed-set : {X : Type 0} (f : X → X) (i : ℕ) (xs : List X) (d : X) → change_at f i xs ≡ set xs i (f (get_or xs i d))
changed-set f i [] d = refl
changed-set f zero (x ∷ xs) d = refl
changed-set f (suc i) (x ∷ xs) d = ap (λ ys. x ∷ ys) (changed-set f i xs d)

-- what was written at a place is changed back
pub changed-back : {X : Type 0} (f : X → X) (i : ℕ) (xs : List X) (y d : X) → i < length xs → f y ≡ get_or xs i d
    → change_at f i (set xs i y) ≡ xs
changed-back f i [] y d lt e = refl
changed-back f zero (x ∷ xs) y d lt e = ap (λ z. z ∷ xs) e
changed-back f (suc i) (x ∷ xs) y d lt e = ap (λ ys. x ∷ ys) (changed-back f i xs y d (omega arith) e)

-- what stood at a place before is what a change makes of what stands there
pub stood-there : {X : Type 0} (f : X → X) (i : ℕ) (xs ys : List X) (d : X) → i < length ys → change_at f i ys ≡ xs → get_or xs i d ≡ f (get_or ys i d)
stood-there f i xs ys d lt back =
    ap (λ zs. get_or zs i d) (sym back ∙ changed-set f i ys d) ∙ get_or-set_same ys i (f (get_or ys i d)) d lt

-- a chunk that can be taken out of a set can be taken out of that set among others
pub among_others : (xs : List ChunkSet) (i : ℕ) (old new : ChunkSet) (put : Option Placed) → i < length xs → old ≡ get_or xs i old
    → MatchOption put (new ≡ old) (λ p. (p.place < length new.chunks) × (without_chunk p.place new ≡ old))
    → MatchOption put (set xs i new ≡ xs) (λ p. ((d : ChunkSet) → p.place < length (get_or (set xs i new) i d).chunks)
    × (change_at (without_chunk p.place) i (set xs i new) ≡ xs))
among_others xs i old new None lt read same = ap (set xs i) (same ∙ read) ∙ set-get_or xs i old
among_others xs i old new (Some p) lt read (short, back) = (
  (λ d. subst (λ (s : ChunkSet). p.place < length s.chunks) (sym (get_or-set_same xs i new d lt)) short),
  changed-back (without_chunk p.place) i xs new old lt (back ∙ read),
)

-- the fragments of the last set
pub last_there : (xs : List ChunkSet) (y : ChunkSet) → last_chunks (xs ++ y ∷ []) ≡ y.chunks
last_there [] y = refl
last_there (x ∷ []) y = refl
last_there (x ∷ z ∷ xs) y = last_there (z ∷ xs) y

-- what came last is taken out
pub last_out : {X : Type 0} (xs : List X) (y : X) → remove (xs ++ y ∷ []) (length (xs ++ y ∷ []) - 1) ≡ xs
last_out xs y = remove_seam xs y [] (length (xs ++ y ∷ []) - 1) (omega (arith, length-append xs (y ∷ []))) ∙ append-nil xs
