-- What an unordered push leaves is determined.
use Rattle.sctp_model.proofs.Names.{◌≡◌, ℕ, ◌+◌, ◌<◌, ◌≤◌, Bool, true, false, List, [], ◌∷◌, ◌++◌, take, drop, refl, ap, sym, ◌∙◌, inl, inr, arith, ◌⊎◌}
use Rattle.sctp_model.proofs.Names.{cases_lt, not_both, ChunkPayloadData, IsEarliestRun, Reassembly, set_of_run, BecomesComplete, nat_tests}
use Rattle.sctp_serial.specs.Runs.{IsRun}

some_chunk : ChunkPayloadData
some_chunk = grind (arith, nat_tests)

-- two runs that end at the same place begin at the same place
later-first : (xs : List ChunkPayloadData) (f n g m : ℕ) → IsRun xs f n → IsRun xs g m → f + n ≡ g + m → f < g → ⊥
later-first xs f n g m a b ends lt = not_both (sym (a.no_other g some_chunk lt (omega (arith, b.some, ends))) ∙ b.begins some_chunk)

pub same-run : (xs : List ChunkPayloadData) (f n g m : ℕ) → IsEarliestRun xs f n → IsEarliestRun xs g m → (f ≡ g) × (n ≡ m)
same-run xs f n g m a b = step (cases_lt f g) (cases_lt g f)
  where
    ends : f + n ≡ g + m
    ends = omega (arith, a.earliest g m b.run, b.earliest f n a.run)

    step : (f < g) ⊎ (g ≤ f) → (g < f) ⊎ (f ≤ g) → (f ≡ g) × (n ≡ m)
    step (inl l) t = absurd (later-first xs f n g m a.run b.run ends l)
    step (inr l) (inl k) = absurd (later-first xs g m f n b.run a.run (sym ends) k)
    step (inr l) (inr k) = (omega arith, omega (arith, ends))

abbrev without_run : List ChunkPayloadData → Reassembly → ℕ → ℕ → Reassembly
without_run xs old first count =
    record old { unassembled = take first xs ++ drop (first + count) xs; unordered = old.unordered ++ set_of_run (take count (drop first xs)) ∷ [] }

same-left : (xs : List ChunkPayloadData) (old : Reassembly) {f n g m : ℕ} → f ≡ g → n ≡ m → without_run xs old f n ≡ without_run xs old g m
same-left xs old {f} {n} {g} {m} a b = ap (λ k. without_run xs old k n) a ∙ ap (without_run xs old g) b

-- an unordered push leaves one thing, and answers one thing
pub becomes-same : (xs : List ChunkPayloadData) (old x y : Reassembly) (a b : Bool) → BecomesComplete xs old x a → BecomesComplete xs old y b
    → (x ≡ y) × (a ≡ b)
becomes-same xs old x y true true t u = let s = same-run xs t.first t.count u.first u.count t.run u.run in
    (t.moved ∙ same-left xs old s.0 s.1 ∙ sym u.moved, refl)
becomes-same xs old x y true false t u = absurd (u.0 t.first t.count t.run.run)
becomes-same xs old x y false true t u = absurd (t.0 u.first u.count u.run.run)
becomes-same xs old x y false false t u = (t.1 ∙ sym u.1, refl)
