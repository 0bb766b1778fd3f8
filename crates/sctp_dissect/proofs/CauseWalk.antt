-- Walks over error causes.
use Rattle.std.proofs.Common.{◌≡◌, ℕ, ◌≤◌, List, [], ◌∷◌, ◌++◌, length, take, drop, sym, arith, append_assoc}
use Rattle.std.specs.Prelude.{min}
use Rattle.std.specs.List.{flat_map}
use Rattle.std.proofs.lemmas.List.{take-append-drop, length-take}
use Rattle.sctp_util.specs.Walk.{Walks}
use Rattle.sctp_util.specs.Padding.{padded_length}
use Rattle.sctp_chunks.specs.ErrorCause.{cause_declared_length}
use Rattle.sctp_dissect.specs.declared.causes.CauseItem.{CauseItem}
use Rattle.sctp_dissect.specs.Causes.{cause_span, after_padded_cause, ShowsCause, cause_bytes}
use Rattle.sctp_dissect.proofs.Walk.{drop_taken}

-- the items and the rest join to the bytes
pub causes_join : (bytes : List ℕ) (items : List CauseItem) (rest : List ℕ) → Walks ShowsCause after_padded_cause bytes items rest
    → flat_map cause_bytes items ++ rest ≡ bytes
unfolding Walks after_padded_cause cause_span
causes_join bytes [] rest w = sym w
causes_join bytes (i ∷ is) rest w =
    let others : flat_map cause_bytes is ++ rest ≡ drop (padded_length (cause_declared_length bytes)) bytes =
    causes_join (after_padded_cause bytes) is rest w.1 in
    let first : i.bytes ≡ take (padded_length (cause_declared_length bytes)) bytes = w.0.bytes in
    let both : take (padded_length (cause_declared_length bytes)) bytes ++ drop (padded_length (cause_declared_length bytes)) bytes ≡ bytes =
    take-append-drop (padded_length (cause_declared_length bytes)) bytes in
    let regrouped : (i.bytes ++ flat_map cause_bytes is) ++ rest ≡ i.bytes ++ (flat_map cause_bytes is ++ rest) =
    append_assoc i.bytes (flat_map cause_bytes is) rest in
    cc

-- what an item leaves
pub left_after_cause : (rest : List ℕ) (item : CauseItem) (k : ℕ) → ShowsCause rest item → k ≡ length item.bytes → drop k rest ≡ after_padded_cause rest
unfolding after_padded_cause cause_span
left_after_cause rest item k shows e =
    let bytes : item.bytes ≡ take (padded_length (cause_declared_length rest)) rest = shows.bytes in
    let same : drop (length (take (padded_length (cause_declared_length rest)) rest)) rest ≡ drop (padded_length (cause_declared_length rest)) rest =
    drop_taken (padded_length (cause_declared_length rest)) rest in
    cc

-- an item has at least four bytes, and no more than there are
pub cause_some : (rest : List ℕ) (item : CauseItem) (k : ℕ) → ShowsCause rest item → k ≡ length item.bytes → (4 ≤ k) × (k ≤ length rest)
unfolding cause_span
cause_some rest item k shows e =
    let bytes : item.bytes ≡ take (padded_length (cause_declared_length rest)) rest = shows.bytes in
    let counted : length (take (padded_length (cause_declared_length rest)) rest) ≡ min (padded_length (cause_declared_length rest))
    (length rest) = length-take (padded_length (cause_declared_length rest)) rest in
    let same : k ≡ min (padded_length (cause_declared_length rest)) (length rest) = cc in
    (omega (arith, shows.reading.is_cause.headed, shows.reading.is_cause.least), omega arith)
