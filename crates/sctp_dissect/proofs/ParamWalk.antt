-- Walks over parameters that are read or raw.
use Rattle.std.proofs.Common.{◌≡◌, ℕ, ◌≤◌, List, [], ◌∷◌, ◌++◌, length, take, drop, sym, arith, append_assoc}
use Rattle.std.specs.Prelude.{min}
use Rattle.std.specs.List.{flat_map}
use Rattle.std.proofs.lemmas.List.{take-append-drop, length-take}
use Rattle.sctp_util.specs.Walk.{Walks}
use Rattle.sctp_util.specs.Padding.{padded_length}
use Rattle.sctp_params.specs.ParamFraming.{param_declared_length, after_param}
use Rattle.sctp_dissect.specs.declared.params.ParamItem.{ParamItem}
use Rattle.sctp_dissect.specs.Params.{param_span, ShowsParam, param_bytes}
use Rattle.sctp_dissect.proofs.Walk.{drop_taken}

-- the items and the rest join to the bytes
pub params_join : (bytes : List ℕ) (items : List ParamItem) (rest : List ℕ) → Walks ShowsParam after_param bytes items rest
    → flat_map param_bytes items ++ rest ≡ bytes
unfolding Walks after_param param_span
params_join bytes [] rest w = sym w
params_join bytes (i ∷ is) rest w =
    let others : flat_map param_bytes is ++ rest ≡ drop (padded_length (param_declared_length bytes)) bytes = params_join (after_param bytes) is rest w.1 in
    let first : i.bytes ≡ take (padded_length (param_declared_length bytes)) bytes = w.0.bytes in
    let both : take (padded_length (param_declared_length bytes)) bytes ++ drop (padded_length (param_declared_length bytes)) bytes ≡ bytes =
    take-append-drop (padded_length (param_declared_length bytes)) bytes in
    let regrouped : (i.bytes ++ flat_map param_bytes is) ++ rest ≡ i.bytes ++ (flat_map param_bytes is ++ rest) =
    append_assoc i.bytes (flat_map param_bytes is) rest in
    cc

-- what an item leaves
pub left_after_param : (rest : List ℕ) (item : ParamItem) (k : ℕ) → ShowsParam rest item → k ≡ length item.bytes → drop k rest ≡ after_param rest
unfolding after_param param_span
left_after_param rest item k shows e =
    let bytes : item.bytes ≡ take (padded_length (param_declared_length rest)) rest = shows.bytes in
    let same : drop (length (take (padded_length (param_declared_length rest)) rest)) rest ≡ drop (padded_length (param_declared_length rest)) rest =
    drop_taken (padded_length (param_declared_length rest)) rest in
    cc

-- an item has at least four bytes, and no more than there are
pub param_some : (rest : List ℕ) (item : ParamItem) (k : ℕ) → ShowsParam rest item → k ≡ length item.bytes → (4 ≤ k) × (k ≤ length rest)
unfolding param_span
param_some rest item k shows e =
    let bytes : item.bytes ≡ take (padded_length (param_declared_length rest)) rest = shows.bytes in
    let counted : length (take (padded_length (param_declared_length rest)) rest) ≡ min (padded_length (param_declared_length rest))
    (length rest) = length-take (padded_length (param_declared_length rest)) rest in
    let same : k ≡ min (padded_length (param_declared_length rest)) (length rest) = cc in
    (omega (arith, shows.whole.headed, shows.whole.least), omega arith)
