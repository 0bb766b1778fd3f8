use Rattle.std.proofs.Common.{◌≡◌, ◌+◌, ◌-◌, ◌*◌, ◌/◌, ◌≤◌, ◌<◌, ℕ, None, Some, [], ◌∷◌, ◌++◌, List, Option, length, refl, ap, sym, subst, arith, map}
use Rattle.std.proofs.Common.{append_assoc, ◌∙◌}
use Rattle.std.proofs.Common.{inl, inr}
use Rattle.std.proofs.lemmas.Bool.{cases_Bool}
use Rattle.std.proofs.lemmas.List.{append-nil}
use Rattle.std.proofs.lemmas.Option.{none-some}
use Rattle.std.specs.Prelude.{if◌then◌else◌, slice_range, true, false}
use Rattle.sctp_association.proofs.Reporting.{one_behind, unrecognized_full, unrecognized_next, unrecognized_over}
use Rattle.sctp_association.proofs.association.Association.push_reported.Goals as goal
use Rattle.sctp_association.specs.Reports.{unrecognized, unrecognized_in}
use Rattle.sctp_datagram.specs.declared.params.ParamPlace.{ParamPlace}
use Rattle.sctp_handshake.specs.InitValues.{is_param, place}
use Rattle.sctp_params.specs.Param.{Parameter, unknown_param}
use Rattle.sctp_params.specs.ParamKind.{parameter_of}
use Rattle.sctp_util.specs.Padding.{padded_length}

-- a parameter begins there, or none does
there : (raw bytes : List ℕ) (at : ℕ) (p : ParamPlace) → bytes ≡ raw → Some p ≡ (if is_param bytes at then Some (place bytes at) else None)
    → (is_param raw at ≡ true) × (p ≡ place raw at)
there raw bytes at p same h =
    let k : Some p ≡ (if is_param raw at then Some (place raw at) else None) =
    subst (λ (b : List ℕ). Some p ≡ (if is_param b at then Some (place b at) else None)) same h in
    elim (cases_Bool (is_param raw at)) [
      | inl is ↦ (is, cc (rw is at k))
      | inr none ↦ absurd (none-some p (sym (rw none at k)))
    ]

none-there : (raw bytes : List ℕ) (at : ℕ) → bytes ≡ raw → None ≡ (if is_param bytes at then Some (place bytes at) else None) → is_param raw at ≡ false
none-there raw bytes at same h =
    let k : None ≡ (if is_param raw at then Some (place raw at) else None) =
    subst (λ (b : List ℕ). None ≡ (if is_param b at then Some (place b at) else None)) same h in
    elim (cases_Bool (is_param raw at)) [
      | inl is ↦ absurd (none-some (place raw at) (rw is at k))
      | inr none ↦ none
    ]

-- one more is told
step : (raw : List ℕ) (at seen left room pad : ℕ) (old new all : List Parameter) (p : ParamPlace) → seen < length raw → is_param raw at ≡ true
    → p ≡ place raw at → room ≡ left - 4 → 4 + p.length ≤ room / 4 * 4 → 4 + p.length + pad ≡ padded_length (4 + p.length)
    → new ≡ old ++ unknown_param 8 (slice_range raw at (at + (4 + p.length))) ∷ []
    → old ++ unrecognized (length raw - seen) left raw at ≡ all
    → new ++ unrecognized (length raw - (seen + 1)) (left - (4 + (4 + p.length) + pad)) raw p.next ≡ all
step raw at seen left room pad old new all p lt is same free fits padded more so =
    let one = unknown_param 8 (slice_range raw at (at + (4 + p.length))) in
    let n = length raw - (seen + 1) in
    let later = unrecognized n (left - (4 + padded_length (4 + p.length))) raw p.next in
    let room-so : 4 + (place raw at).length ≤ (left - 4) / 4 * 4 = subst (λ (q : ParamPlace). 4 + q.length ≤ (left - 4) / 4 * 4) same (
    subst (λ k. 4 + p.length ≤ k / 4 * 4) free fits) in
    let told : unrecognized (length raw - seen) left raw at ≡ one ∷ later = unrecognized_next left raw at seen lt is room-so
    ∙ ap (λ (q : ParamPlace). unknown_param 8 (slice_range raw at (at + (4 + q.length)))
    ∷ unrecognized n (left - (4 + padded_length (4 + q.length))) raw q.next) (sym same) in
    let amount : left - (4 + (4 + p.length) + pad) ≡ left - (4 + padded_length (4 + p.length)) = omega (arith, padded) in
    ap (λ k. new ++ unrecognized n k raw p.next) amount ∙ ap (λ l. l ++ later) more ∙ append_assoc old (one ∷ []) later
    ∙ sym (ap (λ l. old ++ l) told) ∙ so

-- no more is told
ended : (raw : List ℕ) (n left at first room : ℕ) (now init : List Parameter) (o : Option (List ℕ)) → unrecognized n left raw at ≡ []
    → now ++ unrecognized n left raw at ≡ init ++ unrecognized (length raw) first raw 0 → first ≡ room → o ≡ Some raw → now ≡ init ++ unrecognized_in room o
ended raw n left at first room now init o over so free is =
    sym (append-nil now) ∙ sym (ap (λ l. now ++ l) over) ∙ so ∙ ap (λ k. init ++ unrecognized (length raw) k raw 0) free
    ∙ sym (ap (λ k. init ++ unrecognized_in room k) is)

pub loop-seen-preserved : goal.loop-seen-preserved
loop-seen-preserved c =
    let raw = c.in-Some.raw in
    let p = c.in-Some-told_at.place in
    let here = there raw c.as_slice.result.now c.loop-seen.at p c.as_slice.ensures c.in-Some-told_at.ensures.place in
    step raw c.loop-seen.at c.loop-seen._seen c.loop-seen.left c.saturating_sub.result c.get_padding_size.result (map parameter_of c.loop-seen.params.items)
    (map parameter_of c.push.new.self.items) _ p (omega arith) here.0 here.1 c.saturating_sub.ensures c.if-length-saturating_sub.false
    (ap (λ n. 4 + p.length + n) c.get_padding_size.ensures)
    (ap (λ l. map parameter_of l) c.in_ok-push.ensures.items ∙ one_behind c.loop-seen.params.items _ _ refl
    ∙ ap (λ (v : List ℕ). map parameter_of c.loop-seen.params.items ++ unknown_param 8 v ∷ []) c.in_ok-value.ensures.ok)
    c.loop-seen.invariant

pub returns-in_default-told_at : goal.returns-in_default-told_at
returns-in_default-told_at c =
    let raw = c.in-Some.raw in
    let none = none-there raw c.as_slice.result.now c.loop-seen.at c.as_slice.ensures (sym c.in_default-told_at.is ∙ c.told_at.ensures.place) in
    ended raw (length raw - c.loop-seen._seen) c.loop-seen.left c.loop-seen.at _ _ _ _ _ (unrecognized_over c.loop-seen.left raw c.loop-seen.at _ none)
    c.loop-seen.invariant (c.saturating_sub-left.ensures ∙ ap (λ n. n - 132) c.room.ensures.value) c.in-Some.is

pub returns-then-length-saturating_sub : goal.returns-then-length-saturating_sub
returns-then-length-saturating_sub c =
    let raw = c.in-Some.raw in
    let p = c.in-Some-told_at.place in
    let here = there raw c.as_slice.result.now c.loop-seen.at p c.as_slice.ensures c.in-Some-told_at.ensures.place in
    let full : (c.loop-seen.left - 4) / 4 * 4 < 4 + (place raw c.loop-seen.at).length =
    subst (λ (q : ParamPlace). (c.loop-seen.left - 4) / 4 * 4 < 4 + q.length) here.1 (
    subst (λ n. n / 4 * 4 < 4 + p.length) c.saturating_sub.ensures c.if-length-saturating_sub.true) in
    ended raw (length raw - c.loop-seen._seen) c.loop-seen.left c.loop-seen.at _ _ _ _ _ (unrecognized_full c.loop-seen.left raw c.loop-seen.at _ here.0 full)
    c.loop-seen.invariant (c.saturating_sub-left.ensures ∙ ap (λ n. n - 132) c.room.ensures.value) c.in-Some.is
