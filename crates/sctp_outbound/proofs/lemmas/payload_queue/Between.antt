-- Where the chunks of a message stand.
use Rattle.std.proofs.Common.{◌≡◌, ℕ, zero, suc, ◌<◌, Bool, true, false, ◌||◌, if◌then◌else◌, List, [], ◌∷◌, ◌++◌, length, take, drop, get_or, refl, sym, ap}
use Rattle.std.proofs.Common.{◌∙◌, arith}
use Rattle.std.specs.List.{list_any}
use Rattle.std.proofs.lemmas.Bool.{eq-eqb}
use Rattle.sctp_util.proofs.Cases.{or-right}
use Rattle.std.proofs.lemmas.List.{take-append-drop, drop_all}
use Rattle.sctp_data.specs.declared.chunk.chunk_payload_data.ChunkPayloadData.{ChunkPayloadData}
use Rattle.sctp_util.specs.Lists.{change_where}
use Rattle.sctp_util.proofs.Edits.{change_where-append}
use Rattle.sctp_outbound.specs.Marks.{IsBetween, is_of}

neither : (a b : Bool) → (a || b) ≡ false → (a ≡ false) × (b ≡ false)
neither true b h = cc
neither false b h = (refl, h)

-- where none passes, none is changed
pub unchanged : (p : ChunkPayloadData → Bool) (f : ChunkPayloadData → ChunkPayloadData) (xs : List ChunkPayloadData) → list_any p xs ≡ false
    → change_where p f xs ≡ xs
unchanged p f [] h = refl
unchanged p f (x ∷ xs) h =
    let e = neither (p x) (list_any p xs) h in
    ap (λ b. (if b then f x else x) ∷ change_where p f xs) e.0 ∙ ap (λ ys. x ∷ ys) (unchanged p f xs e.1)

-- all stand from the first place on and before the end
pub between-all : (m : ℕ) (xs : List ChunkPayloadData) → IsBetween m 0 (length xs) xs
between-all m xs = record {
  order = omega arith;
  inside = omega arith;
  before = refl;
  behind = ap (list_any (is_of m)) (drop_all (length xs) xs (omega arith));
}

module _ (m : ℕ) (f : ChunkPayloadData → ChunkPayloadData) (start end : ℕ) (xs : List ChunkPayloadData) (is : IsBetween m start end xs) where
  -- before the first is changed
  pub none-yet : xs ≡ change_where (is_of m) f (take start xs) ++ drop start xs
  none-yet = sym (take-append-drop start xs) ∙ ap (λ ys. ys ++ drop start xs) (sym (unchanged (is_of m) f (take start xs) is.before))

  -- and once those before the end are
  pub each-changed : change_where (is_of m) f (take end xs) ++ drop end xs ≡ change_where (is_of m) f xs
  each-changed =
      ap (λ ys. change_where (is_of m) f (take end xs) ++ ys) (sym (unchanged (is_of m) f (drop end xs) is.behind))
      ∙ sym (change_where-append (is_of m) f (take end xs) (drop end xs)) ∙ ap (change_where (is_of m) f) (take-append-drop end xs)

-- the message of a chunk that is there
pub any-at : (xs : List ChunkPayloadData) (i : ℕ) (x : ChunkPayloadData) → i < length xs → x ≡ get_or xs i x → list_any (is_of x.message_id) xs ≡ true
any-at [] i x lt here = absurd (omega (arith, lt))
any-at (y ∷ ys) zero x lt here = ap (λ b. b || list_any (is_of x.message_id) ys) (eq-eqb _ _ (ap (λ (z : ChunkPayloadData). z.message_id) (sym here)))
any-at (y ∷ ys) (suc i) x lt here = or-right (is_of x.message_id y) (list_any (is_of x.message_id) ys) (any-at ys i x (omega (arith, lt)) here)
