-- In serial order a message is at most as long as all unassembled fragments and its chunk.
use Rattle.std.proofs.Common.{◌≡◌, ℕ, ◌+◌, ◌^◌, ◌<◌, ◌≤◌, ◌==◌, Bool, true, false, not, if◌then◌else◌, List, [], ◌∷◌, ◌++◌, length, get_or, take, drop, reverse}
use Rattle.std.proofs.Common.{get_or-drop, length-drop, length-take-le, refl, sym, ap, subst, ◌∙◌, arith}
use Rattle.std.specs.List.{list_any}
use Rattle.std.proofs.Math.ListN.{take-append-drop}
use Rattle.std.proofs.lemmas.Bool.{false≢true}
use Rattle.std.proofs.lemmas.Bool.Decides.{nat_tests}
use Rattle.std.proofs.lemmas.List.{reverse-append, get_or-take}
use Rattle.std.proofs.lemmas.List.Folds.{list_any_none}
use Rattle.std.proofs.lemmas.List.Sums.{sum_by-cons, sum_by-append, sum_by-take-drop}
use Rattle.sctp_data.specs.declared.chunk.chunk_payload_data.ChunkPayloadData.{ChunkPayloadData}
use Rattle.sctp_util.specs.Lists.{after_leading}
use Rattle.sctp_util.specs.Serial.{comes_before}
use Rattle.sctp_util.proofs.More.{fails}
use Rattle.sctp_util.proofs.Distances.{comes_before_from}
use Rattle.sctp_serial.specs.DataChunks.{bytes_of, has_tsn, following_tsn, preceding_tsn}
use Rattle.sctp_reassembly.specs.reassembly_queue.Loose.{place_among}
use Rattle.sctp_reassembly.specs.reassembly_queue.Sizes.{bytes_down, bytes_up, back_from, on_from, size_before, size_after}
use Rattle.sctp_serial.specs.Window.{IsSerial}
use Rattle.sctp_serial.proofs.lemmas.ListEdits.{neither}
use Rattle.sctp_reassembly.proofs.lemmas.reassembly_queue.SerialPlaces.{before_one, after_one, in_front, is_front, place_upto}
use Rattle.sctp_reassembly.proofs.lemmas.reassembly_queue.LastFragments.{back_over, on_none}

-- ## Parts of a list

one_more : (x : ChunkPayloadData) (xs : List ChunkPayloadData) → bytes_of (x ∷ xs) ≡ length x.user_data + bytes_of xs
one_more x xs = sum_by-cons (λ (c : ChunkPayloadData). length c.user_data) x xs

bytes_reversed : (xs : List ChunkPayloadData) → bytes_of (reverse xs) ≡ bytes_of xs
bytes_reversed [] = refl
bytes_reversed (x ∷ xs) = omega (
  arith,
  ap bytes_of (reverse-append (x ∷ []) xs),
  sum_by-append (λ (c : ChunkPayloadData). length c.user_data) (reverse xs) (x ∷ []),
  one_more x [],
  one_more x xs,
  bytes_reversed xs,
)

down_within : (t : ℕ) (xs : List ChunkPayloadData) → bytes_down t xs ≤ bytes_of xs
down_within t [] = omega arith
down_within t (y ∷ ys) = at_head (y.tsn == preceding_tsn t) y.beginning_fragment (down_within y.tsn ys)
  where
    at_head : (a b : Bool) → bytes_down y.tsn ys ≤ bytes_of ys
        → (if a then length y.user_data + (if b then 0 else bytes_down y.tsn ys) else 0) ≤ bytes_of (y ∷ ys)
    at_head true true rec = omega (arith, one_more y ys)
    at_head true false rec = omega (arith, one_more y ys, rec)
    at_head false b rec = omega arith

up_within : (t : ℕ) (xs : List ChunkPayloadData) → bytes_up t xs ≤ bytes_of xs
up_within t [] = omega arith
up_within t (y ∷ ys) = at_head (y.tsn == following_tsn t) y.ending_fragment (up_within y.tsn ys)
  where
    at_head : (a b : Bool) → bytes_up y.tsn ys ≤ bytes_of ys → (if a then length y.user_data + (if b then 0 else bytes_up y.tsn ys) else 0) ≤ bytes_of (y ∷ ys)
    at_head true true rec = omega (arith, one_more y ys)
    at_head true false rec = omega (arith, one_more y ys, rec)
    at_head false b rec = omega arith

leading_within : (p : ChunkPayloadData → Bool) (xs : List ChunkPayloadData) → bytes_of (after_leading p xs) ≤ bytes_of xs
leading_within p [] = omega arith
leading_within p (x ∷ xs) = at_head (p x) (leading_within p xs)
  where
    at_head : (b : Bool) → bytes_of (after_leading p xs) ≤ bytes_of xs → bytes_of (if b then after_leading p xs else x ∷ xs) ≤ bytes_of (x ∷ xs)
    at_head true rec = omega (arith, one_more x xs, rec)
    at_head false rec = omega arith

on_within : (t : ℕ) (xs : List ChunkPayloadData) → bytes_of (on_from t xs) ≤ bytes_of xs
on_within t [] = omega arith
on_within t (x ∷ xs) = at_head (list_any (has_tsn t) xs) (has_tsn t x) (on_within t xs)
  where
    at_head : (a b : Bool) → bytes_of (on_from t xs) ≤ bytes_of xs → bytes_of (if a then on_from t xs else (if b then x ∷ xs else [])) ≤ bytes_of (x ∷ xs)
    at_head true b rec = omega (arith, one_more x xs, rec)
    at_head false true rec = omega arith
    at_head false false rec = omega arith

-- ## On either side of a place

-- what has none of the TSN in front is passed over
on_over : (t : ℕ) (front rest : List ChunkPayloadData) → list_any (has_tsn t) front ≡ false → on_from t (front ++ rest) ≡ on_from t rest
on_over t [] rest h = refl
on_over t (x ∷ front) rest h =
    let (a, b) = neither (has_tsn t x) (list_any (has_tsn t) front) h in
    at_any a (on_over t front rest b) (list_any (has_tsn t) (front ++ rest)) refl
  where
    at_any : has_tsn t x ≡ false → on_from t (front ++ rest) ≡ on_from t rest → (b : Bool) → list_any (has_tsn t) (front ++ rest) ≡ b
        → (if b then on_from t (front ++ rest) else (if has_tsn t x then x ∷ front ++ rest else [])) ≡ on_from t rest
    at_any other rec true e = rec
    at_any other rec false e = rw other (sym (on_none t (front ++ rest) e) ∙ rec)

on_side : (t p : ℕ) (xs : List ChunkPayloadData) → list_any (has_tsn t) (take p xs) ≡ false → bytes_of (on_from t xs) ≤ bytes_of (drop p xs)
on_side t p xs h =
    omega (arith, ap (λ ys. bytes_of (on_from t ys)) (take-append-drop p xs), ap bytes_of (on_over t (take p xs) (drop p xs) h), on_within t (drop p xs))

back_side : (t p : ℕ) (xs : List ChunkPayloadData) → list_any (has_tsn t) (drop p xs) ≡ false → bytes_of (back_from t xs) ≤ bytes_of (take p xs)
back_side t p xs h =
    let split = ap reverse (sym (take-append-drop p xs)) ∙ reverse-append (take p xs) (drop p xs) in
    let same : back_from t xs ≡ after_leading (λ y. not (has_tsn t y)) (reverse (take p xs)) = ap (after_leading (λ y. not (has_tsn t y))) split
    ∙ back_over t (drop p xs) (reverse (take p xs)) h in
    omega (arith, ap bytes_of same, leading_within (λ y. not (has_tsn t y)) (reverse (take p xs)), bytes_reversed (take p xs))

-- ## The complete message

unless : (b : Bool) (n m : ℕ) → n ≤ m → (if b then 0 else n) ≤ m
unless true n m le = omega arith
unless false n m le = le

module _ (x : ChunkPayloadData) (xs : List ChunkPayloadData) (s : IsSerial xs) (small : x.tsn < 2 ^ 32) where
  -- the number before it does not stand behind where it goes
  none_behind : list_any (has_tsn (preceding_tsn x.tsn)) (drop (place_among x.tsn xs) xs) ≡ false
  none_behind =
      let p = place_among x.tsn xs in
      let m = preceding_tsn x.tsn in
      let len = length-drop p xs in
      list_any_none (has_tsn m) (drop p xs) (λ j d lt. fails (has_tsn m (get_or (drop p xs) j d)) (λ is.
      let same : (get_or (drop p xs) j d).tsn ≡ m = grind (arith, nat_tests) in
      let there : (get_or xs (p + j) d).tsn ≡ m = ap (λ (c : ChunkPayloadData). c.tsn) (sym (get_or-drop p xs j d)) ∙ same in
      absurd (omega (arith, is_front xs s x.tsn small p refl m (omega arith) (before_one x.tsn small) (p + j) d (omega arith) there))))

  -- and the number after it not before
  none_before : list_any (has_tsn (following_tsn x.tsn)) (take (place_among x.tsn xs) xs) ≡ false
  none_before =
      let p = place_among x.tsn xs in
      let m = following_tsn x.tsn in
      let len = length-take-le p xs (place_upto x.tsn xs p refl) in
      list_any_none (has_tsn m) (take p xs) (λ j d lt. fails (has_tsn m (get_or (take p xs) j d)) (λ is.
      let same : (get_or (take p xs) j d).tsn ≡ m = grind (arith, nat_tests) in
      let there : (get_or xs j d).tsn ≡ m = ap (λ (c : ChunkPayloadData). c.tsn) (sym (get_or-take p xs j d (omega arith))) ∙ same in
      let after = after_one x.tsn small in
      false≢true (sym (in_front xs s x.tsn small p refl j d (omega arith))
      ∙ subst (λ t. comes_before x.tsn t ≡ true) (sym there) (comes_before_from x.tsn m (omega arith) (omega arith)))))

  pub within_all : size_before x xs + length x.user_data + size_after x xs ≤ bytes_of xs + length x.user_data
  within_all =
      let p = place_among x.tsn xs in
      let back = back_from (preceding_tsn x.tsn) xs in
      let on = on_from (following_tsn x.tsn) xs in
      let before = unless x.beginning_fragment (bytes_down x.tsn back) (bytes_of (take p xs))
      (omega (arith, down_within x.tsn back, back_side (preceding_tsn x.tsn) p xs none_behind)) in
      let after = unless x.ending_fragment (bytes_up x.tsn on) (bytes_of (drop p xs))
      (omega (arith, up_within x.tsn on, on_side (following_tsn x.tsn) p xs none_before)) in
      omega (arith, before, after, sum_by-take-drop (λ (c : ChunkPayloadData). length c.user_data) xs p)
