-- TSNs as runs.
use Rattle.sctp_receiver.proofs.Names.{◌≡◌, ℕ, zero, suc, ◌+◌, ◌-◌, ◌<◌, ◌≤◌, ◌^◌, ◌⊎◌, Bool, true, false, List, [], ◌∷◌, ◌++◌, length, take, drop, get_or}
use Rattle.sctp_receiver.proofs.Names.{Option, Some, None, refl, ap, sym, subst, ◌∙◌, inl, inr, arith, if◌then◌else◌, ◌==◌, ◌||◌, not, slice_get, IfSome}
use Rattle.sctp_receiver.proofs.Names.{slice_set, list_any, filter, remove, append_assoc, take-append-drop, length-append, length-take, length-drop, append-nil}
use Rattle.sctp_receiver.proofs.Names.{nat_tests, slice_get_read, insert_before, comes_before, same-yes, same-is, fails, not_both, distance_rest, same_distance}
use Rattle.sctp_receiver.proofs.Names.{before_farther, not_before_nearer, following_tsn, Run, rise_beyond, tsns_from, tsns_of, IsRun, AreRuns, run_before}
use Rattle.sctp_receiver.proofs.Names.{reaches, pieces}
use Rattle.std.proofs.lemmas.List.{set_split}
use Rattle.std.proofs.lemmas.List.Folds.{list_any-append}
use Rattle.std.proofs.lemmas.Option.{none-some, same_Some}
use Rattle.sctp_util.specs.Serial.{distance}
use Rattle.sctp_serial.specs.DataChunks.{preceding_tsn}
use Rattle.sctp_receiver.specs.declared.receiver.tsn_filter.runs.Spot.{Spot}
use Rattle.sctp_receiver.specs.TsnRuns.{IsSpot, left_piece, right_piece, left_end_of, right_end_of}
use Rattle.sctp_receiver.proofs.TsnLists.{IsStep, step-of, of-step, nearer}

-- ## One run

pub next-far : (base t : ℕ) → base < 2 ^ 32 → t < 2 ^ 32 → distance base t + 1 < 2 ^ 32 → distance base (following_tsn t) ≡ distance base t + 1
unfolding distance
next-far base t hb ht lt = omega (arith, lt)

pub previous-far : (base t : ℕ) → base < 2 ^ 32 → t < 2 ^ 32 → 0 < distance base t → distance base (preceding_tsn t) + 1 ≡ distance base t
unfolding distance
previous-far base t hb ht lt = omega (arith, lt)

pub run-rises : (base far t n : ℕ) (ts : List ℕ) → base < 2 ^ 32 → t < 2 ^ 32 → far < distance base t → distance base t + n < 2 ^ 31
    → rise_beyond base (distance base t + n) ts ≡ true → rise_beyond base far (tsns_from t (suc n) ++ ts) ≡ true
run-rises base far t zero ts hb ht lt near h =
    let same : distance base t + 0 ≡ distance base t = omega arith in
    of-step base far t ts (record { small = ht; farther = lt; near = omega (arith, near) }) (subst (λ k. rise_beyond base k ts ≡ true) same h)
run-rises base far t (suc n) ts hb ht lt near h =
    let one = next-far base t hb ht (omega (arith, near)) in
    let small : following_tsn t < 2 ^ 32 = omega arith in
    let same : distance base t + suc n ≡ distance base (following_tsn t) + n = omega (arith, one) in
    of-step base far t (tsns_from (following_tsn t) (suc n) ++ ts) (record { small = ht; farther = lt; near = omega (arith, near) })
    (run-rises base (distance base t) (following_tsn t) n ts hb small (omega (arith, one)) (omega (arith, one, near))
    (subst (λ k. rise_beyond base k ts ≡ true) same h))

-- a run with one of its TSNs in the middle
pub run-cut : (base t first n k m : ℕ) → base < 2 ^ 32 → t < 2 ^ 32 → first < 2 ^ 32 → distance base first + k ≡ distance base t → distance base t < 2 ^ 31
    → n ≡ k + m → tsns_from first (suc n) ≡ tsns_from first k ++ t ∷ tsns_from (following_tsn t) m
run-cut base t first n zero m hb ht hf far near long =
    let same : first ≡ t = same_distance base first t hb hf ht (omega (arith, far)) in
    let count : n ≡ m = omega (arith, long) in
    ap (λ u. u ∷ tsns_from (following_tsn u) n) same ∙ ap (λ j. t ∷ tsns_from (following_tsn t) j) count
run-cut base t first n (suc k) m hb ht hf far near long =
    let one = next-far base first hb hf (omega (arith, far, near)) in
    let count : n ≡ suc (k + m) = omega (arith, long) in
    ap (λ j. first ∷ tsns_from (following_tsn first) j) count
    ∙ ap (λ us. first ∷ us) (run-cut base t (following_tsn first) (k + m) k m hb ht (omega arith) (omega (arith, one, far)) near refl)

differs : (base t first n : ℕ) → (distance base t < distance base first) ⊎ (distance base first + n < distance base t) → (first == t) ≡ false
differs base t first n (inl a) = fails (first == t) (λ e. omega (arith, a, ap (distance base) (same-is first t e)))
differs base t first n (inr b) = fails (first == t) (λ e. omega (arith, b, ap (distance base) (same-is first t e)))

absent-run : (base t first n : ℕ) → base < 2 ^ 32 → t < 2 ^ 32 → first < 2 ^ 32 → distance base first + n < 2 ^ 31
    → (distance base t < distance base first) ⊎ (distance base first + n < distance base t) → list_any (λ u. u == t) (tsns_from first (suc n)) ≡ false
absent-run base t first zero hb ht hf near apart = ap (λ b. b || false) (differs base t first zero apart)
absent-run base t first (suc n) hb ht hf near apart =
    let one = next-far base first hb hf (omega (arith, near)) in
    ap (λ b. b || list_any (λ u. u == t) (tsns_from (following_tsn first) (suc n))) (differs base t first (suc n) apart)
    ∙ absent-run base t (following_tsn first) n hb ht (omega arith) (omega (arith, one, near))
    (elim apart as (λ o. (distance base t < distance base (following_tsn first)) ⊎ (distance base (following_tsn first) + n < distance base t))
    [ inl a ↦ inl (omega (arith, a, one)) | inr b ↦ inr (omega (arith, b, one)) ])

-- ## Several

pub span : (base far : ℕ) (r : Run) → base < 2 ^ 32 → IsRun base far r → distance base r.first + distance r.first r.last ≡ distance base r.last
span base far r hb is = distance_rest base r.first r.last hb is.first_fits is.last_fits is.order

pub runs-rise : (base far : ℕ) (rs : List Run) → base < 2 ^ 32 → AreRuns base far rs → rise_beyond base (far + 1) (tsns_of rs) ≡ true
runs-rise base far [] hb are = refl
runs-rise base far (r ∷ rs) hb are =
    let sum = span base far r hb are.0 in
    run-rises base (far + 1) r.first (distance r.first r.last) (tsns_of rs) hb are.0.first_fits are.0.apart (omega (arith, sum, are.0.near))
    (nearer base (distance base r.last + 1) (distance base r.first + distance r.first r.last) (tsns_of rs) (omega (arith, sum))
    (runs-rise base (distance base r.last) rs hb are.1))

pub runs-nearer : (base far less : ℕ) (rs : List Run) → less ≤ far → AreRuns base far rs → AreRuns base less rs
runs-nearer base far less [] le are = tt
runs-nearer base far less (r ∷ rs) le are = (
  record {
    first_fits = are.0.first_fits;
    last_fits = are.0.last_fits;
    apart = let a = are.0.apart in omega (arith, a, le);
    order = are.0.order;
    near = are.0.near;
  },
  are.1,
)

-- how far the last one ends
abbrev pub far_of : ℕ → ℕ → List Run → ℕ
far_of base far [] = far
far_of base far (r ∷ rs) = far_of base (distance base r.last) rs

pub far-least : (base far : ℕ) (rs : List Run) → AreRuns base far rs → far ≤ far_of base far rs
far-least base far [] are = omega arith
far-least base far (r ∷ rs) are =
    let le = far-least base (distance base r.last) rs are.1 in
    let a = are.0.apart in
    let o = are.0.order in
    omega (arith, le, a, o)

pub far-last : (base far : ℕ) (rs : List Run) (r : Run) → far_of base far (rs ++ r ∷ []) ≡ distance base r.last
far-last base far [] r = refl
far-last base far (x ∷ rs) r = far-last base (distance base x.last) rs r

pub tsns-append : (xs ys : List Run) → tsns_of (xs ++ ys) ≡ tsns_of xs ++ tsns_of ys
tsns-append [] ys = refl
tsns-append (x ∷ xs) ys =
    ap (λ ts. tsns_from x.first (suc (distance x.first x.last)) ++ ts) (tsns-append xs ys)
    ∙ sym (append_assoc (tsns_from x.first (suc (distance x.first x.last))) (tsns_of xs) (tsns_of ys))

pub runs-split : (base far : ℕ) (xs ys : List Run) → AreRuns base far (xs ++ ys) → AreRuns base far xs × AreRuns base (far_of base far xs) ys
runs-split base far [] ys are = (tt, are)
runs-split base far (x ∷ xs) ys are = let r = runs-split base (distance base x.last) xs ys are.1 in ((are.0, r.0), r.1)

pub runs-join : (base far : ℕ) (xs ys : List Run) → AreRuns base far xs → AreRuns base (far_of base far xs) ys → AreRuns base far (xs ++ ys)
runs-join base far [] ys a b = b
runs-join base far (x ∷ xs) ys a b = (a.0, runs-join base (distance base x.last) xs ys a.1 b)

pub fewer-runs : (rs : List Run) → length rs ≤ length (tsns_of rs)
fewer-runs [] = omega arith
fewer-runs (r ∷ rs) =
    let h = fewer-runs rs in
    let n = length-append (tsns_from r.first (suc (distance r.first r.last))) (tsns_of rs) in
    omega (arith, h, n)

-- ## One TSN among those that rise

pub rise-behind : (c far : ℕ) (us : List ℕ) (t : ℕ) (ts : List ℕ) → rise_beyond c far (us ++ t ∷ ts) ≡ true
    → IsStep c far t × (rise_beyond c (distance c t) ts ≡ true)
rise-behind c far [] t ts h = step-of c far t ts h
rise-behind c far (u ∷ us) t ts h =
    let s = step-of c far u (us ++ t ∷ ts) h in
    let r = rise-behind c (distance c u) us t ts s.1 in
    (record { small = r.0.small; farther = omega (arith, s.0.farther, r.0.farther); near = r.0.near }, r.1)

pub absent-nearer : (c far t : ℕ) (ts : List ℕ) → distance c t ≤ far → rise_beyond c far ts ≡ true → list_any (λ u. u == t) ts ≡ false
absent-nearer c far t [] le h = refl
absent-nearer c far t (u ∷ us) le h =
    let s = step-of c far u us h in
    let nay : (u == t) ≡ false = fails (u == t) (λ e. omega (arith, le, s.0.farther, ap (distance c) (same-is u t e))) in
    ap (λ b. b || list_any (λ v. v == t) us) nay ∙ absent-nearer c (distance c u) t us (omega (arith, le, s.0.farther)) s.1

pub in-front : (c t : ℕ) (ts : List ℕ) → c < 2 ^ 32 → t < 2 ^ 32 → rise_beyond c (distance c t) ts ≡ true → insert_before comes_before t ts ≡ t ∷ ts
in-front c t [] hc ht h = refl
in-front c t (u ∷ us) hc ht h =
    let s = step-of c (distance c t) u us h in
    ap (λ b. if b then t ∷ u ∷ us else u ∷ insert_before comes_before t us) (before_farther c t u hc ht s.0.small s.0.farther s.0.near)

put-middle : (base far : ℕ) (us : List ℕ) (t : ℕ) (vs : List ℕ) → base < 2 ^ 32 → rise_beyond base far (us ++ t ∷ vs) ≡ true
    → insert_before comes_before t (us ++ vs) ≡ us ++ t ∷ vs
put-middle base far [] t vs hb h = let s = step-of base far t vs h in in-front base t vs hb s.0.small s.1
put-middle base far (u ∷ us) t vs hb h =
    let s = step-of base far u (us ++ t ∷ vs) h in
    let m = rise-behind base (distance base u) us t vs s.1 in
    let nay : comes_before t u ≡ false = not_before_nearer base t u hb m.0.small s.0.small (omega (arith, m.0.farther)) m.0.near in
    ap (λ b. if b then t ∷ u ∷ (us ++ vs) else u ∷ insert_before comes_before t (us ++ vs)) nay
    ∙ ap (λ ws. u ∷ ws) (put-middle base (distance base u) us t vs hb s.1)

pub rest-is : (t : ℕ) (ts : List ℕ) → list_any (λ u. u == t) ts ≡ false → filter (λ u. not (u == t)) ts ≡ ts
rest-is t [] gone = refl
rest-is t (u ∷ us) gone = by (u == t) gone (rest-is t us)
  where
    by : (b : Bool) → (b || list_any (λ v. v == t) us) ≡ false → (list_any (λ v. v == t) us ≡ false → filter (λ v. not (v == t)) us ≡ us)
        → (if not b then u ∷ filter (λ v. not (v == t)) us else filter (λ v. not (v == t)) us) ≡ u ∷ us
    by true h ih = absurd (not_both (sym h))
    by false h ih = ap (λ vs. u ∷ vs) (ih h)

take-middle : (base far : ℕ) (us : List ℕ) (t : ℕ) (vs : List ℕ) → rise_beyond base far (us ++ t ∷ vs) ≡ true
    → filter (λ u. not (u == t)) (us ++ t ∷ vs) ≡ us ++ vs
take-middle base far [] t vs h =
    let s = step-of base far t vs h in
    ap (λ b. if not b then t ∷ filter (λ u. not (u == t)) vs else filter (λ u. not (u == t)) vs) (same-yes t)
    ∙ rest-is t vs (absent-nearer base (distance base t) t vs (omega arith) s.1)
take-middle base far (u ∷ us) t vs h =
    let s = step-of base far u (us ++ t ∷ vs) h in
    let m = rise-behind base (distance base u) us t vs s.1 in
    let nay : (u == t) ≡ false = fails (u == t) (λ e. omega (arith, m.0.farther, ap (distance base) (same-is u t e))) in
    ap (λ b. if not b then u ∷ filter (λ v. not (v == t)) (us ++ t ∷ vs) else filter (λ v. not (v == t)) (us ++ t ∷ vs)) nay
    ∙ ap (λ ws. u ∷ ws) (take-middle base (distance base u) us t vs s.1)

any-middle : (us : List ℕ) (t : ℕ) (vs : List ℕ) → list_any (λ u. u == t) (us ++ t ∷ vs) ≡ true
any-middle [] t vs = ap (λ b. b || list_any (λ u. u == t) vs) (same-yes t)
any-middle (u ∷ us) t vs = by (u == t) (any-middle us t vs)
  where
    by : (b : Bool) → list_any (λ v. v == t) (us ++ t ∷ vs) ≡ true → (b || list_any (λ v. v == t) (us ++ t ∷ vs)) ≡ true
    by true h = refl
    by false h = h

regroup : (us bs cs ds es : List ℕ) (t : ℕ) → us ++ ((bs ++ t ∷ cs) ++ ds) ≡ (us ++ bs) ++ t ∷ (cs ++ ds)
regroup us bs cs ds es t =
    ap (λ ws. us ++ ws) (append_assoc bs (t ∷ cs) ds) ∙ sym (append_assoc us bs (t ∷ (cs ++ ds)))

-- ## The runs beside a TSN

pub split-at : (rs : List Run) (n : ℕ) (r : Run) → slice_get rs n ≡ Some r → rs ≡ take n rs ++ r ∷ drop (suc n) rs
split-at [] n r e = absurd (none-some r e)
split-at (x ∷ rs) zero r e = ap (λ y. y ∷ rs) (same_Some x r e)
split-at (x ∷ rs) (suc n) r e = ap (λ ys. x ∷ ys) (split-at rs n r e)

pub take-upto : (rs : List Run) (n : ℕ) (r : Run) → slice_get rs n ≡ Some r → take (suc n) rs ≡ take n rs ++ r ∷ []
take-upto [] n r e = absurd (none-some r e)
take-upto (x ∷ rs) zero r e = ap (λ y. y ∷ []) (same_Some x r e)
take-upto (x ∷ rs) (suc n) r e = ap (λ ys. x ∷ ys) (take-upto rs n r e)

pub drop-from : (rs : List Run) (n : ℕ) (r : Run) → slice_get rs n ≡ Some r → drop n rs ≡ r ∷ drop (suc n) rs
drop-from [] n r e = absurd (none-some r e)
drop-from (x ∷ rs) zero r e = ap (λ y. y ∷ rs) (same_Some x r e)
drop-from (x ∷ rs) (suc n) r e = drop-from rs n r e

pub whole : (rs : List Run) (n : ℕ) → tsns_of (take n rs) ++ tsns_of (drop n rs) ≡ tsns_of rs
whole rs n = sym (tsns-append (take n rs) (drop n rs)) ∙ ap tsns_of (take-append-drop n rs)

pub halves : (base : ℕ) (rs : List Run) (n : ℕ) → AreRuns base 0 rs → AreRuns base 0 (take n rs) × AreRuns base (far_of base 0 (take n rs)) (drop n rs)
halves base rs n are = runs-split base 0 (take n rs) (drop n rs) (subst (AreRuns base 0) (sym (take-append-drop n rs)) are)

absent-before : (base far t : ℕ) (rs : List Run) → base < 2 ^ 32 → t < 2 ^ 32 → AreRuns base far rs → far_of base far rs < distance base t
    → list_any (λ u. u == t) (tsns_of rs) ≡ false
absent-before base far t [] hb ht are lt = refl
absent-before base far t (r ∷ rs) hb ht are lt =
    let sum = span base far r hb are.0 in
    let le = far-least base (distance base r.last) rs are.1 in
    let here = tsns_from r.first (suc (distance r.first r.last)) in
    list_any-append (λ u. u == t) here (tsns_of rs)
    ∙ ap (λ b. b || list_any (λ u. u == t) (tsns_of rs)) (absent-run base t r.first (distance r.first r.last) hb ht are.0.first_fits
    (omega (arith, sum, are.0.near)) (inr (omega (arith, sum, le, lt))))
    ∙ absent-before base (distance base r.last) t rs hb ht are.1 lt

absent-after : (base far t : ℕ) (rs : List Run) → base < 2 ^ 32 → t < 2 ^ 32 → AreRuns base far rs
    → IfSome (slice_get rs 0) (λ r. distance base t < distance base r.first) → list_any (λ u. u == t) (tsns_of rs) ≡ false
absent-after base far t [] hb ht are ahead = refl
absent-after base far t (r ∷ rs) hb ht are ahead =
    let sum = span base far r hb are.0 in
    let here = tsns_from r.first (suc (distance r.first r.last)) in
    list_any-append (λ u. u == t) here (tsns_of rs)
    ∙ ap (λ b. b || list_any (λ u. u == t) (tsns_of rs)) (absent-run base t r.first (distance r.first r.last) hb ht are.0.first_fits
    (omega (arith, sum, are.0.near)) (inl ahead))
    ∙ absent-nearer base (distance base r.last + 1) t (tsns_of rs) (let o = are.0.order in omega (arith, o, ahead))
    (runs-rise base (distance base r.last) rs hb are.1)

drop-first : (rs : List Run) (n : ℕ) → slice_get (drop n rs) 0 ≡ slice_get rs n
drop-first [] zero = refl
drop-first [] (suc n) = refl
drop-first (x ∷ rs) zero = refl
drop-first (x ∷ rs) (suc n) = drop-first rs n

got : (rs : List Run) (n : ℕ) → n < length rs → slice_get rs n ≡ None → ⊥
got [] n lt e = omega (arith, lt)
got (x ∷ rs) zero lt e = none-some x (sym e)
got (x ∷ rs) (suc n) lt e = got rs n (omega (arith, lt)) e

pub got-within : (rs : List Run) (n : ℕ) (r : Run) → slice_get rs n ≡ Some r → n < length rs
got-within [] n r e = absurd (none-some r e)
got-within (x ∷ rs) zero r e = omega arith
got-within (x ∷ rs) (suc n) r e = let h = got-within rs n r e in omega (arith, h)

drop-none : (rs : List Run) (n : ℕ) → slice_get rs n ≡ None → drop n rs ≡ []
drop-none [] zero e = refl
drop-none [] (suc n) e = refl
drop-none (x ∷ rs) zero e = absurd (none-some x (sym e))
drop-none (x ∷ rs) (suc n) e = drop-none rs n e

at-run : (base : ℕ) (rs : List Run) (n : ℕ) (r : Run) → slice_get rs n ≡ Some r → AreRuns base 0 rs
    → IsRun base (far_of base 0 (take n rs)) r × AreRuns base (distance base r.last) (drop (suc n) rs)
at-run base rs n r e are = subst (AreRuns base (far_of base 0 (take n rs))) (drop-from rs n r e) (halves base rs n are).1

no-more : (t d : ℕ) (ts : List ℕ) → ts ≡ tsns_from t (d - d) ++ ts
no-more t d ts = let e : 0 ≡ d - d = omega arith in ap (λ n. tsns_from t n ++ ts) e

none-more : (t d : ℕ) (ts : List ℕ) → ts ≡ ts ++ tsns_from t (d - d)
none-more t d ts = let e : 0 ≡ d - d = omega arith in sym (append-nil ts) ∙ ap (λ n. ts ++ tsns_from t n) e

module _ (base t : ℕ) (rs : List Run) (hb : base < 2 ^ 32) (ht : t < 2 ^ 32) (are : AreRuns base 0 rs) where
  ahead-of : (n : ℕ) (o : Option Run) → o ≡ slice_get rs n → IfSome o (λ r. distance base t < distance base r.first)
      → IfSome (slice_get (drop n rs) 0) (λ r. distance base t < distance base r.first)
  ahead-of n o e ahead = subst (λ p. IfSome p (λ r. distance base t < distance base r.first)) (e ∙ sym (drop-first rs n)) ahead

  -- those before it end before it
  ended : (o : Option Run) (n : ℕ) → suc n ≤ length rs → o ≡ run_before (suc n) rs → reaches base t o ≡ false
      → far_of base 0 (take (suc n) rs) < distance base t
  ended None n le e h = absurd (got rs n (omega (arith, le)) (sym e))
  ended (Some r) n le e h =
      let last = ap (far_of base 0) (take-upto rs n r (sym e)) ∙ far-last base 0 (take n rs) r in
      let less : distance base r.last < distance base t = grind (arith, nat_tests, h) in
      omega (arith, last, less)

  none-before : (o : Option Run) (n : ℕ) → n ≤ length rs → o ≡ run_before n rs → reaches base t o ≡ false
      → list_any (λ u. u == t) (tsns_of (take n rs)) ≡ false
  none-before o zero le e h = refl
  none-before o (suc n) le e h = absent-before base 0 t (take (suc n) rs) hb ht (halves base rs (suc n) are).0 (ended o n le e h)

  pub absent : (s : Spot) → IsSpot base t rs s → reaches base t s.before ≡ false → list_any (λ u. u == t) (tsns_of rs) ≡ false
  absent s spot h =
      let n = s.place in
      ap (list_any (λ u. u == t)) (sym (whole rs n))
      ∙ list_any-append (λ u. u == t) (tsns_of (take n rs)) (tsns_of (drop n rs))
      ∙ ap (λ b. b || list_any (λ u. u == t) (tsns_of (drop n rs))) (none-before s.before n spot.within spot.before h)
      ∙ absent-after base (far_of base 0 (take n rs)) t (drop n rs) hb ht (halves base rs n are).1 (ahead-of n s.after spot.after spot.ahead)

  -- ## It is in a run

  module _ (n : ℕ) (r : Run) (at : slice_get rs n ≡ Some r) (begun : distance base r.first ≤ distance base t)
      (reached : distance base t ≤ distance base r.last) where
    is-run : IsRun base (far_of base 0 (take n rs)) r
    is-run = (at-run base rs n r at are).0

    -- those before it, and those behind it
    abbrev nearer-ones : List ℕ
    nearer-ones = tsns_of (take n rs) ++ tsns_from r.first (distance base t - distance base r.first)

    abbrev farther-ones : List ℕ
    farther-ones = tsns_from (following_tsn t) (distance base r.last - distance base t) ++ tsns_of (drop (suc n) rs)

    pub held-is : tsns_of rs ≡ nearer-ones ++ t ∷ farther-ones
    held-is =
        let sum = span base (far_of base 0 (take n rs)) r hb is-run in
        let near = is-run.near in
        ap tsns_of (split-at rs n r at)
        ∙ tsns-append (take n rs) (r ∷ drop (suc n) rs)
        ∙ ap (λ ws. tsns_of (take n rs) ++ (ws ++ tsns_of (drop (suc n) rs)))
        (run-cut base t r.first (distance r.first r.last) (distance base t - distance base r.first) (distance base r.last - distance base t) hb ht
        is-run.first_fits (omega (arith, begun)) (omega (arith, near, reached)) (omega (arith, sum, begun, reached)))
        ∙ regroup (tsns_of (take n rs)) (tsns_from r.first (distance base t - distance base r.first))
        (tsns_from (following_tsn t) (distance base r.last - distance base t)) (tsns_of (drop (suc n) rs)) [] t

    pub present : list_any (λ u. u == t) (tsns_of rs) ≡ true
    present = ap (list_any (λ u. u == t)) held-is ∙ any-middle nearer-ones t farther-ones

    -- what is left without it
    left-tsns : tsns_of (left_piece r t) ≡ tsns_from r.first (distance base t - distance base r.first)
    left-tsns = by (r.first == t) refl
      where
        by : (b : Bool) → (r.first == t) ≡ b → tsns_of (if b then [] else (let p : Run = record { first = r.first; last = preceding_tsn t } in p) ∷ [])
            ≡ tsns_from r.first (distance base t - distance base r.first)
        by true e =
            let same = ap (distance base) (same-is r.first t e) in
            let none : 0 ≡ distance base t - distance base r.first = omega (arith, same) in
            ap (tsns_from r.first) none
        by false e =
            let ne : distance base r.first ≡ distance base t → ⊥ = λ q. not_both (sym e ∙ ap (λ u. u == t)
            (same_distance base r.first t hb is-run.first_fits ht q) ∙ same-yes t) in
            let back = previous-far base t hb ht (omega (arith, begun, ne)) in
            let sum = distance_rest base r.first (preceding_tsn t) hb is-run.first_fits (omega arith) (omega (arith, back, begun, ne)) in
            let count : suc (distance r.first (preceding_tsn t)) ≡ distance base t - distance base r.first = omega (arith, sum, back) in
            append-nil (tsns_from r.first (suc (distance r.first (preceding_tsn t)))) ∙ ap (tsns_from r.first) count

    right-tsns : tsns_of (right_piece r t) ≡ tsns_from (following_tsn t) (distance base r.last - distance base t)
    right-tsns = by (r.last == t) refl
      where
        by : (b : Bool) → (r.last == t) ≡ b → tsns_of (if b then [] else (let p : Run = record { first = following_tsn t; last = r.last } in p) ∷ [])
            ≡ tsns_from (following_tsn t) (distance base r.last - distance base t)
        by true e =
            let same = ap (distance base) (same-is r.last t e) in
            let none : 0 ≡ distance base r.last - distance base t = omega (arith, same) in
            ap (tsns_from (following_tsn t)) none
        by false e =
            let ne : distance base r.last ≡ distance base t → ⊥ = λ q. not_both (sym e ∙ ap (λ u. u == t)
            (same_distance base r.last t hb is-run.last_fits ht q) ∙ same-yes t) in
            let near = is-run.near in
            let one = next-far base t hb ht (omega (arith, reached, near)) in
            let sum = distance_rest base (following_tsn t) r.last hb (omega arith) is-run.last_fits (omega (arith, one, reached, ne)) in
            let count : suc (distance (following_tsn t) r.last) ≡ distance base r.last - distance base t = omega (arith, sum, one) in
            append-nil (tsns_from (following_tsn t) (suc (distance (following_tsn t) r.last))) ∙ ap (tsns_from (following_tsn t)) count

    right-runs : (far : ℕ) (ys : List Run) → far < distance base t → AreRuns base (distance base r.last) ys → AreRuns base far (right_piece r t ++ ys)
    right-runs far ys lt rest = by (r.last == t) refl
      where
        by : (b : Bool) → (r.last == t) ≡ b
            → AreRuns base far ((if b then [] else (let p : Run = record { first = following_tsn t; last = r.last } in p) ∷ []) ++ ys)
        by true e = runs-nearer base (distance base r.last) far ys (omega (arith, lt, reached)) rest
        by false e =
            let ne : distance base r.last ≡ distance base t → ⊥ = λ q. not_both (sym e ∙ ap (λ u. u == t)
            (same_distance base r.last t hb is-run.last_fits ht q) ∙ same-yes t) in
            let near = is-run.near in
            let one = next-far base t hb ht (omega (arith, reached, near)) in (
              record {
                first_fits = omega arith;
                last_fits = is-run.last_fits;
                apart = omega (arith, one, lt);
                order = omega (arith, one, reached, ne);
                near = near;
              },
              rest,
            )

    left-runs : (far : ℕ) (ys : List Run) → far + 1 < distance base r.first → ((g : ℕ) → g < distance base t → AreRuns base g ys)
        → AreRuns base far (left_piece r t ++ ys)
    left-runs far ys lt rest = by (r.first == t) refl
      where
        by : (b : Bool) → (r.first == t) ≡ b
            → AreRuns base far ((if b then [] else (let p : Run = record { first = r.first; last = preceding_tsn t } in p) ∷ []) ++ ys)
        by true e = rest far (omega (arith, lt, begun))
        by false e =
            let ne : distance base r.first ≡ distance base t → ⊥ = λ q. not_both (sym e ∙ ap (λ u. u == t)
            (same_distance base r.first t hb is-run.first_fits ht q) ∙ same-yes t) in
            let near = is-run.near in
            let back = previous-far base t hb ht (omega (arith, begun, ne)) in (
              record {
                first_fits = is-run.first_fits;
                last_fits = omega arith;
                apart = lt;
                order = omega (arith, back, begun, ne);
                near = omega (arith, back, reached, near);
              },
              rest (distance base (preceding_tsn t)) (omega (arith, back)),
            )

    pub cut-runs : AreRuns base 0 (take n rs ++ (pieces r t ++ drop (suc n) rs))
    cut-runs =
        let behind = (at-run base rs n r at are).1 in
        runs-join base 0 (take n rs) (pieces r t ++ drop (suc n) rs) (halves base rs n are).0
        (subst (AreRuns base (far_of base 0 (take n rs))) (sym (append_assoc (left_piece r t) (right_piece r t) (drop (suc n) rs)))
        (left-runs (far_of base 0 (take n rs)) (right_piece r t ++ drop (suc n) rs) is-run.apart
        (λ g lt. right-runs g (drop (suc n) rs) lt behind)))

    cut-tsns : tsns_of (take n rs ++ (pieces r t ++ drop (suc n) rs)) ≡ nearer-ones ++ farther-ones
    cut-tsns =
        tsns-append (take n rs) (pieces r t ++ drop (suc n) rs)
        ∙ ap (λ ws. tsns_of (take n rs) ++ ws) (tsns-append (pieces r t) (drop (suc n) rs)
        ∙ ap (λ ws. ws ++ tsns_of (drop (suc n) rs)) (tsns-append (left_piece r t) (right_piece r t)
        ∙ ap (λ ws. ws ++ tsns_of (right_piece r t)) left-tsns
        ∙ ap (λ ws. tsns_from r.first (distance base t - distance base r.first) ++ ws) right-tsns)
        ∙ append_assoc (tsns_from r.first (distance base t - distance base r.first))
        (tsns_from (following_tsn t) (distance base r.last - distance base t)) (tsns_of (drop (suc n) rs)))
        ∙ sym (append_assoc (tsns_of (take n rs)) (tsns_from r.first (distance base t - distance base r.first)) farther-ones)

    pub cut-is : tsns_of (take n rs ++ (pieces r t ++ drop (suc n) rs)) ≡ filter (λ u. not (u == t)) (tsns_of rs)
    cut-is =
        let rise : rise_beyond base 1 (nearer-ones ++ t ∷ farther-ones) ≡ true = ap (rise_beyond base 1) (sym held-is) ∙ runs-rise base 0 rs hb are in
        cut-tsns ∙ sym (take-middle base 1 nearer-ones t farther-ones rise) ∙ ap (filter (λ u. not (u == t))) (sym held-is)

  reached-is : (o : Option Run) (n : ℕ) → o ≡ run_before n rs → IfSome o (λ r. distance base r.first ≤ distance base t) → reaches base t o ≡ true
      → list_any (λ u. u == t) (tsns_of rs) ≡ true
  reached-is None n e begun h = absurd (not_both h)
  reached-is (Some r) zero e begun h = absurd (none-some r (sym e))
  reached-is (Some r) (suc n) e begun h = present n r (sym e) begun (grind (arith, nat_tests, h))

  -- the run before it tells whether it is among them
  pub contained : (s : Spot) → IsSpot base t rs s → reaches base t s.before ≡ list_any (λ u. u == t) (tsns_of rs)
  contained s spot = by (reaches base t s.before) refl
    where
      by : (b : Bool) → reaches base t s.before ≡ b → b ≡ list_any (λ u. u == t) (tsns_of rs)
      by true h = sym (reached-is s.before s.place spot.before spot.begun h)
      by false h = sym (absent s spot h)

  pub not-reached : (s : Spot) → IsSpot base t rs s → list_any (λ u. u == t) (tsns_of rs) ≡ false → reaches base t s.before ≡ false
  not-reached s spot gone = contained s spot ∙ gone

  -- ## It is put in

  module _ (far : 1 < distance base t) (near : distance base t < 2 ^ 31) where
    pub record IsLeftEnd (place : ℕ) (e : ℕ × ℕ) : Type 0 where
      pub fits : e.0 < 2 ^ 32
      pub low : e.1 ≤ place
      pub apart : far_of base 0 (take e.1 rs) + 1 < distance base e.0
      pub order : distance base e.0 ≤ distance base t
      pub tsns : tsns_of (take place rs) ≡ tsns_of (take e.1 rs) ++ tsns_from e.0 (distance base t - distance base e.0)

    pub record IsRightEnd (place : ℕ) (e : ℕ × ℕ) : Type 0 where
      pub fits : e.0 < 2 ^ 32
      pub high : place ≤ e.1
      pub within : e.1 ≤ length rs
      pub order : distance base t ≤ distance base e.0
      pub nearby : distance base e.0 < 2 ^ 31
      pub runs : AreRuns base (distance base e.0) (drop e.1 rs)
      pub tsns : tsns_of (drop place rs) ≡ tsns_from (following_tsn t) (distance base e.0 - distance base t) ++ tsns_of (drop e.1 rs)

    here-left : (n : ℕ) → far_of base 0 (take n rs) + 1 < distance base t → IsLeftEnd n (t, n)
    here-left n lt = record {
      fits = ht;
      low = omega arith;
      apart = lt;
      order = omega arith;
      tsns = none-more t (distance base t) (tsns_of (take n rs));
    }

    pub left-is : (o : Option Run) (n : ℕ) → n ≤ length rs → o ≡ run_before n rs → reaches base t o ≡ false → IsLeftEnd n (left_end_of t n o)
    left-is None zero le e h = here-left 0 (omega (arith, far))
    left-is None (suc n) le e h = absurd (got rs n (omega (arith, le)) (sym e))
    left-is (Some r) zero le e h = absurd (none-some r (sym e))
    left-is (Some r) (suc n) le e h = by (following_tsn r.last == t) refl
      where
        run : IsRun base (far_of base 0 (take n rs)) r
        run = (at-run base rs n r (sym e) are).0

        less : distance base r.last < distance base t
        less = grind (arith, nat_tests, h)

        by : (b : Bool) → (following_tsn r.last == t) ≡ b → IsLeftEnd (suc n) (if b then (r.first, suc n - 1) else (t, suc n))
        by true q =
            let last = run.near in
            let one = next-far base r.last hb run.last_fits (omega (arith, last)) in
            let there = ap (distance base) (same-is (following_tsn r.last) t q) in
            let sum = span base (far_of base 0 (take n rs)) r hb run in
            let order = run.order in
            let count : suc (distance r.first r.last) ≡ distance base t - distance base r.first = omega (arith, sum, one, there) in
            let place : n ≡ suc n - 1 = omega arith in
            subst (λ k. IsLeftEnd (suc n) (r.first, k)) place (record {
              fits = run.first_fits;
              low = omega arith;
              apart = run.apart;
              order = omega (arith, order, less);
              tsns = ap tsns_of (take-upto rs n r (sym e)) ∙ tsns-append (take n rs) (r ∷ [])
                  ∙ ap (λ ws. tsns_of (take n rs) ++ ws) (append-nil (tsns_from r.first (suc (distance r.first r.last))) ∙ ap (tsns_from r.first) count);
            })
        by false q =
            let last = run.near in
            let one = next-far base r.last hb run.last_fits (omega (arith, last)) in
            let ne : distance base (following_tsn r.last) ≡ distance base t → ⊥ = λ d. not_both (sym q ∙ ap (λ u. u == t)
            (same_distance base (following_tsn r.last) t hb (omega arith) ht d) ∙ same-yes t) in
            let end = ap (far_of base 0) (take-upto rs n r (sym e)) ∙ far-last base 0 (take n rs) r in
            here-left (suc n) (omega (arith, end, less, one, ne))

    here-right : (n : ℕ) → n ≤ length rs → AreRuns base (distance base t) (drop n rs) → IsRightEnd n (t, n)
    here-right n le rest = record {
      fits = ht;
      high = omega arith;
      within = le;
      order = omega arith;
      nearby = near;
      runs = rest;
      tsns = no-more (following_tsn t) (distance base t) (tsns_of (drop n rs));
    }

    pub right-is : (o : Option Run) (n : ℕ) → n ≤ length rs → o ≡ slice_get rs n → IfSome o (λ r. distance base t < distance base r.first)
        → IsRightEnd n (right_end_of t n o)
    right-is None n le e ahead = here-right n le (subst (AreRuns base (distance base t)) (sym (drop-none rs n (sym e))) tt)
    right-is (Some r) n le e ahead = by (following_tsn t == r.first) refl
      where
        both : IsRun base (far_of base 0 (take n rs)) r × AreRuns base (distance base r.last) (drop (suc n) rs)
        both = at-run base rs n r (sym e) are

        one : distance base (following_tsn t) ≡ distance base t + 1
        one = next-far base t hb ht (omega (arith, near))

        by : (b : Bool) → (following_tsn t == r.first) ≡ b → IsRightEnd n (if b then (r.last, n + 1) else (t, n))
        by true q =
            let there = same-is (following_tsn t) r.first q in
            let far-there = ap (distance base) there in
            let sum = span base (far_of base 0 (take n rs)) r hb both.0 in
            let order = both.0.order in
            let count : suc (distance r.first r.last) ≡ distance base r.last - distance base t = omega (arith, sum, one, far-there) in
            let place : suc n ≡ n + 1 = omega arith in
            let inside = got-within rs n r (sym e) in
            subst (λ k. IsRightEnd n (r.last, k)) place (record {
              fits = both.0.last_fits;
              high = omega arith;
              within = omega (arith, inside);
              order = omega (arith, ahead, order);
              nearby = both.0.near;
              runs = both.1;
              tsns = ap tsns_of (drop-from rs n r (sym e))
                  ∙ ap (λ k. tsns_from r.first k ++ tsns_of (drop (suc n) rs)) count
                  ∙ ap (λ u. tsns_from u (distance base r.last - distance base t) ++ tsns_of (drop (suc n) rs)) (sym there);
            })
        by false q =
            let ne : distance base (following_tsn t) ≡ distance base r.first → ⊥ = λ d. not_both (sym q ∙ ap (λ u. u == r.first)
            (same_distance base (following_tsn t) r.first hb (omega arith) both.0.first_fits d) ∙ same-yes r.first) in
            here-right n le (subst (AreRuns base (distance base t)) (sym (drop-from rs n r (sym e))) (
              record {
                first_fits = both.0.first_fits;
                last_fits = both.0.last_fits;
                apart = omega (arith, ahead, one, ne);
                order = both.0.order;
                near = both.0.near;
              },
              both.1,
            ))

    pub record IsPut (now : List Run) : Type 0 where
      pub runs : AreRuns base 0 now
      pub tsns : tsns_of now ≡ insert_before comes_before t (tsns_of rs)
      pub len : length now ≤ length rs + 1

    pub put-is : (n : ℕ) (l r : ℕ × ℕ) (now : List Run) → IsLeftEnd n l → IsRightEnd n r
        → now ≡ take l.1 rs ++ (let p : Run = record { first = l.0; last = r.0 } in p) ∷ drop r.1 rs → IsPut now
    put-is n l r now left right is =
        let front = (halves base rs l.1 are).0 in
        let joined : AreRuns base 0 (take l.1 rs ++ (let p : Run = record { first = l.0; last = r.0 } in p) ∷ drop r.1 rs) =
        runs-join base 0 (take l.1 rs) ((let p : Run = record { first = l.0; last = r.0 } in p) ∷ drop r.1 rs) front (
          record {
            first_fits = left.fits;
            last_fits = right.fits;
            apart = left.apart;
            order = let a = left.order in let b = right.order in omega (arith, a, b);
            near = right.nearby;
          },
          right.runs,
        ) in
        let k = distance base t - distance base l.0 in
        let m = distance base r.0 - distance base t in
        let sum = distance_rest base l.0 r.0 hb left.fits right.fits (let a = left.order in let b = right.order in omega (arith, a, b)) in
        let us = tsns_of (take l.1 rs) ++ tsns_from l.0 k in
        let vs = tsns_from (following_tsn t) m ++ tsns_of (drop r.1 rs) in
        let all : tsns_of (take l.1 rs ++ (let p : Run = record { first = l.0; last = r.0 } in p) ∷ drop r.1 rs) ≡ us ++ t ∷ vs =
        tsns-append (take l.1 rs) ((let p : Run = record { first = l.0; last = r.0 } in p) ∷ drop r.1 rs)
        ∙ ap (λ ws. tsns_of (take l.1 rs) ++ (ws ++ tsns_of (drop r.1 rs)))
        (run-cut base t l.0 (distance l.0 r.0) k m hb ht left.fits (let a = left.order in omega (arith, a)) near
        (let a = left.order in let b = right.order in omega (arith, a, b, sum)))
        ∙ regroup (tsns_of (take l.1 rs)) (tsns_from l.0 k) (tsns_from (following_tsn t) m) (tsns_of (drop r.1 rs)) [] t in
        let rise : rise_beyond base 1 (us ++ t ∷ vs) ≡ true = ap (rise_beyond base 1) (sym all) ∙ runs-rise base 0
        (take l.1 rs ++ (let p : Run = record { first = l.0; last = r.0 } in p) ∷ drop r.1 rs) hb joined in
        let parts : us ++ vs ≡ tsns_of rs = ap (λ ws. ws ++ vs) (sym left.tsns) ∙ ap (λ ws. tsns_of (take n rs) ++ ws) (sym right.tsns) ∙ whole rs n in
        record {
          runs = subst (AreRuns base 0) (sym is) joined;
          tsns = ap tsns_of is ∙ all ∙ sym (put-middle base 1 us t vs hb rise) ∙ ap (insert_before comes_before t) parts;
          len =
              let a = ap length is in
              let b = length-append (take l.1 rs) ((let p : Run = record { first = l.0; last = r.0 } in p) ∷ drop r.1 rs) in
              let c = length-take l.1 rs in
              let d = length-drop r.1 rs in
              let low = left.low in
              let high = right.high in
              omega (arith, a, b, c, d, low, high, right.within);
        }

-- ## A look

pub read-run : (rs : List Run) (k : ℕ) (r : Run) → k < length rs → r ≡ get_or rs k r → slice_get rs k ≡ Some r
read-run rs k r lt e = slice_get_read rs (length rs) k r refl lt e

pub read-before : (rs : List Run) (k : ℕ) (r : Run) → k < length rs → r ≡ get_or rs k r → Some r ≡ run_before (k + 1) rs
read-before rs k r lt e = let n : suc k ≡ k + 1 = omega arith in sym (read-run rs k r lt e) ∙ ap (λ j. run_before j rs) n

pub at-before : (rs : List Run) (o : Option Run) (n : ℕ) (r : Run) → o ≡ Some r → o ≡ run_before n rs → (slice_get rs (n - 1) ≡ Some r) × (0 < n)
at-before rs o zero r is e = absurd (none-some r (sym e ∙ is))
at-before rs o (suc n) r is e = let m : n ≡ suc n - 1 = omega arith in (subst (λ k. slice_get rs k ≡ Some r) m (sym e ∙ is), omega arith)

-- ## Edits

pub set-removed : (rs : List Run) (i : ℕ) (r : Run) → i + 1 < length rs → slice_set (remove rs i) i r ≡ take i rs ++ r ∷ drop (i + 2) rs
set-removed [] i r lt = absurd (omega (arith, lt))
set-removed (x ∷ []) zero r lt = absurd (omega (arith, lt))
set-removed (x ∷ y ∷ rs) zero r lt = refl
set-removed (x ∷ rs) (suc i) r lt =
    let n : suc (i + 2) ≡ suc i + 2 = omega arith in
    ap (λ us. x ∷ us) (set-removed rs i r (omega (arith, lt))) ∙ ap (λ k. x ∷ (take i rs ++ r ∷ drop k (x ∷ rs))) n

pub set-here : (rs : List Run) (i : ℕ) (r : Run) → i < length rs → slice_set rs i r ≡ take i rs ++ r ∷ drop (i + 1) rs
set-here rs i r lt = let n : suc i ≡ i + 1 = omega arith in set_split rs i r lt ∙ ap (λ k. take i rs ++ r ∷ drop k rs) n

pub no-piece : (r : Run) (t : ℕ) → r.first ≡ t → r.last ≡ t → pieces r t ≡ []
no-piece r t e f =
    let a : (r.first == t) ≡ true = ap (λ u. u == t) e ∙ same-yes t in
    let b : (r.last == t) ≡ true = ap (λ u. u == t) f ∙ same-yes t in
    ap (λ x. (if x then [] else (let p : Run = record { first = r.first; last = preceding_tsn t } in p) ∷ []) ++ right_piece r t) a
    ∙ ap (λ x. if x then [] else (let p : Run = record { first = following_tsn t; last = r.last } in p) ∷ []) b

pub one-piece : (r : Run) (t : ℕ) → r.first ≡ t → (r.last ≡ t → ⊥) → pieces r t ≡ (let p : Run = record { first = following_tsn t; last = r.last } in p) ∷ []
one-piece r t e ne =
    let a : (r.first == t) ≡ true = ap (λ u. u == t) e ∙ same-yes t in
    let b : (r.last == t) ≡ false = fails (r.last == t) (λ q. ne (same-is r.last t q)) in
    ap (λ x. (if x then [] else (let p : Run = record { first = r.first; last = preceding_tsn t } in p) ∷ []) ++ right_piece r t) a
    ∙ ap (λ x. if x then [] else (let p : Run = record { first = following_tsn t; last = r.last } in p) ∷ []) b

-- the run before a place has a TSN
pub record IsHeld (base t : ℕ) (rs : List Run) (n : ℕ) (r : Run) : Type 0 where
  pub at : slice_get rs n ≡ Some r
  pub begun : distance base r.first ≤ distance base t
  pub reached : distance base t ≤ distance base r.last

pub held-before : (base t : ℕ) (rs : List Run) (s : Spot) (r : Run) → IsSpot base t rs s → s.before ≡ Some r → reaches base t s.before ≡ true
    → IsHeld base t rs (s.place - 1) r
held-before base t rs s r spot is h =
    let held : reaches base t (Some r) ≡ true = ap (reaches base t) (sym is) ∙ h in
    record {
      at = (at-before rs s.before s.place r is spot.before).0;
      begun = subst (λ o. IfSome o (λ x. distance base x.first ≤ distance base t)) is spot.begun;
      reached = grind (arith, nat_tests, held);
    }
