-- The pairs of a FORWARD-TSN.
use Rattle.sctp_sender.proofs.Names.{◌≡◌, ℕ, zero, suc, ◌<◌, Bool, true, false, List, [], ◌∷◌, ◌++◌, length, set, get_or, Option, Some, None, refl, ap, sym}
use Rattle.sctp_sender.proofs.Names.{subst, ◌∙◌, arith, if◌then◌else◌, ◌==◌, append-nil, filter, same-is, those-append, ChunkPayloadData, ChunkForwardTsnStream}
use Rattle.sctp_sender.proofs.Names.{last_of, IsFirstPair, IsNoPair, Name, is_pair_of, pair_of, is_on}
use Rattle.sctp_sender.specs.Abandonment.{pairs_of}

-- ## A list with one element changed

those-yes : {A : Type 0} (p : A → Bool) (y : A) (ys : List A) → p y ≡ true → filter p (y ∷ ys) ≡ y ∷ filter p ys
those-yes p y ys e = ap (λ b. if b then y ∷ filter p ys else filter p ys) e

those-no : {A : Type 0} (p : A → Bool) (y : A) (ys : List A) → p y ≡ false → filter p (y ∷ ys) ≡ filter p ys
those-no p y ys e = ap (λ b. if b then y ∷ filter p ys else filter p ys) e

none-left : {A : Type 0} (xs : List A) → length xs < 1 → xs ≡ []
none-left [] lt = refl
none-left (x ∷ xs) lt = absurd (omega (arith, lt))

module _ {A : Type 0} (p : A → Bool) (x : A) where
  those-set-only : (ys : List A) (k : ℕ) → p x ≡ true → k < length ys → ((j : ℕ) (d : A) → j < k → p (get_or ys j d) ≡ false)
      → ((d : A) → p (get_or ys k d) ≡ true) → length (filter p ys) < 2 → filter p (set ys k x) ≡ x ∷ []
  those-set-only [] k passes lt before here few = absurd (omega (arith, lt))
  those-set-only (y ∷ ys) zero passes lt before here few =
      let n = ap length (those-yes p y ys (here y)) in
      those-yes p x ys passes ∙ ap (λ zs. x ∷ zs) (none-left (filter p ys) (omega (arith, n, few)))
  those-set-only (y ∷ ys) (suc k) passes lt before here few =
      let fails = before zero y (omega arith) in
      let n = ap length (those-no p y ys fails) in
      those-no p y (set ys k x) fails
      ∙ those-set-only ys k passes (omega (arith, lt)) (λ j d less. before (suc j) d (omega (arith, less))) here (omega (arith, n, few))

  those-set-other : (ys : List A) (k : ℕ) → p x ≡ false → k < length ys → ((d : A) → p (get_or ys k d) ≡ false) → filter p (set ys k x) ≡ filter p ys
  those-set-other [] k fails lt here = absurd (omega (arith, lt))
  those-set-other (y ∷ ys) zero fails lt here = those-no p x ys fails ∙ sym (those-no p y ys (here y))
  those-set-other (y ∷ ys) (suc k) fails lt here = by (p y) (those-set-other ys k fails (omega (arith, lt)) here)
    where
      by : (b : Bool) → filter p (set ys k x) ≡ filter p ys
          → (if b then y ∷ filter p (set ys k x) else filter p (set ys k x)) ≡ (if b then y ∷ filter p ys else filter p ys)
      by true e = ap (λ zs. y ∷ zs) e
      by false e = e

  those-absent : (ys : List A) → ((k : ℕ) (d : A) → k < length ys → p (get_or ys k d) ≡ false) → filter p ys ≡ []
  those-absent [] none = refl
  those-absent (y ∷ ys) none = those-no p y ys (none zero y (omega arith)) ∙ those-absent ys (λ k d lt. none (suc k) d (omega (arith, lt)))

-- ## One chunk more

pub last-push : (xs : List ChunkPayloadData) (c : ChunkPayloadData) → last_of (xs ++ c ∷ []) ≡ Some c
last-push [] c = refl
last-push (x ∷ []) c = refl
last-push (x ∷ y ∷ ys) c = last-push (y ∷ ys) c

at-most-one : (o : Option ChunkPayloadData) → length (pairs_of o) < 2
at-most-one None = omega arith
at-most-one (Some c) = omega arith

module _ (cs : List ChunkPayloadData) (c : ChunkPayloadData) (s : ℕ) where
  same-stream : is_on s c ≡ true → pairs_of (last_of (filter (is_on s) (cs ++ c ∷ []))) ≡ pair_of c ∷ []
  same-stream e =
      ap (λ xs. pairs_of (last_of xs)) (those-append (is_on s) cs (c ∷ []) ∙ ap (λ xs. filter (is_on s) cs ++ xs) (those-yes (is_on s) c [] e))
      ∙ ap pairs_of (last-push (filter (is_on s) cs) c)

  other-stream : is_on s c ≡ false → pairs_of (last_of (filter (is_on s) (cs ++ c ∷ []))) ≡ pairs_of (last_of (filter (is_on s) cs))
  other-stream e = ap (λ xs. pairs_of (last_of xs))
      (those-append (is_on s) cs (c ∷ []) ∙ ap (λ xs. filter (is_on s) cs ++ xs) (those-no (is_on s) c [] e) ∙ append-nil (filter (is_on s) cs))

pub renamed : (ps : List ChunkForwardTsnStream) (cs : List ChunkPayloadData) (c : ChunkPayloadData) (k : ℕ) → IsFirstPair c.stream_identifier ps k → Name ps cs
    → Name (set ps k (pair_of c)) (cs ++ c ∷ [])
renamed ps cs c k first names s = by (is_on s c) refl
  where
    by : (b : Bool) → is_on s c ≡ b → filter (is_pair_of s) (set ps k (pair_of c)) ≡ pairs_of (last_of (filter (is_on s) (cs ++ c ∷ [])))
    by true e =
        let same = same-is c.stream_identifier s e in
        let f = subst (λ t. IsFirstPair t ps k) same first in
        those-set-only (is_pair_of s) (pair_of c) ps k e f.inside f.before f.here
        (subst (λ xs. length xs < 2) (sym (names s)) (at-most-one (last_of (filter (is_on s) cs)))) ∙ sym (same-stream cs c s e)
    by false e =
        those-set-other (is_pair_of s) (pair_of c) ps k e first.inside (λ d. let h = same-is (get_or ps k d).identifier c.stream_identifier (first.here d) in
        ap (λ n. n == s) h ∙ e) ∙ names s ∙ sym (other-stream cs c s e)

pub added : (ps : List ChunkForwardTsnStream) (cs : List ChunkPayloadData) (c : ChunkPayloadData) → IsNoPair c.stream_identifier ps (length ps) → Name ps cs
    → Name (ps ++ pair_of c ∷ []) (cs ++ c ∷ [])
added ps cs c none names s = by (is_on s c) refl
  where
    by : (b : Bool) → is_on s c ≡ b → filter (is_pair_of s) (ps ++ pair_of c ∷ []) ≡ pairs_of (last_of (filter (is_on s) (cs ++ c ∷ [])))
    by true e =
        let same = same-is c.stream_identifier s e in
        let f = subst (λ t. IsNoPair t ps (length ps)) same none in
        those-append (is_pair_of s) ps (pair_of c ∷ []) ∙ ap (λ xs. xs ++ filter (is_pair_of s) (pair_of c ∷ [])) (those-absent (is_pair_of s) (pair_of c) ps f)
        ∙ those-yes (is_pair_of s) (pair_of c) [] e ∙ sym (same-stream cs c s e)
    by false e =
        those-append (is_pair_of s) ps (pair_of c ∷ []) ∙ ap (λ xs. filter (is_pair_of s) ps ++ xs) (those-no (is_pair_of s) (pair_of c) [] e)
        ∙ append-nil (filter (is_pair_of s) ps) ∙ names s ∙ sym (other-stream cs c s e)

-- inside a list the default does not matter
pub any-default : {A : Type 0} (xs : List A) (k : ℕ) (d e : A) → k < length xs → get_or xs k d ≡ get_or xs k e
any-default [] k d e lt = absurd (omega (arith, lt))
any-default (x ∷ xs) zero d e lt = refl
any-default (x ∷ xs) (suc k) d e lt = any-default xs k d e (omega (arith, lt))
