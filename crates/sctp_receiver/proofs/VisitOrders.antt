-- The order of the places that a FORWARD-TSN visits.
use Rattle.sctp_receiver.proofs.Names.{◌≡◌, ℕ, zero, suc, ◌+◌, ◌<◌, ◌≤◌, true, false, List, [], ◌∷◌, ◌++◌, length, length-set, Some, None, refl, ap, sym, ◌∙◌}
use Rattle.sctp_receiver.proofs.Names.{arith, ◌==◌, nat_lt, if◌then◌else◌, slice_get, slice_index_or, slice_set, option_map, lt-ltb, le-ltb, nat_tests}
use Rattle.sctp_receiver.proofs.Names.{slice_get_within, slice_get_past, slice_get_read, by_same, same-yes, some-same, AreInverse, is_spot_before, swapped}
use Rattle.sctp_receiver.proofs.Names.{length-take, take}
use Rattle.sctp_stream.proofs.Removals.{taken-at}
use Rattle.std.specs.Prelude.{Option}

-- ## What stands at a place of a list

pub set-here : {A : Type 0} (xs : List A) (i : ℕ) (y : A) → i < length xs → slice_get (slice_set xs i y) i ≡ Some y
set-here [] i y lt = absurd (omega arith)
set-here (x ∷ xs) zero y lt = refl
set-here (x ∷ xs) (suc i) y lt = set-here xs i y (omega arith)

pub set-there : {A : Type 0} (xs : List A) (i k : ℕ) (y : A) → (k ≡ i → ⊥) → slice_get (slice_set xs i y) k ≡ slice_get xs k
set-there [] i k y ne = refl
set-there (x ∷ xs) zero zero y ne = absurd (ne refl)
set-there (x ∷ xs) zero (suc k) y ne = refl
set-there (x ∷ xs) (suc i) zero y ne = refl
set-there (x ∷ xs) (suc i) (suc k) y ne = set-there xs i k y (λ e. ne (ap suc e))

-- ## Two spots change places

pub first-swapped : (i j : ℕ) → swapped i j i ≡ j
first-swapped i j = rw (same-yes i) refl

pub second-swapped : (i j : ℕ) → swapped i j j ≡ i
second-swapped i j = by_same j i (λ e. rw e (first-swapped i i)) (λ ne t. rw (t, same-yes j) refl)

pub other-swapped : (i j k : ℕ) → (k ≡ i → ⊥) → (k ≡ j → ⊥) → swapped i j k ≡ k
other-swapped i j k ni nj = by_same k i (λ e. absurd (ni e)) (λ _ t. by_same k j (λ e. absurd (nj e)) (λ _ u. rw (t, u) refl))

pub swapped-twice : (i j k : ℕ) → swapped i j (swapped i j k) ≡ k
swapped-twice i j k = by_same k i
    (λ e. rw (e, first-swapped i j) (second-swapped i j))
    (λ ni t. by_same k j
    (λ e. rw (e, second-swapped i j) (first-swapped i j))
    (λ nj u. rw (other-swapped i j k ni nj) (other-swapped i j k ni nj)))

-- the two entries are written
pub swapped-order : (order : List ℕ) (i j a b k : ℕ) → i < length order → j < length order → slice_get order i ≡ Some a → slice_get order j ≡ Some b
    → slice_get (slice_set (slice_set order i b) j a) k ≡ slice_get order (swapped i j k)
swapped-order order i j a b k li lj ha hb = by_same k j
    (λ e. rw (e, second-swapped i j) (set-here (slice_set order i b) j a (omega (arith, length-set order i b)) ∙ sym ha))
    (λ nj t. set-there (slice_set order i b) j k a nj ∙ by_same k i
    (λ e. rw (e, first-swapped i j) (set-here order i b li ∙ sym hb))
    (λ ni u. rw (other-swapped i j k ni nj) (set-there order i k b ni)))

-- and the spots of the two places
pub swapped-spots : (order spots : List ℕ) (i j a b p : ℕ) → AreInverse order spots → slice_get order i ≡ Some a → slice_get order j ≡ Some b
    → slice_get (slice_set (slice_set spots a j) b i) p ≡ option_map (swapped i j) (slice_get spots p)
swapped-spots order spots i j a b p inverse ha hb =
    let sa : slice_get spots a ≡ Some i = (inverse i a).0 ha in
    let sb : slice_get spots b ≡ Some j = (inverse j b).0 hb in
    let la = slice_get_within spots a i sa in
    let lb = slice_get_within spots b j sb in
    by_same p b
    (λ e. rw (e, sb) (set-here (slice_set spots a j) b i (omega (arith, length-set spots a j, lb)) ∙ ap Some (sym (second-swapped i j))))
    (λ nb t. set-there (slice_set spots a j) b p i nb ∙ by_same p a
    (λ e. rw (e, sa) (set-here spots a j la ∙ ap Some (sym (first-swapped i j))))
    (λ na u. set-there spots a p j na ∙ elsewhere na nb))
  where
    stays : (o : Option ℕ) → (o ≡ Some i → ⊥) → (o ≡ Some j → ⊥) → o ≡ option_map (swapped i j) o
    stays None ni nj = refl
    stays (Some k) ni nj = ap Some (sym (other-swapped i j k (λ e. ni (ap Some e)) (λ e. nj (ap Some e))))

    elsewhere : (p ≡ a → ⊥) → (p ≡ b → ⊥) → slice_get spots p ≡ option_map (swapped i j) (slice_get spots p)
    elsewhere na nb = stays (slice_get spots p)
        (λ e. na (some-same (sym ((inverse i p).1 e) ∙ ha)))
        (λ e. nb (some-same (sym ((inverse j p).1 e) ∙ hb)))

-- so each still stands at its spot
mapped-back : (i j k : ℕ) (o : Option ℕ) → option_map (swapped i j) o ≡ Some k → o ≡ Some (swapped i j k)
mapped-back i j k None e = cc
mapped-back i j k (Some m) e = ap Some (sym (swapped-twice i j m) ∙ ap (swapped i j) (some-same e))

pub swapped-inverse : (order spots order' spots' : List ℕ) (i j : ℕ) → AreInverse order spots
    → ((k : ℕ) → slice_get order' k ≡ slice_get order (swapped i j k))
    → ((p : ℕ) → slice_get spots' p ≡ option_map (swapped i j) (slice_get spots p))
    → AreInverse order' spots'
swapped-inverse order spots order' spots' i j inverse os ss k p = (
  λ e. ss p ∙ ap (option_map (swapped i j)) ((inverse (swapped i j k) p).0 (sym (os k) ∙ e)) ∙ ap Some (swapped-twice i j k),
  λ e. os k ∙ (inverse (swapped i j k) p).1 (mapped-back i j k (slice_get spots p) (sym (ss p) ∙ e)),
)

-- ## Which places are visited

-- the place at a spot, as it is read
pub read-at : {A : Type 0} (xs : List A) (i : ℕ) (x : A) → i < length xs → x ≡ slice_index_or xs i x → slice_get xs i ≡ Some x
read-at xs i x lt at = slice_get_read xs (length xs) i x refl lt at

-- its spot stands in the order
pub spot-inside : (order spots : List ℕ) (i p : ℕ) → AreInverse order spots → slice_get spots p ≡ Some i → i < length order
spot-inside order spots i p inverse at = slice_get_within order i p ((inverse i p).1 at)

-- the first spot behind those that are visited changes with that of a place that was not visited
pub inserted : (order spots : List ℕ) (i p count : ℕ) → AreInverse order spots → slice_get spots p ≡ Some i → count ≤ i → (q : ℕ)
    → is_spot_before (count + 1) (option_map (swapped i count) (slice_get spots q)) ≡ (if q == p then true else is_spot_before count (slice_get spots q))
inserted order spots i p count inverse at le q = by_same q p
    (λ e. rw (e, at, same-yes p) (ap (λ k. nat_lt k (count + 1)) (first-swapped i count) ∙ yes))
    (λ ne t. rw t (others (slice_get spots q) (λ h. ne (some-same (sym ((inverse i q).1 h) ∙ (inverse i p).1 at)))))
  where
    yes : nat_lt count (count + 1) ≡ true
    yes = lt-ltb count (count + 1) (omega arith)

    others : (o : Option ℕ) → (o ≡ Some i → ⊥) → is_spot_before (count + 1) (option_map (swapped i count) o) ≡ is_spot_before count o
    others None ne = refl
    others (Some k) ne = by_same k count
        (λ e. rw (e, second-swapped i count) (le-ltb i (count + 1) (omega (arith, le, λ (z : i ≡ count). ne (ap Some (e ∙ sym z))))
        ∙ sym (le-ltb count count (omega arith))))
        (λ nc t. rw (other-swapped i count k (λ z. ne (ap Some z)) nc) (same k nc))
      where
        same : (k : ℕ) → (k ≡ count → ⊥) → nat_lt k (count + 1) ≡ nat_lt k count
        same k nc = grind (arith, nat_tests)

-- the last spot of those that are visited changes with that of a place that was visited
pub removed : (order spots : List ℕ) (i p last : ℕ) → AreInverse order spots → slice_get spots p ≡ Some i → i ≤ last → (q : ℕ)
    → is_spot_before last (option_map (swapped i last) (slice_get spots q)) ≡ (if q == p then false else is_spot_before (last + 1) (slice_get spots q))
removed order spots i p last inverse at le q = by_same q p
    (λ e. rw (e, at, same-yes p) (ap (λ k. nat_lt k last) (first-swapped i last) ∙ le-ltb last last (omega arith)))
    (λ ne t. rw t (others (slice_get spots q) (λ h. ne (some-same (sym ((inverse i q).1 h) ∙ (inverse i p).1 at)))))
  where
    others : (o : Option ℕ) → (o ≡ Some i → ⊥) → is_spot_before last (option_map (swapped i last) o) ≡ is_spot_before (last + 1) o
    others None ne = refl
    others (Some k) ne = by_same k last
        (λ e. rw (e, second-swapped i last) (lt-ltb i last (omega (arith, le, λ (z : i ≡ last). ne (ap Some (e ∙ sym z))))
        ∙ sym (lt-ltb last (last + 1) (omega arith))))
        (λ nc t. rw (other-swapped i last k (λ z. ne (ap Some z)) nc) (same k nc))
      where
        same : (k : ℕ) → (k ≡ last → ⊥) → nat_lt k last ≡ nat_lt k (last + 1)
        same k nc = grind (arith, nat_tests)

-- ## One place more, and all anew

pub end-here : {A : Type 0} (xs : List A) (y : A) → slice_get (xs ++ y ∷ []) (length xs) ≡ Some y
end-here [] y = refl
end-here (x ∷ xs) y = end-here xs y

pub end-there : {A : Type 0} (xs : List A) (y : A) (k : ℕ) → (k ≡ length xs → ⊥) → slice_get (xs ++ y ∷ []) k ≡ slice_get xs k
end-there [] y zero ne = absurd (ne refl)
end-there [] y (suc k) ne = refl
end-there (x ∷ xs) y zero ne = refl
end-there (x ∷ xs) y (suc k) ne = end-there xs y k (λ e. ne (ap suc e))

one-way : (order spots : List ℕ) → ((i p : ℕ) → slice_get order i ≡ Some p → slice_get spots p ≡ Some i) → (i p : ℕ)
    → slice_get (order ++ length spots ∷ []) i ≡ Some p → slice_get (spots ++ length order ∷ []) p ≡ Some i
one-way order spots forth i p at = by_same i (length order)
    (λ e. let last : p ≡ length spots = some-same (sym at ∙ ap (slice_get (order ++ length spots ∷ [])) e ∙ end-here order (length spots)) in
    ap (slice_get (spots ++ length order ∷ [])) last ∙ end-here spots (length order) ∙ ap Some (sym e))
    (λ ne t. let there = forth i p (sym (end-there order (length spots) i ne) ∙ at) in
    let lt = slice_get_within spots p i there in
    end-there spots (length order) p (λ z. omega (arith, lt, z)) ∙ there)

pub one-more : (order spots : List ℕ) → AreInverse order spots → AreInverse (order ++ length spots ∷ []) (spots ++ length order ∷ [])
one-more order spots inverse i p =
    (one-way order spots (λ i p. (inverse i p).0) i p, one-way spots order (λ p i. (inverse i p).1) p i)

pub more-visited : (order spots : List ℕ) (count : ℕ) → count ≤ length order → (p : ℕ)
    → is_spot_before count (slice_get (spots ++ length order ∷ []) p) ≡ is_spot_before count (slice_get spots p)
more-visited order spots count within p = by_same p (length spots)
    (λ e. rw (e, end-here spots (length order), slice_get_past spots (length spots) (omega arith)) (le-ltb (length order) count within))
    (λ ne t. ap (is_spot_before count) (end-there spots (length order) p ne))

-- ## The last place is no more

-- spots behind those that are visited change places
pub behind-swapped : (s n count : ℕ) → count ≤ s → count ≤ n → (o : Option ℕ) → is_spot_before count (option_map (swapped s n) o) ≡ is_spot_before count o
behind-swapped s n count ls ln None = refl
behind-swapped s n count ls ln (Some k) = by_same k s
    (λ e. rw (e, first-swapped s n) (le-ltb n count ln ∙ sym (le-ltb s count ls)))
    (λ ns t. by_same k n
    (λ e. rw (e, second-swapped s n) (le-ltb s count ls ∙ sym (le-ltb n count ln)))
    (λ nn u. rw (other-swapped s n k ns nn) refl))

one-way-off : (order spots : List ℕ) (n : ℕ) → length spots ≡ n + 1 → ((i p : ℕ) → slice_get order i ≡ Some p → slice_get spots p ≡ Some i)
    → slice_get spots n ≡ Some n → (i p : ℕ) → slice_get (take n order) i ≡ Some p → slice_get (take n spots) p ≡ Some i
one-way-off order spots n count forth last i p at =
    let less = slice_get_within (take n order) i p at in
    let lt : i < n = omega (arith, less, length-take n order) in
    let there = forth i p (sym (taken-at order n i lt) ∙ at) in
    let inside = slice_get_within spots p i there in
    let differs : p ≡ n → ⊥ = λ z. (let same : n ≡ i = some-same (sym last ∙ ap (slice_get spots) (sym z) ∙ there) in omega (arith, same, lt)) in
    taken-at spots n p (omega (arith, inside, count, differs)) ∙ there

-- where the last place stands at the last spot, both are taken off
pub last-off : (order spots : List ℕ) (n : ℕ) → length order ≡ n + 1 → length spots ≡ n + 1 → AreInverse order spots → slice_get spots n ≡ Some n
    → AreInverse (take n order) (take n spots)
last-off order spots n os ss inverse last i p = (
  one-way-off order spots n ss (λ i p. (inverse i p).0) last i p,
  one-way-off spots order n os (λ p i. (inverse i p).1) ((inverse n n).1 last) p i,
)
