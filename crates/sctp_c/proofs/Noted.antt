-- The payload types that are noted of messages: found by halving, and kept while messages are seen.
use Rattle.std.proofs.Common.{◌≡◌, ℕ, zero, suc, ◌+◌, ◌<◌, ◌≤◌, ◌==◌, Bool, true, false, if◌then◌else◌, nat_lt, List, [], ◌∷◌, length, get_or, set, refl, ap, sym, subst, ◌∙◌, inl, inr, arith}
use Rattle.std.specs.Prelude.{◌⊎◌, Option, Some, None, IfSome}
use Rattle.std.specs.List.{AllWithin, filter, insert, remove}
use Rattle.std.specs.List.Sorted.{IsNonDecreasingBy, IsPartitionPoint}
use Rattle.std.proofs.lemmas.Bool.{cases_lt}
use Rattle.std.proofs.lemmas.List.{get_or_default}
use Rattle.std.proofs.lemmas.Bool.Decides.{nat_tests}
use Rattle.sctp_data.specs.declared.chunk.chunk_payload_data.ChunkPayloadData.{ChunkPayloadData}
use Rattle.sctp_data.specs.PayloadData.{payload_type_number}
use Rattle.sctp_c.specs.declared.sender.types.Noted.{Noted}
use Rattle.sctp_c.specs.Types.{Above, Sees, Up, is_stamped, type_of, type_sent}

-- ## Numbers of messages that do not fall

above-at : (m : ℕ) (rs : List Noted) → Above m rs → (j : ℕ) (d : Noted) → j < length rs → m ≤ (get_or rs j d).message
above-at m [] h j d lt = absurd (omega arith)
above-at m (r ∷ rs) h zero d lt = h.0
above-at m (r ∷ rs) h (suc j) d lt = above-at m rs h.1 j d (omega arith)

above-less : (m n : ℕ) (rs : List Noted) → n ≤ m → Above m rs → Above n rs
above-less m n [] le h = tt
above-less m n (r ∷ rs) le h = (omega (arith, h.0), above-less m n rs le h.1)

pub up-places : (rs : List Noted) → Up rs → IsNonDecreasingBy (λ (r : Noted). r.message) rs
up-places [] h i j d le lt = absurd (omega arith)
up-places (r ∷ rs) h zero zero d le lt = omega arith
up-places (r ∷ rs) h zero (suc j) d le lt = above-at r.message rs h.0 j d (omega arith)
up-places (r ∷ rs) h (suc i) zero d le lt = absurd (omega arith)
up-places (r ∷ rs) h (suc i) (suc j) d le lt = up-places rs h.1 i j d (omega arith) (omega arith)

-- the rows before a place are of lower numbers, and those from it on of no lower one
abbrev pub Parted : ℕ → ℕ → List Noted → Type 0
Parted m n rs =
    AllWithin (λ (r : Noted). nat_lt r.message m ≡ true) rs 0 n
    × AllWithin (λ (r : Noted). nat_lt r.message m ≡ false) rs n (length rs)

parted-rest : (m n : ℕ) (r : Noted) (rs : List Noted) → Parted m (suc n) (r ∷ rs) → Parted m n rs
parted-rest m n r rs h = (λ k d a b. h.0 (suc k) d (omega arith) (omega arith), λ k d a b. h.1 (suc k) d (omega arith) (omega arith))

parted-first : (m n : ℕ) (r : Noted) (rs : List Noted) → Parted m (suc n) (r ∷ rs) → r.message < m
parted-first m n r rs h = let lower = h.0 0 r (omega arith) (omega arith) in grind (arith, nat_tests, lower)

parted-here : (m : ℕ) (r : Noted) (rs : List Noted) → Parted m 0 (r ∷ rs) → m ≤ r.message
parted-here m r rs h = let higher = h.1 0 r (omega arith) (omega arith) in grind (arith, nat_tests, higher)

not-same : (a b : ℕ) → (a ≡ b → ⊥) → (a == b) ≡ false
not-same a b other = grind (arith, nat_tests, other)

same-number : (a b : ℕ) → (a == b) ≡ true → a ≡ b
same-number a b e = grind (arith, nat_tests, e)

is-same : (a : ℕ) → (a == a) ≡ true
is-same a = grind (arith, nat_tests)

above-cond : (m : ℕ) (b : Bool) (r : Noted) (rs : List Noted) → m ≤ r.message → Above m rs → Above m (if b then r ∷ rs else rs)
above-cond m true r rs le h = (le, h)
above-cond m false r rs le h = h

up-cond : (b : Bool) (r : Noted) (rs : List Noted) → Above r.message rs → Up rs → Up (if b then r ∷ rs else rs)
up-cond true r rs a h = (a, h)
up-cond false r rs a h = h

above-insert : (m : ℕ) (rs : List Noted) (n : ℕ) (y : Noted) → m ≤ y.message → Above m rs → Above m (insert rs n y)
above-insert m rs zero y le h = (le, h)
above-insert m [] (suc n) y le h = (le, tt)
above-insert m (r ∷ rs) (suc n) y le h = (h.0, above-insert m rs n y le h.1)

above-from : (m : ℕ) (rs : List Noted) → AllWithin (λ (r : Noted). nat_lt r.message m ≡ false) rs 0 (length rs) → Above m rs
above-from m [] h = tt
above-from m (r ∷ rs) h = (
  let higher = h 0 r (omega arith) (omega arith) in grind (arith, nat_tests, higher),
  above-from m rs (λ k d a b. h (suc k) d (omega arith) (omega arith)),
)

pub up-insert : (rs : List Noted) (n : ℕ) (y : Noted) → Up rs → Parted y.message n rs → Up (insert rs n y)
up-insert rs zero y h p = (above-from y.message rs p.1, h)
up-insert [] (suc n) y h p = (tt, tt)
up-insert (r ∷ rs) (suc n) y h p =
    let lower : r.message < y.message = parted-first y.message n r rs p in
    (above-insert r.message rs n y (omega (arith, lower)) h.0, up-insert rs n y h.1 (parted-rest y.message n r rs p))

above-remove : (m : ℕ) (rs : List Noted) (n : ℕ) → Above m rs → Above m (remove rs n)
above-remove m [] zero h = tt
above-remove m [] (suc n) h = tt
above-remove m (r ∷ rs) zero h = h.1
above-remove m (r ∷ rs) (suc n) h = (h.0, above-remove m rs n h.1)

pub up-remove : (rs : List Noted) (n : ℕ) → Up rs → Up (remove rs n)
up-remove [] zero h = tt
up-remove [] (suc n) h = tt
up-remove (r ∷ rs) zero h = h.1
up-remove (r ∷ rs) (suc n) h = (above-remove r.message rs n h.0, up-remove rs n h.1)

above-filter : (p : Noted → Bool) (m : ℕ) (rs : List Noted) → Above m rs → Above m (filter p rs)
above-filter p m [] h = tt
above-filter p m (r ∷ rs) h = above-cond m (p r) r (filter p rs) h.0 (above-filter p m rs h.1)

pub up-filter : (p : Noted → Bool) (rs : List Noted) → Up rs → Up (filter p rs)
up-filter p [] h = tt
up-filter p (r ∷ rs) h = up-cond (p r) r (filter p rs) (above-filter p r.message rs h.0) (up-filter p rs h.1)

-- a row with another stamp
abbrev pub restamped : ℕ → Noted → Noted
restamped s r = record r { stamp = s }

above-set : (s m : ℕ) (rs : List Noted) (n : ℕ) (d : Noted) → n < length rs → Above m rs → Above m (set rs n (restamped s (get_or rs n d)))
above-set s m [] n d lt h = absurd (omega arith)
above-set s m (r ∷ rs) zero d lt h = h
above-set s m (r ∷ rs) (suc n) d lt h = (h.0, above-set s m rs n d (omega arith) h.1)

pub up-set : (s : ℕ) (rs : List Noted) (n : ℕ) (d : Noted) → n < length rs → Up rs → Up (set rs n (restamped s (get_or rs n d)))
up-set s [] n d lt h = absurd (omega arith)
up-set s (r ∷ rs) zero d lt h = h
up-set s (r ∷ rs) (suc n) d lt h = (above-set s r.message rs n d (omega arith) h.0, up-set s rs n d (omega arith) h.1)

-- ## What is found

-- the answer of a test that is known
by-test : {A : Type 0} (b c : Bool) (x y : A) → b ≡ c → (if b then x else y) ≡ (if c then x else y)
by-test b c x y e = ap (λ t. if t then x else y) e

absent : (m : ℕ) (rs : List Noted) → Above (suc m) rs → type_of m rs ≡ 58
absent m [] h = refl
absent m (r ∷ rs) h = by-test (r.message == m) false r.number (type_of m rs) (not-same r.message m (λ e. omega (arith, e, h.0))) ∙ absent m rs h.1

unstamped : (s m : ℕ) (rs : List Noted) → Above (suc m) rs → is_stamped s m rs ≡ true
unstamped s m [] h = refl
unstamped s m (r ∷ rs) h =
    by-test (r.message == m) false (r.stamp == s) (is_stamped s m rs) (not-same r.message m (λ e. omega (arith, e, h.0))) ∙ unstamped s m rs h.1

-- it is the row at the place where it would stand
pub found-at : (m n : ℕ) (rs : List Noted) (d : Noted) → n < length rs → Parted m n rs → (get_or rs n d).message ≡ m → type_of m rs ≡ (get_or rs n d).number
found-at m n [] d lt p e = absurd (omega arith)
found-at m zero (r ∷ rs) d lt p e = by-test (r.message == m) true r.number (type_of m rs) (ap (λ k. k == m) e ∙ is-same m)
found-at m (suc n) (r ∷ rs) d lt p e =
    let lower : r.message < m = parted-first m n r rs p in
    by-test (r.message == m) false r.number (type_of m rs) (not-same r.message m (λ same. omega (arith, same, lower)))
    ∙ found-at m n rs d (omega arith) (parted-rest m n r rs p) e

pub found-none : (m n : ℕ) (rs : List Noted) → Up rs → Parted m n rs → ((d : Noted) → n < length rs → (get_or rs n d).message ≡ m → ⊥) → type_of m rs ≡ 58
found-none m n [] h p none = refl
found-none m zero (r ∷ rs) h p none =
    let le = parted-here m r rs p in
    let other : r.message ≡ m → ⊥ = λ e. none r (omega arith) e in
    by-test (r.message == m) false r.number (type_of m rs) (not-same r.message m other)
    ∙ absent m rs (above-less r.message (suc m) rs (grind (arith, le, other)) h.0)
found-none m (suc n) (r ∷ rs) h p none =
    let lower : r.message < m = parted-first m n r rs p in
    by-test (r.message == m) false r.number (type_of m rs) (not-same r.message m (λ e. omega (arith, e, lower)))
    ∙ found-none m n rs h.1 (parted-rest m n r rs p) (λ d lt e. none d (omega arith) e)

-- what was inserted is found
pub found-new : (rs : List Noted) (n : ℕ) (y : Noted) → n ≤ length rs → Parted y.message n rs → type_of y.message (insert rs n y) ≡ y.number
found-new rs zero y le p = by-test (y.message == y.message) true y.number (type_of y.message rs) (is-same y.message)
found-new [] (suc n) y le p = absurd (omega arith)
found-new (r ∷ rs) (suc n) y le p =
    let m = y.message in
    let lower : r.message < m = parted-first m n r rs p in
    by-test (r.message == m) false r.number (type_of m (insert rs n y)) (not-same r.message m (λ e. omega (arith, e, lower)))
    ∙ found-new rs n y (omega arith) (parted-rest m n r rs p)

-- and the others as before
pub found-others : (m : ℕ) (rs : List Noted) (n : ℕ) (y : Noted) → (y.message ≡ m → ⊥) → type_of m (insert rs n y) ≡ type_of m rs
found-others m rs zero y other = by-test (y.message == m) false y.number (type_of m rs) (not-same y.message m other)
found-others m [] (suc n) y other = by-test (y.message == m) false y.number 58 (not-same y.message m other)
found-others m (r ∷ rs) (suc n) y other = ap (λ t. if r.message == m then r.number else t) (found-others m rs n y other)

-- ## What is kept

kept-by : (s m : ℕ) (r : Noted) (rs : List Noted) (b c : Bool) → (r.message == m) ≡ b → (r.stamp == s) ≡ c
    → (if b then c else is_stamped s m rs) ≡ true → (is_stamped s m rs ≡ true → type_of m (filter (λ (x : Noted). x.stamp == s) rs) ≡ type_of m rs)
    → type_of m (if c then r ∷ filter (λ (x : Noted). x.stamp == s) rs else filter (λ (x : Noted). x.stamp == s) rs)
    ≡ (if b then r.number else type_of m rs)
kept-by s m r rs true true is stamp h rest = by-test (r.message == m) true r.number (type_of m (filter (λ (x : Noted). x.stamp == s) rs)) is
kept-by s m r rs true false is stamp h rest = absurd (grind (arith, h))
kept-by s m r rs false true is stamp h rest =
    by-test (r.message == m) false r.number (type_of m (filter (λ (x : Noted). x.stamp == s) rs)) is ∙ rest h
kept-by s m r rs false false is stamp h rest = rest h

pub kept : (s m : ℕ) (rs : List Noted) → is_stamped s m rs ≡ true → type_of m (filter (λ (x : Noted). x.stamp == s) rs) ≡ type_of m rs
kept s m [] h = refl
kept s m (r ∷ rs) h = kept-by s m r rs (r.message == m) (r.stamp == s) refl refl h (λ e. kept s m rs e)

-- ## What is seen

pub seen-types : (s m : ℕ) (rs : List Noted) (n : ℕ) (d : Noted) → n < length rs
    → type_of m (set rs n (restamped s (get_or rs n d))) ≡ type_of m rs
seen-types s m [] n d lt = absurd (omega arith)
seen-types s m (r ∷ rs) zero d lt = refl
seen-types s m (r ∷ rs) (suc n) d lt = ap (λ t. if r.message == m then r.number else t) (seen-types s m rs n d (omega arith))

seen-here : (s m : ℕ) (r : Noted) (rs : List Noted) (b : Bool) → (if b then r.stamp == s else is_stamped s m rs) ≡ true
    → (if b then s == s else is_stamped s m rs) ≡ true
seen-here s m r rs true h = is-same s
seen-here s m r rs false h = h

seen-behind : (s m : ℕ) (r : Noted) (rs ts : List Noted) (b : Bool) → (is_stamped s m rs ≡ true → is_stamped s m ts ≡ true)
    → (if b then r.stamp == s else is_stamped s m rs) ≡ true → (if b then r.stamp == s else is_stamped s m ts) ≡ true
seen-behind s m r rs ts true rest h = h
seen-behind s m r rs ts false rest h = rest h

-- what was seen stays seen
pub seen-others : (s m : ℕ) (rs : List Noted) (n : ℕ) (d : Noted) → n < length rs → is_stamped s m rs ≡ true
    → is_stamped s m (set rs n (restamped s (get_or rs n d))) ≡ true
seen-others s m [] n d lt h = absurd (omega arith)
seen-others s m (r ∷ rs) zero d lt h = seen-here s m r rs (r.message == m) h
seen-others s m (r ∷ rs) (suc n) d lt h =
    seen-behind s m r rs (set rs n (restamped s (get_or rs n d))) (r.message == m) (λ e. seen-others s m rs n d (omega arith) e) h

-- the row at the place where its message stands is seen now
pub seen-now : (s m : ℕ) (rs : List Noted) (n : ℕ) (d : Noted) → n < length rs → Parted m n rs → (get_or rs n d).message ≡ m
    → is_stamped s m (set rs n (restamped s (get_or rs n d))) ≡ true
seen-now s m [] n d lt p e = absurd (omega arith)
seen-now s m (r ∷ rs) zero d lt p e =
    by-test (r.message == m) true (s == s) (is_stamped s m rs) (ap (λ k. k == m) e ∙ is-same m) ∙ is-same s
seen-now s m (r ∷ rs) (suc n) d lt p e =
    let lower : r.message < m = parted-first m n r rs p in
    by-test (r.message == m) false (r.stamp == s) (is_stamped s m (set rs n (restamped s (get_or rs n d)))) (not-same r.message m (λ same. omega (arith, same, lower)))
    ∙ seen-now s m rs n d (omega arith) (parted-rest m n r rs p) e

-- where none stands there it is not noted
pub seen-none : (s m : ℕ) (rs : List Noted) (n : ℕ) → Up rs → Parted m n rs → ((d : Noted) → n < length rs → (get_or rs n d).message ≡ m → ⊥)
    → is_stamped s m rs ≡ true
seen-none s m [] n h p none = refl
seen-none s m (r ∷ rs) zero h p none =
    let le = parted-here m r rs p in
    let other : r.message ≡ m → ⊥ = λ e. none r (omega arith) e in
    by-test (r.message == m) false (r.stamp == s) (is_stamped s m rs) (not-same r.message m other)
    ∙ unstamped s m rs (above-less r.message (suc m) rs (grind (arith, le, other)) h.0)
seen-none s m (r ∷ rs) (suc n) h p none =
    let lower : r.message < m = parted-first m n r rs p in
    by-test (r.message == m) false (r.stamp == s) (is_stamped s m rs) (not-same r.message m (λ e. omega (arith, e, lower)))
    ∙ seen-none s m rs n h.1 (parted-rest m n r rs p) (λ d lt e. none d (omega arith) e)

-- ## Chunks

-- what is seen of a chunk stays so
pub sees-on : (s : ℕ) (old new : List Noted) (o : Option ChunkPayloadData) → ((m : ℕ) → is_stamped s m old ≡ true → is_stamped s m new ≡ true)
    → IfSome o (λ c. Sees s old c) → IfSome o (λ c. Sees s new c)
sees-on s old new None on h = tt
sees-on s old new (Some c) on h = λ e. on c.message_id (h e)

-- one chunk more is seen
pub sees-more : (s n : ℕ) (old new : List Noted) (at : ℕ → Option ChunkPayloadData) → ((i : ℕ) → i < n → IfSome (at i) (λ c. Sees s old c))
    → ((m : ℕ) → is_stamped s m old ≡ true → is_stamped s m new ≡ true) → IfSome (at n) (λ c. Sees s new c) → (i : ℕ) → i < n + 1
    → IfSome (at i) (λ c. Sees s new c)
sees-more s n old new at h on now i lt = by (cases_lt i n)
  where
    by : (i < n) ⊎ (n ≤ i) → IfSome (at i) (λ c. Sees s new c)
    by (inl less) = sees-on s old new (at i) on (h i less)
    by (inr le) = let same : n ≡ i = omega (arith, le, lt) in subst (λ k. IfSome (at k) (λ c. Sees s new c)) same now

type-kept : (s : ℕ) (old seen new : List Noted) (c : ChunkPayloadData) → ((m : ℕ) → type_of m seen ≡ type_of m old)
    → ((m : ℕ) → is_stamped s m seen ≡ true → type_of m new ≡ type_of m seen) → Sees s seen c → (b : Bool) → (payload_type_number c.payload_type == 58) ≡ b
    → (if b then type_of c.message_id new else payload_type_number c.payload_type) ≡ (if b then type_of c.message_id old else payload_type_number c.payload_type)
type-kept s old seen new c same kept h true e = kept c.message_id (h (same-number _ _ e)) ∙ same c.message_id
type-kept s old seen new c same kept h false e = refl

pub types-kept : (s : ℕ) (old seen new : List Noted) (o : Option ChunkPayloadData) → ((m : ℕ) → type_of m seen ≡ type_of m old)
    → ((m : ℕ) → is_stamped s m seen ≡ true → type_of m new ≡ type_of m seen) → IfSome o (λ c. Sees s seen c)
    → IfSome o (λ c. type_sent new c ≡ type_sent old c)
types-kept s old seen new None same kept h = tt
types-kept s old seen new (Some c) same kept h = type-kept s old seen new c same kept h (payload_type_number c.payload_type == 58) refl

-- ## Rows by their places

-- the row at a place, whatever stands in for one that is not there
pub at-place : (items rs : List Noted) (n : ℕ) (r d : Noted) → items ≡ rs → r ≡ get_or items n r → n < length rs → get_or rs n d ≡ r
at-place items rs n r d same is lt = get_or_default rs n d r lt ∙ ap (λ l. get_or l n r) (sym same) ∙ sym is

-- a row that is set is the one at its place, with another stamp
pub set-is : (items rs : List Noted) (s n : ℕ) (r : Noted) → items ≡ rs → r ≡ get_or items n r
    → set items n (restamped s r) ≡ set rs n (restamped s (get_or rs n r))
set-is items rs s n r same is = ap (λ l. set l n (restamped s r)) same ∙ ap (λ (x : Noted). set rs n (restamped s x)) (is ∙ ap (λ l. get_or l n r) same)
