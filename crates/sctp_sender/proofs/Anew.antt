-- What is told place by place of what a SACK reports anew.
use Rattle.sctp_sender.proofs.Names.{◌≡◌, ℕ, zero, suc, ◌+◌, ◌-◌, ◌<◌, ◌≤◌, Bool, true, false, List, [], ◌∷◌, ◌++◌, length, map, take, get_or, refl, ap, sym}
use Rattle.sctp_sender.proofs.Names.{subst, ◌∙◌, inl, inr, arith, if◌then◌else◌, ◌&&◌, ◌||◌, not, nat_le, nat_lt, filter, list_all, list_any, cases_lt}
use Rattle.sctp_sender.proofs.Names.{false≢true, nat_tests, append-nil, get_or-map, and-none, and-true, or-left, or-none, or-right, list_any-append, those-more}
use Rattle.sctp_sender.proofs.Names.{ChunkPayloadData, GapAckBlock, is_in_block, is_in_blocks, Released, released_of, AreKnown, ascends_from, PicksAnew}
use Rattle.sctp_sender.proofs.Names.{PicksOpen, no_message}
use Rattle.sctp_sender.proofs.MarkedPlaces.{all-answered}

-- ## Tests on lists

pub both : (a b : Bool) → (a && b) ≡ true → (a ≡ true) × (b ≡ true)
both true b e = (refl, e)
both false b e = absurd (false≢true e)

pub any-at : {X : Type 0} (q : X → Bool) (xs : List X) (i : ℕ) (d : X) → i < length xs → q (get_or xs i d) ≡ true → list_any q xs ≡ true
any-at q [] i d lt h = absurd (omega (arith, lt))
any-at q (x ∷ xs) zero d lt h = or-left (q x) (list_any q xs) h
any-at q (x ∷ xs) (suc i) d lt h = or-right (q x) (list_any q xs) (any-at q xs i d (omega (arith, lt)) h)

pub any-place : {X : Type 0} (q : X → Bool) (xs : List X) → list_any q xs ≡ true → (k : ℕ) × (k < length xs) × ((d : X) → q (get_or xs k d) ≡ true)
any-place q [] h = absurd (false≢true h)
any-place {X} q (x ∷ xs) h = by (q x) refl h (any-place q xs)
  where
    by : (b : Bool) → q x ≡ b → (b || list_any q xs) ≡ true → (list_any q xs ≡ true → (k : ℕ) × (k < length xs) × ((d : X) → q (get_or xs k d) ≡ true))
        → (k : ℕ) × (k < length (x ∷ xs)) × ((d : X) → q (get_or (x ∷ xs) k d) ≡ true)
    by true e h ih = (zero, omega arith, λ d. e)
    by false e h ih = let r = ih h in (suc r.0, omega (arith, r.1), r.2)

pub all-at : {X : Type 0} (q : X → Bool) (xs : List X) (i : ℕ) (d : X) → list_all q xs ≡ true → i < length xs → q (get_or xs i d) ≡ true
all-at q [] i d h lt = absurd (omega (arith, lt))
all-at q (x ∷ xs) zero d h lt = (both (q x) (list_all q xs) h).0
all-at q (x ∷ xs) (suc i) d h lt = all-at q xs i d (both (q x) (list_all q xs) h).1 (omega (arith, lt))

module _ {X : Type 0} (p : X → Bool) where
  -- none passes between two places
  pub none-between : (xs : List X) (i j : ℕ) → i ≤ j → ((k : ℕ) (d : X) → i ≤ k → k < j → k < length xs → p (get_or xs k d) ≡ false)
      → filter p (take j xs) ≡ filter p (take i xs)
  none-between xs zero zero le h = refl
  none-between xs (suc i) zero le h = absurd (omega (arith, le))
  none-between [] zero (suc j) le h = refl
  none-between [] (suc i) (suc j) le h = refl
  none-between (x ∷ xs) zero (suc j) le h =
      ap (λ b. if b then x ∷ filter p (take j xs) else filter p (take j xs)) (h 0 x (omega arith) (omega arith) (omega arith))
      ∙ none-between xs zero j (omega arith) (λ k d low high in'. h (suc k) d (omega arith) (omega (arith, high)) (omega (arith, in')))
  none-between (x ∷ xs) (suc i) (suc j) le h = ap (λ ys. if p x then x ∷ ys else ys)
      (none-between xs i j (omega (arith, le)) (λ k d low high in'. h (suc k) d (omega (arith, low)) (omega (arith, high)) (omega (arith, in'))))

  module _ (xs : List X) (i : ℕ) (x : X) (lt : i < length xs) (is : x ≡ get_or xs i x) where
    pub one-answered : p x ≡ true → filter p (take (i + 1) xs) ≡ filter p (take i xs) ++ x ∷ []
    one-answered h = those-more p xs i x lt ∙ ap (λ y. filter p (take i xs) ++ (if p y then y ∷ [] else [])) (sym is)
        ∙ ap (λ k. filter p (take i xs) ++ (if k then x ∷ [] else [])) h

    pub none-answered : p x ≡ false → filter p (take (i + 1) xs) ≡ filter p (take i xs)
    none-answered h = those-more p xs i x lt ∙ ap (λ y. filter p (take i xs) ++ (if p y then y ∷ [] else [])) (sym is)
        ∙ ap (λ k. filter p (take i xs) ++ (if k then x ∷ [] else [])) h ∙ append-nil (filter p (take i xs))

-- ## What is known to be acknowledged

pub known-acked : (bs : List GapAckBlock) (cs : List ChunkPayloadData) → AreKnown bs cs → (k : ℕ) (d : ChunkPayloadData)
    → is_in_blocks bs (suc k) ≡ true → k < length cs → (get_or cs k d).acked ≡ true
known-acked bs cs known k d h lt = sym (get_or-map (λ c. c.acked) cs k d false lt) ∙ known k h

pub in-block : (n : ℕ) (b : GapAckBlock) → b.start ≤ n → n ≤ b.end → is_in_block n b ≡ true
in-block n b low high = grind (arith, nat_tests, low, high)

pub jumped : (p : ChunkPayloadData → Bool) (bs : List GapAckBlock) (cs : List ChunkPayloadData) → AreKnown bs cs → (from to : ℕ) → PicksOpen p from to cs
    → (i : ℕ) (b : GapAckBlock) → i < length bs → b ≡ get_or bs i b → (place next : ℕ) → b.start ≤ place + 1 → from ≤ place → place ≤ next → next ≤ b.end
    → next ≤ to → filter p (take next cs) ≡ filter p (take place cs)
jumped p bs cs known from to picks i b lt is place next start low le end high = none-between p cs place next le (λ k d above below in'.
    let there : is_in_block (suc k) (get_or bs i b) ≡ true = ap (is_in_block (suc k)) (sym is)
    ∙ in-block (suc k) b (omega (arith, start, above)) (omega (arith, below, end)) in
    picks k d (omega (arith, low, above)) (omega (arith, below, high)) in'
    ∙ ap not (known-acked bs cs known k d (any-at (is_in_block (suc k)) bs i b lt there) in'))

-- ## Blocks that ascend

pub record IsAhead (last : ℕ) (b : GapAckBlock) (rest : List GapAckBlock) : Type 0 where
  pub behind : last < b.start
  pub runs : b.start ≤ b.end
  pub ascend : ascends_from b.end rest ≡ true

pub ahead : (last : ℕ) (b : GapAckBlock) (rest : List GapAckBlock) → ascends_from last (b ∷ rest) ≡ true → IsAhead last b rest
ahead last b rest e =
    let h = both (nat_lt last b.start && nat_le b.start b.end) (ascends_from b.end rest) e in
    let t = both (nat_lt last b.start) (nat_le b.start b.end) h.0 in
    record { behind = grind (arith, nat_tests, t.0); runs = grind (arith, nat_tests, t.1); ascend = h.1 }

pub none-up-to : (bs : List GapAckBlock) (last n : ℕ) → ascends_from last bs ≡ true → n ≤ last → is_in_blocks bs n ≡ false
none-up-to [] last n e le = refl
none-up-to (b ∷ bs) last n e le =
    let a = ahead last b bs e in
    let out : is_in_block n b ≡ false = let h = a.behind in grind (arith, nat_tests, h, le) in
    ap (λ k. k || is_in_blocks bs n) out ∙ none-up-to bs b.end n a.ascend (let h = a.behind in let r = a.runs in omega (arith, h, r, le))

-- ## One block more

both-hold : (a b : Bool) → a ≡ true → b ≡ true → (a && b) ≡ true
both-hold true b e h = h
both-hold false b e h = e

pub one-more-block : (bs : List GapAckBlock) (last x y : ℕ) → ascends_from last bs ≡ true → last < x → x ≤ y
    → ((n : ℕ) → x ≤ n → is_in_blocks bs n ≡ false) → ascends_from last (bs ++ (let b : GapAckBlock = record { start = x; end = y } in b) ∷ []) ≡ true
one-more-block [] last x y e lt le none = grind (arith, nat_tests, lt, le)
one-more-block (b ∷ bs) last x y e lt le none =
    let a = ahead last b bs e in
    let h = both (nat_lt last b.start && nat_le b.start b.end) (ascends_from b.end bs) e in
    let before : b.end < x = elim (cases_lt b.end x) [
      | inl less ↦ less
      | inr ge ↦
          absurd (false≢true (sym (none b.end ge) ∙ or-left (is_in_block b.end b) (is_in_blocks bs b.end) (in-block b.end b a.runs (omega arith))))
    ] in
    both-hold (nat_lt last b.start && nat_le b.start b.end) _ h.0
    (one-more-block bs b.end x y a.ascend before le (λ n le. or-last (is_in_block n b) (is_in_blocks bs n) (none n le)))
  where
    or-last : (p q : Bool) → (p || q) ≡ false → q ≡ false
    or-last true q e = absurd (false≢true (sym e))
    or-last false q e = e

pub in-more : (bs : List GapAckBlock) (b : GapAckBlock) (n : ℕ) → is_in_blocks (bs ++ b ∷ []) n ≡ (is_in_blocks bs n || is_in_block n b)
in-more bs b n = list_any-append (is_in_block n) bs (b ∷ []) ∙ ap (λ k. is_in_blocks bs n || k) (or-none (is_in_block n b))

-- ## Block by block

-- told of what the blocks before the rest report
pub record IsAnsweredTo (count : ℕ) (sorted rest : List GapAckBlock) (cs : List ChunkPayloadData) (rs : List Released) : Type 0 where
  pub last : ℕ
  pub within : count + last ≤ length cs
  pub ascend : ascends_from last rest ≡ true
  pub same : (n : ℕ) → last < n → is_in_blocks sorted n ≡ is_in_blocks rest n
  pub answered : (p : ChunkPayloadData → Bool) → PicksAnew p count sorted cs → rs ≡ map (released_of no_message) (filter p (take (count + last) cs))

module _ (count : ℕ) (sorted rest : List GapAckBlock) (b : GapAckBlock) (cs : List ChunkPayloadData) (rs : List Released)
    (t : IsAnsweredTo count sorted (b ∷ rest) cs rs) where
  a : IsAhead t.last b rest
  a = ahead t.last b rest t.ascend

  pub behind-last : t.last < b.start
  behind-last = a.behind

  in-this : (n : ℕ) → b.start ≤ n → n ≤ b.end → is_in_blocks sorted n ≡ true
  in-this n low high = t.same n (let h = a.behind in omega (arith, h, low)) ∙ or-left (is_in_block n b) (is_in_blocks rest n) (in-block n b low high)

  before-this : (n : ℕ) → t.last < n → n < b.start → is_in_blocks sorted n ≡ false
  before-this n low high =
      let out : is_in_block n b ≡ false = grind (arith, nat_tests, high) in
      t.same n low ∙ ap (λ k. k || is_in_blocks rest n) out ∙ none-up-to rest b.end n a.ascend (let r = a.runs in omega (arith, high, r))

  behind-this : (n : ℕ) → b.end < n → is_in_blocks sorted n ≡ is_in_blocks rest n
  behind-this n low =
      let out : is_in_block n b ≡ false = grind (arith, nat_tests, low) in
      t.same n (let h = a.behind in let r = a.runs in omega (arith, h, r, low)) ∙ ap (λ k. k || is_in_blocks rest n) out

  pub block-within : ((n : ℕ) → is_in_blocks sorted n ≡ true → count + n ≤ length cs) → count + b.end ≤ length cs
  block-within within = within b.end (in-this b.end a.runs (omega arith))

  module _ (from to : ℕ) (first : from + 1 ≡ count + b.start) (end : to ≡ count + b.end) (p : ChunkPayloadData → Bool)
      (picks : PicksAnew p count sorted cs) where
    back : (k : ℕ) → count + t.last ≤ k → nat_lt k count ≡ false
    back k low = grind (arith, nat_tests, low)

    pub open-block : PicksOpen p from to cs
    open-block k d low high in' =
        let here : is_in_blocks sorted (suc k - count) ≡ true = let h = a.behind in
        in-this (suc k - count) (omega (arith, low, first)) (omega (arith, high, end, low, first, h)) in
        picks k d in' ∙ ap (λ b. not (get_or cs k d).acked && b) (or-right (nat_lt k count) (is_in_blocks sorted (suc k - count)) here)
        ∙ and-true (not (get_or cs k d).acked)

    pub gap : rs ≡ map (released_of no_message) (filter p (take from cs))
    gap = t.answered p picks ∙ ap (map (released_of no_message))
        (sym (none-between p cs (count + t.last) from (let h = a.behind in omega (arith, h, first)) (λ k d low high in'.
        picks k d in' ∙ ap (λ b. not (get_or cs k d).acked && (b || is_in_blocks sorted (suc k - count))) (back k low)
        ∙ ap (λ b. not (get_or cs k d).acked && b) (before-this (suc k - count) (omega (arith, low)) (omega (arith, high, first, low)))
        ∙ and-none (not (get_or cs k d).acked))))

  pub next-block : (from to : ℕ) → from + 1 ≡ count + b.start → to ≡ count + b.end → ((n : ℕ) → is_in_blocks sorted n ≡ true → count + n ≤ length cs)
      → (rs' : List Released) → ((p : ChunkPayloadData → Bool) → PicksOpen p from to cs → rs ≡ map (released_of no_message) (filter p (take from cs))
      → rs' ≡ map (released_of no_message) (filter p (take to cs))) → IsAnsweredTo count sorted rest cs rs'
  next-block from to first end within rs' f = record {
    last = b.end;
    within = block-within within;
    ascend = a.ascend;
    same = behind-this;
    answered = λ p picks. subst (λ k. rs' ≡ map (released_of no_message) (filter p (take k cs))) end
        (f p (open-block from to first end p picks) (gap from to first end p picks));
  }

pub answered-all : (count : ℕ) (sorted : List GapAckBlock) (cs : List ChunkPayloadData) (rs : List Released) → IsAnsweredTo count sorted [] cs rs
    → (p : ChunkPayloadData → Bool) → PicksAnew p count sorted cs → rs ≡ map (released_of no_message) (filter p cs)
answered-all count sorted cs rs t p picks = t.answered p picks ∙ ap (map (released_of no_message))
    (all-answered p cs (count + t.last) (λ k d far lt.
    let back : nat_lt k count ≡ false = grind (arith, nat_tests, far) in
    picks k d lt ∙ ap (λ b. not (get_or cs k d).acked && (b || is_in_blocks sorted (suc k - count))) back
    ∙ ap (λ b. not (get_or cs k d).acked && b) (t.same (suc k - count) (omega (arith, far))) ∙ and-none (not (get_or cs k d).acked)))
