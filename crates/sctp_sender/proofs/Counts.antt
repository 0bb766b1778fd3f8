-- Counts of places and of messages, for the turns of a SACK.
use Rattle.sctp_sender.proofs.Names.{◌≡◌, ◌≢◌, ℕ, zero, suc, ◌+◌, ◌*◌, ◌-◌, ◌<◌, ◌≤◌, Bool, true, false, List, [], ◌∷◌, ◌++◌, length, map, take, drop, get_or}
use Rattle.sctp_sender.proofs.Names.{Option, Some, None, refl, ap, sym, subst, ◌∙◌, inl, inr, arith, cond, ◌||◌, IfSome, if◌then◌else◌, count_by, filter}
use Rattle.sctp_sender.proofs.Names.{list_any, cases_eq, cases_lt, false≢true, nat_tests, get_or-map, get_or_past, length-map, length-take-le, map-append}
use Rattle.sctp_sender.proofs.Names.{take-append-drop, take_more, count_by_more_yes, sum_by-cons, or-left, or-none, or-right, list_any-append, map-twice}
use Rattle.sctp_sender.proofs.Names.{ChunkPayloadData, GapAckBlock, is_in_block, is_in_blocks, Released, distances_in, released_of, AreKnown, ascends_from}
use Rattle.sctp_sender.proofs.Names.{StandSideBySide, is_number, messages_of, judged}
use Rattle.std.proofs.lemmas.List.{get_or-take}
use Rattle.std.proofs.lemmas.List.Sums.{sum_by-drop_more, sum_by-le-sum_by, sum_by-take-drop, sum_by-take-le}
use Rattle.sctp_sender.proofs.Anew.{ahead, any-place, in-block}
use Rattle.sctp_sender.proofs.CompleteMessages.{cut}

-- ## Places

module _ {X : Type 0} (q : X → Bool) where
  pub count-up : (xs : List X) (i j : ℕ) → i ≤ j → count_by q (take i xs) ≤ count_by q (take j xs)
  count-up xs zero j le = omega arith
  count-up xs (suc i) zero le = absurd (omega (arith, le))
  count-up [] (suc i) (suc j) le = omega arith
  count-up (x ∷ xs) (suc i) (suc j) le =
      let h = count-up xs i j (omega (arith, le)) in
      let low : count_by q (take (suc i) (x ∷ xs)) ≡ cond (q x) 1 0 + count_by q (take i xs) = sum_by-cons (λ x. cond (q x) 1 0) x (take i xs) in
      let high : count_by q (take (suc j) (x ∷ xs)) ≡ cond (q x) 1 0 + count_by q (take j xs) = sum_by-cons (λ x. cond (q x) 1 0) x (take j xs) in
      omega (arith, h, low, high)

  -- it passes at so many places from one on
  pub count-run : (xs : List X) (d : X) (i n : ℕ) → i + n ≤ length xs → ((k : ℕ) → i ≤ k → k < i + n → q (get_or xs k d) ≡ true)
      → count_by q (take (i + n) xs) ≡ count_by q (take i xs) + n
  count-run xs d i zero le h = let e : i + 0 ≡ i = omega arith in let f = ap (λ k. count_by q (take k xs)) e in omega (arith, f)
  count-run xs d i (suc n) le h =
      let e : i + suc n ≡ (i + n) + 1 = omega arith in
      let f = ap (λ k. count_by q (take k xs)) e in
      let g = count_by_more_yes q xs (i + n) d (omega (arith, le)) (h (i + n) (omega arith) (omega arith)) in
      let r = count-run xs d i n (omega (arith, le)) (λ k low high. h k low (omega (arith, high))) in
      omega (arith, f, g, r)

  pub count-in : (xs : List X) (i : ℕ) → count_by q (take i xs) ≤ count_by q xs
  count-in xs i = sum_by-take-le (λ x. cond (q x) 1 0) xs i

  pub count-split : (xs : List X) (i : ℕ) → count_by q (take i xs) + count_by q (drop i xs) ≡ count_by q xs
  count-split xs i = sum_by-take-drop (λ x. cond (q x) 1 0) xs i

-- blocks that ascend report as many places as distances, each of which passes
pub count-blocks : (q : ChunkPayloadData → Bool) (cs : List ChunkPayloadData) (d : ChunkPayloadData) (count : ℕ) (bs : List GapAckBlock) (last : ℕ)
    → ascends_from last bs ≡ true → ((n : ℕ) → is_in_blocks bs n ≡ true → count + n ≤ length cs)
    → ((k : ℕ) → count ≤ k → is_in_blocks bs (suc k - count) ≡ true → q (get_or cs k d) ≡ true)
    → count_by q (take (count + last) cs) + distances_in bs ≤ count_by q cs
count-blocks q cs d count [] last up within passes = let h = count-in q cs (count + last) in omega (arith, h)
count-blocks q cs d count (b ∷ bs) last up within passes =
    let a = ahead last b bs up in
    let behind = a.behind in
    let runs = a.runs in
    let there : (n : ℕ) → b.start ≤ n → n ≤ b.end → is_in_blocks (b ∷ bs) n ≡ true =
    (λ n low high. or-left (is_in_block n b) (is_in_blocks bs n) (in-block n b low high)) in
    let end = within b.end (there b.end runs (omega arith)) in
    let from : ℕ = count + b.start - 1 in
    let many : ℕ = b.end + 1 - b.start in
    let to : from + many ≡ count + b.end = omega (arith, behind, runs) in
    let run = count-run q cs d from many (omega (arith, to, end))
    (λ k low high. passes k (omega (arith, low, behind)) (there (suc k - count) (omega (arith, low, behind)) (omega (arith, high, to, low, behind)))) in
    let same = ap (λ k. count_by q (take k cs)) to in
    let more = count-up q cs (count + last) from (omega (arith, behind)) in
    let rest = count-blocks q cs d count bs b.end a.ascend (λ n h. within n (or-right (is_in_block n b) (is_in_blocks bs n) h))
    (λ k low h. passes k low (or-right (is_in_block (suc k - count) b) (is_in_blocks bs (suc k - count)) h)) in
    let sum : distances_in (b ∷ bs) ≡ many + distances_in bs = sum_by-cons (λ (b : GapAckBlock). b.end + 1 - b.start) b bs in
    omega (arith, run, same, more, rest, sum)

-- blocks that are known are no more than chunks that are acknowledged
pub known-few : (cs : List ChunkPayloadData) (d : ChunkPayloadData) (bs : List GapAckBlock) (last : ℕ) → ascends_from last bs ≡ true → AreKnown bs cs
    → length bs + count_by (λ (c : ChunkPayloadData). c.acked) (take last cs) ≤ count_by (λ (c : ChunkPayloadData). c.acked) cs
known-few cs d [] last up known = let h = count-in (λ (c : ChunkPayloadData). c.acked) cs last in omega (arith, h)
known-few cs d (b ∷ bs) last up known =
    let q : ChunkPayloadData → Bool = λ c. c.acked in
    let a = ahead last b bs up in
    let behind = a.behind in
    let runs = a.runs in
    let k : ℕ = b.start - 1 in
    let is : suc k ≡ b.start = omega (arith, behind) in
    let in' : is_in_blocks (b ∷ bs) (suc k) ≡ true = or-left (is_in_block (suc k) b) (is_in_blocks bs (suc k))
    (in-block (suc k) b (omega (arith, is)) (omega (arith, is, runs))) in
    let yes = known k in' in
    let n = length-map cs (λ (c : ChunkPayloadData). c.acked) in
    let lt : k < length cs = elim (cases_lt k (length cs)) [
      | inl lt ↦ lt
      | inr ge ↦ absurd (false≢true (sym (get_or_past (map (λ (c : ChunkPayloadData). c.acked) cs) k false (omega (arith, n, ge))) ∙ yes))
    ] in
    let one = count_by_more_yes q cs k d lt (sym (get_or-map (λ (c : ChunkPayloadData). c.acked) cs k d false lt) ∙ yes) in
    let low = count-up q cs last k (omega (arith, is, behind)) in
    let high = count-up q cs (k + 1) b.end (omega (arith, is, runs)) in
    let rest = known-few cs d bs b.end a.ascend (λ j h. known j (or-right (is_in_block (suc j) b) (is_in_blocks bs (suc j)) h)) in
    omega (arith, one, low, high, rest)

-- ## Messages

same-yes : (m n : ℕ) → n ≡ m → is_number m n ≡ true
same-yes m n e = grind (arith, nat_tests, e)

module _ (m : ℕ) (cs : List ChunkPayloadData) (i : ℕ) (c : ChunkPayloadData) (lt : i < length cs) (is : c ≡ get_or cs i c) (own : c.message_id ≡ m) where
  abbrev those : List ℕ
  those = messages_of cs

  yes : is_number m (get_or those i 0) ≡ true
  yes = same-yes m (get_or those i 0)
      (get_or-map (λ (c : ChunkPayloadData). c.message_id) cs i c 0 lt ∙ ap (λ (c : ChunkPayloadData). c.message_id) (sym is) ∙ own)

  in-range : i < length those
  in-range = let n = length-map cs (λ (c : ChunkPayloadData). c.message_id) in omega (arith, n, lt)

  -- one more of the message before the next place, one fewer behind it
  pub one-taken : count_by (is_number m) (take (i + 1) those) ≡ count_by (is_number m) (take i those) + 1
  one-taken = count_by_more_yes (is_number m) those i 0 in-range yes

  pub one-dropped : count_by (is_number m) (drop i those) ≡ count_by (is_number m) (drop (i + 1) those) + 1
  one-dropped =
      let h = sum_by-drop_more (λ n. cond (is_number m n) 1 0) those i 0 in-range in
      let e = ap {B = ℕ} (λ b. cond b 1 0) yes in
      omega (arith, h, e)

abbrev pub among : List ℕ → ℕ → Bool
among ns n = list_any (is_number n) ns

abbrev pub numbers_of : List Released → List ℕ
numbers_of rs = map (λ r. r.message) rs

module _ (ms : List ℕ) (m : ℕ) where
  joined : (n : ℕ) → among (ms ++ m ∷ []) n ≡ (among ms n || is_number n m)
  joined n = list_any-append (is_number n) ms (m ∷ []) ∙ ap (λ b. among ms n || b) (or-none (is_number n m))

  grown : (a b : Bool) → cond a 1 0 ≤ cond (a || b) 1 0
  grown true b = omega arith
  grown false b = omega arith

  -- no fewer are of one of more messages
  pub among-grows : (xs : List ℕ) → count_by (among ms) xs ≤ count_by (among (ms ++ m ∷ [])) xs
  among-grows xs = sum_by-le-sum_by (λ n. cond (among ms n) 1 0) (λ n. cond (among (ms ++ m ∷ []) n) 1 0) xs
      (λ n. subst (λ b. cond (among ms n) 1 0 ≤ cond b 1 0) (sym (joined n)) (grown (among ms n) (is_number n m)))

  -- those of one that is not among them are others
  pub among-more : among ms m ≡ false → (xs : List ℕ) → count_by (among ms) xs + count_by (is_number m) xs ≤ count_by (among (ms ++ m ∷ [])) xs
  among-more none [] = omega arith
  among-more none (x ∷ xs) =
      let h = among-more none xs in
      let a = sum_by-cons (λ n. cond (among ms n) 1 0) x xs in
      let b = sum_by-cons (λ n. cond (is_number m n) 1 0) x xs in
      let c = sum_by-cons (λ n. cond (among (ms ++ m ∷ []) n) 1 0) x xs in
      let here : cond (among ms x) 1 0 + cond (is_number m x) 1 0 ≤ cond (among (ms ++ m ∷ []) x) 1 0 = one x in
      omega (arith, h, a, b, c, here)
    where
      one : (x : ℕ) → cond (among ms x) 1 0 + cond (is_number m x) 1 0 ≤ cond (among (ms ++ m ∷ []) x) 1 0
      one x = elim (cases_eq x m) [
        | inl same ↦
            let no : among ms x ≡ false = ap (among ms) same ∙ none in
            let yes : is_number m x ≡ true = grind (arith, nat_tests, same) in
            let turned : is_number x m ≡ true = grind (arith, nat_tests, same) in
            let all : among (ms ++ m ∷ []) x ≡ true = joined x ∙ ap (λ b. b || is_number x m) no ∙ turned in
            let d = ap {B = ℕ} (λ b. cond b 1 0) no in
            let e = ap {B = ℕ} (λ b. cond b 1 0) yes in
            let f = ap {B = ℕ} (λ b. cond b 1 0) all in
            omega (arith, d, e, f)
        | inr other ↦
            let no : is_number m x ≡ false = grind (arith, nat_tests, other) in
            let d = ap {B = ℕ} (λ b. cond b 1 0) no in
            let g = grown (among ms x) (is_number x m) in
            let j = ap {B = ℕ} (λ b. cond b 1 0) (joined x) in
            omega (arith, d, g, j)
      ]

-- a number that differs from the one before it stands nowhere before
pub none-among : (ms : List ℕ) (i : ℕ) → StandSideBySide ms → i < length ms → (0 < i → get_or ms (i - 1) 0 ≢ get_or ms i 0)
    → among (take i ms) (get_or ms i 0) ≡ false
none-among ms i s lt differ = by (among (take i ms) (get_or ms i 0)) refl
  where
    by : (b : Bool) → among (take i ms) (get_or ms i 0) ≡ b → among (take i ms) (get_or ms i 0) ≡ false
    by false e = e
    by true e =
        let p = any-place (is_number (get_or ms i 0)) (take i ms) e in
        let k = p.0 in
        let n = length-take-le i ms (omega (arith, lt)) in
        let low : k < i = let less = p.1 in omega (arith, less, n) in
        let hit : get_or ms k 0 ≡ get_or ms i 0 = let h = p.2 0 in sym (get_or-take i ms k 0 low) ∙ grind (arith, nat_tests, h) in
        let back : suc (i - 1) ≡ i = omega (arith, low) in
        absurd (cut ms (i - 1) k i 0 s (λ e. differ (omega (arith, low)) (e ∙ ap (λ j. get_or ms j 0) back)) (omega (arith, low)) (omega (arith, low)) lt hit)

-- one more is judged: a message that was not the last one is looked at
pub one-judged : (ms xs : List ℕ) (i m t u v : ℕ) (last : Option (ℕ × Bool)) → StandSideBySide ms → i < length ms → m ≡ get_or ms i 0
    → IfSome last (λ k. (0 < i) × (k.0 ≡ get_or ms (i - 1) 0)) → (last ≡ None → i ≡ 0) → u ≤ t + 2 * i + count_by (among (take i ms)) xs
    → IfSome last (λ k. k.0 ≡ m → v ≡ u) → v ≤ u + 2 + count_by (is_number m) xs → v ≤ t + 2 * (i + 1) + count_by (among (take (i + 1) ms)) xs
one-judged ms xs i m t u v last s lt is own first cost same more = by last own first same
  where
    next : count_by (among (take (i + 1) ms)) xs ≡ count_by (among (take i ms ++ m ∷ [])) xs
    next = ap (λ ns. count_by (among ns) xs) (take_more ms i 0 lt ∙ ap (λ n. take i ms ++ n ∷ []) (sym is))

    grows : count_by (among (take i ms)) xs ≤ count_by (among (take i ms ++ m ∷ [])) xs
    grows = among-grows (take i ms) m xs

    new : (0 < i → get_or ms (i - 1) 0 ≢ get_or ms i 0) → v ≤ t + 2 * (i + 1) + count_by (among (take (i + 1) ms)) xs
    new differ =
        let none : among (take i ms) m ≡ false = ap (among (take i ms)) is ∙ none-among ms i s lt differ in
        let h = among-more (take i ms) m none xs in
        omega (arith, next, h, cost, more)

    by : (last : Option (ℕ × Bool)) → IfSome last (λ k. (0 < i) × (k.0 ≡ get_or ms (i - 1) 0)) → (last ≡ None → i ≡ 0)
        → IfSome last (λ k. k.0 ≡ m → v ≡ u) → v ≤ t + 2 * (i + 1) + count_by (among (take (i + 1) ms)) xs
    by None own first same = let none = first refl in new (λ pos. absurd (omega (arith, pos, none)))
    by (Some k) own first same = elim (cases_eq k.0 m) [
      | inl e ↦ (let stays = same e in omega (arith, stays, next, grows, cost))
      | inr ne ↦ new (λ pos e. ne (own.1 ∙ e ∙ sym is))
    ]

-- ## What is told of one after another

same-numbers : (partial : Option ℕ) (cs : List ChunkPayloadData) (rs : List Released) → numbers_of (map (judged partial cs) rs) ≡ numbers_of rs
same-numbers partial cs rs = map-twice (λ (r : Released). r.message) (judged partial cs) rs

-- while some are judged their messages stay
pub numbers-stay : (partial : Option ℕ) (cs : List ChunkPayloadData) (old new : List Released) (i : ℕ)
    → map (judged partial cs) old ≡ take i new ++ map (judged partial cs) (drop i new) → numbers_of new ≡ numbers_of old
numbers-stay partial cs old new i e =
    sym (ap (λ (rs : List Released). numbers_of rs) (take-append-drop i new)) ∙ map-append (λ (r : Released). r.message) (take i new) (drop i new)
    ∙ ap (λ ns. numbers_of (take i new) ++ ns) (sym (same-numbers partial cs (drop i new)))
    ∙ sym (map-append (λ (r : Released). r.message) (take i new) (map (judged partial cs) (drop i new)))
    ∙ ap (λ (rs : List Released). numbers_of rs) (sym e) ∙ same-numbers partial cs old

pub numbers-of-those : (w : ℕ → Bool) (xs : List ChunkPayloadData) → numbers_of (map (released_of w) xs) ≡ messages_of xs
numbers-of-those w xs = map-twice (λ (r : Released). r.message) (released_of w) xs

-- ## Those that are picked stand side by side too

skip-one : (m n : ℕ) (ms : List ℕ) → StandSideBySide (m ∷ n ∷ ms) → StandSideBySide (m ∷ ms)
skip-one m n [] s = tt
skip-one m n (k ∷ ms) s = (
  λ h.
      let first : n ≡ m = s.0 (or-right (is_number m n) (list_any (is_number m) (k ∷ ms)) h) in
      s.1.0 (subst (λ a. list_any (is_number a) (k ∷ ms) ≡ true) (sym first) h) ∙ first,
  s.1.1,
)

any-picked : (q : ℕ → Bool) (p : ChunkPayloadData → Bool) (cs : List ChunkPayloadData) → list_any q (messages_of (filter p cs)) ≡ true
    → list_any q (messages_of cs) ≡ true
any-picked q p [] h = h
any-picked q p (c ∷ cs) h = by (p c) (any-picked q p cs) h
  where
    by : (b : Bool) → (list_any q (messages_of (filter p cs)) ≡ true → list_any q (messages_of cs) ≡ true)
        → list_any q (messages_of (if b then c ∷ filter p cs else filter p cs)) ≡ true → (q c.message_id || list_any q (messages_of cs)) ≡ true
    by false ih h = or-right (q c.message_id) (list_any q (messages_of cs)) (ih h)
    by true ih h = split (q c.message_id) h
      where
        split : (b : Bool) → (b || list_any q (messages_of (filter p cs))) ≡ true → (b || list_any q (messages_of cs)) ≡ true
        split true e = refl
        split false e = ih e

picked-behind : (m : ℕ) (p : ChunkPayloadData → Bool) (cs : List ChunkPayloadData) → StandSideBySide (m ∷ messages_of cs)
    → StandSideBySide (m ∷ messages_of (filter p cs))
picked-behind m p [] s = tt
picked-behind m p (c ∷ cs) s = by (p c) refl (picked-behind m p cs (skip-one m c.message_id (messages_of cs) s)) (picked-behind c.message_id p cs s.1)
  where
    by : (b : Bool) → p c ≡ b → StandSideBySide (m ∷ messages_of (filter p cs)) → StandSideBySide (c.message_id ∷ messages_of (filter p cs))
        → StandSideBySide (m ∷ messages_of (if b then c ∷ filter p cs else filter p cs))
    by false e without within = without
    by true e without within = (
      λ h. s.0 (any-picked (is_number m) p (c ∷ cs)
          (ap (λ b. list_any (is_number m) (messages_of (if b then c ∷ filter p cs else filter p cs))) e ∙ h)),
      within,
    )

tail-beside : (m : ℕ) (ms : List ℕ) → StandSideBySide (m ∷ ms) → StandSideBySide ms
tail-beside m [] s = tt
tail-beside m (n ∷ ms) s = s.1

pub picked-beside : (p : ChunkPayloadData → Bool) (cs : List ChunkPayloadData) → StandSideBySide (messages_of cs) → StandSideBySide (messages_of (filter p cs))
picked-beside p [] s = tt
picked-beside p (c ∷ cs) s = by (p c) (picked-behind c.message_id p cs s) (picked-beside p cs (tail-beside c.message_id (messages_of cs) s))
  where
    by : (b : Bool) → StandSideBySide (messages_of (c ∷ filter p cs)) → StandSideBySide (messages_of (filter p cs))
        → StandSideBySide (messages_of (if b then c ∷ filter p cs else filter p cs))
    by true within without = within
    by false within without = without
