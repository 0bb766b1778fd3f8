-- The ordered messages of a stream, by index, and the one that is expected next.
use Rattle.sctp_model.proofs.Names.{◌≡◌, ℕ, ◌+◌, ◌-◌, ◌<◌, ◌≤◌, true, false, length, drop, get_or, refl, ap, sym, ◌∙◌, inl, inr, arith, zero-add, ◌⊎◌, ◌==◌}
use Rattle.sctp_model.proofs.Names.{◌&&◌, not, cases_lt, numbers_where, leading, length-kept-lt, both, leading-passes, leading-stops, leading-le, leading-is}
use Rattle.sctp_model.proofs.Names.{get-drop, length-dropped, kept-get, kept-place, same-is, nat_tests}
use Rattle.sctp_model.proofs.sender.Shape.{Shape, on, index}
use Rattle.sctp_model.proofs.receiver.View.{View, line, next}

-- ## Indexes

pub on-stream : (x : Shape) (s n : ℕ) → on x s n ≡ true → (x.message n).stream ≡ s
on-stream x s n h = same-is (x.message n).stream s (both ((x.message n).stream == s) ((x.message n).ordered && not (x.message n).expired) h).0

pub on-ordered : (x : Shape) (s n : ℕ) → on x s n ≡ true → (x.message n).ordered ≡ true
on-ordered x s n h = grind (arith, nat_tests)

pub index_on : (x : Shape) (s n : ℕ) → on x s n ≡ true → index x n ≡ length (numbers_where (on x s) 0 n)
index_on x s n h = ap (λ r. length (numbers_where (on x r) 0 n)) (on-stream x s n h)

pub index-lt : (x : Shape) (s j k : ℕ) → on x s j ≡ true → on x s k ≡ true → j < k → index x j < index x k
index-lt x s j k a b lt = let l = length-kept-lt (on x s) 0 j k (ap (on x s) (zero-add j) ∙ a) lt in omega (arith, index_on x s j a, index_on x s k b, l)

pub index-same : (x : Shape) (s j k : ℕ) → on x s j ≡ true → on x s k ≡ true → index x j ≡ index x k → j ≡ k
index-same x s j k a b e = step (cases_lt j k) (cases_lt k j)
  where
    step : (j < k) ⊎ (k ≤ j) → (k < j) ⊎ (j ≤ k) → j ≡ k
    step (inl l) t = absurd (omega (arith, index-lt x s j k a b l))
    step (inr g) (inl l) = absurd (omega (arith, index-lt x s k j b a l))
    step (inr g) (inr h) = omega arith

pub line-at : (v : View) (s n d : ℕ) → n < v.x.count → on v.x s n ≡ true → get_or (line v s) (index v.x n) d ≡ n
line-at v s n d lt h = ap (λ i. get_or (line v s) i d) (index_on v.x s n h) ∙ kept-get (on v.x s) 0 v.x.count n n d (omega arith) lt h

pub index-short : (v : View) (s n : ℕ) → n < v.x.count → on v.x s n ≡ true → index v.x n < length (line v s)
index-short v s n lt h = let l = length-kept-lt (on v.x s) 0 n v.x.count (ap (on v.x s) (zero-add n) ∙ h) lt in omega (arith, index_on v.x s n h, l)

-- the message at a place of the line
pub record IsPlaced (v : View) (s j n : ℕ) : Type 0 where
  pub made : n < v.x.count
  pub on_it : on v.x s n ≡ true
  pub at : index v.x n ≡ j

pub index-at : (v : View) (s j : ℕ) → j < length (line v s) → IsPlaced v s j (get_or (line v s) j 0)
index-at v s j lt =
    let r = kept-place (on v.x s) 0 v.x.count j 0 lt in
    let k : get_or (line v s) j 0 ≡ r.k = omega (arith, r.is) in
    (grind (arith, nat_tests))

-- ## The one expected next

pub next_reads : (v : View) (s k : ℕ) → k < v.x.count → on v.x s k ≡ true → v.named s ≤ index v.x k → index v.x k < next v s → v.read k ≡ true
next_reads v s k lt h low high =
    let named = v.named s in
    let at : get_or (drop named (line v s)) (index v.x k - named) 0 ≡ k = get-drop named (line v s) (index v.x k - named) (index v.x k) 0 (omega arith)
    ∙ line-at v s k 0 lt h in
    ap v.read (sym at) ∙ leading-passes v.read (drop named (line v s)) (index v.x k - named) 0 (omega arith)

pub next_unread : (v : View) (s k : ℕ) → k < v.x.count → on v.x s k ≡ true → index v.x k ≡ next v s → v.read k ≡ false
next_unread v s k lt h e =
    let named = v.named s in
    let count = length (leading v.read (drop named (line v s))) in
    let at : get_or (drop named (line v s)) count 0 ≡ k = get-drop named (line v s) count (index v.x k) 0 e ∙ line-at v s k 0 lt h in
    ap v.read (sym at) ∙ leading-stops v.read (drop named (line v s)) 0 (omega (arith, length-dropped named (line v s), index-short v s k lt h, e))

-- the next one is settled by what is read before it and what is not at it
pub next_is : (v : View) (s i : ℕ) → v.named s ≤ i → i ≤ length (line v s) → ((k : ℕ) → v.named s ≤ k → k < i → v.read (get_or (line v s) k 0) ≡ true)
    → (i < length (line v s) → v.read (get_or (line v s) i 0) ≡ false) → next v s ≡ i
next_is v s i low high pass stop =
    let named = v.named s in
    let count : length (leading v.read (drop named (line v s))) ≡ i - named =
    leading-is v.read (drop named (line v s)) (i - named) 0 (omega (arith, length-dropped named (line v s)))
    (λ j lt. ap v.read (get-drop named (line v s) j (named + j) 0 refl) ∙ pass (named + j) (omega arith) (omega arith))
    (λ lt. ap v.read (get-drop named (line v s) (i - named) i 0 (omega arith)) ∙ stop (omega (arith, length-dropped named (line v s)))) in
    omega (arith, count)

pub next_le : (v : View) (s : ℕ) → v.named s ≤ length (line v s) → next v s ≤ length (line v s)
next_le v s made = omega (arith, length-dropped (v.named s) (line v s), leading-le v.read (drop (v.named s) (line v s)))

pub next_passes : (v : View) (s j : ℕ) → v.named s ≤ j → j < next v s → v.read (get_or (line v s) j 0) ≡ true
next_passes v s j low high =
    let named = v.named s in
    let at : get_or (drop named (line v s)) (j - named) 0 ≡ get_or (line v s) j 0 = get-drop named (line v s) (j - named) j 0 (omega arith) in
    ap v.read (sym at) ∙ leading-passes v.read (drop named (line v s)) (j - named) 0 (omega arith)

-- the same, by messages
pub next_by : (v : View) (s i : ℕ) → v.named s ≤ i → i ≤ length (line v s) → ((k : ℕ) → k < v.x.count → on v.x s k ≡ true → v.named s ≤ index v.x k
    → index v.x k < i → v.read k ≡ true) → ((k : ℕ) → k < v.x.count → on v.x s k ≡ true → index v.x k ≡ i → v.read k ≡ false) → next v s ≡ i
next_by v s i low high pass stop = next_is v s i low high
    (λ j a b. let r = index-at v s j (omega arith) in pass (get_or (line v s) j 0) r.made r.on_it (omega (arith, r.at)) (omega (arith, r.at)))
    (λ lt. let r = index-at v s i lt in stop (get_or (line v s) i 0) r.made r.on_it r.at)
