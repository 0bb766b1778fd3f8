-- There are fewer than 2^31 slots.
use Rattle.sctp_model.proofs.Names.{◌≡◌, ℕ, zero, suc, ◌+◌, ◌<◌, ◌≤◌, ◌^◌, Bool, [], ◌∷◌, ◌++◌, length, refl, ap, sym, ◌∙◌, arith, length-append, if◌then◌else◌}
use Rattle.sctp_model.proofs.Names.{◌==◌, ◌&&◌, not, nat_lt, nat_tests, numbers_where, always, total_over, kept-snoc, Setup, LinkRecord, by_same, same-yes}
use Rattle.sctp_model.proofs.Names.{total-none, total-one, total-le}
use Rattle.sctp_model.proofs.sender.Shape.{Shape, shape, sent, parts}
use Rattle.sctp_model.proofs.sender.Sender.{Sender}
use Rattle.sctp_model.proofs.sender.SenderRun.{Consistent, accepted_of}

-- each of so many things is of one of the messages
counted : (g : ℕ → ℕ) (most things : ℕ) → ((p : ℕ) → p < things → g p < most)
    → total_over (λ n. length (numbers_where (λ p. g p == n) 0 things)) (numbers_where always 0 most) ≡ things
counted g most zero h = total-none (λ n. 0) 0 most (λ k a b. refl)
counted g most (suc things) h =
    let ih = counted g most things (λ p lt. h p (omega arith)) in
    let one = total-one (λ n. length (numbers_where (λ p. g p == n) 0 things)) (λ n. length (numbers_where (λ p. g p == n) 0 (suc things)))
    (g things) 1 0 most (omega arith) (omega (arith, h things (omega arith))) (λ k ne. sym (other k ne)) (sym here) in
    omega (arith, ih, one)
  where
    more : (k : ℕ)
        → length (numbers_where (λ p. g p == k) 0 (suc things)) ≡ length (numbers_where (λ p. g p == k) 0 things ++ (if g things == k then things ∷ [] else []))
    more k = ap length (kept-snoc (λ p. g p == k) 0 things things (omega arith))

    other : (k : ℕ) → (k ≡ g things → ⊥) → length (numbers_where (λ p. g p == k) 0 (suc things)) ≡ length (numbers_where (λ p. g p == k) 0 things)
    other k ne = more k ∙ by_same
        {P = length (numbers_where (λ p. g p == k) 0 things ++ (if g things == k then things ∷ [] else [])) ≡ length (numbers_where (λ p. g p == k) 0 things)}
        (g things) k
        (λ e. absurd (ne (sym e)))
        (λ n f. ap (λ b. length (numbers_where (λ p. g p == k) 0 things ++ (if b then things ∷ [] else []))) f
        ∙ (let z = length-append (numbers_where (λ p. g p == k) 0 things) [] in omega (arith, z)))

    here : length (numbers_where (λ p. g p == g things) 0 (suc things)) ≡ length (numbers_where (λ p. g p == g things) 0 things) + 1
    here = cc (more (g things), same-yes (g things), length-append (numbers_where (λ p. g p == g things) 0 things) (things ∷ []))

length-split : (p q : ℕ → Bool) (from count : ℕ)
    → length (numbers_where (λ k. p k && not (q k)) from count) + length (numbers_where (λ k. p k && q k) from count) ≡ length (numbers_where p from count)
length-split p q from zero = refl
length-split p q from (suc count) = grind (arith, nat_tests, (length-split p q (from + 1) count))

pub few-slots : (x : Shape) → Sender x → x.slots ≤ accepted_of x
few-slots x s = omega (
  arith,
  counted (λ p. (x.slot p).message) x.count x.slots s.made,
  total-le (λ n. length (numbers_where (λ p. (x.slot p).message == n) 0 x.slots)) (parts x) 0 x.count (λ n a b. each n (omega arith)),
)
  where
    one : (a b : Bool) (m p : ℕ) → m ≤ p → b ≡ nat_lt m p → m + (if a && b then 1 else 0) ≤ p
    one a b m p h1 h2 = grind (arith, nat_tests)

    each : (n : ℕ) → n < x.count → length (numbers_where (λ p. (x.slot p).message == n) 0 x.slots) ≤ parts x n
    each n lt = omega (
      arith,
      length-split (λ p. (x.slot p).message == n) (λ p. (x.slot p).is_terminal_chunk) 0 x.slots,
      s.terminals n lt,
      one (x.message n).abandoned (nat_lt (sent x n) (parts x n)) (sent x n) (parts x n) (s.within n lt) refl,
    )

pub few : (setup : Setup) (w : LinkRecord) → Consistent setup w → length w.slots < 2 ^ 31
few setup w g = omega (arith, few-slots (shape w) g.sender, g.accepted)
