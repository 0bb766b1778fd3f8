use Rattle.sctp_model.proofs.Names.{◌≡◌, ℕ, ◌<◌, Bool, true, false, length, Option, Some, None, refl, ap, inl, inr, arith, if◌then◌else◌, ◌==◌, ◌&&◌, not}
use Rattle.sctp_model.proofs.Names.{nat_lt, cases_lt, numbers_where, first_of, or_else, fails, and, length-kept-positive, same-yes, FirstOf, first-kept}
use Rattle.sctp_model.proofs.Names.{nat_tests}
use Rattle.sctp_model.proofs.sender.Shape.{Shape, sent, parts, partial, unsent, front_of}
use Rattle.sctp_model.proofs.sender.Sender.{Sender, is_terminal}
use Rattle.sctp_model.proofs.sender.SenderSteps.{Takes, sent-some, of-partial, partial-one}
use Rattle.sctp_model.proofs.sender.SenderEnds.{sent-none}

-- The message to send from is one whose next fragment can take a slot.

pub partial-made : (x : Shape) (n : ℕ) → Sender x → partial x n ≡ true → n < x.count
partial-made x n s h = elim (cases_lt n x.count) [ inl l ↦ l | inr g ↦ absurd (omega (arith, (of-partial x n h).some, sent-none x n s g)) ]

pub record IsUnsent (x : Shape) (n : ℕ) : Type 0 where
  pub none : sent x n ≡ 0
  pub alive : (x.message n).expired ≡ false

pub of-unsent : (x : Shape) (n : ℕ) → unsent x n ≡ true → IsUnsent x n
of-unsent x n h = grind (arith, nat_tests)

pub is-unsent : (x : Shape) (n : ℕ) → sent x n ≡ 0 → (x.message n).expired ≡ false → unsent x n ≡ true
is-unsent x n a b = and (sent x n == 0) (not (x.message n).expired) (ap (λ c. c == 0) a) (ap not b)

-- a front is partially sent or unsent
pub front-takes : (x : Shape) (n : ℕ) → Sender x → front_of x ≡ Some n → Takes x n
front-takes x n s e = first (first_of (numbers_where (partial x) 0 x.count)) (first-kept (partial x) x.count) e
  where
    first : (o : Option ℕ) → FirstOf (partial x) x.count o
        → or_else o (or_else (first_of (numbers_where (λ k. unsent x k && not (x.message k).ordered) 0 x.count))
        (first_of (numbers_where (λ k. unsent x k && (x.message k).ordered) 0 x.count))) ≡ Some n → Takes x n
    first o h1 h2 = search (arith, nat_tests, first-kept, of-partial, partial-made, fails, partial-one)

-- with no front nothing is partially sent and nothing is unsent
pub front-none : (x : Shape) → front_of x ≡ None → (n : ℕ) → n < x.count → (partial x n ≡ false) × (unsent x n ≡ false)
front-none x e n lt = grind (arith, nat_tests, first-kept)

-- a terminal chunk is of an abandoned message
pub mark-abandoned : (x : Shape) (p : ℕ) → Sender x → p < x.slots → (x.slot p).is_terminal_chunk ≡ true → (x.message (x.slot p).message).abandoned ≡ true
mark-abandoned x p s lt e =
    let n = (x.slot p).message in
    let some : 0 < length (numbers_where (is_terminal x n) 0 x.slots) = length-kept-positive (is_terminal x n) p 0 x.slots (omega arith) (omega arith)
    (and ((x.slot p).message == n) (x.slot p).is_terminal_chunk (same-yes n) e) in
    abandoned (x.message n).abandoned (omega (arith, some, s.terminals n (s.made p lt)))
  where
    abandoned : (b : Bool) → ◌<◌ 0 (if b && nat_lt (sent x (x.slot p).message) (parts x (x.slot p).message) then 1 else 0) → b ≡ true
    abandoned b h1 = grind (arith, nat_tests)

-- a message with a slot was sent, in part at least
pub slot-sent : (x : Shape) (p : ℕ) → Sender x → p < x.slots → 0 < sent x (x.slot p).message
slot-sent x p s lt = step (x.slot p).is_terminal_chunk refl
  where
    step : (b : Bool) → (x.slot p).is_terminal_chunk ≡ b → 0 < sent x (x.slot p).message
    step false e = sent-some x (x.slot p).message p lt
        (and ((x.slot p).message == (x.slot p).message) (not (x.slot p).is_terminal_chunk) (same-yes (x.slot p).message) (ap not e))
    step true e = s.abandoned_sent (x.slot p).message (s.made p lt) (mark-abandoned x p s lt e)
