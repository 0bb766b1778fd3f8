use Rattle.sctp_model.proofs.Names.{◌≡◌, ℕ, ◌+◌, ◌<◌, ◌≤◌, Bool, true, false, refl, sym, ◌∙◌, arith, ◌⊎◌, if◌then◌else◌, ◌==◌, ◌&&◌, subst, kept-same, and}
use Rattle.sctp_model.proofs.Names.{by_same, same-yes, or-right, nat_tests}
use Rattle.sctp_model.proofs.sender.Shape.{Shape, MessagePart, sent, parts, index, slotted, written, abandoned_at, expired_at}
use Rattle.sctp_model.proofs.sender.Sender.{Sender, sent-slotted, slot-old}
use Rattle.sctp_model.proofs.sender.SenderSteps.{Takes, sent-other, sent-grows}
use Rattle.sctp_model.proofs.sender.Slots.{sent-made, sent-alive}

-- What later messages and slots leave as it was.

-- a message as it was written
abbrev pub as_written : MessagePart → MessagePart
as_written m = record m { expired = false; abandoned = false }

abbrev pub IsEnded : Shape → ℕ → Type 0
IsEnded x n = (sent x n ≡ parts x n) ⊎ ((x.message n).abandoned ≡ true)

pub record Grows (x y : Shape) : Type 0 where
  pub size : y.size ≡ x.size
  pub slots : x.slots ≤ y.slots
  pub slot : (p : ℕ) → p < x.slots → y.slot p ≡ x.slot p
  pub count : x.count ≤ y.count
  pub message : (n : ℕ) → n < x.count → as_written (y.message n) ≡ as_written (x.message n)
  pub abandoned : (n : ℕ) → n < x.count → (x.message n).abandoned ≡ true → (y.message n).abandoned ≡ true
  pub expired : (n : ℕ) → n < x.count → (x.message n).expired ≡ true → (y.message n).expired ≡ true
  pub sent_more : (n : ℕ) → sent x n ≤ sent y n
  -- a message that was sent wholly or abandoned gets no further slot
  pub ended : (n : ℕ) → 0 < sent x n → IsEnded x n → sent y n ≡ sent x n
  -- what was sent keeps its index
  pub same_index : (n : ℕ) → 0 < sent x n → (x.message n).ordered ≡ true → index y n ≡ index x n

pub grows-same : (x y : Shape) → y ≡ x → Grows x y
grows-same x y e = grind (arith, nat_tests)

pub grows-by : (x y z : Shape) → y ≡ z → Grows x z → Grows x y
grows-by x y z e g = subst (λ s. Grows x s) (sym e) g

pub parts-grown : (x y : Shape) → Grows x y → (n : ℕ) → n < x.count → parts y n ≡ parts x n
parts-grown x y g n lt = grind (arith, nat_tests)

pub grows-then : (x y z : Shape) → Sender x → Grows x y → Grows y z → Grows x z
grows-then x y z s f g = search (arith, nat_tests, sent-made, parts-grown)

-- ## Each change

pub grows-takes : (x : Shape) (n : ℕ) → Takes x n → Grows x (slotted x n false)
grows-takes x n t = grind (arith, nat_tests, sent-grows, sent-other)

none-more : (b : Bool) (c : ℕ) → c + (if b && false then 1 else 0) ≡ c
none-more b c = grind (arith, nat_tests)

pub grows-abandoned : (x : Shape) (n : ℕ) → Grows x (abandoned_at x n)
grows-abandoned x n = grind (arith, nat_tests)

pub grows-marked : (x : Shape) (n : ℕ) → Grows x (abandoned_at (slotted x n true) n)
grows-marked x n = record {
  size = refl;
  slots = omega arith;
  slot = λ p lt. slot-old x n p true lt;
  count = omega arith;
  message = λ k lt. refl;
  abandoned = λ k lt e. or-right (k == n) (x.message k).abandoned e;
  expired = λ k lt e. e;
  sent_more = λ k. sent-grows x n true k;
  ended = λ k a b. sent-slotted x n k true ∙ none-more (n == k) (sent x k);
  same_index = λ k a b. refl;
}

pub grows-expired : (x : Shape) (n : ℕ) → Sender x → sent x n ≡ 0 → (x.message n).expired ≡ false → Grows x (expired_at x n)
grows-expired x n s z alive = grind (arith, nat_tests, or-right, kept-same, and, same-yes, sent-alive, by_same, sent-made) steps 400000

pub grows-written : (x : Shape) (m : MessagePart) → Sender x → Grows x (written x m)
grows-written x m s = grind (arith, nat_tests, sent-made, kept-same)

-- a terminal chunk alone
pub grows-terminals : (x : Shape) (n : ℕ) → Grows x (slotted x n true)
grows-terminals x n = grind (arith, nat_tests, sent-slotted)
