-- What the sender keeps of messages and slots: fragments in order, side by side, in the order of the stream.
use Rattle.sctp_model.proofs.Names.{◌≡◌, ℕ, ◌+◌, ◌<◌, ◌≤◌, Bool, true, false, List, [], ◌∷◌, ◌++◌, length, refl, ap, ◌∙◌, arith, add-one, length-append}
use Rattle.sctp_model.proofs.Names.{if◌then◌else◌, ◌==◌, ◌&&◌, not, nat_lt, nat_tests, numbers_where, kept-same, kept-snoc}
use Rattle.sctp_model.proofs.sender.Shape.{Shape, SlotPart, has, sent, parts, partial, on, slotted}

abbrev pub is_terminal : Shape → ℕ → ℕ → Bool
is_terminal x n p = ((x.slot p).message == n) && (x.slot p).is_terminal_chunk

pub record Sender (x : Shape) : Type 0 where
  -- each message has a fragment
  pub some : (n : ℕ) → n < x.count → 0 < parts x n
  -- each slot is for a message
  pub made : (p : ℕ) → p < x.slots → (x.slot p).message < x.count
  -- a slot's fragment is the next of its message
  pub number : (p : ℕ) → p < x.slots → (x.slot p).fragment ≡ length (numbers_where (has x (x.slot p).message) 0 p)
  -- but for the first, it stands next to the one before it
  pub beside : (p : ℕ) → p < x.slots → (x.slot p).is_terminal_chunk ≡ false → 0 < (x.slot p).fragment
      → (q : ℕ) × (p ≡ q + 1) × (has x (x.slot p).message q ≡ true)
  -- the slots of a partially sent message are the last ones
  pub last : (n : ℕ) → partial x n ≡ true → (q : ℕ) × (x.slots ≡ q + 1) × (has x n q ≡ true)
  pub within : (n : ℕ) → n < x.count → sent x n ≤ parts x n
  -- an abandoned message that was not wholly sent has one terminal chunk
  pub terminals : (n : ℕ) → n < x.count
      → length (numbers_where (is_terminal x n) 0 x.slots) ≡ (if (x.message n).abandoned && nat_lt (sent x n) (parts x n) then 1 else 0)
  pub expired_unsent : (n : ℕ) → n < x.count → (x.message n).expired ≡ true → sent x n ≡ 0
  pub abandoned_sent : (n : ℕ) → n < x.count → (x.message n).abandoned ≡ true → 0 < sent x n
  -- the ordered messages of a stream are sent in turn
  pub turn : (s m n : ℕ) → m < n → n < x.count → on x s m ≡ true → on x s n ≡ true → 0 < sent x n → 0 < sent x m
  pub ascend : (s m n p q : ℕ) → m < n → on x s m ≡ true → on x s n ≡ true → p < x.slots → q < x.slots → has x m p ≡ true → has x n q ≡ true → p < q

-- ## One more slot

pub slot-old : (x : Shape) (n p : ℕ) (m : Bool) → p < x.slots → (slotted x n m).slot p ≡ x.slot p
slot-old x n p m lt = let e : (p == x.slots) ≡ false = grind (arith, nat_tests) in rw e refl

pub slot-new : (x : Shape) (n : ℕ) (m : Bool) → (slotted x n m).slot x.slots ≡ record { message = n; fragment = sent x n; is_terminal_chunk = m }
slot-new x n m = let e : (x.slots == x.slots) ≡ true = grind (arith, nat_tests) in rw e refl

-- a test on slots keeps what it kept, and the new one where it passes
kept-slots : (x : Shape) (n : ℕ) (m : Bool) (t : SlotPart → Bool) → numbers_where (λ p. t ((slotted x n m).slot p)) 0 (x.slots + 1)
    ≡ numbers_where (λ p. t (x.slot p)) 0 x.slots ++ (if t (record { message = n; fragment = sent x n; is_terminal_chunk = m }) then x.slots ∷ [] else [])
kept-slots x n m t =
    ap (numbers_where (λ p. t ((slotted x n m).slot p)) 0) (add-one x.slots)
    ∙ kept-snoc (λ p. t ((slotted x n m).slot p)) 0 x.slots x.slots (omega arith)
    ∙ ap (λ l. l ++ (if t ((slotted x n m).slot x.slots) then x.slots ∷ [] else []))
    (kept-same (λ p. t ((slotted x n m).slot p)) (λ p. t (x.slot p)) 0 x.slots (λ k a b. ap t (slot-old x n k m (omega arith))))
    ∙ ap (λ y. numbers_where (λ p. t (x.slot p)) 0 x.slots ++ (if t y then x.slots ∷ [] else [])) (slot-new x n m)

one-more : (xs : List ℕ) (p : ℕ) (b : Bool) → length (xs ++ (if b then p ∷ [] else [])) ≡ length xs + (if b then 1 else 0)
one-more xs p b = grind (arith, nat_tests, length-append)

pub sent-slotted : (x : Shape) (n k : ℕ) (m : Bool) → sent (slotted x n m) k ≡ sent x k + (if (n == k) && not m then 1 else 0)
sent-slotted x n k m = ap length (kept-slots x n m (λ y. (y.message == k) && not y.is_terminal_chunk))
    ∙ one-more (numbers_where (has x k) 0 x.slots) x.slots ((n == k) && not m)

pub terminals-slotted : (x : Shape) (n k : ℕ) (m : Bool)
    → length (numbers_where (is_terminal (slotted x n m) k) 0 (x.slots + 1))
    ≡ length (numbers_where (is_terminal x k) 0 x.slots) + (if (n == k) && m then 1 else 0)
terminals-slotted x n k m = ap length (kept-slots x n m (λ y. (y.message == k) && y.is_terminal_chunk))
    ∙ one-more (numbers_where (is_terminal x k) 0 x.slots) x.slots ((n == k) && m)
