use Rattle.sctp_model.proofs.Names.{◌≡◌, ℕ, ◌+◌, ◌<◌, ◌≤◌, Bool, true, false, length, refl, ap, sym, ◌∙◌, inl, inr, arith, ◌⊎◌, if◌then◌else◌, ◌==◌, ◌&&◌, not}
use Rattle.sctp_model.proofs.Names.{nat_lt, cases_lt, nat_tests, numbers_where, kept-same, fails, not_both, both, length-kept-positive, by_last, by_same}
use Rattle.sctp_model.proofs.Names.{same-yes, same-is, negated}
use Rattle.sctp_model.proofs.sender.Shape.{Shape, has, sent, parts, partial, on, slotted}
use Rattle.sctp_model.proofs.sender.Sender.{Sender, sent-slotted, terminals-slotted, slot-old, slot-new}

-- Each change of messages and slots keeps what the sender keeps.

-- ## By cases

pub of-has : (x : Shape) (n p : ℕ) → has x n p ≡ true → ((x.slot p).message ≡ n) × ((x.slot p).is_terminal_chunk ≡ false)
of-has x n p h = grind (arith, nat_tests)

-- a slot with a fragment of a message: some was sent
pub sent-some : (x : Shape) (n p : ℕ) → p < x.slots → has x n p ≡ true → 0 < sent x n
sent-some x n p lt h = length-kept-positive (has x n) p 0 x.slots (omega arith) (omega arith) h

pub record IsPartial (x : Shape) (n : ℕ) : Type 0 where
  pub some : 0 < sent x n
  pub more : sent x n < parts x n
  pub alive : (x.message n).abandoned ≡ false

pub of-partial : (x : Shape) (n : ℕ) → partial x n ≡ true → IsPartial x n
of-partial x n h = grind (arith, nat_tests)

pub is-partial : (x : Shape) (n : ℕ) → 0 < sent x n → sent x n < parts x n → (x.message n).abandoned ≡ false → partial x n ≡ true
is-partial x n a b c = grind (arith, nat_tests)

-- at most one message is partially sent
pub partial-one : (x : Shape) (j k : ℕ) → Sender x → partial x j ≡ true → partial x k ≡ true → j ≡ k
partial-one x j k s a b = grind (arith, nat_tests, of-has) steps 60000

-- ## A fragment takes a slot

-- message n is one to send from
pub record Takes (x : Shape) (n : ℕ) : Type 0 where
  pub made : n < x.count
  pub more : sent x n < parts x n
  pub kept : (x.message n).expired ≡ false
  pub alive : (x.message n).abandoned ≡ false
  pub alone : (k : ℕ) → partial x k ≡ true → k ≡ n
  pub turn : (x.message n).ordered ≡ true → sent x n ≡ 0 → (m : ℕ) → m < n → (x.message m).ordered ≡ true → (x.message m).expired ≡ false → 0 < sent x m

module _ (x : Shape) (n : ℕ) (m : Bool) where
  abbrev y : Shape
  y = slotted x n m

  pub sent-other : (k : ℕ) → (n ≡ k → ⊥) → sent y k ≡ sent x k
  sent-other k ne = sent-slotted x n k m ∙ (let e : (n == k) ≡ false = fails (n == k) (λ h. ne (same-is n k h)) in rw e (omega arith))

  pub sent-grows : (k : ℕ) → sent x k ≤ sent y k
  sent-grows k = omega (arith, sent-slotted x n k m)

  pub has-old : (k p : ℕ) → p < x.slots → has y k p ≡ has x k p
  has-old k p lt = ap (λ s. (s.message == k) && not s.is_terminal_chunk) (slot-old x n p m lt)

  pub has-new : (k : ℕ) → has y k x.slots ≡ ((n == k) && not m)
  has-new k = ap (λ s. (s.message == k) && not s.is_terminal_chunk) (slot-new x n m)

  -- a slot has the number of its fragment
  pub number-slotted : Sender x → (p : ℕ) → p < y.slots → (y.slot p).fragment ≡ length (numbers_where (has y (y.slot p).message) 0 p)
  number-slotted s p lt = by_last p x.slots lt
      (λ l. ap (λ z. z.fragment) (slot-old x n p m l) ∙ s.number p l
      ∙ sym (ap (λ z. length (numbers_where (has y z.message) 0 p)) (slot-old x n p m l) ∙ upto (x.slot p).message p (omega arith)))
      (λ e. let q : (y.slot p).fragment ≡ sent x n = ap (λ r. (y.slot r).fragment) e ∙ ap (λ z. z.fragment) (slot-new x n m) in
      q ∙ sym (ap (λ r. length (numbers_where (has y (y.slot r).message) 0 r)) e ∙ ap (λ z. length (numbers_where (has y z.message) 0 x.slots)) (slot-new x n m)
      ∙ upto n x.slots (omega arith)))
    where
      upto : (k p : ℕ) → p ≤ x.slots → length (numbers_where (has y k) 0 p) ≡ length (numbers_where (has x k) 0 p)
      upto k p le = ap length (kept-same (has y k) (has x k) 0 p (λ j a b. has-old k j (omega arith)))

  pub made-slotted : Sender x → n < x.count → (p : ℕ) → p < y.slots → (y.slot p).message < y.count
  made-slotted s lt p l = grind (arith, nat_tests)

pub sent-here : (x : Shape) (n : ℕ) → sent (slotted x n false) n ≡ sent x n + 1
sent-here x n = sent-slotted x n n false ∙ (let e : (n == n) ≡ true = same-yes n in rw e refl)

abbrev pub Next : Shape → ℕ → Type 0
Next y p = (q : ℕ) × (p ≡ q + 1) × (has y (y.slot p).message q ≡ true)

abbrev pub Last : Shape → ℕ → Type 0
Last y k = (q : ℕ) × (y.slots ≡ q + 1) × (has y k q ≡ true)

abbrev pub terminals_due : Shape → ℕ → ℕ
terminals_due z k = if (z.message k).abandoned && nat_lt (sent z k) (parts z k) then 1 else 0

pub sender-takes : (x : Shape) (n : ℕ) → Sender x → Takes x n → Sender (slotted x n false)
sender-takes x n s t = record {
  some = s.some;
  made = made-slotted x n false s t.made;
  number = number-slotted x n false s;
  beside = λ p lt terminal pos. by_last {P = Next (slotted x n false) p} p x.slots lt (λ o. old p o terminal pos) (λ e. new p e pos);
  last = grind (arith, nat_tests, sent-other);
  within = λ k lt. by_same {P = sent (slotted x n false) k ≤ parts x k} n k
      (λ e. let z : sent (slotted x n false) k ≡ sent x n + 1 = ap (sent (slotted x n false)) (sym e) ∙ sent-here x n in
      let w : parts x n ≡ parts x k = ap (parts x) e in omega (arith, t.more, z, w))
      (λ ne f. omega (arith, sent-other x n false k ne, s.within k lt));
  terminals = grind (arith, nat_tests, terminals-slotted, sent-other);
  expired_unsent = λ k lt e. sent-other x n false k (λ z. not_both (sym t.kept ∙ ap (λ j. (x.message j).expired) z ∙ e)) ∙ s.expired_unsent k lt e;
  abandoned_sent = λ k lt e. omega (arith, sent-grows x n false k, s.abandoned_sent k lt e);
  turn = λ r j k jk lt a b pos. by_same {P = 0 < sent (slotted x n false) j} n k
      (λ e. first r j k jk lt a b e (cases_lt 0 (sent x n)))
      (λ ne f. omega (arith, sent-grows x n false j, s.turn r j k jk lt a b (omega (arith, pos, sent-other x n false k ne))));
  ascend = λ r j k p q jk a b lp lq hp hq. by_last {P = p < q} q x.slots lq
      (λ oq. by_last {P = p < q} p x.slots lp
      (λ op. s.ascend r j k p q jk a b op oq (sym (has-old x n false j p op) ∙ hp) (sym (has-old x n false k q oq) ∙ hq))
      (λ ep. absurd (early r j k q jk a b oq (sym (has-old x n false k q oq) ∙ hq) (taken j p ep hp))))
      (λ eq. by_last {P = p < q} p x.slots lp (λ op. omega arith) (λ ep. absurd (clash j k jk (taken j p ep hp) (taken k q eq hq))));
}
  where
    old : (p : ℕ) → p < x.slots → ((slotted x n false).slot p).is_terminal_chunk ≡ false → 0 < ((slotted x n false).slot p).fragment
        → Next (slotted x n false) p
    old p o terminal pos = grind (arith, nat_tests, slot-old)

    new : (p : ℕ) → p ≡ x.slots → 0 < ((slotted x n false).slot p).fragment → Next (slotted x n false) p
    new p e pos = grind (arith, nat_tests) steps 150000

    -- the new slot is of message n alone
    taken : (k p : ℕ) → p ≡ x.slots → has (slotted x n false) k p ≡ true → n ≡ k
    taken k p e h = same-is n k (both (n == k) (not false) (sym (has-new x n false k) ∙ ap (has (slotted x n false) k) (sym e) ∙ h)).0

    clash : (j k : ℕ) → j < k → n ≡ j → n ≡ k → ⊥
    clash j k lt a b = absurd (omega arith)

    -- the first of it: those before it were sent
    first : (r j k : ℕ) → j < k → k < x.count → on x r j ≡ true → on x r k ≡ true → n ≡ k → (0 < sent x n) ⊎ (sent x n ≤ 0) → 0 < sent (slotted x n false) j
    first r j k jk lt a b e (inl pos) = omega (arith, sent-grows x n false j, s.turn r j k jk lt a b (omega (arith, pos, ap (sent x) e)))
    first r j k jk lt a b e (inr z) = grind (arith, nat_tests, both, sent-grows, negated)

    -- a later message of the stream has no slot yet
    early : (r j k q : ℕ) → j < k → on x r j ≡ true → on x r k ≡ true → q < x.slots → has x k q ≡ true → n ≡ j → ⊥
    early r j k q jk a b lq h e =
        let lt : k < x.count = rw (of-has x k q h).0 at (s.made q lq) in
        let some : 0 < sent x n = omega (arith, s.turn r j k jk lt a b (sent-some x k q lq h), ap (sent x) e) in
        let l = s.last n (is-partial x n some t.more t.alive) in
        let less : l.0 < q = s.ascend r j k l.0 q jk a b (omega (arith, l.1)) lq (ap (λ i. has x i l.0) (sym e) ∙ l.2) h in
        absurd (omega (arith, l.1))
