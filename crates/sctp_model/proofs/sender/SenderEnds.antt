-- Writes, expiry and abandonment keep what the sender keeps.
use Rattle.sctp_model.proofs.Names.{◌≡◌, ℕ, ◌+◌, ◌<◌, ◌≤◌, Bool, true, false, length, refl, ap, sym, ◌∙◌, inl, inr, arith, if◌then◌else◌, ◌==◌, ◌&&◌, nat_lt}
use Rattle.sctp_model.proofs.Names.{cases_lt, nat_tests, numbers_where, kept-none, fails, not_both, both, by_last, by_same, same-yes, same-is}
use Rattle.sctp_model.proofs.sender.Shape.{Shape, MessagePart, has, sent, parts, partial, on, slotted, written, abandoned_at, expired_at}
use Rattle.sctp_model.proofs.sender.Sender.{Sender, is_terminal, sent-slotted, terminals-slotted, slot-old, slot-new}
use Rattle.sctp_model.proofs.sender.SenderSteps.{of-has, sent-some, of-partial, is-partial, partial-one, has-old, has-new, number-slotted, made-slotted, Next}
use Rattle.sctp_model.proofs.sender.SenderSteps.{Last}
use Rattle.sctp_model.proofs.sender.SenderSteps.{terminals_due}

-- ## Abandonment

-- with a terminal chunk, where the message is partially sent
module _ (x : Shape) (n : ℕ) (s : Sender x) (h : partial x n ≡ true) where
  abbrev y : Shape
  y = abandoned_at (slotted x n true) n

  sent-same : (k : ℕ) → sent y k ≡ sent x k
  sent-same k = sent-slotted x n k true ∙ none (n == k) (sent x k)
    where
      none : (b : Bool) (c : ℕ) → c + (if b && false then 1 else 0) ≡ c
      none b c = grind (arith, nat_tests)

  made-n : n < x.count
  made-n = let l = s.last n h in rw (of-has x n l.0 l.2).0 at (s.made l.0 (omega (arith, l.1)))

  new-none : (k : ℕ) → has y k x.slots ≡ false
  new-none k = has-new x n true k ∙ (elim (n == k) as (λ b. (b && false) ≡ false) [ true ↦ refl | false ↦ refl ])

  pub sender-marked : Sender y
  sender-marked = record {
    some = s.some;
    made = made-slotted x n true s made-n;
    number = number-slotted x n true s;
    beside = λ p lt terminal pos. by_last {P = Next y p} p x.slots lt (λ o. old p o terminal pos)
        (λ e. absurd (not_both (sym terminal ∙ (ap (λ r. (y.slot r).is_terminal_chunk) e ∙ ap (λ z. z.is_terminal_chunk) (slot-new x n true)))));
    last = λ k g. by_same {P = Last y k} k n
        (λ e. absurd (not_both (sym (of-partial y k g).alive ∙ (let z : (k == n) ≡ true = ap (λ j. k == j) (sym e) ∙ same-yes k in rw z refl))))
        (λ ne f. absurd (ne (partial-one x k n s (was k f g) h)));
    within = λ k lt. omega (arith, sent-same k, s.within k lt);
    terminals = λ k lt. terminals-slotted x n k true
        ∙ by_same {P = length (numbers_where (is_terminal x k) 0 x.slots) + (if (n == k) && true then 1 else 0) ≡ terminals_due y k} n k
        (λ e. ended k e)
        (λ ne f. other k ne f lt);
    expired_unsent = λ k lt e. sent-same k ∙ s.expired_unsent k lt e;
    abandoned_sent = grind (arith, nat_tests, sent-same);
    turn = λ r j k jk lt a b pos. omega (arith, sent-same j, s.turn r j k jk lt a b (omega (arith, pos, sent-same k)));
    ascend = λ r j k p q jk a b lp lq hp hq. by_last {P = p < q} p x.slots lp
        (λ op. by_last {P = p < q} q x.slots lq (λ oq. s.ascend r j k p q jk a b op oq (sym (has-old x n true j p op) ∙ hp) (sym (has-old x n true k q oq)
        ∙ hq)) (λ eq. absurd (not_both (sym (new-none k) ∙ ap (has y k) (sym eq) ∙ hq))))
        (λ ep. absurd (not_both (sym (new-none j) ∙ ap (has y j) (sym ep) ∙ hp)));
  }
    where
      old : (p : ℕ) → p < x.slots → (y.slot p).is_terminal_chunk ≡ false → 0 < (y.slot p).fragment → Next y p
      old p o terminal pos = grind (arith, nat_tests, slot-old)

      was : (k : ℕ) → (k == n) ≡ false → partial y k ≡ true → partial x k ≡ true
      was k f g = grind (arith, nat_tests, sent-same)

      ended : (k : ℕ) → n ≡ k → length (numbers_where (is_terminal x k) 0 x.slots) + (if (n == k) && true then 1 else 0) ≡ terminals_due y k
      ended k e = grind (arith, nat_tests, sent-same) steps 150000

      other : (k : ℕ) → (n ≡ k → ⊥) → (n == k) ≡ false → k < x.count
          → length (numbers_where (is_terminal x k) 0 x.slots) + (if (n == k) && true then 1 else 0) ≡ terminals_due y k
      other k ne f lt = grind (arith, nat_tests, sent-same)

-- without one, where it was sent or abandoned before
pub sender-abandoned : (x : Shape) (n : ℕ) → Sender x → partial x n ≡ false → 0 < sent x n → Sender (abandoned_at x n)
sender-abandoned x n s no' pos = search (arith, nat_tests, of-partial, is-partial, by_same, cases_lt, same-yes, not_both)

-- ## Expiry

pub sender-expired : (x : Shape) (n : ℕ) → Sender x → sent x n ≡ 0 → Sender (expired_at x n)
sender-expired x n s z = record {
  some = s.some;
  made = s.made;
  number = s.number;
  beside = s.beside;
  last = s.last;
  within = s.within;
  terminals = s.terminals;
  expired_unsent = grind (arith, nat_tests);
  abandoned_sent = s.abandoned_sent;
  turn = λ r j k jk lt a b pos. s.turn r j k jk lt (was r j a) (was r k b) pos;
  ascend = λ r j k p q jk a b. s.ascend r j k p q jk (was r j a) (was r k b);
}
  where
    was : (r k : ℕ) → on (expired_at x n) r k ≡ true → on x r k ≡ true
    was r k e = grind (arith, nat_tests)

-- ## Writes

pub sent-none : (x : Shape) (n : ℕ) → Sender x → x.count ≤ n → sent x n ≡ 0
sent-none x n s le = cc (kept-none (has x n) 0 x.slots (λ p a b. fails (has x n p) (λ h. absurd (omega (arith, (of-has x n p h).0, s.made p (omega arith))))))

module _ (x : Shape) (m : MessagePart) where
  abbrev z : Shape
  z = written x m

  pub message-old : (k : ℕ) → k < x.count → z.message k ≡ x.message k
  message-old k lt = let e : (k == x.count) ≡ false = grind (arith, nat_tests) in rw e refl

  pub message-new : z.message x.count ≡ m
  message-new = let e : (x.count == x.count) ≡ true = grind (arith, nat_tests) in rw e refl

  pub parts-old : (k : ℕ) → k < x.count → parts z k ≡ parts x k
  parts-old k lt = rw (message-old k lt) refl

  pub on-old : (r k : ℕ) → k < x.count → on z r k ≡ on x r k
  on-old r k lt = rw (message-old k lt) refl

  pub sender-written : Sender x → m.expired ≡ false → m.abandoned ≡ false → 0 < parts z x.count → Sender z
  sender-written s fresh kept' some = record {
    some = λ k lt. by_last {P = 0 < parts z k} k x.count lt (λ o. omega (arith, parts-old k o, s.some k o)) (λ e. rw e some);
    made = λ p lt. omega (arith, s.made p lt);
    number = s.number;
    beside = s.beside;
    last = λ k h. let i = of-partial z k h in by_made {P = Last z k} k i.some
        (λ o. s.last k (is-partial x k i.some (omega (arith, i.more, parts-old k o)) (ap (λ v. v.abandoned) (sym (message-old k o)) ∙ i.alive)));
    within = λ k lt. by_last {P = sent x k ≤ parts z k} k x.count lt (λ o. omega (arith, parts-old k o, s.within k o)) (λ e. omega (arith, none k e));
    terminals = λ k lt. by_last {P = length (numbers_where (is_terminal x k) 0 x.slots) ≡ terminals_due z k} k x.count lt
        (λ o. s.terminals k o ∙ ap (λ b. if b && nat_lt (sent x k) (parts x k) then 1 else 0) (ap (λ v. v.abandoned) (sym (message-old k o)))
        ∙ ap (λ c. if (z.message k).abandoned && nat_lt (sent x k) c then 1 else 0) (sym (parts-old k o)))
        (λ e. ap length (kept-none (is_terminal x k) 0 x.slots (λ p a b. fails (is_terminal x k p) (λ h. absurd
        (omega (arith, same-is (x.slot p).message k (both ((x.slot p).message == k) (x.slot p).is_terminal_chunk h).0, s.made p (omega arith)))))) ∙ sym
        (ap (λ b. if b && nat_lt (sent x k) (parts z k) then 1 else 0) (ap (λ j. (z.message j).abandoned) e ∙ ap (λ v. v.abandoned) message-new ∙ kept')));
    expired_unsent =
        λ k lt e. by_last {P = sent x k ≡ 0} k x.count lt (λ o. s.expired_unsent k o (ap (λ v. v.expired) (sym (message-old k o)) ∙ e)) (λ i. none k i);
    abandoned_sent = grind (arith, nat_tests);
    turn = λ r j k jk lt a b pos. by_made {P = 0 < sent x j} k pos (λ o. s.turn r j k jk o (sym (on-old r j (omega arith)) ∙ a) (sym (on-old r k o) ∙ b) pos);
    ascend = λ r j k p q jk a b lp lq hp hq. by_made {P = p < q} k (sent-some x k q lq hq)
        (λ o. s.ascend r j k p q jk (sym (on-old r j (omega arith)) ∙ a) (sym (on-old r k o) ∙ b) lp lq hp hq);
  }
    where
      none : (k : ℕ) → k ≡ x.count → sent x k ≡ 0
      none k e = sent-none x k s (omega arith)

      by_made : {P : Type 0} (k : ℕ) → 0 < sent x k → (k < x.count → P) → P
      by_made {P} k pos f = elim (cases_lt k x.count) [ inl l ↦ f l | inr g ↦ absurd (omega (arith, sent-none x k s g)) ]
