-- Indexes as they are given out: a message takes the next one of its stream when its first fragment is sent, and keeps it.
use Rattle.sctp_model.proofs.Names.{◌≡◌, ℕ, ◌+◌, ◌-◌, ◌<◌, ◌≤◌, Bool, true, false, length, refl, ap, sym, ◌∙◌, inl, inr, arith, add-one, ◌⊎◌, if◌then◌else◌}
use Rattle.sctp_model.proofs.Names.{◌==◌, ◌&&◌, not, nat_lt, cases_lt, nat_tests, numbers_where, kept-same, kept-snoc_out, length-kept-le, fails, both, and}
use Rattle.sctp_model.proofs.Names.{length-kept-one_more, kept-short, by_same, same-yes, same-is}
use Rattle.sctp_model.proofs.sender.Shape.{Shape, MessagePart, sent, on, index, slotted, written}
use Rattle.sctp_model.proofs.sender.Sender.{Sender, sent-slotted}
use Rattle.sctp_model.proofs.sender.SenderSteps.{Takes, sent-other, sent-here}
use Rattle.sctp_model.proofs.sender.SenderEnds.{sent-none, message-old}
use Rattle.sctp_model.proofs.sender.Slots.{sent-made, sent-alive}
use Rattle.sctp_model.proofs.sender.Grows.{Grows}

-- an ordered message of stream s of which some was sent
abbrev pub begins_on : Shape → ℕ → ℕ → Bool
begins_on x s m = ((x.message m).stream == s) && ((x.message m).ordered && nat_lt 0 (sent x m))

-- how many there are: the index that the next one takes
abbrev pub begun : Shape → ℕ → ℕ
begun x s = length (numbers_where (begins_on x s) 0 x.count)

-- ## The index that a first fragment takes

pub first-index : (x : Shape) (n : ℕ) → Sender x → Takes x n → sent x n ≡ 0 → (x.message n).ordered ≡ true → index x n ≡ begun x (x.message n).stream
first-index x n s t z o =
    ap length (kept-same (on x (x.message n).stream) (begins_on x (x.message n).stream) 0 n (λ m a b. earlier m (omega arith)))
    ∙ sym (ap length
    (kept-short (begins_on x (x.message n).stream) 0 n (x.count - n) x.count (omega (arith, t.made)) (λ k a b. later k (omega arith) (omega arith))))
  where
    earlier : (m : ℕ) → m < n → on x (x.message n).stream m ≡ begins_on x (x.message n).stream m
    earlier m lt = step ((x.message m).stream == (x.message n).stream) (x.message m).ordered refl
      where
        step : (a b : Bool) → (x.message m).ordered ≡ b → (a && (b && not (x.message m).expired)) ≡ (a && (b && nat_lt 0 (sent x m)))
        step c b q = grind (arith, nat_tests, sent, sent-alive)

    later : (k : ℕ) → n ≤ k → k < x.count → begins_on x (x.message n).stream k ≡ false
    later k le lt = fails (begins_on x (x.message n).stream k) (λ h.
        let a = both ((x.message k).stream == (x.message n).stream) ((x.message k).ordered && nat_lt 0 (sent x k)) h in
        let b = both (x.message k).ordered (nat_lt 0 (sent x k)) a.1 in
        let c = b.1 in
        let pos : 0 < sent x k = grind (arith, nat_tests) in
        by (cases_lt n k) pos a.0 b.0)
      where
        by : (n < k) ⊎ (k ≤ n) → 0 < sent x k → ((x.message k).stream == (x.message n).stream) ≡ true → (x.message k).ordered ≡ true → ⊥
        by (inr g) pos a b = absurd (omega (arith, pos, z, ap (sent x) (let e : k ≡ n = omega (arith, g, le) in e)))
        by (inl l) pos a b =
            absurd (omega (
              arith,
              z,
              s.turn (x.message n).stream n k l (sent-made x k s pos)
                  (and ((x.message n).stream == (x.message n).stream) ((x.message n).ordered && not (x.message n).expired) (same-yes (x.message n).stream)
                  (and (x.message n).ordered (not (x.message n).expired) o (ap not t.kept)))
                  (and ((x.message k).stream == (x.message n).stream) ((x.message k).ordered && not (x.message k).expired) a
                  (and (x.message k).ordered (not (x.message k).expired) b (ap not (sent-alive x k s pos))))
                  pos,
            ))

-- ## The count at each change

pub begun-written : (x : Shape) (m : MessagePart) (s : ℕ) → Sender x → begun (written x m) s ≡ begun x s
begun-written x m s k =
    ap (λ c. length (numbers_where (begins_on (written x m) s) 0 c)) (add-one x.count)
    ∙ ap length (kept-snoc_out (begins_on (written x m) s) 0 x.count x.count (omega arith) (fails (begins_on (written x m) s x.count) none))
    ∙ ap length (kept-same (begins_on (written x m) s) (begins_on x s) 0 x.count
    (λ j a b. ap (λ y. (y.stream == s) && (y.ordered && nat_lt 0 (sent x j))) (message-old x m j (omega arith))))
  where
    none : begins_on (written x m) s x.count ≡ true → ⊥
    none h = grind (arith, nat_tests, written, sent, sent-none)

-- a terminal chunk is no fragment
pub begun-marked : (x : Shape) (n s : ℕ) → begun (slotted x n true) s ≡ begun x s
begun-marked x n s = grind (arith, nat_tests, kept-same, sent, sent-slotted)

-- a fragment counts where it is the first of an ordered message
pub begun-taken : (x : Shape) (n s : ℕ) → n < x.count
    → begun (slotted x n false) s ≡ begun x s + (if ((x.message n).stream == s) && ((x.message n).ordered && (sent x n == 0)) then 1 else 0)
begun-taken x n s lt = by ((x.message n).stream == s) (x.message n).ordered (sent x n == 0) refl refl refl
  where
    elsewhere : (k : ℕ) → (k ≡ n → ⊥) → begins_on (slotted x n false) s k ≡ begins_on x s k
    elsewhere k ne = ap (λ c. ((x.message k).stream == s) && ((x.message k).ordered && nat_lt 0 c)) (sent-other x n false k (λ e. ne (sym e)))

    now : nat_lt 0 (sent (slotted x n false) n) ≡ true
    now = let e = sent-here x n in grind (arith, nat_tests)

    here : begins_on (slotted x n false) s n ≡ (((x.message n).stream == s) && ((x.message n).ordered && true))
    here = ap (λ b. ((x.message n).stream == s) && ((x.message n).ordered && b)) now

    same : begins_on (slotted x n false) s n ≡ begins_on x s n → begun (slotted x n false) s ≡ begun x s + 0
    same e = (let z : begun (slotted x n false) s ≡ begun x s = ap length
        (kept-same (begins_on (slotted x n false) s) (begins_on x s) 0 x.count (λ j a b. by_same {P = begins_on (slotted x n false) s j ≡ begins_on x s j} j n
        (λ q. ap (begins_on (slotted x n false) s) q ∙ e ∙ ap (begins_on x s) (sym q)) (λ ne q. elsewhere j ne))) in omega (arith, z))

    by : (a b c : Bool) → ((x.message n).stream == s) ≡ a → (x.message n).ordered ≡ b → (sent x n == 0) ≡ c
        → begun (slotted x n false) s ≡ begun x s + (if a && (b && c) then 1 else 0)
    by false b c p q r = same (ap (λ t. t && ((x.message n).ordered && nat_lt 0 (sent (slotted x n false) n))) p
        ∙ sym (ap (λ t. t && ((x.message n).ordered && nat_lt 0 (sent x n))) p))
    by true false c p q r = same (ap (λ t. ((x.message n).stream == s) && (t && nat_lt 0 (sent (slotted x n false) n))) q
        ∙ sym (ap (λ t. ((x.message n).stream == s) && (t && nat_lt 0 (sent x n))) q))
    by true true false p q r =
        let was : nat_lt 0 (sent x n) ≡ true = grind (arith, nat_tests) in
        same (ap (λ t. ((x.message n).stream == s) && ((x.message n).ordered && t)) (now ∙ sym was))
    by true true true p q r =
        let was : nat_lt 0 (sent x n) ≡ false = grind (arith, nat_tests) in
        length-kept-one_more (begins_on x s) (begins_on (slotted x n false) s) n 0 x.count
        (ap (λ t. ((x.message n).stream == s) && ((x.message n).ordered && t)) was ∙ ap (λ t. t && ((x.message n).ordered && false)) p ∙ ap (λ t. t && false) q)
        (here ∙ ap (λ t. t && ((x.message n).ordered && true)) p ∙ ap (λ t. t && true) q) (omega arith) (omega (arith, lt)) (λ k a b ne. sym (elsewhere k ne))

-- ## The indexes

-- what is kept of each message is its index, once some of it was sent; it is no larger than the message's number
pub record Indexed (x : Shape) (f : ℕ → ℕ) : Type 0 where
  pub is : (n : ℕ) → 0 < sent x n → (x.message n).ordered ≡ true → f n ≡ index x n
  pub low : (n : ℕ) → f n ≤ n

-- what sends no first fragment keeps it
pub indexed-grown : (x y : Shape) (f : ℕ → ℕ) → Sender x → Grows x y → ((n : ℕ) → 0 < sent y n → 0 < sent x n) → Indexed x f → Indexed y f
indexed-grown x y f s g old i = record {
  is = λ n pos o.
      let was = old n pos in
      let ord : (x.message n).ordered ≡ true = sym (ap (λ m. m.ordered) (g.message n (sent-made x n s was))) ∙ o in
      i.is n was ord ∙ sym (g.same_index n was ord);
  low = i.low;
}

-- a fragment: the first one of an ordered message takes the next index of its stream
pub indexed-taken : (x : Shape) (n : ℕ) (f g : ℕ → ℕ) → Sender x → Takes x n → ((k : ℕ) → (k ≡ n → ⊥) → g k ≡ f k)
    → g n ≡ (if (x.message n).ordered && (sent x n == 0) then begun x (x.message n).stream else f n) → Indexed x f → Indexed (slotted x n false) g
indexed-taken x n f g s t others here i = record {
  is = λ k pos o. by_same {P = g k ≡ index x k} k n
      (λ e. ap g e ∙ here ∙ mine (sent x n == 0) refl (ap (λ j. (x.message j).ordered) (sym e) ∙ o) ∙ ap (index x) (sym e))
      (λ ne q. others k ne ∙ i.is k (omega (arith, pos, sent-other x n false k (λ e. ne (sym e)))) o);
  low = λ k. by_same {P = g k ≤ k} k n
      (λ e. omega (arith, e, ap g e ∙ here, small (x.message n).ordered (sent x n == 0) refl refl))
      (λ ne q. omega (arith, others k ne, i.low k));
}
  where
    mine : (b : Bool) → (sent x n == 0) ≡ b → (x.message n).ordered ≡ true
        → (if (x.message n).ordered && b then begun x (x.message n).stream else f n) ≡ index x n
    mine true e o = ap (λ c. if c && true then begun x (x.message n).stream else f n) o ∙ sym (first-index x n s t (same-is (sent x n) 0 e) o)
    mine false e o = ap (λ c. if c && false then begun x (x.message n).stream else f n) o ∙ i.is n (let z = e in grind (arith, nat_tests)) o

    small : (a b : Bool) → (x.message n).ordered ≡ a → (sent x n == 0) ≡ b → (if a && b then begun x (x.message n).stream else f n) ≤ n
    small true true p q = omega (arith, first-index x n s t (same-is (sent x n) 0 q) p, length-kept-le (on x (x.message n).stream) 0 n)
    small true false p q = i.low n
    small false b p q = i.low n
