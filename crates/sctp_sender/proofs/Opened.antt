-- Whether a chunk of a message is open, found by the chunks that stand beside one of it.
use Rattle.sctp_sender.proofs.Names.{◌≡◌, ◌≢◌, ℕ, zero, suc, ◌+◌, ◌-◌, ◌<◌, ◌≤◌, Bool, true, false, List, [], ◌∷◌, length, take, drop, get_or, ap, sym, ◌∙◌}
use Rattle.sctp_sender.proofs.Names.{subst, inl, inr, arith, ◌&&◌, ◌||◌, nat_eq, list_any, cases_lt, ne_eqb, nat_tests, take-append-drop, or-left, or-right}
use Rattle.sctp_sender.proofs.Names.{list_any-append, ChunkPayloadData, IsApartAt, StandSideBySide, messages_of, is_open_of}
use Rattle.sctp_sender.specs.Telling.{is_open}
use Rattle.sctp_sender.proofs.CompleteMessages.{cut-at}
use Rattle.sctp_sender.proofs.Places.{none-dropped, none-taken}

any-taken : (q : ChunkPayloadData → Bool) (cs : List ChunkPayloadData) (n i : ℕ) (d : ChunkPayloadData) → i < n → i < length cs → q (get_or cs i d) ≡ true
    → list_any q (take n cs) ≡ true
any-taken q [] n i d low lt h = absurd (omega (arith, lt))
any-taken q (c ∷ cs) zero i d low lt h = absurd (omega (arith, low))
any-taken q (c ∷ cs) (suc n) zero d low lt h = or-left (q c) (list_any q (take n cs)) h
any-taken q (c ∷ cs) (suc n) (suc i) d low lt h = or-right (q c) (list_any q (take n cs)) (any-taken q cs n i d (omega (arith, low)) (omega (arith, lt)) h)

any-dropped : (q : ChunkPayloadData → Bool) (cs : List ChunkPayloadData) (n i : ℕ) (d : ChunkPayloadData) → n ≤ i → i < length cs → q (get_or cs i d) ≡ true
    → list_any q (drop n cs) ≡ true
any-dropped q [] n i d low lt h = absurd (omega (arith, lt))
any-dropped q (c ∷ cs) zero zero d low lt h = or-left (q c) (list_any q cs) h
any-dropped q (c ∷ cs) zero (suc i) d low lt h = or-right (q c) (list_any q cs) (any-dropped q cs zero i d (omega arith) (omega (arith, lt)) h)
any-dropped q (c ∷ cs) (suc n) zero d low lt h = absurd (omega (arith, low))
any-dropped q (c ∷ cs) (suc n) (suc i) d low lt h = any-dropped q cs n i d (omega (arith, low)) (omega (arith, lt)) h

other : (m : ℕ) (c : ChunkPayloadData) → m ≢ c.message_id → is_open_of m c ≡ false
other m c ne = ap (λ b. b && is_open c) (ne_eqb m c.message_id ne)

-- a chunk of the message, and whether it is open
pub own-is : (m : ℕ) (c : ChunkPayloadData) (b : Bool) → c.message_id ≡ m → is_open c ≡ b → is_open_of m c ≡ b
own-is m c b e h = let same : nat_eq m c.message_id ≡ true = grind (arith, nat_tests, e) in ap (λ k. k && is_open c) same ∙ h

module _ (cs : List ChunkPayloadData) (m : ℕ) where
  pub record IsClosedBack (place start : ℕ) : Type 0 where
    pub low : start ≤ place
    pub own : (d : ChunkPayloadData) → (get_or cs start d).message_id ≡ m
    pub none : (j : ℕ) (d : ChunkPayloadData) → start ≤ j → j < place → is_open_of m (get_or cs j d) ≡ false

  -- one place farther back
  pub farther-back : (place start : ℕ) → IsClosedBack place start → (c : ChunkPayloadData) → ((d : ChunkPayloadData) → c ≡ get_or cs (start - 1) d) → 0 < start
      → c.message_id ≡ m → is_open c ≡ false → IsClosedBack place (start - 1)
  farther-back place start t c is pos own closed = record {
    low = omega (arith, t.low);
    own = λ d. ap (λ (x : ChunkPayloadData). x.message_id) (sym (is d)) ∙ own;
    none = λ j d above below. elim (cases_lt j start) [
      | inl lt ↦
          let same : j ≡ start - 1 = omega (arith, lt, above, pos) in
          ap (λ k. is_open_of m (get_or cs k d)) same ∙ ap (is_open_of m) (sym (is d)) ∙ own-is m c false own closed
      | inr ge ↦ t.none j d ge below
    ];
  }

  pub none-back : (place : ℕ) → IsClosedBack place 0 → list_any (is_open_of m) (take place cs) ≡ false
  none-back place t = none-taken (is_open_of m) cs place (λ i d lt in'. t.none i d (omega arith) lt)

  pub other-back : StandSideBySide (messages_of cs) → (place start : ℕ) → IsClosedBack place start → place < length cs → 0 < start
      → ((d : ChunkPayloadData) → (get_or cs (start - 1) d).message_id ≢ m) → list_any (is_open_of m) (take place cs) ≡ false
  other-back beside place start t in' pos differ = none-taken (is_open_of m) cs place (λ i d lt less. elim (cases_lt i start) [
    | inl before ↦ other m (get_or cs i d) (λ e. apart i start d before (omega arith) (omega (arith, t.low, in')) (sym e ∙ sym (t.own d)))
    | inr ge ↦ t.none i d ge lt
  ])
    where
      next : suc (start - 1) ≡ start
      next = omega (arith, pos)

      apart : IsApartAt start cs
      apart = subst (λ k. IsApartAt k cs) next
          (cut-at cs (start - 1) beside (λ d e. differ d (e ∙ ap (λ k. (get_or cs k d).message_id) next ∙ t.own d)) (omega (arith, next, t.low, in')))

  pub open-back : (place start : ℕ) → IsClosedBack place start → place < length cs → 0 < start → (c : ChunkPayloadData)
      → ((d : ChunkPayloadData) → c ≡ get_or cs (start - 1) d) → c.message_id ≡ m → is_open c ≡ true → list_any (is_open_of m) (take place cs) ≡ true
  open-back place start t in' pos c is own opened = any-taken (is_open_of m) cs place (start - 1) c (omega (arith, t.low, pos)) (omega (arith, t.low, in', pos))
      (ap (is_open_of m) (sym (is c)) ∙ own-is m c true own opened)

  -- the same from the place on
  pub record IsClosedOn (place end : ℕ) : Type 0 where
    pub high : place ≤ end
    pub own : (d : ChunkPayloadData) → place < end → (get_or cs (end - 1) d).message_id ≡ m
    pub none : (j : ℕ) (d : ChunkPayloadData) → place ≤ j → j < end → is_open_of m (get_or cs j d) ≡ false

  pub farther-on : (place end : ℕ) → IsClosedOn place end → (c : ChunkPayloadData) → ((d : ChunkPayloadData) → c ≡ get_or cs end d) → c.message_id ≡ m
      → is_open c ≡ false → IsClosedOn place (end + 1)
  farther-on place end t c is own closed = record {
    high = omega (arith, t.high);
    own = λ d lt. let same : end + 1 - 1 ≡ end = omega arith in
        ap (λ k. (get_or cs k d).message_id) same ∙ ap (λ (x : ChunkPayloadData). x.message_id) (sym (is d)) ∙ own;
    none = λ j d above below. elim (cases_lt j end) [
      | inl lt ↦ t.none j d above lt
      | inr ge ↦
          let same : j ≡ end = omega (arith, ge, below) in
          ap (λ k. is_open_of m (get_or cs k d)) same ∙ ap (is_open_of m) (sym (is d)) ∙ own-is m c false own closed
    ];
  }

  pub none-on : (place end : ℕ) → IsClosedOn place end → length cs ≤ end → list_any (is_open_of m) (drop place cs) ≡ false
  none-on place end t all = none-dropped (is_open_of m) cs place (λ j d le lt. t.none j d le (omega (arith, lt, all)))

  pub other-on : StandSideBySide (messages_of cs) → (place end : ℕ) → IsClosedOn place end → end < length cs → place < end
      → ((d : ChunkPayloadData) → (get_or cs end d).message_id ≢ m) → list_any (is_open_of m) (drop place cs) ≡ false
  other-on beside place end t in' pos differ = none-dropped (is_open_of m) cs place (λ j d le lt. elim (cases_lt j end) [
    | inl before ↦ t.none j d le before
    | inr ge ↦ other m (get_or cs j d) (λ e. apart (end - 1) j d (omega (arith, pos)) ge lt (t.own d pos ∙ e))
  ])
    where
      next : suc (end - 1) ≡ end
      next = omega (arith, pos)

      apart : IsApartAt end cs
      apart = subst (λ k. IsApartAt k cs) next
          (cut-at cs (end - 1) beside (λ d e. differ d (sym (ap (λ k. (get_or cs k d).message_id) next) ∙ sym e ∙ t.own d pos)) (omega (arith, next, in')))

  pub open-on : (place end : ℕ) → IsClosedOn place end → end < length cs → (c : ChunkPayloadData) → ((d : ChunkPayloadData) → c ≡ get_or cs end d)
      → c.message_id ≡ m → is_open c ≡ true → list_any (is_open_of m) (drop place cs) ≡ true
  open-on place end t in' c is own opened = any-dropped (is_open_of m) cs place end c t.high in' (ap (is_open_of m) (sym (is c)) ∙ own-is m c true own opened)

pub both-sides : (q : ChunkPayloadData → Bool) (cs : List ChunkPayloadData) (n : ℕ) → list_any q cs ≡ (list_any q (take n cs) || list_any q (drop n cs))
both-sides q cs n = ap (list_any q) (sym (take-append-drop n cs)) ∙ list_any-append q (take n cs) (drop n cs)
