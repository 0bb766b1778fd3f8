-- A read of an ordered message: the queue's front and the record's next one agree.
use Rattle.sctp_model.proofs.Names.{◌≡◌, ℕ, suc, ◌+◌, ◌-◌, ◌<◌, ◌≤◌, ◌%◌, ◌^◌, Bool, true, false, List, [], ◌∷◌, length, map, Option, Some, None, refl, ap, sym}
use Rattle.sctp_model.proofs.Names.{◌∙◌, inl, inr, arith, ◌⊎◌, if◌then◌else◌, ◌&&◌, ◌||◌, not, nat_le, cases_lt, nat_tests, eq-or-lt_of_le, numbers_where}
use Rattle.sctp_model.proofs.Names.{first_of, kept-none, kept-skip, front-kept, FrontOf, IsFront, LinkRecord, message_at, stream_of, is_ordered_on, index_of}
use Rattle.sctp_model.proofs.Names.{arrived_of, has_arrived, is_complete_message, is_unread, is_held, held_on, next_of, set_of, ordered_sets, IsSpan, Valid}
use Rattle.sctp_model.proofs.Names.{fails, not_both, and, at_or_before16-index}
use Rattle.sctp_reassembly.specs.reassembly_queue.ReassemblyQueue.{is_readable, front_readable}
use Rattle.sctp_model.proofs.refinement.reading.Line.{on-made, on-ordered, ssn_on, index-lt, next_reads}
use Rattle.sctp_model.proofs.refinement.arriving.Arrival.{set_is_complete}

-- an ordered message that may be read: complete, unread, and not after the one expected next
abbrev pub is_due : LinkRecord → ℕ → ℕ → Bool
is_due w s n = is_ordered_on w s n && (is_unread w n && (is_complete_message w n && nat_le (index_of w n) (next_of w s)))

pub record IsDue (w : LinkRecord) (s n : ℕ) : Type 0 where
  pub on : is_ordered_on w s n ≡ true
  pub unread : (message_at w n).read ≡ false
  pub complete : is_complete_message w n ≡ true
  pub le : index_of w n ≤ next_of w s

pub record IsHeld (w : LinkRecord) (s n : ℕ) : Type 0 where
  pub on : is_ordered_on w s n ≡ true
  pub unread : (message_at w n).read ≡ false
  pub some : 0 < arrived_of w n
  pub due : (is_complete_message w n || nat_le (stream_of w s).named (index_of w n)) ≡ true

pub due : (w : LinkRecord) (s n : ℕ) → is_due w s n ≡ true → IsDue w s n
due w s n e = grind (arith, nat_tests)

pub held : (w : LinkRecord) (s n : ℕ) → is_held w s n ≡ true → IsHeld w s n
held w s n e = grind (arith, nat_tests, due)

pub is-held : (w : LinkRecord) (s n : ℕ) → IsHeld w s n → is_held w s n ≡ true
is-held w s n d = grind (arith, nat_tests)

pub complete-ordered : (w : LinkRecord) (s n : ℕ) → is_ordered_on w s n ≡ true → is_complete_message w n ≡ has_arrived w n
complete-ordered w s n on = rw (on-ordered w s n on) refl

-- what is complete and unread is held
pub complete_held : (w : LinkRecord) (s n : ℕ) → Valid w → is_ordered_on w s n ≡ true → (message_at w n).read ≡ false → is_complete_message w n ≡ true
    → IsHeld w s n
complete_held w s n valid on unread complete = grind (arith, nat_tests, complete-ordered, on-made, due)

abbrev pub map_option : {A : Type 0} → (ℕ → A) → Option ℕ → Option A
map_option f None = None
map_option f (Some n) = Some (f n)

module _ (w : LinkRecord) (s : ℕ) (valid : Valid w) (sp : IsSpan w s []) where
  readable : (k : ℕ) → is_held w s k ≡ true → is_readable (next_of w s % 2 ^ 16) (set_of w k) ≡ (is_complete_message w k && nat_le (index_of w k) (next_of w s))
  readable k e = grind (arith, nat_tests, held, on-made, ssn_on, at_or_before16-index, set_is_complete, complete-ordered)

  due_held : (j : ℕ) → is_due w s j ≡ true → is_held w s j ≡ true
  due_held j e = let d = due w s j e in is-held w s j (complete_held w s j valid d.on d.unread d.complete)

  found : (k : ℕ) (rest : List ℕ) → IsFront (is_held w s) 0 (length w.messages) k rest → is_due w s k ≡ true
      → first_of (numbers_where (is_due w s) 0 (length w.messages)) ≡ Some k
  found k rest f hit =
      let none : (j : ℕ) → 0 ≤ j → j < k → is_due w s j ≡ false = λ j a b. fails (is_due w s j) (λ t. not_both (sym (f.first j a b) ∙ due_held j t)) in
      let count : 0 + length w.messages - k ≡ suc (length w.messages - (k + 1)) = omega (arith, f.high) in
      ap first_of (kept-skip (is_due w s) 0 (length w.messages) k (omega arith) (omega (arith, f.high)) none ∙ ap (numbers_where (is_due w s) k) count)
      ∙ rw hit refl

  -- a front that is not due hides no other
  hidden : (k : ℕ) (rest : List ℕ) → IsFront (is_held w s) 0 (length w.messages) k rest
      → (is_complete_message w k && nat_le (index_of w k) (next_of w s)) ≡ false → (j : ℕ) → is_due w s j ≡ false
  hidden k rest f nay j = fails (is_due w s j) (λ e. against e (cases_lt j k))
    where
      h : IsHeld w s k
      h = held w s k f.passes

      later : IsDue w s j → k < j → (c d : Bool) → is_complete_message w k ≡ c → nat_le (index_of w k) (next_of w s) ≡ d → (c && d) ≡ false
          → (c || nat_le (stream_of w s).named (index_of w k)) ≡ true → ⊥
      later d l true true x y e z = cc
      later d l c false x y e z = let more : index_of w k < index_of w j = index-lt w s k j h.on d.on l in let le = d.le in grind (arith, nat_tests)
      later d l false true x y e z =
          let more : index_of w k < index_of w j = index-lt w s k j h.on d.on l in
          let low : (stream_of w s).named ≤ index_of w k = grind (arith, nat_tests) in
          not_both (sym h.unread ∙ next_reads w s k h.on low (omega (arith, more, d.le)))

      at : IsDue w s j → (k ≡ j) ⊎ (k < j) → ⊥
      at d (inl x) = not_both (sym nay ∙ and (is_complete_message w k) (nat_le (index_of w k) (next_of w s)) (ap (is_complete_message w) x
          ∙ d.complete) (let le : index_of w k ≤ next_of w s = omega (arith, d.le, ap (index_of w) x) in grind (arith, nat_tests)))
      at d (inr l) = later d l (is_complete_message w k) (nat_le (index_of w k) (next_of w s)) refl refl nay h.due

      against : is_due w s j ≡ true → (j < k) ⊎ (k ≤ j) → ⊥
      against e (inl l) = not_both (sym (f.first j (omega arith) l) ∙ due_held j e)
      against e (inr g) = at (due w s j e) (eq-or-lt_of_le g)

  -- what the queue gives is the first message that is due
  pub front-gives : front_readable (next_of w s % 2 ^ 16) (ordered_sets w s) ≡ map_option (set_of w)
      (first_of (numbers_where (is_due w s) 0 (length w.messages)))
  front-gives = step (held_on w s) (front-kept (is_held w s) 0 (length w.messages))
    where
      by_test : (k : ℕ) (rest : List ℕ) → IsFront (is_held w s) 0 (length w.messages) k rest → (b : Bool)
          → (is_complete_message w k && nat_le (index_of w k) (next_of w s)) ≡ b
          → (if b then Some (set_of w k) else None) ≡ map_option (set_of w) (first_of (numbers_where (is_due w s) 0 (length w.messages)))
      by_test k rest f true e =
          let h = held w s k f.passes in
          let hit : is_due w s k ≡ true = and (is_ordered_on w s k) (is_unread w k && (is_complete_message w k && nat_le (index_of w k) (next_of w s))) h.on
          (and (is_unread w k) (is_complete_message w k && nat_le (index_of w k) (next_of w s)) (ap not h.unread) e) in
          rw (found k rest f hit) refl
      by_test k rest f false e = rw (kept-none (is_due w s) 0 (length w.messages) (λ j a b. hidden k rest f e j)) refl

      step : (l : List ℕ) → FrontOf (is_held w s) 0 (length w.messages) l
          → front_readable (next_of w s % 2 ^ 16) (map (set_of w) l) ≡ map_option (set_of w) (first_of (numbers_where (is_due w s) 0 (length w.messages)))
      step [] f = rw (kept-none (is_due w s) 0 (length w.messages) (λ j a b. fails (is_due w s j) (λ e. not_both (sym (f j a b) ∙ due_held j e)))) refl
      step (k ∷ rest) f = rw (readable k f.passes) (by_test k rest f (is_complete_message w k && nat_le (index_of w k) (next_of w s)) refl)

  -- and then that message is the front of the held ones
  pub due-front : (n : ℕ) → first_of (numbers_where (is_due w s) 0 (length w.messages)) ≡ Some n → IsDue w s n × ((rest : List ℕ) × (held_on w s ≡ n ∷ rest))
  due-front n e = step (held_on w s) refl (front-kept (is_held w s) 0 (length w.messages))
    where
      nothing : numbers_where (is_due w s) 0 (length w.messages) ≡ [] → ⊥
      nothing h = let x : None ≡ Some n = ap first_of (sym h) ∙ e in cc

      by_test : (k : ℕ) (rest : List ℕ) → held_on w s ≡ k ∷ rest → IsFront (is_held w s) 0 (length w.messages) k rest → (b : Bool)
          → (is_complete_message w k && nat_le (index_of w k) (next_of w s)) ≡ b → IsDue w s n × ((rest : List ℕ) × (held_on w s ≡ n ∷ rest))
      by_test k rest el f true t =
          let h = held w s k f.passes in
          let hit : is_due w s k ≡ true = and (is_ordered_on w s k) (is_unread w k && (is_complete_message w k && nat_le (index_of w k) (next_of w s))) h.on
          (and (is_unread w k) (is_complete_message w k && nat_le (index_of w k) (next_of w s)) (ap not h.unread) t) in
          let both' : Some k ≡ Some n = sym (found k rest f hit) ∙ e in
          let same : k ≡ n = cc in
          (due w s n (ap (is_due w s) (sym same) ∙ hit), (rest, el ∙ ap (λ x. x ∷ rest) same))
      by_test k rest el f false t = absurd (nothing (kept-none (is_due w s) 0 (length w.messages) (λ j a b. hidden k rest f t j)))

      step : (l : List ℕ) → held_on w s ≡ l → FrontOf (is_held w s) 0 (length w.messages) l → IsDue w s n × ((rest : List ℕ) × (held_on w s ≡ n ∷ rest))
      step [] el f =
          absurd (nothing (kept-none (is_due w s) 0 (length w.messages) (λ j a b. fails (is_due w s j) (λ x. not_both (sym (f j a b) ∙ due_held j x)))))
      step (k ∷ rest) el f = by_test k rest el f (is_complete_message w k && nat_le (index_of w k) (next_of w s)) refl
