-- What waits to be sent: lists of messages' fragments, and a write.
use Rattle.sctp_model.proofs.Names.{◌≡◌, ℕ, zero, suc, ◌+◌, ◌-◌, ◌<◌, ◌≤◌, Bool, true, false, List, [], ◌∷◌, ◌++◌, length, refl, ap, sym, ◌∙◌, append_assoc}
use Rattle.sctp_model.proofs.Names.{arith, append-nil, if◌then◌else◌, ◌==◌, ◌&&◌, not, flat_map, numbers_where, kept-same, map-kept-same, kept-snoc}
use Rattle.sctp_model.proofs.Names.{get-snoc_old, get-snoc_new, LinkRecord, Message, message_at, is_ordered_on, ordered_before, ssn_of, fragment_count, sent_of}
use Rattle.sctp_model.proofs.Names.{no_message, waiting_at, waiting_of, waiting_where, nat_tests}

-- ## Lists gathered

pub gathered-append : {A : Type 0} (f : ℕ → List A) (xs ys : List ℕ) → flat_map f (xs ++ ys) ≡ flat_map f xs ++ flat_map f ys
gathered-append f [] ys = refl
gathered-append f (x ∷ xs) ys = ap (λ l. f x ++ l) (gathered-append f xs ys) ∙ sym (append_assoc (f x) (flat_map f xs) (flat_map f ys))

pub gathered-same : {A : Type 0} (f g : ℕ → List A) (p q : ℕ → Bool) (from count : ℕ) → ((k : ℕ) → from ≤ k → k < from + count → p k ≡ q k)
    → ((k : ℕ) → from ≤ k → k < from + count → p k ≡ true → f k ≡ g k) → flat_map f (numbers_where p from count) ≡ flat_map g (numbers_where q from count)
gathered-same f g p q from zero a b = refl
gathered-same {A} f g p q from (suc count) a b = grind (arith, nat_tests, gathered-same f g p q (from + 1) count)

-- what stands before the first that gives something
pub gathered-from : {A : Type 0} (f : ℕ → List A) (p : ℕ → Bool) (n from count : ℕ) → from ≤ n → n < from + count → p n ≡ true → ((k : ℕ) → from ≤ k → k < n
    → p k ≡ true → f k ≡ []) → flat_map f (numbers_where p from count) ≡ f n ++ flat_map f (numbers_where p (n + 1) (from + count - (n + 1)))
gathered-from f p n from zero low high e none = absurd (omega arith)
gathered-from {A} f p n from (suc count) low high e none = grind (arith, nat_tests, gathered-from f p n (from + 1) count)

pub gathered-none : {A : Type 0} (f : ℕ → List A) (p : ℕ → Bool) (from count : ℕ) → ((k : ℕ) → from ≤ k → k < from + count → p k ≡ true → f k ≡ [])
    → flat_map f (numbers_where p from count) ≡ []
gathered-none f p from zero none = refl
gathered-none {A} f p from (suc count) none = grind (arith, nat_tests, gathered-none f p (from + 1) count)

-- ## Records that agree on a message

pub record Alike (w v : LinkRecord) (n : ℕ) : Type 0 where
  pub setup : v.setup ≡ w.setup
  pub message : message_at v n ≡ message_at w n
  pub ssn : ssn_of v n ≡ ssn_of w n

pub waiting_at-alike : (w v : LinkRecord) (n i : ℕ) → Alike w v n → waiting_at v n i ≡ waiting_at w n i
waiting_at-alike w v n i a = rw (a.ssn, a.message, a.setup) refl

pub count-alike : (w v : LinkRecord) (n : ℕ) → Alike w v n → fragment_count v n ≡ fragment_count w n
count-alike w v n a = rw (a.message, a.setup) refl

pub waiting_of-alike : (w v : LinkRecord) (n : ℕ) → Alike w v n → sent_of v n ≡ sent_of w n → waiting_of v n ≡ waiting_of w n
waiting_of-alike w v n a s = grind (arith, nat_tests, count-alike, map-kept-same, waiting_at-alike)

-- ## A write

module _ (w : LinkRecord) (m : Message) where
  abbrev v : LinkRecord
  v = record w { messages = w.messages ++ m ∷ [] }

  abbrev len : ℕ
  len = length w.messages

  pub len-more : length (w.messages ++ m ∷ []) ≡ suc (length w.messages)
  len-more = by w.messages
    where
      by : (xs : List Message) → length (xs ++ m ∷ []) ≡ suc (length xs)
      by [] = refl
      by (x ∷ xs) = ap suc (by xs)

  pub message-old : (n : ℕ) → n < length w.messages → message_at v n ≡ message_at w n
  message-old n lt = get-snoc_old w.messages m n no_message (λ e. omega arith)

  pub message-new : message_at v (length w.messages) ≡ m
  message-new = get-snoc_new w.messages m no_message

  pub before-same : (s n : ℕ) → n ≤ length w.messages → ordered_before v s n ≡ ordered_before w s n
  before-same s n le = ap length
      (kept-same (is_ordered_on v s) (is_ordered_on w s) 0 n (λ k a b. ap (λ x. (x.stream == s) && (x.ordered && not x.expired)) (message-old k (omega arith))))

  pub alike : (n : ℕ) → n < length w.messages → Alike w v n
  alike n lt = grind (arith, nat_tests, message-old, before-same)

  -- what waits of one kind: the new message stands behind the others
  pub where-written : (t : Message → Bool)
      → waiting_where v (λ n. t (message_at v n)) ≡ waiting_where w (λ n. t (message_at w n)) ++ (if t m then waiting_of v (length w.messages) else [])
  where-written t =
      ap (λ c. flat_map (waiting_of v) (numbers_where (λ n. t (message_at v n)) 0 c)) len-more
      ∙ ap (flat_map (waiting_of v)) (kept-snoc (λ n. t (message_at v n)) 0 len len (omega arith))
      ∙ gathered-append (waiting_of v) (numbers_where (λ n. t (message_at v n)) 0 len) (if t (message_at v len) then len ∷ [] else [])
      ∙ ap (λ l. l ++ flat_map (waiting_of v) (if t (message_at v len) then len ∷ [] else []))
      (gathered-same (waiting_of v) (waiting_of w) (λ n. t (message_at v n)) (λ n. t (message_at w n)) 0 len (λ k a b. ap t (message-old k (omega arith)))
      (λ k a b e. waiting_of-alike w v k (alike k (omega arith)) refl))
      ∙ ap (λ x. waiting_where w (λ n. t (message_at w n)) ++ flat_map (waiting_of v) (if t x then len ∷ [] else [])) message-new
      ∙ ap (λ l. waiting_where w (λ n. t (message_at w n)) ++ l) (last (t m))
    where
      last : (b : Bool) → flat_map (waiting_of v) (if b then len ∷ [] else []) ≡ (if b then waiting_of v len else [])
      last true = append-nil (waiting_of v len)
      last false = refl
