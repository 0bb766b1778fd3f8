-- The count of the ordered messages before a message: what events leave of it, and what a write adds.
use Rattle.sctp_model.proofs.Names.{◌≡◌, ℕ, ◌+◌, ◌<◌, ◌≤◌, Bool, true, false, List, [], ◌∷◌, ◌++◌, length, refl, ap, arith, add-one, length-append, ◌∙◌}
use Rattle.sctp_model.proofs.Names.{if◌then◌else◌, ◌==◌, ◌&&◌, not, numbers_where, kept-same, kept-snoc, get-snoc_old, get-snoc_new, get-map, Message}
use Rattle.sctp_model.proofs.Names.{LinkRecord, message_at, no_message, is_ordered_on, ordered_before, after_start, start_lifetime, and-true, nat_tests}

-- ## One more message

-- the record with one more message
abbrev pub with_message : LinkRecord → Message → LinkRecord
with_message w m = record w { messages = w.messages ++ m ∷ [] }

pub message-before : (w : LinkRecord) (m : Message) (k : ℕ) → k < length w.messages → message_at (with_message w m) k ≡ message_at w k
message-before w m k lt = get-snoc_old w.messages m k no_message (λ e. omega arith)

pub message-last : (w : LinkRecord) (m : Message) → message_at (with_message w m) (length w.messages) ≡ m
message-last w m = get-snoc_new w.messages m no_message

pub count-with : (w : LinkRecord) (m : Message) → length (with_message w m).messages ≡ length w.messages + 1
count-with w m = length-append w.messages (m ∷ [])

-- the count before a message that was there is as it was
pub before-same : (w : LinkRecord) (m : Message) (t k : ℕ) → k ≤ length w.messages → ordered_before (with_message w m) t k ≡ ordered_before w t k
before-same w m t k le = grind (arith, nat_tests, kept-same, message-before)

-- the count of all messages is one more where the new one is an ordered one of the stream
pub before-more : (w : LinkRecord) (m : Message) (t : ℕ) → m.expired ≡ false → ordered_before (with_message w m) t (length (with_message w m).messages)
    ≡ ordered_before w t (length w.messages) + (if (m.stream == t) && m.ordered then 1 else 0)
before-more w m t alive =
    let v = with_message w m in
    let n = length w.messages in
    ap (ordered_before v t) (count-with w m ∙ add-one n)
    ∙ ap length (kept-snoc (is_ordered_on v t) 0 n n (omega arith))
    ∙ one-more (numbers_where (is_ordered_on v t) 0 n) (is_ordered_on v t n)
    ∙ ap (λ c. c + (if is_ordered_on v t n then 1 else 0)) (before-same w m t n (omega arith))
    ∙ ap (λ x. ordered_before w t n + (if (x.stream == t) && (x.ordered && not x.expired) then 1 else 0)) (message-last w m)
    ∙ ap (λ b. ordered_before w t n + (if (m.stream == t) && (m.ordered && not b) then 1 else 0)) alive
    ∙ ap (λ b. ordered_before w t n + (if (m.stream == t) && b then 1 else 0)) (and-true m.ordered)
  where
    one-more : (xs : List ℕ) (b : Bool) → length (xs ++ (if b then length w.messages ∷ [] else [])) ≡ length xs + (if b then 1 else 0)
    one-more xs true = length-append xs (length w.messages ∷ [])
    one-more xs false = length-append xs []

-- ## What leaves it as it was

-- where the messages before it are ordered ones of the stream as they were
pub before-by : (w v : LinkRecord) (t k : ℕ) → ((j : ℕ) → j < k → is_ordered_on v t j ≡ is_ordered_on w t j) → ordered_before v t k ≡ ordered_before w t k
before-by w v t k same = ap length (kept-same (is_ordered_on v t) (is_ordered_on w t) 0 k (λ j a b. same j (omega arith)))

-- lifetimes start
pub before-started : (w : LinkRecord) (now t k : ℕ) → ordered_before (after_start w now) t k ≡ ordered_before w t k
before-started w now t k = before-by w (after_start w now) t k
    (λ j lt. get-map (start_lifetime now) (λ m. (m.stream == t) && (m.ordered && not m.expired)) (λ m. refl) j w.messages no_message)
