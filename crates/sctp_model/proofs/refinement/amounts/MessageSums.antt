-- Sums over the messages as more are written, and as they stay.
use Rattle.sctp_model.proofs.Names.{◌≡◌, ℕ, suc, ◌+◌, ◌<◌, Bool, true, false, [], ◌∷◌, length, refl, ap, ◌∙◌, arith, add-one, length-append, if◌then◌else◌}
use Rattle.sctp_model.proofs.Names.{◌==◌, numbers_where, total_over, kept-same, kept-snoc, total-append, total-kept_same, Message, LinkRecord, message_at}
use Rattle.sctp_model.proofs.Names.{messages_where, nat_tests}
use Rattle.sctp_model.proofs.refinement.sending.InLine.{with_message, message-before, message-last}

-- what f gives for the messages that pass
abbrev pub sum_where : LinkRecord → (Message → Bool) → (Message → ℕ) → ℕ
sum_where w q f = total_over (λ n. f (message_at w n)) (messages_where w (λ n. q (message_at w n)))

-- a message of stream t
abbrev pub is_on : ℕ → Message → Bool
is_on t m = m.stream == t

pub sum-written : (w : LinkRecord) (m : Message) (q : Message → Bool) (f : Message → ℕ)
    → sum_where (with_message w m) q f ≡ sum_where w q f + (if q m then f m else 0)
sum-written w m q f =
    let v = with_message w m in
    let t : ℕ → Bool = λ n. q (message_at v n) in
    let g : ℕ → ℕ = λ n. f (message_at v n) in
    let count : length v.messages ≡ suc (length w.messages) = length-append w.messages (m ∷ []) ∙ add-one (length w.messages) in
    ap (λ c. total_over g (numbers_where t 0 c)) count
    ∙ ap (total_over g) (kept-snoc t 0 (length w.messages) (length w.messages) (omega arith))
    ∙ total-append g (numbers_where t 0 (length w.messages)) (if t (length w.messages) then length w.messages ∷ [] else [])
    ∙ ap (λ k. k + total_over g (if t (length w.messages) then length w.messages ∷ [] else []))
    (total-kept_same g (λ n. f (message_at w n)) t 0 (length w.messages) (λ k a b. ap f (message-before w m k (omega arith))) ∙ ap (total_over
    (λ n. f (message_at w n))) (kept-same t (λ n. q (message_at w n)) 0 (length w.messages) (λ k a b. ap q (message-before w m k (omega arith)))))
    ∙ ap (λ k. sum_where w q f + k) (last (t (length w.messages)) ∙ ap (λ y. if q y then f y else 0) (message-last w m))
  where
    last : (b : Bool) → total_over (λ n. f (message_at (with_message w m) n))
        (if b then length w.messages ∷ [] else []) ≡ (if b then f (message_at (with_message w m) (length w.messages)) else 0)
    last true = omega arith
    last false = refl

pub sum-same : (w v : LinkRecord) (q : Message → Bool) (f : Message → ℕ) → length v.messages ≡ length w.messages → ((n : ℕ) → n < length w.messages
    → q (message_at v n) ≡ q (message_at w n)) → ((n : ℕ) → n < length w.messages → f (message_at v n) ≡ f (message_at w n)) → sum_where v q f ≡ sum_where w q f
sum-same w v q f count qs fs = grind (arith, nat_tests, total-kept_same, kept-same)
