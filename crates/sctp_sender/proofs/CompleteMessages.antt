-- Where a message ends.
use Rattle.sctp_sender.proofs.Names.{◌≡◌, ◌≢◌, ℕ, zero, suc, ◌<◌, ◌≤◌, Bool, true, List, [], ◌∷◌, length, get_or, sym, ◌∙◌, arith, list_any, nat_tests}
use Rattle.sctp_sender.proofs.Names.{get_or-map, length-map, or-left, or-right, ChunkPayloadData, StandSideBySide, IsApartAt, is_number, messages_of}

any-at : (p : ℕ → Bool) (ms : List ℕ) (i d : ℕ) → i < length ms → p (get_or ms i d) ≡ true → list_any p ms ≡ true
any-at p [] i d lt h = absurd (omega (arith, lt))
any-at p (m ∷ ms) zero d lt h = or-left (p m) (list_any p ms) h
any-at p (m ∷ ms) (suc i) d lt h = or-right (p m) (list_any p ms) (any-at p ms i d (omega (arith, lt)) h)

-- where two neighbours differ, no number stands on both sides
pub cut : (ms : List ℕ) (at i j d : ℕ) → StandSideBySide ms → get_or ms at d ≢ get_or ms (suc at) d → i ≤ at → at < j → j < length ms
    → get_or ms i d ≢ get_or ms j d
cut [] at i j d s differ le lt in' = absurd (omega (arith, in'))
cut (a ∷ []) at i j d s differ le lt in' = absurd (omega (arith, lt, in'))
cut (a ∷ b ∷ ms) at i zero d s differ le lt in' = absurd (omega (arith, lt))
cut (a ∷ b ∷ ms) zero zero (suc j) d s differ le lt in' = λ e.
    let there : list_any (is_number a) (b ∷ ms) ≡ true = any-at (is_number a) (b ∷ ms) j d (omega (arith, in')) (grind (arith, nat_tests, e)) in
    differ (sym (s.0 there))
cut (a ∷ b ∷ ms) zero (suc i) (suc j) d s differ le lt in' = absurd (omega (arith, le))
cut (a ∷ b ∷ ms) (suc at) zero (suc j) d s differ le lt in' = λ e.
    let there : list_any (is_number a) (b ∷ ms) ≡ true = any-at (is_number a) (b ∷ ms) j d (omega (arith, in')) (grind (arith, nat_tests, e)) in
    cut (b ∷ ms) at zero j d s.1 differ (omega arith) (omega (arith, lt)) (omega (arith, in')) (s.0 there ∙ e)
cut (a ∷ b ∷ ms) (suc at) (suc i) (suc j) d s differ le lt in' = cut (b ∷ ms) at i j d s.1 differ (omega (arith, le)) (omega (arith, lt)) (omega (arith, in'))

pub cut-at : (cs : List ChunkPayloadData) (at : ℕ) → StandSideBySide (messages_of cs)
    → ((d : ChunkPayloadData) → (get_or cs at d).message_id ≢ (get_or cs (suc at) d).message_id) → suc at < length cs → IsApartAt (suc at) cs
cut-at cs at s differ lt i j d low high in' =
    let n = length-map cs (λ c. c.message_id) in
    let read : (k : ℕ) → k < length cs → get_or (messages_of cs) k 0 ≡ (get_or cs k d).message_id = λ k less. get_or-map (λ c. c.message_id) cs k d 0 less in
    λ e. cut (messages_of cs) at i j 0 s (λ f. differ d (sym (read at (omega (arith, lt))) ∙ f ∙ read (suc at) lt)) (omega (arith, low)) (omega (arith, high))
    (omega (arith, in', n)) (read i (omega (arith, low, high, in')) ∙ e ∙ sym (read j in'))
