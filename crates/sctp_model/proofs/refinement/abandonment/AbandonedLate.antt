-- Abandoning the messages of late slots: the order and repeats do not matter.
use Rattle.sctp_model.proofs.Names.{◌≡◌, ℕ, zero, suc, Bool, true, false, List, [], ◌∷◌, get_or, refl, ap, sym, ◌∙◌, arith, if◌then◌else◌, ◌==◌, ◌&&◌, ◌||◌}
use Rattle.sctp_model.proofs.Names.{not, change_at, LinkRecord, Message, message_at, no_message, sent_of, is_partially_sent, after_abandon, with_slot}
use Rattle.sctp_model.proofs.Names.{message_changed, mark_abandoned, nat_tests}
use Rattle.sctp_model.proofs.refinement.abandonment.Abandoned.{abandoned-then, partial-then}
use Rattle.sctp_model.proofs.refinement.abandonment.NothingHeld.{sent-same}

-- ## Once more

-- a message that is abandoned is not partially sent
pub dead-partial : (w : LinkRecord) (n : ℕ) → (message_at w n).abandoned ≡ true → is_partially_sent w n ≡ false
dead-partial w n e = grind (arith, nat_tests)

marked-again : (n : ℕ) (ms : List Message) → (get_or ms n no_message).abandoned ≡ true → change_at mark_abandoned n ms ≡ ms
marked-again n [] e = refl
marked-again zero (m ∷ ms) e = ap (λ b. record m { abandoned = b } ∷ ms) (sym e)
marked-again (suc n) (m ∷ ms) e = ap (λ l. m ∷ l) (marked-again n ms e)

-- abandoning it again does nothing
pub abandoned-again : (w : LinkRecord) (n : ℕ) → (message_at w n).abandoned ≡ true → after_abandon w n ≡ w
abandoned-again w n e = grind (arith, nat_tests, dead-partial, marked-again)

-- ## What an abandonment leaves

pub sent-then : (w : LinkRecord) (n k : ℕ) → sent_of (after_abandon w n) k ≡ sent_of w k
sent-then w n k = by (is_partially_sent w n)
  where
    by : (b : Bool) → sent_of (message_changed (if b then with_slot w n true else w) n mark_abandoned) k ≡ sent_of w k
    by true = sent-same w n k
    by false = refl

pub messages-then : (w : LinkRecord) (n : ℕ) → (after_abandon w n).messages ≡ change_at mark_abandoned n w.messages
messages-then w n = grind (arith, nat_tests)

pub dead-then : (w : LinkRecord) (n k : ℕ) → (message_at (after_abandon w n) k).abandoned ≡ ((k == n) || (message_at w k).abandoned)
dead-then w n k = ap (λ l. (get_or l k no_message).abandoned) (messages-then w n) ∙ abandoned-then w n k

pub partial-still : (w : LinkRecord) (n k : ℕ) → is_partially_sent (after_abandon w n) k ≡ (is_partially_sent w k && not (k == n))
partial-still w n k = grind (arith, nat_tests, sent-same, partial-then)
