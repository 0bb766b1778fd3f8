-- What else a link keeps, as it abandons: what it writes into its record, and the place of a TSN.
use Rattle.sctp_model.proofs.Names.{◌≡◌, ℕ, ◌<◌, ◌^◌, Bool, true, false, List, [], ◌∷◌, ◌++◌, length, refl, ap, sym, ◌∙◌, arith, append-nil, if◌then◌else◌}
use Rattle.sctp_model.proofs.Names.{change_at, length-changed, LinkRecord, Slot, ordered_before, sent_of, is_partially_sent, tsn_of, place_of, after_abandon}
use Rattle.sctp_model.proofs.Names.{with_slot, message_changed, mark_abandoned, nat_tests}
use Rattle.sctp_model.proofs.refinement.abandonment.Abandoned.{before-same}
use Rattle.sctp_model.proofs.refinement.abandonment.AbandonedLate.{messages-then}

-- ## What the link writes

-- the terminal chunk, where there is one
abbrev pub terminal_of : LinkRecord → ℕ → List Slot
terminal_of w n =
    if is_partially_sent w n then record { message = n; fragment = sent_of w n; is_terminal_chunk = true; arrived = false; acknowledged = false } ∷ [] else []

pub abandoned-is : (w : LinkRecord) (n : ℕ)
    → after_abandon w n ≡ record w { messages = change_at mark_abandoned n w.messages; slots = w.slots ++ terminal_of w n }
abandoned-is w n = by (is_partially_sent w n)
  where
    by : (b : Bool) → message_changed (if b then with_slot w n true else w) n mark_abandoned ≡ record w {
      messages = change_at mark_abandoned n w.messages;
      slots =
          w.slots ++ (if b then record { message = n; fragment = sent_of w n; is_terminal_chunk = true; arrived = false; acknowledged = false } ∷ [] else []);
    }
    by true = refl
    by false = ap (λ l. let v : LinkRecord = record w { messages = change_at mark_abandoned n w.messages; slots = l } in v) (sym (append-nil w.slots))

-- ## What stays

pub count-then : (w : LinkRecord) (n : ℕ) → length (after_abandon w n).messages ≡ length w.messages
count-then w n = ap length (messages-then w n) ∙ length-changed mark_abandoned n w.messages

-- the count of ordered messages before one, and the one that was noted with it
pub before-then : (w : LinkRecord) (n s k : ℕ) → ordered_before (after_abandon w n) s k ≡ ordered_before w s k
before-then w n s k = grind (arith, nat_tests, before-same)

-- ## The place of a TSN

pub place-back : (w : LinkRecord) (p : ℕ) → w.setup.first < 2 ^ 32 → p < 2 ^ 32 → place_of w (tsn_of w p) ≡ p
place-back w p first short = omega (arith, first, short)
