-- What can be sent again.
use Rattle.sctp_model.proofs.Names.{◌≡◌, ℕ, ◌<◌, ◌≤◌, Bool, true, false, length, refl, ◌&&◌, ◌||◌, not, nat_le, nat_lt, lt-ltb, LinkRecord, is_cleared}
use Rattle.sctp_model.proofs.Names.{message_at, message_of, slot_at, can_resend}
use Rattle.std.proofs.lemmas.Bool.{le-leb}

pub all-right : (a b c d : Bool) → a ≡ true → b ≡ true → ((a && b) && (not c && not d)) ≡ not (c || d)
all-right a b true d h i = rw (h, i) refl
all-right a b false d h i = rw (h, i) refl

-- one that is neither, among those in flight, can be sent again
pub can-resend : (w : LinkRecord) (p : ℕ) → w.taken ≤ p → p < length w.slots → can_resend w p ≡ not (is_cleared w p)
can-resend w p le lt = all-right (nat_le w.taken p) (nat_lt p (length w.slots))
    (slot_at w p).acknowledged (message_at w (message_of w p)).abandoned (le-leb w.taken p le) (lt-ltb p (length w.slots) lt)
