-- What becomes of a FORWARD-TSN that is due (RFC 3758 3.5 C3, F2).
use Rattle.std.specs.Prelude.{◌≡◌, ◌⊎◌, ℕ, ◌-◌, Bool, true, []}
use Rattle.sctp_association.specs.Leaving.{IsSentIn}
use Rattle.sctp_association.specs.Runs.{Sends}
use Rattle.sctp_association.specs.declared.association.Association.{Association}
use Rattle.sctp_chunks.specs.Wire.{Wire, forward_tsn_chunk}
use Rattle.sctp_data.specs.ForwardTsn.{ForwardTsn}
use Rattle.sctp_sender.specs.Abandonment.{IsTooLong, is_end}
use Rattle.sctp_sender.specs.Sender.{Transmission}

-- No FORWARD-TSN of so many bytes can be made: it goes to the end of an abandoned message, and up to each of these too many streams are to be named. So
-- it is where there is none such.
abbrev pub NoneFits : (room : ℕ) → Transmission → Type 0
NoneFits room t = (tsn : ℕ) → is_end tsn t.flight ≡ true → IsTooLong room tsn t.flight

-- It stays due, or is among these, or none can be made for a whole packet of at most so many bytes.
abbrev pub LeavesSkip : (In : Wire → Type 0) → (limit : ℕ) → Transmission → (old new : Bool) → Type 0
LeavesSkip In limit t old new = old ≡ true → (new ≡ true)
    ⊎ (((f : ForwardTsn) × In (forward_tsn_chunk f)) ⊎ NoneFits (limit - 12) t)

-- so it is of a datagram, once messages past their lifetime are dropped
pub record LeavesSkipBy (sent : Bool) (old new : Association) : Type 0 where
  pub kept : Transmission
  pub dropped : Sends [] old.outbound.sender kept
  pub leaves : LeavesSkip (IsSentIn sent new.draft.bytes) old.draft.limit kept
      old.outbound.is_skip_due new.outbound.is_skip_due
