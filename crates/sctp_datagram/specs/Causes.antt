-- Error causes, as RFC 9260 3.3.10 has a receiver find them.
use Rattle.std.specs.Prelude.{◌≡◌, ℕ, ◌+◌, ◌-◌, min, List, length, take, drop}
use Rattle.sctp_util.specs.Field.{u16_at}
use Rattle.sctp_util.specs.Padding.{padded_length}
use Rattle.sctp_chunks.specs.ErrorCause.{IsCause, cause_declared_length, cause_value_at}
use Rattle.sctp_datagram.specs.declared.causes.CausePlace.{CausePlace}

-- A cause begins at a place of the bytes, and these are its code and where its value lies. The next one begins behind its padding, or at the end
-- of the bytes.
pub record TellsCause (bytes : List ℕ) (at : ℕ) (p : CausePlace) : Type 0 where
  pub is_cause : IsCause (drop at bytes)
  pub code : p.code ≡ u16_at (drop at bytes) 0
  pub value_at : p.at ≡ at + 4
  pub value_length : p.length ≡ cause_declared_length (drop at bytes) - 4
  pub value : take p.length (drop p.at bytes) ≡ cause_value_at (drop at bytes)
  pub later : p.next
      ≡ at + min (padded_length (cause_declared_length (drop at bytes))) (length (drop at bytes))
