-- What DATA, a SACK and a FORWARD-TSN leave (RFC 9260 6, 9.2; RFC 3758 3.6).
use Rattle.std.specs.Prelude.{◌≡◌, ⊤, ℕ, ◌==◌, Bool, true, List}
use Rattle.sctp_association.specs.Ends.{IsAbortedBy}
use Rattle.sctp_association.specs.declared.association.Association.{Association}
use Rattle.sctp_association.specs.declared.association.arrivals.Step.{Step}
use Rattle.sctp_association.specs.declared.association.arrivals.Step.TheVariants.{Next, Stop, Cut, Refused}
use Rattle.sctp_datagram.specs.declared.datagram.ChunkPlace.{ChunkPlace}
use Rattle.sctp_handshake.specs.declared.state.State.TheVariants.{ShutdownSent}

-- Behind chunks with or without DATA the state stays, and what the machine knows. DATA that comes while the SHUTDOWN of this side waits for its
-- answer may make another one due, and the timer may count anew (9.2). Nothing else is due that was not.
pub record StillAs (with_data : Bool) (old new : Association) : Type 0 where
  pub machine : new.machine ≡ record old.machine { attempts = new.machine.attempts }
  pub due : new.due ≡ record old.due { shutdown = new.due.shutdown }
  pub shutdown : old.due.shutdown ≡ true → new.due.shutdown ≡ true
  pub same : (with_data ≡ true → old.machine.state ≡ ShutdownSent → ⊥)
      → (new.machine ≡ old.machine) × (new.due ≡ old.due)
  pub over : new.is_over ≡ old.is_over
  pub wants : new.wants_shutdown ≡ old.wants_shutdown

-- So it is behind DATA, a SACK or a FORWARD-TSN that is taken, unless this side ends the association by it. Where memory is wanting nothing ends.
abbrev pub StillOn : ChunkPlace → List ℕ → Step → (old new : Association) → Type 0
StillOn c datagram Next old new = StillAs (c.typ == 0) old new
StillOn c datagram Stop old new = IsAbortedBy c datagram old.machine.peer new
StillOn c datagram Cut old new = new.is_over ≡ old.is_over
StillOn c datagram (Refused r) old new = ⊤
