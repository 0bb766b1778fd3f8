-- What becomes of the SHUTDOWN, or the SHUTDOWN-ACK, that is due as a shutdown goes on (RFC 9260 9.2).
use Rattle.std.specs.Prelude.{[], Bool, Option}
use Rattle.sctp_association.specs.declared.association.Association.{Association}
use Rattle.sctp_association.specs.Leaving.{IsSentIn, IsTooLong, Leaves, replies_of}
use Rattle.sctp_association.specs.Rows.{asked_for, drained_where, owed_by}
use Rattle.sctp_association.specs.Runs.{Sends}
use Rattle.sctp_association.specs.Sending.{holds_nothing}
use Rattle.sctp_handshake.specs.declared.answer.Reply.{Reply}
use Rattle.sctp_sender.specs.Sender.{Transmission}

-- what is due then: a SHUTDOWN as ShutdownSent is entered, a SHUTDOWN-ACK as ShutdownAckSent is, where nothing waits or is in flight
abbrev pub settled_by : Transmission → Association → Option Reply
settled_by kept a =
    (drained_where (holds_nothing kept) (asked_for a.wants_shutdown a.machine)).answer.reply

abbrev pub owing : Option Reply → Association → Association
owing reply a = record a { due = owed_by reply 0 a.due }

-- It leaves, or stays due, and so does each reply that was due before. That goes by what waits once messages past their lifetime are dropped.
pub record LeavesSettled (sent : Bool) (old new : Association) : Type 0 where
  pub kept : Transmission
  pub dropped : Sends [] old.outbound.sender kept
  pub leaves : Leaves (IsSentIn sent new.draft.bytes) (IsTooLong old.draft.limit)
      (replies_of (owing (settled_by kept old) old)) (replies_of new)
