-- What a link answers, in the words of the definitions.
use Rattle.std.specs.Prelude.{Result, Ok, Err}
use Rattle.sctp_model.specs.Reply as R
use Rattle.sctp_model.specs.declared.event.LinkRefusal.{LinkRefusal}
use Rattle.sctp_link.specs.declared.event.Reply.{Reply}
use Rattle.sctp_link.specs.declared.event.Reply.TheVariants as V

-- a reply: of a message's chunks the fragments are told
abbrev pub reply_of : Reply → R.Reply
reply_of V.Opened = R.Opened
reply_of V.«Set» = R.«Set»
reply_of (V.Wrote number fragments) = R.Wrote number fragments
reply_of V.Started = R.Started
reply_of (V.Sent datagram tsn ssn count) = R.Sent datagram tsn ssn count
reply_of V.Idle = R.Idle
reply_of (V.Resent datagram) = R.Resent datagram
reply_of (V.Expired stream bytes) = R.Expired stream bytes
reply_of (V.Released stream bytes) = R.Released stream bytes
reply_of (V.Late listed bytes) = R.Late listed bytes
reply_of (V.Skip datagram) = R.Skip datagram
reply_of V.Skipped = R.Skipped
reply_of V.Stale = R.Stale
reply_of (V.Ack datagram) = R.Ack datagram
reply_of V.New = R.New
reply_of V.Repeat = R.Repeat
reply_of (V.Acked bytes) = R.Acked bytes
reply_of (V.Message stream ppi chunks) = R.Message stream ppi chunks.set
reply_of V.Nothing = R.Nothing

abbrev pub answer_of : Result Reply LinkRefusal → Result R.Reply LinkRefusal
answer_of (Ok reply) = Ok (reply_of reply)
answer_of (Err refusal) = Err refusal
