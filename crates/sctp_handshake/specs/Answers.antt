-- What an input is answered.
use Rattle.std.specs.Prelude.{Some, None}
use Rattle.sctp_handshake.specs.declared.answer.Answer.{Answer}
use Rattle.sctp_handshake.specs.declared.answer.Reply.{Reply}
use Rattle.sctp_handshake.specs.declared.answer.Told.{Told}

abbrev pub silent : Answer
silent = record { reply = None; told = None }

abbrev pub replied : Reply → Answer
replied r = record { reply = Some r; told = None }

abbrev pub noticed : Told → Answer
noticed t = record { reply = None; told = Some t }

abbrev pub both : Reply → Told → Answer
both r t = record { reply = Some r; told = Some t }
