-- Which directions of a stream are open.
use Rattle.std.specs.Prelude.{ℕ, Bool, true, false, ◌==◌, if◌then◌else◌}
use Rattle.sctp_stream.specs.declared.stream.RecvSendState.{RecvSendState}
use Rattle.sctp_stream.specs.declared.stream.RecvSendState.TheVariants.{Closed, Readable, Writable, ReadWritable}

abbrev pub can_read : RecvSendState → Bool
can_read Readable = true
can_read ReadWritable = true
can_read Writable = false
can_read Closed = false

abbrev pub can_write : RecvSendState → Bool
can_write Writable = true
can_write ReadWritable = true
can_write Readable = false
can_write Closed = false

abbrev pub finish_sending : RecvSendState → RecvSendState
finish_sending ReadWritable = Readable
finish_sending Readable = Readable
finish_sending Writable = Closed
finish_sending Closed = Closed

abbrev pub state_from : ℕ → RecvSendState
state_from n =
    if n == 1 then Readable else (if n == 2 then Writable
    else (if n == 3 then ReadWritable else Closed))
