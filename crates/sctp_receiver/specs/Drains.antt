-- Reading a stream until no message is left (RFC 9260 6.5, 6.6).
use Rattle.std.specs.Prelude.{◌≡◌, ℕ, ◌+◌, ◌%◌, ◌^◌, ◌==◌, ◌&&◌, if◌then◌else◌, List, [], ◌∷◌, ◌++◌, Option, Some, None}
use Rattle.sctp_util.specs.Serial.{at_or_before16}
use Rattle.sctp_data.specs.ChunkSet.{ChunkSet}
use Rattle.sctp_reassembly.specs.reassembly_queue.Fragments.{is_complete}
use Rattle.sctp_receiver.specs.declared.receiver.inbound_streams.InboundStream.{InboundStream}
use Rattle.sctp_receiver.specs.Receiver.{Reception, after_read, message_on, stream_of}

-- these messages are read on the stream, one after another, and then none is left
abbrev pub Drains : ℕ → List ChunkSet → Reception → Reception → Type 0
Drains stream [] old new = (message_on stream old ≡ None) × (new ≡ old)
Drains stream (m ∷ ms) old new =
    (message_on stream old ≡ Some m) × Drains stream ms (after_read stream old) new

-- of ordered messages those in front that are complete, up to the first one that is not or whose number is past the next one
abbrev pub due_from : ℕ → List ChunkSet → List ChunkSet
due_from next [] = []
due_from next (set ∷ sets) =
    if is_complete set.chunks && at_or_before16 set.ssn next
    then set ∷ due_from (if set.ssn == next then (next + 1) % 2 ^ 16 else next) sets else []

-- the complete unordered messages, and behind them the ordered ones that are due
abbrev pub due_on : Option InboundStream → List ChunkSet
due_on None = []
due_on (Some l) = l.queue.held.unordered ++ due_from l.queue.held.next_ssn l.queue.held.ordered

-- ## The law

-- what is read is what is due
abbrev pub DrainsGiveWhatIsDue : Type 0
DrainsGiveWhatIsDue =
    (stream : ℕ) (ms : List ChunkSet) (old new : Reception) → Drains stream ms old new
    → ms ≡ due_on (stream_of stream old)

-- and all that is due can be read
abbrev pub WhatIsDueDrains : Type 0
WhatIsDueDrains =
    (stream : ℕ) (old : Reception)
    → (new : Reception) × Drains stream (due_on (stream_of stream old)) old new
