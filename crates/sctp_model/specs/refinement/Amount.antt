-- What a stream still has to send or to see acknowledged, and the bytes of it that slots hold.
use Rattle.std.specs.Prelude.{ℕ, ◌+◌, Bool, true, false, ◌&&◌, ◌||◌, not, ◌==◌, if◌then◌else◌}
use Rattle.sctp_util.specs.Kept.{total_over}
use Rattle.sctp_model.specs.declared.event.Event.{Event}
use Rattle.sctp_model.specs.declared.event.Event.TheVariants as E
use Rattle.sctp_model.specs.LinkRecord.{LinkRecord, Report}
use Rattle.sctp_model.specs.Messages.{message_at, slot_at, message_of, slots_where}
use Rattle.sctp_model.specs.Amounts.{is_expired_or_abandoned, slot_bytes, pending_bytes, in_flight_bytes, on_stream}
use Rattle.sctp_model.specs.Reports.{reports}

-- the bytes of a stream that are pending or in flight: what `buffered_amount` says of it where it is open
abbrev pub amount : LinkRecord → ℕ → ℕ
amount w t = on_stream w t (pending_bytes w) + on_stream w t (in_flight_bytes w)

-- the bytes of message n that are pending or in flight: those that abandoning it releases
abbrev pub held_bytes : LinkRecord → ℕ → ℕ
held_bytes w n = pending_bytes w n + in_flight_bytes w n

-- an event that writes nothing, gives nothing up and acknowledges nothing
abbrev pub keeps_amounts : Event → Bool
keeps_amounts (E.Write s ppi bytes) = false
keeps_amounts (E.Expire now) = false
keeps_amounts (E.Tail now) = false
keeps_amounts (E.Late now) = false
keeps_amounts (E.Abandon tsn) = false
keeps_amounts (E.Acked k) = false
keeps_amounts _ = true

-- the stream of the message that the slot at this place belongs to
abbrev pub stream_of_slot : LinkRecord → ℕ → ℕ
stream_of_slot w place = (message_at w (message_of w place)).stream

-- the bytes that the slot at this place holds: none where it is a terminal chunk or its message expired or was abandoned
abbrev pub bytes_at : LinkRecord → ℕ → ℕ
bytes_at w place =
    if (slot_at w place).is_terminal_chunk || is_expired_or_abandoned w (message_of w place) then 0
    else slot_bytes w (message_of w place) place

-- the bytes in the slots but for those that pass
abbrev pub bytes_but_for : LinkRecord → (ℕ → Bool) → ℕ
bytes_but_for w acked = total_over (bytes_at w) (slots_where w (λ place. not (acked place)))

-- those of stream t
abbrev pub unacked_on : LinkRecord → (ℕ → Bool) → ℕ → ℕ
unacked_on w acked t =
    total_over (bytes_at w) (slots_where w
    (λ place. not (acked place) && (stream_of_slot w place == t)))

-- the slot at this place is acknowledged
abbrev pub acknowledged_at : LinkRecord → ℕ → Bool
acknowledged_at w place = (slot_at w place).acknowledged

-- it is once this SACK is taken
abbrev pub acknowledged_then : LinkRecord → Report → ℕ → Bool
acknowledged_then w r place = (slot_at w place).acknowledged || reports r place
