-- Which of the bytes that leave take the buffered amount of a stream down to its low threshold.
use Rattle.std.specs.Prelude.{ℕ, Bool, false, not, ◌&&◌, ◌==◌, nat_lt, List, [], ◌∷◌, Option, Some, None}
use Rattle.std.specs.List.{find}
use Rattle.sctp_util.specs.Lists.{change_where}
use Rattle.sctp_stream.specs.declared.outbound_stream.OutboundStream.{OutboundStream}
use Rattle.sctp_stream.specs.Stream.{falls_low}
use Rattle.sctp_sender.specs.declared.sender.flight.Released.{Released}
use Rattle.sctp_sender.specs.declared.sender.flight.late.AbandonedMessage.{AbandonedMessage}
use Rattle.sctp_sender.specs.Outgoing.{has_number, less_by}
use Rattle.sctp_sender.specs.Sender.{Transmission, stream_of}

-- ## One release

-- so many bytes less take the amount from above the threshold to at most it; false where the stream is not open
abbrev pub falls_in : Option OutboundStream → ℕ → Bool
falls_in None bytes = false
falls_in (Some l) bytes = falls_low l bytes

abbrev pub falls_on : ℕ → ℕ → List OutboundStream → Bool
falls_on s bytes ls = falls_in (find (has_number s) ls) bytes

-- ## An answer

-- each chunk says whether the amount of its stream falls with it, after those before it
abbrev pub with_lows : List Released → List OutboundStream → List Released
with_lows [] ls = []
with_lows (r ∷ rs) ls =
    record r { is_low = falls_on r.stream r.bytes ls }
    ∷ with_lows rs (change_where (has_number r.stream) (less_by r.bytes) ls)

-- and each message
abbrev pub with_message_lows : List AbandonedMessage → List OutboundStream → List AbandonedMessage
with_message_lows [] ls = []
with_message_lows (g ∷ gs) ls =
    record g { is_low = falls_on g.stream g.bytes ls }
    ∷ with_message_lows gs (change_where (has_number g.stream) (less_by g.bytes) ls)

-- ## What a call tells

-- the amount is above the threshold; false where the stream is not open
abbrev pub is_above : Option OutboundStream → Bool
is_above None = false
is_above (Some l) = nat_lt l.buffered_amount_low l.buffered_amount

-- the amount of the stream was above its threshold, and is not after the call
abbrev pub fell : ℕ → Transmission → Transmission → Bool
fell s old new = is_above (stream_of s old) && not (is_above (stream_of s new))

-- it is a chunk of the stream, and says that the amount fell with it
abbrev pub tells_low : ℕ → Released → Bool
tells_low s r = r.stream == s && r.is_low

-- it is a message of the stream, and says so
abbrev pub tells_message_low : ℕ → AbandonedMessage → Bool
tells_message_low s g = g.stream == s && g.is_low
