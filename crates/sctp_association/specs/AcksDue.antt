-- When a SACK comes to be due (RFC 9260 6.2, 6.7; RFC 7053; RFC 3758 3.6). Moments are nanoseconds.
use Rattle.std.specs.Prelude.{◌≡◌, ◌⊎◌, ⊤, ℕ, ◌==◌, Bool, true, false, not, ◌||◌, if◌then◌else◌, length, Option, Some, None}
use Rattle.std.specs.Option.{option_map}
use Rattle.sctp_association.specs.Served.{is_to_open}
use Rattle.sctp_association.specs.declared.inbound.Inbound.{Inbound}
use Rattle.sctp_data.specs.declared.chunk.chunk_payload_data.ChunkPayloadData.{ChunkPayloadData}
use Rattle.sctp_handshake.specs.declared.answer.Told.{Told}
use Rattle.sctp_handshake.specs.declared.answer.Told.TheVariants as told
use Rattle.sctp_path.specs.Timers.{Delay, after_packet, new_delay}
use Rattle.sctp_receiver.specs.Receiver.{Reception, arrival_refusal, filter_of, open_stream}
use Rattle.sctp_receiver.specs.TsnFilter.{has_come}
use Rattle.sctp_receiver.specs.declared.receiver.refusal.ReceiverRefusal.{ReceiverRefusal}

-- Whether DATA came in the datagram that is taken, and is to be acknowledged at once: None where none came. And when a SACK is due.
pub record Acks : Type 0 where
  pub came : Option Bool
  pub delay : Delay

abbrev pub acks_in : Inbound → Acks
acks_in i = record { came = i.came; delay = i.delay }

-- of the receiving half, where there is one
abbrev pub acks_of : Option Inbound → Option Acks
acks_of i = option_map acks_in i

-- of a new one: nothing came, and no SACK is due. SACK.Delay is that of the config, and at most 500 ms
abbrev pub no_acks : (delay : ℕ) → Acks
no_acks delay = record { came = None; delay = new_delay delay }

-- ## What is noted

abbrev pub is_at_once : Option Bool → Bool
is_at_once None = false
is_at_once (Some at_once) = at_once

-- DATA came: the datagram is acknowledged at once where one chunk of it is to be
abbrev pub with_data : (at_once : Bool) → Acks → Acks
with_data at_once a = record a { came = Some (at_once || is_at_once a.came) }

-- a SACK is due now
abbrev pub with_due : (now : ℕ) → Acks → Acks
with_due now a = record a { delay = after_packet now true a.delay }

-- the datagram ends: where DATA came in it, it is one more packet that waits for a SACK, of which every second one is acknowledged (6.2)
abbrev pub ended_with : (now : ℕ) → Option Bool → Delay → Acks
ended_with now None d = record { came = None; delay = d }
ended_with now (Some at_once) d = record { came = None; delay = after_packet now at_once d }

abbrev pub ended : (now : ℕ) → Acks → Acks
ended now a = ended_with now a.came a.delay

-- ## A DATA chunk

-- a TSN is missing before one that came
abbrev pub has_gaps : Reception → Bool
has_gaps r = not (length r.beyond == 0)

-- it is acknowledged at once where it is a repeat, has the I bit, or there is a gap before it came or behind (6.2, 6.7; RFC 7053)
abbrev pub hurries : ChunkPayloadData → (old new : Reception) → Bool
hurries c old new =
    has_come c.tsn (filter_of old) || (c.immediate_sack || (has_gaps old || has_gaps new))

-- One that is not refused is noted. By one that is refused a SACK is due now: that tells what there is room for, or that its TSN came where its stream is
-- unknown, or its message too long (6.2, 6.5).
abbrev pub acks_by : Option ReceiverRefusal → ChunkPayloadData → (now : ℕ)
    → (old new : Reception) → Acks → Acks
acks_by None c now old new a = with_data (hurries c old new) a
acks_by (Some refusal) c now old new a = with_due now a

-- the receiver that it comes to: its stream opens where it is to
abbrev pub entered_on : ChunkPayloadData → Inbound → Reception
entered_on c i =
    if is_to_open c.stream_identifier i then open_stream c.stream_identifier i.receiver
    else i.receiver

-- so it is of one that is taken
abbrev pub AcksData : ChunkPayloadData → (now : ℕ) → (old new : Inbound) → Type 0
AcksData c now old new = acks_in new
    ≡ acks_by (arrival_refusal c (entered_on c old)) c now old.receiver new.receiver
    (acks_in old)

-- ## Where an association begins

-- What the machine tells leaves that, but where the association begins, or begins anew: then the receiving half is a new one, or there is none. An
-- association that is over acknowledges nothing.
abbrev pub AcksTold : Option Told → (delay : ℕ) → (old new : Option Acks) → Type 0
AcksTold None delay old new = new ≡ old
AcksTold (Some told.Connected) delay old new = (new ≡ Some (no_acks delay)) ⊎ (new ≡ old)
AcksTold (Some told.Restarted) delay old new = (new ≡ Some (no_acks delay)) ⊎ (new ≡ None)
AcksTold (Some told.ShutdownBegun) delay old new = new ≡ old
AcksTold (Some told.Closed) delay old new = ⊤
AcksTold (Some told.Failed) delay old new = ⊤
