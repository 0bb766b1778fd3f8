-- When DATA leaves, and when T3-rtx runs (RFC 9260 6.1, 6.3.2, 7.2). Amounts are bytes, moments nanoseconds.
use Rattle.std.specs.Prelude.{◌≡◌, ℕ, zero, suc, ◌+◌, ◌-◌, ◌*◌, ◌/◌, ◌^◌, ◌≤◌, ◌==◌, Bool, true, false, not, ◌&&◌, ◌||◌, nat_le, nat_lt, min, max}
use Rattle.std.specs.Prelude.{if◌then◌else◌, List}
use Rattle.std.specs.Prelude.{[]}
use Rattle.std.specs.Prelude.{◌∷◌, Option, Some, None, IfSome, is_some, ◌⊎◌, length}
use Rattle.sctp_data.specs.declared.chunk.chunk_payload_data.ChunkPayloadData.{ChunkPayloadData}
use Rattle.sctp_data.specs.Reliability.{is_past}
use Rattle.sctp_outbound.specs.Outstanding.{outstanding_of}
use Rattle.sctp_outbound.specs.pending_queue.PendingQueue.{chunk_count, next_pending}
use Rattle.sctp_path.specs.Congestion.{Control, after_idling, may_burst, may_send}
use Rattle.sctp_path.specs.Timers.{started}
use Rattle.sctp_sender.specs.Sender.{Transmission}

-- ## What may be sent

-- the total size of the DATA chunks that are outstanding: their bytes of user data, and a header of 16 for each (RFC 9260 2.3, 3.3.1)
abbrev pub flight_of : List ChunkPayloadData → ℕ
flight_of chunks =
    let o = outstanding_of chunks in
    min (o.bytes + 16 * o.chunks) (2 ^ 64 - 1)

-- New DATA of so many bytes may leave: one chunk where nothing is outstanding, which probes a window of 0 (6.1 A). Else the peer's window has
-- room for it beside the user data that is outstanding (A), and the DATA chunks that are outstanding have at most cwnd (B, 7.2.3), and less than a
-- burst allows from its beginning on (D)
abbrev pub may_send_data : (bytes user_data peer_window flight base : ℕ) → Control → Bool
may_send_data bytes user_data peer_window flight base c =
    flight == 0 || (nat_le (user_data + bytes) peer_window
    && (may_send flight c && may_burst base flight c))

-- how many chunks in flight are marked to be sent again (6.1 C, 6.3.3 E3, 7.2.4)
abbrev pub marked_in : Transmission → ℕ
marked_in t = (outstanding_of t.flight.queue.inflight.chunks).marked

-- the bytes that were outstanding when the burst began that is under way
abbrev pub base_of : ℕ → Option ℕ → ℕ
base_of flight None = flight
base_of flight (Some base) = base

-- so of what is in flight, which are fewer chunks than at most may be; one may be in any case
abbrev pub may_send_next : (bytes most peer_window : ℕ) → Option ℕ → Control
    → List ChunkPayloadData → Bool
may_send_next bytes most peer_window burst c chunks =
    let flight = flight_of chunks in
    nat_lt (length chunks) (max 1 most)
    && may_send_data bytes (outstanding_of chunks).bytes peer_window flight
    (base_of flight burst) c

-- a time to send begins: the moment is later than that at which nothing more left
abbrev pub is_later : ℕ → Option ℕ → Bool
is_later now None = false
is_later now (Some paused) = nat_lt paused now

-- the moment at which a chunk left last
abbrev pub sent_at : Option ChunkPayloadData → Option ℕ
sent_at None = None
sent_at (Some c) = c.since

-- A chunk that T3-rtx marked as it expired waits while something is outstanding, where it had left less than a round trip ago: a SACK of it may
-- still come (6.3.3 E3 marks it, which is a SHOULD)
abbrev pub is_early : (flight now expired : ℕ) → (trip sent : Option ℕ) → Bool
is_early flight now expired None sent = false
is_early flight now expired (Some trip) None = false
is_early flight now expired (Some trip) (Some sent) =
    nat_lt 0 flight && (nat_lt sent expired && nat_lt (now - sent) trip)

-- DATA may be sent again: one packet of it whatever is outstanding, where fast retransmission begins (7.2.4); else a packet, while at most
-- cwnd was outstanding when it began, and the first chunk does not wait (6.3.3 E3)
abbrev pub may_send_again : (is_fast early : Bool) → ℕ → Control → Bool
may_send_again is_fast early flight c = is_fast || (may_send flight c && not early)

-- ## What is abandoned (RFC 3758 4.1)

-- the message in front of what waits is past its lifetime, and more of it waits than its last chunk
abbrev pub is_front_late : ℕ → Option ChunkPayloadData → Bool
is_front_late now None = false
is_front_late now (Some c) =
    is_past now c.deadline && (c.beginning_fragment || not c.ending_fragment)

-- What has expired is looked for where something is to be sent again, or the message in front is late. Else what is in flight may have come, and
-- the last chunk of a message goes, of which some left in time (11.1.5)
abbrev pub may_drop : ℕ → Transmission → Bool
may_drop now t =
    nat_lt 0 (marked_in t) || is_front_late now (next_pending t.flight.queue.pending)

-- ## Idle paths (7.2.1)

-- how many RTOs have passed; more than 64 halve no further
abbrev pub idle_times : ℕ → ℕ → ℕ → ℕ
idle_times now since rto = min ((now - since) / max rto 1) 64

-- a window of more than four packets is halved, down to four
abbrev pub lowered : Control → Control
lowered c = if nat_lt c.pmdcs (c.window / 4) then after_idling c else c

abbrev pub lowered_times : ℕ → Control → Control
lowered_times zero c = c
lowered_times (suc n) c = lowered (lowered_times n c)

-- ## T3-rtx

abbrev pub is_none_of : List ChunkPayloadData → Bool
is_none_of [] = true
is_none_of (c ∷ cs) = false

-- nothing waits, and nothing is in flight
abbrev pub holds_nothing : Transmission → Bool
holds_nothing t =
    is_none_of t.flight.queue.inflight.chunks && (chunk_count t.flight.queue.pending == 0)

-- it runs while something is in flight, and not else
abbrev pub t3_after : ℕ → ℕ → List ChunkPayloadData → Option ℕ → Option ℕ
t3_after now rto [] at = None
t3_after now rto (c ∷ cs) at = started now rto at

-- where it does not run though something is in flight, it is to be started at once
abbrev pub t3_time : List ChunkPayloadData → Option ℕ → Option ℕ
t3_time [] None = None
t3_time (c ∷ cs) None = Some 0
t3_time cs (Some at) = Some at

-- it runs where something is in flight
abbrev pub IsTimed : List ChunkPayloadData → Option ℕ → Type 0
IsTimed cs at = cs ≡ [] ⊎ is_some at ≡ true

-- as it was, or it began now, and runs out after the greatest RTO at the latest
abbrev pub EndsWithin : (now most : ℕ) → (old new : Option ℕ) → Type 0
EndsWithin now most old new = new ≡ old ⊎ IfSome new (λ at. at ≤ now + most)
