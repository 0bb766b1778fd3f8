-- How many packets can leave at one moment: fewer after each call of `poll_transmit` that writes one (RFC 9260 6.1, 6.10; RFC 3758 3.5).
use Rattle.std.specs.Prelude.{ℕ, ◌+◌, ◌*◌, ◌<◌, ◌≤◌, ◌==◌, Bool, false, not, is_some, List, length}
use Rattle.std.specs.List.{sum_by}
use Rattle.sctp_association.specs.Leaving.{Owed, OwedAt, one_where, owed_at}
use Rattle.sctp_association.specs.declared.association.Association.{Association}
use Rattle.sctp_association.specs.declared.due.Due.{Due}
use Rattle.sctp_association.specs.declared.outbound.Outbound.{Outbound}
use Rattle.sctp_data.specs.declared.chunk.chunk_payload_data.ChunkPayloadData.{ChunkPayloadData}
use Rattle.sctp_handshake.specs.declared.state.State.{State}
use Rattle.sctp_handshake.specs.declared.state.State.TheVariants.{ShutdownAckSent, ShutdownSent}
use Rattle.sctp_outbound.specs.outbound_queue.OutboundQueue.{Outbound as Queue}
use Rattle.sctp_outbound.specs.pending_queue.PendingQueue.{chunk_count}
use Rattle.sctp_sender.specs.Resending.{is_to_resend}
use Rattle.sctp_sender.specs.declared.sender.Dropped.{Dropped}
use Rattle.sctp_sender.specs.declared.sender.Dropped.TheVariants.{Abandoned, Expired}

-- ## DATA and FORWARD-TSN

-- of a chunk in flight: a FORWARD-TSN, since its message may be abandoned, and where it is marked a packet in which it leaves again
abbrev pub packets_of : ChunkPayloadData → ℕ
packets_of c = one_where (not c.abandoned) + one_where (is_to_resend c)

-- three for each chunk that waits: one in which it leaves, and those of a chunk in flight
abbrev pub packets_in : Queue → ℕ
packets_in q = 3 * chunk_count q.pending + sum_by packets_of q.inflight.chunks

-- and one for a FORWARD-TSN that is due
abbrev pub most_data : Outbound → ℕ
most_data o = one_where o.is_skip_due + packets_in o.sender.flight.queue

-- what `drop_expired` answers tells of a message that is abandoned, since a part of it was sent
abbrev pub tells_some : Dropped → Bool
tells_some (Expired run) = false
tells_some (Abandoned gone) = not (length gone.items == 0)

-- ## Replies

-- a SHUTDOWN or SHUTDOWN-ACK may come to be due, as the shutdown goes on (9.2)
abbrev pub shutdowns_left : State → ℕ
shutdowns_left ShutdownSent = 0
shutdowns_left ShutdownAckSent = 0
shutdowns_left _ = 1

-- one for each chunk that is due beside DATA and FORWARD-TSN
abbrev pub most_due : Due → ℕ
most_due d =
    one_where d.cookie_echo + one_where d.cookie_ack + one_where d.shutdown
    + one_where d.shutdown_ack + one_where (is_some d.heartbeat) + one_where (is_some d.report)

-- so of SACKs and ERRORs about streams
abbrev pub most_owed : Owed → ℕ
most_owed o =
    most_due o.due + one_where o.sack + one_where (is_some o.unknown) + shutdowns_left o.state

-- so of HEARTBEATs and RE-CONFIGs
abbrev pub most_replies : OwedAt → ℕ
most_replies o = most_owed o.owed + one_where o.beat + one_where o.request + o.responses

-- ## Packets

-- at most so many can leave at a moment, while no other call is made
abbrev pub most_packets : (now : ℕ) → Association → ℕ
most_packets now a =
    one_where (is_some a.due.alone) + most_replies (owed_at now a) + most_data a.outbound

-- no more can leave than before, and fewer where something was put into the packet that is written
pub record FewerWherePut (old new : ℕ) (before after : List ℕ) : Type 0 where
  pub most : new ≤ old
  pub fewer : length before < length after → new < old
