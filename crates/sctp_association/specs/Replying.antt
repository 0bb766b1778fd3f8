-- What a packet of one reply says: its header, and exactly its chunks (RFC 9260 3.3.7, 3.3.10, 5.2.4, 5.2.6, 8.4, 9.2).
use Rattle.std.specs.Prelude.{◌≡◌, ℕ, ◌+◌, ◌-◌, ◌*◌, ◌/◌, ◌≤◌, nat_le, if◌then◌else◌, true, false, Bool, List, [], ◌∷◌, ◌++◌, Option, None, Some, length}
use Rattle.sctp_association.specs.declared.association.Association.{Association}
use Rattle.sctp_association.specs.declared.config.Config.{Config}
use Rattle.sctp_association.specs.declared.due.Alone.{Alone}
use Rattle.sctp_association.specs.declared.due.AloneKind.{AloneKind}
use Rattle.sctp_association.specs.declared.due.AloneKind.TheVariants as alone
use Rattle.sctp_association.specs.Offering.{IsCookieOf, init_with}
use Rattle.sctp_association.specs.Packets.{Adds, put_where, sum_of, with_chunks}
use Rattle.sctp_association.specs.Reports.{one_cause, unrecognized_in}
use Rattle.sctp_chunks.specs.declared.chunk.error_cause.ErrorCause.{ErrorCause}
use Rattle.sctp_chunks.specs.Wire.{HasEncoding, Wire}
use Rattle.sctp_chunks.specs.Wire.{abort_chunk, error_chunk, init_chunk, shutdown_ack_chunk, shutdown_complete_chunk}
use Rattle.sctp_handshake.specs.declared.machine.Machine.{Machine}
use Rattle.sctp_handshake.specs.declared.ticket.Ticket.{Ticket}
use Rattle.sctp_packets.specs.Draft.{Draft, headed}
use Rattle.sctp_packets.specs.Packet.{FitsParts, HavePacketEncoding, packet_encoding, padded_encoding}
use Rattle.sctp_packets.specs.declared.packet.CommonHeader.{CommonHeader}
use Rattle.sctp_util.specs.Field.{be16, be32}

-- ## One chunk

-- one parameter is missing, the State Cookie (3.3.10.2)
abbrev pub missing_cookie : List ℕ
missing_cookie = be32 1 ++ be16 7

-- a chunk is put behind those of a packet, and where a packet was begun and has room for it, it is put
pub record PutsOne (w : Wire) (old new : Draft) : Type 0 where
  pub is_put : Bool
  pub added : Adds (put_where is_put w) old.bytes new.bytes
  pub fits : HasEncoding w → 12 ≤ length old.bytes
      → length old.bytes + length (padded_encoding w) ≤ old.limit → is_put ≡ true
  pub limit : new.limit ≡ old.limit
  pub least : 28 ≤ old.limit

-- ## The chunks of a reply

-- this chunk, where a packet of at most so many bytes has room for it behind a header of 12
pub record IsOneWithin (limit : ℕ) (w : Wire) (ws : List Wire) : Type 0 where
  pub is_put : Bool
  pub chunks : ws ≡ put_where is_put w
  pub fits : HasEncoding w → 12 + length (padded_encoding w) ≤ limit → is_put ≡ true

-- an INIT ACK with this ticket: behind its cookie it tells of parameters of the INIT, as many as have room beside the rest of it (3.2.2, 3.3.3)
abbrev pub AreInitAck : (limit : ℕ) (key : List ℕ) → Option (List ℕ) → Ticket → List Wire
    → Type 0
AreInitAck limit key raw ticket ws = (cookie : List ℕ) × IsCookieOf key ticket cookie
    × IsOneWithin limit (init_chunk (init_with ticket.own (Some cookie)
    (unrecognized_in (limit - 12 - 132) raw))) ws

-- what is told of a Host Name Address: cause 5 with the parameter, where it is kept, and so many bytes have room for it (3.3.10.5, 5.1.2)
abbrev pub host_name_causes : (room : ℕ) → Option (List ℕ) → List ErrorCause
host_name_causes room None = []
host_name_causes room (Some raw) =
    if nat_le (length raw) ((room - 8) / 4 * 4) then one_cause 5 raw else []

-- exactly these chunks: those of each kind
abbrev pub AreReply : (limit : ℕ) (key : List ℕ) → Machine → Option (List ℕ) → AloneKind
    → List Wire → Type 0
AreReply limit key m raw alone.Init ws =
    IsOneWithin limit (init_chunk (init_with m.own None [])) ws
AreReply limit key m raw (alone.InitAck ticket) ws = AreInitAck limit key raw ticket ws
AreReply limit key m raw (alone.StaleCookie by) ws = ws ≡ error_chunk (one_cause 3 (be32 by)) ∷ []
AreReply limit key m raw alone.ShuttingDown ws =
    ws ≡ shutdown_ack_chunk ∷ error_chunk (one_cause 10 []) ∷ []
AreReply limit key m raw alone.ShutdownComplete ws = ws ≡ shutdown_complete_chunk ∷ []
AreReply limit key m raw (alone.Abort code) ws = ws ≡ abort_chunk (one_cause code []) ∷ []
AreReply limit key m raw alone.NoCookie ws = ws ≡ abort_chunk (one_cause 2 missing_cookie) ∷ []
AreReply limit key m raw alone.HostName ws =
    IsOneWithin limit (abort_chunk (host_name_causes (limit - 12) raw)) ws
AreReply limit key m raw (alone.NoUserData tsn) ws = ws ≡ abort_chunk (one_cause 9 (be32 tsn)) ∷ []

-- the chunks of a reply are put behind those of a packet
pub record AddsReply (kind : AloneKind) (old new : Association) : Type 0 where
  pub chunks : List Wire
  pub are : AreReply old.draft.limit old.key old.machine old.due.unknown_params kind chunks
  pub added : Adds chunks old.draft.bytes new.draft.bytes

-- ## Its packet

-- the header of a packet of this side with a verification tag (3.1)
abbrev pub header_to : Config → ℕ → CommonHeader
header_to config tag = record {
  source_port = config.source_port;
  destination_port = config.destination_port;
  verification_tag = tag;
}

-- the bytes are the one encoding of the packet of this header and these chunks
pub record IsPacketWith (h : CommonHeader) (ws : List Wire) (bytes : List ℕ) : Type 0 where
  pub encoded : bytes ≡ packet_encoding (sum_of false) (with_chunks ws (headed h))
  pub encodings : HavePacketEncoding (with_chunks ws (headed h))
  pub fits : FitsParts (with_chunks ws (headed h))

-- the bytes are the packet of the reply, to whom it is for
pub record IsReply (alone : Alone) (a : Association) (bytes : List ℕ) : Type 0 where
  pub chunks : List Wire
  pub are : AreReply a.draft.limit a.key a.machine a.due.unknown_params alone.kind chunks
  pub packet : IsPacketWith (header_to a.config alone.tag) chunks bytes

-- the reply that was due leaves in a packet of its own, which says exactly what it is, and is due no more
pub record LeavesAlone (alone : Alone) (old new : Association) : Type 0 where
  pub packet : IsReply alone old new.draft.bytes
  pub gone : new.due.alone ≡ None
