-- The streams of a sender.
use Rattle.std.specs.Prelude.{ℕ, ◌+◌, ◌-◌, ◌%◌, ◌^◌, ◌==◌, Bool, true, false, List, [], ◌∷◌, length, map, Some}
use Rattle.sctp_data.specs.PayloadTypes.{counted_as}
use Rattle.sctp_util.specs.Lists.{change_where}
use Rattle.sctp_data.specs.declared.chunk.chunk_payload_data.ChunkPayloadData.{ChunkPayloadData}
use Rattle.sctp_data.specs.declared.chunk.chunk_payload_data.PayloadProtocolIdentifier.{PayloadProtocolIdentifier}
use Rattle.sctp_data.specs.declared.chunk.chunk_payload_data.ReliabilityType.{ReliabilityType}
use Rattle.sctp_stream.specs.declared.outbound_stream.OutboundStream.{OutboundStream}
use Rattle.sctp_sender.specs.declared.sender.flight.Released.{Released}
use Rattle.sctp_stream.specs.Stats.{with_sent}
use Rattle.sctp_stream.specs.Stream.{after_write, fragment, fragments_of}

abbrev pub number : OutboundStream → ℕ
number l = l.stream_identifier

abbrev pub has_number : ℕ → OutboundStream → Bool
has_number s l = l.stream_identifier == s

abbrev pub numbers_of : List OutboundStream → List ℕ
numbers_of ls = map number ls

abbrev pub with_mode : Bool → ReliabilityType → ℕ → OutboundStream → OutboundStream
with_mode unordered reliability value l =
    record l { unordered = unordered; reliability_type = reliability; reliability_value = value }

-- later writes are cut into fragments of this size
abbrev pub with_size : ℕ → OutboundStream → OutboundStream
with_size size l = record l { max_payload_size = size }

-- the amount down to which a fall is told
abbrev pub with_low : ℕ → OutboundStream → OutboundStream
with_low bytes l = record l { buffered_amount_low = bytes }

-- the next ordered message has the number 0
abbrev pub from_first : OutboundStream → OutboundStream
from_first l = record l { sequence_number = 0 }

-- a fragment with the mode of its stream
abbrev pub with_reliability : ReliabilityType → ℕ → ChunkPayloadData → ChunkPayloadData
with_reliability reliability value c = record c { reliability = Some (reliability, value) }

-- the fragments of a write, each with the mode of the stream
abbrev pub fragments_with_mode : OutboundStream → PayloadProtocolIdentifier → List ℕ
    → List ChunkPayloadData
fragments_with_mode l ppi bytes =
    map (with_reliability l.reliability_type l.reliability_value) (fragments_of l ppi bytes)

-- a fragment of a write that has all its bytes, with the mode of the stream
abbrev pub sole_fragment : OutboundStream → PayloadProtocolIdentifier → List ℕ → ChunkPayloadData
sole_fragment l ppi bytes =
    with_reliability l.reliability_type l.reliability_value (fragment l ppi true true bytes)

-- a write was accepted: an ordered one takes the number, its bytes wait, and it is counted
abbrev pub wrote : PayloadProtocolIdentifier → List ℕ → OutboundStream → OutboundStream
wrote ppi bytes l =
    record (after_write l ppi bytes) {
      stats = with_sent
          (counted_as ppi (length bytes)) l.stats;
    }

-- so many bytes wait and are in flight no more
abbrev pub less_by : ℕ → OutboundStream → OutboundStream
less_by bytes l = record l { buffered_amount = l.buffered_amount - bytes }

-- each stream has less by what left of it, one chunk after another
abbrev pub after_releases : List Released → List OutboundStream → List OutboundStream
after_releases [] ls = ls
after_releases (r ∷ rs) ls =
    after_releases rs (change_where (has_number r.stream) (less_by r.bytes) ls)

-- so many messages that were not sent are gone: the next write takes the number of the first ordered one
abbrev pub after_expiries : Bool → ℕ → ℕ → OutboundStream → OutboundStream
after_expiries true messages bytes l = less_by bytes l
after_expiries false messages bytes l =
    record (less_by bytes l) { sequence_number = (l.sequence_number + (2 ^ 16 - messages)) % 2 ^ 16 }

abbrev pub after_expiry : Bool → ℕ → OutboundStream → OutboundStream
after_expiry unordered bytes l = after_expiries unordered 1 bytes l
