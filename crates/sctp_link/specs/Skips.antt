-- What a skip names on a stream of a link (RFC 3758 3.6).
use Rattle.std.specs.Prelude.{◌≡◌, ◌⊎◌, ℕ, ◌<◌, ◌+◌, ◌-◌, ◌%◌, ◌^◌, min, max, Bool, ◌&&◌, not, ◌==◌, if◌then◌else◌, List, length, map, slice_index_or}
use Rattle.std.specs.List.{filter}
use Rattle.sctp_data.specs.declared.chunk.chunk_forward_tsn.ChunkForwardTsnStream.{ChunkForwardTsnStream}
use Rattle.sctp_data.specs.ForwardTsn.{ForwardTsn}
use Rattle.sctp_model.specs.LinkRecord as W
use Rattle.sctp_model.specs.LinkRecord.{LinkRecord}
use Rattle.sctp_model.specs.Contents.{name_of}
use Rattle.sctp_model.specs.Messages.{no_message, tsn_of}
use Rattle.sctp_model.specs.Receiver.{least, greatest}
use Rattle.sctp_model.specs.refinement.Naming.{low_named, end_named}
use Rattle.sctp_link.specs.Progress.{Standing}
use Rattle.sctp_link.specs.Progress as Progress
use Rattle.sctp_link.specs.Streams.{OpenStream, with_named}
use Rattle.sctp_link.specs.declared.skipped.Named.{Named}
use Rattle.sctp_link.specs.declared.record.Message.{Message}
use Rattle.sctp_link.specs.Records.{message_record, progress_of}
use Rattle.sctp_link.specs.Encodings.{named_stream}

-- message n
abbrev pub message_in : List Message → ℕ → W.Message
message_in ms n = slice_index_or (map message_record ms) n no_message

-- the index that is kept of it
abbrev pub index_in : List Message → ℕ → ℕ
index_in ms n = (slice_index_or (map progress_of ms) n (0, 0)).1

-- it is an ordered one of stream s that did not expire
abbrev pub is_on : List Message → ℕ → ℕ → Bool
is_on ms s n =
    ((message_in ms n).stream == s) && ((message_in ms n).ordered && not (message_in ms n).expired)

-- what more messages name on stream s: the least index, and one more than the greatest
abbrev pub named_from : List Message → ℕ → Named → List ℕ → Named
named_from ms s named names =
    record {
      low = least named.low (map (index_in ms) (filter (is_on ms s) names));
      end = greatest named.end (map (λ n. index_in ms n + 1) (filter (is_on ms s) names));
    }

-- with none named
abbrev pub none_named : Named
none_named = record { low = 2 ^ 64 - 1; end = 0 }

-- one message more
abbrev pub with_name : List Message → ℕ → ℕ → Named → Named
with_name ms s n named =
    if is_on ms s n then record {
      low = min named.low (index_in ms n);
      end = max named.end (index_in ms n + 1);
    } else named

-- these messages are named on each stream: for what stands in its place further ones are still to be counted in
abbrev pub HasNames : List Message → List ℕ → List ℕ → List Standing → List Named → Type 0
HasNames ms names further ps table =
    (k : ℕ) (p : Standing) (d : Named) → k < length table → k < length ps
    → p ≡ slice_index_or ps k p → d ≡ slice_index_or table k d
    → named_from ms p.number d further ≡ named_from ms p.number none_named names

-- a table has so many places, or none
abbrev pub IsFullOrEmpty : ℕ → List Named → Type 0
IsFullOrEmpty count table = (length table ≡ count) ⊎ (length table ≡ 0)

-- what these messages name on stream s, as the record has it
abbrev pub named_in : LinkRecord → ℕ → List ℕ → Named
named_in w s names = record { low = low_named w s names; end = end_named w s names }

-- the pair that names message n
abbrev pub pair_in : List Message → ℕ → ChunkForwardTsnStream
pair_in ms n = named_stream ((message_in ms n).stream, index_in ms n % 2 ^ 16)

-- a stream on which so far its messages were named
abbrev pub with_names : List Message → List ℕ → OpenStream → OpenStream
with_names ms names l = with_named (named_from ms l.state.stream_identifier none_named names).end l

-- and as its progress has it
abbrev pub standing_named : List Message → List ℕ → Standing → Standing
standing_named ms names p =
    Progress.with_named (named_from ms p.number none_named names).end p

-- a skip as the chunk says it (RFC 3758 3.2)
abbrev pub wire_skip : LinkRecord → ℕ → List ℕ → ForwardTsn
wire_skip w upto names =
    record {
      new_cumulative_tsn = tsn_of w upto;
      streams = map named_stream (map (name_of w) names);
    }
