-- An open stream as the sender, the receiver and the progress of a link have it.
use Rattle.std.specs.Prelude.{◌≡◌, ℕ, ◌+◌, ◌-◌, max, Bool, true, false, ◌&&◌, ◌==◌, if◌then◌else◌, List, [], ◌∷◌, ◌++◌, map, drop}
use Rattle.sctp_data.specs.PayloadTypes.{is_ordered}
use Rattle.sctp_util.specs.Lists.{change_where}
use Rattle.sctp_data.specs.declared.chunk.chunk_payload_data.ChunkPayloadData.{ChunkPayloadData}
use Rattle.sctp_data.specs.declared.chunk.chunk_payload_data.PayloadProtocolIdentifier.{PayloadProtocolIdentifier}
use Rattle.sctp_data.specs.declared.chunk.chunk_payload_data.PayloadProtocolIdentifier.TheVariants.{Unknown}
use Rattle.sctp_data.specs.declared.chunk.chunk_forward_tsn.ChunkForwardTsnStream.{ChunkForwardTsnStream}
use Rattle.sctp_reassembly.specs.reassembly_queue.ReassemblyQueue.{PushesUnordered, after_ordered_push, after_unordered_skip}
use Rattle.sctp_stream.specs.declared.stream.DataChannelStats.{DataChannelStats}
use Rattle.sctp_stream.specs.declared.outbound_stream.OutboundStream.{OutboundStream}
use Rattle.sctp_stream.specs.Stream.{new_stream}
use Rattle.sctp_receiver.specs.declared.receiver.inbound_streams.InboundStream.{InboundStream}
use Rattle.sctp_sender.specs.declared.sender.flight.Released.{Released}
use Rattle.sctp_receiver.specs.Inbound as Inbound
use Rattle.sctp_receiver.specs.Inbound.{ssns_of, skipped_each}
use Rattle.sctp_sender.specs.Outgoing as Outgoing
use Rattle.sctp_link.specs.Progress.{Standing}
use Rattle.sctp_link.specs.declared.record.Written.{Written}

pub record OpenStream : Type 0 where
  -- how its writes are cut, and what was sent
  pub state : OutboundStream
  -- what came on it and was not read, and what was read
  pub inbound : InboundStream
  -- the unordered messages that are complete and not read, by their numbers, in the order in which they became complete
  pub complete : List ℕ
  -- how many ordered messages were written and did not expire
  pub ordered : ℕ
  -- how many of them were begun to be sent
  pub begun : ℕ
  -- the index of the ordered message that is expected next
  pub next : ℕ
  -- one more than the greatest index that a skip named, or 0
  pub named : ℕ

abbrev pub number : OpenStream → ℕ
number l = l.state.stream_identifier

abbrev pub has_number : ℕ → OpenStream → Bool
has_number s l = l.state.stream_identifier == s

abbrev pub stream_numbers : List OpenStream → List ℕ
stream_numbers ls = map number ls

-- what the sender has of a stream, what the receiver has, and its progress
abbrev pub join : OutboundStream → InboundStream → Standing → OpenStream
join s i p =
    record {
      state = s;
      inbound = i;
      complete = p.complete;
      ordered = p.ordered;
      begun = p.begun;
      next = p.next;
      named = p.named;
    }

-- so of each stream
abbrev pub join_each : List OutboundStream → List InboundStream → List Standing → List OpenStream
join_each (s ∷ ss) (i ∷ is) (p ∷ ps) = join s i p ∷ join_each ss is ps
join_each [] is ps = []
join_each (s ∷ ss) [] ps = []
join_each (s ∷ ss) (i ∷ is) [] = []

-- a stream that nothing was written to, and to which nothing came
abbrev pub new_open_stream : ℕ → ℕ → ℕ → OpenStream
new_open_stream s size largest =
    record {
      state = new_stream s size;
      inbound = Inbound.new_stream s largest;
      complete = [];
      ordered = 0;
      begun = 0;
      next = 0;
      named = 0;
    }

-- ## The sending side

-- its state changes
abbrev pub on_state : (OutboundStream → OutboundStream) → OpenStream → OpenStream
on_state f l = record l { state = f l.state }

-- what is recorded of a write
abbrev pub written_of : OpenStream → PayloadProtocolIdentifier → Written
written_of l ppi =
    record {
      ordered = is_ordered l.state.unordered ppi;
      reliability = l.state.reliability_type;
      value = l.state.reliability_value;
      before = l.ordered;
    }

-- the stream after a write
abbrev pub wrote_to : PayloadProtocolIdentifier → List ℕ → OpenStream → OpenStream
wrote_to ppi bytes l =
    record l {
      state = Outgoing.wrote ppi bytes l.state;
      ordered = if is_ordered l.state.unordered ppi then l.ordered + 1 else l.ordered;
    }

-- so many bytes wait and are in flight no more
abbrev pub less_by : ℕ → OpenStream → OpenStream
less_by bytes l = on_state (Outgoing.less_by bytes) l

-- each stream has less by what left of it, one chunk after another
abbrev pub after_releases : List Released → List OpenStream → List OpenStream
after_releases [] ls = ls
after_releases (r ∷ rs) ls =
    after_releases rs (change_where (has_number r.stream) (less_by r.bytes) ls)

-- a message that was not sent is gone: of ordered ones there is one less
abbrev pub expired_on : Bool → ℕ → OpenStream → OpenStream
expired_on unordered bytes l =
    record l {
      state = Outgoing.after_expiry unordered bytes l.state;
      ordered = if unordered
          then l.ordered else l.ordered - 1;
    }

-- ## The receiving side

-- what came on it changes
abbrev pub on_inbound : (InboundStream → InboundStream) → OpenStream → OpenStream
on_inbound f l = record l { inbound = f l.inbound }

-- a chunk is kept: the queue changes as by a push, and the number of an unordered message that becomes complete is recorded
pub record Keeps (c : ChunkPayloadData) (number : ℕ) (old new : OpenStream) : Type 0 where
  pub complete : Bool
  pub ordered_queue : c.unordered ≡ false → new.inbound.queue
      ≡ after_ordered_push c old.inbound.queue
  pub unordered_queue : c.unordered ≡ true
      → PushesUnordered c old.inbound.queue new.inbound.queue complete
  pub rest : new ≡ record old {
    inbound = record old.inbound { queue = new.inbound.queue };
    complete = if complete && c.unordered then old.complete ++ number ∷ [] else old.complete;
  }

-- a message was read: with an ordered one that was expected next the next one is
abbrev pub read_recorded : Bool → ℕ → OpenStream → OpenStream
read_recorded ordered index l =
    record l {
      complete = if ordered then l.complete else drop 1 l.complete;
      next = if ordered
          && (index == l.next) then index + 1 else l.next;
    }

-- a FORWARD-TSN with these names comes: what it names is gone, one name after another, and then what is unassembled up to its TSN
abbrev pub forwarded_on : List ChunkForwardTsnStream → ℕ → InboundStream → InboundStream
forwarded_on names tsn i =
    record i { queue = after_unordered_skip tsn (skipped_each (ssns_of i.queue.si names) i.queue) }

-- and it is recorded that so many indexes were named
abbrev pub with_named : ℕ → OpenStream → OpenStream
with_named end l = record l { next = max l.next end; named = max l.named end }

-- its counters: what was sent of the one side, what was read of the other
abbrev pub both_ways : DataChannelStats → DataChannelStats → DataChannelStats
both_ways sent read =
    record {
      stream_identifier = sent.stream_identifier;
      generation = sent.generation;
      messages_sent = sent.messages_sent;
      bytes_sent = sent.bytes_sent;
      messages_received = read.messages_received;
      bytes_received = read.bytes_received;
    }

abbrev pub stats_in : OpenStream → DataChannelStats
stats_in l = both_ways l.state.stats l.inbound.stats
