-- What a link keeps of a write, of a fragment that leaves, and of a message that is abandoned.
use Rattle.std.specs.Prelude.{ℕ, ◌+◌, Bool, true, false, ◌&&◌, if◌then◌else◌, List, [], ◌∷◌, take, drop, map, ◌++◌, Some, None, ◌==◌}
use Rattle.std.specs.List.{find}
use Rattle.sctp_data.specs.declared.chunk.chunk_payload_data.PayloadProtocolIdentifier.{PayloadProtocolIdentifier}
use Rattle.sctp_util.specs.Lists.{change_where}
use Rattle.sctp_link.specs.Progress.{Standing, begun_in, has_number, with_begun}
use Rattle.sctp_link.specs.declared.record.Written.{Written}
use Rattle.sctp_link.specs.declared.record.Message.{Message}
use Rattle.sctp_link.specs.declared.record.Slot.{Slot}

-- the message of a write to stream s
abbrev pub message_written : ℕ → Written → PayloadProtocolIdentifier → List ℕ → Message
message_written s w ppi bytes =
    record {
      stream = s;
      ordered = w.ordered;
      ppi = ppi;
      bytes = bytes;
      reliability = w.reliability;
      value = w.value;
      before = w.before;
      index = 0;
      started = None;
      expired = false;
      abandoned = false;
      read = false;
      sent = 0;
    }

-- a message whose lifetime starts
abbrev pub with_start : ℕ → Message → Message
with_start now m = record m { started = Some now }

-- the lifetimes of the messages from a place on start
abbrev pub start_from : ℕ → ℕ → List Message → List Message
start_from first now ms = take first ms ++ map (with_start now) (drop first ms)

-- the slots that abandoning a message takes: one for its terminal chunk, where it is partially sent
abbrev pub terminals : Bool → ℕ → ℕ → List Slot
terminals false number fragment = []
terminals true number fragment =
    record {
      message = number;
      fragment = fragment;
      is_terminal_chunk = true;
      arrived = false;
      acknowledged = false;
    } ∷ []

-- the slot of a fragment
abbrev pub fragment_slot : ℕ → ℕ → Slot
fragment_slot number fragment =
    record {
      message = number;
      fragment = fragment;
      is_terminal_chunk = false;
      arrived = false;
      acknowledged = false;
    }

-- the next fragment of a message is its first one, and it is ordered
abbrev pub begins : Message → Bool
begins m = m.ordered && (m.sent == 0)

-- how many ordered messages of the stream with a number are begun
abbrev pub begun_of : ℕ → List Standing → ℕ
begun_of s ps = begun_in (find (has_number s) ps)

-- a message with one fragment more sent: with the first it takes its index
abbrev pub with_fragment : List Standing → Message → Message
with_fragment ps m =
    record m { sent = m.sent + 1; index = if begins m then begun_of m.stream ps else m.index }

-- the progress then
abbrev pub begun_by : Message → List Standing → List Standing
begun_by m ps = if begins m then change_where (has_number m.stream) with_begun ps else ps
