-- What a list of accepted events amounts to: a plain record of each stream, message, slot and datagram.
-- Slots and messages are counted from 0 and never wrap. No queue and no flag of the code's is in it.
use Rattle.std.specs.Prelude.{ℕ, Bool, List, [], Option}
use Rattle.sctp_data.specs.declared.chunk.chunk_payload_data.ReliabilityType.{ReliabilityType}
use Rattle.sctp_data.specs.declared.chunk.chunk_payload_data.PayloadProtocolIdentifier.{PayloadProtocolIdentifier}

-- what the link was made with: the first TSN, the greatest length of a fragment and of a message, and the length that a datagram of several chunks may have
pub record Setup : Type 0 where
  pub first : ℕ
  pub size : ℕ
  pub largest : ℕ
  pub limit : ℕ

-- an open stream: how later messages are sent (RFC 3758 4.1, RFC 8831 6.4), and what its receiver knows
pub record StreamRecord : Type 0 where
  pub stream : ℕ
  pub unordered : Bool
  pub reliability : ReliabilityType
  pub value : ℕ
  -- one more than the greatest index that a counting skip named, or 0
  pub named : ℕ
  -- its complete unordered messages that were not read, by number, in the order in which they became complete
  pub complete : List ℕ

-- a message: an accepted write of at least one byte. Its number is its place in the list
pub record Message : Type 0 where
  pub stream : ℕ
  pub ordered : Bool
  pub ppi : PayloadProtocolIdentifier
  pub bytes : List ℕ
  pub reliability : ReliabilityType
  pub value : ℕ
  -- how many ordered messages of its stream were written before it and had not expired then
  pub before : ℕ
  -- the moment of the first Start or Send after it
  pub started : Option ℕ
  pub expired : Bool
  pub abandoned : Bool
  pub read : Bool

-- a slot: a TSN that was given out, to a fragment of a message or to the terminal chunk of an abandoned one (RFC 4960 3.3.1)
pub record Slot : Type 0 where
  pub message : ℕ
  pub fragment : ℕ
  pub is_terminal_chunk : Bool
  pub arrived : Bool
  pub acknowledged : Bool

-- what a SACK says, in slots: how many are cumulative, the credit, gap blocks of distances from the last of those, and the duplicates (RFC 4960 3.3.4)
pub record Report : Type 0 where
  pub cumulative : ℕ
  pub credit : ℕ
  pub blocks : List (ℕ × ℕ)
  pub duplicates : List ℕ

-- what lies in the network: each may come in any order, again and again
pub data Datagram : Type 0 where
  -- the DATA chunks of these slots (RFC 4960 3.3.1)
  Data : (slots : List ℕ) → Datagram
  -- a FORWARD-TSN up to this slot that names these messages (RFC 3758 3.2)
  Forward : (upto : ℕ) (messages : List ℕ) → Datagram
  -- a SACK (RFC 4960 3.3.4)
  Sack : (report : Report) → Datagram

-- the record of a link
pub record LinkRecord : Type 0 where
  pub setup : Setup
  pub streams : List StreamRecord
  pub messages : List Message
  pub slots : List Slot
  -- the datagrams, by number
  pub network : List Datagram
  -- how many slots the last counting skip covered, or 0
  pub skipped : ℕ
  -- how many slots the taken SACKs acknowledged cumulatively: the others are in flight
  pub taken : ℕ
  -- the slots that came and were not new since the last SACK was made, oldest first
  pub duplicates : List ℕ

-- the link as it was made
abbrev pub start : Setup → LinkRecord
start setup =
    record {
      setup = setup;
      streams = [];
      messages = [];
      slots = [];
      network = [];
      skipped = 0;
      taken = 0;
      duplicates = [];
    }
