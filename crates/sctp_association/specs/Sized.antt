-- Each chunk of an association's sender fits into a packet: what is cut, and what was.
use Rattle.std.specs.Prelude.{◌≡◌, ℕ, ◌-◌, ◌<◌, ◌≤◌, Bool, List, [], length, Option, IfSome}
use Rattle.std.specs.List.{All, AllPass}
use Rattle.sctp_association.specs.declared.association.Association.{Association}
use Rattle.sctp_association.specs.declared.config.Config.{Config}
use Rattle.sctp_association.specs.Asked.{AsksOn}
use Rattle.sctp_association.specs.Beginnings.{ArrivesAsOffered}
use Rattle.sctp_association.specs.Halves.{MarksByT3, SetsFragmentSize, first_halves, fragment_size, halves_of, sides_of}
use Rattle.sctp_association.specs.Packets.{Transmits}
use Rattle.sctp_data.specs.declared.chunk.chunk_payload_data.ChunkPayloadData.{ChunkPayloadData}
use Rattle.sctp_delivery.specs.SenderCalls.{SenderCall, sets_size}
use Rattle.sctp_sender.specs.Resending.{fits}
use Rattle.sctp_sender.specs.Sender.{Transmission}

-- ## A sender

-- each chunk has at most so many bytes of user data
abbrev pub AreSmall : ℕ → List ChunkPayloadData → Type 0
AreSmall n chunks = All (λ c. length c.user_data ≤ n) chunks

-- so has each that may come back, where what was reported is kept
abbrev pub AreSmallKept : ℕ → Option (List (Option (List ℕ))) → Type 0
AreSmallKept n kept = IfSome kept (λ ks. All (λ k. IfSome k (λ bytes. length bytes ≤ n)) ks)

-- what is written is cut into fragments of at most so many bytes, and no chunk that waits, is in flight or may come back has more
pub record IsSized (n : ℕ) (t : Transmission) : Type 0 where
  pub size : t.fragment_size ≤ n
  pub streams : All (λ l. l.max_payload_size ≤ n) t.streams
  pub ordered : AreSmall n t.flight.queue.pending.ordered
  pub unordered : AreSmall n t.flight.queue.pending.unordered
  pub inflight : AreSmall n t.flight.queue.inflight.chunks
  pub kept : AreSmallKept n t.kept

-- nothing waits, nothing is in flight, and nothing may come back
pub record HoldsNothing (t : Transmission) : Type 0 where
  pub ordered : t.flight.queue.pending.ordered ≡ []
  pub unordered : t.flight.queue.pending.unordered ≡ []
  pub inflight : t.flight.queue.inflight.chunks ≡ []
  pub kept : IfSome t.kept (λ ks. ks ≡ [])

-- each chunk that waits or is in flight takes at most so many bytes of a packet, as a DATA chunk
pub record AllFit (room : ℕ) (t : Transmission) : Type 0 where
  pub ordered : AllPass (fits room) t.flight.queue.pending.ordered
  pub unordered : AllPass (fits room) t.flight.queue.pending.unordered
  pub inflight : AllPass (fits room) t.flight.queue.inflight.chunks

-- ## An association

-- no chunk of its sender has more user data than a DATA chunk that fills a packet, and what is written is cut so
abbrev pub IsCut : Association → Type 0
IsCut a = IsSized (fragment_size a.config.mtu) a.outbound.sender

-- ## The law

-- `new`
abbrev pub EachIsCutFirst : Type 0
EachIsCutFirst =
    (c : Config) (tsn most : ℕ) (a : Association) → a.config ≡ c
    → halves_of a ≡ first_halves tsn c.mtu most → IsCut a

-- the size of a fragment that the call sets; 0 where it sets none
abbrev pub size_set : SenderCall → ℕ
size_set (sets_size size) = size
size_set _ = 0

-- `write`, `set_mode`, `set_buffered_amount_low_threshold`: calls of the sender
abbrev pub EachAskIsCut : Type 0
EachAskIsCut =
    (stream : ℕ) (call : SenderCall) (a b : Association)
    → AsksOn stream call a.outbound.sender b.outbound.sender
    → size_set call ≤ fragment_size a.config.mtu → b.config ≡ a.config → IsCut a → IsCut b

-- `set_mtu`
abbrev pub EachSizeIsCut : Type 0
EachSizeIsCut =
    (mtu : ℕ) (a b : Association) → SetsFragmentSize mtu a b → b.config.mtu ≡ mtu
    → (mtu < a.config.mtu → HoldsNothing a.outbound.sender) → IsCut a → IsCut b

-- `handle_timeout`
abbrev pub EachTimeoutIsCut : Type 0
EachTimeoutIsCut =
    (now : ℕ) (a b : Association) → MarksByT3 now a b → b.config ≡ a.config → IsCut a → IsCut b

-- `poll_transmit`
abbrev pub EachPollIsCut : Type 0
EachPollIsCut =
    (is_sent : Bool) (a b : Association) → Transmits is_sent (sides_of a) (sides_of b)
    → b.config ≡ a.config → IsCut a → IsCut b

-- `handle_datagram`, whatever comes
abbrev pub EachDatagramIsCut : Type 0
EachDatagramIsCut =
    (datagram : List ℕ) (a b : Association) → ArrivesAsOffered datagram a b → IsCut a → IsCut b

-- `connect`, `shutdown`, `abort`, `reset_stream`, `read`, `poll`: the sender stays
abbrev pub EachOtherIsCut : Type 0
EachOtherIsCut =
    (a b : Association) → b.outbound.sender ≡ a.outbound.sender → b.config ≡ a.config
    → IsCut a → IsCut b

-- what a packet has behind its common header is room for each chunk
abbrev pub EachChunkFits : Type 0
EachChunkFits =
    (a : Association) → 32 ≤ a.config.mtu → IsCut a
    → AllFit (a.config.mtu - 12) a.outbound.sender
