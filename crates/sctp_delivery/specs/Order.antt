-- In which order ordered messages are read (RFC 4960 6.6): on each stream in that of their writes.
use Rattle.std.specs.Prelude.{◌≡◌, ◌≢◌, AllPairs, ℕ, ◌<◌, ◌==◌, Bool, not, ◌&&◌, if◌then◌else◌, List, [], ◌∷◌}
use Rattle.std.specs.List.{list_all}
use Rattle.sctp_data.specs.declared.chunk.chunk_payload_data.ChunkPayloadData.{ChunkPayloadData}
use Rattle.sctp_receiver.specs.Receiver.{Reception}
use Rattle.sctp_receiver.specs.ReceiverRuns.{Message}
use Rattle.sctp_delivery.specs.Messages.{StandAt}
use Rattle.sctp_delivery.specs.Session.{Session}

-- ## Messages

-- the message was read on the stream, and no fragment of it is unordered
abbrev pub is_ordered_on : ℕ → Message → Bool
is_ordered_on stream m = (m.stream == stream) && list_all (λ c. not c.unordered) m.fragments

-- the places of those of the messages, each at its place, that pass
abbrev pub places_where : (Message → ℕ → Bool) → List Message → List ℕ → List ℕ
places_where passes [] ps = []
places_where passes (m ∷ ms) [] = []
places_where passes (m ∷ ms) (p ∷ ps) =
    if passes m p then p ∷ places_where passes ms ps else places_where passes ms ps

abbrev pub ordered_places : ℕ → List Message → List ℕ → List ℕ
ordered_places stream ms ps = places_where (λ m p. is_ordered_on stream m) ms ps

-- each message that was read is a write at a place of its own. On each stream, of two ordered messages the one that was read later was
-- written later: its place is the lower one, since writes and messages have the last one first
abbrev pub AreReadInOrder : Session → Type 0
AreReadInOrder s =
    (places : List ℕ) × StandAt s.written s.receiving.read places
    × AllPairs (λ p q. p ≢ q) places
    × ((stream : ℕ)
    → AllPairs (λ p q. p < q) (ordered_places stream s.receiving.read places))

-- where the receiver of the session is this one: with these fragments, read next on a stream, messages are read in order still
abbrev pub IsNextIn : Reception → ℕ → List ChunkPayloadData → Session → Type 0
IsNextIn r stream cs s =
    s.receiving.receiver ≡ r
    → AreReadInOrder (record s {
      receiving = record s.receiving {
        read = record { stream = stream; fragments = cs } ∷ s.receiving.read;
      };
    })
