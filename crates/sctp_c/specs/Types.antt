-- The payload types of messages that have no name here.
use Rattle.std.specs.Prelude.{◌≡◌, ℕ, ◌<◌, ◌≤◌, ◌==◌, Bool, true, if◌then◌else◌, List, [], ◌∷◌, length, slice_get, IfSome}
use Rattle.sctp_data.specs.declared.chunk.chunk_payload_data.ChunkPayloadData.{ChunkPayloadData}
use Rattle.sctp_data.specs.PayloadData.{payload_type_number}
use Rattle.sctp_outbound.specs.outbound_queue.OutboundQueue.{Outbound, after_sends}
use Rattle.sctp_outbound.specs.pending_queue.PendingQueue.{chunk_count, next_pending}
use Rattle.sctp_c.specs.declared.sender.types.Noted.{Noted}

-- the first one that is noted of a message, 58 where none is
abbrev pub type_of : ℕ → List Noted → ℕ
type_of m [] = 58
type_of m (r ∷ rs) = if r.message == m then r.number else type_of m rs

-- what is noted of a message that is written
abbrev pub noted : ℕ → ℕ → Noted
noted m n = record { message = m; number = n; stamp = 0 }

-- whether a message has this stamp, or is not noted
abbrev pub is_stamped : ℕ → ℕ → List Noted → Bool
is_stamped s m [] = true
is_stamped s m (r ∷ rs) = if r.message == m then r.stamp == s else is_stamped s m rs

-- none is of a message with a lower number
abbrev pub Above : ℕ → List Noted → Type 0
Above m [] = Unit {0}
Above m (r ∷ rs) = (m ≤ r.message) × Above m rs

-- the numbers of the messages do not fall
abbrev pub Up : List Noted → Type 0
Up [] = Unit {0}
Up (r ∷ rs) = Above r.message rs × Up rs

-- ## What a chunk is sent with

-- the payload type that a chunk is sent with: one without a name, which 58 stands for, is that which is noted of its message
abbrev pub type_sent : List Noted → ChunkPayloadData → ℕ
type_sent rs c =
    if payload_type_number c.payload_type == 58 then type_of c.message_id rs
    else payload_type_number c.payload_type

-- each chunk that waits, and each in flight, is sent with the payload type that it had
pub record KeepsTypes (old new : List Noted) (q : Outbound) : Type 0 where
  pub waiting : (i : ℕ) → i < chunk_count q.pending
      → IfSome (next_pending (after_sends i q.pending)) (λ c. type_sent new c ≡ type_sent old c)
  pub sent : (i : ℕ) → i < length q.inflight.chunks
      → IfSome (slice_get q.inflight.chunks i) (λ c. type_sent new c ≡ type_sent old c)

-- ## What is seen

-- the message of a chunk has the stamp, where its payload type is noted
abbrev pub Sees : ℕ → List Noted → ChunkPayloadData → Type 0
Sees s rs c = payload_type_number c.payload_type ≡ 58 → is_stamped s c.message_id rs ≡ true

abbrev pub SeesWaiting : ℕ → List Noted → Outbound → ℕ → Type 0
SeesWaiting s rs q n =
    (i : ℕ) → i < n → IfSome (next_pending (after_sends i q.pending)) (λ c. Sees s rs c)

abbrev pub SeesSent : ℕ → List Noted → Outbound → ℕ → Type 0
SeesSent s rs q n = (i : ℕ) → i < n → IfSome (slice_get q.inflight.chunks i) (λ c. Sees s rs c)
