-- The slots of a datagram that come, and the span test for them (RFC 4960 6.5).
use Rattle.std.specs.Prelude.{◌≡◌, ℕ, ◌<◌, ◌&&◌, if◌then◌else◌, Bool, slice_get, true, false, List, [], ◌∷◌, length, slice_index_or, Some}
use Rattle.sctp_data.specs.declared.chunk.chunk_payload_data.ChunkPayloadData.{ChunkPayloadData}
use Rattle.sctp_reassembly.specs.reassembly_queue.ReassemblyQueue.{ReassemblyState, is_too_large}
use Rattle.sctp_model.specs.LinkRecord.{LinkRecord, StreamRecord, Data}
use Rattle.sctp_model.specs.Messages.{message_at, message_of, stream_at, index_of}
use Rattle.sctp_model.specs.Receiver.{is_new, fits}
use Rattle.sctp_model.specs.Changes.{receive_slot}
use Rattle.sctp_model.specs.Contents.{chunk_at}
use Rattle.sctp_model.specs.Valid.{ComesValid}
use Rattle.sctp_model.specs.refinement.Holds.{reassembly_of}

-- a chunk comes, that of the slot at a place: the record is valid, the stream is open, and no message becomes too long with it
pub record Comes (w : LinkRecord) (p : ℕ) (c : ChunkPayloadData) : Type 0 where
  pub valid : ComesValid w p
  pub alive : (message_at w (message_of w p)).expired ≡ false
  pub known : (r : StreamRecord) × (stream_at w (message_at w (message_of w p)).stream ≡ Some r)
  pub chunk : c ≡ chunk_at w p
  pub small : is_new w p ≡ true → (q : ReassemblyState) → q.held
      ≡ reassembly_of w (message_at w (message_of w p)).stream → q.max_message_size
      ≡ w.setup.largest → is_too_large c q ≡ false

-- so do these, one after another
abbrev pub AllCome : LinkRecord → List ℕ → List ChunkPayloadData → Type 0
AllCome w [] [] = Unit {0}
AllCome w (p ∷ ps) (c ∷ cs) = Comes w p c × AllCome (receive_slot w p) ps cs
AllCome w [] (c ∷ cs) = ⊥
AllCome w (p ∷ ps) [] = ⊥

-- the slot at this place lies in some datagram
abbrev pub LiesSomewhere : LinkRecord → ℕ → Type 0
LiesSomewhere w p =
    (k : ℕ) × (ps : List ℕ) × (i : ℕ) × (slice_get w.network k ≡ Some (Data ps)) × (i < length ps)
    × (slice_index_or ps i 0 ≡ p)

-- the span test with the slot at a place, where it is new and of an ordered message
abbrev pub slot_fits : LinkRecord → ℕ → Bool
slot_fits w p =
    if is_new w p && (message_at w (message_of w p)).ordered
    then fits w (index_of w (message_of w p) ∷ []) (message_at w (message_of w p)).stream
    else true
