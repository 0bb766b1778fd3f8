-- What the bytes of a DATA chunk and of a SACK say, by their type alone.
use Rattle.std.proofs.Common.{◌≡◌, ℕ, ◌+◌, ◌-◌, ◌≤◌, Bool, true, false, List, length, take, drop, refl, sym, ap, ◌∙◌, subst, inl, inr, arith}
use Rattle.std.specs.Prelude.{◌*◌}
use Rattle.std.proofs.lemmas.List.{drop-drop, drop-take, length-drop, length-take}
use Rattle.sctp_util.specs.Each.{each}
use Rattle.sctp_util.specs.Field.{u32_at}
use Rattle.sctp_util.specs.declared.error.Error.{Error}
use Rattle.sctp_chunks.specs.Fault.{DataFault, SackFault}
use Rattle.sctp_chunks.specs.Framing.{declared_length, type_at, flags_at, value_at}
use Rattle.sctp_chunks.specs.Init.{ack_type}
use Rattle.sctp_chunks.specs.Kind.{KindFault}
use Rattle.sctp_chunks.specs.Wire.{Wire, data_chunk, init_chunk, sack_chunk, heartbeat_chunk, heartbeat_ack_chunk, abort_chunk, shutdown_chunk}
use Rattle.sctp_chunks.specs.Wire.{shutdown_ack_chunk, error_chunk, cookie_echo_chunk, cookie_ack_chunk, shutdown_complete_chunk, reconfig_chunk}
use Rattle.sctp_chunks.specs.Wire.{forward_tsn_chunk, i_forward_tsn_chunk, type_of}
use Rattle.sctp_data.specs.PayloadData.{Data, data_in}
use Rattle.sctp_data.specs.SelectiveAck.{block_at, sack_in, blocks_in, duplicates_in}
use Rattle.sctp_data.specs.declared.chunk.chunk_selective_ack.GapAckBlock.{GapAckBlock}
use Rattle.sctp_datagram.proofs.Alone.{by-itself, no-frame-fault, no-header-fault}
use Rattle.sctp_datagram.specs.Framing.{ChunkFault, HasChunk, HasFrame, StartsWith, alone}
use Rattle.sctp_datagram.specs.Places.{IsPlace}
use Rattle.sctp_datagram.specs.Types.{is_whole_type}
use Rattle.sctp_datagram.specs.declared.datagram.ChunkPlace.{ChunkPlace}

pub data_reads : (bytes value : List ℕ) (d : Data) → HasChunk 0 bytes → value ≡ value_at bytes → 12 ≤ length value → d ≡ data_in (flags_at bytes) value
    → StartsWith bytes (data_chunk d)
data_reads bytes value d chunk is long fields = record {
  is_framed = chunk.0;
  typ = chunk.1;
  value = record { long = rw is at long; fields = fields ∙ ap (data_in (flags_at bytes)) is };
}

pub sack_reads : (bytes value : List ℕ) → HasChunk 3 bytes → value ≡ value_at bytes → 12 ≤ length value
    → 12 + 4 * blocks_in value + 4 * duplicates_in value ≤ length value → StartsWith bytes (sack_chunk (sack_in value))
sack_reads bytes value chunk is headed long = record {
  is_framed = chunk.0;
  typ = chunk.1;
  value = record { headed = rw is at headed; long = rw is at long; fields = ap sack_in is };
}

-- the same by its fields
pub sack_made : (bytes value : List ℕ) (tsn credit blocks duplicates : ℕ) (gaps : List GapAckBlock) (numbers : List ℕ) → HasChunk 3 bytes
    → value ≡ value_at bytes → 12 ≤ length value → 12 + 4 * blocks_in value + 4 * duplicates_in value ≤ length value → tsn ≡ u32_at value 0
    → credit ≡ u32_at value 4 → blocks ≡ blocks_in value → duplicates ≡ duplicates_in value → gaps ≡ each blocks (λ i. block_at value (12 + 4 * i))
    → numbers ≡ each duplicates (λ i. u32_at value (12 + 4 * blocks + 4 * i))
    → StartsWith bytes (sack_chunk (record {
      cumulative_tsn_ack = tsn;
      advertised_receiver_window_credit = credit;
      gap_ack_blocks = gaps;
      duplicate_tsn = numbers;
    }))
sack_made bytes value tsn credit blocks duplicates gaps numbers chunk is headed long at_tsn at_credit many repeats at_gaps at_numbers =
    let own : record {
      cumulative_tsn_ack = tsn;
      advertised_receiver_window_credit = credit;
      gap_ack_blocks = gaps;
      duplicate_tsn = numbers;
    } ≡ sack_in value = rw (at_tsn, at_credit, at_gaps, at_numbers, many, repeats) refl in
    record {
      is_framed = chunk.0;
      typ = chunk.1;
      value = record { headed = rw is at headed; long = rw is at long; fields = own ∙ ap sack_in is };
    }

pub data_kind : (e : Error) (bytes : List ℕ) → type_at bytes ≡ 0 → ChunkFault DataFault e bytes → ChunkFault KindFault e bytes
unfolding KindFault
data_kind e bytes typ (inl fault) = inl fault
data_kind e bytes typ (inr fault) = inr (fault.0, inr (inr (inl ((by-itself bytes fault.0).typ ∙ typ, fault.1))))

pub sack_kind : (e : Error) (bytes : List ℕ) → type_at bytes ≡ 3 → ChunkFault SackFault e bytes → ChunkFault KindFault e bytes
unfolding KindFault
sack_kind e bytes typ (inl fault) = inl fault
sack_kind e bytes typ (inr fault) = inr (fault.0, inr (inr (inr (inr (inl ((by-itself bytes fault.0).typ ∙ typ, fault.1))))))

-- ## A DATA chunk of a datagram

not-zero : (b : Bool) → 0 ≡ ack_type b → ⊥
not-zero true e = omega (arith, e)
not-zero false e = omega (arith, e)

-- its value has all of its numbers
data-long : (bytes : List ℕ) (w : Wire) → StartsWith bytes w → type_at bytes ≡ 0 → 12 ≤ length (value_at bytes)
data-long bytes (data_chunk d) reads typ = reads.value.long
data-long bytes (init_chunk i) reads typ = absurd (not-zero i.is_ack (sym typ ∙ reads.typ))
data-long bytes (sack_chunk s) reads typ = absurd (omega (arith, typ, reads.typ))
data-long bytes (heartbeat_chunk ps) reads typ = absurd (omega (arith, typ, reads.typ))
data-long bytes (heartbeat_ack_chunk ps) reads typ = absurd (omega (arith, typ, reads.typ))
data-long bytes (abort_chunk cs) reads typ = absurd (omega (arith, typ, reads.typ))
data-long bytes (shutdown_chunk n) reads typ = absurd (omega (arith, typ, reads.typ))
data-long bytes shutdown_ack_chunk reads typ = absurd (omega (arith, typ, reads.typ))
data-long bytes (error_chunk cs) reads typ = absurd (omega (arith, typ, reads.typ))
data-long bytes (cookie_echo_chunk b) reads typ = absurd (omega (arith, typ, reads.typ))
data-long bytes cookie_ack_chunk reads typ = absurd (omega (arith, typ, reads.typ))
data-long bytes shutdown_complete_chunk reads typ = absurd (omega (arith, typ, reads.typ))
data-long bytes (reconfig_chunk r) reads typ = absurd (omega (arith, typ, reads.typ))
data-long bytes (forward_tsn_chunk f) reads typ = absurd (omega (arith, typ, reads.typ))
data-long bytes (i_forward_tsn_chunk f) reads typ = absurd (omega (arith, typ, reads.typ))

-- bytes that begin with a chunk of its type are not refused
pub data_valid : (e : Error) (bytes : List ℕ) (w : Wire) → StartsWith bytes w → type_at bytes ≡ 0 → ChunkFault DataFault e bytes → ⊥
data_valid e bytes w reads typ (inl fault) = no-frame-fault e bytes reads.is_framed fault
data_valid e bytes w reads typ (inr (framed, inl (inl header))) = no-header-fault e (alone bytes) (by-itself bytes framed).is_framed header
data_valid e bytes w reads typ (inr (framed, inl (inr other))) = other.2 ((by-itself bytes framed).typ ∙ typ)
data_valid e bytes w reads typ (inr (framed, inr short)) =
    let long = data-long bytes w reads typ in
    omega (arith, long, short.2, ap (λ (l : List ℕ). length l) (by-itself bytes framed).value)

-- ## A SACK of a datagram

not-ack : (b : Bool) → 3 ≡ ack_type b → ⊥
not-ack true e = omega (arith, e)
not-ack false e = omega (arith, e)

abbrev HasSack : List ℕ → Type 0
HasSack value = (12 ≤ length value) × (12 + 4 * blocks_in value + 4 * duplicates_in value ≤ length value)

sack-long : (bytes : List ℕ) (w : Wire) → StartsWith bytes w → type_of w ≡ 3 → HasSack (value_at bytes)
sack-long bytes (data_chunk d) reads typ = absurd (omega (arith, typ))
sack-long bytes (init_chunk i) reads typ = absurd (not-ack i.is_ack (sym typ))
sack-long bytes (sack_chunk s) reads typ = (reads.value.headed, reads.value.long)
sack-long bytes (heartbeat_chunk ps) reads typ = absurd (omega (arith, typ))
sack-long bytes (heartbeat_ack_chunk ps) reads typ = absurd (omega (arith, typ))
sack-long bytes (abort_chunk cs) reads typ = absurd (omega (arith, typ))
sack-long bytes (shutdown_chunk n) reads typ = absurd (omega (arith, typ))
sack-long bytes shutdown_ack_chunk reads typ = absurd (omega (arith, typ))
sack-long bytes (error_chunk cs) reads typ = absurd (omega (arith, typ))
sack-long bytes (cookie_echo_chunk b) reads typ = absurd (omega (arith, typ))
sack-long bytes cookie_ack_chunk reads typ = absurd (omega (arith, typ))
sack-long bytes shutdown_complete_chunk reads typ = absurd (omega (arith, typ))
sack-long bytes (reconfig_chunk r) reads typ = absurd (omega (arith, typ))
sack-long bytes (forward_tsn_chunk f) reads typ = absurd (omega (arith, typ))
sack-long bytes (i_forward_tsn_chunk f) reads typ = absurd (omega (arith, typ))

pub sack_valid : (e : Error) (bytes : List ℕ) (w : Wire) → StartsWith bytes w → type_at bytes ≡ 3 → ChunkFault SackFault e bytes → ⊥
sack_valid e bytes w reads typ (inl fault) = no-frame-fault e bytes reads.is_framed fault
sack_valid e bytes w reads typ (inr (framed, inl (inl header))) = no-header-fault e (alone bytes) (by-itself bytes framed).is_framed header
sack_valid e bytes w reads typ (inr (framed, inl (inr other))) = other.2 ((by-itself bytes framed).typ ∙ typ)
sack_valid e bytes w reads typ (inr (framed, inr (is, chunk, short))) =
    let has = subst HasSack (sym (by-itself bytes framed).value) (sack-long bytes w reads (sym reads.typ ∙ typ)) in
    elim short [
      | inl few ↦ omega (arith, has.0, few)
      | inr few ↦ omega (arith, has.1, few)
    ]

-- ## The place of a DATA chunk

-- where it lies, and its value
pub record DataPlace (raw : List ℕ) (place : ChunkPlace) : Type 0 where
  pub chunk : HasChunk 0 (drop place.at raw)
  pub flags : place.flags ≡ flags_at (drop place.at raw)
  pub long : 16 ≤ place.length
  pub numbers : 12 ≤ length (value_at (drop place.at raw))
  pub within : place.at + place.length ≤ length raw
  pub value : take (place.length - 4) (drop 4 (drop place.at raw)) ≡ value_at (drop place.at raw)

pub data_place : (raw : List ℕ) (place : ChunkPlace) → IsPlace raw place → place.typ ≡ 0 → DataPlace raw place
unfolding value_at
data_place raw place is zero =
    let bytes = drop place.at raw in
    let framed : HasFrame bytes = is.there.is_framed in
    let typ : type_at bytes ≡ 0 = sym (ap (λ (p : ChunkPlace). p.typ) is.told) ∙ zero in
    let whole : is_whole_type (type_at bytes) ≡ true = ap is_whole_type typ in
    let reads = is.there.reads whole in
    let size : place.length ≡ declared_length bytes = ap (λ (p : ChunkPlace). p.length) is.told in
    let long : 12 ≤ length (value_at bytes) = data-long bytes reads.0 reads.1 typ in
    record {
      chunk = (framed, typ);
      flags = ap (λ (p : ChunkPlace). p.flags) is.told;
      long = omega (arith, size, long, length-take (declared_length bytes - 4) (drop 4 bytes));
      numbers = long;
      within = omega (arith, size, framed.within, framed.least, length-drop place.at raw);
      value = ap (λ (k : ℕ). take (k - 4) (drop 4 bytes)) size;
    }

-- what follows the numbers of its value
pub behind_numbers : (raw : List ℕ) (at n : ℕ) → 16 ≤ n
    → take (at + n - (at + 4 + 12)) (drop (at + 4 + 12) raw) ≡ drop 12 (take (n - 4) (drop 4 (drop at raw)))
behind_numbers raw at n long =
    let rest = drop 4 (drop at raw) in
    let k = n - 16 in
    let left : at + n - (at + 4 + 12) ≡ k = omega arith in
    let whole : 12 + k ≡ n - 4 = omega (arith, long) in
    let front : drop (at + 4 + 12) raw ≡ drop 12 rest = sym (ap (drop 12) (drop-drop 4 at raw) ∙ drop-drop 12 (at + 4) raw) in
    let cut : take k (drop 12 rest) ≡ drop 12 (take (n - 4) rest) = sym (drop-take 12 k rest) ∙ ap (λ (m : ℕ). drop 12 (take m rest)) whole in
    rw (left, front) cut
