-- How much user data a DATA chunk has.
use Rattle.std.proofs.Common.{◌≡◌, ℕ, ◌-◌, ◌<◌, ◌≤◌, ◌^◌, List, length, drop, ap, ◌∙◌, subst, arith, Result, Ok, Err}
use Rattle.std.proofs.lemmas.List.{length-drop, length-take}
use Rattle.std.specs.Prelude.{slice_range, IfOk}
use Rattle.sctp_association.specs.Reached.{most_user_data}
use Rattle.sctp_chunks.specs.Framing.{declared_length, value_at}
use Rattle.sctp_chunks.specs.Wire.{data_chunk}
use Rattle.sctp_data.specs.declared.chunk.chunk_payload_data.ChunkPayloadData.{ChunkPayloadData}
use Rattle.sctp_data.specs.PayloadData.{Data, data_of}
use Rattle.sctp_datagram.specs.Framing.{StartsWith}
use Rattle.sctp_util.specs.declared.error.Error.{Error}
use Rattle.sctp_util.specs.Field.{u16_at}

-- a part between two places is no longer than their distance
length-slice_range : (bytes : List ℕ) (from end : ℕ) → length (slice_range bytes from end) ≤ end - from
length-slice_range bytes from end = omega (arith, length-take (end - from) (drop from bytes))

short_data : (bytes : List ℕ) (c : ChunkPayloadData) → declared_length bytes < 2 ^ 16 → StartsWith bytes (data_chunk (data_of c))
    → length c.user_data ≤ most_user_data
unfolding value_at
short_data bytes c small r =
    let e : c.user_data ≡ drop 12 (value_at bytes) = ap (λ (d : Data). d.user_data) r.value.fields in
    omega (arith, ap length e, length-drop 12 (value_at bytes), length-slice_range bytes 4 (declared_length bytes), small, r.value.long)

pub short_read : (bytes raw : List ℕ) (n : ℕ) (r : Result ChunkPayloadData Error) → raw ≡ bytes → n ≡ u16_at raw 2 → n < 2 ^ 16
    → IfOk r (λ c. StartsWith bytes (data_chunk (data_of c))) → IfOk r (λ c. length c.user_data ≤ most_user_data)
short_read bytes raw n (Ok c) same is small reads = short_data bytes c (subst (λ n. n < 2 ^ 16) (is ∙ ap (λ b. u16_at b 2) same) small) reads
short_read bytes raw n (Err e) same is small reads = tt
