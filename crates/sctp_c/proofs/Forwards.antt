-- A FORWARD-TSN within a buffer's room.
use Rattle.std.proofs.Common.{◌≡◌, ℕ, ◌+◌, ◌*◌, ◌≤◌, true, List, length, Option, Some, subst, ap, ◌∙◌, inl, inr, arith, length-append}
use Rattle.std.specs.Prelude.{◌⊎◌, min, option_map, IfSome}
use Rattle.sctp_util.proofs.Fields.{length_be16}
use Rattle.sctp_util.specs.Field.{be16}
use Rattle.sctp_util.specs.declared.error.Error.{Error}
use Rattle.sctp_util.specs.declared.error.Error.TheVariants.{ErrOutOfMemory}
use Rattle.sctp_chunks.specs.Check.{EncodingFault}
use Rattle.sctp_chunks.proofs.Lengths.{length_forward_tsn_value}
use Rattle.sctp_chunks.specs.Wire.{HasEncoding, encoding_of, forward_tsn_chunk}
use Rattle.sctp_data.specs.ForwardTsn.{ForwardTsn, forward_tsn_of, forward_tsn_value}
use Rattle.sctp_data.specs.declared.chunk.chunk_forward_tsn.ChunkForwardTsn.{ChunkForwardTsn}
use Rattle.sctp_sender.specs.Abandonment.{IsTooLong, Name, advanced_ack_point, ahead, is_end, named_up_to, skip_end}
use Rattle.sctp_sender.specs.Flight.{Flight}
use Rattle.sctp_c.specs.Forwards.{IsWanted, WritesForwardTsn}
use Rattle.sctp_c.specs.Out.{at_front}

pub forward-size : (f : ForwardTsn) → length (encoding_of (forward_tsn_chunk f)) ≡ 8 + 4 * length f.streams
forward-size f =
    let v = forward_tsn_value f in
    omega (arith, length_forward_tsn_value f, length-append (be16 (4 + length v)) v, length_be16 (4 + length v))

pub forward-fits : (f : ForwardTsn) (bytes view : List ℕ) (room n : ℕ) → room ≡ min n 65532 → 8 + 4 * length f.streams ≤ room
    → bytes ≡ encoding_of (forward_tsn_chunk f) → view ≡ bytes → length view ≤ n
forward-fits f bytes view room n is fits e same =
    let below : room ≤ n = grind (arith, is) in
    omega (arith, below, fits, ap (λ (l : List ℕ). length l) e, ap (λ (l : List ℕ). length l) same, forward-size f)

-- it has an encoding: only memory can run out
pub forward-memory : (f : ForwardTsn) (e : Error) (room n : ℕ) → room ≡ min n 65532 → 8 + 4 * length f.streams ≤ room
    → EncodingFault e (forward_tsn_chunk f) ⊎ ((e ≡ ErrOutOfMemory) × HasEncoding (forward_tsn_chunk f)) → e ≡ ErrOutOfMemory
forward-memory f e room n is fits (inl (inl h)) = absurd h
forward-memory f e room n is fits (inl (inr h)) =
    let below : room ≤ 65532 = grind (arith, is) in
    absurd (h.2 (omega (arith, below, fits, length_forward_tsn_value f)))
forward-memory f e room n is fits (inr h) = h.0

-- so many bytes are wanted for one with so many names
pub wanted : (r : Option ChunkForwardTsn) (whole : ChunkForwardTsn) (names : ℕ) (f : Flight) → r ≡ Some whole
    → option_map (λ (c : ChunkForwardTsn). c.new_cumulative_tsn) r ≡ skip_end (advanced_ack_point f) f
    → IfSome r (λ (c : ChunkForwardTsn). Name c.streams.items (named_up_to c.new_cumulative_tsn f)) → names ≡ min (length whole.streams.items) 16381
    → IsWanted (8 + 4 * names) f
wanted r whole names f is tsn named many = record {
  forward = forward_tsn_of whole;
  upto = subst (λ (o : Option ChunkForwardTsn). option_map (λ (c : ChunkForwardTsn). c.new_cumulative_tsn) o ≡ skip_end (advanced_ack_point f) f) is tsn;
  names = subst (λ (o : Option ChunkForwardTsn). IfSome o (λ (c : ChunkForwardTsn). Name c.streams.items (named_up_to c.new_cumulative_tsn f))) is named;
  size = grind (arith, many);
}

-- what is written at the front of the buffer is the one that the sender answers within the buffer's room
pub written-front : (o : Option ChunkForwardTsn) (chunk : ChunkForwardTsn) (f : Flight) (room written : ℕ) (old new bytes view : List ℕ)
    → o ≡ Some chunk → room ≡ min (length old) 65532
    → IfSome o (λ (c : ChunkForwardTsn). is_end c.new_cumulative_tsn f ≡ true)
    → IfSome o (λ (c : ChunkForwardTsn). Name c.streams.items (named_up_to c.new_cumulative_tsn f))
    → IfSome o (λ (c : ChunkForwardTsn). (t : ℕ) → is_end t f ≡ true → (ahead f t ≤ ahead f c.new_cumulative_tsn) ⊎ IsTooLong room t f)
    → bytes ≡ encoding_of (forward_tsn_chunk (forward_tsn_of chunk)) → view ≡ bytes → new ≡ at_front view old → written ≡ length bytes
    → WritesForwardTsn old new written f
written-front o chunk f room written old new bytes view is within ended named far encoded same put many = record {
  forward = forward_tsn_of chunk;
  ends = subst (λ (p : Option ChunkForwardTsn). IfSome p (λ (c : ChunkForwardTsn). is_end c.new_cumulative_tsn f ≡ true)) is ended;
  names = subst (λ (p : Option ChunkForwardTsn). IfSome p (λ (c : ChunkForwardTsn). Name c.streams.items (named_up_to c.new_cumulative_tsn f))) is named;
  furthest =
      let reach = subst (λ (p : Option ChunkForwardTsn). IfSome p (λ (c : ChunkForwardTsn). (t : ℕ) → is_end t f ≡ true
      → (ahead f t ≤ ahead f c.new_cumulative_tsn) ⊎ IsTooLong room t f)) is far in
      subst (λ (n : ℕ). (t : ℕ) → is_end t f ≡ true → (ahead f t ≤ ahead f chunk.new_cumulative_tsn) ⊎ IsTooLong n t f) within reach;
  bytes = put ∙ ap (λ (l : List ℕ). at_front l old) (same ∙ encoded);
  size = many ∙ ap (λ (l : List ℕ). length l) encoded;
}
