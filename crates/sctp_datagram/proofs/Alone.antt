-- A chunk by itself, with no padding: it says what the bytes say that begin with it.
use Rattle.std.proofs.Common.{◌≡◌, ℕ, ◌+◌, ◌-◌, ◌<◌, ◌≤◌, List, [], length, take, drop, All, sym, ap, ◌∙◌, subst, arith, inl, inr}
use Rattle.std.specs.Prelude.{◌⊎◌, ◌*◌}
use Rattle.std.proofs.lemmas.List.{drop-take, length-take-le, take-take, get_or-take, nil_from_length, length-drop}
use Rattle.std.specs.Int.{w16, from_be_bytes}
use Rattle.sctp_util.specs.Outcome.{OrMemory}
use Rattle.sctp_util.specs.declared.error.Error.{Error}
use Rattle.sctp_util.specs.declared.error.Error.TheVariants.{ErrChunkPayloadSmall, ErrSackSizeNotLargeEnoughInfo}
use Rattle.sctp_util.specs.Field.{u16_at}
use Rattle.sctp_chunks.specs.Fault.{DataFault, HeaderFault, SackFault}
use Rattle.sctp_chunks.specs.Framing.{IsFramed, type_at, flags_at, value_at, declared_length}
use Rattle.sctp_chunks.specs.Wire.{Wire, ReadsChunk, ReadsValue}
use Rattle.sctp_data.specs.SelectiveAck.{blocks_in, duplicates_in}
use Rattle.sctp_datagram.specs.Framing.{ChunkFault, FrameFault, HasChunk, HasFrame, StartsWith, alone}

-- bytes that are framed have no header at fault
pub no-header-fault : (e : Error) (bytes : List ℕ) → IsFramed bytes → HeaderFault e bytes → ⊥
no-header-fault e bytes f (inl short) = omega (arith, short, f.headed)
no-header-fault e bytes f (inr (inl small)) = omega (arith, small, f.least)
no-header-fault e bytes f (inr (inr (inl long))) = omega (arith, long, f.within)
no-header-fault e bytes f (inr (inr (inr padded))) = padded.4 (f.padded padded.3)

pub no-frame-fault : (e : Error) (bytes : List ℕ) → HasFrame bytes → FrameFault e bytes → ⊥
no-frame-fault e bytes f (inl short) = omega (arith, short, f.headed)
no-frame-fault e bytes f (inr (inl small)) = omega (arith, small, f.least)
no-frame-fault e bytes f (inr (inr long)) = omega (arith, long, f.within)

-- what is framed with padding of zeroes has a frame
pub has-frame : (bytes : List ℕ) → IsFramed bytes → HasFrame bytes
has-frame bytes f = record { headed = f.headed; least = f.least; within = f.within }

pub starts-with : (bytes : List ℕ) (w : Wire) → ReadsChunk bytes w → StartsWith bytes w
starts-with bytes w reads = record { is_framed = has-frame bytes reads.is_framed; typ = reads.typ; value = reads.value }

-- ## A chunk by itself

-- what the length that is declared leaves of the first bytes
same-declared : (bytes : List ℕ) → HasFrame bytes → declared_length (alone bytes) ≡ declared_length bytes
unfolding u16_at
same-declared bytes f =
    let n = declared_length bytes in
    let cut : drop 2 (take (2 + (n - 2)) bytes) ≡ take (n - 2) (drop 2 bytes) = drop-take 2 (n - 2) bytes in
    let whole : 2 + (n - 2) ≡ n = omega (arith, f.least) in
    let two : take 2 (take (n - 2) (drop 2 bytes)) ≡ take 2 (drop 2 bytes) = take-take 2 (n - 2) (drop 2 bytes) (omega (arith, f.least)) in
    ap (λ (l : List ℕ). from_be_bytes w16 (take 2 l)) (ap (λ (k : ℕ). drop 2 (take k bytes)) (sym whole) ∙ cut) ∙ ap (from_be_bytes w16) two

alone-framed : (bytes : List ℕ) → HasFrame bytes → IsFramed (alone bytes)
alone-framed bytes f =
    let n = declared_length bytes in
    let size : length (take n bytes) ≡ n = length-take-le n bytes f.within in
    let same : declared_length (take n bytes) ≡ n = same-declared bytes f in
    let none : drop (declared_length (take n bytes)) (take n bytes) ≡ [] =
    nil_from_length _ (omega (arith, length-drop (declared_length (take n bytes)) (take n bytes), size, same)) in
    record {
      headed = omega (arith, size, f.least);
      least = omega (arith, same, f.least);
      within = omega (arith, same, size);
      padded = λ _. subst (λ (l : List ℕ). All (λ (x : ℕ). x ≡ 0) l) (sym none) (λ k d lt. absurd (omega (arith, lt)));
    }

-- it is framed, and its type, its flags and its value are the same
pub record SameChunk (bytes : List ℕ) : Type 0 where
  pub is_framed : IsFramed (alone bytes)
  pub typ : type_at (alone bytes) ≡ type_at bytes
  pub flags : flags_at (alone bytes) ≡ flags_at bytes
  pub value : value_at (alone bytes) ≡ value_at bytes

pub by-itself : (bytes : List ℕ) → HasFrame bytes → SameChunk bytes
unfolding value_at
by-itself bytes f =
    let n = declared_length bytes in
    let whole : 4 + (n - 4) ≡ n = omega (arith, f.least) in
    let cut : drop 4 (take (4 + (n - 4)) bytes) ≡ take (n - 4) (drop 4 bytes) = drop-take 4 (n - 4) bytes in
    let rest : drop 4 (take n bytes) ≡ take (n - 4) (drop 4 bytes) = ap (λ (k : ℕ). drop 4 (take k bytes)) (sym whole) ∙ cut in
    let twice : take (n - 4) (take (n - 4) (drop 4 bytes)) ≡ take (n - 4) (drop 4 bytes) = take-take (n - 4) (n - 4) (drop 4 bytes) (omega arith) in
    record {
      is_framed = alone-framed bytes f;
      typ = get_or-take n bytes 0 0 (omega (arith, f.least));
      flags = get_or-take n bytes 1 0 (omega (arith, f.least));
      value = rw (same-declared bytes f) (ap (take (n - 4)) rest ∙ twice);
    }

-- ## It is read as what the bytes begin with

pub starts-alone : (bytes : List ℕ) (w : Wire) → HasFrame bytes → ReadsChunk (alone bytes) w → StartsWith bytes w
starts-alone bytes w f reads =
    let s = by-itself bytes f in
    let P : ℕ → Type 0 = λ g. ReadsValue g (value_at (alone bytes)) w in
    record {
      is_framed = f;
      typ = sym s.typ ∙ reads.typ;
      value = subst (λ (v : List ℕ). ReadsValue (flags_at bytes) v w) s.value (subst P s.flags reads.value);
    }

pub alone-reads : (bytes : List ℕ) (w : Wire) → StartsWith bytes w → ReadsChunk (alone bytes) w
alone-reads bytes w starts =
    let s = by-itself bytes starts.is_framed in
    let P : ℕ → Type 0 = λ g. ReadsValue g (value_at bytes) w in
    record {
      is_framed = s.is_framed;
      typ = s.typ ∙ starts.typ;
      value = subst (λ (v : List ℕ). ReadsValue (flags_at (alone bytes)) v w) (sym s.value) (subst P (sym s.flags) starts.value);
    }

-- the same by bytes that were cut so
pub reads_of_cut : (bytes cut : List ℕ) (w : Wire) → HasFrame bytes → cut ≡ alone bytes → ReadsChunk cut w → StartsWith bytes w
reads_of_cut bytes cut w f e reads = starts-alone bytes w f (subst (λ (l : List ℕ). ReadsChunk l w) e reads)

pub cut_reads : (bytes cut : List ℕ) (w : Wire) → cut ≡ alone bytes → StartsWith bytes w → ReadsChunk cut w
cut_reads bytes cut w e starts = subst (λ (l : List ℕ). ReadsChunk l w) (sym e) (alone-reads bytes w starts)

-- ## Refusals

pub fault_of_cut : (F : Error → List ℕ → Type 0) (e : Error) (bytes cut : List ℕ) → HasFrame bytes → cut ≡ alone bytes → OrMemory e (F e cut)
    → OrMemory e (ChunkFault F e bytes)
fault_of_cut F e bytes cut f is (inl memory) = inl memory
fault_of_cut F e bytes cut f is (inr fault) = inr (inr (f, subst (F e) is fault))

-- of a DATA chunk whose value is too short, and of such a SACK
pub data_short : (e : Error) (bytes : List ℕ) → e ≡ ErrChunkPayloadSmall → HasChunk 0 bytes → length (value_at bytes) < 12 → ChunkFault DataFault e bytes
data_short e bytes is chunk short =
    let s = by-itself bytes chunk.0 in
    let P : List ℕ → Type 0 = λ v. length v < 12 in
    inr (chunk.0, inr (is, (s.is_framed, s.typ ∙ chunk.1), subst P (sym s.value) short))

pub sack_short : (e : Error) (bytes : List ℕ) → e ≡ ErrSackSizeNotLargeEnoughInfo → HasChunk 3 bytes
    → (length (value_at bytes) < 12) ⊎ (length (value_at bytes) < 12 + 4 * blocks_in (value_at bytes) + 4 * duplicates_in (value_at bytes))
    → ChunkFault SackFault e bytes
sack_short e bytes is chunk short =
    let s = by-itself bytes chunk.0 in
    let P : List ℕ → Type 0 = λ v. (length v < 12) ⊎ (length v < 12 + 4 * blocks_in v + 4 * duplicates_in v) in
    inr (chunk.0, inr (is, (s.is_framed, s.typ ∙ chunk.1), subst P (sym s.value) short))
