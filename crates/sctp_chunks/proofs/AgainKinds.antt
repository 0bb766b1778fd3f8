-- What is written of a chunk reads back, for each kind.
use Rattle.std.proofs.Common.{◌≡◌, ℕ, ◌+◌, ◌*◌, ◌-◌, ◌/◌, ◌^◌, ◌<◌, Bool, true, false, List, [], ◌∷◌, ◌++◌, length, drop, All, refl, sym, subst, ap, ◌∙◌, arith}
use Rattle.std.proofs.Common.{append_assoc, length-append}
use Rattle.std.specs.Prelude.{slice_index}
use Rattle.std.specs.List.{flat_map}
use Rattle.std.proofs.lemmas.List.{append-nil, drop_at}
use Rattle.std.proofs.lemmas.List.Elements.{All-nil}
use Rattle.std.proofs.Math.Seq.{get_or-append_seam}
use Rattle.sctp_util.specs.Each.{each}
use Rattle.sctp_util.specs.Field.{be16, be32, u16_at, u32_at}
use Rattle.sctp_util.proofs.Fields.{length_be16, length_be32, u16_at_be16, u32_at_be32}
use Rattle.sctp_data.specs.declared.chunk.chunk_selective_ack.GapAckBlock.{GapAckBlock}
use Rattle.sctp_data.specs.declared.chunk.chunk_forward_tsn.ChunkForwardTsnStream.{ChunkForwardTsnStream}
use Rattle.sctp_chunks.specs.declared.chunk.chunk_i_forward_tsn.ChunkIForwardTsnStream.{ChunkIForwardTsnStream}
use Rattle.sctp_data.specs.PayloadData.{has_flag, weight}
use Rattle.sctp_chunks.specs.Params.{ReadBack, params_encoding}
use Rattle.sctp_chunks.specs.Init.{Init, ReadsInit, init_value}
use Rattle.sctp_data.specs.SelectiveAck.{Sack, ReadsSack, sack_value, block_at, block_encoding}
use Rattle.sctp_data.specs.ForwardTsn.{ForwardTsn, ReadsForwardTsn, forward_tsn_value, stream_at, stream_encoding}
use Rattle.sctp_chunks.specs.IForwardTsn.{IForwardTsn, ReadsIForwardTsn, i_forward_tsn_value, entry_at, entry_encoding}
use Rattle.sctp_data.specs.ForwardTsn.{FitsStream}
use Rattle.sctp_chunks.specs.Fits.{Fits, FitsInit, FitsBlock, FitsSack, FitsForwardTsn, FitsEntry, FitsIForwardTsn, Canonical}
use Rattle.sctp_chunks.specs.Wire.{Wire, data_chunk, init_chunk, sack_chunk, heartbeat_chunk, heartbeat_ack_chunk, reconfig_chunk, HasLength, abort_chunk}
use Rattle.sctp_chunks.specs.Wire.{shutdown_chunk, shutdown_ack_chunk, error_chunk, cookie_echo_chunk, cookie_ack_chunk, shutdown_complete_chunk}
use Rattle.sctp_chunks.specs.Wire.{forward_tsn_chunk, i_forward_tsn_chunk, ReadsValue, ReadsChunk, HasEncoding, type_of, flags_of, value_of, encoding_of}
use Rattle.sctp_params.proofs.ParamLengths.{length_flat_map}
use Rattle.sctp_chunks.proofs.Lengths.{length_init_value, length_sack_value, length_forward_tsn_value, length_i_forward_tsn_value}
use Rattle.sctp_chunks.proofs.Again.{data_again, framed_reads, framed_value}
use Rattle.sctp_chunks.proofs.AgainLists.{items_again}
use Rattle.sctp_chunks.proofs.AgainCauses.{causes_again}
use Rattle.sctp_chunks.proofs.AgainParams.{params_again, heartbeat_again, pair_again}

-- ---- two numbers of two bytes

pair_first : (a b : ℕ) (front rest : List ℕ) (at : ℕ) → length front ≡ at → a < 2 ^ 16 → u16_at (front ++ (be16 a ++ be16 b ++ rest)) at ≡ a
pair_first a b front rest at e fits =
    let grouped : front ++ (be16 a ++ be16 b ++ rest) ≡ front ++ (be16 a ++ (be16 b ++ rest)) = ap (λ (x : List ℕ). front ++ x)
    (append_assoc (be16 a) (be16 b) rest) in
    ap (λ (x : List ℕ). u16_at x at) grouped ∙ u16_at_be16 front (be16 b ++ rest) a at e fits

pair_second : (a b : ℕ) (front rest : List ℕ) (at : ℕ) → length front ≡ at → b < 2 ^ 16 → u16_at (front ++ (be16 a ++ be16 b ++ rest)) (at + 2) ≡ b
pair_second a b front rest at e fits =
    let grouped : front ++ (be16 a ++ be16 b ++ rest) ≡ (front ++ be16 a) ++ (be16 b ++ rest) = simp append_assoc in
    ap (λ (x : List ℕ). u16_at x (at + 2)) grouped
    ∙ u16_at_be16 (front ++ be16 a) rest b (at + 2) (omega (arith, length-append front (be16 a), length_be16 a, e)) fits

-- ---- SACK

block_again : (b : GapAckBlock) (front rest : List ℕ) (at : ℕ) → length front ≡ at → FitsBlock b → block_at (front ++ (block_encoding b ++ rest)) at ≡ b
block_again b front rest at e fits = rw (pair_first b.start b.end front rest at e fits.start, pair_second b.start b.end front rest at e fits.end) refl

number_again : (n : ℕ) (front rest : List ℕ) (at : ℕ) → length front ≡ at → n < 2 ^ 32 → u32_at (front ++ (be32 n ++ rest)) at ≡ n
number_again n front rest at e fits = u32_at_be32 front rest n at e fits

length_block_encoding : (b : GapAckBlock) → length (block_encoding b) ≡ 4
length_block_encoding b = simp (length-append, length_be16) refl

sack_again : (s : Sack) → FitsSack s → 4 + length (sack_value s) < 2 ^ 16 → ReadsSack (sack_value s) s
unfolding sack_value
sack_again s fits short =
    let v = sack_value s in
    let n = length s.gap_ack_blocks in
    let x = length s.duplicate_tsn in
    let len = length_sack_value s in
    let bs : List ℕ = flat_map block_encoding s.gap_ack_blocks in
    let ds : List ℕ = flat_map be32 s.duplicate_tsn in
    let all : v ≡ be32 s.cumulative_tsn_ack ++ (be32 s.advertised_receiver_window_credit ++ (be16 n ++ (be16 x ++ (bs ++ ds)))) = simp append_assoc in
    let cum : u32_at v 0 ≡ s.cumulative_tsn_ack = ap (λ (y : List ℕ). u32_at y 0) all ∙ u32_at_be32 [] _ s.cumulative_tsn_ack 0 refl fits.cumulative_tsn_ack in
    let credit : u32_at v 4 ≡ s.advertised_receiver_window_credit =
    ap (λ (y : List ℕ). u32_at y 4) all
    ∙ u32_at_be32 (be32 s.cumulative_tsn_ack) _ s.advertised_receiver_window_credit 4 (length_be32 s.cumulative_tsn_ack) fits.credit in
    let front : List ℕ = be32 s.cumulative_tsn_ack ++ be32 s.advertised_receiver_window_credit in
    let eight : length front ≡ 8 = simp (length-append, length_be32) refl in
    let at8 : v ≡ front ++ (be16 n ++ (be16 x ++ (bs ++ ds))) = simp append_assoc in
    let blocks_n : u16_at v 8 ≡ n = ap (λ (y : List ℕ). u16_at y 8) at8 ∙ u16_at_be16 front (be16 x ++ (bs ++ ds)) n 8 eight (omega (arith, len, short)) in
    let ten : length (front ++ be16 n) ≡ 10 = simp (length-append, length_be16, length_be32) refl in
    let at10 : v ≡ (front ++ be16 n) ++ (be16 x ++ (bs ++ ds)) = simp append_assoc in
    let duplicates_n : u16_at v 10 ≡ x = ap (λ (y : List ℕ). u16_at y 10) at10
    ∙ u16_at_be16 (front ++ be16 n) (bs ++ ds) x 10 ten (omega (arith, len, short)) in
    let head : List ℕ = front ++ be16 n ++ be16 x in
    let twelve : length head ≡ 12 = simp (length-append, length_be16, length_be32) refl in
    let at12 : v ≡ head ++ (bs ++ ds) = simp append_assoc in
    let blocks : each n (λ i. block_at v (12 + 4 * i)) ≡ s.gap_ack_blocks =
    rw at12 (items_again block_encoding block_at 4 FitsBlock length_block_encoding block_again s.gap_ack_blocks head ds 12 twelve fits.blocks) in
    let blocks_len = length_flat_map block_encoding 4 length_block_encoding s.gap_ack_blocks in
    let middle : length (head ++ bs) ≡ 12 + 4 * n = omega (arith, length-append head bs, twelve, blocks_len) in
    let at_end : v ≡ (head ++ bs) ++ (ds ++ []) = rw append-nil (simp append_assoc) in
    let duplicates : each x (λ i. u32_at v (12 + 4 * n + 4 * i)) ≡ s.duplicate_tsn =
    rw at_end
    (items_again be32 u32_at 4 (λ (m : ℕ). m < 2 ^ 32) length_be32 number_again s.duplicate_tsn (head ++ bs) [] (12 + 4 * n) middle fits.duplicates) in
    record {
      headed = omega (arith, len);
      long = omega (arith, len, blocks_n, duplicates_n);
      fields = sym (rw (cum, credit, blocks_n, duplicates_n, blocks, duplicates) refl);
    }

-- ---- FORWARD-TSN

stream_again : (s : ChunkForwardTsnStream) (front rest : List ℕ) (at : ℕ) → length front ≡ at → FitsStream s
    → stream_at (front ++ (stream_encoding s ++ rest)) at ≡ s
stream_again s front rest at e fits =
    rw (pair_first s.identifier s.sequence front rest at e fits.identifier, pair_second s.identifier s.sequence front rest at e fits.sequence) refl

length_stream_encoding : (s : ChunkForwardTsnStream) → length (stream_encoding s) ≡ 4
length_stream_encoding s = simp (length-append, length_be16) refl

forward_tsn_again : (f : ForwardTsn) → FitsForwardTsn f → ReadsForwardTsn (forward_tsn_value f) f
unfolding forward_tsn_value
forward_tsn_again f fits =
    let v = forward_tsn_value f in
    let n = length f.streams in
    let len : length v ≡ 4 + 4 * n = length_forward_tsn_value f in
    let streams_encoding : List ℕ = flat_map stream_encoding f.streams in
    let tsn : u32_at v 0 ≡ f.new_cumulative_tsn = u32_at_be32 [] streams_encoding f.new_cumulative_tsn 0 refl fits.new_cumulative_tsn in
    let count : (length v - 4) / 4 ≡ n = omega (arith, len) in
    let at4 : v ≡ be32 f.new_cumulative_tsn ++ (streams_encoding ++ []) = rw append-nil refl in
    let streams : each n (λ i. stream_at v (4 + 4 * i)) ≡ f.streams =
    rw at4 (items_again stream_encoding stream_at 4 FitsStream length_stream_encoding stream_again f.streams (be32 f.new_cumulative_tsn) [] 4
    (length_be32 f.new_cumulative_tsn) fits.streams) in
    record {
      long = omega (arith, len);
      whole = omega (arith, len);
      fields = sym (rw (tsn, count, streams) refl);
    }

-- ---- I-FORWARD-TSN

flag_again : (b : Bool) → has_flag (weight b 1) 1 ≡ b
flag_again true = refl
flag_again false = refl

entry_again : (s : ChunkIForwardTsnStream) (front rest : List ℕ) (at : ℕ) → length front ≡ at → FitsEntry s
    → entry_at (front ++ (entry_encoding s ++ rest)) at ≡ s
entry_again s front rest at e fits =
    let whole : List ℕ = front ++ (entry_encoding s ++ rest) in
    let flags : List ℕ = weight s.unordered 1 ∷ 0 ∷ [] in
    let at0 : whole ≡ front ++ (be16 s.identifier ++ (flags ++ (be32 s.mid ++ rest))) = simp append_assoc in
    let at2 : whole ≡ (front ++ be16 s.identifier) ++ (flags ++ (be32 s.mid ++ rest)) = simp append_assoc in
    let at4 : whole ≡ (front ++ be16 s.identifier ++ flags) ++ (be32 s.mid ++ rest) = simp append_assoc in
    let two : length (front ++ be16 s.identifier) ≡ at + 2 = omega (arith, length-append front (be16 s.identifier), length_be16 s.identifier, e) in
    let four : length (front ++ be16 s.identifier ++ flags) ≡ at + 4 = omega (arith, length-append (front ++ be16 s.identifier) flags, two) in
    let id : u16_at whole at ≡ s.identifier = ap (λ (x : List ℕ). u16_at x at) at0 ∙ u16_at_be16 front _ s.identifier at e fits.identifier in
    let flag : slice_index whole (at + 2) ≡ weight s.unordered 1 = ap (λ (x : List ℕ). slice_index x (at + 2)) at2
    ∙ byte_behind (front ++ be16 s.identifier) (weight s.unordered 1) _ (at + 2) two in
    let mid : u32_at whole (at + 4) ≡ s.mid = ap (λ (x : List ℕ). u32_at x (at + 4)) at4
    ∙ u32_at_be32 (front ++ be16 s.identifier ++ flags) rest s.mid (at + 4) four fits.mid in
    rw (id, flag, mid, flag_again s.unordered) refl
  where
    byte_behind : (front : List ℕ) (b : ℕ) (rest : List ℕ) (at : ℕ) → length front ≡ at → slice_index (front ++ b ∷ rest) at ≡ b
    byte_behind front b rest at e = rw (← e) (get_or-append_seam front b rest 0)

length_entry_encoding : (s : ChunkIForwardTsnStream) → length (entry_encoding s) ≡ 8
length_entry_encoding s = simp (length-append, length_be16, length_be32) refl

i_forward_tsn_again : (f : IForwardTsn) → FitsIForwardTsn f → ReadsIForwardTsn (i_forward_tsn_value f) f
unfolding i_forward_tsn_value
i_forward_tsn_again f fits =
    let v = i_forward_tsn_value f in
    let n = length f.streams in
    let len : length v ≡ 4 + 8 * n = length_i_forward_tsn_value f in
    let streams_encoding : List ℕ = flat_map entry_encoding f.streams in
    let tsn : u32_at v 0 ≡ f.new_cumulative_tsn = u32_at_be32 [] streams_encoding f.new_cumulative_tsn 0 refl fits.new_cumulative_tsn in
    let count : (length v - 4) / 8 ≡ n = omega (arith, len) in
    let at4 : v ≡ be32 f.new_cumulative_tsn ++ (streams_encoding ++ []) = rw append-nil refl in
    let streams : each n (λ i. entry_at v (4 + 8 * i)) ≡ f.streams =
    rw at4 (items_again entry_encoding entry_at 8 FitsEntry length_entry_encoding entry_again f.streams (be32 f.new_cumulative_tsn) [] 4
    (length_be32 f.new_cumulative_tsn) fits.streams) in
    record {
      long = omega (arith, len);
      fields = sym (rw (tsn, count, streams) refl);
    }

-- ---- INIT

init_again : (i : Init) → FitsInit i → ReadBack i.params → ReadsInit 0 (init_value i) i
unfolding init_value
init_again i fits back =
    let v = init_value i in
    let ps : List ℕ = params_encoding false i.params in
    let tail : List ℕ = be16 i.num_outbound_streams ++ (be16 i.num_inbound_streams ++ (be32 i.initial_tsn ++ ps)) in
    let front : List ℕ = be32 i.initiate_tag ++ be32 i.advertised_receiver_window_credit in
    let eight : length front ≡ 8 = simp (length-append, length_be32) refl in
    let ten : length (front ++ be16 i.num_outbound_streams) ≡ 10 = simp (length-append, length_be16, length_be32) refl in
    let head : List ℕ = front ++ be16 i.num_outbound_streams ++ be16 i.num_inbound_streams in
    let twelve : length head ≡ 12 = simp (length-append, length_be16, length_be32) refl in
    let sixteen : length (head ++ be32 i.initial_tsn) ≡ 16 = simp (length-append, length_be16, length_be32) refl in
    let at0 : v ≡ be32 i.initiate_tag ++ (be32 i.advertised_receiver_window_credit ++ tail) = simp append_assoc in
    let at8 : v ≡ front ++ (be16 i.num_outbound_streams ++ (be16 i.num_inbound_streams ++ (be32 i.initial_tsn ++ ps))) = simp append_assoc in
    let at10 : v ≡ (front ++ be16 i.num_outbound_streams) ++ (be16 i.num_inbound_streams ++ (be32 i.initial_tsn ++ ps)) = simp append_assoc in
    let at12 : v ≡ head ++ (be32 i.initial_tsn ++ ps) = simp append_assoc in
    let tag : u32_at v 0 ≡ i.initiate_tag = ap (λ (x : List ℕ). u32_at x 0) at0 ∙ u32_at_be32 [] _ i.initiate_tag 0 refl fits.initiate_tag in
    let credit : u32_at v 4 ≡ i.advertised_receiver_window_credit =
    ap (λ (x : List ℕ). u32_at x 4) at0
    ∙ u32_at_be32 (be32 i.initiate_tag) tail i.advertised_receiver_window_credit 4 (length_be32 i.initiate_tag) fits.credit in
    let out : u16_at v 8 ≡ i.num_outbound_streams = ap (λ (x : List ℕ). u16_at x 8) at8
    ∙ u16_at_be16 front _ i.num_outbound_streams 8 eight fits.num_outbound_streams in
    let inbound : u16_at v 10 ≡ i.num_inbound_streams =
    ap (λ (x : List ℕ). u16_at x 10) at10 ∙ u16_at_be16 (front ++ be16 i.num_outbound_streams) _ i.num_inbound_streams 10 ten fits.num_inbound_streams in
    let tsn : u32_at v 12 ≡ i.initial_tsn = ap (λ (x : List ℕ). u32_at x 12) at12 ∙ u32_at_be32 head ps i.initial_tsn 12 twelve fits.initial_tsn in
    let params : drop 16 v ≡ ps = drop_at (head ++ be32 i.initial_tsn) ps 16 sixteen in
    record {
      long = omega (arith, length_init_value i);
      no_flags = refl;
      fields = sym (rw (tag, credit, out, inbound, tsn) refl);
      params = rw params (params_again i.params back);
    }

-- ---- every kind

value_again : (w : Wire) → Canonical w → Fits w → HasLength w → ReadsValue (flags_of w) (value_of w) w
value_again (data_chunk d) canonical fits short = data_again d fits
value_again (init_chunk i) canonical fits short = init_again i fits canonical
value_again (sack_chunk s) canonical fits short = sack_again s fits short
value_again (heartbeat_chunk ps) canonical fits short = heartbeat_again ps canonical
value_again (heartbeat_ack_chunk ps) canonical fits short = heartbeat_again ps canonical
value_again (reconfig_chunk r) canonical fits short = pair_again r.param_a r.param_b canonical
value_again (abort_chunk cs) canonical fits short = causes_again cs fits (omega (arith, short))
value_again (shutdown_chunk n) canonical fits short =
    let whole : be32 n ≡ be32 n ++ [] = sym (append-nil (be32 n)) in
    (length_be32 n, sym (ap (λ (x : List ℕ). u32_at x 0) whole ∙ u32_at_be32 [] [] n 0 refl fits))
value_again shutdown_ack_chunk canonical fits short = tt
value_again (error_chunk cs) canonical fits short = causes_again cs fits (omega (arith, short))
value_again (cookie_echo_chunk b) canonical fits short = refl
value_again cookie_ack_chunk canonical fits short = tt
value_again shutdown_complete_chunk canonical fits short = tt
value_again (forward_tsn_chunk f) canonical fits short = forward_tsn_again f fits
value_again (i_forward_tsn_chunk f) canonical fits short = i_forward_tsn_again f fits

-- a chunk's encoding, with zeros or at least four bytes after it, reads back
pub chunk_again : (w : Wire) (rest : List ℕ) → Canonical w → Fits w → HasLength w → (length rest < 4 → All (λ x. x ≡ 0) rest)
    → ReadsChunk (encoding_of w ++ rest) w
chunk_again w rest canonical fits short zeros =
    record {
      is_framed = framed_reads (type_of w) (flags_of w) (value_of w) rest short zeros;
      typ = refl;
      value = rw (framed_value (type_of w) (flags_of w) (value_of w) rest short) (value_again w canonical fits short);
    }

-- a chunk's encoding alone reads back
pub encoding_again : (w : Wire) → Canonical w → Fits w → HasEncoding w → ReadsChunk (encoding_of w) w
encoding_again w canonical fits encoding =
    let P : List ℕ → Type 0 = λ b. ReadsChunk b w in
    subst P (append-nil (encoding_of w)) (chunk_again w [] canonical fits encoding.1 (λ short. All-nil (λ (x : ℕ). x ≡ 0)))
