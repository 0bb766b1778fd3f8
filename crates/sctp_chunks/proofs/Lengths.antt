-- How long the value of each kind is.
use Rattle.std.proofs.Common.{◌≡◌, ℕ, ◌+◌, ◌*◌, ◌^◌, ◌<◌, ◌≤◌, false, length, arith, length-append}
use Rattle.sctp_util.proofs.Fields.{length_be16, length_be32}
use Rattle.sctp_params.proofs.ParamLengths.{length_flat_map}
use Rattle.sctp_util.specs.Field.{be32}
use Rattle.sctp_data.specs.PayloadData.{Data, data_value}
use Rattle.sctp_chunks.specs.Params.{params_encoding}
use Rattle.sctp_chunks.specs.Init.{Init, init_value}
use Rattle.sctp_data.specs.SelectiveAck.{Sack, sack_value, block_encoding}
use Rattle.sctp_data.specs.ForwardTsn.{ForwardTsn, forward_tsn_value, stream_encoding}
use Rattle.sctp_chunks.specs.IForwardTsn.{IForwardTsn, i_forward_tsn_value, entry_encoding}

pub length_data_value : (d : Data) → length (data_value d) ≡ 12 + length d.user_data
unfolding data_value
length_data_value d = simp (length-append, length_be16, length_be32) (omega arith)

pub length_sack_value : (s : Sack) → length (sack_value s) ≡ 12 + 4 * length s.gap_ack_blocks + 4 * length s.duplicate_tsn
unfolding sack_value
length_sack_value s =
    let blocks = length_flat_map block_encoding 4 (λ b. simp (length-append, length_be16)) s.gap_ack_blocks in
    let duplicates = length_flat_map be32 4 length_be32 s.duplicate_tsn in
    simp (length-append, length_be16, length_be32) (omega (arith, blocks, duplicates))

pub length_forward_tsn_value : (f : ForwardTsn) → length (forward_tsn_value f) ≡ 4 + 4 * length f.streams
unfolding forward_tsn_value
length_forward_tsn_value f =
    let streams = length_flat_map stream_encoding 4 (λ s. simp (length-append, length_be16)) f.streams in
    simp (length-append, length_be32) (omega (arith, streams))

pub length_i_forward_tsn_value : (f : IForwardTsn) → length (i_forward_tsn_value f) ≡ 4 + 8 * length f.streams
unfolding i_forward_tsn_value
length_i_forward_tsn_value f =
    let streams = length_flat_map entry_encoding 8 (λ s. simp (length-append, length_be16, length_be32)) f.streams in
    simp (length-append, length_be32) (omega (arith, streams))

pub length_init_value : (i : Init) → length (init_value i) ≡ 16 + length (params_encoding false i.params)
unfolding init_value
length_init_value i = simp (length-append, length_be16, length_be32) (omega arith)

pub init_has_length : (i : Init) (n : ℕ) → length (params_encoding false i.params) ≤ n → 4 + (16 + n) < 2 ^ 16 → 4 + length (init_value i) < 2 ^ 16
init_has_length i n le lt = omega (arith, length_init_value i)
