use Rattle.std.proofs.Common.{◌≡◌, ◌+◌, ◌++◌, length, replicate, ap, ap₂, ◌∙◌, arith}
use Rattle.sctp_util.specs.Padding.{padding_of}
use Rattle.sctp_util.specs.Field.{be16, be32}
use Rattle.sctp_data.specs.PayloadData.{data_of}
use Rattle.sctp_c.specs.Out.{at_front}
use Rattle.sctp_c.proofs.DataOut.{head_of, joined, room}
use Rattle.sctp_c.proofs.data_out.put_data.Goals as goal

pub split_at_mut-head-requires : goal.split_at_mut-head-requires
split_at_mut-head-requires c =
    omega (arith, room (c.args.payload_type) (data_of c.args.chunk.now), c.requires.room)

pub put_behind-requires : goal.put_behind-requires
put_behind-requires c =
    let all = room (c.args.payload_type) (data_of c.args.chunk.now) in
    let zeros = c.get_padding_size-padding.ensures ∙ ap (λ k. padding_of (16 + k)) c.len.ensures.value in
    omega (arith, all, c.requires.room, zeros, ap length c.deref.ensures, c.split_at_mut-head.ensures.back_len)

pub returns : goal.returns
unfolding be16 be32
returns c =
    let d = data_of c.args.chunk.now in
    let n = c.args.payload_type in
    let head : c.put_head.new.place ≡ head_of n d = c.put_head.ensures in
    let zeros = c.get_padding_size-padding.ensures ∙ ap (λ k. padding_of (16 + k)) c.len.ensures.value in
    let rest = ap₂ (λ b n. b ++ replicate n 0) c.deref.ensures zeros in
    ap₂ (λ xs ys. xs ++ ys) head (c.put_behind.ensures ∙ ap₂ (λ xs ys. at_front xs ys) rest c.split_at_mut-head.ensures.back)
    ∙ joined n d c.args.out.now
