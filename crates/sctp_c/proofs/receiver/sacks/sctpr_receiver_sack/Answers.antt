use Rattle.std.proofs.Common.{rules, length}
use Rattle.sctp_data.specs.SelectiveAck.{Sack, sack_of}
use Rattle.sctp_c.proofs.Sacks.{fits-out, not-refused}
use Rattle.sctp_c.proofs.receiver.sacks.sctpr_receiver_sack.Goals as goal

pub put_bytes-requires : goal.put_bytes-requires
put_bytes-requires c =
    let s : Sack = sack_of c.in-Ok-sack.sack in
    fits-out s c.in-Ok.bytes.items c.marshal_to.new.buf.items c.deref.result.now c.min-room.result (length c.args.out.now)
    c.in-Ok-sack.ensures.fits (search rules) (search rules) c.in-Ok.ensures.items c.in-Ok-marshal_to.ensures.ok.1 c.deref.ensures

pub unreachable-requires : goal.unreachable-requires
unreachable-requires c =
    let s : Sack = sack_of c.in-Ok-sack.sack in
    not-refused s c.in-Err.field-0 c.in-Ok.bytes.spare c.min-room.result
    c.in-Ok-sack.ensures.fits (search rules) (search rules) (search rules) c.in-Err.ensures.refused
