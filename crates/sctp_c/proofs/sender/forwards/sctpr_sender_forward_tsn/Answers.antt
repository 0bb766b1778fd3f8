use Rattle.std.proofs.Common.{rules, ◌+◌, ◌*◌, ◌≤◌, length, inl, ap, subst}
use Rattle.std.specs.Prelude.{IfSome}
use Rattle.sctp_data.specs.declared.chunk.chunk_forward_tsn.ChunkForwardTsn.{ChunkForwardTsn}
use Rattle.sctp_data.specs.ForwardTsn.{forward_tsn_of}
use Rattle.sctp_sender.specs.Sender.{Transmission}
use Rattle.sctp_c.specs.Forwards.{WritesForwardTsn}
use Rattle.sctp_c.specs.declared.sender.typed.TypedSender.{TypedSender}
use Rattle.sctp_c.proofs.Forwards.{forward-fits, forward-memory, written-front}
use Rattle.sctp_c.proofs.sender.forwards.sctpr_sender_forward_tsn.Goals as goal

pub put_bytes-requires : goal.put_bytes-requires
put_bytes-requires c =
    let fits : 8 + 4 * length c.in-Ok-Some.chunk.streams.items ≤ c.min-room.result =
    subst (λ o. IfSome o (λ (f : ChunkForwardTsn). 8 + 4 * length f.streams.items ≤ c.min-room.result)) c.in-Ok-Some.field-0-is c.in-Ok-Some.ensures.fits in
    forward-fits (forward_tsn_of c.in-Ok-Some.chunk) c.in-Ok.bytes c.deref.result.now c.min-room.result
    (length c.args.out.now) c.min-room.ensures fits c.in-Ok.ensures.ok.1 c.deref.ensures

pub returns-clause-reason : goal.returns-clause-reason
returns-clause-reason c _ =
    let fits : 8 + 4 * length c.in-Ok-Some.chunk.streams.items ≤ c.min-room.result =
    subst (λ o. IfSome o (λ (f : ChunkForwardTsn). 8 + 4 * length f.streams.items ≤ c.min-room.result)) c.in-Ok-Some.field-0-is c.in-Ok-Some.ensures.fits in
    inl (c.of_error.ensures.memory
    (forward-memory (forward_tsn_of c.in-Ok-Some.chunk) c.in-Err-marshal.e c.min-room.result
    (length c.args.out.now) c.min-room.ensures fits c.in-Err-marshal.ensures.refused))

pub returns-in-Ok-clause-ok : goal.returns-in-Ok-clause-ok
returns-in-Ok-clause-ok c _ =
    let e = c.in-Ok-Some.ensures in
    subst (λ (t : Transmission). WritesForwardTsn c.args.out.now c.put_bytes.new.out c.len.result t.flight) (ap (λ (h : TypedSender). h.own) c.get_mut.ensures.value)
    (written-front c.in-Ok-Some.field-0 c.in-Ok-Some.chunk c.get_mut.result.now.own.flight c.min-room.result c.len.result
    c.args.out.now c.put_bytes.new.out c.in-Ok.bytes c.deref.result.now
    c.in-Ok-Some.field-0-is c.min-room.ensures e.ended e.names e.furthest c.in-Ok.ensures.ok.1 c.deref.ensures c.put_bytes.ensures (search rules))
