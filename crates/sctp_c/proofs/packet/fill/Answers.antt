use Rattle.std.proofs.Common.{◌≡◌, length, add-one, arith}
use Rattle.sctp_c.specs.Head.{chunk_at, chunks_from}
use Rattle.sctp_c.proofs.Places.{lie-next, later-rows, length-rows_from}
use Rattle.sctp_c.proofs.Rows.{drop-tail, filled-step, filled-done}
use Rattle.sctp_c.proofs.packet.fill.Goals as goal

pub chunk_at-chunk-requires : goal.chunk_at-chunk-requires
chunk_at-chunk-requires c =
    let next = lie-next c.args.packet.now c.loop-i.at c.loop-i.i c.args.count (omega (arith, c.min-filled.ensures)) c.loop-i.invariant.lie in
    next.headed

pub overflow_add-at : goal.overflow_add-at
overflow_add-at c =
    let next = lie-next c.args.packet.now c.loop-i.at c.loop-i.i c.args.count (omega (arith, c.min-filled.ensures)) c.loop-i.invariant.lie in
    rw (c.get_padding_size.ensures, c.chunk_at-chunk.ensures) (omega (arith, next.whole))

pub overflow_add-at-in-loop-i : goal.overflow_add-at-in-loop-i
overflow_add-at-in-loop-i c =
    let next = lie-next c.args.packet.now c.loop-i.at c.loop-i.i c.args.count (omega (arith, c.min-filled.ensures)) c.loop-i.invariant.lie in
    rw (c.get_padding_size.ensures, c.chunk_at-chunk.ensures) (omega (arith, next.whole))

pub loop-i-preserved : goal.loop-i-preserved
loop-i-preserved c =
    let packet = c.args.packet.now in
    let next = lie-next packet c.loop-i.at c.loop-i.i c.args.count (omega (arith, c.min-filled.ensures)) c.loop-i.invariant.lie in
    let all = chunks_from packet 12 c.args.count in
    let later = later-rows chunk_at packet c.loop-i.at c.loop-i.i c.args.count all (omega (arith, c.min-filled.ensures)) c.loop-i.invariant.places in
    rw (c.get_padding_size.ensures, c.chunk_at-chunk.ensures) (record {
      lie = rw add-one next.later;
      rows = rw (c.loop-i.invariant.rows, add-one) (filled-step c.loop-i.i all c.args.rows.now _ _ later (omega (arith, c.min-filled.ensures)));
      places = rw add-one (drop-tail c.loop-i.i all _ _ later);
    })

pub returns : goal.returns
returns c =
    let all = chunks_from c.args.packet.now 12 c.args.count in
    let many : length all ≡ c.args.count = length-rows_from chunk_at c.args.count c.args.packet.now 12 in
    rw c.loop-i.invariant.rows (filled-done c.loop-i.i all c.args.rows.now (omega (arith, many, c.min-filled.ensures)))
