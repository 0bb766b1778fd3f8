use Rattle.std.proofs.Common.{◌≡◌, ◌+◌, ◌*◌, ◌∙◌, List, length, add-one, arith}
use Rattle.std.specs.Prelude.{map}
use Rattle.sctp_util.proofs.Getting.{length-mapped}
use Rattle.sctp_util.proofs.EachAt.{length_each}
use Rattle.sctp_util.specs.Each.{each}
use Rattle.sctp_data.specs.SelectiveAck.{block_at}
use Rattle.sctp_data.specs.declared.chunk.chunk_selective_ack.GapAckBlock.{GapAckBlock}
use Rattle.sctp_c.specs.Answered.{gap_answered}
use Rattle.sctp_c.proofs.Rows.{drop-each, map-next, filled-step, filled-done}
use Rattle.sctp_c.proofs.reading.fill_gaps.Goals as goal

pub loop-i-preserved : goal.loop-i-preserved
loop-i-preserved c =
    let all : List GapAckBlock = each c.args.count (λ i. block_at c.args.value.now (12 + 4 * i)) in
    let next = drop-each c.loop-i.i c.args.count (λ i. block_at c.args.value.now (12 + 4 * i)) (omega (arith, c.min-filled.ensures)) in
    let here = map-next gap_answered c.loop-i.i all _ _ next in
    rw (c.read_u16.ensures, c.read_u16-in-loop-i.ensures, c.loop-i.invariant, add-one)
    (filled-step c.loop-i.i (map gap_answered all) c.args.rows.now _ _ here (omega (arith, c.min-filled.ensures)))

pub returns : goal.returns
returns c =
    let all : List GapAckBlock = each c.args.count (λ i. block_at c.args.value.now (12 + 4 * i)) in
    let many : length (map gap_answered all) ≡ c.args.count =
    length-mapped gap_answered all ∙ length_each c.args.count (λ i. block_at c.args.value.now (12 + 4 * i)) in
    rw c.loop-i.invariant (filled-done c.loop-i.i (map gap_answered all) c.args.rows.now (omega (arith, many, c.min-filled.ensures)))
