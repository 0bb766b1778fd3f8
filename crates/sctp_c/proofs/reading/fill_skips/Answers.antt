use Rattle.std.proofs.Common.{◌≡◌, length, add-one, arith}
use Rattle.std.specs.Prelude.{map}
use Rattle.sctp_util.proofs.Getting.{length-mapped}
use Rattle.sctp_data.specs.declared.chunk.chunk_forward_tsn.ChunkForwardTsnStream.{ChunkForwardTsnStream}
use Rattle.sctp_c.specs.Answered.{skip_answered}
use Rattle.sctp_c.proofs.Rows.{drop-map, filled-step, filled-done}
use Rattle.sctp_c.proofs.reading.fill_skips.Goals as goal

pub loop-i-preserved : goal.loop-i-preserved
loop-i-preserved c =
    let none : ChunkForwardTsnStream = record { identifier = 0; sequence = 0 } in
    let here = drop-map skip_answered c.loop-i.i c.args.streams.now none (omega (arith, c.min-count.ensures)) in
    rw (c.loop-i.invariant, add-one)
    (filled-step c.loop-i.i (map skip_answered c.args.streams.now) c.args.rows.now _ _ here (omega (arith, c.min-count.ensures)))

pub returns : goal.returns
returns c =
    let many : length (map skip_answered c.args.streams.now) ≡ length c.args.streams.now = length-mapped skip_answered c.args.streams.now in
    rw c.loop-i.invariant (filled-done c.loop-i.i (map skip_answered c.args.streams.now) c.args.rows.now (omega (arith, many, c.min-count.ensures)))
