use Rattle.std.proofs.Common.{arith}
use Rattle.sctp_sender.proofs.Offsets.{after-at}
use Rattle.sctp_sender.proofs.sender.flight.reports.ends_of.Goals as goal

pub note_block-requires : goal.note_block-requires
note_block-requires c =
    let h = after-at c.args.blocks.now c.loop-block.block-index (record { start = 0; end = 0 }) c.loop-block-test.true in
    omega (arith, h, c.loop-block.invariant.count)
