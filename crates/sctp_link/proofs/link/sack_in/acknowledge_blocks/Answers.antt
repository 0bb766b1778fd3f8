use Rattle.sctp_link.proofs.Names.{◌+◌, ◌-◌, ◌∙◌, ap, arith, take, slice_index_or, take_all, and_run, and_blocks, in_block, list_any_at}
use Rattle.sctp_link.proofs.acknowledgement.AckLoops.{marking-same, block-last, block-more}
use Rattle.sctp_link.proofs.link.sack_in.acknowledge_blocks.Goals as goal

pub acknowledge_run-requires : goal.acknowledge_run-requires
acknowledge_run-requires c = λ some.
    let last = c.requires.within (c.args.cumulative + (slice_index_or c.args.blocks.now c.loop-block.block-index (record { start = 0; end = 0 })).end - 1)
    (list_any_at (in_block c.args.cumulative _) c.args.blocks.now c.loop-block.block-index (record { start = 0; end = 0 }) c.loop-block-test.true
    (block-last c.args.cumulative (slice_index_or c.args.blocks.now c.loop-block.block-index (record { start = 0; end = 0 })) _
    (omega (arith, some, c.saturating_sub-from.ensures)) (omega (arith, some)))) in
    omega (arith, last, c.loop-block.invariant.count, some)

pub loop-block-preserved : goal.loop-block-preserved
loop-block-preserved c = record {
  acked = λ w acked i. marking-same (and_blocks acked c.args.cumulative (take (c.loop-block.block-index + 1) c.args.blocks.now))
      (λ j. ap (λ f. and_run (and_blocks acked c.args.cumulative (take c.loop-block.block-index c.args.blocks.now)) f
      (c.args.cumulative + (slice_index_or c.args.blocks.now c.loop-block.block-index (record { start = 0; end = 0 })).end) j) c.saturating_sub-from.ensures
      ∙ block-more acked c.args.cumulative c.args.blocks.now c.loop-block.block-index (record { start = 0; end = 0 }) c.loop-block-test.true j)
      (c.acknowledge_run.ensures w (and_blocks acked c.args.cumulative (take c.loop-block.block-index c.args.blocks.now))
      (c.loop-block.invariant.acked w acked i));
  count = c.acknowledge_run.auto.slots ∙ c.loop-block.invariant.count;
}

pub returns : goal.returns
returns c = λ w acked i. marking-same (and_blocks acked c.args.cumulative c.args.blocks.now)
    (λ j. ap (λ bs. and_blocks acked c.args.cumulative bs j) (take_all c.loop-block.block-index c.args.blocks.now c.loop-block-test.false))
    (c.loop-block.invariant.acked w acked i)
