use Rattle.sctp_link.proofs.Names.{◌≤◌, ◌<◌, length, refl, rules}
use Rattle.sctp_link.proofs.acknowledgement.Rebased.{none-nearer, one-nearer, all-begin, all-covers}
use Rattle.sctp_link.proofs.link.sack_in.rebase.Goals as goal

pub loop-place-init : goal.loop-place-init
loop-place-init c = record { blocks = none-nearer c.args.behind c.args.sack.now.gap_ack_blocks.items; cumulative = refl }

pub loop-place-preserved : goal.loop-place-preserved
loop-place-preserved c =
    let lt : c.loop-place.place < length c.args.sack.now.gap_ack_blocks.items = search rules in
    record {
      blocks = one-nearer c.args.behind c.loop-place.place c.args.sack.now.gap_ack_blocks.items c.loop-place.sack.gap_ack_blocks.items c.index.result.now
          c.nearer.result lt c.index.ensures c.nearer.ensures c.loop-place.invariant.blocks;
      cumulative = c.loop-place.invariant.cumulative;
    }

pub returns-clause-covers : goal.returns-clause-covers
returns-clause-covers c =
    let all : length c.args.sack.now.gap_ack_blocks.items ≤ c.loop-place.place = search rules in
    all-covers c.args.behind c.loop-place.place c.args.sack.now.gap_ack_blocks.items c.loop-place.sack.gap_ack_blocks.items all c.loop-place.invariant.blocks

pub returns-clause-begin : goal.returns-clause-begin
returns-clause-begin c =
    let all : length c.args.sack.now.gap_ack_blocks.items ≤ c.loop-place.place = search rules in
    all-begin c.args.behind c.loop-place.place c.args.sack.now.gap_ack_blocks.items c.loop-place.sack.gap_ack_blocks.items all c.loop-place.invariant.blocks
