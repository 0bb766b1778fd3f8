use Rattle.sctp_follow.proofs.Halving.{Reaching}
use Rattle.sctp_follow.proofs.blocks.reaching.Given as goal

abbrev pub invariant-loop-block : goal.invariant-loop-block
invariant-loop-block l = Reaching l.reaching.items l.blocks l.block-index l.end
