use Rattle.std.proofs.Common.{◌≡◌, ℕ, arith}
use Rattle.std.proofs.lemmas.Grind.{common_steps}
use Rattle.sctp_follow.proofs.tsns.Tsns.run_before.Goals as goal

pub returns-clause-last : goal.returns-clause-last
returns-clause-last c q lt le = let h = (c.range.ensures.in_range tt).4 _ _ c.in_ok-first.ensures.steps q in grind (arith, common_steps, h, lt, le)
