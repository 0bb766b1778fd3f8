use Rattle.std.proofs.Common.{ℕ, take}
use Rattle.std.specs.BTreeMap as trees
use Rattle.std.specs.Ordering.{nat_cmp}
use Rattle.sctp_follow.specs.Strip.{IsColumnOf, values_in}
use Rattle.sctp_follow.proofs.strip.columns_of.Given as goal

abbrev pub invariant-loop-level : goal.invariant-loop-level
invariant-loop-level l =
    (column : ℕ) → IsColumnOf (values_in l.frame column (take l.level-index l.levels)) (trees.get nat_cmp l.columns column)
