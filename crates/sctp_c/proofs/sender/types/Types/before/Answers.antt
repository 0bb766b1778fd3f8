use Rattle.std.proofs.Common.{◌≡◌, rules, tests, nat_lt, true, false, List, subst, sym, ◌∙◌}
use Rattle.std.proofs.lemmas.List.Sorted.{IsPartitionPoint-from_clause, IsPartitionedBy-ltb}
use Rattle.std.specs.List.Sorted.{IsPartitionPoint}
use Rattle.sctp_c.specs.Types.{Up}
use Rattle.sctp_c.specs.declared.sender.types.Noted.{Noted}
use Rattle.sctp_c.proofs.Noted.{up-places}
use Rattle.sctp_c.proofs.sender.types.Types.before.Goals as goal

pub returns-clause-point : goal.returns-clause-point
returns-clause-point c =
    subst (λ (rs : List Noted). IsPartitionPoint (λ (r : Noted). nat_lt r.message c.args.message ≡ true) (λ (r : Noted). nat_lt r.message c.args.message ≡ false)
    rs c.partition_point.result) (c.deref.ensures.value ∙ c.self.view_is)
    (IsPartitionPoint-from_clause (λ (r : Noted). nat_lt r.message c.args.message) c.deref.result.now _ c.partition_point.ensures.partitioned
    (IsPartitionedBy-ltb (λ (r : Noted). r.message) c.deref.result.now c.args.message (up-places c.deref.result.now (subst Up (sym c.deref.ensures.value) c.self.invariant)))
    (λ a r f k. search (rules, tests)))
