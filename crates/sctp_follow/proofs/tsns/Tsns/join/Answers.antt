use Rattle.std.proofs.Common.{◌≡◌, ℕ, ◌+◌, ◌==◌, Some, None, max, if◌then◌else◌, arith}
use Rattle.std.proofs.lemmas.Grind.{common_steps}
use Rattle.sctp_follow.specs.Tsns.{run_at}
use Rattle.sctp_follow.proofs.Reaching.{more_put, more_joined}
use Rattle.sctp_follow.proofs.tsns.Tsns.join.Goals as goal

pub returns-in_default-clause-ok : goal.returns-in_default-clause-ok
returns-in_default-clause-ok c =
    more_put (run_at c.args.self.now) (run_at c.put.new.self) c.args.first c.args.tsn c.requires.first c.requires.fresh c.requires.full c.requires.gap c.in_ok-put.ensures.ok

pub returns-clause-ok : goal.returns-clause-ok
returns-clause-ok c =
    let mid = run_at c.put-2.new.self in
    let new = run_at record { runs = c.remove-joined.new.self; count = c.put-2.new.self.count } in
    let puts : (q : ℕ) → mid q ≡ (if q == c.args.first then Some (max c.in-Some.end c.args.tsn) else run_at c.args.self.now q) = λ q. grind (arith, common_steps, c.in_ok-put-2.ensures.ok q, c.max.ensures) in
    let leaves : (q : ℕ) → new q ≡ (if q == c.args.tsn + 1 then None else mid q) = λ q. grind (arith, common_steps, c.remove-joined.ensures.updates.0 q) in
    more_joined (run_at c.args.self.now) mid new c.args.first c.args.tsn c.in-Some.end c.requires.first c.requires.fresh c.requires.full c.requires.gap c.in-Some.ensures.some puts leaves
