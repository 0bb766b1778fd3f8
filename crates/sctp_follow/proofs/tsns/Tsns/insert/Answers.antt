use Rattle.std.proofs.Common.{◌≡◌, ℕ, Option, true, ap, ◌∙◌, arith}
use Rattle.std.proofs.lemmas.Bool.{le-leb}
use Rattle.sctp_follow.specs.Tsns.{run_at, reaches}
use Rattle.sctp_follow.proofs.Reaching.{reach_from}
use Rattle.sctp_follow.proofs.tsns.Tsns.insert.Goals as goal

pub join-requires-clause-full : goal.join-requires-clause-full
join-requires-clause-full c q le lt =
    let e = c.in-Some.ensures in
    ap (λ (o : Option ℕ). reaches o q) (reach_from (run_at c.args.self.now) c.in-Some.first c.in-Some.last q e.some le (λ p more to. e.last p more (omega (arith, to, lt))))
    ∙ le-leb q c.in-Some.last (omega (arith, lt, c.if-last-tsn.true))
