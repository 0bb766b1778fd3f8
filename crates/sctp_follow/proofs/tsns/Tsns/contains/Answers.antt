use Rattle.std.proofs.Common.{◌≡◌, ℕ, Option, sym, ap}
use Rattle.sctp_follow.specs.Tsns.{reaches, run_at}
use Rattle.sctp_follow.proofs.Reaching.{reach_from, reach_nothing}
use Rattle.sctp_follow.proofs.tsns.Tsns.contains.Goals as goal

pub returns-in-Some : goal.returns-in-Some
returns-in-Some c =
    let e = c.in-Some.ensures in
    sym (ap (λ (o : Option ℕ). reaches o c.args.tsn) (reach_from (run_at c.args.self.now) _ _ c.args.tsn e.some e.before e.last))

pub returns-in-None : goal.returns-in-None
returns-in-None c = sym (ap (λ (o : Option ℕ). reaches o c.args.tsn) (reach_nothing (run_at c.args.self.now) c.args.tsn c.in-None.ensures.none))
