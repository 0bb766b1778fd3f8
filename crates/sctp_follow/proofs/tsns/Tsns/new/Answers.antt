use Rattle.std.proofs.Common.{◌≡◌, ℕ, Option, None, false, ap, arith, rules}
use Rattle.sctp_follow.specs.Tsns.{reaches, run_at}
use Rattle.sctp_follow.proofs.Reaching.{reach_nothing}
use Rattle.sctp_follow.proofs.tsns.Tsns.new.Goals as goal

pub returns-clause-empty : goal.returns-clause-empty
returns-clause-empty c tsn = ap (λ (o : Option ℕ). reaches o tsn) (reach_nothing (run_at record { runs = c.new.result; count = 0 }) tsn (λ q le. search rules))
