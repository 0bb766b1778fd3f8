use Rattle.sctp_receiver.proofs.Names.{◌≡◌, ◌<◌, ◌-◌, length, sym, ap, ◌∙◌, get_or, arith, rules, deque_len}
use Rattle.sctp_receiver.proofs.Retracts.{highest-is}
use Rattle.sctp_receiver.proofs.TsnRuns.{read-run}
use Rattle.sctp_receiver.proofs.receiver.tsn_filter.TsnFilter.highest_tsn.Goals as goal

pub returns-in-Some : goal.returns-in-Some
returns-in-Some c =
    let rs = c.self.inside.runs.items in
    let r = c.in-Some.run'.now in
    let long : deque_len c.self.inside.runs ≡ length rs = search rules in
    let some : 0 < deque_len c.self.inside.runs = search rules in
    let at : r ≡ get_or rs (length rs - 1) r = c.in-Some.ensures.lookup ∙ ap (λ n. get_or rs (n - 1) r) long in
    rw (← c.self.view_is) (sym (highest-is c.self.inside.cumulative_tsn 0 rs r c.self.invariant.in_range c.self.invariant.runs
    (read-run rs (length rs - 1) r (omega (arith, long, some)) at)))
