use Rattle.sctp_receiver.proofs.Names.{◌≡◌, length, ap, ◌∙◌, rules, ◌==◌, not, deque_len}
use Rattle.sctp_receiver.proofs.FilterCalls.{same-empty}
use Rattle.sctp_receiver.proofs.receiver.tsn_filter.TsnFilter.has_gaps.Goals as goal

pub returns : goal.returns
returns c =
    let long : deque_len c.self.inside.runs ≡ length c.self.inside.runs.items = search rules in
    rw (← c.self.view_is) (ap not (c.is_empty.ensures ∙ ap (λ n. n == 0) long ∙ same-empty c.self.inside.runs.items))
