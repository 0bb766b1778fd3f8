use Rattle.sctp_receiver.proofs.Names.{ap, sym, ◌∙◌}
use Rattle.sctp_receiver.specs.Spans.{sets_outside}
use Rattle.sctp_receiver.proofs.Spans.{wider-sets, both-inside}
use Rattle.sctp_receiver.proofs.receiver.visit.span_after.Goals as goal

pub returns-in-Unassembled-clause-covers : goal.returns-in-Unassembled-clause-covers
returns-in-Unassembled-clause-covers c =
    let q = c.args.queue.now.held in
    let front = c.with_front in
    both-inside front.result q front.ensures.front
    (wider-sets c.args.before front.result front.ensures.wider front.ensures.all q.ordered c.requires)

pub returns-in-Some-clause-covers : goal.returns-in-Some-clause-covers
returns-in-Some-clause-covers c =
    let q = c.args.queue.now.held in
    let front = c.with_front-in-Some in
    let s = c.in-Some.span in
    both-inside front.result q front.ensures.front (wider-sets s front.result front.ensures.wider front.ensures.all q.ordered
    (ap (sets_outside s) (sym c.ordered.ensures) ∙ c.in-Some.ensures.some))
