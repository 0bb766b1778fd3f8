use Rattle.sctp_link.proofs.Names.{◌≡◌, rules, None, refusal_of}
use Rattle.sctp_model.proofs.refinement.Wants.{may-want}
use Rattle.sctp_link.proofs.link.Link.step.Goals as goal

pub returns-in-Err-clause-answers : goal.returns-in-Err-clause-answers
returns-in-Err-clause-answers g c =
    let ok : refusal_of c.args.self.now.recorded c.args.event ≡ None = search rules in
    record { because = may-want c.args.self.now.recorded c.args.event ok c.in-Err.ensures.wants; same = c.in-Err.ensures.err }
