use Rattle.std.proofs.Common.{rules}
use Rattle.sctp_association.proofs.Requesting.{begun_by, few_after}
use Rattle.sctp_association.proofs.asking.Asking.begin.Goals as goal
use Rattle.sctp_sender.specs.Settings.{is_drained}

pub invariant_of-self : goal.invariant_of-self
invariant_of-self c = few_after c.begin.result (λ s. is_drained s c.args.sender.now) _ c.args.now c.self.inside.requests c.begin.new.self
    (c.begin.ensures.ok (λ s. is_drained s c.args.sender.now) (λ s b within post. search rules)) c.begin.ensures.err c.self.invariant

pub returns-clause-ok : goal.returns-clause-ok
returns-clause-ok c = begun_by c.begin.result c.args.now c.args.sender.now c.next_tsn-last_tsn.result c.self.inside.requests c.args.self.now c.begin.new.self
    c.next_tsn-last_tsn.ensures c.self.view_is (c.begin.ensures.ok (λ s. is_drained s c.args.sender.now) (λ s b within post. search rules))
