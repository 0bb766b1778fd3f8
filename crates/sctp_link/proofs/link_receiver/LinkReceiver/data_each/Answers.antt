use Rattle.sctp_link.proofs.Names.{ap, sym, ◌∙◌, Reception}
use Rattle.sctp_receiver.specs.Receiver.{filter_of}
use Rattle.sctp_link.specs.Tsns.{with_arrivals}
use Rattle.sctp_link.proofs.tsns.ReceiverTsns.{came-each}
use Rattle.sctp_link.proofs.link_receiver.LinkReceiver.data_each.Goals as goal

pub invariant_of-self : goal.invariant_of-self
invariant_of-self c = record {
  tsns = c.in_default.ensures.err ∙ c.self.invariant.tsns;
  unlimited = c.self.invariant.unlimited;
}

pub invariant_of-self-in-Ok-data_each_with_any_ssn : goal.invariant_of-self-in-Ok-data_each_with_any_ssn
invariant_of-self-in-Ok-data_each_with_any_ssn c =
    let r = c.self.inside.receiver in
    let e = came-each c.args.chunks.now c.in-Ok-data_each_with_any_ssn.arrivals.items r c.data_each_with_any_ssn.new.receiver c.self.invariant.unlimited
    c.in-Ok-data_each_with_any_ssn.ensures.ok in
    record {
      tsns = c.in-Ok.ensures.ok ∙ ap (with_arrivals c.args.chunks.now) c.self.invariant.tsns ∙ sym e.0;
      unlimited = e.1;
    }

pub take_back_each-requires : goal.take_back_each-requires
take_back_each-requires c = c.in-Ok.ensures.can

pub invariant_of-self-in-Err : goal.invariant_of-self-in-Err
invariant_of-self-in-Err c = record {
  tsns = c.take_back_each.ensures ∙ c.in-Ok.ensures.undo ∙ c.self.invariant.tsns ∙ sym (ap filter_of c.in-Err.ensures.err);
  unlimited = ap (λ (r : Reception). r.limits) c.in-Err.ensures.err ∙ c.self.invariant.unlimited;
}
