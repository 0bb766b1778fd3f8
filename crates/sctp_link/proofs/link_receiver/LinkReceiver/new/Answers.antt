use Rattle.sctp_link.proofs.Names.{ap, sym, ◌∙◌, Reception}
use Rattle.sctp_receiver.specs.Receiver.{filter_of}
use Rattle.sctp_link.proofs.link_receiver.LinkReceiver.new.Goals as goal

pub invariant_of-result : goal.invariant_of-result
invariant_of-result c = record {
  tsns = c.new-2.ensures ∙ sym (ap filter_of c.new.ensures);
  unlimited = ap (λ (r : Reception). r.limits) c.new.ensures;
}
