use Rattle.sctp_link.proofs.Names.{ap, sym, ◌∙◌, Reception, Filter, []}
use Rattle.sctp_receiver.specs.Receiver.{filter_of}
use Rattle.sctp_link.proofs.link_receiver.LinkReceiver.sack_sent.Goals as goal

pub invariant_of-self : goal.invariant_of-self
invariant_of-self c = record {
  tsns = c.forget_duplicates.ensures ∙ ap (λ (f : Filter). let g : Filter = record f { duplicates = [] } in g) c.self.invariant.tsns
      ∙ sym (ap filter_of c.sack_sent.ensures);
  unlimited = ap (λ (r : Reception). r.limits) c.sack_sent.ensures ∙ c.self.invariant.unlimited;
}
