use Rattle.sctp_link.proofs.Names.{◌<◌, ◌^◌, refl, ap, ◌∙◌, Filter, forward_tsn_of}
use Rattle.sctp_link.proofs.tsns.ReceiverTsns.{forward-filter, forward-limits}
use Rattle.sctp_link.proofs.link_receiver.LinkReceiver.forward_tsn_by_names.Goals as goal

pub invariant_of-self-2 : goal.invariant_of-self-2
invariant_of-self-2 c =
    let r = c.self.inside.receiver in
    let w = forward_tsn_of c.args.chunk.now in
    let s = c.skip_to.ensures in
    let small : r.cumulative_tsn < 2 ^ 32 = rw (← ap (λ (f : Filter). f.cumulative_tsn) c.self.invariant.tsns) s.cumulative_fits in
    let is = c.in_ok-forwarded.ensures.ok in
    let accepted = c.in_ok-forwarded.ensures.accepted refl in
    record {
      tsns = cc (s.value, c.self.invariant.tsns, forward-filter w r c.forward_tsn_by_names.new.receiver small s.tsn_fits accepted is);
      unlimited = forward-limits w r c.forward_tsn_by_names.new.receiver small s.tsn_fits accepted is ∙ c.self.invariant.unlimited;
    }
