use Rattle.sctp_receiver.proofs.Names.{ap, sym, ◌∙◌, arith, named_forwarded, each_made}
use Rattle.sctp_receiver.proofs.receiver.inbound_streams.InboundStreams.forward_named_counted.Goals as goal

pub invariant_of-self : goal.invariant_of-self
invariant_of-self c =
    let made = c.make_each-self-inside.ensures in
    record {
      numbers = made.numbers;
      cost = made.cost;
      visits = made.listing;
      places = omega (arith, c.self.invariant.places, c.note_each.ensures.places, made.places);
      none = made.none;
    }

pub returns-clause-value : goal.returns-clause-value
returns-clause-value c =
    let lent = c.deref.ensures.value in
    rw (← c.self.view_is) (c.make_each-self-inside.ensures.value ∙ ap (each_made c.note_each.new.noted.items) (sym lent) ∙ c.note_each.ensures.value
    ∙ ap (named_forwarded c.args.names.now) lent)
