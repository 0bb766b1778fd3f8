use Rattle.sctp_receiver.proofs.Names.{rules, ◌<◌, ◌^◌, sym, ap, ◌∙◌, refl, length, length-set, arith, is_some, option_map, number, stream_read, message_of}
use Rattle.sctp_receiver.proofs.Names.{holds_incomplete, absent-find, inside, found, changed, numbers-stay}
use Rattle.sctp_reassembly.specs.reassembly_queue.ReassemblyQueue.{at_start}
use Rattle.sctp_receiver.proofs.Settled.{read-none}
use Rattle.sctp_receiver.proofs.Listing.{outside, renewed-less}
use Rattle.sctp_receiver.proofs.Spans.{read-inside}
use Rattle.sctp_receiver.proofs.CostSums.{is-part, changed-fits, changed-sum}
use Rattle.sctp_receiver.proofs.receiver.inbound_streams.InboundStreams.take.Goals as goal

pub returns-in_default-clause-refused : goal.returns-in_default-clause-refused
returns-in_default-clause-refused c = (
  refl,
  rw (← c.self.view_is)
      (ap is_some (absent-find number c.self.inside.items.items c.self.inside.numbers c.self.invariant.numbers c.args.stream c.in_default.ensures)),
)

pub moved-self-inside-requires-clause-part : goal.moved-self-inside-requires-clause-part
moved-self-inside-requires-clause-part c =
    let ls = c.self.inside.items.items in
    let lt = inside number ls c.self.inside.numbers c.self.invariant.numbers c.args.stream c.in-Some.place c.in-Some.ensures in
    let h = is-part ls c.in-Some.place c.index_mut-inbound.result.now lt c.index_mut-inbound.ensures.value in
    omega (arith, h, c.self.invariant.cost, c.cost_of-before.ensures)

pub moved-self-inside-requires-clause-fits : goal.moved-self-inside-requires-clause-fits
moved-self-inside-requires-clause-fits c =
    let ls = c.self.inside.items.items in
    let lt = inside number ls c.self.inside.numbers c.self.invariant.numbers c.args.stream c.in-Some.place c.in-Some.ensures in
    let few : length ls < 2 ^ 64 = search rules in
    let h = changed-fits ls c.in-Some.place c.index_mut-inbound.result.now lt c.index_mut-inbound.ensures.value few c.read-message.new.self in
    omega (arith, h, c.self.invariant.cost, c.cost_of-before.ensures, c.cost_of.ensures)

pub invariant_of-self : goal.invariant_of-self
invariant_of-self c =
    let ls = c.self.inside.items.items in
    let lt = inside number ls c.self.inside.numbers c.self.invariant.numbers c.args.stream c.in-Some.place c.in-Some.ensures in
    let h = changed-sum ls c.in-Some.place c.index_mut-inbound.result.now lt c.index_mut-inbound.ensures.value c.read-message.new.self in
    record {
      numbers = numbers-stay number ls c.self.inside.numbers c.self.invariant.numbers c.args.stream c.in-Some.place c.in-Some.ensures
          c.index_mut-inbound.result.now c.read-message.new.self c.index_mut-inbound.ensures.value (ap number c.read-message.ensures.rest);
      cost = omega (arith, h, c.moved-self-inside.ensures, c.self.invariant.cost, c.cost_of-before.ensures, c.cost_of.ensures);
      visits = renewed-less c.self.inside.visits c.renew.new.visits ls c.in-Some.place
          c.index_mut-inbound.result.now c.read-message.new.self lt c.index_mut-inbound.ensures.value c.self.invariant.visits c.renew.ensures.places
          (length-set ls c.in-Some.place c.read-message.new.self) c.renew.ensures.others c.renew.ensures.here
          (λ h. ap (λ l. holds_incomplete l.queue.held) c.read-message.ensures.rest ∙ read-none c.index_mut-inbound.result.now h)
          c.renew.ensures.spans
          (λ s h. ap (outside s) c.read-message.ensures.rest ∙ read-inside s c.index_mut-inbound.result.now h);
      places = c.self.invariant.places;
      none = c.self.invariant.none;
    }

pub returns-clause-message : goal.returns-clause-message
returns-clause-message c =
    rw (← c.self.view_is) (c.read-message.ensures.message ∙ ap (λ o. option_map at_start (message_of o))
    (sym (found number c.self.inside.items.items c.self.inside.numbers c.self.invariant.numbers c.args.stream c.in-Some.place c.in-Some.ensures
    c.index_mut-inbound.result.now c.index_mut-inbound.ensures.value)))

pub returns-clause-ok : goal.returns-clause-ok
returns-clause-ok c =
    rw (← c.self.view_is) (changed number c.self.inside.items.items c.self.inside.numbers c.self.invariant.numbers c.args.stream c.in-Some.place
    c.in-Some.ensures stream_read c.index_mut-inbound.result.now c.read-message.new.self c.index_mut-inbound.ensures.value c.read-message.ensures.rest)

pub returns-clause-accepted : goal.returns-clause-accepted
returns-clause-accepted c = λ _.
    rw (← c.self.view_is) (ap is_some (found number c.self.inside.items.items c.self.inside.numbers c.self.invariant.numbers c.args.stream c.in-Some.place
    c.in-Some.ensures c.index_mut-inbound.result.now c.index_mut-inbound.ensures.value))

pub renew-requires : goal.renew-requires
renew-requires c =
    let lt = inside number c.self.inside.items.items c.self.inside.numbers c.self.invariant.numbers c.args.stream c.in-Some.place c.in-Some.ensures in
    omega (arith, lt, c.self.invariant.visits.listed.places)
