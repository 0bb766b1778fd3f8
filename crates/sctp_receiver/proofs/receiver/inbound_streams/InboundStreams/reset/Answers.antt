use Rattle.sctp_receiver.proofs.Names.{rules, ◌<◌, ◌^◌, sym, ap, length, length-set, arith, if◌then◌else◌, is_some, StreamUnknown, OutOfMemory, number}
use Rattle.sctp_receiver.proofs.Names.{absent-find, found, inside, numbers-stay}
use Rattle.sctp_receiver.proofs.Listing.{renewed-more}
use Rattle.sctp_receiver.proofs.Spans.{whole-sets}
use Rattle.sctp_receiver.proofs.CostSums.{is-part, changed-fits, changed-sum}
use Rattle.sctp_receiver.proofs.Resetting.{number-kept, refused, resets, wanted}
use Rattle.sctp_receiver.proofs.receiver.inbound_streams.InboundStreams.reset.Goals as goal

pub returns-in_default-clause-refused : goal.returns-in_default-clause-refused
returns-in_default-clause-refused c =
    rw (← c.self.view_is) (ap (λ o. if is_some o then OutOfMemory else StreamUnknown)
    (sym (absent-find number c.self.inside.items.items c.self.inside.numbers c.self.invariant.numbers c.args.stream c.in_default.ensures)))

pub moved-self-inside-requires-clause-part : goal.moved-self-inside-requires-clause-part
moved-self-inside-requires-clause-part c =
    let ls = c.self.inside.items.items in
    let lt = inside number ls c.self.inside.numbers c.self.invariant.numbers c.args.stream c.in-Some.place c.in-Some.ensures in
    let h = is-part ls c.in-Some.place c.index_mut-inbound.result.now lt c.index_mut-inbound.ensures.value in
    omega (arith, h, c.self.invariant.cost, c.cost_of-before.ensures)

pub moved-self-inside-requires-clause-fits : goal.moved-self-inside-requires-clause-fits
moved-self-inside-requires-clause-fits c =
    let ls = c.self.inside.items.items in
    let lt = inside number ls c.self.inside.numbers c.self.invariant.numbers c.args.stream c.in-Some.place c.in-Some.ensures in
    let few : length ls < 2 ^ 64 = search rules in
    let h = changed-fits ls c.in-Some.place c.index_mut-inbound.result.now lt c.index_mut-inbound.ensures.value few c.reset-answer.new.self in
    omega (arith, h, c.self.invariant.cost, c.cost_of-before.ensures, c.cost_of.ensures)

pub invariant_of-self : goal.invariant_of-self
invariant_of-self c =
    let ls = c.self.inside.items.items in
    let lt = inside number ls c.self.inside.numbers c.self.invariant.numbers c.args.stream c.in-Some.place c.in-Some.ensures in
    let h = changed-sum ls c.in-Some.place c.index_mut-inbound.result.now lt c.index_mut-inbound.ensures.value c.reset-answer.new.self in
    let same = number-kept c.args.last_tsn c.index_mut-inbound.result.now c.reset-answer.new.self c.reset-answer.result
    c.reset-answer.ensures.ok c.reset-answer.ensures.err in
    record {
      numbers = numbers-stay number ls c.self.inside.numbers c.self.invariant.numbers c.args.stream c.in-Some.place c.in-Some.ensures
          c.index_mut-inbound.result.now c.reset-answer.new.self c.index_mut-inbound.ensures.value same;
      cost = omega (arith, h, c.moved-self-inside.ensures, c.self.invariant.cost, c.cost_of-before.ensures, c.cost_of.ensures);
      visits = renewed-more c.self.inside.visits c.renew_within.new.visits ls c.in-Some.place
          c.index_mut-inbound.result.now c.reset-answer.new.self lt c.index_mut-inbound.ensures.value c.self.invariant.visits c.renew_within.ensures.places
          (length-set ls c.in-Some.place c.reset-answer.new.self) c.renew_within.ensures.others c.renew_within.ensures.here
          c.renew_within.ensures.other_spans c.renew_within.ensures.span;
      places = c.self.invariant.places;
      none = c.self.invariant.none;
    }

pub returns-clause-ok : goal.returns-clause-ok
returns-clause-ok c =
    rw (← c.self.view_is) (resets c.args.stream c.args.last_tsn c.self.inside.items.items c.self.inside.numbers c.self.invariant.numbers
    c.in-Some.place c.in-Some.ensures c.index_mut-inbound.result.now c.reset-answer.new.self c.index_mut-inbound.ensures.value
    c.reset-answer.result c.reset-answer.ensures.ok)

pub returns-clause-accepted : goal.returns-clause-accepted
returns-clause-accepted c = λ _.
    rw (← c.self.view_is) (ap is_some (found number c.self.inside.items.items c.self.inside.numbers c.self.invariant.numbers c.args.stream c.in-Some.place
    c.in-Some.ensures c.index_mut-inbound.result.now c.index_mut-inbound.ensures.value))

pub returns-clause-refused : goal.returns-clause-refused
returns-clause-refused c =
    rw (← c.self.view_is) (refused c.args.stream c.args.last_tsn c.self.inside.items.items c.self.inside.numbers c.self.invariant.numbers
    c.in-Some.place c.in-Some.ensures c.index_mut-inbound.result.now c.reset-answer.new.self c.index_mut-inbound.ensures.value
    c.reset-answer.result c.reset-answer.ensures.memory)

pub returns-clause-wants : goal.returns-clause-wants
returns-clause-wants c =
    rw (← c.self.view_is) (wanted c.args.stream c.args.last_tsn c.self.inside.items.items c.self.inside.numbers c.self.invariant.numbers
    c.in-Some.place c.in-Some.ensures c.index_mut-inbound.result.now c.reset-answer.new.self c.index_mut-inbound.ensures.value
    c.reset-answer.result c.reset-answer.ensures.wants)

pub renew_within-requires-clause-place : goal.renew_within-requires-clause-place
renew_within-requires-clause-place c =
    let lt = inside number c.self.inside.items.items c.self.inside.numbers c.self.invariant.numbers c.args.stream c.in-Some.place c.in-Some.ensures in
    omega (arith, lt, c.self.invariant.visits.listed.places)

pub renew_within-requires-clause-within : goal.renew_within-requires-clause-within
renew_within-requires-clause-within c = whole-sets c.whole.result c.whole.ensures.outside c.reset-answer.new.self.queue.held.ordered
