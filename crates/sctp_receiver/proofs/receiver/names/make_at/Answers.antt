use Rattle.sctp_receiver.proofs.Names.{rules, ap, ◌∙◌, arith, ◌<◌, ◌^◌, length, length-set, holds_incomplete, ReassemblyState, InboundStream}
use Rattle.sctp_receiver.proofs.CostSums.{is-part, changed-fits, changed-sum}
use Rattle.sctp_receiver.specs.Spans.{holds_outside}
use Rattle.sctp_receiver.proofs.Listing.{renewed-less}
use Rattle.sctp_receiver.proofs.Spans.{noted-inside}
use Rattle.sctp_receiver.proofs.Settled.{noted-none}
use Rattle.sctp_receiver.proofs.receiver.names.make_at.Goals as goal

pub moved-requires-clause-part : goal.moved-requires-clause-part
moved-requires-clause-part c =
    let h = is-part c.args.streams.now.items c.args.place c.index_mut-stream.result.now c.requires.place c.index_mut-stream.ensures.value in
    omega (arith, h, c.requires.cost, c.cost_of-before.ensures)

pub moved-requires-clause-fits : goal.moved-requires-clause-fits
moved-requires-clause-fits c =
    let ls = c.args.streams.now.items in
    let few : length ls < 2 ^ 64 = search rules in
    let h = changed-fits ls c.args.place c.index_mut-stream.result.now c.requires.place c.index_mut-stream.ensures.value few
    (record c.index_mut-stream.result.now { queue = c.forward_tsn_for_ordered_noted_counted.new.self }) in
    omega (arith, h, c.requires.cost, c.cost_of-before.ensures, c.cost_of.ensures)

pub returns-clause-cost : goal.returns-clause-cost
returns-clause-cost c =
    let h = changed-sum c.args.streams.now.items c.args.place c.index_mut-stream.result.now c.requires.place c.index_mut-stream.ensures.value
    (record c.index_mut-stream.result.now { queue = c.forward_tsn_for_ordered_noted_counted.new.self }) in
    omega (arith, h, c.moved.ensures, c.requires.cost, c.cost_of-before.ensures, c.cost_of.ensures)

pub returns-clause-listing : goal.returns-clause-listing
returns-clause-listing c =
    let ls = c.args.streams.now.items in
    let y : InboundStream = record c.index_mut-stream.result.now { queue = c.forward_tsn_for_ordered_noted_counted.new.self } in
    renewed-less c.args.visits.now c.renew.new.visits ls c.args.place c.index_mut-stream.result.now y c.requires.place
    c.index_mut-stream.ensures.value c.requires.listing c.renew.ensures.places (length-set ls c.args.place y) c.renew.ensures.others c.renew.ensures.here
    (λ h. ap (λ (q : ReassemblyState). holds_incomplete q.held) c.forward_tsn_for_ordered_noted_counted.ensures.value
    ∙ noted-none c.args.noted c.index_mut-stream.result.now h)
    c.renew.ensures.spans
    (λ s h. ap (λ (q : ReassemblyState). holds_outside s q.held) c.forward_tsn_for_ordered_noted_counted.ensures.value
    ∙ noted-inside s c.args.noted c.index_mut-stream.result.now h)
