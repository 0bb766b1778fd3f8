use Rattle.sctp_receiver.proofs.Names.{rules, ◌<◌, ◌^◌, ap, sym, ◌∙◌, length, length-set, arith, slice_set, InboundStream, number, stream_undone}
use Rattle.sctp_receiver.proofs.Names.{CanUndoAt, map-set_same, neither}
use Rattle.sctp_reassembly.proofs.lemmas.reassembly_queue.Undone.{changed-set}
use Rattle.sctp_receiver.proofs.Listing.{renewed-more}
use Rattle.sctp_receiver.proofs.CostSums.{is-part, changed-fits, changed-sum}
use Rattle.sctp_receiver.proofs.Undone.{undone-number, can-here, can-inside, span-undone}
use Rattle.sctp_receiver.specs.Spans.{sets_outside}
use Rattle.sctp_receiver.specs.Undo.{undone_at, IsSpanAt}
use Rattle.sctp_receiver.proofs.receiver.inbound_streams.InboundStreams.undo_push_at.Goals as goal

pub index_mut-inbound-requires : goal.index_mut-inbound-requires
index_mut-inbound-requires c =
    let can : CanUndoAt c.args.place c.args.undo c.self.inside.items.items = rw (← c.self.view_is) at c.requires.can in
    let lt = can-inside c.args.place c.args.undo c.self.inside.items.items can in search rules

pub moved-self-inside-requires-clause-part : goal.moved-self-inside-requires-clause-part
moved-self-inside-requires-clause-part c =
    let ls = c.self.inside.items.items in
    let can : CanUndoAt c.args.place c.args.undo ls = rw (← c.self.view_is) at c.requires.can in
    let lt = can-inside c.args.place c.args.undo ls can in
    let h = is-part ls c.args.place c.index_mut-inbound.result.now lt c.index_mut-inbound.ensures.value in
    omega (arith, h, c.self.invariant.cost, c.cost_of-before.ensures)

pub moved-self-inside-requires-clause-fits : goal.moved-self-inside-requires-clause-fits
moved-self-inside-requires-clause-fits c =
    let ls = c.self.inside.items.items in
    let can : CanUndoAt c.args.place c.args.undo ls = rw (← c.self.view_is) at c.requires.can in
    let lt = can-inside c.args.place c.args.undo ls can in
    let few : length ls < 2 ^ 64 = search rules in
    let h = changed-fits ls c.args.place c.index_mut-inbound.result.now lt c.index_mut-inbound.ensures.value few c.undo_push.new.self in
    omega (arith, h, c.self.invariant.cost, c.cost_of-before.ensures, c.cost_of.ensures)

pub invariant_of-self : goal.invariant_of-self
invariant_of-self c =
    let ls = c.self.inside.items.items in
    let can : CanUndoAt c.args.place c.args.undo ls = rw (← c.self.view_is) at c.requires.can in
    let lt = can-inside c.args.place c.args.undo ls can in
    let h = changed-sum ls c.args.place c.index_mut-inbound.result.now lt c.index_mut-inbound.ensures.value c.undo_push.new.self in
    record {
      numbers = c.self.invariant.numbers ∙ sym (map-set_same number ls c.args.place c.undo_push.new.self c.index_mut-inbound.result.now
          (ap number c.undo_push.ensures ∙ undone-number c.args.undo c.index_mut-inbound.result.now
          ∙ ap number c.index_mut-inbound.ensures.value));
      cost = omega (arith, h, c.moved-self-inside.ensures, c.self.invariant.cost, c.cost_of-before.ensures, c.cost_of.ensures);
      visits = renewed-more c.self.inside.visits c.renew_within.new.visits ls c.args.place
          c.index_mut-inbound.result.now c.undo_push.new.self lt c.index_mut-inbound.ensures.value c.self.invariant.visits c.renew_within.ensures.places
          (length-set ls c.args.place c.undo_push.new.self) c.renew_within.ensures.others c.renew_within.ensures.here
          c.renew_within.ensures.other_spans c.renew_within.ensures.span;
      places = c.self.invariant.places;
      none = c.self.invariant.none;
    }

pub returns : goal.returns
returns c =
    let ls = c.self.inside.items.items in
    let back = stream_undone c.args.undo in
    rw (← c.self.view_is) (ap (slice_set ls c.args.place) (c.undo_push.ensures ∙ ap back c.index_mut-inbound.ensures.value)
    ∙ sym (changed-set back c.args.place ls c.index_mut-inbound.result.now))

pub undo_push-requires : goal.undo_push-requires
undo_push-requires c =
    let can : CanUndoAt c.args.place c.args.undo c.self.inside.items.items = rw (← c.self.view_is) at c.requires.can in
    can-here c.args.place c.args.undo c.self.inside.items.items c.index_mut-inbound.result.now c.index_mut-inbound.ensures.value can

pub renew_within-requires-clause-place : goal.renew_within-requires-clause-place
renew_within-requires-clause-place c =
    let ls = c.self.inside.items.items in
    let can : CanUndoAt c.args.place c.args.undo ls = rw (← c.self.view_is) at c.requires.can in
    let lt = can-inside c.args.place c.args.undo ls can in
    omega (arith, lt, c.self.invariant.visits.listed.places)

pub renew_within-requires-clause-within : goal.renew_within-requires-clause-within
renew_within-requires-clause-within c =
    let ls = c.self.inside.items.items in
    let x = c.index_mut-inbound.result.now in
    let span : IsSpanAt c.args.place c.args.span (undone_at c.args.place c.args.undo ls) = rw (← c.self.view_is) at c.requires.span in
    let covers = span-undone c.args.place c.args.span c.args.undo ls x c.index_mut-inbound.ensures.value span in
    let sets = (neither _ _ covers).1 in
    ap (λ (l : InboundStream). sets_outside c.args.span l.queue.held.ordered) c.undo_push.ensures ∙ sets
