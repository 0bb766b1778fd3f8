use Rattle.sctp_receiver.proofs.Names.{rules, length, ◌≡◌, ap, ◌∙◌, sym, subst, arith, slice_index_or, sum_by, cost_within, IsListing, number, numbers_of}
use Rattle.sctp_receiver.proofs.Names.{inside}
use Rattle.std.specs.List.{swap_remove}
use Rattle.sctp_util.proofs.Getting.{length-mapped}
use Rattle.sctp_receiver.proofs.CostSums.{is-part, removed-sum}
use Rattle.sctp_receiver.proofs.Listing.{one-closed}
use Rattle.sctp_stream.proofs.Removals.{out-length}
use Rattle.sctp_stream.proofs.StreamPlaces.{absent-out, without, numbers-without}
use Rattle.sctp_receiver.proofs.receiver.inbound_streams.InboundStreams.close.Goals as goal

pub returns-in_default : goal.returns-in_default
returns-in_default c =
    rw (← c.self.view_is) (absent-out number c.self.inside.items.items c.self.inside.numbers c.self.invariant.numbers c.args.stream c.in_default.ensures)

pub swap_remove-closed-requires : goal.swap_remove-closed-requires
swap_remove-closed-requires c = let lt =
    inside number c.self.inside.items.items c.self.inside.numbers c.self.invariant.numbers c.args.stream c.in-Some.place c.in-Some.ensures in search rules

pub overflow_sub-self : goal.overflow_sub-self
overflow_sub-self c =
    let ls = c.self.inside.items.items in
    let x = c.swap_remove-closed.result in
    let lt = inside number ls c.self.inside.numbers c.self.invariant.numbers c.args.stream c.in-Some.place c.in-Some.ensures in
    let at : x ≡ slice_index_or ls c.in-Some.place x = search rules in
    let h = is-part ls c.in-Some.place x lt at in
    omega (arith, h, c.self.invariant.cost, c.cost_of.ensures)

pub swap_remove-requires : goal.swap_remove-requires
swap_remove-requires c = let lt =
    inside number c.self.inside.items.items c.self.inside.numbers c.self.invariant.numbers c.args.stream c.in-Some.place c.in-Some.ensures in
    omega (arith, lt, c.self.invariant.visits.listed.places)

pub invariant_of-self : goal.invariant_of-self
invariant_of-self c =
    let ls = c.self.inside.items.items in
    let k = c.in-Some.place in
    let x = c.swap_remove-closed.result in
    let lt = inside number ls c.self.inside.numbers c.self.invariant.numbers c.args.stream k c.in-Some.ensures in
    let at : x ≡ slice_index_or ls k x = search rules in
    let h = removed-sum ls k x lt at in
    let is = c.swap_remove-closed.ensures.items in
    let numbers = c.remove.ensures ∙ numbers-without number ls c.self.inside.numbers c.self.invariant.numbers c.args.stream k c.in-Some.ensures x in
    record {
      numbers = numbers ∙ ap numbers_of (sym is);
      cost = omega (arith, h, ap (sum_by cost_within) is, c.self.invariant.cost, c.cost_of.ensures);
      visits = subst (IsListing c.swap_remove.new.self) (sym is)
          (one-closed c.self.inside.visits c.swap_remove.new.self ls k x lt c.self.invariant.visits c.swap_remove.ensures.places c.swap_remove.ensures.visited
          c.swap_remove.ensures.spans);
      places = omega (
        arith,
        c.self.invariant.places,
        ap length numbers,
        length-mapped number (swap_remove ls k x),
        out-length ls k x lt,
        ap length c.self.invariant.numbers,
        length-mapped number ls,
      );
      none = c.self.invariant.none;
    }

pub returns : goal.returns
returns c = rw (← c.self.view_is) (c.swap_remove-closed.ensures.items
    ∙ without number c.self.inside.items.items c.self.inside.numbers c.self.invariant.numbers c.args.stream c.in-Some.place c.in-Some.ensures
    c.swap_remove-closed.result)
