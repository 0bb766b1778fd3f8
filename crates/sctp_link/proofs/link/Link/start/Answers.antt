use Rattle.sctp_link.proofs.Names.{◌≡◌, rules, refl, ap, ◌∙◌, length, with_items, vec_len, with_items_is, all_started, with_queue, start_from}
use Rattle.sctp_link.proofs.sides.Changes.{flight-aligned}
use Rattle.sctp_link.proofs.sender.Starting.{linked-starts, start-moves}
use Rattle.sctp_link.proofs.link.Link.start.Goals as goal

pub invariant_of-self : goal.invariant_of-self
invariant_of-self g c =
    let ms = c.self.inside.messages in
    let same : length c.start_from.new.messages ≡ vec_len ms = search rules in
    let is : (with_items ms c.start_from.new.messages).items ≡ start_from c.self.inside.unstarted c.args.now ms.items =
    with_items_is ms c.start_from.new.messages same ∙ c.start_from.ensures ∙ ap (start_from c.self.inside.unstarted c.args.now) c.deref_mut.ensures.value in (
      flight-aligned c.self.invariant.0 c.start.new.sender
          (with_queue c.self.inside.sender.flight (all_started c.args.now c.self.inside.sender.flight.queue)) c.start.ensures,
      rw c.start.ensures (linked-starts c.args.now ms.items (with_items ms c.start_from.new.messages).items c.len-self-inside.result
          (all_started c.args.now c.self.inside.sender.flight.queue) c.self.invariant.1 refl refl is (search rules) refl),
    )

pub returns-clause-right : goal.returns-clause-right
returns-clause-right g c =
    let ms = c.self.inside.messages in
    let same : length c.start_from.new.messages ≡ vec_len ms = search rules in
    let is : (with_items ms c.start_from.new.messages).items ≡ start_from c.self.inside.unstarted c.args.now ms.items =
    with_items_is ms c.start_from.new.messages same ∙ c.start_from.ensures ∙ ap (start_from c.self.inside.unstarted c.args.now) c.deref_mut.ensures.value in
    rw (← c.self.view_is) (rw c.start.ensures
    (record { right = refl; moves = start-moves c.args.now ms.items (with_items ms c.start_from.new.messages).items c.self.invariant.1 refl is }))
