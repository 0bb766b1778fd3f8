use Rattle.sctp_delivery.proofs.Names.{◌≡◌, ◌∙◌, nat_le, subst, sym, true}
use Rattle.sctp_delivery.proofs.EndWindows.{can-end}
use Rattle.sctp_delivery.proofs.room.can_end.Goals as goal

pub returns-then-is_room_left-clause-ends : goal.returns-then-is_room_left-clause-ends
returns-then-is_room_left-clause-ends c fits limited same =
    can-end c.args.limits c.args.sender.now c.args.receiver.now c.args.max_message_size (sym c.is_room_left.ensures ∙ c.if-is_room_left.true)
    (subst (λ k. nat_le k c.args.max_message_size ≡ true) c.max_message_size.ensures fits) limited same
