use Rattle.sctp_link.proofs.Names.{◌<◌, refl, arith, length, length-mapped, record_in, message_record}
use Rattle.sctp_link.proofs.upkeep.Observed.{slot-message}
use Rattle.sctp_link.proofs.link.Link.is_cleared.Goals as goal

pub index-requires : goal.index-requires
index-requires g c =
    let lt : c.args.place < length (record_in c.self.inside).slots = rw (← c.self.view_is) at c.requires in
    let r = slot-message c.self.inside.slots.items c.args.place c.index-slot.result.now c.self.invariant.1 refl lt c.index-slot.ensures in
    omega (arith, r.1, length-mapped message_record c.self.inside.messages.items)
