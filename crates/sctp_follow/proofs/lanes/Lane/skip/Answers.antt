use Rattle.std.proofs.Common.{[]}
use Rattle.sctp_follow.specs.Lanes.{held_at}
use Rattle.sctp_follow.specs.declared.lanes.Lane.{Lane}
use Rattle.sctp_follow.proofs.Departing.{leaves_more, leaves_reads}
use Rattle.sctp_follow.proofs.lanes.Lane.skip.Goals as goal

pub returns-clause-notes : goal.returns-clause-notes
returns-clause-notes c =
    let mid : Lane = record { next = c.passed_next-self.result; parts = c.lose_each-dropped.new.self.parts } in
    let new = c.read_each.new.self in
    let read = c.in_ok-messages.messages.items in
    let s = c.lose_each-dropped.new.spots in
    leaves_more (held_at c.args.self.now) (held_at mid) (held_at new) [] read c.args.spots.now s s
    c.lose_each-dropped.ensures.notes (leaves_reads _ read mid new s c.in_ok-messages.ensures.read)
