use Rattle.std.proofs.Common.{[]}
use Rattle.sctp_follow.specs.Lanes.{held_at}
use Rattle.sctp_follow.proofs.Departing.{leaves_more, leaves_reads}
use Rattle.sctp_follow.proofs.lanes.Lane.see.Goals as goal

pub returns-clause-notes : goal.returns-clause-notes
returns-clause-notes c =
    let old = held_at c.args.self.now in
    let one = c.end_before.new.self in
    let two = c.lose_lacking.new.self in
    let new = c.read_each.new.self in
    let ended = c.in_ok-seen.seen.messages.items in
    let read = c.in_ok-read.read.items in
    rw c.in_ok-append.ensures.items (leaves_more old (held_at one) (held_at new) ended read c.args.spots.now c.end_before.new.spots c.lose_lacking.new.spots
    c.in_ok-seen.ensures.notes
    (leaves_more (held_at one) (held_at two) (held_at new) [] read c.end_before.new.spots c.lose_lacking.new.spots c.lose_lacking.new.spots
    c.lose_lacking.ensures.notes (leaves_reads _ read two new c.lose_lacking.new.spots c.in_ok-read.ensures.read)))
