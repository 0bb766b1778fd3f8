use Rattle.sctp_follow.proofs.Counting.{counted_more}
use Rattle.sctp_follow.proofs.trips.Trips.note.Goals as goal

pub returns-clause-counted : goal.returns-clause-counted
returns-clause-counted c old =
    rw (c.counted-self.ensures, c.in-Ok.ensures.entries, c.counted.ensures, c.unwrap_or-count.ensures, c.copied.ensures, c.get.ensures.value)
    (counted_more c.args.self.now.counts.entries c.rounded-key.result c.args.self.now.total c.insert.ensures.was_ordered old)
