use Rattle.sctp_channels.proofs.Freeing.{IsSearched, left}
use Rattle.sctp_channels.proofs.channels.Channels.free_stream.Given as goal

abbrev pub invariant-number : goal.invariant-number
invariant-number l = IsSearched l.self.side l.self.channels.items l.next

abbrev pub decreases-number : goal.decreases-number
decreases-number l = left l.next
