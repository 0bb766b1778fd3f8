use Rattle.sctp_stream.proofs.Pieces.{count_whole, count_more}
use Rattle.sctp_link.proofs.link.streams.fragments_in.Goals as goal

pub returns-then-len-size-eq0-clause-value : goal.returns-then-len-size-eq0-clause-value
returns-then-len-size-eq0-clause-value c = λ bytes e. count_whole c.args.len c.args.size bytes c.requires e c.if-len-size-eq0.true

pub returns-else-len-size-eq0-clause-value : goal.returns-else-len-size-eq0-clause-value
returns-else-len-size-eq0-clause-value c = λ bytes e. count_more c.args.len c.args.size bytes c.requires e c.if-len-size-eq0.false
