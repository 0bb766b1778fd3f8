use Rattle.sctp_model.proofs.receiver.ReadLaws.{reads_begin_complete}
use Rattle.sctp_model.proofs.receiver.Counted.{reads_differ}
use Rattle.sctp_model.proofs.receiver.ReadLaws.{unordered_first}
use Rattle.sctp_model.proofs.laws.unordered_reads.Goals as goal

pub returns-clause-complete : goal.returns-clause-complete
returns-clause-complete c = reads_begin_complete

pub returns-clause-differ : goal.returns-clause-differ
returns-clause-differ c = reads_differ

pub returns-clause-first : goal.returns-clause-first
returns-clause-first c = unordered_first
