use Rattle.sctp_model.proofs.Exchanges.{begin_and_end, chunks_say_messages, chunks_join}
use Rattle.sctp_model.proofs.laws.chunks_say_their_message.Goals as goal

pub returns-clause-ends : goal.returns-clause-ends
returns-clause-ends c = begin_and_end

pub returns-clause-says : goal.returns-clause-says
returns-clause-says c = chunks_say_messages

pub returns-clause-joins : goal.returns-clause-joins
returns-clause-joins c = chunks_join
