use Rattle.sctp_model.proofs.sender.Written.{messages_are_writes}
use Rattle.sctp_model.proofs.sender.Modes.{modes_are_kept}
use Rattle.sctp_model.proofs.receiver.Shown.{reads_show_messages}
use Rattle.sctp_model.proofs.receiver.ReadLaws.{reads_begin_run}
use Rattle.sctp_model.proofs.receiver.ReadLaws.{reads_begin_complete_run}
use Rattle.sctp_model.proofs.laws.ordered_reads.Goals as goal

pub returns-clause-writes : goal.returns-clause-writes
returns-clause-writes c = messages_are_writes

pub returns-clause-modes : goal.returns-clause-modes
returns-clause-modes c = modes_are_kept

pub returns-clause-show : goal.returns-clause-show
returns-clause-show c = reads_show_messages

pub returns-clause-run : goal.returns-clause-run
returns-clause-run c = reads_begin_run

pub returns-clause-complete_run : goal.returns-clause-complete_run
returns-clause-complete_run c = reads_begin_complete_run
