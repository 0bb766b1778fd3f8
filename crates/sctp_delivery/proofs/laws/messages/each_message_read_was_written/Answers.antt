use Rattle.sctp_delivery.proofs.Delivered as delivered
use Rattle.sctp_delivery.proofs.YoungReads as young_reads
use Rattle.sctp_delivery.proofs.laws.messages.each_message_read_was_written.Goals as goal

pub returns : goal.returns
returns c = record { written = delivered.law; recent = young_reads.law }
