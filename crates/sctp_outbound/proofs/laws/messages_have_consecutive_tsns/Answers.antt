use Rattle.sctp_outbound.proofs.lemmas.outbound_queue.SideBySide as numbering
use Rattle.sctp_outbound.proofs.laws.messages_have_consecutive_tsns.Goals as goal

pub returns : goal.returns
returns c = record {
  consecutive = numbering.consecutive;
  side_by_side = numbering.side_by_side;
  puts = numbering.puts_in_flight;
  in_flight = numbering.was_put;
}
