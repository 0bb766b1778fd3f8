use Rattle.sctp_delivery.proofs.InOrder as in_order
use Rattle.sctp_delivery.proofs.laws.modes.what_is_read_of_an_ordered_stream_is_what_was_written.Goals as goal

pub returns : goal.returns
returns c = record { few = in_order.in-turn; recent = in_order.in-turn-young }
