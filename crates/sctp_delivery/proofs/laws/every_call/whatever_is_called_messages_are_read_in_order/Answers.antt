use Rattle.sctp_delivery.proofs.EveryMessages as messages
use Rattle.sctp_delivery.proofs.EveryYoungOrder as young_order
use Rattle.sctp_delivery.proofs.InOrder as in_order
use Rattle.sctp_delivery.proofs.laws.every_call.whatever_is_called_messages_are_read_in_order.Goals as goal

pub returns : goal.returns
returns c = record {
  order = messages.in-order;
  modes = messages.as-written;
  turn = in_order.in-turn-any;
  order_recent = young_order.in-order;
  modes_recent = young_order.as-written;
  turn_recent = in_order.in-turn-any-young;
}
