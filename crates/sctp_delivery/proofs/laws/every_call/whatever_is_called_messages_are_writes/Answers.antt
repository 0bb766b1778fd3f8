use Rattle.sctp_delivery.proofs.EveryMessages as messages
use Rattle.sctp_delivery.proofs.EveryYoung as young
use Rattle.sctp_delivery.proofs.laws.every_call.whatever_is_called_messages_are_writes.Goals as goal

pub returns : goal.returns
returns c = record {
  written = messages.are-writes;
  single = messages.are-single;
  apart = messages.told-apart;
  own = messages.of-their-own;
  part = messages.parts;
  same = messages.same;
  back = messages.none-refused-back;
  written_recent = young.written;
  single_recent = young.single;
  own_recent = young.own;
  part_recent = young.parts;
}
