use Rattle.std.proofs.Common.{◌≡◌, ◌+◌}
use Rattle.sctp_serial.specs.Runs.{IsRising}
use Rattle.sctp_outbound.specs.payload_queue.Blocks.{IsAtOffset}
use Rattle.sctp_outbound.proofs.payload_queue.blocks.run_from.Given as goal

abbrev pub invariant-loop-walked : goal.invariant-loop-walked
invariant-loop-walked l = record {
  rising : IsRising l.held.chunks l.place (l.place + l.walked);
  at : IsAtOffset l.cumulative_tsn l.held.chunks (l.place + l.walked) (l.offset + l.walked);
  turns : l.turns + 1 ≡ l.initial.turns + l.walked;
}
