use Rattle.std.proofs.Common.{◌≡◌, ◌+◌, ◌≤◌, length}
use Rattle.sctp_serial.specs.Window.{IsSerial}
use Rattle.sctp_serial.specs.DataChunks.{bytes_of}
use Rattle.sctp_outbound.specs.payload_queue.PayloadQueue.{past}
use Rattle.sctp_outbound.proofs.payload_queue.PayloadQueue.pop_up_to_counted.Given as goal

abbrev pub invariant-loop-self : goal.invariant-loop-self
invariant-loop-self l = record {
  serial : IsSerial l.self-inside.held.chunks;
  counted : l.self-inside.n_bytes ≡ bytes_of l.self-inside.held.chunks;
  kept : past l.cumulative_tsn l.self-inside.held.chunks ≡ past l.cumulative_tsn l.initial.self-inside.held.chunks;
  room : l.self-inside.held.room ≡ l.initial.self-inside.held.room;
  same : l.self-inside.dup_tsn ≡ l.initial.self-inside.dup_tsn;
  not_back : l.initial.turns ≤ l.turns;
  cost : l.turns + length l.self-inside.held.chunks ≤ l.initial.turns + length l.initial.self-inside.held.chunks;
}

abbrev pub decreases-loop-self : goal.decreases-loop-self
decreases-loop-self l = length l.self-inside.held.chunks
