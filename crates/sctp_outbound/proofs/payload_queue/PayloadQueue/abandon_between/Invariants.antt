use Rattle.std.proofs.Common.{◌≡◌, ◌++◌, ◌≤◌, length, take, drop}
use Rattle.sctp_util.specs.Lists.{change_where}
use Rattle.sctp_outbound.specs.Marks.{is_of, as_abandoned}
use Rattle.sctp_serial.specs.Window.{IsSerial}
use Rattle.sctp_serial.specs.DataChunks.{bytes_of}
use Rattle.sctp_outbound.proofs.payload_queue.PayloadQueue.abandon_between.Given as goal

abbrev pub invariant-loop-place : goal.invariant-loop-place
invariant-loop-place l = record {
  changed : l.self-inside.held.chunks
      ≡ change_where (is_of l.message_id) as_abandoned (take l.place l.initial.self-inside.held.chunks) ++ drop l.place l.initial.self-inside.held.chunks;
  same_length : length l.self-inside.held.chunks ≡ length l.initial.self-inside.held.chunks;
  serial : IsSerial l.self-inside.held.chunks;
  counted : l.self-inside.n_bytes ≡ bytes_of l.self-inside.held.chunks;
  fewer : l.self-inside.n_bytes ≤ l.before;
  room : l.self-inside.held.room ≡ l.initial.self-inside.held.room;
  same : l.self-inside.dup_tsn ≡ l.initial.self-inside.dup_tsn;
}
