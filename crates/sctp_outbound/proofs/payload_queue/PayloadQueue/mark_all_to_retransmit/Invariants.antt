use Rattle.std.proofs.Common.{◌≡◌, ◌++◌, true, length, take, drop}
use Rattle.sctp_util.specs.Lists.{change_where}
use Rattle.sctp_outbound.specs.Marks.{is_outstanding, with_retransmit}
use Rattle.sctp_serial.specs.Window.{IsSerial}
use Rattle.sctp_serial.specs.DataChunks.{bytes_of}
use Rattle.sctp_outbound.proofs.payload_queue.PayloadQueue.mark_all_to_retransmit.Given as goal

abbrev pub invariant-loop-place : goal.invariant-loop-place
invariant-loop-place l = record {
  changed : l.self-inside.held.chunks ≡ change_where is_outstanding (with_retransmit true)
      (take l.place l.initial.self-inside.held.chunks) ++ drop l.place l.initial.self-inside.held.chunks;
  same_length : length l.self-inside.held.chunks ≡ length l.initial.self-inside.held.chunks;
  serial : IsSerial l.self-inside.held.chunks;
  counted : l.self-inside.n_bytes ≡ bytes_of l.self-inside.held.chunks;
  room : l.self-inside.held.room ≡ l.initial.self-inside.held.room;
  same : l.self-inside.dup_tsn ≡ l.initial.self-inside.dup_tsn;
}
