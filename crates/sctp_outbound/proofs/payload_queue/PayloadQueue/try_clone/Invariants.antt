use Rattle.std.proofs.Common.{◌≡◌, ◌-◌, length, take}
use Rattle.sctp_outbound.proofs.payload_queue.PayloadQueue.try_clone.Given as goal

abbrev pub invariant-loop-place : goal.invariant-loop-place
invariant-loop-place l = record {
  copied : l.held.chunks ≡ take l.place l.self-inside.held.chunks;
  room : l.held.room ≡ length l.self-inside.held.chunks - l.place;
}
