use Rattle.std.proofs.Common.{◌≡◌, ◌+◌, ◌-◌, ◌≤◌, false, length}
use Rattle.sctp_reassembly.specs.reassembly_queue.Outward.{IsFront, IsBack}
use Rattle.sctp_reassembly.proofs.reassembly_queue.outward.run_around.Given as goal

abbrev pub invariant-loop-front : goal.invariant-loop-front
invariant-loop-front l = record {
  front : IsFront l.unassembled.chunks l.place l.front;
  back : IsBack l.unassembled.chunks l.place l.back;
  turns : l.turns + l.front.place ≡ l.initial.turns + l.back.place;
  behind : l.front.done ≡ false → l.back.place + l.front.place ≤ l.place + l.place;
  ahead : l.back.done ≡ false → l.place + l.place ≤ l.back.place + l.front.place;
}

abbrev pub decreases-loop-front : goal.decreases-loop-front
decreases-loop-front l = l.front.place + (length l.unassembled.chunks - l.back.place)
