use Rattle.sctp_sender.proofs.Names.{◌≡◌, ◌+◌, ◌<◌, ◌^◌, length, All, total_bytes, with_inflight, bytes_coming, put_back}
use Rattle.sctp_sender.proofs.sender.flight.kept.restore_each.Given as goal

abbrev pub invariant-loop-back : goal.invariant-loop-back
invariant-loop-back l = record {
  goes_on : with_inflight l.queue (put_back l.backs.items l.queue.inflight.chunks)
      ≡ with_inflight l.initial.queue (put_back l.initial.backs.items l.initial.queue.inflight.chunks);
  within : All (λ b. b.place < length l.queue.inflight.chunks) l.backs.items;
  turns : l.turns + length l.backs.items ≡ l.initial.turns + length l.initial.backs.items;
  fits : total_bytes l.queue + bytes_coming l.backs.items < 2 ^ 64;
}

abbrev pub decreases-loop-back : goal.decreases-loop-back
decreases-loop-back l = length l.backs.items
