use Rattle.sctp_sender.proofs.Names.{◌≡◌, ◌+◌, ◌*◌, ◌-◌, ◌<◌, ◌≤◌, ◌++◌, None, get_or, map, take, drop, IfSome, chunks_of, AreInFlight, is_closed, judged}
use Rattle.sctp_sender.proofs.Counts.{numbers_of}
use Rattle.sctp_sender.proofs.sender.flight.answers.judge_each.Given as goal

abbrev pub invariant-loop-one : goal.invariant-loop-one
invariant-loop-one l = record {
  noted : map (judged l.partial l.queue.inflight.chunks) l.fn.released.items
      ≡ take l.one-index l.one-items ++ map (judged l.partial l.queue.inflight.chunks) (drop l.one-index l.one-items);
  there : AreInFlight (drop l.one-index l.one-items) l.queue.inflight.chunks;
  last : IfSome l.last (λ k. k.1 ≡ is_closed l.partial l.queue.inflight.chunks k.0);
  own : IfSome l.last (λ k. (0 < l.one-index) × (k.0 ≡ get_or (numbers_of l.fn.released.items) (l.one-index - 1) 0));
  first : l.last ≡ None → l.one-index ≡ 0;
  not_back : l.initial.turns ≤ l.turns;
  cost : l.turns ≤ l.initial.turns + 2 * l.one-index
      + chunks_of (take l.one-index (numbers_of l.fn.released.items)) l.queue.inflight.chunks;
}
