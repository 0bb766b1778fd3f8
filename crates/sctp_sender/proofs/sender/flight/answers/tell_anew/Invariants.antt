use Rattle.sctp_sender.proofs.Names.{ℕ, ◌+◌, ◌*◌, ◌<◌, ◌≤◌, get_or, length, drop, take, GapAckBlock, distances_in}
use Rattle.sctp_sender.specs.Costs.{unknown_in}
use Rattle.sctp_sender.proofs.Anew.{IsAnsweredTo}
use Rattle.sctp_sender.proofs.KnownPlaces.{any_block}
use Rattle.sctp_sender.proofs.sender.flight.answers.tell_anew.Given as goal

abbrev pub invariant-loop-block : goal.invariant-loop-block
invariant-loop-block l = record {
  answer : IsAnsweredTo l.count l.sorted (drop l.block-index l.sorted) l.queue.inflight.chunks l.released.items;
  inside : l.next ≤ length l.known;
  not_back : l.fn.turns ≤ l.turns;
  cost : l.turns ≤ l.fn.turns + l.block-index + l.next + 2 * (l.count + distances_in (take l.block-index l.sorted));
  passed : (i : ℕ) (b : GapAckBlock) → i < l.next → l.block-index < length l.sorted
      → (get_or l.known i b).end + 1 ≤ l.count + (get_or l.sorted l.block-index any_block).start;
  unknown : l.turns ≤ l.fn.turns + 2 * l.block-index + 2 * l.next + 2 * unknown_in l.known l.count (take l.block-index l.sorted) + 1;
}
