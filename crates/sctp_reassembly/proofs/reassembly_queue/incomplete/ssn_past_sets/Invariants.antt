use Rattle.std.proofs.Common.{◌≡◌, ◌+◌, ◌*◌, ◌≤◌, length, drop}
use Rattle.std.specs.List.{filter}
use Rattle.sctp_reassembly.specs.reassembly_queue.Counts.{set_chunks}
use Rattle.sctp_reassembly.specs.reassembly_queue.Skips.{cannot_complete, ssn_past_sets}
use Rattle.sctp_reassembly.proofs.reassembly_queue.incomplete.ssn_past_sets.Given as goal

abbrev pub invariant-loop-place : goal.invariant-loop-place
invariant-loop-place l = record {
  same : ssn_past_sets l.next (filter (cannot_complete l.tsn) (drop l.place l.sets.items)) ≡ ssn_past_sets l.next_ssn
      (filter (cannot_complete l.tsn) l.sets.items);
  not_back : l.initial.turns ≤ l.turns;
  walk : l.turns + 3 * length (drop l.place l.sets.items) + 2 * set_chunks (drop l.place l.sets.items) ≤ l.initial.turns + 3 * length l.sets.items
      + 2 * set_chunks l.sets.items;
}
