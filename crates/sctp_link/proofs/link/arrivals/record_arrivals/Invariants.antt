use Rattle.sctp_link.proofs.Names.{◌≡◌, ◌≤◌, ◌+◌, ◌++◌, length, drop, ◌||◌, vec_capacity, list_any, arrived_in, repeated_of, is_first}
use Rattle.std.specs.Prelude.{vec_len}
use Rattle.sctp_link.proofs.link.arrivals.record_arrivals.Given as goal

abbrev pub invariant-loop-at : goal.invariant-loop-at
invariant-loop-at l = record {
  slots : arrived_in (drop l.at l.places) (drop l.at l.arrivals) l.slots ≡ arrived_in l.places l.arrivals l.initial.slots;
  duplicates : l.duplicates.items ++ repeated_of (drop l.at l.places) (drop l.at l.arrivals) ≡ l.initial.duplicates.items ++ repeated_of l.places l.arrivals;
  new : (l.new || list_any is_first (drop l.at l.arrivals)) ≡ list_any is_first l.arrivals;
  room : vec_len l.duplicates + length l.places ≤ vec_capacity l.duplicates + l.at;
  count : length l.slots ≡ length l.initial.slots;
}
