use Rattle.std.proofs.Common.{◌≡◌, ◌+◌, drop}
use Rattle.std.specs.List.{list_any}
use Rattle.sctp_serial.specs.DataChunks.{has_tsn}
use Rattle.sctp_reassembly.proofs.reassembly_queue.fragment_places.has_number.Given as goal

abbrev pub invariant-loop-place : goal.invariant-loop-place
invariant-loop-place l = record {
  any : list_any (has_tsn l.tsn) (drop l.place l.chunks) ≡ list_any (has_tsn l.tsn) l.chunks;
  turns : l.turns ≡ l.initial.turns + l.place;
}
