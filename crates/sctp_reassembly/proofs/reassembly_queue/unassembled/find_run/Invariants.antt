use Rattle.std.proofs.Common.{◌≡◌, ◌+◌}
use Rattle.sctp_reassembly.proofs.lemmas.reassembly_queue.Scans.{Scanned}
use Rattle.sctp_reassembly.proofs.reassembly_queue.unassembled.find_run.Given as goal

abbrev pub invariant-loop-place : goal.invariant-loop-place
invariant-loop-place l = record {
  scanned : Scanned l.unassembled.chunks l.place l.start l.tsn;
  turns : l.turns ≡ l.initial.turns + l.place;
}
