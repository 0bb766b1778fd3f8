use Rattle.std.proofs.Common.{◌≡◌, ◌+◌, drop}
use Rattle.sctp_reassembly.specs.reassembly_queue.Skips.{misses_behind}
use Rattle.sctp_reassembly.proofs.reassembly_queue.skips.misses_behind.Given as goal

abbrev pub invariant-loop-chunk : goal.invariant-loop-chunk
invariant-loop-chunk l = record {
  same : misses_behind l.tsn l.last (drop l.chunk-index l.rest) ≡ misses_behind l.tsn l.first l.rest;
  turns : l.turns ≡ l.initial.turns + l.chunk-index;
}
