use Rattle.std.proofs.Common.{◌≡◌, ◌+◌, ◌-◌, ◌^◌, ◌<◌, get_or}
use Rattle.sctp_data.specs.ChunkSet.{ChunkSet}
use Rattle.sctp_util.specs.Serial.{distance}
use Rattle.sctp_serial.specs.Ascending.{upper_half}
use Rattle.sctp_serial.proofs.lemmas.AscendingEdits.{IsRising}
use Rattle.sctp_reassembly.proofs.reassembly_queue.ordered_sets.are_ascending.Given as goal

abbrev pub invariant-loop-place : goal.invariant-loop-place
invariant-loop-place l = record {
  rising : IsRising (λ (s : ChunkSet). upper_half s.ssn) l.sets.items l.first l.far l.place;
  last : (d : ChunkSet) → distance l.first (upper_half (get_or l.sets.items (l.place - 1) d).ssn) ≡ l.far;
  half : l.far < 2 ^ 31;
  small : l.first < 2 ^ 32;
  turns : l.turns + 1 ≡ l.initial.turns + l.place;
}
