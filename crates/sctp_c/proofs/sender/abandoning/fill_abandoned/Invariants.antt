use Rattle.std.proofs.Common.{◌≡◌}
use Rattle.sctp_c.specs.Rows.{abandoned_row}
use Rattle.sctp_c.proofs.Filling.{filled_to}
use Rattle.sctp_c.proofs.sender.abandoning.fill_abandoned.Given as goal

abbrev pub invariant-loop-place : goal.invariant-loop-place
invariant-loop-place l = record {
  rows : l.rows ≡ filled_to abandoned_row l.place l.answered l.initial.rows;
}
