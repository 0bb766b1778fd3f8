use Rattle.std.proofs.Common.{◌≡◌}
use Rattle.sctp_c.specs.Rows.{taken_back_row}
use Rattle.sctp_c.proofs.Filling.{filled_to}
use Rattle.sctp_c.proofs.sender.acks.fill_taken_back.Given as goal

abbrev pub invariant-loop-place : goal.invariant-loop-place
invariant-loop-place l = record {
  rows : l.rows ≡ filled_to taken_back_row l.place l.answered l.initial.rows;
}
