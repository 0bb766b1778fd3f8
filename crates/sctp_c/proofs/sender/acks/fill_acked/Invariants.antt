use Rattle.std.proofs.Common.{◌≡◌}
use Rattle.sctp_c.specs.Rows.{acked_row}
use Rattle.sctp_c.proofs.Filling.{filled_to}
use Rattle.sctp_c.proofs.sender.acks.fill_acked.Given as goal

abbrev pub invariant-loop-place : goal.invariant-loop-place
invariant-loop-place l = record {
  rows : l.rows ≡ filled_to acked_row l.place l.released l.initial.rows;
}
