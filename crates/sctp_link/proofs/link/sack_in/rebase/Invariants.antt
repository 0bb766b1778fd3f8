use Rattle.sctp_link.proofs.Names.{◌≡◌}
use Rattle.sctp_link.proofs.acknowledgement.Rebased.{Nearer}
use Rattle.sctp_link.proofs.link.sack_in.rebase.Given as goal

abbrev pub invariant-loop-place : goal.invariant-loop-place
invariant-loop-place l = record {
  blocks : Nearer l.behind l.place l.initial.sack.gap_ack_blocks.items l.sack.gap_ack_blocks.items;
  cumulative : l.sack.cumulative_tsn_ack ≡ l.upto;
}
