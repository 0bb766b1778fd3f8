use Rattle.std.proofs.Common.{◌≡◌, ◌-◌, ◌≤◌, [], length}
use Rattle.sctp_association.proofs.association.Association.reported_in.Given as goal
use Rattle.sctp_association.specs.Reports.{joined, told_params}

-- what is told fits, and with those that are left it is what all make
abbrev pub invariant-loop-seen : goal.invariant-loop-seen
invariant-loop-seen l = record {
  fits : length l.raw.items ≤ l.most;
  same : joined l.most l.raw.items (told_params (length l.value - l._seen) l.value l.from)
      ≡ joined l.most [] (told_params (length l.value) l.value 16);
}
