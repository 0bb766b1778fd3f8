use Rattle.std.proofs.Common.{◌≡◌, ◌*◌, ◌-◌, ◌≤◌}
use Rattle.sctp_follow.specs.Trips.{rounded}
use Rattle.sctp_follow.proofs.trips.rounded.Given as goal

abbrev pub invariant-digits : goal.invariant-digits
invariant-digits l = record {
  fits : l.unit * l.rest ≤ l.number;
  same : l.unit * rounded (20 - l._digit) l.rest ≡ rounded 20 l.number;
}
