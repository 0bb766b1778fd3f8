use Rattle.sctp_receiver.proofs.Names.{◌≡◌, ◌-◌, ◌+◌, ◌*◌, ◌<◌, ◌^◌, ◌≤◌, length, slice_get, IfSome, distance, run_before}
use Rattle.sctp_receiver.proofs.receiver.tsn_filter.runs.spot_of.Given as goal

abbrev pub invariant-loop-low : goal.invariant-loop-low
invariant-loop-low l = record {
  order : l.low ≤ l.high;
  within : l.high ≤ length l.runs.items;
  before : l.before ≡ run_before l.low l.runs.items;
  after : l.after ≡ slice_get l.runs.items l.high;
  begun : IfSome l.before (λ r. distance l.base r.first ≤ distance l.base l.tsn);
  ahead : IfSome l.after (λ r. distance l.base l.tsn < distance l.base r.first);
  not_back : l.initial.turns ≤ l.turns;
  cost_left : 2 ^ (l.turns - l.initial.turns) * (l.high - l.low) ≤ length l.runs.items;
  cost : 2 ^ (l.turns - l.initial.turns) ≤ 2 * length l.runs.items + 1;
}

abbrev pub decreases-loop-low : goal.decreases-loop-low
decreases-loop-low l = l.high - l.low
