use Rattle.std.proofs.Common.{◌≡◌, ◌+◌, ◌-◌, ◌≤◌, length}
use Rattle.sctp_capture.specs.Options.{option_at}
use Rattle.sctp_capture.proofs.options.option_in.Given as goal

abbrev pub invariant-loop-passed : goal.invariant-loop-passed
invariant-loop-passed l = record {
  within : l.at ≤ length l.block + 70000;
  same : option_at 64 l.order l.code l.block l.from ≡ option_at (64 - l._passed) l.order l.code l.block l.at;
}
