use Rattle.std.proofs.Common.{◌≡◌, ◌-◌, ◌≤◌, length}
use Rattle.sctp_handshake.specs.InitValues.{said_from, numbers_in}
use Rattle.sctp_handshake.proofs.init_value.Said.read_init.Given as goal

abbrev pub invariant-loop-seen : goal.invariant-loop-seen
invariant-loop-seen l = record {
  within : l.at ≤ length l.value;
  same : said_from (length l.value - l._seen) l.value l.at l.said ≡ said_from (length l.value) l.value 16 (numbers_in l.value);
}
