use Rattle.std.proofs.Common.{◌≤◌, vec_len}
use Rattle.sctpdump.specs.Messages.{ReadsOnto}
use Rattle.sctpdump.proofs.reading.read_all.Given as goal

abbrev pub invariant-reading : goal.invariant-reading
invariant-reading l = record {
  reads : ReadsOnto l.stream l.initial.messages.items l.messages.items l.initial.receiver l.receiver;
  count : l._message ≤ vec_len l.messages;
}
