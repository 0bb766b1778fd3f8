use Rattle.std.proofs.Common.{sym, ◌∙◌, arith}
use Rattle.sctpdump.proofs.Appending.{reads_onto_none, reads_onto_more}
use Rattle.sctpdump.proofs.reading.read_all.Goals as goal

pub reading-init : goal.reading-init
reading-init c = record {
  reads = reads_onto_none c.args.stream c.args.messages.now.items c.args.receiver.now;
  count = omega arith;
}

pub reading-preserved : goal.reading-preserved
reading-preserved c =
    let more =
    reads_onto_more c.args.stream _ _ c.in-Ok-Some.message _ _ c.reading.invariant.reads (sym c.in-Ok-Some.ensures.message ∙ c.in-Ok-Some.field-0-is) in
    record {
      reads = rw (c.in_ok-push-in-Ok-Some.ensures.items, c.reserve.ensures.items, c.in-Ok-Some.ensures.ok) more;
      count = omega (arith, c.in_ok-push-in-Ok-Some.ensures.len, c.reserve.ensures.len);
    }
