use Rattle.std.proofs.Common.{refl, subst}
use Rattle.sctp_follow.specs.Lanes.{IsRead}
use Rattle.sctp_follow.specs.declared.interleave.Name.{Name}
use Rattle.sctp_follow.proofs.Reading.{reads_none, reads_more}
use Rattle.sctp_follow.proofs.lanes.Lane.read_each.Goals as goal

pub returns-in_default-clause-read : goal.returns-in_default-clause-read
returns-in_default-clause-read c = rw c.new-messages.ensures.items (reads_none c.args.stream c.args.self.now)

pub reading-init : goal.reading-init
reading-init c = record {
  reads = rw c.new-messages.ensures.items (reads_none c.args.stream c.args.self.now);
  next = c.in-Some.is;
}

pub reading-preserved : goal.reading-preserved
reading-preserved c =
    let r = subst (λ (name : Name). IsRead name c.in-Some-read.message c.reading.self c.read.new.self) c.ordered.ensures c.in-Some-read.ensures.read in
    record {
      reads = rw c.in_ok-push.ensures.items (reads_more c.args.stream c.reading.messages.items c.in-Some-read.message c.args.self.now c.reading.self _
          c.reading.invariant.reads
          (record {
            number = c.reading.number;
            was = c.reading.invariant.next;
            read = record { called = r.called; fragments = r.fragments; left = r.left };
            next = refl;
          }));
      next = refl;
    }
