use Rattle.sctp_link.proofs.Names.{◌∙◌, refl, length-set, arith, with_start, changed_none, changed_more, changed_all}
use Rattle.sctp_link.proofs.link.streams.start_from.Goals as goal

pub loop-place-init : goal.loop-place-init
loop-place-init c = record { changed = changed_none (with_start c.args.now) c.args.messages.now c.args.first; same_length = refl }

pub loop-place-preserved : goal.loop-place-preserved
loop-place-preserved c = record {
  changed = changed_more (with_start c.args.now) c.args.messages.now c.loop-place.messages c.args.first c.loop-place.place c.index-messages-place.result
      c.loop-place.auto.place c.loop-place-test.true c.loop-place.invariant.same_length c.loop-place.invariant.changed;
  same_length = length-set c.loop-place.messages c.loop-place.place _ ∙ c.loop-place.invariant.same_length;
}

pub returns : goal.returns
returns c = c.loop-place.invariant.changed
    ∙ changed_all (with_start c.args.now) c.args.messages.now c.args.first c.loop-place.place (omega (arith, c.loop-place-test.false))
