use Rattle.std.proofs.Common.{[], arith, refl, sym, ◌∙◌, subst}
use Rattle.std.proofs.lemmas.List.{take_all}
use Rattle.sctp_link.specs.Rooms.{HasCounted}
use Rattle.sctp_link.proofs.standings.Kept.{numbers-alike}
use Rattle.sctp_link.proofs.progress.completions.clear_counts.Goals as goal

pub loop-at-init : goal.loop-at-init
loop-at-init c = record { kept = refl; stays = λ cs h. h; counted = λ k p lt e some. absurd (omega (arith, some)) }

pub clear_count-requires-clause-numbers : goal.clear_count-requires-clause-numbers
clear_count-requires-clause-numbers c = c.requires ∙ sym (numbers-alike c.args.streams.now.items c.loop-at.streams.items c.loop-at.invariant.kept)

pub loop-at-preserved : goal.loop-at-preserved
loop-at-preserved c =
    record {
      kept = c.clear_count.ensures.kept ∙ c.loop-at.invariant.kept;
      stays = λ cs h. c.clear_count.ensures.stays cs (c.loop-at.invariant.stays cs h);
      counted = c.clear_count.ensures.counted c.loop-at.invariant.counted;
    }

pub returns-clause-counted : goal.returns-clause-counted
returns-clause-counted c =
    subst (λ cs. HasCounted cs [] c.loop-at.streams.items) (take_all c.loop-at.at c.args.chunks.now (omega (arith, c.loop-at-test.false)))
    c.loop-at.invariant.counted
