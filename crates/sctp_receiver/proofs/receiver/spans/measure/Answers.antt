use Rattle.sctp_receiver.proofs.Names.{rules, arith, ◌≡◌, ◌<◌, Some, ap, sym, subst, ◌∙◌, length, list_any, slice_get, slice_get_within, by_same, some-same}
use Rattle.sctp_receiver.proofs.Names.{ChunkSet}
use Rattle.sctp_receiver.proofs.Names.{is_complete}
use Rattle.sctp_receiver.specs.Spans.{chunk_outside, sets_outside}
use Rattle.sctp_receiver.proofs.VisitOrders.{read-at}
use Rattle.sctp_receiver.proofs.Spans.{IsMeasured, complete-more, complete-measured, incomplete-more, incomplete-measured, measured-none, measured-all}
use Rattle.sctp_receiver.proofs.receiver.spans.measure.Goals as goal
use Rattle.sctp_receiver.proofs.receiver.spans.measure.Goals.{then-is_complete, else-is_complete}

pub loop-place-preserved : goal.loop-place-preserved
loop-place-preserved c =
    let sets = c.args.sets.now.items in
    let inv = c.loop-place.invariant in
    let all = c.loop-place.all in
    let before = c.loop-place.span in
    let lt : c.loop-place.place < length sets = search rules in
    let here = read-at sets c.loop-place.place c.index.result.now lt c.index.ensures in
    elim c.if-is_complete.branch [
      | then-is_complete w ↦ record {
        here = λ k s less e. subst (λ o. IsMeasured o c.if-is_complete.all s) (sym w.span-is) (subst (λ b. IsMeasured before b s) (sym w.all-is)
            (by_same k c.loop-place.place
            (λ q. let is : s ≡ c.index.result.now = some-same (sym e ∙ ap (slice_get sets) q ∙ here) in
            complete-measured before s (ap (λ (x : ChunkSet). is_complete x.chunks) is ∙ sym c.is_complete.ensures ∙ w.if-is_complete.true))
            (λ ne _. complete-more before all s (inv.here k s (omega (arith, less, ne)) e))));
        turns = omega (arith, inv.turns, c.tick.ensures);
      }
      | else-is_complete w ↦ record {
        here = λ k s less e. subst (λ o. IsMeasured o c.if-is_complete.all s) (sym w.span-is)
            (subst (λ b. IsMeasured (Some w.with_set.result) b s) (sym w.all-is) (by_same k c.loop-place.place
            (λ q. let is : s ≡ c.index.result.now = some-same (sym e ∙ ap (slice_get sets) q ∙ here) in
            let there = read-at sets c.loop-place.place w.index-else-is_complete.result.now lt w.index-else-is_complete.ensures in
            let same : s ≡ w.index-else-is_complete.result.now = some-same (sym e ∙ ap (slice_get sets) q ∙ there) in
            incomplete-measured w.with_set.result all s
            (ap (λ (x : ChunkSet). is_complete x.chunks) is ∙ sym c.is_complete.ensures ∙ w.if-is_complete.false)
            (ap (λ (x : ChunkSet). list_any (chunk_outside w.with_set.result) x.chunks) same ∙ w.with_set.ensures.here))
            (λ ne _. incomplete-more before w.with_set.result all s w.with_set.ensures.wider (inv.here k s (omega (arith, less, ne)) e))));
        turns = omega (arith, inv.turns, c.tick.ensures);
      }
    ]

pub returns-in-Some-clause-some : goal.returns-in-Some-clause-some
returns-in-Some-clause-some c =
    let sets = c.args.sets.now.items in
    ap (λ s. sets_outside s sets) c.of_all.ensures ∙ measured-all c.in-Some.span c.loop-place.all sets
    (λ k x e. subst (λ o. IsMeasured o c.loop-place.all x) c.in-Some.is (c.loop-place.invariant.here k x
    (omega (arith, slice_get_within sets k x e, c.loop-place-test.false, c.loop-place.auto.place-end, c.len-place-end.ensures)) e))

pub returns-in-None-clause-none : goal.returns-in-None-clause-none
returns-in-None-clause-none c =
    let sets = c.args.sets.now.items in
    measured-none c.loop-place.all sets (λ k x e. subst (λ o. IsMeasured o c.loop-place.all x) c.in-None.is (c.loop-place.invariant.here k x
    (omega (arith, slice_get_within sets k x e, c.loop-place-test.false, c.loop-place.auto.place-end, c.len-place-end.ensures)) e))
