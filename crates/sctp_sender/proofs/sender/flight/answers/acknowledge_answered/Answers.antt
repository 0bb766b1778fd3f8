use Rattle.sctp_sender.proofs.Names.{rules, ◌≡◌, ◌+◌, ◌-◌, ◌<◌, length, set, take, get_or, ap, sym, ◌∙◌, arith, list_any, get_or_default, change_where}
use Rattle.sctp_sender.proofs.Names.{length-change_where, as_acknowledged, with_inflight, Outbound, following_tsn, is_of_chunk, is_answered}
use Rattle.sctp_sender.proofs.Anew.{all-at}
use Rattle.sctp_sender.proofs.Runs.{any_chunk}
use Rattle.sctp_sender.proofs.Answered.{any_answered, none-acknowledged, one-acknowledged, stands-at}
use Rattle.sctp_sender.proofs.sender.flight.answers.acknowledge_answered.Goals as goal

pub loop-one-init : goal.loop-one-init
loop-one-init c = record { queue = ap (with_inflight c.args.queue.now) (sym (none-acknowledged c.args.queue.now.inflight.chunks)); turns = search rules }

pub overflow_sub-place : goal.overflow_sub-place
overflow_sub-place c =
    let cs = c.args.queue.now.inflight.chunks in
    let rs = c.args.released.now in
    let i = c.loop-one.one-index in
    let lt : i < length rs = c.loop-one-test.true in
    let at = stands-at c.args.acked_tsn cs c.ranges.acked_tsn.fits c.requires.run c.requires.few (get_or rs i any_answered)
    (all-at (λ r. list_any (is_of_chunk r) cs) rs i any_answered c.requires.answered lt) any_chunk in
    let far = c.distance.ensures.value ∙ at.far in
    omega (arith, far)

pub mark_as_acked_at-requires : goal.mark_as_acked_at-requires
mark_as_acked_at-requires c =
    let cs = c.args.queue.now.inflight.chunks in
    let rs = c.args.released.now in
    let i = c.loop-one.one-index in
    let lt : i < length rs = c.loop-one-test.true in
    let at = stands-at c.args.acked_tsn cs c.ranges.acked_tsn.fits c.requires.run c.requires.few (get_or rs i any_answered)
    (all-at (λ r. list_any (is_of_chunk r) cs) rs i any_answered c.requires.answered lt) any_chunk in
    let far = c.distance.ensures.value ∙ at.far in
    let n = ap (λ (o : Outbound). length o.inflight.chunks) c.loop-one.invariant.queue ∙ length-change_where (is_answered (take i rs)) as_acknowledged cs in
    let here = at.lt in
    omega (arith, far, n, here)

pub loop-one-preserved : goal.loop-one-preserved
loop-one-preserved c =
    let q = c.args.queue.now in
    let now = c.loop-one.queue in
    let cs = q.inflight.chunks in
    let ys = now.inflight.chunks in
    let rs = c.args.released.now in
    let i = c.loop-one.one-index in
    let lt : i < length rs = c.loop-one-test.true in
    let r = get_or rs i any_answered in
    let at = stands-at c.args.acked_tsn cs c.ranges.acked_tsn.fits c.requires.run c.requires.few r
    (all-at (λ r. list_any (is_of_chunk r) cs) rs i any_answered c.requires.answered lt) any_chunk in
    let far = c.distance.ensures.value ∙ at.far in
    let place : c.distance.result - 1 ≡ at.k = omega (arith, far) in
    record {
      queue = c.mark_as_acked_at.ensures.acked any_chunk ∙ ap (λ k. with_inflight now (set ys k (as_acknowledged (get_or ys k any_chunk)))) place
          ∙ ap (with_inflight now) (one-acknowledged (following_tsn c.args.acked_tsn) cs ys rs i at.k r any_chunk (omega arith) c.requires.run c.requires.few lt
          (get_or_default rs i any_answered r lt) at.lt at.tsn (ap (λ (o : Outbound). o.inflight.chunks) c.loop-one.invariant.queue))
          ∙ ap (λ (o : Outbound). with_inflight o (change_where (is_answered (take (i + 1) rs)) as_acknowledged cs)) c.loop-one.invariant.queue;
      turns = omega (arith, c.tick.ensures, c.loop-one.invariant.turns);
    }
