use Rattle.std.proofs.Common.{◌≡◌, ◌<◌, ◌++◌, length, length-set, get_or, set, take, drop, refl, sym, subst, ap, ◌∙◌, arith}
use Rattle.std.proofs.lemmas.Bool.Decides.{nat_tests}
use Rattle.std.proofs.lemmas.List.Sums.{sum_by-set}
use Rattle.sctp_util.specs.Lists.{change_where}
use Rattle.sctp_outbound.specs.Marks.{IsBetween, is_of, as_abandoned}
use Rattle.sctp_outbound.specs.payload_queue.PayloadQueue.{Payload}
use Rattle.sctp_serial.proofs.lemmas.Serials.{serial_set_of}
use Rattle.sctp_util.proofs.Edits.{changed_step, unchanged_step}
use Rattle.sctp_outbound.proofs.lemmas.payload_queue.Between.{each-changed, none-yet}
use Rattle.sctp_outbound.proofs.payload_queue.PayloadQueue.abandon_between.Goals as goal

pub loop-place-preserved : goal.loop-place-preserved
loop-place-preserved c =
    let b : IsBetween c.args.message_id c.args.start c.args.end c.self.inside.held.chunks =
    subst (λ (q : Payload). IsBetween c.args.message_id c.args.start c.args.end q.chunks) (sym c.self.view_is) c.requires in
    let xs = c.self.inside.held.chunks in
    let ys = c.loop-place.self-inside.held.chunks in
    let i = c.loop-place.place in
    let x = c.look.result.now in
    let within : i < length xs = omega (arith, b.inside) in
    let short : i < length ys = omega (arith, c.loop-place.invariant.same_length) in
    let read = sym c.look.ensures.value in
    let bytes = sum_by-set (λ (x : _). length x.user_data) ys i (as_abandoned (get_or ys i x)) x short in
    let same : (get_or ys i x) ≡ x = read in
    rw (c.mark.ensures.changed x) record {
      changed = ap (λ u. set ys i (as_abandoned u)) same ∙ changed_step (is_of c.args.message_id) as_abandoned xs ys i x within c.loop-place.invariant.changed
          c.look.ensures.value (grind (arith, nat_tests, c.if-look-message_id.false));
      same_length = length-set ys i _ ∙ c.loop-place.invariant.same_length;
      serial = serial_set_of as_abandoned (λ _. refl) ys i x short c.loop-place.invariant.serial;
      counted = omega (arith, c.loop-place.invariant.counted, c.mark.ensures.left x);
      fewer = omega (arith, c.loop-place.invariant.fewer);
      room = c.loop-place.invariant.room;
      same = c.loop-place.invariant.same;
    }

pub loop-place-preserved-then-look-message_id : goal.loop-place-preserved-then-look-message_id
loop-place-preserved-then-look-message_id c =
    let b : IsBetween c.args.message_id c.args.start c.args.end c.self.inside.held.chunks =
    subst (λ (q : Payload). IsBetween c.args.message_id c.args.start c.args.end q.chunks) (sym c.self.view_is) c.requires in
    let xs = c.self.inside.held.chunks in
    let ys = c.loop-place.self-inside.held.chunks in
    let within : c.loop-place.place < length xs = omega (arith, b.inside) in
    record {
      changed = unchanged_step (is_of c.args.message_id) as_abandoned xs ys c.loop-place.place c.look.result.now within c.loop-place.invariant.changed
          c.look.ensures.value (grind (arith, nat_tests, c.if-look-message_id.true));
      same_length = c.loop-place.invariant.same_length;
      serial = c.loop-place.invariant.serial;
      counted = c.loop-place.invariant.counted;
      fewer = c.loop-place.invariant.fewer;
      room = c.loop-place.invariant.room;
      same = c.loop-place.invariant.same;
    }

pub loop-place-init : goal.loop-place-init
loop-place-init c =
    let b : IsBetween c.args.message_id c.args.start c.args.end c.self.inside.held.chunks =
    subst (λ (q : Payload). IsBetween c.args.message_id c.args.start c.args.end q.chunks) (sym c.self.view_is) c.requires in
    record {
      changed = none-yet c.args.message_id as_abandoned c.args.start c.args.end c.self.inside.held.chunks b;
      same_length = refl;
      serial = c.self.invariant.serial;
      counted = c.self.invariant.counted;
      fewer = omega arith;
      room = refl;
      same = refl;
    }

pub returns-clause-abandoned : goal.returns-clause-abandoned
returns-clause-abandoned c =
    let b : IsBetween c.args.message_id c.args.start c.args.end c.self.inside.held.chunks =
    subst (λ (q : Payload). IsBetween c.args.message_id c.args.start c.args.end q.chunks) (sym c.self.view_is) c.requires in
    let xs = c.self.inside.held.chunks in
    let last : c.loop-place.place ≡ c.args.end = omega (arith, b.order) in
    let all = c.loop-place.invariant.changed ∙ ap (λ k. change_where (is_of c.args.message_id) as_abandoned (take k xs) ++ drop k xs) last
    ∙ each-changed c.args.message_id as_abandoned c.args.start c.args.end xs b in
    rw (← c.self.view_is) (cc)
