use Rattle.std.proofs.Common.{◌<◌, ◌++◌, length, length-set, set, take, drop, refl, sym, ap, ◌∙◌, arith}
use Rattle.std.proofs.lemmas.List.{take-append-drop}
use Rattle.sctp_util.proofs.Edits.{change_where-none, changed_step, rewritten_step}
use Rattle.sctp_outbound.specs.pending_queue.PendingQueue.{is_to_start, with_deadline}
use Rattle.sctp_outbound.proofs.pending_queue.line.start_in.Goals as goal

pub loop-place-init : goal.loop-place-init
loop-place-init c =
    let xs = c.args.chunks.now.items in
    record {
      changed = sym (ap (λ ys. ys ++ drop c.args.from xs) (change_where-none (is_to_start c.args.first_message_id) (with_deadline c.args.now)
          (take c.args.from xs) c.requires.before) ∙ take-append-drop c.args.from xs);
      same_length = refl;
      len = refl;
      capacity = refl;
    }

pub loop-place-preserved : goal.loop-place-preserved
loop-place-preserved c =
    let xs = c.args.chunks.now.items in
    let ys = c.loop-place.chunks.items in
    let i = c.loop-place.place in
    let x = c.index_mut-chunk.result.now in
    let within : i < length xs = omega (arith, c.args.chunks.now.ok.0) in
    record {
      changed = ap (λ d. set ys i record x { deadline = d }) c.deadline_of-chunk.ensures ∙ changed_step (is_to_start c.args.first_message_id)
          (with_deadline c.args.now) xs ys i x within c.loop-place.invariant.changed c.index_mut-chunk.ensures.value (sym c.is_to_start.ensures
          ∙ c.if-not-is_to_start.false);
      same_length = length-set ys i _ ∙ c.loop-place.invariant.same_length;
      len = c.loop-place.invariant.len;
      capacity = c.loop-place.invariant.capacity;
    }

pub loop-place-preserved-then-not-is_to_start : goal.loop-place-preserved-then-not-is_to_start
loop-place-preserved-then-not-is_to_start c =
    let xs = c.args.chunks.now.items in
    let ys = c.loop-place.chunks.items in
    let i = c.loop-place.place in
    let x = c.index_mut-chunk.result.now in
    let within : i < length xs = omega (arith, c.args.chunks.now.ok.0) in
    record {
      changed = rewritten_step (is_to_start c.args.first_message_id) (with_deadline c.args.now) xs ys i x within c.loop-place.invariant.changed
          c.index_mut-chunk.ensures.value (sym c.is_to_start.ensures ∙ c.if-not-is_to_start.true);
      same_length = length-set ys i _ ∙ c.loop-place.invariant.same_length;
      len = c.loop-place.invariant.len;
      capacity = c.loop-place.invariant.capacity;
    }
