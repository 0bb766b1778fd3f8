use Rattle.std.proofs.Common.{◌≡◌, ◌<◌, not, true, length, sym, ap, subst, ◌∙◌, drop, arith}
use Rattle.std.proofs.lemmas.List.{get_or_default, at_drop_all}
use Rattle.std.specs.List.{All, sum_by, remove, filter}
use Rattle.std.proofs.lemmas.Grind.{common_steps}
use Rattle.sctp_reassembly.specs.reassembly_queue.Counts.{set_chunks}
use Rattle.sctp_reassembly.specs.reassembly_queue.Orders.{IsInOrder}
use Rattle.sctp_reassembly.proofs.lemmas.reassembly_queue.SkipCosts.{drop_removed, left_with, order_here, order_behind}
use Rattle.std.proofs.lemmas.List.Edits.{length-remove}
use Rattle.std.proofs.lemmas.List.Sums.{sum_by-cons}
use Rattle.sctp_data.specs.ChunkSet.{ChunkSet}
use Rattle.sctp_serial.specs.DataChunks.{bytes_of}
use Rattle.sctp_reassembly.specs.reassembly_queue.ReassemblyQueue.{set_bytes}
use Rattle.sctp_reassembly.specs.reassembly_queue.Skips.{is_discarded}
use Rattle.sctp_reassembly.proofs.reassembly_queue.skips.discard.Goals as goal
use Rattle.sctp_util.proofs.Edits.{removed_step, removed_next}

pub loop-place-preserved : goal.loop-place-preserved
loop-place-preserved c =
    let xs = c.loop-place.sets.items in
    let i = c.loop-place.place in
    let x = c.index.result.now in
    let within : i < length xs = omega arith in
    let n = length-remove xs i within in
    let passed : is_discarded c.args.passed c.args.bound x ≡ true = sym c.is_discarded.ensures.value ∙ c.if-not-is_discarded.false in
    let taken = ap (λ (s : ChunkSet). bytes_of s.chunks) (c.in-Some.ensures.value ∙ get_or_default xs i c.in-Some.set x within ∙ sym c.index.ensures) in
    let left = left_with xs i x within c.index.ensures in
    let next = removed_next (is_discarded c.args.passed c.args.bound) xs i x within c.index.ensures passed in
    let sums = ap (sum_by (λ (s : ChunkSet). bytes_of s.chunks)) next in
    rw c.in-Some.ensures.items record {
      in_range = omega arith;
      kept = removed_step (λ s. not (is_discarded c.args.passed c.args.bound s)) xs i x within c.index.ensures (ap not passed) ∙ c.loop-place.invariant.kept;
      small = omega (arith, c.saturating_add-gone.ensures);
      counted = omega (
        arith,
        c.loop-place.invariant.counted,
        sums,
        taken,
        sum_by-cons (λ (s : ChunkSet). bytes_of s.chunks) x (filter (is_discarded c.args.passed c.args.bound) (drop i (remove xs i))),
        c.bytes_gone.ensures,
        c.saturating_add-gone.ensures,
      );
      not_back = omega (arith, c.loop-place.invariant.not_back, c.is_discarded.ensures.not_back);
      in_order = λ h. subst (All IsInOrder) (sym (drop_removed i xs)) (order_behind xs i x within (c.loop-place.invariant.in_order h));
      few = λ e h. omega (
        arith,
        c.loop-place.invariant.few e h,
        left.0,
        ap length (drop_removed i xs),
        c.is_discarded.ensures.few e (order_here xs i x within c.index.ensures (c.loop-place.invariant.in_order h)),
      );
      walk = omega (
        arith,
        c.loop-place.invariant.walk,
        left.0,
        left.1,
        ap length (drop_removed i xs),
        ap set_chunks (drop_removed i xs),
        c.is_discarded.ensures.walk,
      );
    }

pub loop-place-init : goal.loop-place-init
loop-place-init c = record {
  in_range = omega arith;
  kept = grind (arith, common_steps);
  small = omega arith;
  counted = grind (arith, common_steps);
  not_back = omega arith;
  in_order = λ h. h;
  few = λ e h. omega arith;
  walk = omega arith;
}

pub loop-place-preserved-then-not-is_discarded : goal.loop-place-preserved-then-not-is_discarded
loop-place-preserved-then-not-is_discarded c =
    let xs = c.loop-place.sets.items in
    let i = c.loop-place.place in
    let x = c.index.result.now in
    let within : i < length xs = omega arith in
    let left = left_with xs i x within c.index.ensures in
    record {
      in_range = omega arith;
      kept = grind (arith, common_steps);
      small = c.loop-place.invariant.small;
      counted = grind (arith, common_steps);
      not_back = omega (arith, c.loop-place.invariant.not_back, c.is_discarded.ensures.not_back);
      in_order = λ h. order_behind xs i x within (c.loop-place.invariant.in_order h);
      few = λ e h. omega (
        arith,
        c.loop-place.invariant.few e h,
        left.0,
        c.is_discarded.ensures.few e (order_here xs i x within c.index.ensures (c.loop-place.invariant.in_order h)),
      );
      walk = omega (arith, c.loop-place.invariant.walk, left.0, left.1, c.is_discarded.ensures.walk);
    }

pub returns-clause-few : goal.returns-clause-few
returns-clause-few c e h = omega (arith, c.loop-place.invariant.few e h)

pub returns-clause-walk : goal.returns-clause-walk
returns-clause-walk c = omega (arith, c.loop-place.invariant.walk)

pub returns-clause-bytes : goal.returns-clause-bytes
returns-clause-bytes c = omega (
  arith,
  c.loop-place.invariant.counted,
  at_drop_all (λ xs. set_bytes (filter (is_discarded c.args.passed c.args.bound) xs)) c.loop-place.sets.items c.loop-place.place (omega arith),
)
