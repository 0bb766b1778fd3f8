use Rattle.std.proofs.Common.{◌≡◌, ◌+◌, ◌<◌, ◌^◌, true, ℕ, refl, sym, ◌∙◌, subst, arith}
use Rattle.std.proofs.lemmas.Bool.{false≢true}
use Rattle.std.proofs.lemmas.Bool.Decides.{nat_tests}
use Rattle.sctp_serial.specs.Runs.{IsRising}
use Rattle.sctp_outbound.specs.payload_queue.Blocks.{IsAtOffset, is_offset}
use Rattle.sctp_outbound.proofs.lemmas.payload_queue.Gaps.{rising_on}
use Rattle.sctp_outbound.proofs.lemmas.payload_queue.Offsets.{at_offset, place_small, rises_one, run_ended}
use Rattle.sctp_outbound.proofs.payload_queue.blocks.last_run_from.Goals as goal
use Rattle.sctp_outbound.proofs.payload_queue.blocks.last_run_from.Goals.{then-behind-end-via-then-behind-end}
use Rattle.sctp_outbound.proofs.payload_queue.blocks.last_run_from.Goals.{then-behind-end-via-else-behind-end+then-not-is_offset}

small_offset : (n : ℕ) → is_offset n ≡ true → n < 2 ^ 16
small_offset n h = grind (arith, nat_tests)

is_small : (n : ℕ) → 0 < n → n < 2 ^ 16 → is_offset n ≡ true
is_small n some small = grind (arith, nat_tests)

-- there are fewer places than a word can count
pub overflow_add-next : goal.overflow_add-next
overflow_add-next c = let few = place_small c.args.held.now.chunks c.requires.serial c.args.place c.requires.at.in_range in omega arith

pub overflow_add-next-in-loop-walked : goal.overflow_add-next-in-loop-walked
overflow_add-next-in-loop-walked c = let few = place_small c.args.held.now.chunks c.requires.serial c.args.place c.requires.at.in_range in omega arith

pub returns-then-behind-end-clause-run : goal.returns-then-behind-end-clause-run
returns-then-behind-end-clause-run c =
    let walked = c.loop-walked.walked in
    let inv = c.loop-walked.invariant in
    let behind = c.offset_behind-behind.result in
    let told = c.offset_behind-behind.ensures.value in
    run_ended c.args.cumulative_tsn c.args.held.now.chunks c.ranges.cumulative_tsn.fits c.requires.serial c.args.place c.args.offset (c.args.place + walked)
    (c.args.offset + walked) _ c.requires.at (omega arith) (omega arith) inv.rising inv.at refl (omega arith) told
    (λ e small. elim c.then-behind-end.branch [
      | then-behind-end-via-then-behind-end w ↦ w.if-behind-end.true e
      | then-behind-end-via-else-behind-end+then-not-is_offset w ↦ absurd (false≢true (sym w.if-not-is_offset.true ∙ w.is_offset.ensures
          ∙ is_small behind (omega arith) small))
    ])

pub loop-walked-preserved : goal.loop-walked-preserved
loop-walked-preserved c =
    let xs = c.args.held.now.chunks in
    let cumulative = c.args.cumulative_tsn in
    let fits = c.ranges.cumulative_tsn.fits in
    let place = c.args.place in
    let walked = c.loop-walked.walked in
    let far = c.args.offset + walked in
    let inv = c.loop-walked.invariant in
    let told = c.offset_behind-behind.ensures.value in
    let small = small_offset c.offset_behind-behind.result (sym c.is_offset.ensures ∙ c.if-not-is_offset.false) in
    let at = at_offset cumulative xs fits (place + walked + 1) (far + 1) (sym c.if-behind-end.false ∙ told) (omega arith) (omega (arith, small)) in
    let rising = rising_on xs place (place + walked) (place + walked + 1) inv.rising
    (rises_one cumulative xs fits c.requires.serial (place + walked) far inv.at at) in
    record {
      rising = subst (IsRising xs place) {x = place + walked + 1} {y = place + (walked + 1)} (omega arith) rising;
      at = subst (λ k. IsAtOffset cumulative xs k (c.args.offset + (walked + 1))) {x = place + walked + 1} {y = place + (walked + 1)} (omega arith)
          (subst (IsAtOffset cumulative xs (place + walked + 1)) {x = far + 1} {y = c.args.offset + (walked + 1)} (omega arith) at);
      not_back = omega arith;
      cost = omega arith;
    }
