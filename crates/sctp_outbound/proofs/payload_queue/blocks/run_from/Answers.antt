use Rattle.std.proofs.Common.{◌≡◌, ◌+◌, ℕ, List, map, get_or, refl, sym, ap, ◌∙◌, subst, arith}
use Rattle.sctp_data.specs.declared.chunk.chunk_payload_data.ChunkPayloadData.{ChunkPayloadData}
use Rattle.sctp_util.specs.Serial.{distance}
use Rattle.sctp_serial.specs.Runs.{IsRising}
use Rattle.sctp_outbound.specs.payload_queue.Blocks.{IsAtOffset, offset_at}
use Rattle.sctp_outbound.proofs.lemmas.payload_queue.Gaps.{rising_on}
use Rattle.sctp_outbound.proofs.lemmas.payload_queue.Offsets.{at_offset, place_small, rises_one, run_ended}
use Rattle.sctp_outbound.proofs.payload_queue.blocks.run_from.Goals as goal

-- what was read is the distance of the place
read : (cumulative : ℕ) (xs : List ChunkPayloadData) (tsns : List ℕ) (place far : ℕ) → tsns ≡ map (λ (x : ChunkPayloadData). x.tsn) xs
    → far ≡ distance cumulative (get_or tsns place cumulative) → far ≡ offset_at cumulative xs place
read cumulative xs tsns place far same e = e ∙ ap (λ ns. distance cumulative (get_or ns place cumulative)) same

-- there are fewer places than a word can count
pub overflow_add-next : goal.overflow_add-next
overflow_add-next c = let few = place_small c.args.held.now.chunks c.requires.serial c.args.place c.requires.at.in_range in omega arith

pub overflow_add-next-in-loop-walked : goal.overflow_add-next-in-loop-walked
overflow_add-next-in-loop-walked c = let few = place_small c.args.held.now.chunks c.requires.serial c.args.place c.requires.at.in_range in omega arith

pub overflow_add-next-in-loop-walked-2 : goal.overflow_add-next-in-loop-walked-2
overflow_add-next-in-loop-walked-2 c = let few = place_small c.args.held.now.chunks c.requires.serial c.args.place c.requires.at.in_range in omega arith

pub returns-then-behind-offset-clause-run : goal.returns-then-behind-offset-clause-run
returns-then-behind-offset-clause-run c =
    let xs = c.args.held.now.chunks in
    let told = read c.args.cumulative_tsn xs c.args.tsns.now (c.args.place + 1) c.offset_at-behind.result c.requires.tsns c.offset_at-behind.ensures.value in
    run_ended c.args.cumulative_tsn xs c.ranges.cumulative_tsn.fits c.requires.serial c.args.place c.args.offset c.args.place c.args.offset _ c.requires.at
    (omega arith) (omega arith) (λ k d ge below. absurd (omega arith)) c.requires.at refl refl told (λ e small. c.if-behind-offset.true e)

-- the second TSN
pub loop-walked-init : goal.loop-walked-init
loop-walked-init c =
    let xs = c.args.held.now.chunks in
    let cumulative = c.args.cumulative_tsn in
    let fits = c.ranges.cumulative_tsn.fits in
    let told = read cumulative xs c.args.tsns.now (c.args.place + 1) c.offset_at-behind.result c.requires.tsns c.offset_at-behind.ensures.value in
    let at = at_offset cumulative xs fits (c.args.place + 1) (c.args.offset + 1) (sym c.if-behind-offset.false ∙ told) (omega arith) (omega arith) in
    record {
      rising = rises_one cumulative xs fits c.requires.serial c.args.place c.args.offset c.requires.at at;
      at = at;
      turns = omega arith;
    }

pub returns-then-behind-end-clause-run : goal.returns-then-behind-end-clause-run
returns-then-behind-end-clause-run c =
    let walked = c.loop-walked.walked in
    let inv = c.loop-walked.invariant in
    let behind = c.offset_at-behind-in-loop-walked.result in
    let told = read c.args.cumulative_tsn c.args.held.now.chunks c.args.tsns.now (c.args.place + walked + 1) behind c.requires.tsns
    c.offset_at-behind-in-loop-walked.ensures.value in
    run_ended c.args.cumulative_tsn c.args.held.now.chunks c.ranges.cumulative_tsn.fits c.requires.serial c.args.place c.args.offset (c.args.place + walked)
    (c.args.offset + walked) _ c.requires.at (omega arith) (omega arith) inv.rising inv.at refl refl told (λ e small. c.if-behind-end.true e)

pub loop-walked-preserved : goal.loop-walked-preserved
loop-walked-preserved c =
    let xs = c.args.held.now.chunks in
    let cumulative = c.args.cumulative_tsn in
    let fits = c.ranges.cumulative_tsn.fits in
    let place = c.args.place in
    let walked = c.loop-walked.walked in
    let far = c.args.offset + walked in
    let inv = c.loop-walked.invariant in
    let told = read cumulative xs c.args.tsns.now
    (place + walked + 1) c.offset_at-behind-in-loop-walked.result c.requires.tsns c.offset_at-behind-in-loop-walked.ensures.value in
    let at = at_offset cumulative xs fits (place + walked + 1) (far + 1) (sym c.if-behind-end.false ∙ told) (omega arith) (omega arith) in
    let rising = rising_on xs place (place + walked) (place + walked + 1) inv.rising
    (rises_one cumulative xs fits c.requires.serial (place + walked) far inv.at at) in
    record {
      rising = subst (IsRising xs place) {x = place + walked + 1} {y = place + (walked + 1)} (omega arith) rising;
      at = subst (λ k. IsAtOffset cumulative xs k (c.args.offset + (walked + 1))) {x = place + walked + 1} {y = place + (walked + 1)} (omega arith)
          (subst (IsAtOffset cumulative xs (place + walked + 1)) {x = far + 1} {y = c.args.offset + (walked + 1)} (omega arith) at);
      turns = omega arith;
    }
