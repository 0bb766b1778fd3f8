use Rattle.std.proofs.Common.{◌≡◌, ℕ, ◌-◌, ◌^◌, ◌<◌, length, get_or, sym, ap, ◌∙◌, arith}
use Rattle.std.proofs.lemmas.Bool.Decides.{nat_tests}
use Rattle.sctp_data.specs.declared.chunk.chunk_payload_data.ChunkPayloadData.{ChunkPayloadData}
use Rattle.sctp_reassembly.proofs.lemmas.reassembly_queue.LastFragments.{back_at, back_none}
use Rattle.sctp_reassembly.proofs.lemmas.reassembly_queue.SerialPlaces.{flag_is_on, absent_before, absent_behind, before_one, other_at, place_upto}
use Rattle.sctp_reassembly.proofs.reassembly_queue.unassembled_places.place_before.Goals as goal
use Rattle.sctp_reassembly.proofs.reassembly_queue.unassembled_places.place_before.Goals.{then-near-tsn-via-then-near-tsn}
use Rattle.sctp_reassembly.proofs.reassembly_queue.unassembled_places.place_before.Goals.{then-near-tsn-via-else-near-tsn+then-place-eq1}
use Rattle.sctp_serial.specs.DataChunks.{preceding_tsn}

small_previous : (n : ℕ) → preceding_tsn n < 2 ^ 32
small_previous n = omega arith

pub returns-then-place-eq0-clause-none : goal.returns-then-place-eq0-clause-none
returns-then-place-eq0-clause-none c =
    let xs = c.args.unassembled.now.chunks in
    let n = c.args.tsn in
    let serial = flag_is_on _ xs c.if-not-is_serial.false c.is_serial.ensures in
    back_none (preceding_tsn n) xs (absent_before xs serial n c.ranges.tsn.fits c.args.place c.requires (preceding_tsn n) (small_previous n)
    (before_one n c.ranges.tsn.fits) (λ d some. absurd (omega arith)) (λ d more is. absurd (omega arith)))

pub look-requires : goal.look-requires
look-requires c = omega (arith, place_upto c.args.tsn c.args.unassembled.now.chunks c.args.place c.requires)

pub returns-then-near-wanted-clause-in_range : goal.returns-then-near-wanted-clause-in_range
returns-then-near-wanted-clause-in_range c = omega (arith, place_upto c.args.tsn c.args.unassembled.now.chunks c.args.place c.requires)

pub returns-then-near-wanted-clause-back : goal.returns-then-near-wanted-clause-back
returns-then-near-wanted-clause-back c =
    let xs = c.args.unassembled.now.chunks in
    let n = c.args.tsn in
    let serial = flag_is_on _ xs c.if-not-is_serial.false c.is_serial.ensures in
    let x = c.look.result.now in
    let k = c.args.place - 1 in
    let lt : k < length xs = omega (arith, place_upto n xs c.args.place c.requires) in
    let same : (get_or xs k x).tsn ≡ preceding_tsn n = ap (λ (y : ChunkPayloadData). y.tsn) (sym c.look.ensures.value) ∙ c.if-near-wanted.true in
    back_at (preceding_tsn n) xs k x lt (grind (arith, nat_tests)) (absent_behind xs serial (preceding_tsn n) (small_previous n) k x lt same)

pub returns-then-near-tsn-clause-none : goal.returns-then-near-tsn-clause-none
returns-then-near-tsn-clause-none c =
    let xs = c.args.unassembled.now.chunks in
    let n = c.args.tsn in
    let serial = flag_is_on _ xs c.if-not-is_serial.false c.is_serial.ensures in
    let x = c.look.result.now in
    let k = c.args.place - 1 in
    let lt : k < length xs = omega (arith, place_upto n xs c.args.place c.requires) in
    back_none (preceding_tsn n) xs
    (absent_before xs serial n c.ranges.tsn.fits c.args.place c.requires (preceding_tsn n) (small_previous n) (before_one n c.ranges.tsn.fits)
    (λ d some. other_at xs k (preceding_tsn n) x lt c.look.ensures.value c.if-near-wanted.false d)
    (λ d more is. elim c.then-near-tsn.branch [
      | then-near-tsn-via-then-near-tsn w ↦ absurd (other_at xs k n x lt c.look.ensures.value w.if-near-tsn.true d is)
      | then-near-tsn-via-else-near-tsn+then-place-eq1 w ↦ absurd (omega (arith, w.if-place-eq1.true))
    ]))

pub look-requires-2 : goal.look-requires-2
look-requires-2 c = omega (arith, place_upto c.args.tsn c.args.unassembled.now.chunks c.args.place c.requires)

pub returns-then-look-wanted-clause-none : goal.returns-then-look-wanted-clause-none
returns-then-look-wanted-clause-none c =
    let xs = c.args.unassembled.now.chunks in
    let n = c.args.tsn in
    let serial = flag_is_on _ xs c.if-not-is_serial.false c.is_serial.ensures in
    let within = place_upto n xs c.args.place c.requires in
    back_none (preceding_tsn n) xs
    (absent_before xs serial n c.ranges.tsn.fits c.args.place c.requires (preceding_tsn n) (small_previous n) (before_one n c.ranges.tsn.fits)
    (λ d some. other_at xs (c.args.place - 1) (preceding_tsn n) c.look.result.now (omega arith) c.look.ensures.value c.if-near-wanted.false d)
    (λ d more is. other_at xs (c.args.place - 2) (preceding_tsn n) c.look-2.result.now (omega arith) c.look-2.ensures.value c.if-look-wanted.true d))

pub returns-clause-in_range : goal.returns-clause-in_range
returns-clause-in_range c = omega (arith, place_upto c.args.tsn c.args.unassembled.now.chunks c.args.place c.requires)

pub returns-clause-back : goal.returns-clause-back
returns-clause-back c =
    let xs = c.args.unassembled.now.chunks in
    let n = c.args.tsn in
    let serial = flag_is_on _ xs c.if-not-is_serial.false c.is_serial.ensures in
    let x = c.look-2.result.now in
    let k = c.args.place - 2 in
    let lt : k < length xs = omega (arith, place_upto n xs c.args.place c.requires) in
    let same : (get_or xs k x).tsn ≡ preceding_tsn n = ap (λ (y : ChunkPayloadData). y.tsn) (sym c.look-2.ensures.value) ∙ c.if-look-wanted.false in
    back_at (preceding_tsn n) xs k x lt (grind (arith, nat_tests)) (absent_behind xs serial (preceding_tsn n) (small_previous n) k x lt same)
