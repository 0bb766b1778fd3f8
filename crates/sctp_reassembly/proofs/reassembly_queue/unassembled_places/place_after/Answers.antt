use Rattle.std.proofs.Common.{◌≡◌, ℕ, ◌^◌, ◌<◌, length, get_or, sym, ap, ◌∙◌, arith}
use Rattle.std.proofs.lemmas.Bool.Decides.{nat_tests}
use Rattle.sctp_data.specs.declared.chunk.chunk_payload_data.ChunkPayloadData.{ChunkPayloadData}
use Rattle.sctp_reassembly.proofs.lemmas.reassembly_queue.LastFragments.{on_at, on_none}
use Rattle.sctp_reassembly.proofs.lemmas.reassembly_queue.SerialPlaces.{flag_is_on, absent_after, absent_behind, after_one, other_at}
use Rattle.sctp_reassembly.proofs.reassembly_queue.unassembled_places.place_after.Goals as goal
use Rattle.sctp_serial.specs.DataChunks.{following_tsn}

small_next : (n : ℕ) → following_tsn n < 2 ^ 32
small_next n = omega arith

pub returns-then-place-len-clause-none : goal.returns-then-place-len-clause-none
returns-then-place-len-clause-none c =
    let xs = c.args.unassembled.now.chunks in
    let n = c.args.tsn in
    let serial = flag_is_on _ xs c.if-not-is_serial.false c.is_serial.ensures in
    on_none (following_tsn n) xs (absent_after xs serial n c.ranges.tsn.fits c.args.place c.requires (following_tsn n) (small_next n)
    (after_one n c.ranges.tsn.fits) (λ d lt. absurd (omega arith)))

pub returns-then-look-wanted-clause-none : goal.returns-then-look-wanted-clause-none
returns-then-look-wanted-clause-none c =
    let xs = c.args.unassembled.now.chunks in
    let n = c.args.tsn in
    let serial = flag_is_on _ xs c.if-not-is_serial.false c.is_serial.ensures in
    on_none (following_tsn n) xs
    (absent_after xs serial n c.ranges.tsn.fits c.args.place c.requires (following_tsn n) (small_next n) (after_one n c.ranges.tsn.fits)
    (λ d lt. other_at xs c.args.place (following_tsn n) c.look.result.now lt c.look.ensures.value c.if-look-wanted.true d))

pub returns-clause-on : goal.returns-clause-on
returns-clause-on c =
    let xs = c.args.unassembled.now.chunks in
    let n = c.args.tsn in
    let serial = flag_is_on _ xs c.if-not-is_serial.false c.is_serial.ensures in
    let x = c.look.result.now in
    let lt : c.args.place < length xs = omega arith in
    let same : (get_or xs c.args.place x).tsn ≡ following_tsn n = ap (λ (y : ChunkPayloadData). y.tsn) (sym c.look.ensures.value) ∙ c.if-look-wanted.false in
    on_at (following_tsn n) xs c.args.place x lt (grind (arith, nat_tests)) (absent_behind xs serial (following_tsn n) (small_next n) c.args.place x lt same)
