use Rattle.std.proofs.Common.{◌≡◌, ℕ, ◌+◌, ◌-◌, ◌^◌, List, length, min, subst, refl, arith}
use Rattle.sctp_data.specs.declared.chunk.chunk_payload_data.ChunkPayloadData.{ChunkPayloadData}
use Rattle.sctp_outbound.specs.payload_queue.Blocks.{IsRunFrom, IsRunUntil, offset_at}
use Rattle.sctp_outbound.proofs.lemmas.payload_queue.Offsets.{number_of}
use Rattle.sctp_outbound.proofs.payload_queue.blocks.long_run_from.Goals as goal

-- the run to the last place
run_to : (cumulative : ℕ) (xs : List ChunkPayloadData) (place offset last reach next behind : ℕ) → reach ≡ min (length xs - place) (2 ^ 16 - offset)
    → IsRunUntil xs (place + reach) place last → next ≡ last + 1 → behind ≡ offset_at cumulative xs next
    → IsRunFrom cumulative xs place offset (record { end = offset + (next - 1 - place); next = next; behind = behind })
run_to cumulative xs place offset last reach next behind e r is told = record {
  some = omega (arith, r.from);
  rises = subst (IsRunUntil xs (place + min (length xs - place) (2 ^ 16 - offset)) place) {x = last} (omega arith)
      (subst (λ n. IsRunUntil xs (place + n) place last) e r);
  ends = refl;
  goes_on = told;
}

pub run_end-last-requires-clause-number : goal.run_end-last-requires-clause-number
run_end-last-requires-clause-number c =
    number_of c.args.cumulative_tsn c.args.held.now.chunks c.ranges.cumulative_tsn.fits c.requires.serial (c.args.place + 4)
    (c.args.offset + 4) c.requires.fifth

pub returns-clause-run : goal.returns-clause-run
returns-clause-run c =
    let xs = c.args.held.now.chunks in
    let far : c.min-reach.result ≡ min (length xs - c.args.place) (2 ^ 16 - c.args.offset) = omega (arith, c.min-reach.ensures) in
    run_to c.args.cumulative_tsn xs c.args.place c.args.offset c.run_end-last.result.0 c.min-reach.result _ _ far c.run_end-last.ensures.run
    refl c.offset_behind-behind.ensures.value
