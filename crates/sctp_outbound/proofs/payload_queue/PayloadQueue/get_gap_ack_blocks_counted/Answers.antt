use Rattle.std.proofs.Math.Nat.{pow-le-pow_right}
use Rattle.std.proofs.Common.{◌≡◌, ℕ, ◌*◌, ◌-◌, ◌<◌, ◌≤◌, List, length, map, min, take, length-take, ap, ◌∙◌, arith}
use Rattle.std.proofs.lemmas.List.{length-map, take_all}
use Rattle.sctp_data.specs.declared.chunk.chunk_selective_ack.GapAckBlock.{GapAckBlock}
use Rattle.sctp_util.specs.Kept.{runs_of}
use Rattle.sctp_serial.specs.Turns.{IsWithinDigits}
use Rattle.sctp_outbound.specs.payload_queue.Blocks.{ends_of, gap_offsets}
use Rattle.sctp_outbound.proofs.payload_queue.PayloadQueue.get_gap_ack_blocks_counted.Goals as goal

-- fewer than the limit are all
all_of : (most : ℕ) (bs : List GapAckBlock) (rs : List (ℕ × ℕ)) → length bs < most → map ends_of bs ≡ take most rs → map ends_of bs ≡ rs
all_of most bs rs lt e = e ∙ take_all most rs (omega (arith, ap length e, length-map bs ends_of, length-take most rs))

-- more blocks allow as many turns
allowed : (n t most l : ℕ) → IsWithinDigits n (t - 34 * min most l - 1) → IsWithinDigits n (t - 34 * l - 1)
allowed n t most l h =
    let le : t - 34 * l - 1 ≤ t - 34 * min most l - 1 = omega arith in
    let less = pow-le-pow_right {n = 2} (omega arith) le in
    omega arith

pub returns-clause-runs : goal.returns-clause-runs
returns-clause-runs c =
    all_of 18446744073709551615 c.in_ok-blocks.blocks.items _ (omega (arith, c.in_ok-blocks.blocks.ok, c.in_ok-blocks.blocks.small)) c.in_ok-blocks.ensures.runs

pub returns-clause-cost_of_runs : goal.returns-clause-cost_of_runs
returns-clause-cost_of_runs c = allowed _ _ 18446744073709551615
    (length (runs_of (gap_offsets c.args.cumulative_tsn c.args.self.now.chunks))) c.get_gap_ack_blocks_within.ensures.cost_of_runs

pub returns-in_err-blocks-clause-cost_of_runs : goal.returns-in_err-blocks-clause-cost_of_runs
returns-in_err-blocks-clause-cost_of_runs c = allowed _ _ 18446744073709551615
    (length (runs_of (gap_offsets c.args.cumulative_tsn c.args.self.now.chunks))) c.get_gap_ack_blocks_within.ensures.cost_of_runs
