use Rattle.std.proofs.Common.{◌≡◌, ◌++◌, drop, map, string_bytes}
use Rattle.sctp_outbound.specs.payload_queue.Blocks.{ends_of, gap_text, runs_text}
use Rattle.sctp_outbound.proofs.payload_queue.PayloadQueue.get_gap_ack_blocks_string.Given as goal

abbrev pub invariant-loop-block : goal.invariant-loop-block
invariant-loop-block l =
    string_bytes l.text ++ runs_text (map ends_of (drop l.block-index l.block-items)) ≡ gap_text l.fn.cumulative_tsn (map ends_of l.block-items)
