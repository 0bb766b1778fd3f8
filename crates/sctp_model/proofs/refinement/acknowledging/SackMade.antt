-- The next SACK says what the filter of TSNs holds.
use Rattle.sctp_model.proofs.Names.{◌≡◌, ℕ, ◌<◌, ◌≤◌, ◌^◌, List, length, take, ap, sym, runs_of, ChunkPayloadData, gap_offsets, LinkRecord, report_of, seen_of}
use Rattle.sctp_model.proofs.Names.{tsns}
use Rattle.sctp_model.proofs.refinement.arriving.FilterQueue.{distances-is}

-- its gap blocks are the first that fit of those that the queue tells
pub blocks-are : (w : LinkRecord) (credit : ℕ) (cs : List ChunkPayloadData) → w.skipped ≤ length w.slots → length w.slots < 2 ^ 31 → tsns cs ≡ (seen_of w).held
    → (report_of w credit).blocks ≡ take 16379 (runs_of (gap_offsets (seen_of w).cum cs))
blocks-are w credit cs made few held = ap (λ ds. take 16379 (runs_of ds)) (sym (distances-is w cs made few held))
