use Rattle.sctp_link.proofs.Names.{◌≡◌, ℕ, Bool, length, take, LinkRecord, IsMarking, and_blocks}
use Rattle.sctp_link.proofs.link.sack_in.acknowledge_blocks.Given as goal

abbrev pub invariant-loop-block : goal.invariant-loop-block
invariant-loop-block l = record {
  acked : (w : LinkRecord) (acked : ℕ → Bool) → IsMarking w acked l.initial.slots
      → IsMarking w (and_blocks acked l.cumulative (take l.block-index l.blocks)) l.slots;
  count : length l.slots ≡ length l.initial.slots;
}
