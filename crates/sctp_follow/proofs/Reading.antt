-- Ordered messages of I-DATA are read one after the other.
use Rattle.std.proofs.Common.{ℕ, List, [], ◌∷◌, ◌++◌, refl, subst}
use Rattle.sctp_follow.specs.Lanes.{Reads, IsNext}
use Rattle.sctp_follow.specs.declared.interleave.Whole.{Whole}
use Rattle.sctp_follow.specs.declared.lanes.Lane.{Lane}

pub reads_none : (stream : ℕ) (old : Lane) → Reads stream [] old old
unfolding Reads
reads_none stream old = refl

-- one more is read
pub reads_more : (stream : ℕ) (ms : List Whole) (m : Whole) (old mid new : Lane)
    → Reads stream ms old mid → IsNext stream m mid new → Reads stream (ms ++ m ∷ []) old new
unfolding Reads
reads_more stream [] m old mid new r n = (new, subst (λ (x : Lane). IsNext stream m x new) r n, refl)
reads_more stream (x ∷ xs) m old mid new r n = (r.0, r.1, reads_more stream xs m r.0 mid new r.2 n)
