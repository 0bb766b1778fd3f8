-- Fragments and chunks taken back.
use Rattle.sctp_receiver.proofs.Names.{◌≡◌, ℕ, zero, suc, ◌<◌, Bool, List, [], ◌∷◌, ◌++◌, length, length-set, refl, ap, sym, subst, ◌∙◌, Some, Result, Ok, Err}
use Rattle.sctp_receiver.proofs.Names.{arith, false, slice_get, slice_index_or, slice_set, IfOk, slice_get_read, PushUndo}
use Rattle.sctp_receiver.proofs.Names.{InboundStream, ReceiverRefusal, number}
use Rattle.sctp_receiver.proofs.Names.{ChunkUndo, stream_undone, CanUndoAt, Parts, chunk_undone, chunks_undone, CanUndoChunks}
use Rattle.std.specs.Prelude.{IsSomeAnd}
use Rattle.std.proofs.lemmas.List.{get_or-set_same}
use Rattle.sctp_reassembly.specs.declared.reassembly_queue.undo.PushChange.{PushChange}
use Rattle.sctp_reassembly.specs.declared.reassembly_queue.undo.PushChange.TheVariants.{NotKept}
use Rattle.sctp_reassembly.specs.reassembly_queue.Undo.{change_undone, CanUndo}
use Rattle.sctp_reassembly.proofs.lemmas.reassembly_queue.Undone.{changed-back}
use Rattle.sctp_receiver.specs.Spans.{holds_outside}
use Rattle.sctp_receiver.specs.Undo.{undone_at, CanUndoChunk, IsSpanAt}
use Rattle.sctp_receiver.specs.Visited.{AreSpans}
use Rattle.sctp_receiver.specs.declared.receiver.spans.TsnSpan.{TsnSpan}

-- ## A fragment

pub undone-number : (u : PushUndo) (l : InboundStream) → number (stream_undone u l) ≡ number l
undone-number u l = by u.change
  where
    by : (c : PushChange) → (change_undone c l.queue).si ≡ l.queue.si
    by NotKept = refl
    by _ = refl

-- of a push on the stream at a place
module _ (ls : List InboundStream) (k : ℕ) (x y : InboundStream) (lt : k < length ls) (at : x ≡ slice_index_or ls k x) where
  pub push-undone : (r : Result (Bool × PushUndo) ReceiverRefusal) → IfOk r (λ put. stream_undone put.1 y ≡ x)
      → IfOk r (λ put. undone_at k put.1 (slice_set ls k y) ≡ ls)
  push-undone (Ok put) e = changed-back (stream_undone put.1) k ls y x lt (e ∙ at)
  push-undone (Err f) e = e

  pub push-can : (r : Result (Bool × PushUndo) ReceiverRefusal) → IfOk r (λ put. CanUndo put.1 y.queue) → IfOk r (λ put. CanUndoAt k put.1 (slice_set ls k y))
  push-can (Ok put) can = subst (λ o. IsSomeAnd o (λ l. CanUndo put.1 l.queue)) (sym here) can
    where
      here : slice_get (slice_set ls k y) k ≡ Some y
      here = slice_get_read (slice_set ls k y) (length (slice_set ls k y)) k y refl (omega (arith, lt, length-set ls k y)) (sym (get_or-set_same ls k y y lt))
  push-can (Err f) can = can

-- the stream at the place stands there, and its queue can be taken back
pub can-inside : (k : ℕ) (u : PushUndo) (ls : List InboundStream) → CanUndoAt k u ls → k < length ls
can-inside k u [] can = absurd can
can-inside zero u (l ∷ ls) can = omega arith
can-inside (suc k) u (l ∷ ls) can = let h = can-inside k u ls can in omega (arith, h)

pub can-here : (k : ℕ) (u : PushUndo) (ls : List InboundStream) (x : InboundStream) → x ≡ slice_index_or ls k x → CanUndoAt k u ls → CanUndo u x.queue
can-here k u [] x at can = absurd can
can-here zero u (l ∷ ls) x at can = subst (λ (m : InboundStream). CanUndo u m.queue) (sym at) can
can-here (suc k) u (l ∷ ls) x at can = can-here k u ls x at can

-- the stretch from before covers what it holds then
pub span-undone : (k : ℕ) (s : TsnSpan) (u : PushUndo) (ls : List InboundStream) (x : InboundStream) → x ≡ slice_index_or ls k x
    → IsSpanAt k s (undone_at k u ls) → holds_outside s (stream_undone u x).queue.held ≡ false
span-undone k s u [] x at h = absurd h
span-undone zero s u (l ∷ ls) x at h = subst (λ (m : InboundStream). holds_outside s (stream_undone u m).queue.held ≡ false) (sym at) h
span-undone (suc k) s u (l ∷ ls) x at h = span-undone k s u ls x at h

-- so does the one that is noted
pub span-noted : (k : ℕ) (spans : List TsnSpan) (ls : List InboundStream) (s : TsnSpan) → k < length ls → slice_get spans k ≡ Some s
    → AreSpans spans ls → IsSpanAt k s ls
span-noted k spans ls s lt at are = there k ls lt (λ l. are k s l)
  where
    there : (n : ℕ) (ms : List InboundStream) → n < length ms
        → ((l : InboundStream) → slice_get spans k ≡ Some s → slice_get ms n ≡ Some l → holds_outside s l.queue.held ≡ false) → IsSpanAt n s ms
    there n [] lt f = absurd (none lt)
      where
        none : n < 0 → ⊥
        none lt = omega (arith, lt)
    there zero (m ∷ ms) lt f = f m at refl
    there (suc n) (m ∷ ms) lt f = there n ms (omega (arith, lt)) f

-- ## Several chunks

pub undone-last : (us : List ChunkUndo) (u : ChunkUndo) (p : Parts) → chunks_undone (us ++ u ∷ []) p ≡ chunks_undone us (chunk_undone u p)
undone-last [] u p = refl
undone-last (v ∷ us) u p = ap (chunk_undone v) (undone-last us u p)

pub can-last : (us : List ChunkUndo) (u : ChunkUndo) (p : Parts) → CanUndoChunks (us ++ u ∷ []) p → CanUndoChunk u p × CanUndoChunks us (chunk_undone u p)
can-last [] u p can = (can.1, tt)
can-last (v ∷ us) u p can = let r = can-last us u p can.0 in (r.0, (r.1, subst (CanUndoChunk v) (undone-last us u p) can.1))

pub last-can : (us : List ChunkUndo) (u : ChunkUndo) (p : Parts) → CanUndoChunk u p → CanUndoChunks us (chunk_undone u p) → CanUndoChunks (us ++ u ∷ []) p
last-can [] u p one rest = (tt, one)
last-can (v ∷ us) u p one rest = (last-can us u p one rest.0, subst (CanUndoChunk v) (sym (undone-last us u p)) rest.1)
