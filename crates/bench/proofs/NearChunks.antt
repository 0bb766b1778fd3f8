-- Chunks close behind the cumulative TSN 0 stay so, and fit in one window with a further one.
use Rattle.std.proofs.Common.{◌≡◌, ℕ, ◌<◌, ◌≤◌, ◌+◌, ◌^◌, Bool, true, false, List, [], ◌∷◌, Option, Some, None, is_some, ap, sym, subst, arith}
use Rattle.std.specs.Prelude.{if◌then◌else◌, ◌==◌}
use Rattle.std.proofs.lemmas.List.Elements.{All-head, All-tail, All-cons, All-nil}
use Rattle.sctp_util.specs.Lists.{insert_before}
use Rattle.sctp_util.specs.Serial.{distance}
use Rattle.sctp_data.specs.declared.chunk.chunk_payload_data.ChunkPayloadData.{ChunkPayloadData}
use Rattle.sctp_serial.specs.DataChunks.{chunk_before}
use Rattle.sctp_outbound.specs.outbound_queue.OutboundQueue.{Outbound, all_started, as_sent, sent_next, sent_of}
use Rattle.sctp_outbound.specs.payload_queue.PayloadQueue.{Payload, push_chunk, add_duplicate}
use Rattle.sctp_outbound.specs.pending_queue.PendingQueue as pending
use Rattle.sctp_serial.specs.Window.{IsWindow, IsWithinHalf, is_held}
use Rattle.sctp_serial.proofs.lemmas.Serials.{not_found}
use Rattle.bench.specs.Near.{AreBelow}

abbrev pub IsBelow : ℕ → ChunkPayloadData → Type 0
IsBelow bound c = (0 < c.tsn) × (c.tsn < bound)

below-inserted : (bound : ℕ) (x : ChunkPayloadData) (cs : List ChunkPayloadData) → IsBelow bound x → AreBelow bound cs
    → AreBelow bound (insert_before chunk_before x cs)
below-inserted bound x [] p h = All-cons (IsBelow bound) x [] p (All-nil (IsBelow bound))
below-inserted bound x (c ∷ cs) p h = step (chunk_before x c) (below-inserted bound x cs p (All-tail (IsBelow bound) c cs h))
  where
    step : (b : Bool) → AreBelow bound (insert_before chunk_before x cs) → AreBelow bound (if b then x ∷ c ∷ cs else c ∷ insert_before chunk_before x cs)
    step true ih = All-cons (IsBelow bound) x (c ∷ cs) p h
    step false ih = All-cons (IsBelow bound) c (insert_before chunk_before x cs) (All-head (IsBelow bound) c cs h) ih

pub wider : (bound : ℕ) (cs : List ChunkPayloadData) → AreBelow bound cs → AreBelow (bound + 1) cs
wider bound cs h = λ k d lt. let i = h k d lt in (i.0, omega (arith, i.1))

within : (tsn : ℕ) → 0 < tsn → tsn < 2 ^ 31 → IsWithinHalf 0 tsn
unfolding distance
within tsn some less = (omega arith, omega arith)

pub window-below : (bound : ℕ) (cs : List ChunkPayloadData) (tsn : ℕ) → bound ≤ 2 ^ 31 → 0 < tsn → tsn < 2 ^ 31 → AreBelow bound cs → IsWindow 0 cs tsn
window-below bound cs tsn few some less h = record {
  base_in_range = omega arith;
  number = within tsn some less;
  held = λ k d lt. let i = h k d lt in within _ i.0 (omega (arith, i.1));
}

pub absent-below : (bound : ℕ) (cs : List ChunkPayloadData) → AreBelow bound cs → is_held cs bound ≡ false
absent-below bound cs h = ap is_some (not_found cs bound (λ k d lt e. let i = h k d lt in omega (arith, i.1, e)))

pub below-pushed : (bound : ℕ) (new q : Payload) (x : ChunkPayloadData) (tsn : ℕ) (b : Bool) → new ≡ (if b then push_chunk q x else add_duplicate q tsn)
    → IsBelow bound x → AreBelow bound q.chunks → AreBelow bound new.chunks
below-pushed bound new q x tsn true e p h = subst (λ (r : Payload). AreBelow bound r.chunks) (sym e) (below-inserted bound x q.chunks p h)
below-pushed bound new q x tsn false e p h = subst (λ (r : Payload). AreBelow bound r.chunks) (sym e) h

pub below-sent : (new q : Outbound) (tsn now : ℕ) → new ≡ sent_next q tsn now → 0 < tsn → AreBelow tsn q.inflight.chunks
    → AreBelow (tsn + 1) new.inflight.chunks
below-sent new q tsn now e some h = subst (λ (r : Outbound). AreBelow (tsn + 1) r.inflight.chunks) (sym e)
    (by (pending.next_pending (all_started now q).pending) (all_started now q) (start (q.next_unstarted == q.next_message_id)))
  where
    by : (o : Option ChunkPayloadData) (r : Outbound) → AreBelow tsn r.inflight.chunks → AreBelow (tsn + 1) (sent_of o r tsn now).inflight.chunks
    by None r h = wider tsn r.inflight.chunks h
    by (Some c) r h = below-inserted (tsn + 1) (as_sent tsn now c) r.inflight.chunks (some, omega arith) (wider tsn r.inflight.chunks h)

    start : (b : Bool) → AreBelow tsn (if b then q
        else record q { pending = pending.start_pending q.next_unstarted now q.pending; next_unstarted = q.next_message_id }).inflight.chunks
    start true = h
    start false = h
