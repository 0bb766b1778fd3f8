-- What is noted of fragments that leave.
use Rattle.sctp_link.proofs.Names.{◌≡◌, ℕ, ◌+◌, true, List, length, Option, Some, None, ap, ◌∙◌, is_some, not, filter, same-yes, ChunkPayloadData, Payload}
use Rattle.sctp_link.proofs.Names.{next_pending, Outbound, all_started, as_sent, sent_next, chunk_before, started-inflight, AreNoted, is_sent_at}
use Rattle.sctp_link.proofs.Names.{filter-inserted, length-inserted}
use Rattle.sctp_outbound.proofs.lemmas.outbound_queue.Outbounds.{peeked_all_started}
use Rattle.sctp_outbound.specs.outbound_queue.OutboundQueue.{sent_of}

pub noted-next : (q : Outbound) (tsn now : ℕ) (c : ChunkPayloadData) → next_pending q.pending ≡ Some c
    → AreNoted now 1 q.inflight.chunks (sent_next q tsn now).inflight.chunks
noted-next q tsn now c shown = by (next_pending (all_started now q).pending) (peeked_all_started now q ∙ ap is_some shown)
  where
    by : (o : Option ChunkPayloadData) → is_some o ≡ true → AreNoted now 1 q.inflight.chunks (sent_of o (all_started now q) tsn now).inflight.chunks
    by None e = cc
    by (Some d) e =
        let same = ap (λ (p : Payload). p.chunks) (started-inflight now q) in
        record {
          more = length-inserted chunk_before (as_sent tsn now d) (all_started now q).inflight.chunks ∙ ap (λ (l : List ChunkPayloadData). length l + 1) same;
          others = filter-inserted (λ x. not (is_sent_at now x)) chunk_before (as_sent tsn now d) (all_started now q).inflight.chunks (ap not (same-yes now))
              ∙ ap (filter (λ x. not (is_sent_at now x))) same;
        }
