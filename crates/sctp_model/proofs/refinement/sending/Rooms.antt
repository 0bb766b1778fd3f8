-- What a record does not know of the outbound queue: its room, and lifetimes that have all started.
use Rattle.sctp_model.proofs.Names.{◌≡◌, ℕ, Option, Some, None, refl, sym, subst, same-yes, ChunkPayloadData, Outbound, all_started, LinkRecord}
use Rattle.sctp_model.proofs.Names.{RefinesOutbound}
use Rattle.sctp_outbound.specs.outbound_queue.OutboundQueue.{sent_of}

-- more room in flight is nothing that the record knows
pub refines-room : {w : LinkRecord} {q : Outbound} (r : Outbound) (room : ℕ) → r ≡ record q { inflight = record q.inflight { room = room } }
    → RefinesOutbound w q → RefinesOutbound w r
refines-room {w} r room e t = subst (RefinesOutbound w) (sym e)
    (record { pending = t.pending; in_flight = t.in_flight; next = t.next; unstarted = t.unstarted; started = t.started; begun = t.begun })

-- lifetimes that have all started start no more
pub none-start : (q : Outbound) (now : ℕ) → q.next_unstarted ≡ q.next_message_id → all_started now q ≡ q
none-start q now e = cc (e, same-yes q.next_message_id)

pub next-unstarted : (q : Outbound) (tsn now : ℕ) (o : Option ChunkPayloadData) → (sent_of o q tsn now).next_unstarted ≡ q.next_unstarted
next-unstarted q tsn now None = refl
next-unstarted q tsn now (Some c) = refl
