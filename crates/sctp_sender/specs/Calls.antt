-- What calls of a sender do. A relation is of calls that differ in what they count or hand out; what a call answers is handed in.
use Rattle.std.specs.Prelude.{◌≡◌, ◌≢◌, ◌⊎◌, ℕ, true, false, ◌+◌, ◌<◌, ◌≤◌, if◌then◌else◌, List, [], length, Vec}
use Rattle.std.specs.Prelude.{Option, Some, None, is_some, Result, OnOk, OnErr, IfOk, IfErr, IfSome, IsOk, option_to_list}
use Rattle.std.specs.Global.{Global}
use Rattle.std.specs.List.{All, count_by, find, list_any, sum_by}
use Rattle.std.specs.Option.{option_map}
use Rattle.sctp_data.specs.SelectiveAck.{Sack}
use Rattle.sctp_outbound.specs.outbound_queue.OutboundQueue.{all_started, as_sent, expiring, expiring_tail, message_of, total_bytes}
use Rattle.sctp_outbound.specs.pending_queue.PendingQueue.{next_pending}
use Rattle.sctp_serial.specs.DataChunks.{has_tsn}
use Rattle.sctp_sender.specs.declared.sender.Acked.{Acked}
use Rattle.sctp_sender.specs.declared.sender.ExpiredMessage.{ExpiredMessage}
use Rattle.sctp_sender.specs.declared.sender.flight.Released.{Released}
use Rattle.sctp_sender.specs.declared.sender.flight.anew.Anew.{Anew}
use Rattle.sctp_sender.specs.declared.sender.kept.Back.{Back}
use Rattle.sctp_sender.specs.declared.sender.flight.kept.TakenBack.{TakenBack}
use Rattle.sctp_sender.specs.declared.sender.flight.late.AbandonedMessage.{AbandonedMessage}
use Rattle.sctp_sender.specs.declared.sender.refusal.SenderRefusal.{SenderRefusal}
use Rattle.sctp_sender.specs.declared.sender.refusal.SenderRefusal.TheVariants.{OutOfMemory, TsnsUsedUp}
use Rattle.sctp_sender.specs.Costs.{keeping_turns, sack_turns, take_back_turns}
use Rattle.sctp_sender.specs.Flight.{after_sack, can_resend, count_acked, is_outdated, may_send, released_by, reports, reports_anew, sack_refusal}
use Rattle.sctp_sender.specs.Keeping.{AreAnew, Cover, bytes_back, kept_after, places_kept, with_reported_again}
use Rattle.sctp_sender.specs.Reporting.{AreKnown}
use Rattle.sctp_sender.specs.Late.{after_abandoning, leaving_each, tail_first, with_tail}
use Rattle.sctp_sender.specs.Resending.{after_misses, count_before, thirds}
use Rattle.sctp_sender.specs.Sender.{Transmission, after_abandon, after_acked, after_expire, after_send, after_take_back, take_back_refusal, taken_back_by, with_flight, with_streams}
use Rattle.sctp_sender.specs.Thresholds.{falls_on, fell, tells_low, tells_message_low, with_lows, with_message_lows}
use Rattle.sctp_sender.specs.Totals.{bytes_in}

-- ## A SACK (RFC 4960 6.2.1)

-- a SACK is taken: what it no longer reports comes back, and then leaves what it reports anew; or it is refused, and nothing changes
pub record Acknowledges (s : Sack) (old new : Transmission) (result : Result Acked SenderRefusal)
    : Type 0 where
  pub back : IfOk result (λ r. r.taken_back.items ≡ taken_back_by s old)
  pub outstanding : IfOk result
      (λ r. All (λ b. can_resend b.tsn (after_take_back s old).flight ≡ true) r.taken_back.items)
  pub answer : IfOk result (λ r. r.released.items ≡ with_lows
      (released_by s (after_take_back s old).flight) (after_take_back s old).streams)
  pub low : IfOk result (λ r. (n : ℕ)
      → list_any (tells_low n) r.released.items ≡ fell n (after_take_back s old) new)
  pub once : IfOk result (λ r. (n : ℕ) → count_by (tells_low n) r.released.items ≤ 1)
  pub ok : OnOk result (new ≡ after_acked s (after_take_back s old))
  pub bytes : IfOk result (λ r. total_bytes new.flight.queue + bytes_in r.released.items
      ≡ total_bytes old.flight.queue + bytes_back r.taken_back.items)
  pub accepted : IsOk result
      → (sack_refusal s old.flight ≡ None) × (take_back_refusal s old ≡ None)
  pub refused : IfErr result (λ e. ((e ≡ OutOfMemory) × (sack_refusal s old.flight ≡ None))
      ⊎ ((sack_refusal s old.flight ≡ Some e) ⊎ (take_back_refusal s old ≡ Some e)))
  pub outdated : is_outdated s old.flight ≡ true → IsOk result
  pub err : OnErr result (new ≡ old)

-- so many turns are taken for that
pub record CountsSack (s : Sack) (old : Transmission) (turns turns_after : ℕ) : Type 0 where
  pub not_back : turns ≤ turns_after
  pub cost : old.kept ≡ None → turns_after ≤ turns + sack_turns s old.flight
  pub cost_keeping : IfSome old.kept (λ ks. turns_after ≤ turns
      + take_back_turns s old.flight (length (taken_back_by s old))
      + (sack_turns s (after_take_back s old).flight
      + keeping_turns s (after_take_back s old).flight
      (places_kept s (after_take_back s old).flight ks)))
  pub stale : is_outdated s old.flight ≡ true → turns_after ≡ turns
  pub forged : is_some (sack_refusal s old.flight) ≡ true
      → turns_after ≤ turns + length s.gap_ack_blocks

-- of a SACK by which nothing is taken back: it is taken, or refused, and nothing changes then
pub record Acks (s : Sack) (old new : Transmission)
    (result : Result (Vec Released Global) SenderRefusal) : Type 0 where
  pub answer : IfOk result (λ r. r.items ≡ with_lows (released_by s old.flight) old.streams)
  pub low : IfOk result (λ r. (n : ℕ) → list_any (tells_low n) r.items ≡ fell n old new)
  pub once : IfOk result (λ r. (n : ℕ) → count_by (tells_low n) r.items ≤ 1)
  pub ok : OnOk result (new ≡ after_acked s old)
  pub released : IfOk result (λ r. total_bytes new.flight.queue + bytes_in r.items
      ≡ total_bytes old.flight.queue)
  pub accepted : IsOk result → sack_refusal s old.flight ≡ None
  pub refused : IfErr result (λ e. ((e ≡ OutOfMemory) × (sack_refusal s old.flight ≡ None))
      ⊎ (sack_refusal s old.flight ≡ Some e))
  pub outdated : is_outdated s old.flight ≡ true → IsOk result
  pub err : OnErr result (new ≡ old)

-- the same, but the streams stay as they are, and no chunk tells of them
pub record AcksInFlight (s : Sack) (old new : Transmission)
    (result : Result (Vec Released Global) SenderRefusal) : Type 0 where
  pub answer : IfOk result (λ r. r.items ≡ released_by s old.flight)
  pub ok : OnOk result (new ≡ with_streams old.streams (after_acked s old))
  pub released : IfOk result (λ r. total_bytes new.flight.queue + bytes_in r.items
      ≡ total_bytes old.flight.queue)
  pub accepted : IsOk result → sack_refusal s old.flight ≡ None
  pub refused : IfErr result (λ e. ((e ≡ OutOfMemory) × (sack_refusal s old.flight ≡ None))
      ⊎ (sack_refusal s old.flight ≡ Some e))
  pub outdated : is_outdated s old.flight ≡ true → IsOk result
  pub err : OnErr result (new ≡ old)

-- so many turns are taken for that
pub record CountsAcked (s : Sack) (old : Transmission) (turns turns_after : ℕ) : Type 0 where
  pub not_back : turns ≤ turns_after
  pub cost : old.kept ≡ None → turns_after ≤ turns + sack_turns s old.flight
  pub cost_keeping : IfSome old.kept (λ ks. turns_after ≤ turns + sack_turns s old.flight
      + keeping_turns s old.flight (places_kept s old.flight ks))
  pub stale : is_outdated s old.flight ≡ true → turns_after ≡ turns
  pub forged : is_some (sack_refusal s old.flight) ≡ true
      → turns_after ≤ turns + length s.gap_ack_blocks

-- what a SACK makes of what is kept; none where that stays as it is
pub record IsAnew (s : Sack) (t : Transmission) (anew : Option Anew) : Type 0 where
  pub are : IfSome anew
      (λ a. (a.count ≡ count_acked s t.flight) × AreAnew s t.flight a.chunks.items)
  pub current : IfSome anew (λ a. is_outdated s t.flight ≡ false)
  pub taken : IfSome anew (λ a. sack_refusal s t.flight ≡ None)
  pub same : anew ≡ None → (t.kept ≡ None) ⊎ (is_outdated s t.flight ≡ true)
  pub covered : IfSome anew (λ a. IfSome t.kept
      (λ ks. Cover a.reported.items (kept_after s t.flight ks) (after_sack s t.flight)))
  pub known : IfSome anew (λ a. IfSome t.kept
      (λ ks. AreKnown a.reported.items (after_sack s t.flight).queue.inflight.chunks))
  pub few : IfSome anew (λ a. length a.chunks.items
      ≤ count_by (reports_anew s) t.flight.queue.inflight.chunks)
  pub passed : IfSome anew
      (λ a. a.count ≤ count_by (reports s) t.flight.queue.inflight.chunks)
  pub keeps : IfSome anew (λ a. is_some t.kept ≡ true)

-- what a SACK no longer reports is taken back, or that is refused, and nothing changes then
pub record TakesBack (s : Sack) (old new : Transmission)
    (result : Result (Vec TakenBack Global) SenderRefusal) : Type 0 where
  pub answer : IfOk result (λ r. r.items ≡ taken_back_by s old)
  pub ok : OnOk result (new ≡ after_take_back s old)
  pub outstanding : IfOk result (λ r. All (λ b. can_resend b.tsn new.flight ≡ true) r.items)
  pub bytes : IfOk result (λ r. total_bytes new.flight.queue
      ≡ total_bytes old.flight.queue + bytes_back r.items)
  pub accepted : IsOk result → take_back_refusal s old ≡ None
  pub refused : IfErr result (λ e. ((e ≡ OutOfMemory) × (sack_refusal s old.flight ≡ None))
      ⊎ (take_back_refusal s old ≡ Some e))
  pub idle : old.kept ≡ None → IsOk result
  pub outdated : is_outdated s old.flight ≡ true → IsOk result
  pub err : OnErr result (new ≡ old)

-- what a SACK no longer reports is in flight again, or that is refused, and nothing changes then; the streams stay as they are
pub record Restores (s : Sack) (old new : Transmission) (result : Result Back SenderRefusal)
    : Type 0 where
  pub answer : IfOk result (λ r. r.told.answered.items ≡ taken_back_by s old)
  pub ok : OnOk result (new ≡ with_streams old.streams (after_take_back s old))
  pub outstanding : IfOk result
      (λ r. All (λ b. can_resend b.tsn new.flight ≡ true) r.told.answered.items)
  pub bytes : IfOk result (λ r. total_bytes new.flight.queue
      ≡ total_bytes old.flight.queue + bytes_back r.told.answered.items)
  pub accepted : IsOk result → take_back_refusal s old ≡ None
  pub refused : IfErr result (λ e. ((e ≡ OutOfMemory) × (sack_refusal s old.flight ≡ None))
      ⊎ (take_back_refusal s old ≡ Some e))
  pub idle : old.kept ≡ None → IsOk result
  pub outdated : is_outdated s old.flight ≡ true → IsOk result
  pub err : OnErr result (new ≡ old)

-- what was noted is as it was, once these places are acknowledged again
pub record CanUndo (b : Back) (old new : Transmission) : Type 0 where
  pub within : All (λ k. k < length new.flight.queue.inflight.chunks) b.told.places.items
  pub same : with_reported_again b.told.places.items new.flight ≡ old.flight
  pub few : length b.told.places.items ≡ length b.told.answered.items
  pub cover : IfSome b.before (λ bs. IfSome old.kept (λ ks. Cover bs.items ks old.flight))
  pub known : IfSome b.before (λ bs. AreKnown bs.items old.flight.queue.inflight.chunks)
  pub none : b.before ≡ None → b.told.places.items ≡ []

-- so many turns are taken for that, where so many chunks come back
pub record CountsBack (s : Sack) (old : Transmission) (back turns turns_after : ℕ) : Type 0 where
  pub not_back : turns ≤ turns_after
  pub cost : turns_after ≤ turns + take_back_turns s old.flight back
  pub nothing_kept : old.kept ≡ None → turns_after ≡ turns
  pub stale : is_outdated s old.flight ≡ true → turns_after ≡ turns
  pub forged : is_some (sack_refusal s old.flight) ≡ true
      → turns_after ≤ turns + length s.gap_ack_blocks

-- ## Sending (RFC 4960 6.1, 7.2.4)

-- the fragment that is next is sent and its TSN answered, or it is refused for the reason that is handed in, or for memory
pub record SendsTsn (refusal : Option SenderRefusal) (now : ℕ) (old new : Transmission)
    (result : Result (Option ℕ) SenderRefusal) : Type 0 where
  pub answer : IfOk result (λ sent. sent
      ≡ option_map (λ _. old.flight.next_tsn) (next_pending old.flight.queue.pending))
  pub noted : next_pending old.flight.queue.pending ≢ None → OnOk result
      (find (has_tsn old.flight.next_tsn) new.flight.queue.inflight.chunks
      ≡ option_map (as_sent old.flight.next_tsn now)
      (next_pending (all_started now old.flight.queue).pending))
  pub ok : OnOk result (new ≡ after_send now old)
  pub bytes : OnOk result (total_bytes new.flight.queue ≡ total_bytes old.flight.queue)
  pub accepted : IsOk result → refusal ≡ None
  pub refused : IfErr result (λ e. ((e ≡ OutOfMemory) × (refusal ≡ None)) ⊎ (refusal ≡ Some e))
  pub succeeds : 0 < old.flight.queue.inflight.room → refusal ≡ None → IsOk result
  pub idle : next_pending old.flight.queue.pending ≡ None → IsOk result
  pub err : OnErr result (new ≡ old)

-- each outstanding chunk before a TSN is missing once more; so many are newly marked
pub record Misses (before : ℕ) (old new : Transmission) (marked : ℕ) : Type 0 where
  pub missed : new
      ≡ with_flight (after_misses (count_before before old.flight) old.flight) old
  pub thirds : marked ≡ length (thirds (count_before before old.flight) old.flight)

-- ## What is late (RFC 3758 3.5, 4.1; RFC 7496 3.1)

-- the message in front is removed, where it is past its deadline and wholly unsent
pub record Expires (now : ℕ) (old new : Transmission) (result : Option ExpiredMessage) : Type 0
  where
    pub some : IfSome result (λ r. IfSome (expiring now old.flight.queue)
        (λ c. (r.stream ≡ c.stream_identifier) × (new ≡ after_expire c r.bytes now old)))
    pub none : is_some result ≡ is_some (expiring now old.flight.queue)
    pub idle : result ≡ None → new ≡ old
    pub released : IfSome result (λ r. total_bytes new.flight.queue + r.bytes
        ≡ total_bytes old.flight.queue)
    pub low : IfSome result (λ r. r.is_low ≡ fell r.stream old new)

-- the rest of the partially sent message in front is abandoned, where it is past its deadline
pub record ExpiresTail (now : ℕ) (old new : Transmission)
    (result : Result (Option AbandonedMessage) SenderRefusal) : Type 0 where
  pub some : IfOk result (λ r. IfSome r (λ a. new ≡ after_abandon
      (message_of (expiring_tail now old.flight.queue)) a.stream a.bytes old))
  pub answer : IfOk result (λ r. option_map {U = ℕ × ℕ} (λ a. (a.stream, a.number)) r
      ≡ option_map {U = ℕ × ℕ}
      (λ c. (c.stream_identifier, c.message_id)) (expiring_tail now old.flight.queue))
  pub none : IfOk result (λ r. r ≡ None → new ≡ old)
  pub released : IfOk result (λ r. total_bytes new.flight.queue
      + sum_by (λ g. g.bytes) (option_to_list r) ≡ total_bytes old.flight.queue)
  pub falls : IfOk result (λ r. IfSome r
      (λ a. a.is_low ≡ falls_on a.stream a.bytes old.streams))
  pub low : IfOk result (λ r. IfSome r (λ a. a.is_low ≡ fell a.stream old new))
  pub accepted : IsOk result
      → (expiring_tail now old.flight.queue ≡ None) ⊎ (may_send old.flight ≡ true)
  pub refused : IfErr result (λ e. e
      ≡ (if may_send old.flight then OutOfMemory else TsnsUsedUp))
  pub succeeds : 0 < old.flight.queue.inflight.room → may_send old.flight ≡ true → IsOk result
  pub idle : expiring_tail now old.flight.queue ≡ None → IsOk result
  pub err : OnErr result (new ≡ old)

-- the messages of these TSNs in flight are abandoned, that of which some waits first
pub record AbandonsEach (tsns : List ℕ) (old new : Transmission)
    (result : Result (Vec AbandonedMessage Global) SenderRefusal) : Type 0 where
  pub ok : OnOk result (new ≡ after_abandoning (tail_first tsns old.flight) old)
  pub answer : IfOk result (λ gone. gone.items
      ≡ with_message_lows (leaving_each (tail_first tsns old.flight) old.flight) old.streams)
  pub low : IfOk result
      (λ gone. (n : ℕ) → list_any (tells_message_low n) gone.items ≡ fell n old new)
  pub once : IfOk result (λ gone. (n : ℕ) → count_by (tells_message_low n) gone.items ≤ 1)
  pub released : IfOk result (λ gone. total_bytes new.flight.queue
      + sum_by (λ g. g.bytes) gone.items ≡ total_bytes old.flight.queue)
  pub accepted : IsOk result
      → (with_tail tsns old.flight ≡ None) ⊎ (may_send old.flight ≡ true)
  pub refused : IfErr result (λ e. (e ≡ OutOfMemory)
      ⊎ ((e ≡ TsnsUsedUp) × (may_send old.flight ≡ false)
      × (is_some (with_tail tsns old.flight) ≡ true)))
  pub none : IfOk result (λ gone. gone.items ≡ [] → tsns ≡ [])
  pub idle : tsns ≡ [] → IsOk result
  pub err : OnErr result (new ≡ old)
