-- The bytes of what waits and of what is in flight.
use Rattle.sctp_sender.proofs.Names.{◌≡◌, ℕ, ◌+◌, true, false, Bool, List, [], ◌∷◌, length, map, Option, Some, None, refl, ◌∙◌, arith, if◌then◌else◌, ◌==◌}
use Rattle.sctp_sender.proofs.Names.{sum_by-cons, sum_by-append, ChunkPayloadData, Outbound, all_started, append_chunks, as_sent, sent_next, sent_of}
use Rattle.sctp_sender.proofs.Names.{total_bytes, with_message, with_message_id, Pending, is_to_start, next_pending, start_pending, with_deadline, IsSendable}
use Rattle.sctp_sender.proofs.Names.{sendable-changed, sendable-sent, bytes_of-change_where, KeepsMessage, bytes_of, chunk_before}
use Rattle.sctp_outbound.specs.pending_queue.PendingQueue as pending
use Rattle.sctp_outbound.proofs.lemmas.outbound_queue.Sendable.{popped_bytes}
use Rattle.sctp_util.proofs.Edits.{sum_by-inserted}

abbrev size : ChunkPayloadData → ℕ
size c = length c.user_data

numbered-bytes : (n : ℕ) (cs : List ChunkPayloadData) → bytes_of (map (with_message_id n) cs) ≡ bytes_of cs
numbered-bytes n [] = refl
numbered-bytes n (c ∷ cs) =
    let a = sum_by-cons size (with_message_id n c) (map (with_message_id n) cs) in
    let b = sum_by-cons size c cs in
    let d = numbered-bytes n cs in
    omega arith

appended-bytes : (kind : Bool) (cs : List ChunkPayloadData) (q : Pending) → pending.total_bytes (append_chunks kind cs q) ≡ pending.total_bytes q + bytes_of cs
appended-bytes true cs q = let a = sum_by-append size q.unordered cs in omega arith
appended-bytes false cs q = let a = sum_by-append size q.ordered cs in omega arith

pub message-bytes : (cs : List ChunkPayloadData) (q : Outbound) → total_bytes (with_message cs q) ≡ total_bytes q + bytes_of cs
message-bytes [] q = omega arith
message-bytes (c ∷ cs) q =
    let a = appended-bytes c.unordered (map (with_message_id q.next_message_id) (c ∷ cs)) q.pending in
    let b = numbered-bytes q.next_message_id (c ∷ cs) in
    omega arith

-- ## A send moves a chunk, with its bytes

pub started-bytes : (now : ℕ) (q : Outbound) → total_bytes (all_started now q) ≡ total_bytes q
started-bytes now q = by (q.next_unstarted == q.next_message_id)
  where
    by : (b : Bool)
        → total_bytes (if b then q else record q { pending = start_pending q.next_unstarted now q.pending; next_unstarted = q.next_message_id }) ≡ total_bytes q
    by true = refl
    by false =
        let ordered = bytes_of-change_where (is_to_start q.next_unstarted) (with_deadline now) (λ _. refl) q.pending.ordered in
        let unordered = bytes_of-change_where (is_to_start q.next_unstarted) (with_deadline now) (λ _. refl) q.pending.unordered in
        omega arith

started-sendable : (now : ℕ) (q : Outbound) → IsSendable q.pending q.inflight.chunks q.next_message_id
    → IsSendable (all_started now q).pending (all_started now q).inflight.chunks (all_started now q).next_message_id
started-sendable now q s = by (q.next_unstarted == q.next_message_id)
  where
    by : (b : Bool) → let r = if b then q else record q { pending = start_pending q.next_unstarted now q.pending; next_unstarted = q.next_message_id } in
        IsSendable r.pending r.inflight.chunks r.next_message_id
    by true = s
    by false =
        let keeps : KeepsMessage (with_deadline now) = record { number = λ _. refl; begins = λ _. refl; ends = λ _. refl; kind = λ _. refl } in
        sendable-changed _ _ _ _ _ _ _ _ _ (is_to_start q.next_unstarted) (is_to_start q.next_unstarted) (with_deadline now) (with_deadline now) keeps keeps s

moved-bytes : (tsn now : ℕ) (q : Outbound) (o : Option ChunkPayloadData) → next_pending q.pending ≡ o → IsSendable q.pending q.inflight.chunks q.next_message_id
    → total_bytes (sent_of o q tsn now) ≡ total_bytes q
moved-bytes tsn now q None e s = refl
moved-bytes tsn now q (Some c) e s =
    let t = as_sent tsn now c in
    let left = popped_bytes c.beginning_fragment c.unordered q.pending c (sendable-sent q.pending q.inflight.chunks q.next_message_id c t refl s e).taken in
    let more = sum_by-inserted size chunk_before t q.inflight.chunks in
    omega (arith, left, more)

pub sent-bytes : (tsn now : ℕ) (q : Outbound) → IsSendable q.pending q.inflight.chunks q.next_message_id → total_bytes (sent_next q tsn now) ≡ total_bytes q
sent-bytes tsn now q s = moved-bytes tsn now (all_started now q) (next_pending (all_started now q).pending) refl (started-sendable now q s)
    ∙ started-bytes now q
