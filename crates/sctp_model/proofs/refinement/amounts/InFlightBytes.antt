-- The bytes that the queue in flight holds are those that the record says.
use Rattle.sctp_model.proofs.Names.{◌≡◌, ℕ, zero, suc, ◌+◌, ◌-◌, ◌<◌, ◌≤◌, Bool, true, false, List, [], ◌∷◌, length, refl, ap, sym, ◌∙◌, arith, if◌then◌else◌}
use Rattle.sctp_model.proofs.Names.{◌==◌, ◌||◌, not, max, nat_tests, sum_by-cons, numbers_where, always, total_over, fails, total-none, total-append}
use Rattle.sctp_model.proofs.Names.{total-where, total-kept_same, numbers-append, ChunkPayloadData, bytes_of, Outbound, Report, Setup, LinkRecord, message_at}
use Rattle.sctp_model.proofs.Names.{slot_at, message_of, in_all, written_bytes, in_flight_bytes, Ledger, ledger, is_acknowledged_in, taken_in, chunk_at}
use Rattle.sctp_model.proofs.Names.{History, record_of, IsRun, IsSetup, stream_of_slot, bytes_at, bytes_but_for, acknowledged_at, acknowledged_then, sending_by}
use Rattle.sctp_model.proofs.Names.{IsInFlight, sending_of, RefinesOutbound}
use Rattle.sctp_outbound.specs.pending_queue.PendingQueue.{total_bytes}
use Rattle.sctp_model.specs.declared.event.Event.TheVariants as E
use Rattle.sctp_model.proofs.sender.Shape.{shape}
use Rattle.sctp_model.proofs.sender.Sender.{Sender}
use Rattle.sctp_model.proofs.sender.SenderRun.{consistent-run}
use Rattle.sctp_model.proofs.sender.Fronts.{mark-abandoned, slot-sent}
use Rattle.sctp_model.proofs.acknowledgement.Acknowledged.{acknowledged_is_reported}
use Rattle.sctp_model.proofs.acknowledgement.Bytes.{balances}
use Rattle.sctp_model.proofs.refinement.acknowledging.Acked.{in-flight-first}
use Rattle.sctp_model.proofs.refinement.sending.KindsRun.{taken-run}
use Rattle.sctp_model.proofs.refinement.amounts.PendingBytes.{pending-bytes}
use Rattle.sctp_model.proofs.refinement.acknowledging.Unacked.{in-flight-in}
use Rattle.sctp_model.proofs.refinement.sending.InFlight.{head_of, tail_of}

-- ## A chunk

-- the payload of a slot in flight is what the slot holds, nothing where it is acknowledged
pub payload-bytes : (w : LinkRecord) (acked : Bool) (p : ℕ) → Sender (shape w) → p < length w.slots
    → length (sending_by w acked p).chunk.payload ≡ (if acked then 0 else bytes_at w p)
payload-bytes w true p s lt = refl
payload-bytes w false p s lt =
    by (slot_at w p).is_terminal_chunk (message_at w (message_of w p)).expired (message_at w (message_of w p)).abandoned (chunk_at w p).user_data
    (fails (message_at w (message_of w p)).expired (λ e. absurd (omega (arith, s.expired_unsent (message_of w p) (s.made p lt) e, slot-sent (shape w) p s lt))))
    (mark-abandoned (shape w) p s lt)
  where
    by : (m x a : Bool) (bytes : List ℕ) → x ≡ false → (m ≡ true → a ≡ true) → length (if a then [] else bytes) ≡ (if m || (x || a) then 0 else length bytes)
    by m b a bytes e terminals = grind (arith, nat_tests)

pub chunk-bytes : (w : LinkRecord) (acked : Bool) (p : ℕ) (c : ChunkPayloadData) → Sender (shape w) → p < length w.slots → sending_of c ≡ sending_by w acked p
    → length c.user_data ≡ (if acked then 0 else bytes_at w p)
chunk-bytes w acked p c s lt e = ap (λ x. length x.chunk.payload) e ∙ payload-bytes w acked p s lt

-- what a chunk in flight has of stream t, by the chunk and by the record
pub chunk-on : (w : LinkRecord) (acked : Bool) (p t : ℕ) (c : ChunkPayloadData) → Sender (shape w) → p < length w.slots → sending_of c ≡ sending_by w acked p
    → (if c.stream_identifier == t then length c.user_data else 0) ≡ (if stream_of_slot w p == t then (if acked then 0 else bytes_at w p) else 0)
chunk-on w acked p t c s lt e = grind (arith, nat_tests, chunk-bytes)

-- ## The queue

abbrev size : ChunkPayloadData → ℕ
size c = length c.user_data

bytes-by_slot : (w : LinkRecord) (acked : ℕ → Bool) → Sender (shape w) → (cs : List ChunkPayloadData) (from count : ℕ) → from + count ≤ length w.slots
    → IsInFlight w acked from count cs → bytes_of cs ≡ total_over (λ p. if acked p then 0 else bytes_at w p) (numbers_where always from count)
bytes-by_slot w acked s [] from zero le e = refl
bytes-by_slot w acked s [] from (suc count) le e = cc
bytes-by_slot w acked s (c ∷ cs) from zero le e = cc
bytes-by_slot w acked s (c ∷ cs) from (suc count) le e =
    sum_by-cons size c cs
    ∙ ap (λ t. t + bytes_of cs) (chunk-bytes w (acked from) from c s (omega (arith, le)) (ap (λ l. head_of l (sending_of c)) e))
    ∙ ap (λ t. (if acked from then 0 else bytes_at w from) + t) (bytes-by_slot w acked s cs (from + 1) count (omega (arith, le)) (ap tail_of e))

-- the queue holds the bytes that are not acknowledged, where each slot before its first is
pub bytes-unacked : (w : LinkRecord) (acked : ℕ → Bool) (cs : List ChunkPayloadData) (from : ℕ) → Sender (shape w) → from ≤ length w.slots
    → ((p : ℕ) → p < from → acked p ≡ true) → IsInFlight w acked from (length w.slots - from) cs → bytes_of cs ≡ bytes_but_for w acked
bytes-unacked w acked cs from s le before e =
    let f : ℕ → ℕ = λ p. if acked p then 0 else bytes_at w p in
    let queue = bytes-by_slot w acked s cs from (length w.slots - from) (omega (arith, le)) e in
    let none = total-none f 0 from (λ k a b. ap (λ c. if c then 0 else bytes_at w k) (before k (omega arith))) in
    let two = total-append f (numbers_where always 0 from) (numbers_where always from (length w.slots - from)) in
    let all : from + (length w.slots - from) ≡ length w.slots = omega (arith, le) in
    let complete = ap (total_over f) (numbers-append from (length w.slots - from) ∙ ap (numbers_where always 0) all) in
    let held = total-where (bytes_at w) (λ p. not (acked p)) 0 (length w.slots) in
    let same = total-kept_same (λ p. if not (acked p) then bytes_at w p else 0) f always 0 (length w.slots) (λ k a b. turned (acked k) (bytes_at w k)) in
    omega (arith, queue, none, two, complete, held, same)
  where
    turned : (b : Bool) (k : ℕ) → (if not b then k else 0) ≡ (if b then 0 else k)
    turned true k = refl
    turned false k = refl

-- ## In every history

acknowledged-below : (setup : Setup) (h : History) (p : ℕ) → p < taken_in setup h → is_acknowledged_in setup h p ≡ true
acknowledged-below setup [] p lt = absurd (omega arith)
acknowledged-below setup ((E.Acked k, r) ∷ older) p lt = grind (arith, nat_tests, acknowledged-below setup older p)
acknowledged-below setup ((event, r) ∷ older) p lt = acknowledged-below setup older p lt

-- what is acknowledged cumulatively is acknowledged
pub taken-acknowledged : (setup : Setup) (h : History) → IsSetup setup → IsRun setup h → (p : ℕ) → p < (record_of setup h).taken
    → acknowledged_at (record_of setup h) p ≡ true
taken-acknowledged setup h is run p lt = grind (arith, nat_tests, acknowledged_is_reported, taken-run, acknowledged-below)

pub in-flight-bytes : (setup : Setup) (h : History) → IsSetup setup → IsRun setup h → (q : Outbound) → RefinesOutbound (record_of setup h) q
    → bytes_of q.inflight.chunks ≡ in_all (record_of setup h) (in_flight_bytes (record_of setup h))
in-flight-bytes setup h is run q t =
    let w = record_of setup h in
    let s = (consistent-run setup h run).sender in
    bytes-unacked w (acknowledged_at w) q.inflight.chunks w.taken s (taken-run setup h is run) (taken-acknowledged setup h is run) (in-flight-first w q t)
    ∙ sym (in-flight-in w s)

-- the four sums, by what was written and what the queues hold
abbrev pub ledger_by : ℕ → ℕ → ℕ → Ledger
ledger_by written pending in_flight = record { written = written; pending = pending; in_flight = in_flight; released = written - pending - in_flight }

pub ledger-is : (setup : Setup) (h : History) → IsSetup setup → IsRun setup h → (q : Outbound) → RefinesOutbound (record_of setup h) q
    → ledger (record_of setup h) ≡ ledger_by (in_all (record_of setup h) (written_bytes (record_of setup h))) (total_bytes q.pending)
    (bytes_of q.inflight.chunks)
ledger-is setup h is run q t = grind (arith, nat_tests, in-flight-bytes, pending-bytes, balances)

-- ## A SACK is taken

-- what it acknowledges cumulatively is acknowledged then, with what was before
pub then-below : (w : LinkRecord) (r : Report) (p : ℕ) → ((k : ℕ) → k < w.taken → acknowledged_at w k ≡ true) → p < max w.taken r.cumulative
    → acknowledged_then w r p ≡ true
then-below w r p before lt = grind (arith, nat_tests)
