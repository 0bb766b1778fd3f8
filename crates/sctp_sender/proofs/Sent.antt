-- A chunk that is sent, as it is noted in flight.
use Rattle.sctp_sender.proofs.Names.{◌≡◌, ℕ, Bool, true, false, List, [], ◌∷◌, Option, Some, None, refl, ap, sym, ◌∙◌, if◌then◌else◌, ◌==◌, find, is_some}
use Rattle.sctp_sender.proofs.Names.{option_map, none-some, ChunkPayloadData, same-yes, Outbound, all_started, as_sent, sent_next, sent_of, is_to_start}
use Rattle.sctp_sender.proofs.Names.{next_pending, start_pending, with_deadline, peeked_all_started, chunk_before, has_tsn, Flight, IsContiguous, may_send}
use Rattle.sctp_outbound.specs.declared.pending_queue.Selected.{Selected}
use Rattle.sctp_outbound.specs.payload_queue.PayloadQueue as payload
use Rattle.sctp_sender.specs.declared.sender.refusal.SenderRefusal.TheVariants.{TsnsUsedUp}
use Rattle.sctp_sender.specs.Numbers.{refusal_of, send_refusal, tsn_refusal}
use Rattle.sctp_sender.proofs.Flights.{fresh, started-inflight}
use Rattle.sctp_sender.proofs.Walks.{find-inserted, none-of}

-- ## It gets a deadline alone

abbrev started : ℕ → ℕ → ChunkPayloadData → ChunkPayloadData
started first now x = if is_to_start first x then with_deadline now x else x

abbrev IsTimed : ChunkPayloadData → Option ChunkPayloadData → Type 0
IsTimed c o = (d : Option ℕ) × (o ≡ Some (record c { deadline = d }))

front : (first now : ℕ) (x c : ChunkPayloadData) → Some x ≡ Some c → IsTimed c (Some (started first now x))
front first now x c e = by (is_to_start first x)
  where
    same : x ≡ c
    same = cc

    by : (b : Bool) → IsTimed c (Some (if b then with_deadline now x else x))
    by true = ((with_deadline now x).deadline, ap (λ (y : ChunkPayloadData). Some (record y { deadline = (with_deadline now x).deadline })) same)
    by false = (c.deadline, e)

peeked : (first now : ℕ) (os us : List ChunkPayloadData) (sel : Option Selected) (ro ru : ℕ) (c : ChunkPayloadData)
    → next_pending (record { ordered = os; unordered = us; selected = sel; ordered_room = ro; unordered_room = ru }) ≡ Some c
    → IsTimed c (next_pending (start_pending first now (record { ordered = os; unordered = us; selected = sel; ordered_room = ro; unordered_room = ru })))
peeked first now os (u ∷ us) None ro ru c e = front first now u c e
peeked first now (o ∷ os) [] None ro ru c e = front first now o c e
peeked first now [] [] None ro ru c e = absurd (none-some c e)
peeked first now os us (Some s) ro ru c e = by s.unordered os us e
  where
    by : (k : Bool) (os us : List ChunkPayloadData) → next_pending
        (record { ordered = os; unordered = us; selected = Some (record { message_id = s.message_id; unordered = k }); ordered_room = ro; unordered_room = ru })
        ≡ Some c → IsTimed c (next_pending (start_pending first now (record {
          ordered = os;
          unordered = us;
          selected = Some (record { message_id = s.message_id; unordered = k });
          ordered_room = ro;
          unordered_room = ru;
        })))
    by true os [] f = absurd (none-some c f)
    by true os (u ∷ us) f = front first now u c f
    by false [] us f = absurd (none-some c f)
    by false (o ∷ os) us f = front first now o c f

peeked-started : (now : ℕ) (q : Outbound) (c : ChunkPayloadData) → next_pending q.pending ≡ Some c → IsTimed c (next_pending (all_started now q).pending)
peeked-started now q c e = by (q.next_unstarted == q.next_message_id)
  where
    by : (b : Bool) → IsTimed c
        (next_pending (if b then q else record q { pending = start_pending q.next_unstarted now q.pending; next_unstarted = q.next_message_id }).pending)
    by true = (c.deadline, e)
    by false = peeked q.next_unstarted now q.pending.ordered q.pending.unordered q.pending.selected q.pending.ordered_room q.pending.unordered_room c e

-- ## It is found in flight

noted-of : (o : Option ChunkPayloadData) (q : Outbound) (tsn now : ℕ) → find (has_tsn tsn) q.inflight.chunks ≡ None
    → find (has_tsn tsn) (sent_of o q tsn now).inflight.chunks ≡ option_map (as_sent tsn now) o
noted-of None q tsn now e = e
noted-of (Some c) q tsn now e = find-inserted (has_tsn tsn) chunk_before (as_sent tsn now c) q.inflight.chunks e (same-yes tsn)

pub noted-next : (f : Flight) → IsContiguous f → (now : ℕ) → find (has_tsn f.next_tsn)
    (sent_next f.queue f.next_tsn now).inflight.chunks ≡ option_map (as_sent f.next_tsn now) (next_pending (all_started now f.queue).pending)
noted-next f inv now =
    noted-of (next_pending (all_started now f.queue).pending) (all_started now f.queue) f.next_tsn now
    (ap (λ (p : payload.Payload). find (has_tsn f.next_tsn) p.chunks) (started-inflight now f.queue)
    ∙ none-of (find (has_tsn f.next_tsn) f.queue.inflight.chunks) (fresh f inv))

-- a copy of what waited, with what is noted
pub as-noted : (q : Outbound) (tsn now : ℕ) (c n : ChunkPayloadData) → next_pending q.pending ≡ Some c
    → Some n ≡ option_map (as_sent tsn now) (next_pending (all_started now q).pending)
    → (let r : ChunkPayloadData = record c { tsn = tsn; since = n.since; nsent = n.nsent; deadline = n.deadline } in r) ≡ n
as-noted q tsn now c n e is =
    let t = peeked-started now q c e in
    let sent : n ≡ as_sent tsn now (record c { deadline = t.0 }) = let h = ap (option_map (as_sent tsn now)) t.1 in cc in
    ap (λ (m : ChunkPayloadData). let r : ChunkPayloadData = record c { tsn = tsn; since = m.since; nsent = m.nsent; deadline = m.deadline } in r) sent
    ∙ sym sent

-- with nothing to send nothing is told
pub none-noted : (q : Outbound) (tsn now : ℕ) → None ≡ next_pending q.pending → None ≡ option_map (as_sent tsn now) (next_pending (all_started now q).pending)
none-noted q tsn now none =
    sym (ap (option_map (as_sent tsn now)) (none-of (next_pending (all_started now q).pending) (peeked_all_started now q ∙ ap is_some (sym none))))

-- with something to send something is told
pub some-noted : (q : Outbound) (tsn now : ℕ) (c : ChunkPayloadData) → next_pending q.pending ≡ Some c
    → None ≡ option_map (as_sent tsn now) (next_pending (all_started now q).pending) → ⊥
some-noted q tsn now c e none =
    let t = peeked-started now q c e in
    none-some (as_sent tsn now (record c { deadline = t.0 })) (none ∙ ap (option_map (as_sent tsn now)) t.1)

-- ## What is refused

unrefused-of : (o : Option ChunkPayloadData) (f : Flight) (may : Bool) → may_send f ≡ may → refusal_of o f ≡ None
    → (if may then None else (if is_some o then Some TsnsUsedUp else None)) ≡ None
unrefused-of o f true is e = refl
unrefused-of None f false is e = refl
unrefused-of (Some c) f false is e = let h = rw is at e in cc

-- what may be sent by its number too is not refused
pub unrefused : (f : Flight) → send_refusal f ≡ None → tsn_refusal f ≡ None
unrefused f e = unrefused-of (next_pending f.queue.pending) f (may_send f) refl e
