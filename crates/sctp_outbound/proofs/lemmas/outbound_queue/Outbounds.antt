-- What a send leaves.
use Rattle.std.proofs.Common.{◌≡◌, ◌==◌, ℕ, zero, suc, ◌+◌, ◌-◌, ◌<◌, ◌++◌, map, length, take, get_or, max, Bool, true, false, if◌then◌else◌, List, [], ◌∷◌}
use Rattle.std.proofs.Common.{Option, Some, None, is_some, refl, sym, ap, ◌∙◌, arith}
use Rattle.std.proofs.lemmas.List.{map-append}
use Rattle.std.proofs.lemmas.Bool.{false≢true}
use Rattle.std.specs.List.{filter}
use Rattle.sctp_data.specs.declared.chunk.chunk_payload_data.ChunkPayloadData.{ChunkPayloadData}
use Rattle.sctp_util.proofs.Edits.{those-more}
use Rattle.sctp_outbound.specs.declared.pending_queue.Selected.{Selected}
use Rattle.sctp_outbound.specs.outbound_queue.OutboundQueue.{Outbound, all_started, sent_of, sent_peeked, sent_next}
use Rattle.sctp_outbound.specs.pending_queue.PendingQueue.{start_pending, next_pending}

peeked_started : (first now : ℕ) (os us : List ChunkPayloadData) (sel : Option Selected) (ro ru : ℕ)
    → is_some (next_pending (start_pending first now (record { ordered = os; unordered = us; selected = sel; ordered_room = ro; unordered_room = ru })))
    ≡ is_some (next_pending (record { ordered = os; unordered = us; selected = sel; ordered_room = ro; unordered_room = ru }))
peeked_started first now os (u ∷ us) None ro ru = refl
peeked_started first now (o ∷ os) [] None ro ru = refl
peeked_started first now [] [] None ro ru = refl
peeked_started first now os us (Some s) ro ru = by s.unordered os us
  where
    by : (k : Bool) (os us : List ChunkPayloadData) → is_some (next_pending (start_pending first now (record {
      ordered = os;
      unordered = us;
      selected = Some (record { message_id = s.message_id; unordered = k });
      ordered_room = ro;
      unordered_room = ru;
    }))) ≡ is_some (next_pending (record {
      ordered = os;
      unordered = us;
      selected = Some (record { message_id = s.message_id; unordered = k });
      ordered_room = ro;
      unordered_room = ru;
    }))
    by true os [] = refl
    by true os (u ∷ us) = refl
    by false [] us = refl
    by false (o ∷ os) us = refl

-- a start of lifetimes leaves whether a chunk can be sent
pub peeked_all_started : (now : ℕ) (q : Outbound) → is_some (next_pending (all_started now q).pending) ≡ is_some (next_pending q.pending)
peeked_all_started now q = step (q.next_unstarted == q.next_message_id)
  where
    step : (b : Bool) → is_some
        (next_pending (if b then q else record q { pending = start_pending q.next_unstarted now q.pending; next_unstarted = q.next_message_id }).pending)
        ≡ is_some (next_pending q.pending)
    step true = refl
    step false = peeked_started q.next_unstarted now q.pending.ordered q.pending.unordered q.pending.selected q.pending.ordered_room q.pending.unordered_room

none_of : {X : Type 0} (o : Option X) → is_some o ≡ false → o ≡ None
none_of None h = refl
none_of (Some x) h = cc

-- with nothing to send lifetimes start, no more
pub sent_none : (tsn now : ℕ) (q : Outbound) → None ≡ next_pending q.pending → all_started now q ≡ sent_next q tsn now
sent_none tsn now q h =
    ap (λ o. sent_of o (all_started now q) tsn now) (sym (none_of (next_pending (all_started now q).pending) (peeked_all_started now q ∙ ap is_some (sym h))))

-- room that was made for one is gone after a send
taken_room : (q : Outbound) (tsn now : ℕ) (o : Option ChunkPayloadData) → is_some o ≡ true
    → sent_of o (record q { inflight = record q.inflight { room = max 1 q.inflight.room } }) tsn now ≡ sent_of o q tsn now
taken_room q tsn now None h = absurd (false≢true h)
taken_room q tsn now (Some c) h =
    let one : max 1 q.inflight.room - 1 ≡ q.inflight.room - 1 = omega arith in
    ap (λ r. record (sent_of (Some c) q tsn now) { inflight = record (sent_of (Some c) q tsn now).inflight { room = r } }) one

pub sent_some : (tsn now : ℕ) (q : Outbound) → is_some (next_pending q.pending) ≡ true
    → sent_peeked (all_started now (record q { inflight = record q.inflight { room = max 1 q.inflight.room } })) tsn now ≡ sent_next q tsn now
sent_some tsn now q h = step (q.next_unstarted == q.next_message_id) (peeked_all_started now q ∙ h)
  where
    step : (b : Bool) → is_some
        (next_pending (if b then q else record q { pending = start_pending q.next_unstarted now q.pending; next_unstarted = q.next_message_id }).pending) ≡ true
        → sent_peeked (let r = record q { inflight = record q.inflight { room = max 1 q.inflight.room } } in
        if b then r else record r { pending = start_pending r.next_unstarted now r.pending; next_unstarted = r.next_message_id }) tsn now
        ≡ sent_peeked (if b then q else record q { pending = start_pending q.next_unstarted now q.pending; next_unstarted = q.next_message_id }) tsn now
    step true k = taken_room q tsn now (next_pending q.pending) k
    step false k = taken_room (record q { pending = start_pending q.next_unstarted now q.pending; next_unstarted = q.next_message_id }) tsn now
        (next_pending (start_pending q.next_unstarted now q.pending)) k

-- one chunk more is looked at
pub tsns_more : (p : ChunkPayloadData → Bool) (xs : List ChunkPayloadData) (i : ℕ) (x : ChunkPayloadData) (b : Bool) → i < length xs → x ≡ get_or xs i x
    → p x ≡ b → map (λ (c : ChunkPayloadData). c.tsn) (filter p (take (i + 1) xs)) ≡ map (λ (c : ChunkPayloadData). c.tsn)
    (filter p (take i xs)) ++ (if b then x.tsn ∷ [] else [])
tsns_more p xs i x b lt read e =
    ap (map (λ (c : ChunkPayloadData). c.tsn)) (those-more p xs i x lt)
    ∙ map-append (λ (c : ChunkPayloadData). c.tsn) (filter p (take i xs)) _
    ∙ ap (λ (y : ChunkPayloadData). map (λ (c : ChunkPayloadData). c.tsn) (filter p (take i xs)) ++ map (λ (c : ChunkPayloadData). c.tsn) (if p y then y ∷ []
    else [])) (sym read) ∙ ap (λ ts. map (λ (c : ChunkPayloadData). c.tsn) (filter p (take i xs)) ++ ts) (step (p x) b e)
  where
    step : (a b : Bool) → a ≡ b → map (λ (c : ChunkPayloadData). c.tsn) (if a then x ∷ [] else []) ≡ (if b then x.tsn ∷ [] else [])
    step true true e = refl
    step true false e = cc
    step false true e = cc
    step false false e = refl

-- where a chunk is listed the list is not empty
pub none_listed : (p : ChunkPayloadData → Bool) (xs : List ChunkPayloadData) (i : ℕ) (x : ChunkPayloadData) → i < length xs → x ≡ get_or xs i x → p x ≡ true
    → map (λ (c : ChunkPayloadData). c.tsn) (filter p xs) ≡ [] → ⊥
none_listed p [] i x lt read h e = omega (arith, lt)
none_listed p (y ∷ ys) zero x lt read h e = by (p y) (ap p (sym read) ∙ h) e
  where
    by : (b : Bool) → b ≡ true → map (λ (c : ChunkPayloadData). c.tsn) (if b then y ∷ filter p ys else filter p ys) ≡ [] → ⊥
    by true f e = cc
    by false f e = cc
none_listed p (y ∷ ys) (suc i) x lt read h e = none_listed p ys i x (omega (arith, lt)) read h (by (p y) e)
  where
    by : (b : Bool) → map (λ (c : ChunkPayloadData). c.tsn) (if b then y ∷ filter p ys else filter p ys) ≡ []
        → map (λ (c : ChunkPayloadData). c.tsn) (filter p ys) ≡ []
    by true e = cc
    by false e = e
