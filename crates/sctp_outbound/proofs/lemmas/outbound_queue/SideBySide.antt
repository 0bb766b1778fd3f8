-- The chunks of one message are put in flight side by side, under TSNs that rise by one.
use Rattle.std.proofs.Common.{◌≡◌, ◌==◌, ℕ, Bool, true, false, not, ◌||◌, ◌&&◌, if◌then◌else◌, List, [], ◌∷◌, map, max, Option, Some, None, is_some, slice_get}
use Rattle.std.proofs.Common.{◌⊎◌, inl, inr, refl, sym, ap, ap₂, ◌∙◌, subst, arith}
use Rattle.std.specs.List.{find, list_any, filter}
use Rattle.std.specs.Option.{option_map}
use Rattle.std.proofs.lemmas.Bool.{false≢true}
use Rattle.std.proofs.lemmas.Bool.Decides.{nat_tests}
use Rattle.std.proofs.lemmas.Option.{none-some}
use Rattle.sctp_data.specs.declared.chunk.chunk_payload_data.ChunkPayloadData.{ChunkPayloadData}
use Rattle.sctp_util.specs.Lists.{change_where, insert_before}
use Rattle.sctp_util.proofs.Edits.{list_any-inserted}
use Rattle.sctp_outbound.specs.declared.pending_queue.Selected.{Selected}
use Rattle.sctp_serial.specs.DataChunks.{chunk_before, has_tsn, following_tsn, is_on}
use Rattle.sctp_outbound.specs.Marks.{as_acknowledged, as_abandoned, is_of, is_outstanding, with_miss_indicator, with_nsent, with_retransmit, with_since}
use Rattle.sctp_outbound.specs.outbound_queue.Numbering.{Call, push, start_timed_messages, send_next, abandon, expire_pending, expire_pending_tail, pop}
use Rattle.sctp_outbound.specs.outbound_queue.Numbering.{mark_as_acked, mark_all_to_retransmit, set_retransmit, set_nsent, set_since, set_miss_indicator}
use Rattle.sctp_outbound.specs.outbound_queue.Numbering.{reserve, reserve_inflight, IsFit, AreFit, Stand, put_before, after, after_all, at_first, AfterEachRun}
use Rattle.sctp_outbound.specs.outbound_queue.Numbering.{StandsBehind, StandInLine, RiseByOne, AreConsecutive, is_at, WasPut, PutsInFlight, terminal_chunk_of}
use Rattle.sctp_outbound.specs.outbound_queue.OutboundQueue.{Outbound, abandoned_of, all_started, append_chunks, terminal_chunk, expired_of, expiring}
use Rattle.sctp_outbound.specs.outbound_queue.OutboundQueue.{expiring_tail, is_expired_tail, message_of, as_sent, passing, sent_of, to_abandon, tsn_after_of}
use Rattle.sctp_outbound.specs.outbound_queue.OutboundQueue.{with_terminal_chunk, with_inflight, with_message_id}
use Rattle.sctp_outbound.specs.payload_queue.PayloadQueue as payload
use Rattle.sctp_outbound.specs.pending_queue.PendingQueue.{Pending, closed_up, is_to_start, last_removed, list_of, list_to_pop, one_lower, next_pending}
use Rattle.sctp_outbound.specs.pending_queue.PendingQueue.{chunk_to_pop_from, with_room, rest_after, rest_from, selected_after, selected_without, start_pending}
use Rattle.sctp_outbound.specs.pending_queue.PendingQueue.{with_deadline, without}
use Rattle.sctp_outbound.specs.pending_queue.Whole.{GoesOn, IsMessageOrNone, IsSendable, partial_of, partially_sent, waits}
use Rattle.sctp_outbound.proofs.lemmas.outbound_queue.Abandoned.{last_is_of, last_removed_none, no_last, sendable-abandoned, those_empty}
use Rattle.sctp_outbound.proofs.lemmas.outbound_queue.Outbounds.{peeked_all_started}
use Rattle.sctp_outbound.proofs.lemmas.outbound_queue.Sendable.{found_in, goes_on, partial_gone, partial_in_front, made, sendable-changed, sendable-fewer}
use Rattle.sctp_outbound.proofs.lemmas.outbound_queue.Sendable.{sendable-ordered_changed, sendable-pushed, sendable-sent, sendable-without}
use Rattle.sctp_outbound.proofs.lemmas.pending_queue.CompleteMessages.{KeepsMessage, list_any-change_where}
use Rattle.sctp_util.proofs.Cases.{or-left, or-right}

-- ## What is kept

-- whether a test looks at nothing but the message and the TSN
abbrev pub LooksAtNumbers : (ChunkPayloadData → Bool) → Type 0
LooksAtNumbers p = (c d : ChunkPayloadData) → c.message_id ≡ d.message_id → c.tsn ≡ d.tsn → p c ≡ p d

-- the TSN is behind that of the last chunk put in flight
abbrev pub IsNextOf : ℕ → List ChunkPayloadData → Type 0
IsNextOf tsn [] = Unit {0}
IsNextOf tsn (d ∷ ds) = tsn ≡ following_tsn d.tsn

-- the last chunk put in flight is of the message
abbrev pub IsLast : ℕ → List ChunkPayloadData → Type 0
IsLast m [] = ⊥
IsLast m (d ∷ ds) = d.message_id ≡ m

abbrev pub Covers : List ChunkPayloadData → List ChunkPayloadData → Type 0
Covers put inflight = (p : ChunkPayloadData → Bool) → LooksAtNumbers p → list_any p inflight ≡ true → list_any p put ≡ true

-- the queue stays sendable with all that was ever put in flight in place of what is there now
pub record IsKept (s : Stand) : Type 0 where
  pub sendable : IsSendable s.queue.pending s.put s.queue.next_message_id
  pub covers : Covers s.put s.queue.inflight.chunks
  pub in_line : StandInLine s.put
  pub next : IsNextOf s.next s.put
  pub partial : (m : ℕ) → partially_sent s.queue.pending ≡ Some m → IsLast m s.put

-- nothing is put in flight
quiet : (q r : Outbound) (next : ℕ) (put : List ChunkPayloadData) → IsKept (record { queue = q; next = next; put = put })
    → IsSendable r.pending put r.next_message_id → Covers put r.inflight.chunks
    → ((m : ℕ) → partially_sent r.pending ≡ Some m → partially_sent q.pending ≡ Some m) → IsKept (record { queue = r; next = next; put = put })
quiet q r next put k s covers partial = record {
  sendable = s;
  covers = covers;
  in_line = k.in_line;
  next = k.next;
  partial = λ m h. k.partial m (partial m h);
}

behind : (t : ChunkPayloadData) (next : ℕ) (put : List ChunkPayloadData) → t.tsn ≡ next → IsNextOf next put
    → (list_any (is_of t.message_id) put ≡ true → IsLast t.message_id put) → StandsBehind t put
behind t next [] e n last = tt
behind t next (d ∷ ds) e n last = (e ∙ n, last)

-- a chunk is put in flight
puts : (q r : Outbound) (next : ℕ) (put : List ChunkPayloadData) (t : ChunkPayloadData) → IsKept (record { queue = q; next = next; put = put }) → t.tsn ≡ next
    → IsSendable r.pending (t ∷ put) r.next_message_id → Covers (t ∷ put) r.inflight.chunks → ((m : ℕ) → partially_sent r.pending ≡ Some m → t.message_id ≡ m)
    → (list_any (is_of t.message_id) put ≡ true → IsLast t.message_id put) → IsKept (record { queue = r; next = following_tsn next; put = t ∷ put })
puts q r next put t k e s covers partial last = record {
  sendable = s;
  covers = covers;
  in_line = (behind t next put e k.next last, k.in_line);
  next = ap following_tsn (sym e);
  partial = partial;
}

-- ## What is in flight

any_changed : (p : ChunkPayloadData → Bool) → LooksAtNumbers p → (t : ChunkPayloadData → Bool) (f : ChunkPayloadData → ChunkPayloadData)
    → ((c : ChunkPayloadData) → (f c).message_id ≡ c.message_id) → ((c : ChunkPayloadData) → (f c).tsn ≡ c.tsn) → (xs : List ChunkPayloadData)
    → list_any p (change_where t f xs) ≡ list_any p xs
any_changed p looks t f same same' [] = refl
any_changed p looks t f same same' (x ∷ xs) = ap₂ (λ a b. a || b) (step (t x)) (any_changed p looks t f same same' xs)
  where
    step : (b : Bool) → p (if b then f x else x) ≡ p x
    step true = looks (f x) x (same x) (same' x)
    step false = refl

covers-changed : (put xs : List ChunkPayloadData) (t : ChunkPayloadData → Bool) (f : ChunkPayloadData → ChunkPayloadData) → ((c : ChunkPayloadData)
    → (f c).message_id ≡ c.message_id) → ((c : ChunkPayloadData) → (f c).tsn ≡ c.tsn) → Covers put xs → Covers put (change_where t f xs)
covers-changed put xs t f same same' covers p looks h = covers p looks (sym (any_changed p looks t f same same' xs) ∙ h)

any_without_front : (p : ChunkPayloadData → Bool) (tsn : ℕ) (xs : List ChunkPayloadData) → list_any p (payload.without_front tsn xs) ≡ true
    → list_any p xs ≡ true
any_without_front p tsn [] h = h
any_without_front p tsn (c ∷ cs) h = step (has_tsn tsn c) h
  where
    step : (b : Bool) → list_any p (if b then cs else c ∷ cs) ≡ true → list_any p (c ∷ cs) ≡ true
    step true h = or-right (p c) (list_any p cs) h
    step false h = h

or_more : (a b c : Bool) → (b ≡ true → c ≡ true) → (a || b) ≡ true → (a || c) ≡ true
or_more true b c f h = refl
or_more false b c f h = f h

-- a chunk more, with the same numbers in both
covers-put : (put xs : List ChunkPayloadData) (t : ChunkPayloadData) → Covers put xs → Covers (t ∷ put) (insert_before chunk_before t xs)
covers-put put xs t covers p looks h = or_more (p t) (list_any p xs) (list_any p put) (covers p looks) (sym (list_any-inserted p chunk_before t xs) ∙ h)

of_numbers : (m : ℕ) → LooksAtNumbers (is_of m)
of_numbers m c d e f = ap (λ k. k == m) e

at_numbers : (m tsn : ℕ) → LooksAtNumbers (is_at m tsn)
at_numbers m tsn c d e f = ap₂ (λ k j. (k == m) && (j == tsn)) e f

-- with the chunk in front in place of where it goes
in_front : (q : Pending) (t : ChunkPayloadData) (put xs : List ChunkPayloadData) (n : ℕ) → ((m : ℕ) → list_any (is_of m) put ≡ list_any (is_of m) xs)
    → IsSendable q (insert_before chunk_before t xs) n → IsSendable q (t ∷ put) n
in_front q t put xs n same s = sendable-fewer q (insert_before chunk_before t xs)
    (t ∷ put) n (λ m h. list_any-inserted (is_of m) chunk_before t xs ∙ ap (λ b. is_of m t || b) (sym (same m)) ∙ h) s

-- ## Lifetimes

started-kept : (now : ℕ) (s : Stand) → IsKept s → IsKept (record s { queue = all_started now s.queue })
started-kept now s k = step (s.queue.next_unstarted == s.queue.next_message_id)
  where
    keeps : KeepsMessage (with_deadline now)
    keeps = record { number = λ _. refl; begins = λ _. refl; ends = λ _. refl; kind = λ _. refl }

    step : (b : Bool) → IsKept (record s {
      queue = if b then s.queue
          else record s.queue { pending = start_pending s.queue.next_unstarted now s.queue.pending; next_unstarted = s.queue.next_message_id };
    })
    step true = k
    step false = quiet s.queue
        (record s.queue { pending = start_pending s.queue.next_unstarted now s.queue.pending; next_unstarted = s.queue.next_message_id }) s.next s.put k
        (sendable-changed s.queue.pending.ordered s.queue.pending.unordered s.queue.pending.selected s.queue.pending.ordered_room s.queue.pending.unordered_room
        s.queue.pending.ordered_room s.queue.pending.unordered_room s.put s.queue.next_message_id (is_to_start s.queue.next_unstarted)
        (is_to_start s.queue.next_unstarted) (with_deadline now) (with_deadline now) keeps keeps k.sendable)
        k.covers (λ m h. h)

-- ## Sending

pub some_is : (x c : ChunkPayloadData) → Some x ≡ Some c → x ≡ c
some_is x c h = cc

front_is_there : (xs : List ChunkPayloadData) (c : ChunkPayloadData) → slice_get xs 0 ≡ Some c → list_any (is_of c.message_id) xs ≡ true
front_is_there [] c h = absurd (none-some c h)
front_is_there (x ∷ xs) c h =
    let it : (x.message_id == c.message_id) ≡ true = grind (arith, nat_tests, ap (λ (y : ChunkPayloadData). y.message_id) (some_is x c h)) in
    or-left (x.message_id == c.message_id) (list_any (is_of c.message_id) xs) it

-- what a peek shows waits
pub peeked_waits : (os us : List ChunkPayloadData) (sel : Option Selected) (ro ru : ℕ) (c : ChunkPayloadData) → next_pending (made os us sel ro ru) ≡ Some c
    → waits c.message_id (made os us sel ro ru) ≡ true
peeked_waits os (u ∷ us) None ro ru c h = or-left _ _ (front_is_there (u ∷ us) c h)
peeked_waits os [] None ro ru c h = front_is_there os c h
peeked_waits os us (Some s) ro ru c h = by s.unordered h
  where
    by : (b : Bool) → slice_get (list_of b (made os us (Some s) ro ru)) 0 ≡ Some c
        → (list_any (is_of c.message_id) us || list_any (is_of c.message_id) os) ≡ true
    by true h = or-left _ _ (front_is_there us c h)
    by false h = or-right _ _ (front_is_there os c h)

-- after a send the partially sent message is that of the chunk, or the one before
partial_selected : (sel : Option Selected) (kind : Bool) (c : ChunkPayloadData) (m : ℕ) → partial_of (selected_after sel kind c) ≡ Some m
    → (partial_of sel ≡ Some m) ⊎ (c.message_id ≡ m)
partial_selected None kind c m h = step c.ending_fragment h
  where
    step : (b : Bool) → partial_of (if b then None else Some (record { message_id = c.message_id; unordered = kind })) ≡ Some m
        → (partial_of None ≡ Some m) ⊎ (c.message_id ≡ m)
    step true h = absurd (none-some m h)
    step false h = let same : c.message_id ≡ m = cc in inr same
partial_selected (Some s) kind c m h = step (c.ending_fragment && (c.message_id == s.message_id)) h
  where
    step : (b : Bool) → partial_of (if b then None else Some s) ≡ Some m → (partial_of (Some s) ≡ Some m) ⊎ (c.message_id ≡ m)
    step true h = absurd (none-some m h)
    step false h = inl h

pub partial_rest : (k : Option Bool) (os us : List ChunkPayloadData) (sel : Option Selected) (ro ru : ℕ) (c : ChunkPayloadData) (m : ℕ)
    → chunk_to_pop_from k (made os us sel ro ru) ≡ Some c → partially_sent (rest_from k (made os us sel ro ru)) ≡ Some m
    → (partial_of sel ≡ Some m) ⊎ (c.message_id ≡ m)
partial_rest None os us sel ro ru c m h e = inl e
partial_rest (Some true) os [] sel ro ru c m h e = inl e
partial_rest (Some true) os (u ∷ us) sel ro ru c m h e =
    subst (λ (x : ChunkPayloadData). (partial_of sel ≡ Some m) ⊎ (x.message_id ≡ m)) (some_is u c h) (partial_selected sel true u m e)
partial_rest (Some false) [] us sel ro ru c m h e = inl e
partial_rest (Some false) (o ∷ os) us sel ro ru c m h e =
    subst (λ (x : ChunkPayloadData). (partial_of sel ≡ Some m) ⊎ (x.message_id ≡ m)) (some_is o c h) (partial_selected sel false o m e)

sent-kept : (now : ℕ) (s : Stand) → IsKept s → (o : Option ChunkPayloadData) → next_pending s.queue.pending ≡ o → IsKept (record {
  queue = sent_of o s.queue s.next now;
  next = if is_some o then following_tsn s.next else s.next;
  put = put_before (option_map (as_sent s.next now) o) s.put;
})
sent-kept now s k None h = k
sent-kept now s k (Some c) h =
    let q = s.queue.pending in
    let t = as_sent s.next now c in
    let on = sendable-sent q s.put s.queue.next_message_id c t refl k.sendable h in
    puts s.queue (sent_of (Some c) s.queue s.next now) s.next s.put t k refl
    (in_front (rest_after c.beginning_fragment c.unordered q) t s.put s.put s.queue.next_message_id (λ m. refl) on.sendable)
    (covers-put s.put s.queue.inflight.chunks t k.covers)
    (λ m e. partial m
    (partial_rest (list_to_pop q.selected c.beginning_fragment c.unordered) q.ordered q.unordered q.selected q.ordered_room q.unordered_room c m on.taken e))
    (λ e. k.partial c.message_id (k.sendable.sent c.message_id e (peeked_waits q.ordered q.unordered q.selected q.ordered_room q.unordered_room c h)))
  where
    goes : (m : ℕ) (o : Option ChunkPayloadData) → o ≡ Some c → GoesOn m o → c.message_id ≡ m
    goes m None e g = absurd g
    goes m (Some d) e g = ap (λ (x : ChunkPayloadData). x.message_id) (sym (some_is d c e)) ∙ g.0

    partial : (m : ℕ) → (partially_sent s.queue.pending ≡ Some m) ⊎ (c.message_id ≡ m) → c.message_id ≡ m
    partial m (inl e) = goes m (next_pending s.queue.pending) h (goes_on s.queue.pending s.put s.queue.next_message_id m k.sendable e)
    partial m (inr e) = e

-- ## Messages that are abandoned

pub partial_before : (m j : ℕ) (sel : Option Selected) → partial_of (selected_without m sel) ≡ Some j → partial_of sel ≡ Some j
partial_before m j None h = h
partial_before m j (Some s) h = step (s.message_id == m) h
  where
    step : (b : Bool) → partial_of (if b then None else Some s) ≡ Some j → partial_of (Some s) ≡ Some j
    step true h = absurd (none-some j h)
    step false h = h

as_abandoned-keeps : KeepsMessage as_abandoned
as_abandoned-keeps = record { number = λ _. refl; begins = λ _. refl; ends = λ _. refl; kind = λ _. refl }

abandoned-kept : (m : ℕ) (s : Stand) → IsKept s → (waits m s.queue.pending ≡ true → partially_sent s.queue.pending ≡ Some m) → (o : Option ChunkPayloadData)
    → last_removed m s.queue.pending ≡ o → (b : Bool) → waits m s.queue.pending ≡ b → IsKept (record {
      queue = record s.queue {
        pending = without m s.queue.pending;
        inflight = with_terminal_chunk o s.next (payload.with_chunks s.queue.inflight (change_where (is_of m) as_abandoned s.queue.inflight.chunks));
      };
      next = if b then following_tsn s.next else s.next;
      put = put_before (option_map (terminal_chunk s.next) o) s.put;
    })
abandoned-kept m s k f None e true h = absurd (no_last m s.queue.pending h e)
abandoned-kept m s k f (Some c) e false h = absurd (none-some c (sym (last_removed_none m s.queue.pending h) ∙ e))
abandoned-kept m s k f None e false h =
    quiet s.queue (record s.queue
    { pending = without m s.queue.pending; inflight = payload.with_chunks s.queue.inflight (change_where (is_of m) as_abandoned s.queue.inflight.chunks) })
    s.next s.put k
    (sendable-without s.queue.pending.ordered s.queue.pending.unordered s.queue.pending.selected s.queue.pending.ordered_room s.queue.pending.unordered_room
    s.put s.queue.next_message_id m k.sendable)
    (covers-changed s.put s.queue.inflight.chunks (is_of m) as_abandoned (λ _. refl) (λ _. refl) k.covers)
    (λ j. partial_before m j s.queue.pending.selected)
abandoned-kept m s k f (Some c) e true h =
    let t = terminal_chunk s.next c in
    let same : t.message_id ≡ m = last_is_of m s.queue.pending c e in
    let xs = change_where (is_of m) as_abandoned s.queue.inflight.chunks in
    puts s.queue (record s.queue
    { pending = without m s.queue.pending; inflight = with_terminal_chunk (Some c) s.next (payload.with_chunks s.queue.inflight xs) }) s.next s.put t k refl
    (in_front (without m s.queue.pending) t s.put (change_where (is_of m) as_abandoned s.put) s.queue.next_message_id (λ j. sym (list_any-change_where
    (is_of m) as_abandoned as_abandoned-keeps j s.put)) (sendable-abandoned s.queue.pending s.put s.queue.next_message_id m t same h k.sendable))
    (covers-put s.put xs t (covers-changed s.put s.queue.inflight.chunks (is_of m) as_abandoned (λ _. refl) (λ _. refl) k.covers))
    (λ j g. absurd (none-some j (sym (partial_gone m s.queue.pending.selected (f h)) ∙ g)))
    (λ _. subst (λ j. IsLast j s.put) (sym same) (k.partial m (f h)))

-- the message that is abandoned, if any
abandoned_of-kept : (o : Option ℕ) (s : Stand) → IsKept s → ((m : ℕ) → o ≡ Some m → waits m s.queue.pending ≡ true → partially_sent s.queue.pending ≡ Some m)
    → IsKept
    (record { queue = abandoned_of o s.next s.queue; next = tsn_after_of o s.next s.queue; put = put_before (terminal_chunk_of o s.queue s.next) s.put })
abandoned_of-kept None s k f = k
abandoned_of-kept (Some m) s k f = abandoned-kept m s k (f m refl) (last_removed m s.queue.pending) refl (waits m s.queue.pending) refl

-- a message with a chunk in flight
found_half : (s : Stand) → IsKept s → (tsn : ℕ) (o : Option ChunkPayloadData) → find (has_tsn tsn) s.queue.inflight.chunks ≡ o → (m : ℕ) → to_abandon o ≡ Some m
    → waits m s.queue.pending ≡ true → partially_sent s.queue.pending ≡ Some m
found_half s k tsn None e m h w = absurd (none-some m h)
found_half s k tsn (Some c) e m h w = step c.abandoned h
  where
    there : c.message_id ≡ m → list_any (is_of m) s.put ≡ true
    there same =
        subst (λ j. list_any (is_of j) s.put ≡ true) same (k.covers (is_of c.message_id) (of_numbers c.message_id) (found_in tsn s.queue.inflight.chunks c e))

    step : (b : Bool) → (if b then None else Some c.message_id) ≡ Some m → partially_sent s.queue.pending ≡ Some m
    step true h = absurd (none-some m h)
    step false h = let same : c.message_id ≡ m = cc in k.sendable.sent m (there same) w

not_first : (a b : Bool) → (not a && b) ≡ true → a ≡ false
not_first true b h = absurd (false≢true h)
not_first false b h = refl

-- a message whose rest is in front
tail_half : (s : Stand) → IsKept s → (now : ℕ) (o : Option ChunkPayloadData) → next_pending s.queue.pending ≡ o → (m : ℕ)
    → message_of (passing (is_expired_tail now) o) ≡ Some m → partially_sent s.queue.pending ≡ Some m
tail_half s k now None e m h = absurd (none-some m h)
tail_half s k now (Some c) e m h = step (is_expired_tail now c) refl h
  where
    step : (b : Bool) → is_expired_tail now c ≡ b → message_of (if b then Some c else None) ≡ Some m → partially_sent s.queue.pending ≡ Some m
    step true t h = partial_in_front s.queue.pending s.put s.queue.next_message_id c k.sendable e (not_first c.beginning_fragment _ t) ∙ h
    step false t h = absurd (none-some m h)

-- ## Expiry

expired-kept : (s : Stand) → IsKept s → (o : Option ChunkPayloadData) → IsKept (record s { queue = expired_of o s.queue })
expired-kept s k None = k
expired-kept s k (Some c) = step c.unordered
  where
    gone : IsSendable (without c.message_id s.queue.pending) s.put s.queue.next_message_id
    gone = sendable-without s.queue.pending.ordered s.queue.pending.unordered s.queue.pending.selected s.queue.pending.ordered_room
        s.queue.pending.unordered_room s.put s.queue.next_message_id c.message_id k.sendable

    keeps : KeepsMessage one_lower
    keeps = record { number = λ _. refl; begins = λ _. refl; ends = λ _. refl; kind = λ _. refl }

    step : (b : Bool) → IsKept (record s {
      queue =
          record s.queue { pending = if b then without c.message_id s.queue.pending else closed_up c.stream_identifier (without c.message_id s.queue.pending) };
    })
    step true = quiet s.queue (record s.queue { pending = without c.message_id s.queue.pending }) s.next s.put k gone k.covers
        (λ j. partial_before c.message_id j s.queue.pending.selected)
    step false = quiet s.queue (record s.queue { pending = closed_up c.stream_identifier (without c.message_id s.queue.pending) }) s.next s.put k
        (let r = without c.message_id s.queue.pending in sendable-ordered_changed r.ordered r.unordered r.selected r.ordered_room r.unordered_room s.put
        s.queue.next_message_id (is_on c.stream_identifier) one_lower keeps gone)
        k.covers (λ j. partial_before c.message_id j s.queue.pending.selected)

-- ## Push

pub partial_appended : (b : Bool) (cs : List ChunkPayloadData) (q : Pending) → partially_sent (append_chunks b cs q) ≡ partially_sent q
partial_appended true cs q = refl
partial_appended false cs q = refl

pushed-kept : (cs : List ChunkPayloadData) (s : Stand) → IsMessageOrNone cs → IsKept s → IsKept (after (push cs) s)
pushed-kept [] s fit k = k
pushed-kept (c ∷ cs) s fit k =
    quiet s.queue (after (push (c ∷ cs)) s).queue s.next s.put k
    (sendable-pushed c.unordered s.queue.pending.ordered s.queue.pending.unordered s.queue.pending.selected s.queue.pending.ordered_room
    s.queue.pending.unordered_room s.put (c ∷ cs) s.queue.next_message_id fit k.sendable)
    k.covers
    (λ m h. sym (partial_appended c.unordered (map (with_message_id s.queue.next_message_id) (c ∷ cs)) s.queue.pending) ∙ h)

-- ## Marks

marked-kept : (t : ChunkPayloadData → Bool) (f : ChunkPayloadData → ChunkPayloadData) → ((c : ChunkPayloadData) → (f c).message_id ≡ c.message_id)
    → ((c : ChunkPayloadData) → (f c).tsn ≡ c.tsn) → (s : Stand) → IsKept s
    → IsKept (record s { queue = with_inflight s.queue (change_where t f s.queue.inflight.chunks) })
marked-kept t f same same' s k = quiet s.queue (with_inflight s.queue (change_where t f s.queue.inflight.chunks)) s.next s.put k k.sendable
    (covers-changed s.put s.queue.inflight.chunks t f same same' k.covers) (λ m h. h)

reserved-kept : (ordered unordered : ℕ) (s : Stand) → IsKept s
    → IsKept (record s { queue = record s.queue { pending = with_room s.queue.pending ordered unordered } })
reserved-kept ordered unordered s k = record {
  sendable =
      record { ordered = k.sendable.ordered; unordered = k.sendable.unordered; apart = k.sendable.apart; sent = k.sendable.sent; below = k.sendable.below };
  covers = k.covers;
  in_line = k.in_line;
  next = k.next;
  partial = k.partial;
}

-- ## Runs

after-kept : (c : Call) (s : Stand) → IsFit c → IsKept s → IsKept (after c s)
after-kept (push cs) s fit k = pushed-kept cs s fit k
after-kept (start_timed_messages now) s fit k = started-kept now s k
after-kept (send_next now) s fit k =
    let r : Stand = record s { queue = all_started now s.queue } in
    subst (λ b. IsKept (record {
      queue = sent_of (next_pending r.queue.pending) r.queue s.next now;
      next = if b then following_tsn s.next else s.next;
      put = put_before (option_map (as_sent s.next now) (next_pending r.queue.pending)) s.put;
    })) (peeked_all_started now s.queue) (sent-kept now r (started-kept now s k) (next_pending r.queue.pending) refl)
after-kept (abandon tsn) s fit k =
    abandoned_of-kept (to_abandon (find (has_tsn tsn) s.queue.inflight.chunks)) s k (found_half s k tsn (find (has_tsn tsn) s.queue.inflight.chunks) refl)
after-kept (expire_pending now) s fit k = expired-kept s k (expiring now s.queue)
after-kept (expire_pending_tail now) s fit k =
    abandoned_of-kept (message_of (expiring_tail now s.queue)) s k (λ m h _. tail_half s k now (next_pending s.queue.pending) refl m h)
after-kept (pop tsn) s fit k = quiet s.queue (with_inflight s.queue (payload.without_front tsn s.queue.inflight.chunks)) s.next s.put k k.sendable
    (λ p looks h. k.covers p looks (any_without_front p tsn s.queue.inflight.chunks h)) (λ m h. h)
after-kept (mark_as_acked tsn) s fit k = marked-kept (has_tsn tsn) as_acknowledged (λ _. refl) (λ _. refl) s k
after-kept mark_all_to_retransmit s fit k = marked-kept is_outstanding (with_retransmit true) (λ _. refl) (λ _. refl) s k
after-kept (set_retransmit tsn b) s fit k = marked-kept (has_tsn tsn) (with_retransmit b) (λ _. refl) (λ _. refl) s k
after-kept (set_nsent tsn n) s fit k = marked-kept (has_tsn tsn) (with_nsent n) (λ _. refl) (λ _. refl) s k
after-kept (set_since tsn since) s fit k = marked-kept (has_tsn tsn) (with_since since) (λ _. refl) (λ _. refl) s k
after-kept (set_miss_indicator tsn n) s fit k = marked-kept (has_tsn tsn) (with_miss_indicator n) (λ _. refl) (λ _. refl) s k
after-kept (reserve ordered unordered) s fit k = reserved-kept ordered unordered s k
after-kept (reserve_inflight sends) s fit k = quiet s.queue
    (record s.queue { inflight = record s.queue.inflight { room = max sends s.queue.inflight.room } }) s.next s.put k k.sendable k.covers (λ m h. h)

run-kept : (calls : List Call) (s : Stand) → AreFit calls → IsKept s → IsKept (after_all calls s)
run-kept [] s fit k = k
run-kept (c ∷ cs) s fit k = run-kept cs (after c s) fit.1 (after-kept c s fit.0 k)

first-kept : (tsn : ℕ) → IsKept (at_first tsn)
first-kept tsn = record {
  sendable = record { ordered = tt; unordered = tt; apart = λ m h. refl; sent = λ m h k. absurd (false≢true h); below = λ m le. refl };
  covers = λ p looks h. h;
  in_line = tt;
  next = tt;
  partial = λ m h. absurd (none-some m h);
}

each_run : (tsn : ℕ) (calls : List Call) → AreFit calls → IsKept (after_all calls (at_first tsn))
each_run tsn calls fit = run-kept calls (at_first tsn) fit (first-kept tsn)

-- ## The law

-- of those in line the chunks of one message have consecutive TSNs
rise : (m : ℕ) (xs : List ChunkPayloadData) → StandInLine xs → RiseByOne (filter (is_of m) xs)
rise m [] line = tt
rise m (c ∷ cs) line = step (c.message_id == m) refl (rise m cs line.1)
  where
    next_to : (cs : List ChunkPayloadData) → c.message_id ≡ m → StandsBehind c cs → RiseByOne (filter (is_of m) cs) → RiseByOne (c ∷ filter (is_of m) cs)
    next_to [] e b ih = tt
    next_to (d ∷ ds) e b ih = on (list_any (is_of m) (d ∷ ds)) refl
      where
        on : (a : Bool) → list_any (is_of m) (d ∷ ds) ≡ a → RiseByOne (c ∷ filter (is_of m) (d ∷ ds))
        on false h = rw (those_empty (is_of m) (d ∷ ds) h) tt
        on true h =
            let same : d.message_id ≡ c.message_id = b.1 (subst (λ j. list_any (is_of j) (d ∷ ds) ≡ true) (sym e) h) in
            let it : (d.message_id == m) ≡ true = grind (arith, nat_tests, same, e) in
            rw it (b.0, rw it at ih)

    step : (b : Bool) → (c.message_id == m) ≡ b → RiseByOne (filter (is_of m) cs) → RiseByOne (if b then c ∷ filter (is_of m) cs else filter (is_of m) cs)
    step true e ih = next_to cs (grind (arith, nat_tests)) line.0 ih
    step false e ih = ih

pub consecutive : AfterEachRun (λ s. AreConsecutive s.put)
consecutive tsn calls fit m = rise m (after_all calls (at_first tsn)).put (each_run tsn calls fit).in_line

pub side_by_side : AfterEachRun (λ s. StandInLine s.put)
side_by_side tsn calls fit = (each_run tsn calls fit).in_line

pub was_put : AfterEachRun (λ s. WasPut s.queue.inflight.chunks s.put)
was_put tsn calls fit m t h = (each_run tsn calls fit).covers (is_at m t) (at_numbers m t) h

-- ## What is put in flight is there

own : (t : ChunkPayloadData) → is_at t.message_id t.tsn t ≡ true
own t =
    let a : (t.message_id == t.message_id) ≡ true = grind (arith, nat_tests) in
    let b : (t.tsn == t.tsn) ≡ true = grind (arith, nat_tests) in
    ap₂ (λ x y. x && y) a b

there : (t u : ChunkPayloadData) (xs : List ChunkPayloadData) → u ≡ t → list_any (is_at t.message_id t.tsn) (insert_before chunk_before u xs) ≡ true
there t u xs e = list_any-inserted (is_at t.message_id t.tsn) chunk_before u xs ∙ or-left _ _ (subst (λ x. is_at t.message_id t.tsn x ≡ true) (sym e) (own t))

sent_there : (now next : ℕ) (q : Outbound) (t : ChunkPayloadData) (o : Option ChunkPayloadData) → option_map (as_sent next now) o ≡ Some t
    → list_any (is_at t.message_id t.tsn) (sent_of o q next now).inflight.chunks ≡ true
sent_there now next q t None h = absurd (none-some t h)
sent_there now next q t (Some c) h = there t (as_sent next now c) q.inflight.chunks (some_is (as_sent next now c) t h)

mark_there : (next : ℕ) (q : payload.Payload) (t : ChunkPayloadData) (o : Option ChunkPayloadData) → option_map (terminal_chunk next) o ≡ Some t
    → list_any (is_at t.message_id t.tsn) (with_terminal_chunk o next q).chunks ≡ true
mark_there next q t None h = absurd (none-some t h)
mark_there next q t (Some c) h = there t (terminal_chunk next c) q.chunks (some_is (terminal_chunk next c) t h)

abandoned_there : (o : Option ℕ) (next : ℕ) (q : Outbound) (t : ChunkPayloadData) → terminal_chunk_of o q next ≡ Some t
    → list_any (is_at t.message_id t.tsn) (abandoned_of o next q).inflight.chunks ≡ true
abandoned_there None next q t h = absurd (none-some t h)
abandoned_there (Some m) next q t h =
    mark_there next (payload.with_chunks q.inflight (change_where (is_of m) as_abandoned q.inflight.chunks)) t (last_removed m q.pending) h

pub puts_in_flight : PutsInFlight
puts_in_flight (send_next now) q next t h = sent_there now next (all_started now q) t (next_pending (all_started now q).pending) h
puts_in_flight (abandon tsn) q next t h = abandoned_there (to_abandon (find (has_tsn tsn) q.inflight.chunks)) next q t h
puts_in_flight (expire_pending_tail now) q next t h = abandoned_there (message_of (expiring_tail now q)) next q t h
puts_in_flight _ q next t h = absurd (none-some t h)
