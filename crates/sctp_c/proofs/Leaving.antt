-- How many messages leave, and what is told of one.
use Rattle.std.proofs.Common.{◌≡◌, ℕ, suc, ◌+◌, ◌-◌, ◌≤◌, Bool, true, false, if◌then◌else◌, List, [], ◌∷◌, ◌++◌, length, Option, Some, None, refl, ap, arith}
use Rattle.std.proofs.Common.{sym, ◌∙◌, length-append}
use Rattle.std.specs.Prelude.{option_map, option_to_list}
use Rattle.std.specs.List.{filter, find}
use Rattle.std.proofs.lemmas.List.{length-map}
use Rattle.std.proofs.lemmas.Option.{none-some}
use Rattle.sctp_data.specs.declared.chunk.chunk_payload_data.ChunkPayloadData.{ChunkPayloadData}
use Rattle.sctp_util.proofs.Cases.{same-yes, some-same}
use Rattle.sctp_util.specs.Lists.{change_where, insert_before}
use Rattle.sctp_outbound.specs.Marks.{as_abandoned, is_of}
use Rattle.sctp_outbound.specs.outbound_queue.OutboundQueue.{abandoned_of, is_late, late_tsns, terminal_chunk, to_abandon, total_bytes, with_terminal_chunk}
use Rattle.sctp_outbound.specs.payload_queue.PayloadQueue.{Payload, with_chunks}
use Rattle.sctp_outbound.specs.pending_queue.PendingQueue.{last_removed}
use Rattle.sctp_sender.specs.declared.sender.flight.late.AbandonedMessage.{AbandonedMessage}
use Rattle.sctp_sender.specs.Flight.{Flight, has_tail_at, message_to_abandon}
use Rattle.sctp_sender.specs.Late.{abandoned_at, abandoned_with, late_order, leaving_at, leaving_each, tail_first, with_tail, worn_order}
use Rattle.sctp_sender.specs.Outgoing.{has_number, less_by}
use Rattle.sctp_sender.specs.Resending.{is_worn, worn_tsns}
use Rattle.sctp_sender.specs.Sender.{Transmission}
use Rattle.sctp_sender.specs.Thresholds.{with_message_lows}
use Rattle.sctp_serial.specs.DataChunks.{chunk_before, has_tsn}
use Rattle.sctp_stream.specs.declared.outbound_stream.OutboundStream.{OutboundStream}
use Rattle.sctp_c.specs.Abandoning.{leaving_to}
use Rattle.sctp_c.proofs.Filling.{filter-few}

pub lows-length : (gs : List AbandonedMessage) (ls : List OutboundStream) → length (with_message_lows gs ls) ≡ length gs
lows-length [] ls = refl
lows-length (g ∷ gs) ls = ap suc (lows-length gs (change_where (has_number g.stream) (less_by g.bytes) ls))

pub one-at-most : (o : Option ChunkPayloadData) (bytes : ℕ) → length (abandoned_with o bytes) ≤ 1
one-at-most None bytes = omega arith
one-at-most (Some c) bytes = step c.abandoned refl
  where
    gone : AbandonedMessage
    gone = record { stream = c.stream_identifier; number = c.message_id; bytes = bytes; is_low = false }

    step : (b : Bool) → c.abandoned ≡ b → length (abandoned_with (Some c) bytes) ≤ 1
    step true e = let l : length (abandoned_with (Some c) bytes) ≡ 0 = ap (λ b. length (if b then [] else gone ∷ [])) e in omega (arith, l)
    step false e = let l : length (abandoned_with (Some c) bytes) ≡ 1 = ap (λ b. length (if b then [] else gone ∷ [])) e in omega (arith, l)

pub leaving-few : (tsns : List ℕ) (f : Flight) → length (leaving_each tsns f) ≤ length tsns
leaving-few [] f = omega arith
leaving-few (tsn ∷ tsns) f =
    let one = one-at-most (find (has_tsn tsn) f.queue.inflight.chunks) (total_bytes f.queue - total_bytes (abandoned_at tsn f).queue) in
    omega (arith, one, leaving-few tsns (abandoned_at tsn f), length-append (leaving_at tsn f) (leaving_each tsns (abandoned_at tsn f)))

-- ## A TSN of which none leaves: it is not in flight, or its message is abandoned

-- the chunk once a message is abandoned
abbrev mark : ℕ → ChunkPayloadData → ChunkPayloadData
mark m c = if is_of m c then as_abandoned c else c

find-changed : (t m : ℕ) (cs : List ChunkPayloadData)
    → find (has_tsn t) (change_where (is_of m) as_abandoned cs) ≡ option_map (mark m) (find (has_tsn t) cs)
find-changed t m [] = refl
find-changed t m (c ∷ cs) = by (is_of m c) refl (find-changed t m cs)
  where
    here : (b k : Bool) → is_of m c ≡ b → find (has_tsn t) (change_where (is_of m) as_abandoned cs) ≡ option_map (mark m) (find (has_tsn t) cs)
        → (if k then Some (if b then as_abandoned c else c) else find (has_tsn t) (change_where (is_of m) as_abandoned cs))
        ≡ option_map (mark m) (if k then Some c else find (has_tsn t) cs)
    here b true e ih = ap (λ a. Some (if a then as_abandoned c else c)) (sym e)
    here b false e ih = ih

    by : (b : Bool) → is_of m c ≡ b → find (has_tsn t) (change_where (is_of m) as_abandoned cs) ≡ option_map (mark m) (find (has_tsn t) cs)
        → find (has_tsn t) ((if b then as_abandoned c else c) ∷ change_where (is_of m) as_abandoned cs)
        ≡ option_map (mark m) (find (has_tsn t) (c ∷ cs))
    by true e ih = here true (has_tsn t c) e ih
    by false e ih = here false (has_tsn t c) e ih

still-gone : (m : ℕ) (o : Option ChunkPayloadData) → to_abandon o ≡ None → to_abandon (option_map (mark m) o) ≡ None
still-gone m None e = refl
still-gone m (Some c) e = by (is_of m c)
  where
    by : (b : Bool) → to_abandon (Some (if b then as_abandoned c else c)) ≡ None
    by true = refl
    by false = e

own-gone : (c : ChunkPayloadData) → to_abandon (Some (mark c.message_id c)) ≡ None
own-gone c = ap (λ (b : Bool). to_abandon (Some (if b then as_abandoned c else c))) (same-yes c.message_id)

-- an abandoned chunk that comes in front or behind changes nothing of that
inserted-gone : (t : ℕ) (d : ChunkPayloadData) (cs : List ChunkPayloadData) → to_abandon (Some d) ≡ None → to_abandon (find (has_tsn t) cs) ≡ None
    → to_abandon (find (has_tsn t) (insert_before chunk_before d cs)) ≡ None
inserted-gone t d [] e h = front (has_tsn t d)
  where
    front : (b : Bool) → to_abandon (if b then Some d else None) ≡ None
    front true = e
    front false = refl
inserted-gone t d (c ∷ cs) e h = by (inserted-gone t d cs e) (chunk_before d c)
  where
    front : (b : Bool) → to_abandon (if b then Some d else find (has_tsn t) (c ∷ cs)) ≡ None
    front true = e
    front false = h

    behind : (to_abandon (find (has_tsn t) cs) ≡ None → to_abandon (find (has_tsn t) (insert_before chunk_before d cs)) ≡ None) → (b : Bool)
        → to_abandon (if b then Some c else find (has_tsn t) cs) ≡ None
        → to_abandon (if b then Some c else find (has_tsn t) (insert_before chunk_before d cs)) ≡ None
    behind ih true k = k
    behind ih false k = ih k

    by : (to_abandon (find (has_tsn t) cs) ≡ None → to_abandon (find (has_tsn t) (insert_before chunk_before d cs)) ≡ None) → (b : Bool)
        → to_abandon (find (has_tsn t) (if b then d ∷ c ∷ cs else c ∷ insert_before chunk_before d cs)) ≡ None
    by ih true = front (has_tsn t d)
    by ih false = behind ih (has_tsn t c) h

with-terminal : (t tsn : ℕ) (l : Option ChunkPayloadData) (q : Payload) → to_abandon (find (has_tsn t) q.chunks) ≡ None
    → to_abandon (find (has_tsn t) (with_terminal_chunk l tsn q).chunks) ≡ None
with-terminal t tsn None q h = h
with-terminal t tsn (Some c) q h = inserted-gone t (terminal_chunk tsn c) q.chunks refl h

after-any : (t : ℕ) (f : Flight) (o : Option ℕ) → message_to_abandon t f ≡ None
    → to_abandon (find (has_tsn t) (abandoned_of o f.next_tsn f.queue).inflight.chunks) ≡ None
after-any t f None h = h
after-any t f (Some m) h =
    let cs = f.queue.inflight.chunks in
    with-terminal t f.next_tsn (last_removed m f.queue.pending) (with_chunks f.queue.inflight (change_where (is_of m) as_abandoned cs))
    (ap to_abandon (find-changed t m cs) ∙ still-gone m (find (has_tsn t) cs) h)

stays-gone : (t s : ℕ) (f : Flight) → message_to_abandon t f ≡ None → message_to_abandon t (abandoned_at s f) ≡ None
stays-gone t s f h = after-any t f (message_to_abandon s f) h

gone-after : (t : ℕ) (f : Flight) → message_to_abandon t (abandoned_at t f) ≡ None
gone-after t f = by (find (has_tsn t) f.queue.inflight.chunks) refl
  where
    cs : List ChunkPayloadData
    cs = f.queue.inflight.chunks

    here : Option ℕ → Option ℕ
    here o = to_abandon (find (has_tsn t) (abandoned_of o f.next_tsn f.queue).inflight.chunks)

    open-one : (c : ChunkPayloadData) (b : Bool) → find (has_tsn t) cs ≡ Some c → c.abandoned ≡ b
        → here (if b then None else Some c.message_id) ≡ None
    open-one c true e g = ap to_abandon e ∙ ap (λ (b : Bool). if b then None else Some c.message_id) g
    open-one c false e g =
        let m = c.message_id in
        with-terminal t f.next_tsn (last_removed m f.queue.pending) (with_chunks f.queue.inflight (change_where (is_of m) as_abandoned cs))
        (ap to_abandon (find-changed t m cs ∙ ap (option_map (mark m)) e) ∙ own-gone c)

    by : (o : Option ChunkPayloadData) → find (has_tsn t) cs ≡ o → message_to_abandon t (abandoned_at t f) ≡ None
    by None e = ap (λ o. here (to_abandon o)) e ∙ ap to_abandon e
    by (Some c) e = ap (λ o. here (to_abandon o)) e ∙ open-one c c.abandoned e refl

none-with : (o : Option ChunkPayloadData) (bytes : ℕ) → to_abandon o ≡ None → length (abandoned_with o bytes) ≡ 0
none-with None bytes h = refl
none-with (Some c) bytes h = by c.abandoned h
  where
    gone : AbandonedMessage
    gone = record { stream = c.stream_identifier; number = c.message_id; bytes = bytes; is_low = false }

    by : (b : Bool) → (if b then None else Some c.message_id) ≡ None → length (if b then [] else gone ∷ []) ≡ 0
    by true e = refl
    by false e = absurd (none-some c.message_id (sym e))

-- ## As many as TSNs, though that of the message with a tail stands twice

pub fewer : (p : ℕ → Bool) (tsns : List ℕ) (t : ℕ) (f : Flight) → find p tsns ≡ Some t → message_to_abandon t f ≡ None
    → length (leaving_each tsns f) + 1 ≤ length tsns
fewer p [] t f e h = absurd (none-some t e)
fewer p (s ∷ ss) t f e h = by (p s) (λ k. fewer p ss t (abandoned_at s f) k (stays-gone t s f h)) e
  where
    bytes : ℕ
    bytes = total_bytes f.queue - total_bytes (abandoned_at s f).queue

    both : length (leaving_each (s ∷ ss) f) ≡ length (leaving_at s f) + length (leaving_each ss (abandoned_at s f))
    both = length-append (leaving_at s f) (leaving_each ss (abandoned_at s f))

    by : (b : Bool) → (find p ss ≡ Some t → length (leaving_each ss (abandoned_at s f)) + 1 ≤ length ss)
        → (if b then Some s else find p ss) ≡ Some t → length (leaving_each (s ∷ ss) f) + 1 ≤ length (s ∷ ss)
    by true ih k =
        let same : s ≡ t = some-same k in
        let none = none-with (find (has_tsn s) f.queue.inflight.chunks) bytes (ap (λ (x : ℕ). message_to_abandon x f) same ∙ h) in
        omega (arith, both, none, leaving-few ss (abandoned_at s f))
    by false ih k = omega (arith, both, ih k, one-at-most (find (has_tsn s) f.queue.inflight.chunks) bytes)

pub tail-few : (tsns : List ℕ) (f : Flight) → length (leaving_each (tail_first tsns f) f) ≤ length tsns
tail-few tsns f = by (with_tail tsns f) refl
  where
    by : (o : Option ℕ) → with_tail tsns f ≡ o → length (leaving_each (option_to_list o ++ tsns) f) ≤ length tsns
    by None e = leaving-few tsns f
    by (Some t) e =
        let one = one-at-most (find (has_tsn t) f.queue.inflight.chunks) (total_bytes f.queue - total_bytes (abandoned_at t f).queue) in
        omega (
          arith,
          one,
          fewer (has_tail_at f) tsns t (abandoned_at t f) e (gone-after t f),
          length-append (leaving_at t f) (leaving_each tsns (abandoned_at t f)),
        )

pub answered-few : (tsns : List ℕ) (most : ℕ) (t : Transmission) → length tsns ≤ most → length (leaving_to (tail_first tsns t.flight) t) ≤ most
answered-few tsns most t le =
    omega (arith, le, tail-few tsns t.flight, lows-length (leaving_each (tail_first tsns t.flight) t.flight) t.streams)

pub late-few : (now : ℕ) (t : Transmission) → length (leaving_to (late_order now t.flight) t) ≤ length t.flight.queue.inflight.chunks
late-few now t =
    let cs = t.flight.queue.inflight.chunks in
    let p = is_late now t.flight.queue.pending in
    answered-few (late_tsns now t.flight.queue) (length cs) t (omega (arith, length-map (filter p cs) (λ (c : ChunkPayloadData). c.tsn), filter-few p cs))

pub worn-few : (t : Transmission) → length (leaving_to (worn_order t.flight) t) ≤ length t.flight.queue.inflight.chunks
worn-few t =
    let cs = t.flight.queue.inflight.chunks in
    answered-few (worn_tsns t.flight) (length cs) t (omega (arith, length-map (filter is_worn cs) (λ (c : ChunkPayloadData). c.tsn), filter-few is_worn cs))
