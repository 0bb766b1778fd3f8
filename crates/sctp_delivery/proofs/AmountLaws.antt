-- The amount of each open stream is what was written on it, less what was told; and it is 0 once nothing of the stream is left.
use Rattle.sctp_delivery.proofs.Cases.{all_streams}
use Rattle.sctp_delivery.proofs.Names.{◌≡◌, ℕ, ◌+◌, ◌-◌, ◌^◌, ◌<◌, ◌≤◌, Bool, true, false, not, List, [], ◌∷◌, length, map, Option, Some, None, refl, ap, sym}
use Rattle.sctp_delivery.proofs.Names.{subst, ◌∙◌, arith, inl, inr, IfSome, if◌then◌else◌, ◌==◌, find, option_map, ◌&&◌, ◌||◌, ⊤, All, Contains, nat_eq, filter}
use Rattle.sctp_delivery.proofs.Names.{list_any, nat_tests, sum_by-append, sum_by-cons, none-some, common_steps, change_where, same-is, some-same, same-yes}
use Rattle.sctp_delivery.proofs.Names.{or-left, or-right, sum_by-inserted, not_both, same_test, ChunkPayloadData, PayloadProtocolIdentifier, Sack, as_abandoned}
use Rattle.sctp_delivery.proofs.Names.{is_of, is_outstanding, with_retransmit, as_acknowledged, Outbound, abandoned_of, all_started, expiring, expiring_tail}
use Rattle.sctp_delivery.proofs.Names.{is_expired, is_expired_tail, message_of, passing, terminal_chunk, to_abandon, total_bytes, with_message, with_message_id}
use Rattle.sctp_delivery.proofs.Names.{next_pending, IsSendable, partially_sent, waits, removed_le, bytes_of, has_tsn, is_on, ExpiredMessage, AbandonedMessage}
use Rattle.sctp_delivery.proofs.Names.{Flight, after_abandonment, is_outdated, is_whole, message_to_abandon, released_by, released_of, reports_anew, take_sack}
use Rattle.sctp_delivery.proofs.Names.{abandoned_at, abandoned_each, abandoned_with, after_abandoning, late_order, leaving_at, leaving_each, worn_order}
use Rattle.sctp_delivery.proofs.Names.{after_expiry, fragments_with_mode, has_number, less_by, with_low, with_mode, with_size, wrote, can_miss, count_again}
use Rattle.sctp_delivery.proofs.Names.{missed, sent_again, Transmission, after_abandon, after_acked, after_expire, write_refusal, written_to, Makes}
use Rattle.sctp_delivery.proofs.Names.{held_by_sender, with_message_lows, with_lows, OutboundStream, bytes_for, bytes_of_chunks, bytes_of_messages, Answers}
use Rattle.sctp_delivery.proofs.Names.{Expires, IsAccepted, MakesExactly, SenderCall, Write, abandons, as_run, expires, expires_late, expires_rexmit}
use Rattle.sctp_delivery.proofs.Names.{expires_tail, forwards, forwards_within, marks, opens, resends, reserves, sends, sets_low, sets_mode, sets_size, starts}
use Rattle.sctp_delivery.proofs.Names.{takes_sack, writes, written_after, Made, data_chunk, made_after, with_chunk, of_sender, Call, Follows, RunsTo}
use Rattle.sctp_delivery.proofs.Names.{SenderFollows, Session, at_start, of_receiver, Limits, AfterEachFitSession, AfterEachFitRun, Data, data_of, past}
use Rattle.sctp_delivery.proofs.Names.{partial_waits, Released}
use Rattle.sctp_outbound.specs.payload_queue.PayloadQueue as payload
use Rattle.sctp_sender.specs.Flight.{is_half, open_messages}
use Rattle.sctp_sender.specs.Sender.{stream_of}
use Rattle.sctp_stream.specs.Stream.{new_stream}
use Rattle.sctp_delivery.specs.Amounts.{told_by, written_by, AmountsAreLeft, AmountsEnd, told_on, written_on, EachIsTold, IsToldOf}
use Rattle.sctp_delivery.specs.SenderCalls.{misses}
use Rattle.sctp_delivery.proofs.StreamBytes.{IsBare, IsOff, abandoned, amount, amount-at, amount-elsewhere, amount-found, amount-kept, amount-left, amount-less}
use Rattle.sctp_delivery.proofs.StreamBytes.{amount-mapped, amount-opened, amount-released, changed, expired, first-changed, held, lows-told, message-lows-told}
use Rattle.sctp_delivery.proofs.StreamBytes.{only, others, pushed, sacked, sent, split-all, started, zero-if, size, weigh}
use Rattle.sctp_delivery.proofs.Every.{Every, every-found, every-of, all-of-every, every-both, every-tested, every-pair, every-mapped}
use Rattle.sctp_delivery.proofs.Numbers.{number-is, number_of}
use Rattle.sctp_delivery.proofs.Writing.{accepted-stream}
use Rattle.sctp_delivery.proofs.QueueChunks.{peeked, EachIs, each-fragment}
use Rattle.sctp_delivery.proofs.QueueChunks as queues
use Rattle.sctp_delivery.proofs.Changes.{Keeps, each-call}
use Rattle.sctp_delivery.proofs.Calls.{length-forgotten, numbered_after, sent_by}
use Rattle.sctp_delivery.proofs.Delivered.{Holds, HoldsOn, at-first, receiver-step, sender-step, sender-step-on}
use Rattle.sctp_delivery.proofs.Queues.{started as stands-started, IsEnded}
use Rattle.sctp_delivery.proofs.Sent.{Entry, Numbered, IsPart, contains-more, fragment, terminal}
use Rattle.sctp_delivery.proofs.InFlight.{AreKnownOn}
use Rattle.sctp_delivery.proofs.Senders.{IsMoreBy}
use Rattle.sctp_delivery.proofs.Sessions.{neither}

-- # Each chunk that waits or is in flight is on the stream of its write, and has no bytes once it is acknowledged or abandoned

-- the stream of the write before which so many were made: that is the number of its message
abbrev pub stream_in : ℕ → List Write → ℕ
stream_in n [] = 0
stream_in n (w ∷ ws) = if length ws == n then w.stream else stream_in n ws

pub record IsOf (ws : List Write) (c : ChunkPayloadData) : Type 0 where
  pub below : c.message_id < length ws
  pub stream : c.stream_identifier ≡ stream_in c.message_id ws
  pub bare : IsBare c

abbrev pub AllOf : List Write → Outbound → Type 0
AllOf ws q = EachIs (IsOf ws) (IsOf ws) q

-- one write more
of-more : (w : Write) (ws : List Write) (c : ChunkPayloadData) → IsOf ws c → IsOf (w ∷ ws) c
of-more w ws c h = grind (arith, nat_tests)

-- a fragment of a write on a stream
pub record IsFresh (stream : ℕ) (c : ChunkPayloadData) : Type 0 where
  pub on : c.stream_identifier ≡ stream
  pub outstanding : is_outstanding c ≡ true

pub fragments-fresh : (l : OutboundStream) (ppi : PayloadProtocolIdentifier) (bytes : List ℕ)
    → Every (IsFresh l.stream_identifier) (fragments_with_mode l ppi bytes)
fragments-fresh l ppi bytes = each-fragment (IsFresh l.stream_identifier) l ppi bytes (λ i. record { on = refl; outstanding = refl })

module _ (ws : List Write) where
  of-alike : (c d : ChunkPayloadData) → d.message_id ≡ c.message_id → d.stream_identifier ≡ c.stream_identifier → IsBare d → IsOf ws c → IsOf ws d
  of-alike c d m s bare h = grind (arith, nat_tests)

  gone-of : (c : ChunkPayloadData) → IsOf ws c → IsOf ws (as_abandoned c)
  gone-of c i = of-alike c (as_abandoned c) refl refl (λ _. refl) i

  end-of : (tsn : ℕ) (c : ChunkPayloadData) → IsOf ws c → IsOf ws (terminal_chunk tsn c)
  end-of tsn c i = of-alike c (terminal_chunk tsn c) refl refl (λ _. refl) i

  pub all-at : (t : ℕ) (f : Flight) → AllOf ws f.queue → AllOf ws (abandoned_at t f).queue
  all-at t f h = queues.abandoned (IsOf ws) (IsOf ws) gone-of end-of (message_to_abandon t f) f.next_tsn f.queue h

-- a message is written
all-pushed : (ws : List Write) (w : Write) (cs : List ChunkPayloadData) (q : Outbound) → q.next_message_id ≡ length ws → Every (IsFresh w.stream) cs
    → AllOf ws q → AllOf (w ∷ ws) (with_message cs q)
all-pushed ws w cs q ids fresh h =
    queues.pushed (IsOf ws) (IsOf ws) (IsOf (w ∷ ws)) (IsOf (w ∷ ws)) (of-more w ws) (of-more w ws) cs q
    (every-of (IsFresh w.stream) (λ c. IsOf (w ∷ ws) (with_message_id q.next_message_id c)) one cs fresh) h
  where
    one : (c : ChunkPayloadData) → IsFresh w.stream c → IsOf (w ∷ ws) (with_message_id q.next_message_id c)
    one c h2 = grind (arith, nat_tests)

-- ## The calls

module _ (ws : List Write) (t : Transmission) (ids : t.flight.queue.next_message_id ≡ length ws) (h : AllOf ws t.flight.queue) where
  to : (vs : List Write) (u v : Transmission) → u ≡ v → AllOf vs v.flight.queue → AllOf vs u.flight.queue
  to vs u v e i = subst (λ (x : Transmission). AllOf vs x.flight.queue) (sym e) i

  abbrev P : ChunkPayloadData → Type 0
  P = IsOf ws

  keeps : Keeps P P t
  keeps = grind (arith, nat_tests)

  pub all-call : (call : SenderCall) (u : Transmission) → Makes (as_run call) t u → MakesExactly call t u → IsAccepted call t
      → AllOf (written_after call ws) u.flight.queue
  all-call (writes stream ppi (b ∷ bs)) u e x a =
      let l = accepted-stream stream (length (b ∷ bs)) t a in
      let w : Write = record { stream = stream; payload_type = ppi; bytes = b ∷ bs } in
      to (w ∷ ws) u _ (x.1 (omega arith) l.0 l.1)
      (all-pushed ws w (fragments_with_mode l.0 ppi (b ∷ bs)) t.flight.queue ids
      (subst (λ n. Every (IsFresh n) (fragments_with_mode l.0 ppi (b ∷ bs))) (number-is stream t.streams l.0 l.1) (fragments-fresh l.0 ppi (b ∷ bs))) h)
  all-call call u e x a = each-call P P t keeps h u call refl e x

-- # What each call of a sender makes of the bytes of a stream, of its buffered amount, and of what the answers told on it

-- ## Which stream the bytes leave

-- where all other streams keep theirs, the bytes are of this one
shares : (q r : Outbound) (st b : ℕ) → total_bytes r + b ≡ total_bytes q → ((on : ℕ → Bool) → on st ≡ false → held on r ≡ held on q) → (s : ℕ)
    → held (only s) r + bytes_for s st b ≡ held (only s) q
shares q r st b total same s = by (st == s) refl
  where
    by : (k : Bool) → (st == s) ≡ k → held (only s) r + (if k then b else 0) ≡ held (only s) q
    by true e =
        let x = same (others s) (ap not e) in
        let a = split-all s q in
        let c = split-all s r in
        omega (arith, total, x, a, c)
    by false e = let x = same (only s) e in omega (arith, x)

passed : (p : ChunkPayloadData → Bool) (o : Option ChunkPayloadData) (c : ChunkPayloadData) → passing p o ≡ Some c → o ≡ Some c
passed p None c e = e
passed p (Some x) c e = grind (arith, nat_tests)

module _ (ws : List Write) where
  is-off : (on : ℕ → Bool) (m : ℕ) (q : Outbound) → on (stream_in m ws) ≡ false → AllOf ws q → IsOff on m q
  is-off on m q off h = grind (arith, nat_tests, every-of, same-is)

  -- the message of a chunk is on its stream
  same-abandoned : (o : Option ℕ) (st tsn : ℕ) (q : Outbound) → ((m : ℕ) → o ≡ Some m → stream_in m ws ≡ st) → AllOf ws q → (on : ℕ → Bool)
      → on st ≡ false → held on (abandoned_of o tsn q) ≡ held on q
  same-abandoned None st tsn q is h on off = refl
  same-abandoned (Some m) st tsn q is h on off = abandoned on m tsn q (is-off on m q (ap on (is m refl) ∙ off) h)

  to-abandon : (o : Option ChunkPayloadData) (st : ℕ) → ((c : ChunkPayloadData) → o ≡ Some c → IsOf ws c)
      → Some st ≡ option_map (λ (c : ChunkPayloadData). c.stream_identifier) o → (m : ℕ) → to_abandon o ≡ Some m → stream_in m ws ≡ st
  to-abandon None st of told m e = absurd (none-some m e)
  to-abandon (Some c) st of told m e = grind (arith, nat_tests)

  in-tail : (o : Option ChunkPayloadData) (st : ℕ) → ((c : ChunkPayloadData) → o ≡ Some c → IsOf ws c)
      → Some st ≡ option_map (λ (c : ChunkPayloadData). c.stream_identifier) o → (m : ℕ) → message_of o ≡ Some m → stream_in m ws ≡ st
  in-tail None st of told m e = absurd (none-some m e)
  in-tail (Some c) st of told m e = ap (λ n. stream_in n ws) (sym (some-same e)) ∙ sym (of c refl).stream ∙ sym (some-same told)

-- ## Messages that are abandoned one after another

marked-le : (m : ℕ) (xs : List ChunkPayloadData) → bytes_of (change_where (is_of m) as_abandoned xs) ≤ bytes_of xs
marked-le m [] = omega arith
marked-le m (c ∷ cs) = grind (arith, common_steps, marked-le m cs)

abandoned-le : (o : Option ℕ) (tsn : ℕ) (q : Outbound) → total_bytes (abandoned_of o tsn q) ≤ total_bytes q
abandoned-le None tsn q = omega arith
abandoned-le (Some m) tsn q = grind (arith, nat_tests, marked-le, removed_le, sum_by-inserted)

module _ (ws : List Write) (s : ℕ) where
  one-leaves : (t : ℕ) (f : Flight) → AllOf ws f.queue → held (only s) (abandoned_at t f).queue + bytes_of_messages s (leaving_at t f) ≡ held (only s) f.queue
  one-leaves t f h = by (find (has_tsn t) f.queue.inflight.chunks) refl
    where
      after : Option ChunkPayloadData → Outbound
      after o = (after_abandonment (to_abandon o) f).queue

      left : Option ChunkPayloadData → ℕ
      left o = total_bytes f.queue - total_bytes (after o)

      by : (o : Option ChunkPayloadData) → find (has_tsn t) f.queue.inflight.chunks ≡ o
          → held (only s) (after o) + bytes_of_messages s (abandoned_with o (left o)) ≡ held (only s) f.queue
      by None e = omega arith
      by (Some c) e = open-one c.abandoned refl
        where
          i : IsOf ws c
          i = every-found (IsOf ws) (has_tsn t) f.queue.inflight.chunks c e h.inflight

          shared : held (only s) (abandoned_of (Some c.message_id) f.next_tsn f.queue)
              + bytes_for s c.stream_identifier (total_bytes f.queue - total_bytes (abandoned_of (Some c.message_id) f.next_tsn f.queue))
              ≡ held (only s) f.queue
          shared =
              let le = abandoned-le (Some c.message_id) f.next_tsn f.queue in
              shares f.queue (abandoned_of (Some c.message_id) f.next_tsn f.queue) c.stream_identifier
              (total_bytes f.queue - total_bytes (abandoned_of (Some c.message_id) f.next_tsn f.queue)) (omega (arith, le))
              (same-abandoned ws (Some c.message_id) c.stream_identifier f.next_tsn f.queue
              (λ m k. ap (λ n. stream_in n ws) (sym (some-same k)) ∙ sym i.stream) h) s

          rest : Bool → Outbound
          rest b = (after_abandonment (if b then None else Some c.message_id) f).queue

          open-one : (b : Bool) → c.abandoned ≡ b → held (only s) (rest b)
              + bytes_of_messages s (if b then [] else record {
                stream = c.stream_identifier;
                number = c.message_id;
                bytes = total_bytes f.queue - total_bytes (rest b);
                is_low = false;
              } ∷ []) ≡ held (only s) f.queue
          open-one true k = omega arith
          open-one false k = let x = shared in omega (arith, x)

  each-leaves : (ts : List ℕ) (f : Flight) → AllOf ws f.queue
      → held (only s) (abandoned_each ts f).queue + bytes_of_messages s (leaving_each ts f) ≡ held (only s) f.queue
  each-leaves [] f h = omega arith
  each-leaves (t ∷ ts) f h = grind (arith, nat_tests, all-at, one-leaves, sum_by-append, each-leaves ts (abandoned_at t f) (all-at ws t f h))

-- ## A SACK

sack-leaves : (ws : List Write) (s : ℕ) (k : Sack) (f : Flight) → AllOf ws f.queue
    → held (only s) (if is_outdated k f then f else take_sack k f).queue + bytes_of_chunks s (released_by k f) ≡ held (only s) f.queue
sack-leaves ws s k f h = by (is_outdated k f)
  where
    by : (b : Bool) → held (only s) (if b then f else take_sack k f).queue
        + bytes_of_chunks s (if b then [] else map (released_of (is_whole k f)) (filter (reports_anew k) f.queue.inflight.chunks)) ≡ held (only s) f.queue
    by true = omega arith
    by false =
        let x = sacked (only s) k (is_whole k f) f.queue.inflight.chunks (every-of (IsOf ws) IsBare (λ c i. i.bare) f.queue.inflight.chunks h.inflight) in
        omega (arith, x)

-- ## A write

room : (stream len : ℕ) (t : Transmission) → write_refusal stream len t ≡ None → total_bytes t.flight.queue + len < 2 ^ 64
room stream len t e = grind (arith, nat_tests)

-- ## The calls

-- what a call makes of the bytes of a stream: so many leave and are told, and so many more were written; its amount is what is held
pub record Moves (s told written : ℕ) (t u : Transmission) : Type 0 where
  pub balance : held (only s) u.flight.queue + told ≡ held (only s) t.flight.queue + written
  pub amounts : amount s u.streams ≡ held (only s) u.flight.queue

module _ (ws : List Write) (t : Transmission) (all : AllOf ws t.flight.queue)
    (ready : (now : ℕ) → IsSendable (all_started now t.flight.queue).pending (all_started now t.flight.queue).inflight.chunks
    (all_started now t.flight.queue).next_message_id) (s : ℕ) (a : amount s t.streams ≡ held (only s) t.flight.queue) where
  -- nothing leaves
  calm : (u v : Transmission) → u ≡ v → amount s v.streams ≡ amount s t.streams → held (only s) v.flight.queue ≡ held (only s) t.flight.queue
      → Moves s 0 0 t u
  calm u v e streams queue =
      subst (Moves s 0 0 t) (sym e) (record { balance = omega (arith, queue); amounts = streams ∙ a ∙ sym queue })

  -- so many bytes leave
  leaves : (b : ℕ) (u v : Transmission) → u ≡ v → amount s v.streams ≡ amount s t.streams - b → held (only s) v.flight.queue + b ≡ held (only s) t.flight.queue
      → Moves s b 0 t u
  leaves b u v e streams queue =
      subst (Moves s b 0 t) (sym e) (record { balance = omega (arith, queue); amounts = let x = a in omega (arith, streams, queue, x) })

  -- the chunks in flight are marked
  marked : (u : Transmission) (p : ChunkPayloadData → Bool) (f : ChunkPayloadData → ChunkPayloadData)
      → ((c : ChunkPayloadData) → (if only s (f c).stream_identifier then length (f c).user_data else 0)
      ≡ (if only s c.stream_identifier then length c.user_data else 0)) → u ≡ record t {
        flight = record t.flight {
          queue = record t.flight.queue {
            inflight = payload.with_chunks t.flight.queue.inflight (change_where p f t.flight.queue.inflight.chunks);
          };
        };
      } → Moves s 0 0 t u
  marked u p f same e = calm u _ e refl (let h = changed (only s) p f same t.flight.queue.inflight.chunks in omega (arith, h))

  writes-call : (stream : ℕ) (ppi : PayloadProtocolIdentifier) (b : ℕ) (bs : List ℕ) (u : Transmission)
      → held_by_sender u ≡ held_by_sender t + length (b ∷ bs) → MakesExactly (writes stream ppi (b ∷ bs)) t u
      → write_refusal stream (length (b ∷ bs)) t ≡ None → Moves s 0 (bytes_for s stream (length (b ∷ bs))) t u
  writes-call stream ppi b bs u e x free = subst (Moves s 0 (bytes_for s stream len) t) (sym is) (record {
    balance = let h = grown in omega (arith, h);
    amounts = by (stream == s) refl;
  })
    where
      len : ℕ
      len = length (b ∷ bs)

      l : (k : OutboundStream) × (find (has_number stream) t.streams ≡ Some k)
      l = accepted-stream stream (length (b ∷ bs)) t free

      v : Transmission
      v = written_to l.0 stream ppi (b ∷ bs) t

      is : u ≡ v
      is = x.1 (omega arith) l.0 l.1

      total : total_bytes t.flight.queue + len ≡ total_bytes v.flight.queue
      total = let h = ap held_by_sender is in omega (arith, h, e)

      fresh : Every (IsFresh stream) (fragments_with_mode l.0 ppi (b ∷ bs))
      fresh = subst (λ n. Every (IsFresh n) (fragments_with_mode l.0 ppi (b ∷ bs))) (number-is stream t.streams l.0 l.1) (fragments-fresh l.0 ppi (b ∷ bs))

      grown : held (only s) t.flight.queue + bytes_for s stream len ≡ held (only s) v.flight.queue
      grown = shares v.flight.queue t.flight.queue stream len total
          (λ on off. sym (pushed on (fragments_with_mode l.0 ppi (b ∷ bs)) t.flight.queue
          (every-of (IsFresh stream) (λ c. on c.stream_identifier ≡ false) (λ c i. ap on i.on ∙ off) (fragments_with_mode l.0 ppi (b ∷ bs)) fresh))) s

      few : total_bytes t.flight.queue + len < 2 ^ 64
      few = room stream len t free

      by : (k : Bool) → (stream == s) ≡ k → amount s v.streams ≡ held (only s) v.flight.queue
      by true k =
          let same = same-is stream s k in
          let now = subst (λ n. amount n v.streams ≡ (wrote ppi (b ∷ bs) l.0).buffered_amount) same
          (amount-at stream (wrote ppi (b ∷ bs)) (λ y. refl) t.streams l.0 l.1) in
          let before = subst (λ n. amount n t.streams ≡ l.0.buffered_amount) same (amount-found stream t.streams l.0 l.1) in
          let g = subst (λ (y : Bool). held (only s) t.flight.queue + (if y then len else 0) ≡ held (only s) v.flight.queue) k grown in
          let c = split-all s t.flight.queue in
          let f = few in
          let h = a in
          omega (arith, now, before, g, c, f, h)
      by false k = grind (arith, nat_tests, amount-elsewhere, grown, len)

  abandons-call : (o : Option ℕ) (stream bytes : ℕ) (u : Transmission) → held_by_sender u + bytes ≡ held_by_sender t → u ≡ after_abandon o stream bytes t
      → ((m : ℕ) → o ≡ Some m → stream_in m ws ≡ stream) → Moves s (bytes_for s stream bytes) 0 t u
  abandons-call o stream bytes u e x is =
      let h = ap held_by_sender x in
      leaves (bytes_for s stream bytes) u (after_abandon o stream bytes t) x (amount-less s stream bytes (less_by bytes) (λ l. refl) (λ l. refl) t.streams)
      (shares t.flight.queue (after_abandon o stream bytes t).flight.queue stream bytes (omega (arith, h, e))
      (same-abandoned ws o stream t.flight.next_tsn t.flight.queue is all) s)

  found : (tsn : ℕ) (c : ChunkPayloadData) → find (has_tsn tsn) t.flight.queue.inflight.chunks ≡ Some c → IsOf ws c
  found tsn c e = every-found (IsOf ws) (has_tsn tsn) t.flight.queue.inflight.chunks c e all.inflight

  in-front : (p : ChunkPayloadData → Bool) (c : ChunkPayloadData) → passing p (next_pending t.flight.queue.pending) ≡ Some c → IsOf ws c
  in-front p c e = peeked (IsOf ws) t.flight.queue.pending.selected t.flight.queue.pending c
      (passed p (next_pending t.flight.queue.pending) c e) (all.ordered, all.unordered)

  expiry-number : (k : Bool) (b : ℕ) (l : OutboundStream) → (after_expiry k b l).stream_identifier ≡ l.stream_identifier
  expiry-number true b l = refl
  expiry-number false b l = refl

  expiry-less : (k : Bool) (b : ℕ) (l : OutboundStream) → (after_expiry k b l).buffered_amount ≡ l.buffered_amount - b
  expiry-less true b l = refl
  expiry-less false b l = refl

  expires-call : (now : ℕ) (m : ExpiredMessage) (u : Transmission) → held_by_sender u + m.bytes ≡ held_by_sender t → Expires now (Some m) t u
      → Answers (expires now (Some m)) t → Moves s (bytes_for s m.stream m.bytes) 0 t u
  expires-call now m u e x told = by (expiring now t.flight.queue) refl x.1.0 told
    where
      by : (o : Option ChunkPayloadData) → expiring now t.flight.queue ≡ o → IfSome o (λ c. u ≡ after_expire c m.bytes now t)
          → Some m.stream ≡ option_map (λ (c : ChunkPayloadData). c.stream_identifier) o → Moves s (bytes_for s m.stream m.bytes) 0 t u
      by None is g y = absurd (none-some m.stream (sym y))
      by (Some c) is g y =
          let i = in-front (is_expired now) c is in
          let on : m.stream ≡ c.stream_identifier = some-same y in
          let v = after_expire c m.bytes now t in
          let h = ap held_by_sender g in
          subst (λ n. Moves s (bytes_for s n m.bytes) 0 t u) (sym on)
          (leaves (bytes_for s c.stream_identifier m.bytes) u v g
          (amount-less s c.stream_identifier m.bytes (after_expiry c.unordered m.bytes) (expiry-number c.unordered m.bytes)
          (expiry-less c.unordered m.bytes) t.streams)
          (shares t.flight.queue v.flight.queue c.stream_identifier m.bytes (omega (arith, h, e))
          (λ f off. expired f c t.flight.queue (is-off ws f c.message_id t.flight.queue (ap f (sym i.stream) ∙ off) all)) s))

  abandons-each : (ts : List ℕ) (gone : List AbandonedMessage) (u : Transmission) → u ≡ after_abandoning ts t
      → gone ≡ with_message_lows (leaving_each ts t.flight) t.streams → Moves s (bytes_of_messages s gone) 0 t u
  abandons-each ts gone u x told =
      let gs = leaving_each ts t.flight in
      let n : bytes_of_messages s gone ≡ bytes_of_messages s gs = ap (bytes_of_messages s) told ∙ message-lows-told s gs t.streams in
      subst (λ b. Moves s b 0 t u) (sym n)
      (leaves (bytes_of_messages s gs) u (after_abandoning ts t) x (amount-left s gs t.streams) (each-leaves ws s ts t.flight all))

  pub moves-call : (call : SenderCall) (u : Transmission) → Makes (as_run call) t u → MakesExactly call t u → IsAccepted call t → Answers call t
      → Moves s (told_by s (of_sender call)) (written_by s (of_sender call)) t u
  moves-call (opens stream) u e x free told =
      calm u _ e (amount-opened s (new_stream stream t.fragment_size) refl t.streams) refl
  moves-call (sets_mode stream unordered reliability value) u e x free told =
      calm u _ e (amount-kept s (has_number stream) (with_mode unordered reliability value) (λ l. refl) (λ l. refl) t.streams) refl
  moves-call (writes stream ppi []) u e x free told = subst (λ n. Moves s 0 n t u) (sym (zero-if (stream == s))) (calm u t (x.0 refl) refl refl)
  moves-call (writes stream ppi (b ∷ bs)) u e x free told = writes-call stream ppi b bs u e x free
  moves-call (starts now) u e x free told = calm u _ e refl (started (only s) now t.flight.queue)
  moves-call (sends now) u e x free told =
      calm u _ x refl
      (sent (only s) t.flight.next_tsn now (all_started now t.flight.queue) (ready now) (next_pending (all_started now t.flight.queue).pending) refl
      ∙ started (only s) now t.flight.queue)
  moves-call (resends tsn now c) u e x free told = marked u (has_tsn tsn) (sent_again (count_again c) now) (λ d. refl) e
  moves-call (abandons tsn y) u e x free told =
      abandons-call (message_to_abandon tsn t.flight) y.stream y.bytes u e x
      (to-abandon ws (find (has_tsn tsn) t.flight.queue.inflight.chunks) y.stream (found tsn) told.0)
  moves-call (expires now None) u e x free told = calm u t (x.1.1 refl) refl refl
  moves-call (expires now (Some y)) u e x free told = expires-call now y u e x told
  moves-call (expires_tail now None) u e x free told = calm u t (x.1 refl) refl refl
  moves-call (expires_tail now (Some y)) u e x free told =
      let n : bytes_for s y.stream y.bytes ≡ bytes_of_messages s (y ∷ []) = omega arith in
      subst (λ b. Moves s b 0 t u) n
      (abandons-call (message_of (expiring_tail now t.flight.queue)) y.stream y.bytes u (omega (arith, e)) x.0
      (in-tail ws (expiring_tail now t.flight.queue) y.stream (in-front (is_expired_tail now)) told.0))
  moves-call (expires_late now gone) u e x free told = abandons-each (late_order now t.flight) gone u x told
  moves-call (expires_rexmit gone) u e x free told = abandons-each (worn_order t.flight) gone u x told
  moves-call (forwards tsn f) u e x free told = calm u t x refl refl
  moves-call (forwards_within bytes f) u e x free told = calm u t x refl refl
  moves-call marks u e x free told = marked u is_outstanding (with_retransmit true) (λ d. refl) e
  moves-call (misses count) u e x free told =
      calm u _ e refl (let h = first-changed (only s) can_miss missed (λ _. refl) count t.flight.queue.inflight.chunks in omega (arith, h))
  moves-call (sets_size size) u e x free told = calm u _ e (amount-mapped s (with_size size) (λ l. refl) (λ l. refl) t.streams) refl
  moves-call (sets_low stream bytes) u e x free told =
      calm u _ e (amount-kept s (has_number stream) (with_low bytes) (λ l. refl) (λ l. refl) t.streams) refl
  moves-call (reserves count) u e x free told = calm u _ e refl refl
  moves-call (takes_sack sack gone) u e x free told =
      let rs = released_by sack t.flight in
      let n : bytes_of_chunks s gone ≡ bytes_of_chunks s rs = ap (bytes_of_chunks s) told ∙ lows-told s rs t.streams in
      subst (λ b. Moves s b 0 t u) (sym n)
      (leaves (bytes_of_chunks s rs) u (after_acked sack t) x (amount-released s rs t.streams) (sack-leaves ws s sack t.flight all))

-- # The amount of each open stream is what was written on it, less what was told; and it is 0 once nothing of the stream is left

-- ## Every session

-- each chunk is on the stream of its write, and the amount of each stream is what it holds
pub record AreCounted (s : Session) : Type 0 where
  pub all : AllOf s.written s.sending.sender.flight.queue
  pub amounts : (stream : ℕ) → amount stream s.sending.sender.streams ≡ held (only stream) s.sending.sender.flight.queue

-- and by calls the amounts move by what is told and written
pub record Goes (cs : List Call) (old new : Session) : Type 0 where
  pub counted : AreCounted new
  pub balance : (stream : ℕ) → held (only stream) new.sending.sender.flight.queue + told_on stream cs
      ≡ held (only stream) old.sending.sender.flight.queue + written_on stream cs

-- one call more before them
after-call : (c : Call) (cs : List Call) (old mid new : Session)
    → ((stream : ℕ) → held (only stream) mid.sending.sender.flight.queue + told_by stream c
    ≡ held (only stream) old.sending.sender.flight.queue + written_by stream c)
    → Goes cs mid new → Goes (c ∷ cs) old new
after-call c cs old mid new here g = record {
  counted = g.counted;
  balance = λ stream.
      let h = here stream in
      let r = g.balance stream in
      let a = sum_by-cons (told_by stream) c cs in
      let b = sum_by-cons (written_by stream) c cs in
      omega (arith, h, r, a, b);
}

module _ (first : ℕ) (call : SenderCall) (s t : Session) (ns : List Numbered) (sent : List Entry) (f : SenderFollows call s t) (h : Holds first s ns sent)
    (k : AreCounted s) where
  pub moved : (stream : ℕ) → Moves stream (told_by stream (of_sender call)) (written_by stream (of_sender call)) s.sending.sender t.sending.sender
  moved stream =
      let u = s.sending.sender in
      moves-call s.written u k.all
      (λ now. (stands-started all_streams ns first (λ s. number_of s u.streams) now u.flight.queue u.flight.next_tsn sent h.held.stands).sendable) stream
      (k.amounts stream) call t.sending.sender f.step.sender f.exact f.accepted f.answered

  pub counted-then : AreCounted t
  counted-then = record {
    all = grind (arith, nat_tests, common_steps, all-call, length-forgotten);
    amounts = λ stream. (moved stream).amounts;
  }

pub goes : (first : ℕ) (cs : List Call) (old new : Session) (ns : List Numbered) (sent : List Entry) → RunsTo old cs new → Holds first old ns sent
    → AreCounted old → Goes cs old new
goes first [] old new ns sent r h k =
    subst (Goes [] old) (sym r) (record { counted = k; balance = λ stream. omega arith })
goes first (of_sender call ∷ cs) old new ns sent r h k =
    let x = sender-step first call old r.0 ns sent r.1.0 h in
    after-call (of_sender call) cs old r.0 new (λ stream. (moved first call old r.0 ns sent r.1.0 h k stream).balance)
    (goes first cs r.0 new (numbered_after call ns) x.more r.1.1 x.holds (counted-then first call old r.0 ns sent r.1.0 h k))
goes first (of_receiver call ∷ cs) old new ns sent r h k =
    after-call (of_receiver call) cs old r.0 new (λ stream. ap (λ (s : Session). held (only stream) s.sending.sender.flight.queue + 0) r.1.0.after)
    (goes first cs r.0 new ns sent r.1.1 (receiver-step first call old r.0 ns sent r.1.0 h)
    (subst AreCounted (sym r.1.0.after) (record { all = k.all; amounts = k.amounts })))

pub counted-in : (tsn size max most : ℕ) (limits : Option Limits) (cs : List Call) (s : Session) → tsn < 2 ^ 32 → 0 < size
    → RunsTo (at_start tsn size max most limits) cs s → Goes cs (at_start tsn size max most limits) s
counted-in tsn size max most limits cs s small some r =
    goes tsn cs (at_start tsn size max most limits) s [] [] r (at-first tsn size max most limits small some)
    (record { all = record { ordered = tt; unordered = tt; inflight = tt }; amounts = λ stream. refl })

-- ## The laws

pub are-left : AfterEachFitRun AmountsAreLeft
are-left tsn size max most limits cs s small some r stream = by (stream_of stream s.sending.sender) refl
  where
    g : Goes cs (at_start tsn size max most limits) s
    g = counted-in tsn size max most limits cs s small some r

    by : (o : Option OutboundStream) → stream_of stream s.sending.sender ≡ o → IfSome o (λ l. l.buffered_amount + told_on stream cs ≡ written_on stream cs)
    by None e = tt
    by (Some l) e =
        let a = amount-found stream s.sending.sender.streams l e in
        let h = g.counted.amounts stream in
        let b = g.balance stream in
        omega (arith, a, h, b)

-- chunks of which none is both on the stream and outstanding
bare-none : (ws : List Write) (stream : ℕ) (cs : List ChunkPayloadData) → Every (IsOf ws) cs
    → list_any (λ c. is_on stream c && is_outstanding c) cs ≡ false → weigh (only stream) cs ≡ 0
bare-none ws stream [] e n = refl
bare-none ws stream (c ∷ cs) e n =
    let h = neither (is_on stream c && is_outstanding c) (list_any (λ c. is_on stream c && is_outstanding c) cs) n in
    let a = sum_by-cons (size (only stream)) c cs in
    let z = by (is_on stream c) (is_outstanding c) refl h.0 in
    let ih = bare-none ws stream cs e.1 h.1 in
    omega (arith, a, z, ih)
  where
    by : (a b : Bool) → is_outstanding c ≡ b → (a && b) ≡ false → (if a then length c.user_data else 0) ≡ 0
    by a b h3 h4 = grind (arith, nat_tests)

-- or none on the stream
absent-none : (stream : ℕ) (cs : List ChunkPayloadData) → list_any (is_on stream) cs ≡ false → weigh (only stream) cs ≡ 0
absent-none stream [] n = refl
absent-none stream (c ∷ cs) n = grind (arith, nat_tests, absent-none stream cs)

pub ends-of : (s : Session) → AreCounted s → AmountsEnd s
ends-of s k stream done = grind (arith, nat_tests, absent-none, amount-found, bare-none, not_both)

pub end : AfterEachFitSession AmountsEnd
end tsn size max most limits cs s small some r = ends-of s (counted-in tsn size max most limits cs s small some r).counted

-- what an amount that is read says
pub amount-says : (t : Transmission) (stream : ℕ) (o : Option ℕ) → o ≡ option_map (λ (l : OutboundStream). l.buffered_amount) (stream_of stream t)
    → IfSome o (λ n. AfterEachFitRun (λ cs s. s.sending.sender ≡ t → n + told_on stream cs ≡ written_on stream cs))
amount-says t stream None is = tt
amount-says t stream (Some n) is = λ tsn size max most limits cs s small some r same.
    by s cs (stream_of stream s.sending.sender)
    (subst (λ (u : Transmission). Some n ≡ option_map (λ (l : OutboundStream). l.buffered_amount) (stream_of stream u)) (sym same) is)
    (are-left tsn size max most limits cs s small some r stream)
  where
    by : (s : Session) (cs : List Call) (o : Option OutboundStream) → Some n ≡ option_map (λ (l : OutboundStream). l.buffered_amount) o
        → IfSome o (λ l. l.buffered_amount + told_on stream cs ≡ written_on stream cs) → n + told_on stream cs ≡ written_on stream cs
    by s cs None e h = absurd (none-some n (sym e))
    by s cs (Some l) e h = ap (λ k. k + told_on stream cs) (some-same e) ∙ h

-- # What an answer tells of each chunk that a SACK releases is that chunk's, and its message is told to be acknowledged where none of it is left

-- ## Each DATA chunk that got a TSN was made

abbrev pub AllMade : List Entry → List Made → Type 0
AllMade [] ms = ⊤
AllMade (terminal ∷ xs) ms = AllMade xs ms
AllMade (fragment d w after ∷ xs) ms = Contains ms (data_chunk d) × AllMade xs ms

made-part : (sent xs : List Entry) (ms : List Made) (d : Data) (w : Numbered) (after : List ℕ) → IsPart (fragment d w after ∷ xs) sent → AllMade sent ms
    → Contains ms (data_chunk d)
made-part [] xs ms d w after p a = absurd (cc)
made-part (x ∷ sent) xs ms d w after (inl e) a = (subst (λ ys. AllMade ys ms) (sym e) a).0
made-part (terminal ∷ sent) xs ms d w after (inr p) a = made-part sent xs ms d w after p a
made-part (fragment e v rest ∷ sent) xs ms d w after (inr p) a = made-part sent xs ms d w after p a.1

more-made : (m : Made) (sent : List Entry) (ms : List Made) → AllMade sent ms → AllMade sent (m ∷ ms)
more-made m [] ms a = tt
more-made m (terminal ∷ sent) ms a = more-made m sent ms a
more-made m (fragment d w after ∷ sent) ms a = (contains-more m ms (data_chunk d) a.0, more-made m sent ms a.1)

ended-made : (sent more : List Entry) (ms : List Made) → IsEnded sent more → AllMade sent ms → AllMade more ms
ended-made sent more ms (inl e) a = subst (λ xs. AllMade xs ms) (sym e) a
ended-made sent more ms (inr e) a = subst (λ xs. AllMade xs ms) (sym e) a

module _ (t : Transmission) (sent more : List Entry) (ms : List Made) (a : AllMade sent ms) where
  sends-made : (o : Option ChunkPayloadData) → IsMoreBy o sent more → AllMade more (with_chunk o ms)
  sends-made o h2 = grind (arith, nat_tests, ended-made, more-made)

  all-made : (call : SenderCall) → IsMoreBy (sent_by call t) sent more → AllMade more (made_after call t ms)
  all-made call h2 = grind (arith, nat_tests, ended-made, more-made, sends-made)

-- the writes and entries of a session, each of which was made
pub record HasMadeOn (on : ℕ → Bool) (first : ℕ) (s : Session) : Type 0 where
  pub numbered : List Numbered
  pub sent : List Entry
  pub holds : HoldsOn on first s numbered sent
  pub made : AllMade sent s.made

abbrev pub HasMade : ℕ → Session → Type 0
HasMade first s = HasMadeOn all_streams first s

pub made-after : (on : ℕ → Bool) (first : ℕ) (c : Call) (old new : Session) → Follows c old new → HasMadeOn on first old → HasMadeOn on first new
made-after on first (of_sender call) old new f h =
    let x = sender-step-on on first call old new h.numbered h.sent f h.holds in
    record {
      numbered = numbered_after call h.numbered;
      sent = x.more;
      holds = x.holds;
      made = subst (AllMade x.more) (sym (ap (λ (s : Session). s.made) f.after))
          (all-made old.sending.sender h.sent x.more old.made h.made call x.grown);
    }
made-after on first (of_receiver call) old new f h = grind (arith, nat_tests, common_steps)

made-run : (first : ℕ) (cs : List Call) (old new : Session) → RunsTo old cs new → HasMade first old → HasMade first new
made-run first [] old new r h = subst (HasMade first) (sym r) h
made-run first (c ∷ cs) old new r h = made-run first cs r.0 new r.1.1 (made-after all_streams first c old r.0 r.1.0 h)

pub made-in : (tsn size max most : ℕ) (limits : Option Limits) (cs : List Call) (s : Session) → tsn < 2 ^ 32 → 0 < size
    → RunsTo (at_start tsn size max most limits) cs s → HasMade tsn s
made-in tsn size max most limits cs s small some r =
    made-run tsn cs (at_start tsn size max most limits) s r
    (record { numbered = []; sent = []; holds = at-first tsn size max most limits small some; made = tt })

abbrev pub WasMade : List Made → ChunkPayloadData → Type 0
WasMade ms c = is_outstanding c ≡ true → Contains ms (data_chunk (data_of c))

pub each-made : (on : ℕ → Bool) (first : ℕ) (sent : List Entry) (ms : List Made) (cs : List ChunkPayloadData) → AllMade sent ms → AreKnownOn on first sent cs
    → Every (WasMade ms) cs
each-made on first sent ms [] a k = tt
each-made on first sent ms (c ∷ cs) a k =
    (λ o. let w = k.0.0 o in made-part sent w.2 ms (data_of c) w.0 w.1 w.3 a, each-made on first sent ms cs a k.1)

-- ## Which messages are left

module _ (k : Sack) (m : ℕ) where
  abbrev Unacked : ChunkPayloadData → Bool
  Unacked c = is_of m c && not c.acked

  abbrev Gone : ChunkPayloadData → Bool
  Gone c = is_of m c && c.abandoned

  abbrev after : List ChunkPayloadData → List ChunkPayloadData
  after cs = past k.cumulative_tsn_ack (change_where (reports_anew k) as_acknowledged cs)

  -- a chunk is left open where one was abandoned, or one is not acknowledged after the SACK
  open-are : (cs : List ChunkPayloadData) → list_any (nat_eq m) (open_messages k cs) ≡ (list_any Gone cs || list_any Unacked (after cs))
  open-are [] = refl
  open-are (c ∷ cs) = grind (arith, nat_tests, open-are cs)

-- of a message of which a chunk is in flight some waits exactly where it is partially sent
half-waits : (q : Outbound) (m : ℕ) → IsSendable q.pending q.inflight.chunks q.next_message_id → list_any (is_of m) q.inflight.chunks ≡ true
    → is_half (partially_sent q.pending) m ≡ waits m q.pending
half-waits q m s there = same_test (is_half (partially_sent q.pending) m) (waits m q.pending) (λ e. partial-is (partially_sent q.pending) refl e)
    (λ e. subst (λ o. is_half o m ≡ true) (sym (s.sent m there e)) (same-yes m))
  where
    partial-is : (o : Option ℕ) → partially_sent q.pending ≡ o → is_half o m ≡ true → waits m q.pending ≡ true
    partial-is None p e = absurd (not_both e)
    partial-is (Some n) p e =
        let r = q.pending in
        partial_waits r.ordered r.unordered r.selected r.ordered_room r.unordered_room q.next_message_id m q.inflight.chunks s
        (p ∙ ap Some (same-is n m e))

shuffle : (a b c : Bool) → (not a && not (b || c)) ≡ not (b || (a || c))
shuffle a b c = grind (arith, nat_tests)

-- ## The answer

lows-are : (s t : Session) (rs : List Released) (ls : List OutboundStream) → Every (IsToldOf s t) rs → Every (IsToldOf s t) (with_lows rs ls)
lows-are s t [] ls e = tt
lows-are s t (r ∷ rs) ls e =
    (record { chunk = e.0.chunk; message = e.0.message }, lows-are s t rs (change_where (has_number r.stream) (less_by r.bytes) ls) e.1)

-- each is there
each-there : (cs : List ChunkPayloadData) → Every (λ (c : ChunkPayloadData). list_any (is_of c.message_id) cs ≡ true) cs
each-there [] = tt
each-there (c ∷ cs) = grind (arith, nat_tests, every-of, or-left, or-right, same-yes, each-there cs)

module _ (s t : Session) (k : Sack) (gone : List Released) (f : SenderFollows (takes_sack k gone) s t)
    (made : Every (WasMade s.made) s.sending.sender.flight.queue.inflight.chunks)
    (sendable : IsSendable s.sending.sender.flight.queue.pending s.sending.sender.flight.queue.inflight.chunks
    s.sending.sender.flight.queue.next_message_id) (counted : AreCounted s) where
  told-of : is_outdated k s.sending.sender.flight ≡ false → (c : ChunkPayloadData) → IsOf s.written c → WasMade s.made c
      → list_any (is_of c.message_id) s.sending.sender.flight.queue.inflight.chunks ≡ true
      → reports_anew k c ≡ true → IsToldOf s t (released_of (is_whole k s.sending.sender.flight) c)
  told-of current c of made there anew = grind (arith, nat_tests, half-waits, open-are, shuffle)

  abbrev Told : ChunkPayloadData → Type 0
  Told c = IsToldOf s t (released_of (is_whole k s.sending.sender.flight) c)

  each-told : Every (IsToldOf s t) (released_by k s.sending.sender.flight)
  each-told = by (is_outdated k s.sending.sender.flight) refl
    where
      cs : List ChunkPayloadData
      cs = s.sending.sender.flight.queue.inflight.chunks

      by : (b : Bool) → is_outdated k s.sending.sender.flight ≡ b
          → Every (IsToldOf s t) (if b then [] else map (released_of (is_whole k s.sending.sender.flight))
          (filter (reports_anew k) s.sending.sender.flight.queue.inflight.chunks))
      by true e = tt
      by false e =
          every-mapped Told (IsToldOf s t) (released_of (is_whole k s.sending.sender.flight)) (λ c i. i) (filter (reports_anew k) cs)
          (every-tested Told (reports_anew k) cs
          (every-both (λ c. IsOf s.written c × WasMade s.made c) (λ c. list_any (is_of c.message_id) cs ≡ true) (λ c. reports_anew k c ≡ true → Told c)
          (λ c i there. told-of e c i.0 i.1 there) cs
          (every-pair (IsOf s.written) (WasMade s.made) cs counted.all.inflight made)
          (each-there cs)))

  pub all-told : All (IsToldOf s t) gone
  all-told = grind (arith, nat_tests, all-of-every, each-told, lows-are)

pub each-is-told : AfterEachFitSession EachIsTold
each-is-told tsn size max most limits cs s small some r k gone t f =
    let h = made-in tsn size max most limits cs s small some r in
    all-told s t k gone f (each-made all_streams tsn h.sent s.made s.sending.sender.flight.queue.inflight.chunks h.made h.holds.held.stands.known)
    h.holds.held.stands.sendable (counted-in tsn size max most limits cs s small some r).counted
