-- What is so of each chunk that waits, and of each in flight, through each change of a sender's queues.
use Rattle.sctp_delivery.proofs.Names.{arith, common_steps, nat_tests, ◌≡◌, ℕ, ◌+◌, Bool, true, false, List, [], ◌∷◌, map, Option, Some, None, refl, subst}
use Rattle.sctp_delivery.proofs.Names.{if◌then◌else◌, none-some, change_where, ChunkPayloadData, PayloadProtocolIdentifier, Sack, Selected, as_abandoned}
use Rattle.sctp_delivery.proofs.Names.{as_acknowledged, is_of, Outbound, abandoned_of, all_started, append_chunks, as_sent, expired_of, sent_of, terminal_chunk}
use Rattle.sctp_delivery.proofs.Names.{with_inflight, with_message, with_message_id, with_terminal_chunk, Pending, closed_up, front_of, last_of, last_removed}
use Rattle.sctp_delivery.proofs.Names.{list_of, list_to_pop, next_pending, next_pending_of, one_lower, rest_from, with_deadline, without, chunk_before, is_on}
use Rattle.sctp_delivery.proofs.Names.{OutboundStream, fragment_at, fragments_of, Flight, after_sack, message_to_abandon, reports_anew, abandoned_at}
use Rattle.sctp_delivery.proofs.Names.{abandoned_each, fragments_with_mode, with_reliability, after_misses, missed}
use Rattle.std.specs.Prelude.{not, slice_get}
use Rattle.sctp_outbound.specs.payload_queue.PayloadQueue as payload
use Rattle.sctp_delivery.proofs.Cases.{at-test}
use Rattle.sctp_delivery.proofs.Every.{Every, every-changed, every-inserted, every-joined, every-left, every-made, every-mapped, every-of, every-passing}
use Rattle.sctp_delivery.proofs.Every.{every-taken}

-- each fragment of a write
pub each-fragment : (P : ChunkPayloadData → Type 0) (l : OutboundStream) (ppi : PayloadProtocolIdentifier) (bytes : List ℕ)
    → ((i : ℕ) → P (with_reliability l.reliability_type l.reliability_value (fragment_at l ppi bytes i))) → Every P (fragments_with_mode l ppi bytes)
each-fragment P l ppi bytes h =
    every-mapped (λ c. P (with_reliability l.reliability_type l.reliability_value c)) P (with_reliability l.reliability_type l.reliability_value)
    (λ c i. i) (fragments_of l ppi bytes)
    (every-made (λ c. P (with_reliability l.reliability_type l.reliability_value c)) (fragment_at l ppi bytes) h _)

-- ## What waits

module _ (P : ChunkPayloadData → Type 0) where
  abbrev pub AllWait : Pending → Type 0
  AllWait q = Every P q.ordered × Every P q.unordered

  front : (xs : List ChunkPayloadData) (c : ChunkPayloadData) → slice_get xs 0 ≡ Some c → Every P xs → P c
  front [] c e h = absurd (none-some c e)
  front (x ∷ xs) c e h = let same : x ≡ c = cc in subst P same h.0

  pub peeked : (sel : Option Selected) (q : Pending) (c : ChunkPayloadData) → next_pending_of sel q ≡ Some c → AllWait q → P c
  peeked (Some s) q c e w = at-test (λ b. slice_get (list_of b q) 0 ≡ Some c → P c) s.unordered
      (λ e h. front q.unordered c h w.1)
      (λ e h. front q.ordered c h w.0) e
  peeked None q c e w = by q.unordered e w.1
    where
      by : (us : List ChunkPayloadData) → front_of us q.ordered ≡ Some c → Every P us → P c
      by [] h s = front q.ordered c h w.0
      by (u ∷ us) h s = let same : u ≡ c = cc in subst P same s.0

  pub rest : (k : Option Bool) (q : Pending) → AllWait q → AllWait (rest_from k q)
  rest h0 h1 h2 = grind (arith, nat_tests, common_steps)

  pub fewer : (m : ℕ) (q : Pending) → AllWait q → AllWait (without m q)
  fewer m q w = (every-passing P (λ c. not (is_of m c)) q.ordered w.0, every-passing P (λ c. not (is_of m c)) q.unordered w.1)

  last : (xs : List ChunkPayloadData) (c : ChunkPayloadData) → last_of xs ≡ Some c → Every P xs → P c
  last [] c e h = absurd (none-some c e)
  last (x ∷ []) c e h = let same : x ≡ c = cc in subst P same h.0
  last (x ∷ y ∷ ys) c e h = last (y ∷ ys) c e h.1

  -- the last one that is removed
  pub removed : (m : ℕ) (q : Pending) (c : ChunkPayloadData) → last_removed m q ≡ Some c → AllWait q → P c
  removed m q c e w =
      last _ c e (every-joined P _ _ (every-passing P (is_of m) q.ordered w.0) (every-passing P (is_of m) q.unordered w.1))

-- ## The queues

module _ (P Q : ChunkPayloadData → Type 0) where
  -- P of each chunk that waits, and Q of each in flight
  pub record EachIs (q : Outbound) : Type 0 where
    pub ordered : Every P q.pending.ordered
    pub unordered : Every P q.pending.unordered
    pub inflight : Every Q q.inflight.chunks

  pub started : (now : ℕ) → ((c : ChunkPayloadData) → P c → P (with_deadline now c)) → (q : Outbound) → EachIs q → EachIs (all_started now q)
  started now keep q h = grind (arith, nat_tests, common_steps, every-changed)

  pub sent : (tsn now : ℕ) → ((c : ChunkPayloadData) → P c → Q (as_sent tsn now c)) → (o : Option ChunkPayloadData) (q : Outbound)
      → next_pending q.pending ≡ o → EachIs q → EachIs (sent_of o q tsn now)
  sent tsn now put None q e h = h
  sent tsn now put (Some c) q e h =
      let left = rest P (list_to_pop q.pending.selected c.beginning_fragment c.unordered) q.pending (h.ordered, h.unordered) in
      record {
        ordered = left.0;
        unordered = left.1;
        inflight = every-inserted Q chunk_before (as_sent tsn now c) q.inflight.chunks
            (put c (peeked P q.pending.selected q.pending c e (h.ordered, h.unordered))) h.inflight;
      }

  pub abandoned : ((c : ChunkPayloadData) → Q c → Q (as_abandoned c)) → ((tsn : ℕ) (c : ChunkPayloadData) → P c → Q (terminal_chunk tsn c))
      → (o : Option ℕ) (tsn : ℕ) (q : Outbound) → EachIs q → EachIs (abandoned_of o tsn q)
  abandoned mark end None tsn q h = h
  abandoned mark end (Some m) tsn q h =
      let w = fewer P m q.pending (h.ordered, h.unordered) in
      record { ordered = w.0; unordered = w.1; inflight = by (last_removed m q.pending) refl }
    where
      left : Every Q (change_where (is_of m) as_abandoned q.inflight.chunks)
      left = every-changed Q (is_of m) as_abandoned (λ c _ i. mark c i) q.inflight.chunks h.inflight

      by : (o : Option ChunkPayloadData) → last_removed m q.pending ≡ o
          → Every Q (with_terminal_chunk o tsn (payload.with_chunks q.inflight (change_where (is_of m) as_abandoned q.inflight.chunks))).chunks
      by None e = left
      by (Some c) e = every-inserted Q chunk_before (terminal_chunk tsn c) (change_where (is_of m) as_abandoned q.inflight.chunks)
          (end tsn c (removed P m q.pending c e (h.ordered, h.unordered))) left

  pub each-abandoned : ((c : ChunkPayloadData) → Q c → Q (as_abandoned c)) → ((tsn : ℕ) (c : ChunkPayloadData) → P c → Q (terminal_chunk tsn c))
      → (ts : List ℕ) (f : Flight) → EachIs f.queue → EachIs (abandoned_each ts f).queue
  each-abandoned mark end [] f h = h
  each-abandoned mark end (t ∷ ts) f h =
      each-abandoned mark end ts (abandoned_at t f) (abandoned mark end (message_to_abandon t f) f.next_tsn f.queue h)

  pub expired : ((c : ChunkPayloadData) → P c → P (one_lower c)) → (o : Option ChunkPayloadData) (q : Outbound) → EachIs q → EachIs (expired_of o q)
  expired keep None q h = h
  expired keep (Some c) q h = by c.unordered
    where
      left : AllWait P (without c.message_id q.pending)
      left = fewer P c.message_id q.pending (h.ordered, h.unordered)

      by : (b : Bool) → EachIs (record q {
        pending = if b then without c.message_id q.pending else closed_up c.stream_identifier (without c.message_id q.pending);
      })
      by true = record { ordered = left.0; unordered = left.1; inflight = h.inflight }
      by false = record {
        ordered = every-changed P (is_on c.stream_identifier) one_lower (λ d _ i. keep d i) (without c.message_id q.pending).ordered left.0;
        unordered = left.1;
        inflight = h.inflight;
      }

  pub marked : (p : ChunkPayloadData → Bool) (f : ChunkPayloadData → ChunkPayloadData) → ((c : ChunkPayloadData) → Q c → Q (f c)) → (q : Outbound)
      → EachIs q → EachIs (with_inflight q (change_where p f q.inflight.chunks))
  marked p f keep q h =
      record { ordered = h.ordered; unordered = h.unordered; inflight = every-changed Q p f (λ c _ i. keep c i) q.inflight.chunks h.inflight }

  pub missed-some : ((c : ChunkPayloadData) → Q c → Q (missed c)) → (count : ℕ) (f : Flight) → EachIs f.queue → EachIs (after_misses count f).queue
  missed-some keep count f h = grind (arith, nat_tests, common_steps, every-joined, every-changed, every-taken, every-left)

  pub sacked : (k : Sack) → ((c : ChunkPayloadData) → reports_anew k c ≡ true → Q c → Q (as_acknowledged c)) → (f : Flight) → EachIs f.queue
      → EachIs (after_sack k f).queue
  sacked k keep f h = grind (arith, nat_tests, common_steps, every-passing, every-changed)

-- a message is written, and what is said may grow
module _ (P Q P' Q' : ChunkPayloadData → Type 0) (waits : (c : ChunkPayloadData) → P c → P' c) (flies : (c : ChunkPayloadData) → Q c → Q' c) where
  pub pushed : (cs : List ChunkPayloadData) (q : Outbound) → Every (λ c. P' (with_message_id q.next_message_id c)) cs → EachIs P Q q
      → EachIs P' Q' (with_message cs q)
  pushed [] q new h = grind (arith, nat_tests, common_steps, every-of)
  pushed (c ∷ cs) q new h = at-test (λ b. EachIs P' Q' (record q { pending = append_chunks b ms q.pending; next_message_id = q.next_message_id + 1 }))
      c.unordered
      (λ e. record {
        ordered = every-of P P' waits q.pending.ordered h.ordered;
        unordered = every-joined P' q.pending.unordered ms (every-of P P' waits q.pending.unordered h.unordered) more;
        inflight = every-of Q Q' flies q.inflight.chunks h.inflight;
      })
      (λ e. record {
        ordered = every-joined P' q.pending.ordered ms (every-of P P' waits q.pending.ordered h.ordered) more;
        unordered = every-of P P' waits q.pending.unordered h.unordered;
        inflight = every-of Q Q' flies q.inflight.chunks h.inflight;
      })
    where
      ms : List ChunkPayloadData
      ms = map (with_message_id q.next_message_id) (c ∷ cs)

      more : Every P' ms
      more = every-mapped (λ d. P' (with_message_id q.next_message_id d)) P' (with_message_id q.next_message_id) (λ d i. i) (c ∷ cs) new
