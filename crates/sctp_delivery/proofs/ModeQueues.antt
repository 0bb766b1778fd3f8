-- How each chunk that waits or is in flight is sent: as its write is, whatever a sender does.
use Rattle.sctp_delivery.proofs.Names.{◌≡◌, ℕ, zero, suc, ◌+◌, ◌<◌, ◌≤◌, Bool, true, false, List, [], ◌∷◌, length, map, Option, Some, None, is_some, refl, ap}
use Rattle.sctp_delivery.proofs.Names.{sym, subst, ◌∙◌, arith, if◌then◌else◌, ◌==◌, slice_index_or, cases_lt, nat_tests, length-map, common_steps, change_where}
use Rattle.sctp_delivery.proofs.Names.{same-is, both, not_both, is_dcep, is_ordered, ChunkPayloadData, PayloadProtocolIdentifier, Sack, as_abandoned}
use Rattle.sctp_delivery.proofs.Names.{as_acknowledged, is_outstanding, with_retransmit, Outbound, abandoned_of, all_started, append_chunks, as_sent}
use Rattle.sctp_delivery.proofs.Names.{expired_of, sent_next, sent_of, terminal_chunk, with_inflight, with_message, with_message_id, is_to_start, next_pending}
use Rattle.sctp_delivery.proofs.Names.{one_lower, start_pending, with_deadline, has_tsn, OutboundStream, Flight, after_sack, is_outdated, message_to_abandon}
use Rattle.sctp_delivery.proofs.Names.{take_sack, abandoned_at, abandoned_each, fragments_with_mode, with_reliability, after_misses, all_marked, count_again}
use Rattle.sctp_delivery.proofs.Names.{missed, resent_at, sent_again, fragment_at, fragments_of, Mode, Sending, deadline_of, mode_of_write, numbered_in}
use Rattle.sctp_delivery.proofs.Names.{reliable_mode, starting}
use Rattle.std.specs.Prelude.{not}
use Rattle.sctp_data.specs.Reliability.{deadline_at, is_timed}
use Rattle.sctp_delivery.specs.Modes.{moment}
use Rattle.sctp_delivery.proofs.Every.{Every, every-joined, every-mapped, every-of, every-made}
use Rattle.sctp_delivery.proofs.QueueChunks.{EachIs, abandoned, expired, marked, missed-some, sacked, sent}

-- ## Writes by their numbers

pub numbered-more : (w : Sending) (ws : List Sending) (n : ℕ) → n < length ws → numbered_in n (w ∷ ws) ≡ numbered_in n ws
numbered-more w ws n lt = grind (arith, nat_tests)

pub numbered-started : (now : ℕ) (ws : List Sending) (n : ℕ) → n < length ws → numbered_in n (map (starting now) ws) ≡ starting now (numbered_in n ws)
numbered-started now [] n lt = absurd (omega (arith, lt))
numbered-started now (w ∷ ws) n lt =
    ap (λ k. if k == n then starting now w else numbered_in n (map (starting now) ws)) (length-map ws (starting now)) ∙ by (length ws == n) refl
    (λ less. numbered-started now ws n less)
  where
    by : (b : Bool) → (length ws == n) ≡ b → (n < length ws → numbered_in n (map (starting now) ws) ≡ starting now (numbered_in n ws))
        → (if b then starting now w else numbered_in n (map (starting now) ws))
        ≡ starting now (if b then w else numbered_in n ws)
    by true e ih = refl
    by false e ih = ih (let z : n < suc (length ws) = lt in grind (arith, nat_tests))

-- the write at the place, counted from the last one
pub numbered-at : (ws : List Sending) (k n : ℕ) (d : Sending) → k + n + 1 ≡ length ws → slice_index_or ws k d ≡ numbered_in n ws
numbered-at [] k n d e = absurd (omega (arith, e))
numbered-at (w ∷ ws) zero n d e = grind (arith, nat_tests)
numbered-at (w ∷ ws) (suc k) n d e =
    numbered-at ws k n d (omega (arith, e)) ∙ sym (numbered-more w ws n (omega (arith, e)))

-- one that was started stays as it is
pub starting-same : (now : ℕ) (w : Sending) → is_some w.started ≡ true → starting now w ≡ w
starting-same now w h = grind (arith, nat_tests)

-- ## Chunks

-- the chunk is to be sent in this mode
pub record IsInMode (m : Mode) (c : ChunkPayloadData) : Type 0 where
  pub kind : c.unordered ≡ m.unordered
  pub dcep : is_dcep c.payload_type ≡ true → m ≡ reliable_mode
  pub other : is_dcep c.payload_type ≡ false → c.reliability ≡ Some (m.reliability, m.value)

-- as its write is
abbrev pub HasMode : List Sending → ChunkPayloadData → Type 0
HasMode ws c = (c.message_id < length ws) × IsInMode (numbered_in c.message_id ws).mode c

abbrev pub HasDeadline : List Sending → ChunkPayloadData → Type 0
HasDeadline ws c = c.deadline ≡ deadline_of (numbered_in c.message_id ws)

abbrev pub IsWaiting : List Sending → ChunkPayloadData → Type 0
IsWaiting ws c = HasMode ws c × HasDeadline ws c

-- in flight, where messages with numbers below this one are started
abbrev pub IsFlying : List Sending → ℕ → ChunkPayloadData → Type 0
IsFlying ws n c = HasMode ws c × (c.abandoned ≡ false → (c.message_id < n) × HasDeadline ws c)

-- a change of a chunk by which it is sent as before
pub record KeepsSending (f : ChunkPayloadData → ChunkPayloadData) : Type 0 where
  pub message : (c : ChunkPayloadData) → (f c).message_id ≡ c.message_id
  pub kind : (c : ChunkPayloadData) → (f c).unordered ≡ c.unordered
  pub of_type : (c : ChunkPayloadData) → (f c).payload_type ≡ c.payload_type
  pub reliability : (c : ChunkPayloadData) → (f c).reliability ≡ c.reliability
  pub deadline : (c : ChunkPayloadData) → (f c).deadline ≡ c.deadline
  pub open' : (c : ChunkPayloadData) → (f c).abandoned ≡ false → c.abandoned ≡ false

pub in-mode-kept : (m : Mode) (c d : ChunkPayloadData) → d.unordered ≡ c.unordered → d.payload_type ≡ c.payload_type → d.reliability ≡ c.reliability
    → IsInMode m c → IsInMode m d
in-mode-kept m c d k p r i = grind (arith, nat_tests)

pub has-mode-kept : (ws : List Sending) (c d : ChunkPayloadData) → d.message_id ≡ c.message_id → d.unordered ≡ c.unordered → d.payload_type ≡ c.payload_type
    → d.reliability ≡ c.reliability → HasMode ws c → HasMode ws d
has-mode-kept ws c d n k p r h = grind (arith, nat_tests)

module _ (f : ChunkPayloadData → ChunkPayloadData) (k : KeepsSending f) (ws : List Sending) where
  abbrev mode-then : (c : ChunkPayloadData) → HasMode ws c → HasMode ws (f c)
  mode-then c h = has-mode-kept ws c (f c) (k.message c) (k.kind c) (k.of_type c) (k.reliability c) h

  abbrev deadline-then : (c : ChunkPayloadData) → HasDeadline ws c → HasDeadline ws (f c)
  deadline-then c h = k.deadline c ∙ h ∙ ap (λ n. deadline_of (numbered_in n ws)) (sym (k.message c))

  pub waiting-kept : (c : ChunkPayloadData) → IsWaiting ws c → IsWaiting ws (f c)
  waiting-kept c h = (mode-then c h.0, deadline-then c h.1)

  pub flying-kept : (n : ℕ) (c : ChunkPayloadData) → IsFlying ws n c → IsFlying ws n (f c)
  flying-kept n c h = grind (arith, nat_tests)

-- one write more
pub mode-more : (w : Sending) (ws : List Sending) (c : ChunkPayloadData) → HasMode ws c → HasMode (w ∷ ws) c
mode-more w ws c h =
    (omega (arith, h.0), subst (λ (v : Sending). IsInMode v.mode c) (sym (numbered-more w ws c.message_id h.0)) h.1)

pub deadline-more : (w : Sending) (ws : List Sending) (c : ChunkPayloadData) → c.message_id < length ws → HasDeadline ws c → HasDeadline (w ∷ ws) c
deadline-more w ws c lt h = h ∙ ap deadline_of (sym (numbered-more w ws c.message_id lt))

pub flying-more : (w : Sending) (ws : List Sending) (n : ℕ) (c : ChunkPayloadData) → IsFlying ws n c → IsFlying (w ∷ ws) n c
flying-more w ws n c h = (mode-more w ws c h.0, λ e. let o = h.1 e in (o.0, deadline-more w ws c h.0.0 o.1))

-- ## The queues

-- each chunk is sent as its write is; each write below the number from which on lifetimes are to start is started, and no other
pub record AreModed (ws : List Sending) (q : Outbound) : Type 0 where
  pub ordered : Every (IsWaiting ws) q.pending.ordered
  pub unordered : Every (IsWaiting ws) q.pending.unordered
  pub inflight : Every (IsFlying ws q.next_unstarted) q.inflight.chunks
  pub count : q.next_message_id ≡ length ws
  pub upto : q.next_unstarted ≤ length ws
  pub begun : (n : ℕ) → n < q.next_unstarted → is_some (numbered_in n ws).started ≡ true
  pub unbegun : (n : ℕ) → q.next_unstarted ≤ n → n < length ws → (numbered_in n ws).started ≡ None

module _ (ws : List Sending) where
  each-of : (q : Outbound) → AreModed ws q → EachIs (IsWaiting ws) (IsFlying ws q.next_unstarted) q
  each-of q s = record { ordered = s.ordered; unordered = s.unordered; inflight = s.inflight }

  -- the same numbers, and each chunk so
  with-each : (q r : Outbound) → r.next_message_id ≡ q.next_message_id → r.next_unstarted ≡ q.next_unstarted
      → EachIs (IsWaiting ws) (IsFlying ws q.next_unstarted) r → AreModed ws q → AreModed ws r
  with-each q r ids n h s = grind (arith, nat_tests)

  -- ## Abandonment

  marks : KeepsSending as_abandoned
  marks = grind (arith, nat_tests)

  pub abandoned-moded : (o : Option ℕ) (tsn : ℕ) (q : Outbound) → AreModed ws q → AreModed ws (abandoned_of o tsn q)
  abandoned-moded None tsn q s = s
  abandoned-moded (Some m) tsn q s =
      let n = q.next_unstarted in
      with-each q (abandoned_of (Some m) tsn q) refl refl
      (abandoned (IsWaiting ws) (IsFlying ws n) (flying-kept as_abandoned marks ws n)
      (λ t c h. (has-mode-kept ws c (terminal_chunk t c) refl refl refl refl h.0, λ a. absurd (not_both (sym a)))) (Some m) tsn q (each-of q s)) s

  pub each-moded : (ts : List ℕ) (f : Flight) → AreModed ws f.queue → AreModed ws (abandoned_each ts f).queue
  each-moded [] f s = s
  each-moded (t ∷ ts) f s = each-moded ts (abandoned_at t f) (abandoned-moded (message_to_abandon t f) f.next_tsn f.queue s)

  lowers : KeepsSending one_lower
  lowers = record { message = λ c. refl; kind = λ c. refl; of_type = λ c. refl; reliability = λ c. refl; deadline = λ c. refl; open' = λ c e. e }

  pub expired-moded : (o : Option ChunkPayloadData) (q : Outbound) → AreModed ws q → AreModed ws (expired_of o q)
  expired-moded None q s = s
  expired-moded (Some c) q s =
      with-each q (expired_of (Some c) q) refl refl
      (expired (IsWaiting ws) (IsFlying ws q.next_unstarted) (waiting-kept one_lower lowers ws) (Some c) q (each-of q s)) s

  -- ## Marks

  marked-so : (f : Flight) (p : ChunkPayloadData → Bool) (g : ChunkPayloadData → ChunkPayloadData) → KeepsSending g → AreModed ws f.queue
      → AreModed ws (with_inflight f.queue (change_where p g f.queue.inflight.chunks))
  marked-so f p g k s =
      let q = f.queue in
      with-each q (with_inflight q (change_where p g q.inflight.chunks)) refl refl
      (marked (IsWaiting ws) (IsFlying ws q.next_unstarted) p g (flying-kept g k ws q.next_unstarted) q (each-of q s)) s

  pub resent-moded : (tsn now : ℕ) (c : ChunkPayloadData) (f : Flight) → AreModed ws f.queue → AreModed ws (resent_at tsn now c f).queue
  resent-moded tsn now c f s = marked-so f (has_tsn tsn) (sent_again (count_again c) now)
      (record { message = λ d. refl; kind = λ d. refl; of_type = λ d. refl; reliability = λ d. refl; deadline = λ d. refl; open' = λ d e. e }) s

  pub marked-moded : (f : Flight) → AreModed ws f.queue → AreModed ws (all_marked f).queue
  marked-moded f s = marked-so f is_outstanding (with_retransmit true)
      (record { message = λ d. refl; kind = λ d. refl; of_type = λ d. refl; reliability = λ d. refl; deadline = λ d. refl; open' = λ d e. e }) s

  misses-keep : KeepsSending missed
  misses-keep = record { message = λ c. refl; kind = λ c. refl; of_type = λ c. refl; reliability = λ c. refl; deadline = λ c. refl; open' = λ c e. e }

  pub missed-moded : (count : ℕ) (f : Flight) → AreModed ws f.queue → AreModed ws (after_misses count f).queue
  missed-moded count f s =
      let n = f.queue.next_unstarted in
      with-each f.queue (after_misses count f).queue refl refl
      (missed-some (IsWaiting ws) (IsFlying ws n) (flying-kept missed misses-keep ws n) count f (each-of f.queue s)) s

  acks : KeepsSending as_acknowledged
  acks = record { message = λ c. refl; kind = λ c. refl; of_type = λ c. refl; reliability = λ c. refl; deadline = λ c. refl; open' = λ c e. e }

  pub sack-moded : (k : Sack) (f : Flight) → AreModed ws f.queue → AreModed ws (after_sack k f).queue
  sack-moded k f s =
      let n = f.queue.next_unstarted in
      with-each f.queue (after_sack k f).queue (ids (is_outdated k f)) (first (is_outdated k f))
      (sacked (IsWaiting ws) (IsFlying ws n) k (λ c _ h. flying-kept as_acknowledged acks ws n c h) f (each-of f.queue s)) s
    where
      ids : (b : Bool) → (if b then f else take_sack k f).queue.next_message_id ≡ f.queue.next_message_id
      ids true = refl
      ids false = refl

      first : (b : Bool) → (if b then f else take_sack k f).queue.next_unstarted ≡ f.queue.next_unstarted
      first true = refl
      first false = refl

  -- ## Sending

  pub sent-of-moded : (o : Option ChunkPayloadData) (q : Outbound) (tsn now : ℕ) → next_pending q.pending ≡ o → q.next_unstarted ≡ length ws → AreModed ws q
      → AreModed ws (sent_of o q tsn now)
  sent-of-moded None q tsn now e all s = s
  sent-of-moded (Some c) q tsn now e all s =
      with-each q (sent_of (Some c) q tsn now) refl refl
      (sent (IsWaiting ws) (IsFlying ws q.next_unstarted) tsn now
      (λ d h. (has-mode-kept ws d (as_sent tsn now d) refl refl refl refl h.0, λ _. (subst (λ n. d.message_id < n) (sym all) h.0.0, h.1)))
      (Some c) q e (each-of q s)) s

-- ## Lifetimes

-- a chunk in flight, where later messages are started
pub flying-started : (now n : ℕ) (ws : List Sending) (c : ChunkPayloadData) → ((i : ℕ) → i < n → is_some (numbered_in i ws).started ≡ true)
    → IsFlying ws n c → IsFlying (map (starting now) ws) (length ws) c
flying-started now n ws c begun h = grind (arith, nat_tests, length-map, numbered-started, starting-same)

-- a chunk that waits, before and after lifetimes start
module _ (now first : ℕ) (ws : List Sending) (c : ChunkPayloadData) (h : IsWaiting ws c)
    (begun : first ≤ c.message_id → (numbered_in c.message_id ws).started ≡ None)
    (other : c.message_id < first → is_some (numbered_in c.message_id ws).started ≡ true) where
  abbrev w : Sending
  w = numbered_in c.message_id ws

  abbrev v : Sending
  v = numbered_in c.message_id (map (starting now) ws)

  started-is : v ≡ starting now w
  started-is = numbered-started now ws c.message_id h.0.0

  in-mode : IsInMode v.mode c
  in-mode = subst (λ (x : Sending). IsInMode x.mode c) (sym started-is) h.0.1

  -- the deadline of one that starts now
  pub new-deadline : (w.started ≡ None) → deadline_of v ≡ (if is_timed w.mode.reliability then deadline_at now w.mode.value else None)
  new-deadline none = ap deadline_of started-is ∙ ap (λ o. deadline_of (record { mode = w.mode; started = moment now o })) none

  -- it is changed where it is to start
  starts : is_to_start first c ≡ true → IsWaiting (map (starting now) ws) (with_deadline now c)
  starts e = grind (arith, common_steps, both, in-mode, in-mode-kept, new-deadline, not_both)

  -- and stays where it is not
  stays : is_to_start first c ≡ false → IsWaiting (map (starting now) ws) c
  stays e = grind (arith, common_steps, cases_lt, in-mode, new-deadline, not_both, started-is, starting-same)

pub started-moded : (now : ℕ) (ws : List Sending) (q : Outbound) → AreModed ws q
    → AreModed (map (starting now) ws) (all_started now q) × ((all_started now q).next_unstarted ≡ length (map (starting now) ws))
started-moded now ws q s = by (q.next_unstarted == q.next_message_id) refl
  where
    long : length (map (starting now) ws) ≡ length ws
    long = length-map ws (starting now)

    first : ℕ
    first = q.next_unstarted

    each : (u : ℕ) → u ≡ length ws → (n : ℕ) → n < u → is_some (numbered_in n (map (starting now) ws)).started ≡ true
    each u h2 n h4 = grind (arith, nat_tests, is_some, numbered-started)

    waiting : (cs : List ChunkPayloadData) → Every (IsWaiting ws) cs
        → Every (IsWaiting (map (starting now) ws)) (change_where (is_to_start first) (with_deadline now) cs)
    waiting [] h = tt
    waiting (c ∷ cs) h = (one (is_to_start first c) refl, waiting cs h.1)
      where
        one : (b : Bool) → is_to_start first c ≡ b → IsWaiting (map (starting now) ws) (if b then with_deadline now c else c)
        one true e = starts now first ws c h.0 (λ le. s.unbegun c.message_id le h.0.0.0) (λ lt. s.begun c.message_id lt) e
        one false e = stays now first ws c h.0 (λ le. s.unbegun c.message_id le h.0.0.0) (λ lt. s.begun c.message_id lt) e

    -- where all are started
    same : q.next_unstarted ≡ length ws → (c : ChunkPayloadData) → IsWaiting ws c → IsWaiting (map (starting now) ws) c
    same h1 c h3 = grind (arith, nat_tests, long, numbered-started, starting-same)

    flying : (u : ℕ) → u ≡ length ws → Every (IsFlying (map (starting now) ws) u) q.inflight.chunks
    flying u e =
        subst (λ i. Every (IsFlying (map (starting now) ws) i) q.inflight.chunks) (sym e)
        (every-of (IsFlying ws first) (IsFlying (map (starting now) ws) (length ws)) (λ c h. flying-started now first ws c s.begun h) q.inflight.chunks
        s.inflight)

    by : (b : Bool) → (q.next_unstarted == q.next_message_id) ≡ b
        → AreModed (map (starting now) ws) (if b then q
        else record q { pending = start_pending q.next_unstarted now q.pending; next_unstarted = q.next_message_id })
        × ((if b then q else record q { pending = start_pending q.next_unstarted now q.pending; next_unstarted = q.next_message_id }).next_unstarted
        ≡ length (map (starting now) ws))
    by b h2 = grind (arith, nat_tests, each, every-of, flying, long, same, same-is, waiting)

-- lifetimes start, and the chunk in front is sent
pub sent-moded : (now tsn : ℕ) (ws : List Sending) (q : Outbound) → AreModed ws q → AreModed (map (starting now) ws) (sent_next q tsn now)
sent-moded now tsn ws q s = grind (arith, nat_tests, sent-of-moded, started-moded)

-- ## A write

-- a fragment of a write that is sent so, without its number
pub record IsNew (w : Sending) (c : ChunkPayloadData) : Type 0 where
  pub mode : IsInMode w.mode c
  pub bare : c.deadline ≡ None

pub message-moded : (w : Sending) (ws : List Sending) (c : ChunkPayloadData) (cs : List ChunkPayloadData) (q : Outbound) → w.started ≡ None
    → Every (IsNew w) (c ∷ cs) → AreModed ws q → AreModed (w ∷ ws) (with_message (c ∷ cs) q)
message-moded w ws c cs q none new s = by c.unordered
  where
    named : (d : ChunkPayloadData) → IsNew w d → IsWaiting (w ∷ ws) (with_message_id q.next_message_id d)
    named d h2 = grind (arith, nat_tests)

    news : Every (IsWaiting (w ∷ ws)) (map (with_message_id q.next_message_id) (c ∷ cs))
    news = every-mapped (IsNew w) (IsWaiting (w ∷ ws)) (with_message_id q.next_message_id) named (c ∷ cs) new

    unstarted : (n : ℕ) → q.next_unstarted ≤ n → n < length (w ∷ ws) → (numbered_in n (w ∷ ws)).started ≡ None
    unstarted n h2 h3 = grind (arith, nat_tests)

    by : (b : Bool) → AreModed (w ∷ ws) (record q {
      pending = append_chunks b
          (map (with_message_id q.next_message_id) (c ∷ cs)) q.pending;
      next_message_id = q.next_message_id + 1;
    })
    by h0 = grind (arith, nat_tests, common_steps, every-joined, news, every-of, flying-more, is_some, numbered-more, unstarted)

-- the stream has this mode
pub record HasModeOf (m : Mode) (l : OutboundStream) : Type 0 where
  pub unordered : l.unordered ≡ m.unordered
  pub reliability : l.reliability_type ≡ m.reliability
  pub value : l.reliability_value ≡ m.value

-- a fragment of a write on it, but for its mode
record IsBareOf (l : OutboundStream) (ppi : PayloadProtocolIdentifier) (c : ChunkPayloadData) : Type 0 where
  kind : c.unordered ≡ not (is_ordered l.unordered ppi)
  of_type : c.payload_type ≡ ppi
  bare : c.deadline ≡ None

-- so have the fragments of a write on it
pub fragments-new : (m : Mode) (l : OutboundStream) (ppi : PayloadProtocolIdentifier) (bytes : List ℕ) → HasModeOf m l
    → Every (IsNew (record { mode = mode_of_write ppi m; started = None })) (fragments_with_mode l ppi bytes)
fragments-new m l ppi bytes has =
    every-moded (fragments_of l ppi bytes) (every-made (IsBareOf l ppi) (fragment_at l ppi bytes) (λ i. record { kind = refl; of_type = refl; bare = refl }) _)
  where
    one : (c : ChunkPayloadData) → IsBareOf l ppi c → (b : Bool) → is_dcep ppi ≡ b
        → IsInMode (if b then reliable_mode else m) (with_reliability l.reliability_type l.reliability_value c)
    one c h2 b h4 = grind (arith, nat_tests)

    every-moded : (cs : List ChunkPayloadData) → Every (IsBareOf l ppi) cs
        → Every (IsNew (record { mode = mode_of_write ppi m; started = None })) (map (with_reliability l.reliability_type l.reliability_value) cs)
    every-moded cs h =
        every-mapped (IsBareOf l ppi) (IsNew (record { mode = mode_of_write ppi m; started = None }))
        (with_reliability l.reliability_type l.reliability_value) (λ c i. record { mode = one c i (is_dcep ppi) refl; bare = i.bare }) cs h
