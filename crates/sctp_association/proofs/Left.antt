-- Each chunk that leaves, expires or is abandoned leaves fewer packets that can leave.
use Rattle.std.proofs.Common.{◌≡◌, ◌⊎◌, inl, inr, ℕ, zero, suc, ◌+◌, ◌<◌, ◌≤◌, Bool, true, false, not, List, [], ◌∷◌, ◌++◌, length, Option, Some, None, refl}
use Rattle.std.proofs.Common.{sym, ap}
use Rattle.std.proofs.Common.{slice_get, subst, ◌∙◌, arith}
use Rattle.std.proofs.lemmas.Bool.{false≢true}
use Rattle.std.proofs.lemmas.Bool.Decides.{nat_tests}
use Rattle.std.proofs.lemmas.List.Sums.{sum_by-cons}
use Rattle.std.proofs.lemmas.Option.{none-some}
use Rattle.std.specs.Prelude.{◌≢◌, ◌||◌, ◌==◌, IfSome, find, if◌then◌else◌, is_some, option_map}
use Rattle.std.specs.List.{list_any, sum_by}
use Rattle.sctp_association.specs.Leaving.{one_where}
use Rattle.sctp_association.proofs.Fewer.{fewer_less}
use Rattle.sctp_association.specs.declared.outbound.Outbound.{Outbound as Sending}
use Rattle.sctp_association.specs.Most.{FewerWherePut, most_data, packets_in, packets_of, tells_some}
use Rattle.sctp_association.proofs.Tsns.{expired-waits, sent-waits, started-waits, waiting-gone, waiting-less}
use Rattle.sctp_data.specs.declared.chunk.chunk_payload_data.ChunkPayloadData.{ChunkPayloadData}
use Rattle.sctp_outbound.proofs.lemmas.outbound_queue.Sendable.{sendable-changed}
use Rattle.sctp_outbound.proofs.lemmas.pending_queue.CompleteMessages.{KeepsMessage}
use Rattle.sctp_outbound.specs.Marks.{as_abandoned, is_of}
use Rattle.sctp_outbound.specs.outbound_queue.OutboundQueue.{Outbound, abandon_chunks, abandoned_of, all_started, as_sent, expired_of, expired_times, expiring}
use Rattle.sctp_outbound.specs.outbound_queue.OutboundQueue.{expiring_tail, is_expired_tail, late_tsns, passing, sent_next, sent_of, terminal_chunk, to_abandon}
use Rattle.sctp_outbound.specs.outbound_queue.OutboundQueue.{with_terminal_chunk}
use Rattle.sctp_outbound.specs.payload_queue.PayloadQueue as payload
use Rattle.sctp_outbound.specs.declared.pending_queue.Selected.{Selected}
use Rattle.sctp_outbound.specs.pending_queue.PendingQueue.{Pending, front_of, is_to_start, last_removed, list_of, next_pending, next_pending_of, start_pending}
use Rattle.sctp_outbound.specs.pending_queue.PendingQueue.{with_deadline}
use Rattle.sctp_outbound.proofs.lemmas.outbound_queue.Outbounds.{peeked_all_started}
use Rattle.sctp_sender.proofs.Flights.{started-inflight}
use Rattle.sctp_outbound.specs.pending_queue.Whole.{IsSendable, waits}
use Rattle.sctp_sender.specs.declared.sender.flight.late.AbandonedMessage.{AbandonedMessage}
use Rattle.sctp_sender.proofs.Lates.{found-passes}
use Rattle.sctp_sender.specs.declared.sender.Dropped.{Dropped}
use Rattle.sctp_sender.specs.declared.sender.Dropped.TheVariants.{Abandoned, Expired}
use Rattle.sctp_sender.specs.Drops.{TailGoes, list_in, run_in, with_lifetimes}
use Rattle.sctp_sender.specs.Flight.{Flight, can_resend, message_to_abandon}
use Rattle.sctp_sender.specs.Late.{abandoned_at, abandoned_each, abandoned_with, after_abandoning, after_late, after_worn, late_order, leaving_at, leaving_each}
use Rattle.sctp_sender.specs.Late.{worn_order}
use Rattle.sctp_sender.specs.Resending.{count_again, fits, if_it_fits, is_to_resend, next_within, resent_at, sent_again}
use Rattle.sctp_sender.specs.Sender.{Transmission, after_expire_run, after_send, with_flight}
use Rattle.sctp_sender.specs.Thresholds.{with_message_lows}
use Rattle.sctp_stream.specs.declared.outbound_stream.OutboundStream.{OutboundStream}
use Rattle.sctp_serial.specs.DataChunks.{chunk_before, has_tsn}
use Rattle.sctp_util.proofs.Cases.{or-left, or-right}
use Rattle.sctp_util.proofs.Edits.{sum_by-inserted}
use Rattle.sctp_util.specs.Lists.{change_where}

-- ## Sums

module _ {X : Type 0} (w : X → ℕ) (p : X → Bool) (f : X → X) (le : (x : X) → w (f x) ≤ w x) where
  one-few : (b : Bool) (x : X) → w (if b then f x else x) ≤ w x
  one-few true x = le x
  one-few false x = omega arith

  pub changed_few : (xs : List X) → sum_by w (change_where p f xs) ≤ sum_by w xs
  changed_few [] = omega arith
  changed_few (x ∷ xs) =
      let rest = changed_few xs in
      let head = one-few (p x) x in
      let new = sum_by-cons w (if p x then f x else x) (change_where p f xs) in
      let old = sum_by-cons w x xs in
      omega (arith, rest, head, new, old)

  one-less : (b : Bool) (x : X) → b ≡ true → w (f x) < w x → w (if b then f x else x) < w x
  one-less true x e less = less
  one-less false x e less = absurd (false≢true e)

  -- where one of them is found that is changed to less
  pub changed_less : (q : X → Bool) (xs : List X) (c : X) → find q xs ≡ Some c → p c ≡ true → w (f c) < w c
      → sum_by w (change_where p f xs) < sum_by w xs
  changed_less q [] c is on less = absurd (none-some c is)
  changed_less q (x ∷ xs) c is on less = by (q x) is (λ e. changed_less q xs c e on less)
    where
      new : sum_by w (change_where p f (x ∷ xs)) ≡ w (if p x then f x else x) + sum_by w (change_where p f xs)
      new = sum_by-cons w (if p x then f x else x) (change_where p f xs)

      old : sum_by w (x ∷ xs) ≡ w x + sum_by w xs
      old = sum_by-cons w x xs

      by : (b : Bool) → (if b then Some x else find q xs) ≡ Some c → (find q xs ≡ Some c → sum_by w (change_where p f xs) < sum_by w xs)
          → sum_by w (change_where p f (x ∷ xs)) < sum_by w (x ∷ xs)
      by true e further =
          let same : x ≡ c = cc in
          let head = one-less (p x) x (ap p same ∙ on) (subst (λ y. w (f y) < w y) (sym same) less) in
          let rest = changed_few xs in
          omega (arith, head, rest, new, old)
      by false e further =
          let head = one-few (p x) x in
          let rest = further e in
          omega (arith, head, rest, new, old)

-- ## A chunk

abandoned-few : (c : ChunkPayloadData) → packets_of (as_abandoned c) ≤ packets_of c
abandoned-few c = omega arith

again-few : (n now : ℕ) (c : ChunkPayloadData) → packets_of (sent_again n now c) ≤ packets_of c
again-few n now c = omega arith

again-less : (n now : ℕ) (c : ChunkPayloadData) → is_to_resend c ≡ true → packets_of (sent_again n now c) < packets_of c
again-less n now c e = rw e (omega arith)

kept-less : (c : ChunkPayloadData) → c.abandoned ≡ false → packets_of (as_abandoned c) < packets_of c
kept-less c e = rw e (omega arith)

one-most : (b : Bool) → one_where b ≤ 1
one-most true = omega arith
one-most false = omega arith

two-most : (c : ChunkPayloadData) → packets_of c ≤ 2
two-most c = let a = one-most (not c.abandoned) in let b = one-most (is_to_resend c) in omega (arith, a, b)

-- ## Lifetimes

pub started_same : (now : ℕ) (q : Outbound) → packets_in (all_started now q) ≡ packets_in q
started_same now q =
    let waits = started-waits now q in
    let same = ap (λ (p : payload.Payload). sum_by packets_of p.chunks) (started-inflight now q) in
    omega (arith, waits, same)

started-sendable : (now : ℕ) (q : Outbound) → IsSendable q.pending q.inflight.chunks q.next_message_id
    → IsSendable (all_started now q).pending (all_started now q).inflight.chunks (all_started now q).next_message_id
started-sendable now q s = by (q.next_unstarted == q.next_message_id)
  where
    keeps : KeepsMessage (with_deadline now)
    keeps = record { number = λ _. refl; begins = λ _. refl; ends = λ _. refl; kind = λ _. refl }

    by : (b : Bool)
        → (let r : Outbound = if b then q else record q { pending = start_pending q.next_unstarted now q.pending; next_unstarted = q.next_message_id } in
        IsSendable r.pending r.inflight.chunks r.next_message_id)
    by true = s
    by false =
        sendable-changed _ _ _ _ _ _ _ _ _ (is_to_start q.next_unstarted) (is_to_start q.next_unstarted) (with_deadline now) (with_deadline now) keeps keeps s

-- ## Sending

sent-more : (o : Option ChunkPayloadData) (q : Outbound) (tsn now : ℕ) → sum_by packets_of (sent_of o q tsn now).inflight.chunks
    ≤ 2 + sum_by packets_of q.inflight.chunks
sent-more None q tsn now = omega arith
sent-more (Some c) q tsn now =
    let more = sum_by-inserted packets_of chunk_before (as_sent tsn now c) q.inflight.chunks in
    let few = two-most (as_sent tsn now c) in
    omega (arith, more, few)

-- the fragment that is next is sent
pub next_less : (q : Outbound) (tsn now : ℕ) → IsSendable q.pending q.inflight.chunks q.next_message_id → is_some (next_pending q.pending) ≡ true
    → packets_in (sent_next q tsn now) < packets_in q
next_less q tsn now s some =
    let r = all_started now q in
    let waits = sent-waits r tsn now (started-sendable now q s) (next_pending r.pending) refl (peeked_all_started now q ∙ some) in
    let more = sent-more (next_pending r.pending) r tsn now in
    let same = started_same now q in
    omega (arith, waits, more, same)

-- a chunk that is marked is sent again
pub again_less : (tsn now : ℕ) (c : ChunkPayloadData) (f : Flight) → find (has_tsn tsn) f.queue.inflight.chunks ≡ Some c → has_tsn tsn c ≡ true
    → is_to_resend c ≡ true → packets_in (resent_at tsn now c f).queue < packets_in f.queue
again_less tsn now c f found own marked =
    let less = changed_less packets_of (has_tsn tsn) (sent_again (count_again c) now) (again-few (count_again c) now) (has_tsn tsn) f.queue.inflight.chunks c
    found own (again-less (count_again c) now c marked) in
    omega (arith, less)

-- ## A message is abandoned

terminal-few : (o : Option ChunkPayloadData) (tsn : ℕ) (q : payload.Payload)
    → sum_by packets_of (with_terminal_chunk o tsn q).chunks ≡ sum_by packets_of q.chunks
terminal-few None tsn q = refl
terminal-few (Some c) tsn q = let more = sum_by-inserted packets_of chunk_before (terminal_chunk tsn c) q.chunks in omega (arith, more)

pub abandoned_few : (o : Option ℕ) (tsn : ℕ) (q : Outbound) → packets_in (abandoned_of o tsn q) ≤ packets_in q
abandoned_few None tsn q = omega arith
abandoned_few (Some m) tsn q =
    let marks = changed_few packets_of (is_of m) as_abandoned abandoned-few q.inflight.chunks in
    let last = terminal-few (last_removed m q.pending) tsn (payload.with_chunks q.inflight (change_where (is_of m) as_abandoned q.inflight.chunks)) in
    let gone = waiting-less m q.pending in
    omega (arith, marks, last, gone)

-- where some of it waits
pub tail_less : (m tsn : ℕ) (q : Outbound) → waits m q.pending ≡ true → packets_in (abandon_chunks m tsn q) < packets_in q
tail_less m tsn q w =
    let marks = changed_few packets_of (is_of m) as_abandoned abandoned-few q.inflight.chunks in
    let last = terminal-few (last_removed m q.pending) tsn (payload.with_chunks q.inflight (change_where (is_of m) as_abandoned q.inflight.chunks)) in
    let gone = waiting-gone m q.pending w in
    omega (arith, marks, last, gone)

own : (c : ChunkPayloadData) → is_of c.message_id c ≡ true
own c = grind (arith, nat_tests)

-- or is in flight, and not abandoned
found-less : (tsn at : ℕ) (c : ChunkPayloadData) (q : Outbound) → find (has_tsn at) q.inflight.chunks ≡ Some c → c.abandoned ≡ false
    → packets_in (abandon_chunks c.message_id tsn q) < packets_in q
found-less tsn at c q found kept =
    let m = c.message_id in
    let marks = changed_less packets_of (is_of m) as_abandoned abandoned-few (has_tsn at) q.inflight.chunks c found (own c) (kept-less c kept) in
    let last = terminal-few (last_removed m q.pending) tsn (payload.with_chunks q.inflight (change_where (is_of m) as_abandoned q.inflight.chunks)) in
    let gone = waiting-less m q.pending in
    omega (arith, marks, last, gone)

at-few : (tsn : ℕ) (f : Flight) → packets_in (abandoned_at tsn f).queue ≤ packets_in f.queue
at-few tsn f = abandoned_few (message_to_abandon tsn f) f.next_tsn f.queue

pub each_few : (tsns : List ℕ) (f : Flight) → packets_in (abandoned_each tsns f).queue ≤ packets_in f.queue
each_few [] f = omega arith
each_few (t ∷ ts) f = let one = at-few t f in let rest = each_few ts (abandoned_at t f) in omega (arith, one, rest)

-- what is told of a TSN was not abandoned before
at-less : (tsn : ℕ) (f : Flight) (n : ℕ) (o : Option ChunkPayloadData) → find (has_tsn tsn) f.queue.inflight.chunks ≡ o → abandoned_with o n ≢ []
    → packets_in (abandoned_of (to_abandon o) f.next_tsn f.queue) < packets_in f.queue
at-less tsn f n None e told = absurd (told refl)
at-less tsn f n (Some c) e told = by c.abandoned refl told
  where
    by : (b : Bool) → c.abandoned ≡ b → ((if b then [] else (let a : AbandonedMessage = record {
      stream = c.stream_identifier;
      number = c.message_id;
      bytes = n;
      is_low = false;
    } in a) ∷ []) ≡ [] → ⊥) → packets_in (abandoned_of (if b then None else Some c.message_id) f.next_tsn f.queue) < packets_in f.queue
    by true is none = absurd (none refl)
    by false is none = found-less f.next_tsn tsn c f.queue e is

nil-or : {X : Type 0} (xs ys : List X) → xs ++ ys ≢ [] → (xs ≢ []) ⊎ (ys ≢ [])
nil-or [] ys h = inr h
nil-or (x ∷ xs) ys h = inl (λ e. h (absurd (cc)))

-- where some message is told, one was abandoned
pub each_less : (tsns : List ℕ) (f : Flight) → leaving_each tsns f ≢ [] → packets_in (abandoned_each tsns f).queue < packets_in f.queue
each_less [] f told = absurd (told refl)
each_less (t ∷ ts) f told = by (nil-or (leaving_at t f) (leaving_each ts (abandoned_at t f)) told) (each_less ts (abandoned_at t f))
  where
    by : (leaving_at t f ≢ []) ⊎ (leaving_each ts (abandoned_at t f) ≢ [])
        → (leaving_each ts (abandoned_at t f) ≢ [] → packets_in (abandoned_each ts (abandoned_at t f)).queue < packets_in (abandoned_at t f).queue)
        → packets_in (abandoned_each (t ∷ ts) f).queue < packets_in f.queue
    by (inl some) further =
        let one = at-less t f _ (find (has_tsn t) f.queue.inflight.chunks) refl some in
        let rest = each_few ts (abandoned_at t f) in
        omega (arith, one, rest)
    by (inr some) further = let one = at-few t f in let rest = further some in omega (arith, one, rest)

-- ## A message expires

expired-few : (o : Option ChunkPayloadData) (q : Outbound) → packets_in (expired_of o q) ≤ packets_in q
expired-few None q = omega arith
expired-few (Some c) q = let few = expired-waits c q in omega (arith, few)

pub times_few : (now n : ℕ) (q : Outbound) → packets_in (expired_times now n q) ≤ packets_in q
times_few now zero q = omega arith
times_few now (suc n) q =
    let one = expired-few (expiring now (expired_times now n q)) (expired_times now n q) in
    let rest = times_few now n q in
    omega (arith, one, rest)

-- ## Calls of the sender

at-first : (c d : ChunkPayloadData) (ds : List ChunkPayloadData) → d ≡ c → list_any (is_of c.message_id) (d ∷ ds) ≡ true
at-first c d ds same =
    or-left (is_of c.message_id d) (list_any (is_of c.message_id) ds) (ap (is_of c.message_id) same ∙ own c)

any-first : (c : ChunkPayloadData) (ds : List ChunkPayloadData) → slice_get ds 0 ≡ Some c → list_any (is_of c.message_id) ds ≡ true
any-first c [] e = absurd (none-some c e)
any-first c (d ∷ ds) e = let same : d ≡ c = cc in at-first c d ds same

-- the message of the chunk in front waits
front-of : (p : Pending) (c : ChunkPayloadData) (o : Option Selected) → next_pending_of o p ≡ Some c → waits c.message_id p ≡ true
front-of p c None e = by p.unordered p.ordered e
  where
    by : (us os : List ChunkPayloadData) → front_of us os ≡ Some c → (list_any (is_of c.message_id) us || list_any (is_of c.message_id) os) ≡ true
    by (u ∷ us) os e = let same : u ≡ c = cc in or-left _ (list_any (is_of c.message_id) os) (at-first c u us same)
    by [] (o ∷ os) e = let same : o ≡ c = cc in at-first c o os same
    by [] [] e = absurd (none-some c e)
front-of p c (Some s) e = by s.unordered e
  where
    by : (b : Bool) → slice_get (list_of b p) 0 ≡ Some c → waits c.message_id p ≡ true
    by true e = or-left _ (list_any (is_of c.message_id) p.ordered) (any-first c p.unordered e)
    by false e = or-right (list_any (is_of c.message_id) p.unordered) _ (any-first c p.ordered e)

pub front_waits : (p : Pending) (c : ChunkPayloadData) → next_pending p ≡ Some c → waits c.message_id p ≡ true
front_waits p c e = front-of p c p.selected e

passing-is : (f : ChunkPayloadData → Bool) (o : Option ChunkPayloadData) (c : ChunkPayloadData) → passing f o ≡ Some c → o ≡ Some c
passing-is f None c e = absurd (none-some c e)
passing-is f (Some d) c e = by (f d) e
  where
    by : (b : Bool) → (if b then Some d else None) ≡ Some c → Some d ≡ Some c
    by true e = e
    by false e = absurd (none-some c e)

-- the next fragment is sent
pub sent_fewer : (k now : ℕ) (t u : Transmission) (c : ChunkPayloadData) (x y : List ℕ)
    → IsSendable t.flight.queue.pending t.flight.queue.inflight.chunks t.flight.queue.next_message_id → next_pending t.flight.queue.pending ≡ Some c
    → u ≡ after_send now t → FewerWherePut (k + packets_in t.flight.queue) (k + packets_in u.flight.queue) x y
sent_fewer k now t u c x y s e is =
    let less = next_less t.flight.queue t.flight.next_tsn now s (ap is_some e) in
    let same = ap (λ (v : Transmission). packets_in v.flight.queue) is in
    fewer_less _ _ x y (omega (arith, less, same))

-- a chunk is sent again
again-fewer : (g : ChunkPayloadData → ChunkPayloadData) (now room : ℕ) (t u : Transmission) (chunk : ChunkPayloadData) (o : Option ChunkPayloadData)
    → next_within room t.flight ≡ o → Some chunk ≡ option_map g o
    → ((c : ChunkPayloadData) → next_within room t.flight ≡ Some c → u ≡ with_flight (resent_at c.tsn now c t.flight) t)
    → ((c : ChunkPayloadData) → next_within room t.flight ≡ Some c → find (has_tsn c.tsn) t.flight.queue.inflight.chunks ≡ Some c)
    → packets_in u.flight.queue < packets_in t.flight.queue
again-fewer g now room t u chunk None e told is found = absurd (none-some chunk (sym told))
again-fewer g now room t u chunk (Some c) e told is found =
    let marked = marked-in room t.flight.queue.inflight.chunks c e in
    let less = again_less c.tsn now c t.flight (found c e) (grind (arith, nat_tests)) marked in
    let same = ap (λ (v : Transmission). packets_in v.flight.queue) (is c e) in
    omega (arith, less, same)
  where
    fits-in : (room : ℕ) (o : Option ChunkPayloadData) (c : ChunkPayloadData) → if_it_fits room o ≡ Some c → o ≡ Some c
    fits-in room None c e = absurd (none-some c e)
    fits-in room (Some d) c e = by (fits room d) e
      where
        by : (b : Bool) → (if b then Some d else None) ≡ Some c → Some d ≡ Some c
        by true e = e
        by false e = absurd (none-some c e)

    marked-in : (room : ℕ) (cs : List ChunkPayloadData) (c : ChunkPayloadData) → if_it_fits room (find is_to_resend cs) ≡ Some c → is_to_resend c ≡ true
    marked-in room cs c e = found-passes is_to_resend cs c (fits-in room (find is_to_resend cs) c e)

pub again_fewer : (g : ChunkPayloadData → ChunkPayloadData) (k now room : ℕ) (t u : Transmission) (chunk : ChunkPayloadData) (x y : List ℕ)
    → Some chunk ≡ option_map g (next_within room t.flight)
    → ((c : ChunkPayloadData) → next_within room t.flight ≡ Some c → u ≡ with_flight (resent_at c.tsn now c t.flight) t)
    → ((c : ChunkPayloadData) → next_within room t.flight ≡ Some c
    → (find (has_tsn c.tsn) t.flight.queue.inflight.chunks ≡ Some c) × (can_resend c.tsn t.flight ≡ true))
    → FewerWherePut (k + packets_in t.flight.queue) (k + packets_in u.flight.queue) x y
again_fewer g k now room t u chunk x y told is found =
    let less = again-fewer g now room t u chunk (next_within room t.flight) refl told is (λ c e. (found c e).0) in
    fewer_less _ _ x y (omega (arith, less))

again-none : (g : ChunkPayloadData → ChunkPayloadData) (o : Option ChunkPayloadData) → None ≡ option_map g o → o ≡ None
again-none g None e = refl
again-none g (Some c) e = absurd (none-some (g c) e)

-- none is sent again
pub again_none : (now room : ℕ) (t u : Transmission) (r : Option ChunkPayloadData) → r ≡ None
    → r ≡ option_map (λ c. sent_again (count_again c) now c) (next_within room t.flight) → (next_within room t.flight ≡ None → u ≡ t) → u ≡ t
again_none now room t u r none told same = same (again-none (λ c. sent_again (count_again c) now c) (next_within room t.flight) (sym none ∙ told))

-- ## What has expired

-- what is told with its bells is what was told
lows-some : (ls : List OutboundStream) (gs : List AbandonedMessage) → with_message_lows gs ls ≢ [] → gs ≢ []
lows-some ls [] some = absurd (some refl)
lows-some ls (g ∷ gs) some = λ e. absurd (cc)

module _ (now : ℕ) (t u : Transmission) (gone : List AbandonedMessage)
    (tail : IfSome (expiring_tail now t.flight.queue) (λ c. TailGoes c t u gone))
    (late : expiring_tail now t.flight.queue ≡ None → late_tsns now t.flight.queue ≢ []
    → (u ≡ after_late now t) × (gone ≡ with_message_lows (leaving_each (late_order now t.flight) t.flight) t.streams))
    (worn : expiring_tail now t.flight.queue ≡ None → late_tsns now t.flight.queue ≡ []
    → (u ≡ after_worn t) × (gone ≡ with_message_lows (leaving_each (worn_order t.flight) t.flight) t.streams)) where
  one-goes : (c : ChunkPayloadData) → next_pending t.flight.queue.pending ≡ Some c → (gs : List AbandonedMessage) → TailGoes c t u gs
      → packets_in u.flight.queue < packets_in t.flight.queue
  one-goes c e [] h = absurd h
  one-goes c e (a ∷ []) h =
      let less = tail_less c.message_id t.flight.next_tsn t.flight.queue (front_waits t.flight.queue.pending c e) in
      let same = ap (λ (v : Transmission). packets_in v.flight.queue) h.2 in
      omega (arith, less, same)
  one-goes c e (a ∷ b ∷ gs) h = absurd h

  each-goes : (tsns : List ℕ) → u ≡ after_abandoning tsns t → gone ≡ with_message_lows (leaving_each tsns t.flight) t.streams
      → (packets_in u.flight.queue ≤ packets_in t.flight.queue) × (gone ≢ [] → packets_in u.flight.queue < packets_in t.flight.queue)
  each-goes tsns is told =
      let same = ap (λ (v : Transmission). packets_in v.flight.queue) is in
      let few = each_few tsns t.flight in (
        omega (arith, same, few),
        λ some.
            let less = each_less tsns t.flight (lows-some t.streams (leaving_each tsns t.flight) (λ e. some (told ∙ e))) in
            omega (arith, same, less),
      )

  -- where some message is told, fewer are left
  pub gone_few : (packets_in u.flight.queue ≤ packets_in t.flight.queue) × (gone ≢ [] → packets_in u.flight.queue < packets_in t.flight.queue)
  gone_few = by (expiring_tail now t.flight.queue) refl
    where
      listed : expiring_tail now t.flight.queue ≡ None → (ts : List ℕ) → late_tsns now t.flight.queue ≡ ts
          → (packets_in u.flight.queue ≤ packets_in t.flight.queue) × (gone ≢ [] → packets_in u.flight.queue < packets_in t.flight.queue)
      listed none [] is = let w = worn none is in each-goes (worn_order t.flight) w.0 w.1
      listed none (x ∷ xs) is = let l = late none (λ e. absurd (some-first x xs (sym is ∙ e))) in each-goes (late_order now t.flight) l.0 l.1
        where
          some-first : (x : ℕ) (xs : List ℕ) → x ∷ xs ≡ [] → ⊥
          some-first x xs e = cc

      by : (o : Option ChunkPayloadData) → expiring_tail now t.flight.queue ≡ o
          → (packets_in u.flight.queue ≤ packets_in t.flight.queue) × (gone ≢ [] → packets_in u.flight.queue < packets_in t.flight.queue)
      by None e = listed e (late_tsns now t.flight.queue) refl
      by (Some c) e =
          let goes = subst (λ (o : Option ChunkPayloadData). IfSome o (λ c. TailGoes c t u gone)) e tail in
          let less = one-goes c (passing-is (is_expired_tail now) (next_pending t.flight.queue.pending) c e) gone goes in
          (omega (arith, less), λ _. less)

-- messages in front are gone
pub run_few : (stream : ℕ) (unordered : Bool) (n bytes now : ℕ) (t u : Transmission) → u ≡ after_expire_run stream unordered n bytes now t
    → packets_in u.flight.queue ≤ packets_in t.flight.queue
run_few stream unordered n bytes now t u is =
    let same = ap (λ (v : Transmission). packets_in v.flight.queue) is in
    let few = times_few now n t.flight.queue in
    omega (arith, same, few)

-- lifetimes start
pub lifetimes_same : (now : ℕ) (t u : Transmission) → u ≡ with_lifetimes now t → packets_in u.flight.queue ≡ packets_in t.flight.queue
lifetimes_same now t u is = ap (λ (v : Transmission). packets_in v.flight.queue) is ∙ started_same now t.flight.queue

abbrev messages-of : Option (List AbandonedMessage) → List AbandonedMessage
messages-of None = []
messages-of (Some gs) = gs

-- what `drop_expired` leaves
pub dropped_few : (now : ℕ) (r : Option Dropped) (t u : Transmission)
    → IfSome (run_in r) (λ g. u ≡ after_expire_run g.stream g.unordered g.messages g.bytes now t)
    → IfSome (list_in r) (λ gone. IfSome (expiring_tail now t.flight.queue) (λ c. TailGoes c t u gone))
    → IfSome (list_in r) (λ gone. expiring_tail now t.flight.queue ≡ None → late_tsns now t.flight.queue ≢ []
    → (u ≡ after_late now t) × (gone ≡ with_message_lows (leaving_each (late_order now t.flight) t.flight) t.streams))
    → IfSome (list_in r) (λ gone. expiring_tail now t.flight.queue ≡ None → late_tsns now t.flight.queue ≡ []
    → (u ≡ after_worn t) × (gone ≡ with_message_lows (leaving_each (worn_order t.flight) t.flight) t.streams))
    → (r ≡ None → u ≡ with_lifetimes now t)
    → (packets_in u.flight.queue ≤ packets_in t.flight.queue) × (messages-of (list_in r) ≢ [] → packets_in u.flight.queue < packets_in t.flight.queue)
dropped_few now None t u run tail late worn none =
    let same = lifetimes_same now t u (none refl) in (omega (arith, same), λ some. absurd (some refl))
dropped_few now (Some (Expired g)) t u run tail late worn none =
    (run_few g.stream g.unordered g.messages g.bytes now t u run, λ some. absurd (some refl))
dropped_few now (Some (Abandoned gone)) t u run tail late worn none = gone_few now t u gone.items tail late worn

told-some : (d : Dropped) → tells_some d ≡ true → messages-of (list_in (Some d)) ≢ []
told-some (Expired g) e = absurd (false≢true e)
told-some (Abandoned gone) e = by gone.items e
  where
    by : (gs : List AbandonedMessage) → not (length gs == 0) ≡ true → gs ≢ []
    by [] e = absurd (false≢true e)
    by (g ∷ gs) e = λ none. absurd (cc)

-- where some message is told of these, fewer are left
pub told_less : (r : Option Dropped) (d : Dropped) (m n : ℕ) → r ≡ Some d → (messages-of (list_in r) ≢ [] → n < m) → tells_some d ≡ true → n < m
told_less r d m n is less some =
    subst (λ (o : Option Dropped). (messages-of (list_in o) ≢ []) → n < m) is less (told-some d some)

owed-few : (m n : ℕ) (k was some : Bool) → k ≡ (some || was) → n ≤ m → (some ≡ true → n < m) → one_where k + n ≤ one_where was + m
owed-few m n k was true is le less = let one = ap one_where is in let l = less refl in omega (arith, one, l)
owed-few m n k was false is le less = let one = ap one_where is in omega (arith, one, le)

-- a FORWARD-TSN is due only where some message is told
pub owed_few : (l n : Sending) (u : Transmission) (some : Bool) → n ≡ record l { sender = u; is_skip_due = some || l.is_skip_due }
    → packets_in u.flight.queue ≤ packets_in l.sender.flight.queue → (some ≡ true → packets_in u.flight.queue < packets_in l.sender.flight.queue)
    → most_data n ≤ most_data l
owed_few l n u some is le less =
    let same = ap most_data is in
    let few = owed-few (packets_in l.sender.flight.queue) (packets_in u.flight.queue) (some || l.is_skip_due) l.is_skip_due some refl le less in
    omega (arith, same, few)
