-- What a call of a sender makes of what waits and of what is in flight, but for a write and a sending: one of nine changes.
use Rattle.sctp_delivery.proofs.Names.{◌≡◌, ℕ, ◌+◌, ◌≤◌, ◌++◌, Bool, true, false, List, [], ◌∷◌, length, map, Option, Some, None, refl, ap, sym, ◌∙◌, arith}
use Rattle.sctp_delivery.proofs.Names.{inl, inr, subst, ◌⊎◌, option_to_list, filter, nat_tests, common_steps, change_where, not_both, ChunkPayloadData, Sack}
use Rattle.sctp_delivery.proofs.Names.{is_outstanding, with_retransmit, as_abandoned, as_acknowledged, all_started, expired_of, expiring, expiring_tail}
use Rattle.sctp_delivery.proofs.Names.{is_late, late_tsns, message_of, with_inflight, as_sent, terminal_chunk, next_pending, one_lower, with_deadline}
use Rattle.sctp_delivery.proofs.Names.{IsSendable, partially_sent, waits, has_tsn, Released, ExpiredMessage, Flight, after_abandonment, after_sack}
use Rattle.sctp_delivery.proofs.Names.{message_to_abandon, with_room, abandoned_each, late_order, leaving_each, worn_order, after_misses, count_again, is_worn}
use Rattle.sctp_delivery.proofs.Names.{sent_again, worn_tsns, missed, Transmission, after_expire, Makes, found-partial, tail-partial, abandoned_by}
use Rattle.sctp_delivery.proofs.Names.{MakesExactly, SenderCall, as_run, Expires}
use Rattle.sctp_sender.specs.Flight.{with_queue}
use Rattle.sctp_sender.specs.Late.{with_tail}
use Rattle.sctp_sender.proofs.Lates.{at-most-one}
use Rattle.sctp_delivery.specs.SenderCalls as outgoing
use Rattle.sctp_delivery.proofs.Cases.{at-if}
use Rattle.sctp_delivery.proofs.QueueChunks.{EachIs, abandoned, each-abandoned, expired, marked, missed-some, sacked, sent, started}

-- chunks are marked: of each only how often and when it was sent, and whether it goes again, may change
abbrev pub IsMark : (ChunkPayloadData → ChunkPayloadData) → Type 0
IsMark f =
    (c : ChunkPayloadData)
    → f c ≡ record c { since = (f c).since; nsent = (f c).nsent; retransmit = (f c).retransmit; miss_indicator = (f c).miss_indicator }

-- the message of a chunk in flight, or the one that is partially sent and past its deadline
abbrev pub IsFound : Option ℕ → Transmission → Type 0
IsFound o t =
    ((tsn : ℕ) × (o ≡ message_to_abandon tsn t.flight)) ⊎ ((now : ℕ) × (o ≡ message_of (expiring_tail now t.flight.queue)))

-- what it makes of the flight, with what the call found
pub data Change (call : SenderCall) (t : Transmission) : Type 0 where
  nothing : Change call t
  all_start : ℕ → Change call t
  more_room : ℕ → Change call t
  some_marked : (p : ChunkPayloadData → Bool) (f : ChunkPayloadData → ChunkPayloadData) → IsMark f → Change call t
  some_missed : ℕ → Change call t
  one_leaves : (o : Option ℕ) → abandoned_by call t ≡ option_to_list o → IsFound o t → Change call t
  each_leaves : (tsns : List ℕ) → length tsns ≤ 1 + length t.flight.queue.inflight.chunks
      → abandoned_by call t ≡ map (λ a. a.number) (leaving_each tsns t.flight) → Change call t
  front_expires : (now : ℕ) (c : ChunkPayloadData) → expiring now t.flight.queue ≡ Some c → abandoned_by call t ≡ c.message_id ∷ [] → Change call t
  acknowledges : (k : Sack) (gone : List Released) → call ≡ outgoing.takes_sack k gone → Change call t

abbrev pub flight_after : (call : SenderCall) (t : Transmission) → Change call t → Flight
flight_after call t nothing = t.flight
flight_after call t (all_start now) = with_queue t.flight (all_started now t.flight.queue)
flight_after call t (more_room count) = with_queue t.flight (with_room count t.flight.queue)
flight_after call t (some_marked p f k) = with_queue t.flight (with_inflight t.flight.queue (change_where p f t.flight.queue.inflight.chunks))
flight_after call t (some_missed count) = after_misses count t.flight
flight_after call t (one_leaves o e found) = after_abandonment o t.flight
flight_after call t (each_leaves tsns short e) = abandoned_each tsns t.flight
flight_after call t (front_expires now c found e) = with_queue t.flight (expired_of (Some c) t.flight.queue)
flight_after call t (acknowledges k gone e) = after_sack k t.flight

pub record Changes (call : SenderCall) (t u : Transmission) : Type 0 where
  pub change : Change call t
  pub flight : u.flight ≡ flight_after call t change

-- neither a write of bytes nor a sending
abbrev pub is_change : SenderCall → Bool
is_change (outgoing.writes stream ppi (b ∷ bs)) = false
is_change (outgoing.sends now) = false
is_change _ = true

-- a write of bytes
abbrev pub is_write : SenderCall → Bool
is_write (outgoing.writes stream ppi (b ∷ bs)) = true
is_write _ = false

-- the message in front that expires, where one is told
pub expired-one : (now : ℕ) (e : ExpiredMessage) (t u : Transmission) → Expires now (Some e) t u
    → (c : ChunkPayloadData) × (expiring now t.flight.queue ≡ Some c) × (u ≡ after_expire c e.bytes now t)
expired-one now e t u x = grind (arith, nat_tests, common_steps)

fewer : {A : Type 0} (q : A → Bool) (xs : List A) → length (filter q xs) ≤ length xs
fewer q [] = omega arith
fewer q (x ∷ xs) = at-if (λ z. length z ≤ length (x ∷ xs)) (q x) (λ e. omega (arith, fewer q xs)) (λ e. omega (arith, fewer q xs))

pub order-short : (q : ChunkPayloadData → Bool) (f : Flight) (o : Option ℕ) → length
    (option_to_list o ++ map (λ (c : ChunkPayloadData). c.tsn) (filter q f.queue.inflight.chunks)) ≤ 1 + length f.queue.inflight.chunks
order-short q f o = grind (arith, nat_tests, common_steps, at-most-one o, fewer q f.queue.inflight.chunks)

module _ (t u : Transmission) where
  to : (call : SenderCall) (v : Transmission) (c : Change call t) → u ≡ v → v.flight ≡ flight_after call t c → Changes call t u
  to call v c e same = record { change = c; flight = ap (λ (x : Transmission). x.flight) e ∙ same }

  pub changes : (call : SenderCall) → is_change call ≡ true → Makes (as_run call) t u → MakesExactly call t u → Changes call t u
  changes (outgoing.forwards tsn c) o m x = to _ _ nothing x refl
  changes (outgoing.forwards_within bytes c) o m x = to _ _ nothing x refl
  changes (outgoing.writes stream ppi []) o m x = to _ _ nothing (x.0 refl) refl
  changes (outgoing.writes stream ppi (b ∷ bs)) o m x = absurd (not_both o)
  changes (outgoing.sends now) o m x = absurd (not_both o)
  changes (outgoing.starts now) o m x = to _ _ (all_start now) m refl
  changes (outgoing.reserves count) o m x = to _ _ (more_room count) m refl
  changes (outgoing.resends tsn now c) o m x = to _ _ (some_marked (has_tsn tsn) (sent_again (count_again c) now) (λ d. refl)) m refl
  changes outgoing.marks o m x = to _ _ (some_marked is_outstanding (with_retransmit true) (λ d. refl)) m refl
  changes (outgoing.misses count) o m x = to _ _ (some_missed count) m refl
  changes (outgoing.abandons tsn a) o m x = to _ _ (one_leaves (message_to_abandon tsn t.flight) refl (inl (tsn, refl))) x refl
  changes (outgoing.expires now None) o m x = to _ _ nothing (x.1.1 refl) refl
  changes (outgoing.expires now (Some e)) o m x =
      let i = expired-one now e t u x in
      to _ _ (front_expires now i.0 i.1 (ap (λ c. option_to_list (message_of c)) i.1)) i.2 refl
  changes (outgoing.expires_tail now None) o m x = to _ _ nothing (x.1 refl) refl
  changes (outgoing.expires_tail now (Some a)) o m x =
      to _ _ (one_leaves (message_of (expiring_tail now t.flight.queue)) refl (inr (now, refl))) x.0 refl
  changes (outgoing.expires_late now gone) o m x =
      to _ _ (each_leaves (late_order now t.flight)
      (order-short (is_late now t.flight.queue.pending) t.flight (with_tail (late_tsns now t.flight.queue) t.flight)) refl) x refl
  changes (outgoing.expires_rexmit gone) o m x =
      to _ _ (each_leaves (worn_order t.flight) (order-short is_worn t.flight (with_tail (worn_tsns t.flight) t.flight)) refl) x refl
  changes (outgoing.takes_sack k gone) o m x = to _ _ (acknowledges k gone refl) x refl
  changes (outgoing.opens stream) o m x = to _ _ nothing m refl
  changes (outgoing.sets_mode stream unordered reliability value) o m x = to _ _ nothing m refl
  changes (outgoing.sets_size size) o m x = to _ _ nothing m refl
  changes (outgoing.sets_low stream bytes) o m x = to _ _ nothing m refl

-- of a message that is found so what waits is the rest of the one that is partially sent
pub partial-found : (t : Transmission) → IsSendable t.flight.queue.pending t.flight.queue.inflight.chunks t.flight.queue.next_message_id
    → (o : Option ℕ) → IsFound o t → (m : ℕ) → o ≡ Some m → waits m t.flight.queue.pending ≡ true → partially_sent t.flight.queue.pending ≡ Some m
partial-found h0 h1 h2 h3 h4 h5 h6 = grind (arith, nat_tests, common_steps, found-partial, tail-partial)

-- ## Each chunk

-- what is so of a chunk that waits (P) and of one in flight (Q) stays so, whatever call is made but a write
pub record Keeps (P Q : ChunkPayloadData → Type 0) (t : Transmission) : Type 0 where
  pub start : (now : ℕ) (c : ChunkPayloadData) → P c → P (with_deadline now c)
  pub lower : (c : ChunkPayloadData) → P c → P (one_lower c)
  pub put : (now : ℕ) (c : ChunkPayloadData) → P c → Q (as_sent t.flight.next_tsn now c)
  pub mark : (f : ChunkPayloadData → ChunkPayloadData) → IsMark f → (c : ChunkPayloadData) → Q c → Q (f c)
  pub leave : (c : ChunkPayloadData) → Q c → Q (as_abandoned c)
  pub end' : (tsn : ℕ) (c : ChunkPayloadData) → P c → Q (terminal_chunk tsn c)
  pub acknowledge : (c : ChunkPayloadData) → Q c → Q (as_acknowledged c)

module _ (P Q : ChunkPayloadData → Type 0) (t : Transmission) (k : Keeps P Q t) (h : EachIs P Q t.flight.queue) where
  changed-each : (call : SenderCall) (c : Change call t) → EachIs P Q (flight_after call t c).queue
  changed-each call nothing = h
  changed-each call (all_start now) = started P Q now (k.start now) t.flight.queue h
  changed-each call (more_room count) = record { ordered = h.ordered; unordered = h.unordered; inflight = h.inflight }
  changed-each call (some_marked p f m) = marked P Q p f (k.mark f m) t.flight.queue h
  changed-each call (some_missed count) = missed-some P Q (k.mark missed (λ c. refl)) count t.flight h
  changed-each call (one_leaves o e found) = abandoned P Q k.leave k.end' o t.flight.next_tsn t.flight.queue h
  changed-each call (each_leaves tsns short e) = each-abandoned P Q k.leave k.end' tsns t.flight h
  changed-each call (front_expires now c found e) = expired P Q k.lower (Some c) t.flight.queue h
  changed-each call (acknowledges s gone e) = sacked P Q s (λ c _ i. k.acknowledge c i) t.flight h

  pub each-call : (u : Transmission) (call : SenderCall) → is_write call ≡ false → Makes (as_run call) t u → MakesExactly call t u
      → EachIs P Q u.flight.queue
  each-call u (outgoing.writes stream ppi (b ∷ bs)) o m x = absurd (not_both (sym o))
  each-call u (outgoing.sends now) o m x =
      let q = all_started now t.flight.queue in
      subst (λ (v : Transmission). EachIs P Q v.flight.queue) (sym x)
      (sent P Q t.flight.next_tsn now (k.put now) (next_pending q.pending) q refl (started P Q now (k.start now) t.flight.queue h))
  each-call u call o m x =
      let c = changes t u call refl m x in
      subst (λ (f : Flight). EachIs P Q f.queue) (sym c.flight) (changed-each call c.change)
