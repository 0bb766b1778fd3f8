-- What waits to be told is kept, and where a message comes to be read that is told.
use Rattle.std.proofs.Common.{◌≡◌, ◌==◌, ℕ, ◌<◌, ◌≤◌, Bool, true, false, List, [], ◌∷◌, length, Option, Some, None, Result, Ok, Err, refl}
use Rattle.std.proofs.Common.{ap, sym, subst, ◌∙◌, arith, inl, inr}
use Rattle.std.proofs.lemmas.Bool.{cases_lt, false≢true}
use Rattle.std.proofs.lemmas.Bool.Decides.{nat_tests}
use Rattle.std.proofs.lemmas.Grind.{not_there}
use Rattle.std.proofs.lemmas.List.Folds.{find-append}
use Rattle.std.specs.Option.{option_map, option_or}
use Rattle.std.specs.Prelude.{◌⊎◌, OnErr, OnOk, find, is_some, if◌then◌else◌}
use Rattle.sctp_association.proofs.Few.{AreBelow}
use Rattle.sctp_association.proofs.Fronts.{left_read, pushed}
use Rattle.sctp_association.proofs.Named.{skipped-open}
use Rattle.sctp_association.proofs.ReachedBounds.{streams-few}
use Rattle.sctp_association.specs.Reached.{IsLimited}
use Rattle.sctp_association.specs.StreamSet.{is_in}
use Rattle.sctp_association.proofs.Rooms.{place_kept, rooms_alike, rooms_then}
use Rattle.sctp_association.specs.Telling.{HasPlace, KeepsEvents, Stays, TellsIn}
use Rattle.sctp_association.specs.declared.event.Events.{Events}
use Rattle.sctp_association.specs.declared.inbound.Inbound.{Inbound}
use Rattle.sctp_data.specs.declared.chunk.chunk_payload_data.ChunkPayloadData.{ChunkPayloadData}
use Rattle.sctp_data.specs.ForwardTsn.{ForwardTsn}
use Rattle.sctp_reassembly.specs.reassembly_queue.ReassemblyQueue.{message_read}
use Rattle.sctp_receiver.proofs.Closed.{others-left}
use Rattle.sctp_receiver.proofs.Handed.{found-changed}
use Rattle.sctp_receiver.proofs.Inbounds.{pushed-number}
use Rattle.sctp_receiver.proofs.ReadsCounted.{found-number}
use Rattle.sctp_receiver.proofs.StreamCosts.{are_apart}
use Rattle.sctp_receiver.specs.Calls.{Skips, TakesData}
use Rattle.sctp_receiver.specs.declared.receiver.arrival.Arrival.{Arrival}
use Rattle.sctp_receiver.specs.declared.receiver.arrival.Arrival.TheVariants.{New, Repeat}
use Rattle.sctp_receiver.specs.declared.receiver.arrival.Forwarded.{Forwarded}
use Rattle.sctp_receiver.specs.declared.receiver.arrival.Forwarded.TheVariants.{Skipped, Stale}
use Rattle.sctp_receiver.specs.declared.receiver.refusal.ReceiverRefusal.{ReceiverRefusal}
use Rattle.sctp_receiver.specs.declared.receiver.inbound_streams.InboundStream.{InboundStream}
use Rattle.sctp_receiver.specs.Inbound.{has_number, new_stream, number, numbers_of, stream_read, with_queue}
use Rattle.sctp_receiver.specs.Receiver.{Accepts, Reception, after_discard, after_read, close_stream, filter_of, is_open, message_of, message_on}
use Rattle.sctp_receiver.specs.Receiver.{follow_forward_tsn, forwarded_of, is_stale, open_stream, repeat_tsn, stream_of, with_filter}
use Rattle.sctp_receiver.specs.Resets.{reset_stream, stream_reset}
use Rattle.sctp_receiver.specs.Skips.{after_forward_tsn, past_closed_refusal, without_incomplete}
use Rattle.sctp_receiver.specs.TsnFilter.{has_come, with_tsn}
use Rattle.sctp_stream.proofs.Removals.{out-none}
use Rattle.sctp_stream.specs.Numbers.{swapped_out}
use Rattle.sctp_util.proofs.Cases.{by_same, same-is, same-yes}

-- ## Sets

pub stays_same : (a b : List Bool) → ((n : ℕ) → is_in n b ≡ is_in n a) → Stays a b
stays_same a b e n h = e n ∙ h

-- a number is put into it, if there is room
module _ (s : ℕ) (a b : List Bool) (value : s < length a → (n : ℕ) → is_in n b ≡ (if n == s then true else is_in n a)) where
  there : (n : ℕ) (t : Bool) → is_in n a ≡ true → (if t then true else is_in n a) ≡ true
  there n true h = refl
  there n false h = h

  pub stays_put : (length a ≤ s → b ≡ a) → Stays a b
  stays_put full n h = by (cases_lt s (length a))
    where
      by : (s < length a) ⊎ (length a ≤ s) → is_in n b ≡ true
      by (inl lt) = value lt n ∙ there n (n == s) h
      by (inr ge) = ap (is_in n) (full ge) ∙ h

  pub put_there : s < length a → is_in s b ≡ true
  put_there lt = value lt s ∙ ap (λ t. if t then true else is_in s a) (same-yes s)

-- ## Events

pub all_kept : (e : Events) → KeepsEvents e e
all_kept e = record {
  connected = λ h. h;
  restarted = λ h. h;
  shutdown = λ h. h;
  closed = λ h. h;
  peer_error = λ h. h;
  low = λ s h. h;
  reset_by_us = λ s h. h;
  reset_refused = λ s h. h;
  reset_by_peer = λ s h. h;
  too_long = λ s h. h;
  rooms = rooms_alike e e refl refl refl refl refl refl;
}

pub kept_after : (a b c : Events) → KeepsEvents a b → KeepsEvents b c → KeepsEvents a c
kept_after a b c x y = record {
  connected = λ h. y.connected (x.connected h);
  restarted = λ h. y.restarted (x.restarted h);
  shutdown = λ h. y.shutdown (x.shutdown h);
  closed = λ h. y.closed (x.closed h);
  peer_error = λ h. y.peer_error (x.peer_error h);
  low = λ s h. y.low s (x.low s h);
  reset_by_us = λ s h. y.reset_by_us s (x.reset_by_us s h);
  reset_refused = λ s h. y.reset_refused s (x.reset_refused s h);
  reset_by_peer = λ s h. y.reset_by_peer s (x.reset_by_peer s h);
  too_long = λ s h. y.too_long s (x.too_long s h);
  rooms = rooms_then a b c x.rooms y.rooms;
}

-- events of streams on which the peer writes
pub inbound_kept : (e : Events) (readable too_long by_peer : List Bool) → Stays e.too_long too_long → Stays e.reset_by_peer by_peer
    → length e.readable ≤ length readable → length e.too_long ≤ length too_long → length e.reset_by_peer ≤ length by_peer
    → KeepsEvents e (record e { readable = readable; too_long = too_long; reset_by_peer = by_peer })
inbound_kept e readable too_long by_peer long peer read-room long-room peer-room = record {
  connected = λ h. h;
  restarted = λ h. h;
  shutdown = λ h. h;
  closed = λ h. h;
  peer_error = λ h. h;
  low = λ s h. h;
  reset_by_us = λ s h. h;
  reset_refused = λ s h. h;
  reset_by_peer = peer;
  too_long = long;
  rooms = record {
    readable = read-room;
    low = omega arith;
    reset_by_us = omega arith;
    reset_refused = omega arith;
    reset_by_peer = peer-room;
    too_long = long-room;
  };
}

-- ## Both

pub tells_same : (i : Option Inbound) (e : Events) → TellsIn i e i e
tells_same i e = record { kept = all_kept e; readable = record { places = λ h. h; noted = λ h s n. n } }

pub tells_after : (i j k : Option Inbound) (e f g : Events) → TellsIn i e j f → TellsIn j f k g → TellsIn i e k g
tells_after i j k e f g x y = record {
  kept = kept_after e f g x.kept y.kept;
  readable = record {
    places = λ h. y.readable.places (x.readable.places h);
    noted = λ h s n. y.readable.noted (x.readable.places h) s (x.readable.noted h s n);
  };
}

-- the same of two receivers
pub record TellsBy (r : Reception) (e : Events) (q : Reception) (f : Events) : Type 0 where
  pub kept : KeepsEvents e f
  pub places : ((s : ℕ) → is_open s r ≡ true → HasPlace s e) → (s : ℕ) → is_open s q ≡ true → HasPlace s f
  pub noted : ((s : ℕ) → is_open s r ≡ true → HasPlace s e) → (s : ℕ) → (is_some (message_on s r) ≡ true → is_in s e.readable ≡ true)
      → is_some (message_on s q) ≡ true → is_in s f.readable ≡ true

pub tells_in : (i j : Inbound) (e f : Events) → TellsBy i.receiver e j.receiver f → TellsIn (Some i) e (Some j) f
tells_in i j e f h = record { kept = h.kept; readable = record { places = h.places; noted = h.noted } }

-- ## The receiver

-- no stream opens, and no message comes to be read
pub record IsNoMore (old new : Reception) : Type 0 where
  pub opened : (s : ℕ) → is_open s new ≡ true → is_open s old ≡ true
  pub message : (s : ℕ) → is_some (message_on s new) ≡ true → is_some (message_on s old) ≡ true

-- a message that can be read could be before, and that waits still if it waited; or it waits
abbrev ReadOrTold : (r : Reception) (e f : Events) → ℕ → Type 0
ReadOrTold r e f s =
    ((is_some (message_on s r) ≡ true) × (is_in s e.readable ≡ true → is_in s f.readable ≡ true)) ⊎ (is_in s f.readable ≡ true)

-- no stream opens but one that has a place
pub tells_by : (r q : Reception) (e f : Events) → KeepsEvents e f → length e.readable ≤ length f.readable
    → ((s : ℕ) → is_open s q ≡ true → (is_open s r ≡ true) ⊎ HasPlace s f)
    → (((s : ℕ) → is_open s r ≡ true → HasPlace s e) → (s : ℕ) → is_some (message_on s q) ≡ true → ReadOrTold r e f s) → TellsBy r e q f
tells_by r q e f kept room opened message = record {
  kept = kept;
  places = λ h s o. place h s (opened s o);
  noted = λ h s n m. note s n (message h s m);
}
  where
    place : ((s : ℕ) → is_open s r ≡ true → HasPlace s e) → (s : ℕ) → (is_open s r ≡ true) ⊎ HasPlace s f → HasPlace s f
    place h s (inl o) = place_kept s e f kept.rooms (h s o)
    place h s (inr p) = p

    note : (s : ℕ) → (is_some (message_on s r) ≡ true → is_in s e.readable ≡ true) → ReadOrTold r e f s → is_in s f.readable ≡ true
    note s n (inl m) = m.1 (n m.0)
    note s n (inr h) = h

pub tells_no_more : (r q : Reception) (e f : Events) → KeepsEvents e f → length e.readable ≤ length f.readable → Stays e.readable f.readable
    → IsNoMore r q → TellsBy r e q f
tells_no_more r q e f kept room stays less =
    tells_by r q e f kept room (λ s o. inl (less.opened s o)) (λ h s m. inl (less.message s m, stays s))

-- its streams are the same
pub same_streams : (old new : Reception) → new.streams ≡ old.streams → IsNoMore old new
same_streams old new e = record {
  opened = λ s h. sym (ap (λ (ls : List InboundStream). is_some (find (has_number s) ls)) e) ∙ h;
  message = λ s h. sym (ap (λ (ls : List InboundStream). is_some (message_of (find (has_number s) ls))) e) ∙ h;
}

-- so nothing is to be told
pub tells_streams : (r q : Reception) (e : Events) → q.streams ≡ r.streams → TellsBy r e q e
tells_streams r q e same = tells_no_more r q e e (all_kept e) (omega arith) (λ s h. h) (same_streams r q same)

dropped-streams : (tsn : ℕ) (r : Reception) → (after_discard tsn r).streams ≡ r.streams
dropped-streams tsn r = by (has_come tsn (filter_of r))
  where
    by : (b : Bool) → (if b then repeat_tsn tsn r else with_filter (with_tsn tsn (filter_of r)) r).streams ≡ r.streams
    by true = refl
    by false = refl

dropped-same : (tsn : ℕ) (r q : Reception) → q ≡ after_discard tsn r → q.streams ≡ r.streams
dropped-same tsn r q made = ap (λ (x : Reception). x.streams) made ∙ dropped-streams tsn r

-- a TSN is dropped
pub tells_dropped : (tsn : ℕ) (r q : Reception) (e : Events) → q ≡ after_discard tsn r → TellsBy r e q e
tells_dropped tsn r q e made = tells_streams r q e (dropped-same tsn r q made)

-- ## A stream opens

module _ (s : ℕ) (old new : Reception) (made : new ≡ open_stream s old) where
  abbrev last : InboundStream
  last = new_stream s old.max_message_size

  found-last : (n : ℕ) → stream_of n new ≡ option_or (stream_of n old) (if s == n then Some last else None)
  found-last n = ap (stream_of n) made ∙ find-append (has_number n) old.streams (last ∷ [])

  pub opened_one : (n : ℕ) → is_open n new ≡ true → (is_open n old ≡ true) ⊎ (n ≡ s)
  opened_one n h = by (stream_of n old) (s == n) refl (sym (ap is_some (found-last n)) ∙ h)
    where
      by : (o : Option InboundStream) (b : Bool) → (s == n) ≡ b → is_some (option_or o (if b then Some last else None)) ≡ true → (is_some o ≡ true) ⊎ (n ≡ s)
      by (Some l) b e h = inl refl
      by None true e h = inr (sym (same-is s n e))
      by None false e h = inl h

  pub opened_message : (n : ℕ) → is_some (message_on n new) ≡ true → is_some (message_on n old) ≡ true
  opened_message n h = by (stream_of n old) (s == n) (sym (ap (λ o. is_some (message_of o)) (found-last n)) ∙ h)
    where
      by : (o : Option InboundStream) (b : Bool) → is_some (message_of (option_or o (if b then Some last else None))) ≡ true → is_some (message_of o) ≡ true
      by (Some l) b h = h
      by None true h = h
      by None false h = h

-- its place is there
pub tells_opened : (s : ℕ) (r q : Reception) (e f : Events) → KeepsEvents e f → length e.readable ≤ length f.readable → Stays e.readable f.readable
    → HasPlace s f → q ≡ open_stream s r → TellsBy r e q f
tells_opened s r q e f kept room stays there made =
    tells_by r q e f kept room (λ n o. place n (opened_one s r q made n o)) (λ h n m. inl (opened_message s r q made n m, stays n))
  where
    place : (n : ℕ) → (is_open n r ≡ true) ⊎ (n ≡ s) → (is_open n r ≡ true) ⊎ HasPlace n f
    place n (inl o) = inl o
    place n (inr e) = inr (subst (λ k. HasPlace k f) (sym e) there)

-- ## A stream closes

pub apart_of : (n : ℕ) (r : Reception) → ∥ IsLimited n r ∥₁ → are_apart (numbers_of r.streams) ≡ true
apart_of n r h = by (are_apart (numbers_of r.streams)) refl
  where
    by : (b : Bool) → are_apart (numbers_of r.streams) ≡ b → b ≡ true
    by true e = refl
    by false e = absurd (not_there h (λ x. false≢true (sym e ∙ (streams-few x.limits n r x.reached).0)))

module _ (s : ℕ) (old new : Reception) (made : new ≡ close_stream s old) (apart : are_apart (numbers_of old.streams) ≡ true) where
  closed-found : (n : ℕ) → ((n ≡ s) × (stream_of n new ≡ None)) ⊎ (((n == s) ≡ false) × (stream_of n new ≡ stream_of n old))
  closed-found n = by_same n s
      (λ e. inl (e, ap (stream_of n) made ∙ ap (λ k. find (has_number k) (swapped_out (has_number s) old.streams)) e ∙ out-none (has_number s) old.streams))
      (λ no e. inr (e, ap (stream_of n) made ∙ others-left s n (grind (arith, nat_tests, no)) old.streams apart))

  pub closed_opened : (n : ℕ) → is_open n new ≡ true → is_open n old ≡ true
  closed_opened n h = by (closed-found n)
    where
      by : ((n ≡ s) × (stream_of n new ≡ None)) ⊎ (((n == s) ≡ false) × (stream_of n new ≡ stream_of n old)) → is_open n old ≡ true
      by (inl e) = absurd (false≢true (sym (ap is_some e.1) ∙ h))
      by (inr e) = sym (ap is_some e.1) ∙ h

  pub closed_message : (n : ℕ) → is_some (message_on n new) ≡ true → ((n == s) ≡ false) × (is_some (message_on n old) ≡ true)
  closed_message n h = by (closed-found n)
    where
      by : ((n ≡ s) × (stream_of n new ≡ None)) ⊎ (((n == s) ≡ false) × (stream_of n new ≡ stream_of n old))
          → ((n == s) ≡ false) × (is_some (message_on n old) ≡ true)
      by (inl e) = absurd (false≢true (sym (ap (λ o. is_some (message_of o)) e.1) ∙ h))
      by (inr e) = (e.0, sym (ap (λ o. is_some (message_of o)) e.1) ∙ h)

-- it waits no more to be read, and a TSN of it is dropped
pub tells_closed : (s tsn : ℕ) (r m q : Reception) (e f : Events) → are_apart (numbers_of r.streams) ≡ true → m ≡ after_discard tsn r
    → q ≡ close_stream s m → KeepsEvents e f → length f.readable ≡ length e.readable
    → ((n : ℕ) → is_in n f.readable ≡ (if n == s then false else is_in n e.readable)) → TellsBy r e q f
tells_closed s tsn r m q e f apart dropped made kept room left =
    let same = dropped-same tsn r m dropped in
    let less = same_streams r m same in
    let far = subst (λ (ls : List InboundStream). are_apart (numbers_of ls) ≡ true) (sym same) apart in
    tells_by r q e f kept (omega (arith, room)) (λ n o. inl (less.opened n (closed_opened s m q made far n o)))
    (λ h n o. let c = closed_message s m q made far n o in
    inl (less.message n c.1, λ was. left n ∙ ap (λ b. if b then false else is_in n e.readable) c.0 ∙ was))

-- ## A message is read

found-read : (s n : ℕ) (r : Reception) → stream_of n (after_read s r) ≡ option_map (λ l. if has_number s l then stream_read l else l) (stream_of n r)
found-read s n r = found-changed s n stream_read (λ l e. refl) r.streams

pub tells_read : (s : ℕ) (old new : Reception) (e : Events) → new ≡ after_read s old → TellsBy old e new e
tells_read s old new e made =
    tells_no_more old new e e (all_kept e) (omega arith) (λ n h. h) (subst (IsNoMore old) (sym made) (record { opened = opened; message = message }))
  where
    opened : (n : ℕ) → is_open n (after_read s old) ≡ true → is_open n old ≡ true
    opened n h = some (stream_of n old) (sym (ap is_some (found-read s n old)) ∙ h)
      where
        some : (o : Option InboundStream) → is_some (option_map (λ l. if has_number s l then stream_read l else l) o) ≡ true → is_some o ≡ true
        some None h = h
        some (Some l) h = refl

    message : (n : ℕ) → is_some (message_on n (after_read s old)) ≡ true → is_some (message_on n old) ≡ true
    message n h = some (stream_of n old) (sym (ap (λ o. is_some (message_of o)) (found-read s n old)) ∙ h)
      where
        some : (o : Option InboundStream) → is_some (message_of (option_map (λ l. if has_number s l then stream_read l else l) o)) ≡ true
            → is_some (message_of o) ≡ true
        some None h = h
        some (Some l) h = one (has_number s l) h
          where
            one : (b : Bool) → is_some (message_read (if b then stream_read l else l).queue.held) ≡ true → is_some (message_read l.queue.held) ≡ true
            one true h = left_read l.queue.held h
            one false h = h

-- ## A DATA chunk is taken

module _ (c : ChunkPayloadData) (complete : Bool) (old new : Reception) (a : Accepts c complete old new) where
  at : number a.stream ≡ c.stream_identifier
  at = found-number c.stream_identifier old.streams a.stream a.found

  kept-number : a.queue.si ≡ c.stream_identifier
  kept-number = pushed-number c complete a.stream.queue a.queue a.pushed ∙ at

  found-pushed : (n : ℕ) → stream_of n new
      ≡ option_map (λ l. if has_number c.stream_identifier l then with_queue a.queue l else l) (stream_of n old)
  found-pushed n = ap (stream_of n) a.after ∙ found-changed c.stream_identifier n (with_queue a.queue)
      (λ l e. kept-number ∙ sym (same-is (number l) c.stream_identifier e)) old.streams

  pub taken_opened : (n : ℕ) → is_open n new ≡ true → is_open n old ≡ true
  taken_opened n h = by (stream_of n old) (sym (ap is_some (found-pushed n)) ∙ h)
    where
      by : (o : Option InboundStream) → is_some (option_map (λ l. if has_number c.stream_identifier l then with_queue a.queue l else l) o) ≡ true
          → is_some o ≡ true
      by None h = h
      by (Some l) h = refl

  -- of another stream as before
  pub taken_other : (n : ℕ) → (n == c.stream_identifier) ≡ false → stream_of n new ≡ stream_of n old
  taken_other n e = found-pushed n ∙ by (stream_of n old) refl
    where
      by : (o : Option InboundStream) → stream_of n old ≡ o
          → option_map (λ l. if has_number c.stream_identifier l then with_queue a.queue l else l) o ≡ o
      by None f = refl
      by (Some l) f =
          let is : number l ≡ n = found-number n old.streams l f in
          ap (λ b. Some (if b then with_queue a.queue l else l)) (ap (λ k. k == c.stream_identifier) is ∙ e)

  pub taken_own : stream_of c.stream_identifier new ≡ Some (with_queue a.queue a.stream)
  taken_own = found-pushed c.stream_identifier
      ∙ ap (option_map (λ l. if has_number c.stream_identifier l then with_queue a.queue l else l)) a.found
      ∙ ap (λ b. Some (if b then with_queue a.queue a.stream else a.stream)) (ap (λ k. k == c.stream_identifier) at ∙ same-yes c.stream_identifier)

  pub taken_open : is_open c.stream_identifier old ≡ true
  taken_open = ap is_some a.found

-- Where no message became complete none comes to be read on its stream.
taken-quiet : (c : ChunkPayloadData) (old new : Reception) → Accepts c false old new → is_some (message_on c.stream_identifier new) ≡ true
    → is_some (message_on c.stream_identifier old) ≡ true
taken-quiet c old new a h =
    ap (λ o. is_some (message_of o)) a.found
    ∙ pushed c a.stream.queue a.queue a.pushed (sym (ap (λ o. is_some (message_of o)) (taken_own c false old new a)) ∙ h)

-- a message that can be read on its stream could be before, or one became complete
taken-some : (c : ChunkPayloadData) (complete : Bool) (old new : Reception) → Accepts c complete old new
    → is_some (message_on c.stream_identifier new) ≡ true → (is_some (message_on c.stream_identifier old) ≡ true) ⊎ (complete ≡ true)
taken-some c true old new a h = inr refl
taken-some c false old new a h = inl (taken-quiet c old new a h)

-- where it did, and can be read, that waits to be told
pub tells_taken : (c : ChunkPayloadData) (complete : Bool) (r q : Reception) (e f : Events) → Accepts c complete r q → KeepsEvents e f
    → length f.readable ≡ length e.readable → Stays e.readable f.readable
    → (complete ≡ true → is_some (message_on c.stream_identifier q) ≡ true → c.stream_identifier < length e.readable
    → is_in c.stream_identifier f.readable ≡ true)
    → TellsBy r e q f
tells_taken c complete r q e f a kept room stays told =
    tells_by r q e f kept (omega (arith, room)) (λ n o. inl (taken_opened c complete r q a n o)) message
  where
    own : ((s : ℕ) → is_open s r ≡ true → HasPlace s e) → is_some (message_on c.stream_identifier q) ≡ true
        → ReadOrTold r e f c.stream_identifier
    own h m = by (taken-some c complete r q a m)
      where
        by : (is_some (message_on c.stream_identifier r) ≡ true) ⊎ (complete ≡ true) → ReadOrTold r e f c.stream_identifier
        by (inl was) = inl (was, stays c.stream_identifier)
        by (inr is) = inr (told is m (h c.stream_identifier (taken_open c complete r q a)).readable)

    message : ((s : ℕ) → is_open s r ≡ true → HasPlace s e) → (n : ℕ) → is_some (message_on n q) ≡ true → ReadOrTold r e f n
    message h n m = by_same n c.stream_identifier
        (λ is. subst (ReadOrTold r e f) (sym is) (own h (subst (λ k. is_some (message_on k q) ≡ true) is m)))
        (λ apart is. inl (sym (ap (λ o. is_some (message_of o)) (taken_other c complete r q a n is)) ∙ m, stays n))

-- so it is whatever the receiver answers
pub tells_data : (c : ChunkPayloadData) (r p q : Reception) (e f : Events) (a : Result Arrival ReceiverRefusal) → TakesData c r p a → q ≡ p
    → KeepsEvents e f → length f.readable ≡ length e.readable → Stays e.readable f.readable
    → (a ≡ Ok (New true) → is_some (message_on c.stream_identifier p) ≡ true → c.stream_identifier < length e.readable
    → is_in c.stream_identifier f.readable ≡ true)
    → TellsBy r e q f
tells_data c r p q e f (Ok (New true)) t same kept room stays told =
    tells_taken c true r q e f (subst (Accepts c true r) (sym same) t.ok) kept room stays
    (λ is m. told refl (subst (λ (x : Reception). is_some (message_on c.stream_identifier x) ≡ true) same m))
tells_data c r p q e f (Ok (New false)) t same kept room stays told =
    tells_taken c false r q e f (subst (Accepts c false r) (sym same) t.ok) kept room stays (λ is. absurd (false≢true is))
tells_data c r p q e f (Ok Repeat) t same kept room stays told =
    tells_no_more r q e f kept (omega (arith, room)) stays (same_streams r q (ap (λ (x : Reception). x.streams) (same ∙ t.ok)))
tells_data c r p q e f (Err x) t same kept room stays told =
    tells_no_more r q e f kept (omega (arith, room)) stays (same_streams r q (ap (λ (x : Reception). x.streams) (same ∙ t.err)))

-- ## Streams that are open

below-of : (n s : ℕ) (ls : List InboundStream) → AreBelow n (numbers_of ls) → is_some (find (has_number s) ls) ≡ true → s < n
below-of n s [] h o = absurd (false≢true o)
below-of n s (l ∷ ls) h o = by (number l == s) refl (below-of n s ls h.1) o
  where
    by : (b : Bool) → (number l == s) ≡ b → (is_some (find (has_number s) ls) ≡ true → s < n)
        → is_some (if b then Some l else find (has_number s) ls) ≡ true → s < n
    by true e rest o = let is = same-is (number l) s e in let lt = h.0 in omega (arith, lt, is)
    by false e rest o = rest o

-- they are among those that were agreed on
pub open_below : (n s : ℕ) (r : Reception) → ∥ IsLimited n r ∥₁ → is_open s r ≡ true → s < n
open_below n s r h o = by (cases_lt s n)
  where
    by : (s < n) ⊎ (n ≤ s) → s < n
    by (inl lt) = lt
    by (inr ge) = absurd (not_there h (λ x. let lt = below-of n s r.streams (streams-few x.limits n r x.reached).1 o in omega (arith, lt, ge)))

-- a message can be read of none but them
pub message_open : (s : ℕ) (r : Reception) → is_some (message_on s r) ≡ true → is_open s r ≡ true
message_open s r h = by (stream_of s r) h
  where
    by : (o : Option InboundStream) → is_some (message_of o) ≡ true → is_some o ≡ true
    by None h = h
    by (Some l) h = refl

-- ## A FORWARD-TSN is followed

-- each stream of which a message can be read is noted, if it has a place
pub tells_skipped : (t : ForwardTsn) (r q : Reception) (e f : Events) → q ≡ after_forward_tsn t r → KeepsEvents e f
    → length f.readable ≡ length e.readable → ((s : ℕ) → is_some (message_on s q) ≡ true → s < length e.readable → is_in s f.readable ≡ true)
    → TellsBy r e q f
tells_skipped t r q e f made kept room noted =
    tells_by r q e f kept (omega (arith, room)) (λ s o. inl (was s o)) (λ h s m. inr (noted s m (h s (was s (message_open s q m))).readable))
  where
    was : (s : ℕ) → is_open s q ≡ true → is_open s r ≡ true
    was s o = sym (ap (is_open s) made ∙ skipped-open s t r) ∙ o

stale-same : (t : ForwardTsn) (r : Reception) → Stale ≡ forwarded_of t r → (after_forward_tsn t r).streams ≡ r.streams
stale-same t r = by (is_stale t r)
  where
    by : (b : Bool) → Stale ≡ (if b then Stale else Skipped)
        → (if b then r else without_incomplete t.new_cumulative_tsn (if b then r else follow_forward_tsn t r)).streams ≡ r.streams
    by true e = refl
    by false e = cc

-- so it is whatever the receiver answers
pub tells_skip : (t : ForwardTsn) (r p q : Reception) (e f : Events) (a : Result Forwarded ReceiverRefusal) → Skips past_closed_refusal t r p a → q ≡ p
    → KeepsEvents e f → length f.readable ≡ length e.readable → Stays e.readable f.readable
    → (a ≡ Ok Skipped → (s : ℕ) → is_some (message_on s p) ≡ true → s < length e.readable → is_in s f.readable ≡ true) → TellsBy r e q f
tells_skip t r p q e f (Ok Skipped) h same kept room stays noted =
    tells_skipped t r q e f (same ∙ h.ok) kept room
    (λ s m. noted refl s (subst (λ (x : Reception). is_some (message_on s x) ≡ true) same m))
tells_skip t r p q e f (Ok Stale) h same kept room stays noted =
    tells_no_more r q e f kept (omega (arith, room)) stays
    (same_streams r q (ap (λ (x : Reception). x.streams) (same ∙ h.ok) ∙ stale-same t r h.answer))
tells_skip t r p q e f (Err x) h same kept room stays noted =
    tells_no_more r q e f kept (omega (arith, room)) stays (same_streams r q (ap (λ (x : Reception). x.streams) (same ∙ h.err)))

-- ## A stream is reset

-- where a message of it can be read then, and none could before, that waits to be told
pub tells_reset : (s tsn : ℕ) (r q : Reception) (e f : Events) → q ≡ reset_stream s tsn r → KeepsEvents e f
    → length f.readable ≡ length e.readable → Stays e.readable f.readable
    → (is_some (message_on s r) ≡ false → is_some (message_on s q) ≡ true → s < length e.readable → is_in s f.readable ≡ true) → TellsBy r e q f
tells_reset s tsn r q e f made kept room stays told = tells_by r q e f kept (omega (arith, room)) (λ n o. inl (was n o)) message
  where
    found : (n : ℕ) → stream_of n q ≡ option_map (λ l. if has_number s l then stream_reset tsn l else l) (stream_of n r)
    found n = ap (stream_of n) made ∙ found-changed s n (stream_reset tsn) (λ l e. refl) r.streams

    was : (n : ℕ) → is_open n q ≡ true → is_open n r ≡ true
    was n o = by (stream_of n r) (sym (ap is_some (found n)) ∙ o)
      where
        by : (o : Option InboundStream) → is_some (option_map (λ l. if has_number s l then stream_reset tsn l else l) o) ≡ true → is_some o ≡ true
        by None h = h
        by (Some l) h = refl

    other : (n : ℕ) → (n == s) ≡ false → stream_of n q ≡ stream_of n r
    other n apart = found n ∙ by (stream_of n r) refl
      where
        by : (o : Option InboundStream) → stream_of n r ≡ o → option_map (λ l. if has_number s l then stream_reset tsn l else l) o ≡ o
        by None g = refl
        by (Some l) g =
            let is : number l ≡ n = found-number n r.streams l g in
            ap (λ b. Some (if b then stream_reset tsn l else l)) (ap (λ k. k == s) is ∙ apart)

    -- one that could be read before is told, or waits to be
    at-s : ((k : ℕ) → is_open k r ≡ true → HasPlace k e) → (n : ℕ) → n ≡ s → is_some (message_on n q) ≡ true
        → (b : Bool) → is_some (message_on s r) ≡ b → ReadOrTold r e f n
    at-s h n is m true could = inl (ap (λ k. is_some (message_on k r)) is ∙ could, stays n)
    at-s h n is m false could = inr (subst (λ k. is_in k f.readable ≡ true) (sym is) (told could (subst (λ k. is_some (message_on k q) ≡ true) is m)
        (h s (was s (subst (λ k. is_open k q ≡ true) is (message_open n q m)))).readable))

    message : ((k : ℕ) → is_open k r ≡ true → HasPlace k e) → (n : ℕ) → is_some (message_on n q) ≡ true
        → ReadOrTold r e f n
    message h n m = by_same n s
        (λ is. at-s h n is m (is_some (message_on s r)) refl)
        (λ apart is. inl (sym (ap (λ o. is_some (message_of o)) (other n is)) ∙ m, stays n))

-- an event of the stream may wait besides
pub record IsLater (e f : Events) : Type 0 where
  pub kept : KeepsEvents e f
  pub room : length f.readable ≡ length e.readable
  pub stays : Stays e.readable f.readable

pub later_peer : (e : Events) (by_peer : List Bool) → Stays e.reset_by_peer by_peer → length e.reset_by_peer ≤ length by_peer
    → IsLater e (record e { reset_by_peer = by_peer })
later_peer e by_peer stays more =
    record { kept = inbound_kept e e.readable e.too_long by_peer (λ n h. h) stays (omega arith) (omega arith) more; room = refl; stays = λ n h. h }

pub later_after : (e f g : Events) → IsLater e f → IsLater f g → IsLater e g
later_after e f g x y =
    record { kept = kept_after e f g x.kept y.kept; room = y.room ∙ x.room; stays = λ n h. y.stays n (x.stays n h) }

-- so it is whatever the receiver answers
pub tells_reset_by : {X : Type 0} (s tsn : ℕ) (r q : Reception) (e f : Events) (a : Result X ReceiverRefusal) → OnOk a (q ≡ reset_stream s tsn r)
    → OnErr a (q ≡ r) → IsLater e f
    → (is_some (message_on s r) ≡ false → is_some (message_on s q) ≡ true → s < length e.readable → is_in s f.readable ≡ true) → TellsBy r e q f
tells_reset_by s tsn r q e f (Ok x) ok err later told = tells_reset s tsn r q e f ok later.kept later.room later.stays told
tells_reset_by s tsn r q e f (Err x) ok err later told =
    tells_no_more r q e f later.kept (let room = later.room in omega (arith, room)) later.stays
    (same_streams r q (ap (λ (x : Reception). x.streams) err))
