-- Each chunk of a half that is put is what a call of it answered.
use Rattle.std.proofs.Common.{◌≡◌, ◌≢◌, ℕ, List, [], ◌∷◌, Bool, true, false, Option, Some, None, refl, ap, sym, subst, ◌∙◌, arith}
use Rattle.std.specs.Prelude.{Contains, IfSome, find, if◌then◌else◌, is_some}
use Rattle.std.proofs.lemmas.Bool.{false≢true}
use Rattle.std.specs.Option.{option_map}
use Rattle.sctp_association.proofs.Putting.{adds_none, and_so, kept, puts_made, puts_none, puts_reported, there}
use Rattle.sctp_association.proofs.Running.{dropped_each, none_in, none_sent, reported_once, sent_by, sent_then}
use Rattle.sctp_association.specs.declared.outbound.Outbound.{Outbound}
use Rattle.sctp_association.specs.Packets.{Adds, IsData, IsSackOnce, IsSkipOnce, PutsIn, PutsOut, PutsSkip, made_in, put_where, sides}
use Rattle.sctp_association.specs.Runs.{Sends}
use Rattle.sctp_association.specs.Sending.{may_drop}
use Rattle.sctp_chunks.specs.Wire.{Wire, data_chunk, forward_tsn_chunk, sack_chunk}
use Rattle.sctp_data.specs.declared.chunk.chunk_forward_tsn.ChunkForwardTsn.{ChunkForwardTsn}
use Rattle.sctp_data.specs.declared.chunk.chunk_payload_data.ChunkPayloadData.{ChunkPayloadData}
use Rattle.sctp_data.specs.declared.chunk.chunk_selective_ack.ChunkSelectiveAck.{ChunkSelectiveAck}
use Rattle.sctp_data.specs.ForwardTsn.{forward_tsn_of}
use Rattle.sctp_data.specs.PayloadData.{data_of}
use Rattle.sctp_data.specs.SelectiveAck.{sack_of}
use Rattle.sctp_delivery.specs.Amounts.{Drops}
use Rattle.sctp_delivery.specs.ReceiverCalls.{forgets, makes_sack}
use Rattle.sctp_delivery.specs.SenderCalls.{forwards_within, next_chunk, resends, sends, starts, with_chunk}
use Rattle.sctp_delivery.specs.SenderCalls as made
use Rattle.sctp_outbound.proofs.lemmas.outbound_queue.Outbounds.{peeked_all_started}
use Rattle.sctp_outbound.specs.outbound_queue.OutboundQueue.{all_started}
use Rattle.sctp_outbound.specs.pending_queue.PendingQueue.{next_pending}
use Rattle.sctp_packets.specs.Draft.{IsDraft}
use Rattle.sctp_packets.specs.Packet.{Parts}
use Rattle.sctp_path.specs.Timers.{is_due}
use Rattle.sctp_receiver.specs.Receiver.{Reception, sack_within, without_duplicates}
use Rattle.sctp_sender.specs.Abandonment.{Name, can_skip_to, is_end, named_up_to}
use Rattle.sctp_sender.specs.declared.sender.Dropped.{Dropped}
use Rattle.sctp_sender.specs.Drops.{with_lifetimes}
use Rattle.sctp_sender.specs.Flight.{Flight, can_resend}
use Rattle.sctp_sender.specs.Numbers.{send_refusal}
use Rattle.sctp_sender.specs.Resending.{count_again, fits, if_it_fits, is_to_resend, next_within, resent_at, sent_again}
use Rattle.sctp_sender.specs.Sender.{Transmission, after_send, with_flight}
use Rattle.sctp_sender.specs.SenderRuns.{held_by_sender}
use Rattle.sctp_serial.specs.DataChunks.{has_tsn}

pub some-none : {X : Type 0} (x : X) → Some x ≡ None → ⊥
some-none x e = cc

pub of-some : {X : Type 0} (x y : X) → Some x ≡ Some y → x ≡ y
of-some x y e = cc

-- ## The sender

skip-put : (due : Bool) (room : ℕ) (c : ChunkForwardTsn) (b : Bool) (t : Transmission) (old new : List ℕ) → due ≡ true
    → can_skip_to c.new_cumulative_tsn t.flight ≡ true → is_end c.new_cumulative_tsn t.flight ≡ true
    → Name c.streams.items (named_up_to c.new_cumulative_tsn t.flight)
    → Adds (put_where b (forward_tsn_chunk (forward_tsn_of c))) old new → PutsSkip due false t t old new
skip-put due room c true t old new was past ended names added =
    puts_made (IsSkipOnce due false) (forwards_within room (forward_tsn_of c)) true (forward_tsn_chunk (forward_tsn_of c)) t t old new
    (refl, (omega arith, (refl, ((past, ended, names), tt)))) (there (made.forward_tsn (forward_tsn_of c))) (was, refl) added (λ _ _. refl)
skip-put due room c false t old new was past ended names added = puts_none t old new added

-- the same, of what `forward_tsn` answers
pub skip_put_where : (due : Bool) (room : ℕ) (o : Option ChunkForwardTsn) (c : ChunkForwardTsn) (b : Bool) (t : Transmission) (old new : List ℕ)
    → due ≡ true → o ≡ Some c
    → IfSome o (λ c. can_skip_to c.new_cumulative_tsn t.flight ≡ true) → IfSome o (λ c. is_end c.new_cumulative_tsn t.flight ≡ true)
    → IfSome o (λ c. Name c.streams.items (named_up_to c.new_cumulative_tsn t.flight))
    → Adds (put_where b (forward_tsn_chunk (forward_tsn_of c))) old new → PutsSkip due false t t old new
skip_put_where due room o c b t old new was e past ended names added =
    skip-put due room c b t old new was (subst (λ o. IfSome o (λ c. can_skip_to c.new_cumulative_tsn t.flight ≡ true)) e past)
    (subst (λ o. IfSome o (λ c. is_end c.new_cumulative_tsn t.flight ≡ true)) e ended)
    (subst (λ o. IfSome o (λ c. Name c.streams.items (named_up_to c.new_cumulative_tsn t.flight))) e names) added

pub none-of : {X Y : Type 0} (f : X → Y) (o : Option X) → None ≡ option_map f o → o ≡ None
none-of f None e = refl
none-of f (Some x) e = absurd (cc)

-- where none is marked, nothing changes
pub none_again : (now room : ℕ) (t u : Transmission) (x : List ℕ) (a : Option ChunkPayloadData) → a ≡ None
    → a ≡ option_map (λ c. sent_again (count_again c) now c) (next_within room t.flight) → (next_within room t.flight ≡ None → u ≡ t) → PutsOut t u x x
none_again now room t u x a none answer same =
    kept t u x x (same (none-of (λ c. sent_again (count_again c) now c) (next_within room t.flight) (sym none ∙ answer))) refl

-- what is sent again is marked
pub fitting : (room : ℕ) (c : ChunkPayloadData) (o : Option ChunkPayloadData) → if_it_fits room o ≡ Some c → o ≡ Some c
fitting room c None e = absurd (cc)
fitting room c (Some d) e = by (fits room d) e
  where
    by : (b : Bool) → (if b then Some d else None) ≡ Some c → Some d ≡ Some c
    by true e = e
    by false e = absurd (cc)

found-holds : (p : ChunkPayloadData → Bool) (xs : List ChunkPayloadData) (c : ChunkPayloadData) → find p xs ≡ Some c → p c ≡ true
found-holds p [] c e = absurd (cc)
found-holds p (x ∷ xs) c e = by (p x) refl (found-holds p xs c) e
  where
    by : (b : Bool) → p x ≡ b → (find p xs ≡ Some c → p c ≡ true) → (if b then Some x else find p xs) ≡ Some c → p c ≡ true
    by true is rest e = ap p (sym (of-some x c e)) ∙ is
    by false is rest e = rest e

meant : (room : ℕ) (f : Flight) (c : ChunkPayloadData) → next_within room f ≡ Some c → is_to_resend c ≡ true
meant room f c e =
    found-holds is_to_resend f.queue.inflight.chunks c (fitting room c (find is_to_resend f.queue.inflight.chunks) e)

module _ (now room : ℕ) (chunk : ChunkPayloadData) (b : Bool) (t u : Transmission) (old new : List ℕ)
    (put : (p : Parts) → IsDraft p old → b ≡ true) where
  again_of : (o : Option ChunkPayloadData) → next_within room t.flight ≡ o → Some chunk ≡ option_map (λ c. sent_again (count_again c) now c) o
      → ((c : ChunkPayloadData) → next_within room t.flight ≡ Some c → u ≡ with_flight (resent_at c.tsn now c t.flight) t)
      → ((c : ChunkPayloadData) → next_within room t.flight ≡ Some c
      → (find (has_tsn c.tsn) t.flight.queue.inflight.chunks ≡ Some c) × (can_resend c.tsn t.flight ≡ true))
      → Adds (put_where b (data_chunk (data_of chunk))) old new → PutsOut t u old new
  again_of None is e exact marked added = absurd (some-none chunk e)
  again_of (Some c) is e exact marked added =
      let m = marked c is in
      let own : chunk ≡ sent_again (count_again c) now c = of-some chunk _ e in
      puts_made IsData (resends c.tsn now c) b (data_chunk (data_of chunk)) t u old new (meant room t.flight c is, (exact c is, (tt, ((m.1, m.0), tt))))
      (subst (λ (d : ChunkPayloadData). Contains (made.data_chunk (data_of d) ∷ []) (made.data_chunk (data_of chunk))) own
      (there (made.data_chunk (data_of chunk)))) tt added
      (λ p draft. sym (ap (λ (d : ChunkPayloadData). made.data_chunk (data_of d) ∷ []) own)
      ∙ ap (λ (k : Bool). made_in (put_where k (data_chunk (data_of chunk)))) (sym (put p draft)))

  pub again_put : Some chunk ≡ option_map (λ c. sent_again (count_again c) now c) (next_within room t.flight)
      → ((c : ChunkPayloadData) → next_within room t.flight ≡ Some c → u ≡ with_flight (resent_at c.tsn now c t.flight) t)
      → ((c : ChunkPayloadData) → next_within room t.flight ≡ Some c
      → (find (has_tsn c.tsn) t.flight.queue.inflight.chunks ≡ Some c) × (can_resend c.tsn t.flight ≡ true))
      → Adds (put_where b (data_chunk (data_of chunk))) old new → PutsOut t u old new
  again_put e exact marked added = again_of (next_within room t.flight) refl e exact marked added

-- a sending, and its chunk; where nothing waits there is none
module _ (now : ℕ) (t u : Transmission) (exact : u ≡ after_send now t) (held : held_by_sender u ≡ held_by_sender t)
    (accepted : send_refusal t.flight ≡ None) where
  pub next_put : (chunk : ChunkPayloadData) (b : Bool) (old new : List ℕ) → ((p : Parts) → IsDraft p old → b ≡ true) → Some chunk ≡ next_chunk now t
      → Adds (put_where b (data_chunk (data_of chunk))) old new → PutsOut t u old new
  next_put chunk b old new put answer added =
      puts_made IsData (sends now) b (data_chunk (data_of chunk)) t u old new (refl, (held, (exact, (accepted, tt))))
      (subst (λ o. Contains (with_chunk o []) (made.data_chunk (data_of chunk))) answer (there (made.data_chunk (data_of chunk)))) tt added
      (λ p draft. sym (ap (λ (o : Option ChunkPayloadData). with_chunk o []) answer)
      ∙ ap (λ (k : Bool). made_in (put_where k (data_chunk (data_of chunk)))) (sym (put p draft)))

pub told-once : {X : Type 0} (n tsn : ℕ) (o : Option X) → Some tsn ≡ option_map (λ _. n) o → (tsn ≡ n) × (o ≢ None)
told-once n tsn None e = absurd (cc)
told-once n tsn (Some x) e = (of-some tsn n e, λ none. some-none x none)

-- the same, where the chunk is lent by its TSN
pub lent_put : (now : ℕ) (t u : Transmission) (tsn : ℕ) → Some tsn ≡ option_map (λ _. t.flight.next_tsn) (next_pending t.flight.queue.pending)
    → (next_pending t.flight.queue.pending ≢ None → find (has_tsn t.flight.next_tsn) u.flight.queue.inflight.chunks ≡ next_chunk now t)
    → u ≡ after_send now t → held_by_sender u ≡ held_by_sender t → send_refusal t.flight ≡ None
    → (chunk : ChunkPayloadData) (b : Bool) (old new : List ℕ) → ((p : Parts) → IsDraft p old → b ≡ true)
    → Some chunk ≡ find (has_tsn tsn) u.flight.queue.inflight.chunks
    → Adds (put_where b (data_chunk (data_of chunk))) old new → PutsOut t u old new
lent_put now t u tsn answer noted exact held accepted chunk b old new put lent added =
    let told = told-once t.flight.next_tsn tsn (next_pending t.flight.queue.pending) answer in
    next_put now t u exact held accepted chunk b old new put
    (lent ∙ ap (λ n. find (has_tsn n) u.flight.queue.inflight.chunks) told.0 ∙ noted told.1) added

is-none : {X : Type 0} (o : Option X) → is_some o ≡ false → o ≡ None
is-none None h = refl
is-none (Some x) h = absurd (cc)

-- a TSN that a call answered is in flight
pub sent_there : (now : ℕ) (t u : Transmission) (tsn : ℕ) → Some tsn ≡ option_map (λ _. t.flight.next_tsn) (next_pending t.flight.queue.pending)
    → (next_pending t.flight.queue.pending ≢ None → find (has_tsn t.flight.next_tsn) u.flight.queue.inflight.chunks ≡ next_chunk now t)
    → None ≡ find (has_tsn tsn) u.flight.queue.inflight.chunks → ⊥
sent_there now t u tsn answer noted lent =
    let q = t.flight.queue in
    let told = told-once t.flight.next_tsn tsn (next_pending q.pending) answer in
    let none = none-of _ (next_pending (all_started now q).pending)
    (lent ∙ ap (λ n. find (has_tsn n) u.flight.queue.inflight.chunks) told.0 ∙ noted told.1) in
    told.1 (is-none (next_pending q.pending) (sym (peeked_all_started now q) ∙ ap is_some none))

-- what has expired is abandoned, and no chunk is made
pub dropped_on : (now : ℕ) (d : Option Dropped) (s t u : Transmission) → Sends [] s t → Drops d now t u → Sends [] s u
dropped_on now d s t u before h = sent_then [] [] s t u before (dropped_each now h.0 t u h.1.0 h.1.1.0)

-- nothing else changes of what holds the sender
pub dropped_in : (a l n : Outbound) (u : Transmission) (k : Bool) → l ≡ record a { sender = l.sender; is_skip_due = l.is_skip_due }
    → n ≡ record l { sender = u; is_skip_due = k } → Sends [] a.sender u
    → (n ≡ record a { sender = n.sender; is_skip_due = n.is_skip_due }) × Sends [] a.sender n.sender
dropped_in a l n u k h e s =
    let P : Outbound → Type 0 = λ m. (m ≡ record a { sender = m.sender; is_skip_due = m.is_skip_due }) × Sends [] a.sender m.sender in
    let there : n ≡ record a { sender = u; is_skip_due = k } = e ∙ ap (λ (o : Outbound). let y : Outbound = record o { sender = u; is_skip_due = k } in y) h in
    subst P (sym there) (refl, s)

-- lifetimes start, and no chunk is made
pub started_on : (now : ℕ) (s t u : Transmission) → Sends [] s t → u ≡ with_lifetimes now t → Sends [] s u
started_on now s t u before e = sent_then [] [] s t u before (sent_by (starts now) t u (refl, (e, (tt, (tt, tt)))))

-- where nothing is to be looked for, nothing is dropped
pub none_dropped : (now : ℕ) (a l : Outbound) → (may_drop now a.sender ≡ false → l ≡ a) → may_drop now l.sender ≡ true → may_drop now a.sender ≡ false → ⊥
none_dropped now a l same may h = false≢true (sym (ap (λ o. may_drop now o.sender) (same h) ∙ h) ∙ may)

-- ## The receiver

module _ (credit room : ℕ) (c : ChunkSelectiveAck) (r : Reception) (old new : List ℕ) (own : sack_of c ≡ sack_within credit room r) where
  reported : (P : Wire → Type 0) → P (sack_chunk (sack_of c)) → Adds (put_where true (sack_chunk (sack_of c))) old new → PutsIn P r r old new
  reported P is added = puts_reported P (makes_sack credit room) true (sack_chunk (sack_of c)) r r old new (refl, (refl, tt))
      (subst (λ s. Contains (s ∷ []) (sack_of c)) own (there (sack_of c))) is added

  forgotten : (P : Wire → Type 0) (s : Reception) → s ≡ without_duplicates r → PutsIn P r s new new
  forgotten P s e t = record {
    made = [];
    sacks = [];
    chunks = [];
    sent = none_sent t;
    reported = reported_once forgets r s (refl, (e, tt));
    added = adds_none new;
    own = tt;
    plain = tt;
    each = λ _ _. refl;
  }

  pub sack_put : (s : Reception) (waits none : Bool) → s ≡ without_duplicates r → waits ≡ true → none ≡ false
      → Adds (put_where true (sack_chunk (sack_of c))) old new → PutsIn (IsSackOnce waits none) r s old new
  sack_put s waits none e was is added t =
      let P : Wire → Type 0 = IsSackOnce waits none in
      and_so P P P (sides t (Some r) old) (sides t (Some r) new) (sides t (Some s) new) (λ w h. h) (λ w h. h) (reported P (was, is) added t) (forgotten P s e t)

-- what is due waits
pub due_waits : (now : ℕ) (o : Option ℕ) → is_due now o ≡ true → is_some o ≡ true
due_waits now None h = h
due_waits now (Some at) h = refl

-- none is put
pub sack_kept : (P : Wire → Type 0) (r : Reception) (w : Wire) (old new : List ℕ) → Adds (put_where false w) old new → PutsIn P r r old new
sack_kept P r w old new added t = record {
  made = [];
  sacks = [];
  chunks = [];
  sent = none_sent t;
  reported = none_in (Some r);
  added = added;
  own = tt;
  plain = tt;
  each = λ _ _. refl;
}
