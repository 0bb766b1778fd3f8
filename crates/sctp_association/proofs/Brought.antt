-- Which events a chunk brings.
use Rattle.std.proofs.Common.{◌≡◌, ◌⊎◌, ℕ, ◌<◌, ◌≤◌, Bool, true, false, List, length, Option, Some, None, refl, ap, sym, subst, arith, inl, inr, ◌∙◌}
use Rattle.std.proofs.lemmas.Bool.{cases_lt, eqb-true, false≢true}
use Rattle.std.specs.List.{list_any}
use Rattle.std.specs.Prelude.{Result, Ok, ◌==◌, ◌||◌, drop, if◌then◌else◌, is_some}
use Rattle.sctp_association.proofs.Coming.{if_ok, on_ok}
use Rattle.sctp_association.specs.Acks.{without_blocks}
use Rattle.sctp_association.specs.Brought.{AddsOnly, BringsOnly, IsLongOf, IsLowBy, IsReadOf, NotesOnly, falls_at, falls_by, low_by_sack, low_by_shutdown}
use Rattle.sctp_association.specs.Events.{BringsNone, Waits, brought_at, peers_from, whole_from}
use Rattle.sctp_association.specs.Halves.{receiver_of}
use Rattle.sctp_association.specs.Paths.{taken_as}
use Rattle.sctp_association.specs.Reads.{message_in}
use Rattle.sctp_association.specs.StreamSet.{is_in}
use Rattle.sctp_association.specs.Telling.{PassesOn, Stays, passed_on}
use Rattle.sctp_association.specs.declared.association.Association.{Association}
use Rattle.sctp_association.specs.declared.event.Ending.{Ending}
use Rattle.sctp_association.specs.declared.event.Event.TheVariants as event
use Rattle.sctp_association.specs.declared.event.Events.{Events}
use Rattle.sctp_association.specs.declared.inbound.Inbound.{Inbound}
use Rattle.sctp_association.specs.declared.outbound.Outbound.{Outbound}
use Rattle.sctp_chunks.specs.Wire.{data_chunk, sack_chunk, shutdown_chunk}
use Rattle.sctp_data.specs.declared.chunk.chunk_payload_data.ChunkPayloadData.{ChunkPayloadData}
use Rattle.sctp_data.specs.PayloadData.{data_of}
use Rattle.sctp_data.specs.SelectiveAck.{Sack}
use Rattle.sctp_datagram.specs.Framing.{StartsWith}
use Rattle.sctp_datagram.specs.declared.datagram.ChunkPlace.{ChunkPlace}
use Rattle.sctp_handshake.specs.declared.answer.Told.{Told}
use Rattle.sctp_handshake.specs.declared.answer.Told.TheVariants as told
use Rattle.sctp_receiver.specs.Receiver.{Reception, message_on}
use Rattle.sctp_sender.specs.Calls.{Acknowledges}
use Rattle.sctp_sender.specs.Sender.{Transmission, after_take_back}
use Rattle.sctp_sender.specs.Thresholds.{fell, tells_low}
use Rattle.sctp_sender.specs.declared.sender.Acked.{Acked}
use Rattle.sctp_sender.specs.declared.sender.flight.Released.{Released}
use Rattle.sctp_sender.specs.declared.sender.refusal.SenderRefusal.{SenderRefusal}

-- ## Sets

-- one number is put into the set, if there is room
pub adds_one : (P : ℕ → Type 0) (n : ℕ) (a b : List Bool) → P n → (n < length a → (k : ℕ) → is_in k b ≡ (if k == n then true else is_in k a))
    → (length a ≤ n → b ≡ a) → AddsOnly P a b
adds_one P n a b p value full s w = by (cases_lt n (length a))
  where
    at : (t : Bool) → (s == n) ≡ t → (if t then true else is_in s a) ≡ true → (is_in s a ≡ true) ⊎ P s
    at true is h = inr (subst P (sym (eqb-true s n is)) p)
    at false is h = inl h

    by : (n < length a) ⊎ (length a ≤ n) → (is_in s a ≡ true) ⊎ P s
    by (inl lt) = at (s == n) refl (sym (value lt s) ∙ w)
    by (inr le) = inl (sym (ap (is_in s) (full le)) ∙ w)

-- one number is taken out of it
pub adds_out : (P : ℕ → Type 0) (n : ℕ) (a b : List Bool) → ((k : ℕ) → is_in k b ≡ (if k == n then false else is_in k a)) → AddsOnly P a b
adds_out P n a b value s w = inl (at (s == n) (sym (value s) ∙ w))
  where
    at : (t : Bool) → (if t then false else is_in s a) ≡ true → is_in s a ≡ true
    at true h = absurd (false≢true h)
    at false h = h

pub adds_same : (P : ℕ → Type 0) (a b : List Bool) → ((n : ℕ) → is_in n b ≡ is_in n a) → AddsOnly P a b
adds_same P a b same s w = inl (sym (same s) ∙ w)

pub adds_none : (P : ℕ → Type 0) (a : List Bool) → AddsOnly P a a
adds_none P a s w = inl w

pub adds_then : (P : ℕ → Type 0) (a b c : List Bool) → AddsOnly P a b → AddsOnly P b c → AddsOnly P a c
adds_then P a b c f g s w = elim (g s w) [
  | inl h ↦ f s h
  | inr p ↦ inr p
]

pub adds_more : (P Q : ℕ → Type 0) (a b : List Bool) → ((s : ℕ) → P s → Q s) → AddsOnly P a b → AddsOnly Q a b
adds_more P Q a b more f s w = elim (f s w) [
  | inl h ↦ inl h
  | inr p ↦ inr (more s p)
]

-- ## Events of streams

module _ (R L : ℕ → Type 0) where
  pub notes_none : (e f : Events) → f ≡ e → NotesOnly R L e f
  notes_none e f is = subst (NotesOnly R L e) (sym is) (record {
    rest = refl;
    readable = adds_none R e.readable;
    too_long = adds_none L e.too_long;
    reset_by_peer = λ s w. w;
  })

  pub notes_then : (e f g : Events) → NotesOnly R L e f → NotesOnly R L f g → NotesOnly R L e g
  notes_then e f g n m = record {
    rest = m.rest ∙ ap (λ (x : Events). peers_from x g) n.rest;
    readable = adds_then R e.readable f.readable g.readable n.readable m.readable;
    too_long = adds_then L e.too_long f.too_long g.too_long n.too_long m.too_long;
    reset_by_peer = λ s w. n.reset_by_peer s (m.reset_by_peer s w);
  }

  pub notes_more : (Q M : ℕ → Type 0) (e f : Events) → ((s : ℕ) → R s → Q s) → ((s : ℕ) → L s → M s) → NotesOnly R L e f → NotesOnly Q M e f
  notes_more Q M e f read long n = record {
    rest = n.rest;
    readable = adds_more R Q e.readable f.readable read n.readable;
    too_long = adds_more L M e.too_long f.too_long long n.too_long;
    reset_by_peer = n.reset_by_peer;
  }

  -- nothing was noted before
  pub notes_after : (e f g : Events) → NotesOnly (λ s. ⊥) (λ s. ⊥) e f → NotesOnly R L f g → NotesOnly R L e g
  notes_after e f g n m = record {
    rest = m.rest ∙ ap (λ (x : Events). peers_from x g) n.rest;
    readable = adds_then R e.readable f.readable g.readable (adds_more (λ s. ⊥) R e.readable f.readable (λ s p. absurd p) n.readable) m.readable;
    too_long = adds_then L e.too_long f.too_long g.too_long (adds_more (λ s. ⊥) L e.too_long f.too_long (λ s p. absurd p) n.too_long) m.too_long;
    reset_by_peer = λ s w. n.reset_by_peer s (m.reset_by_peer s w);
  }

  -- streams with a message to read are noted
  pub notes_read : (e : Events) (m : List Bool) → AddsOnly R e.readable m → NotesOnly R L e (record e { readable = m })
  notes_read e m h = record { rest = refl; readable = h; too_long = adds_none L e.too_long; reset_by_peer = λ s w. w }

  pub notes_rest : (e f : Events) → f ≡ record e { readable = f.readable } → AddsOnly R e.readable f.readable → NotesOnly R L e f
  notes_rest e f is h = record {
    rest = is ∙ sym (ap (λ (x : Events). peers_from e x) is);
    readable = h;
    too_long = adds_same L e.too_long f.too_long (λ n. ap (λ (x : Events). is_in n x.too_long) is);
    reset_by_peer = λ s w. sym (ap (λ (x : Events). is_in s x.reset_by_peer) is) ∙ w;
  }

  -- a message is too long, and no message of the stream can be read
  pub notes_long : (e : Events) (m n : List Bool) → AddsOnly R e.readable m → AddsOnly L e.too_long n
      → NotesOnly R L e (record e { readable = m; too_long = n })
  notes_long e m n h k = record { rest = refl; readable = h; too_long = k; reset_by_peer = λ s w. w }

-- ## What a RE-CONFIG brings

pub resets_then : (e f g : Events) → f ≡ brought_at 130 e f → g ≡ brought_at 130 f g → g ≡ brought_at 130 e g
resets_then e f g n m = m ∙ ap (λ (x : Events). brought_at 130 x g) n

pub resets_read : (e f : Events) → f ≡ record e { readable = f.readable } → f ≡ brought_at 130 e f
resets_read e f is = is ∙ sym (ap (brought_at 130 e) is)

-- ## What the state machine tells

whole-passed : (t : Option Told) (how : Ending) (e f : Events) → f ≡ passed_on t how e → f ≡ whole_from e f
whole-passed t how e f is = is ∙ by t ∙ ap (whole_from e) (sym is)
  where
    by : (t : Option Told) → passed_on t how e ≡ whole_from e (passed_on t how e)
    by None = refl
    by (Some told.Connected) = refl
    by (Some told.Restarted) = refl
    by (Some told.ShutdownBegun) = refl
    by (Some told.Closed) = refl
    by (Some told.Failed) = refl

pub whole_passed : (t : Option Told) (how : Ending) (a b : Association) → PassesOn t how a b → b.events ≡ whole_from a.events b.events
whole_passed t how a b on = whole-passed t how a.events b.events on.told

-- ## Room

-- room is made for the events of streams on which this side writes
pub none_reserved : (e f : Events) → f ≡ record e { low = f.low; reset_by_us = f.reset_by_us; reset_refused = f.reset_refused } → Stays f.low e.low
    → Stays f.reset_by_us e.reset_by_us → Stays f.reset_refused e.reset_refused → BringsNone e f
none_reserved e f is low us refused event.Connected w = sym (ap (λ (x : Events). x.connected) is) ∙ w
none_reserved e f is low us refused event.Restarted w = sym (ap (λ (x : Events). x.restarted) is) ∙ w
none_reserved e f is low us refused (event.Readable s) w = sym (ap (λ (x : Events). is_in s x.readable) is) ∙ w
none_reserved e f is low us refused (event.BufferedAmountLow s) w = low s w
none_reserved e f is low us refused (event.ResetByUs s) w = us s w
none_reserved e f is low us refused (event.ResetRefused s) w = refused s w
none_reserved e f is low us refused (event.ResetByPeer s) w = sym (ap (λ (x : Events). is_in s x.reset_by_peer) is) ∙ w
none_reserved e f is low us refused (event.TooLong s) w = sym (ap (λ (x : Events). is_in s x.too_long) is) ∙ w
none_reserved e f is low us refused (event.PeerError c) w = sym (ap (λ (x : Events). x.peer_error) is) ∙ w
none_reserved e f is low us refused event.Shutdown w = sym (ap (λ (x : Events). x.shutdown) is) ∙ w
none_reserved e f is low us refused (event.Closed x) w = sym (ap (λ (y : Events). y.closed) is) ∙ w

pub none_same : (e f : Events) → f ≡ e → BringsNone e f
none_same e f is v w = subst (Waits v) is w

-- ## The buffered amounts that fall

-- what is released by a SACK tells of a stream only where its amount falls
pub sack_fell : (n : ℕ) (k : Sack) (o : Outbound) (t : Sack) (new : Transmission) (acked : Acked) (r : Result Acked SenderRefusal) → r ≡ Ok acked
    → Acknowledges t o.sender new r → t ≡ taken_as k o → {l : List Released} → l ≡ acked.released.items → list_any (tells_low n) l ≡ true
    → falls_by n k o ≡ true
sack_fell n k o t new acked r is h same l h-any =
    ap (λ (x : Sack). falls_at n x (after_take_back x o.sender)) (sym same)
    ∙ ap (fell n (after_take_back t o.sender)) (sym (on_ok r acked is h.ok))
    ∙ sym (if_ok _ r acked is h.low n) ∙ ap (list_any (tells_low n)) (sym l) ∙ h-any

-- ## A chunk

if-is : {A : Type 0} (t : Bool) (x y z : A) → z ≡ x → z ≡ y → z ≡ (if t then x else y)
if-is true x y z p q = p
if-is false x y z p q = q

brought-same : (typ : ℕ) (e : Events) → e ≡ brought_at typ e e
brought-same typ e =
    if-is ((typ == 0) || (typ == 192)) _ _ e refl (if-is (typ == 3) _ _ e refl (if-is (typ == 7) _ _ e refl (if-is (typ == 9) _ _ e refl
    (if-is (typ == 130) _ _ e refl (if-is ((typ == 2) || ((typ == 6) || ((typ == 8) || ((typ == 10) || ((typ == 11) || (typ == 14)))))) _ _ e refl refl)))))

-- what can be read of a receiver, where there is one
abbrev read-of : ℕ → Option Reception → Bool
read-of s None = false
read-of s (Some r) = is_some (message_on s r)

read-is : (s : ℕ) (o : Option Inbound) → is_some (message_in s o) ≡ read-of s (receiver_of o)
read-is s None = refl
read-is s (Some i) = refl

-- the streams whose amount falls by the SACK of a chunk
pub low_sack : (c : ChunkPlace) (d : List ℕ) (a : Association) (k : Sack) (m : List Bool) → StartsWith (drop c.at d) (sack_chunk k)
    → AddsOnly (λ n. falls_by n k a.outbound ≡ true) a.events.low m → AddsOnly (IsLowBy c d a) a.events.low m
low_sack c d a k m reads fell s w = elim (fell s w) [
  | inl h ↦ inl h
  | inr h ↦ inr (low_by_sack k reads h)
]

-- and by its SHUTDOWN
pub low_tsn : (c : ChunkPlace) (d : List ℕ) (a : Association) (n : ℕ) (m : List Bool) → StartsWith (drop c.at d) (shutdown_chunk n)
    → AddsOnly (λ s. falls_at s (without_blocks n) a.outbound.sender ≡ true) a.events.low m → AddsOnly (IsLowBy c d a) a.events.low m
low_tsn c d a n m reads fell s w = elim (fell s w) [
  | inl h ↦ inl h
  | inr h ↦ inr (low_by_shutdown n reads h)
]

module _ (c : ChunkPlace) (d : List ℕ) (a b : Association) where
  pub brings_at : (n : ℕ) → c.typ ≡ n → b.events ≡ brought_at n a.events b.events → b.events.readable ≡ a.events.readable
      → b.events.too_long ≡ a.events.too_long → b.events.reset_by_peer ≡ a.events.reset_by_peer → AddsOnly (IsLowBy c d a) a.events.low b.events.low
      → BringsOnly c d a b
  brings_at n typ is readable long peer low = record {
    by_type = is ∙ ap (λ k. brought_at k a.events b.events) (sym typ);
    readable = λ other s w. inl (sym (ap (is_in s) readable) ∙ w);
    too_long = λ s w. inl (sym (ap (is_in s) long) ∙ w);
    reset_by_peer = λ other s w. sym (ap (is_in s) peer) ∙ w;
    low = low;
  }

  -- its set of streams with a low amount stays
  low-same : b.events.low ≡ a.events.low → AddsOnly (IsLowBy c d a) a.events.low b.events.low
  low-same is s w = inl (sym (ap (is_in s) is) ∙ w)

  -- the old ones, but those that it may bring: none of streams on which the peer writes
  pub brings_by : (n : ℕ) → c.typ ≡ n → b.events ≡ brought_at n a.events b.events
      → (brought_at n a.events b.events).readable ≡ a.events.readable → (brought_at n a.events b.events).too_long ≡ a.events.too_long
      → (brought_at n a.events b.events).reset_by_peer ≡ a.events.reset_by_peer → AddsOnly (IsLowBy c d a) a.events.low b.events.low
      → BringsOnly c d a b
  brings_by n typ is readable long peer low = brings_at n typ is (ap (λ (e : Events). e.readable) is ∙ readable) (ap (λ (e : Events). e.too_long) is ∙ long)
      (ap (λ (e : Events). e.reset_by_peer) is ∙ peer) low

  -- none
  pub brings_none : b.events ≡ a.events → BringsOnly c d a b
  brings_none is = brings_at c.typ refl (is ∙ brought-same c.typ a.events ∙ ap (brought_at c.typ a.events) (sym is)) (ap (λ (e : Events). e.readable) is)
      (ap (λ (e : Events). e.too_long) is) (ap (λ (e : Events). e.reset_by_peer) is) (low-same (ap (λ (e : Events). e.low) is))

  -- of the whole association
  pub brings_whole : (n : ℕ) → c.typ ≡ n → brought_at n a.events b.events ≡ whole_from a.events b.events → b.events ≡ whole_from a.events b.events
      → BringsOnly c d a b
  brings_whole n typ row is = brings_at n typ (is ∙ sym row) (ap (λ (e : Events). e.readable) is) (ap (λ (e : Events). e.too_long) is)
      (ap (λ (e : Events). e.reset_by_peer) is) (low-same (ap (λ (e : Events). e.low) is))

  -- by a RE-CONFIG
  pub brings_reset : c.typ ≡ 130 → b.events ≡ brought_at 130 a.events b.events → BringsOnly c d a b
  brings_reset typ is = record {
    by_type = is ∙ ap (λ k. brought_at k a.events b.events) (sym typ);
    readable = λ other. absurd (other typ);
    too_long = λ s w. inl (sym (ap (λ (e : Events). is_in s e.too_long) is) ∙ w);
    reset_by_peer = λ other. absurd (other typ);
    low = low-same (ap (λ (e : Events). e.low) is);
  }

  -- by DATA or a FORWARD-TSN: the receiving half was called, and then the association may have ended
  module _ (i j : Inbound) (f : Events) (there : a.inbound ≡ Some i) (behind : receiver_of b.inbound ≡ Some j.receiver)
      (end : b.events ≡ record f { closed = b.events.closed }) where
    both : (R L : ℕ → Type 0) → NotesOnly R L a.events f → b.events ≡ record (peers_from a.events b.events) { closed = b.events.closed }
    both R L n = end ∙ ap (λ (e : Events). record e { closed = b.events.closed }) n.rest
        ∙ sym (ap (λ (e : Events). record (peers_from a.events e) { closed = b.events.closed }) end)

    read : (s : ℕ) → is_some (message_on s j.receiver) ≡ true → is_some (message_in s b.inbound) ≡ true
    read s h = read-is s b.inbound ∙ ap (read-of s) behind ∙ h

    was : (s : ℕ) → is_in s b.events.readable ≡ true → is_in s f.readable ≡ true
    was s w = sym (ap (λ (e : Events). is_in s e.readable) end) ∙ w

    long-was : (s : ℕ) → is_in s b.events.too_long ≡ true → is_in s f.too_long ≡ true
    long-was s w = sym (ap (λ (e : Events). is_in s e.too_long) end) ∙ w

    peer-was : (s : ℕ) → is_in s b.events.reset_by_peer ≡ true → is_in s f.reset_by_peer ≡ true
    peer-was s w = sym (ap (λ (e : Events). is_in s e.reset_by_peer) end) ∙ w

    pub brings_data : c.typ ≡ 0 → (chunk : ChunkPayloadData) → StartsWith (drop c.at d) (data_chunk (data_of chunk))
        → NotesOnly (IsReadOf chunk j.receiver) (IsLongOf chunk i) a.events f → BringsOnly c d a b
    brings_data typ chunk reads n = record {
      by_type = both (IsReadOf chunk j.receiver) (IsLongOf chunk i) n ∙ ap (λ k. brought_at k a.events b.events) (sym typ);
      readable = λ other s w. elim (n.readable s (was s w)) [
        | inl h ↦ inl h
        | inr h ↦ inr (record { message = read s h.1; own = λ is. record { chunk = chunk; reads = reads; is = h.0 } })
      ];
      too_long = λ s w. elim (n.too_long s (long-was s w)) [
        | inl h ↦ inl h
        | inr h ↦ inr (record { there = i; is = there; chunk = chunk; reads = reads; long = h })
      ];
      reset_by_peer = λ other s w. n.reset_by_peer s (peer-was s w);
      low = low-same (ap (λ (e : Events). e.low) end ∙ ap (λ (e : Events). e.low) n.rest);
    }

    pub brings_skip : c.typ ≡ 192 → NotesOnly (λ s. is_some (message_on s j.receiver) ≡ true) (λ s. ⊥) a.events f → BringsOnly c d a b
    brings_skip typ n = record {
      by_type = both (λ s. is_some (message_on s j.receiver) ≡ true) (λ s. ⊥) n ∙ ap (λ k. brought_at k a.events b.events) (sym typ);
      readable = λ other s w. elim (n.readable s (was s w)) [
        | inl h ↦ inl h
        | inr h ↦ inr (record { message = read s h; own = λ is. absurd (omega (arith, is, typ)) })
      ];
      too_long = λ s w. elim (n.too_long s (long-was s w)) [
        | inl h ↦ inl h
        | inr h ↦ absurd h
      ];
      reset_by_peer = λ other s w. n.reset_by_peer s (peer-was s w);
      low = low-same (ap (λ (e : Events). e.low) end ∙ ap (λ (e : Events). e.low) n.rest);
    }
