-- By which datagrams an association knows its peer.
use Rattle.std.proofs.Common.{◌≡◌, ◌⊎◌, ℕ, Bool, true, false, List, [], ◌∷◌, Ok, arith, drop, refl, Option, Some, None, ap, sym, subst, ◌∙◌, inl, inr}
use Rattle.std.proofs.lemmas.List.Elements.{All-contains, All-from_recursion, Contains-append_left, Contains-append_right}
use Rattle.std.proofs.lemmas.Option.{none-some}
use Rattle.std.specs.Prelude.{Contains, suc, zero}
use Rattle.sctp_association.proofs.Arriving.{follows_of}
use Rattle.sctp_association.proofs.Inits.{init_there}
use Rattle.sctp_association.proofs.Putting.{there}
use Rattle.sctp_association.proofs.Readings.{answer_said, init_said}
use Rattle.sctp_association.specs.Arrivals.{Arrival, ArrivesAs, Does, IsBroughtAs, begins, hears, receives, renews}
use Rattle.sctp_association.specs.Beginnings.{AnswersInit, ArrivesAsOffered, BeginsToAsk, HasAsked, IsBegunBy, IsEchoed, IsKeptButMtu, IsMadeOf, IsOffered}
use Rattle.sctp_association.specs.Beginnings.{KeepsPeer}
use Rattle.sctp_association.specs.Beginnings.{OffersInit, by_init_ack, by_kept, by_ticket}
use Rattle.sctp_association.specs.declared.association.Association.{Association}
use Rattle.sctp_association.specs.declared.config.Config.{Config}
use Rattle.sctp_association.specs.declared.due.Alone.{Alone}
use Rattle.sctp_association.specs.declared.due.AloneKind.{AloneKind}
use Rattle.sctp_association.specs.declared.due.AloneKind.TheVariants as alone
use Rattle.sctp_association.specs.declared.due.Due.{Due}
use Rattle.sctp_association.specs.Halves.{halves_of}
use Rattle.sctp_association.specs.Kept.{OwesTicket, ticket_due, ticket_in_kind}
use Rattle.sctp_association.specs.Lives.{BeginsBySome, CameInInit, CameInInitAck, CameSo, DoesDeed, Deed, IsUnforged, Knows, Life}
use Rattle.sctp_association.specs.Lives.{asks, handles, life_after, new_life, resizes, stays, with_sealed, writes}
use Rattle.sctp_association.specs.Offering.{IsInitDue, IsInitOf, IsOffering, OffersAsDue}
use Rattle.sctp_association.specs.Packets.{sum_of}
use Rattle.sctp_chunks.specs.Fits.{Fits}
use Rattle.sctp_chunks.specs.Framing.{value_at}
use Rattle.sctp_chunks.specs.Init.{Init, ack_type, init_value}
use Rattle.sctp_chunks.specs.Wire.{init_chunk}
use Rattle.sctp_datagram.specs.Carried.{IsChunkOf}
use Rattle.sctp_datagram.specs.declared.datagram.ChunkPlace.{ChunkPlace}
use Rattle.sctp_handshake.specs.InitValues.{init_in}
use Rattle.sctp_handshake.specs.declared.init_value.Said.{Said}
use Rattle.sctp_handshake.specs.declared.machine.Machine.{Machine}
use Rattle.sctp_handshake.specs.declared.offer.Offer.{Offer}
use Rattle.sctp_handshake.specs.declared.ticket.Ticket.{Ticket}
use Rattle.sctp_packets.specs.Packet.{packet_encoding}

-- ## From `new` on

pub life_begins : (config : Config) (key : List ℕ) (tsn : ℕ) (a : Association) → IsMadeOf config key tsn a → Knows (new_life key) a
life_begins config key tsn a m = record {
  key = m.key;
  peer = λ o e. absurd (none-some o (sym m.peer ∙ e));
  due = λ t e. absurd (none-some t (sym m.owes ∙ e));
  sealed = λ t c. absurd (omega (arith, c.1));
}

-- a call that no datagram brings
keeps : (a b : Association) (l : Life) → KeepsPeer a b → Knows l a → Knows l b
keeps a b l k h = record {
  key = k.key ∙ h.key;
  peer = λ o e. h.peer o (k.machine.peer o e);
  due = λ t e. h.due t (k.owes t e);
  sealed = h.sealed;
}

asked : (a b : Association) (l : Life) → BeginsToAsk a b → HasAsked b → Knows l a → Knows l b
asked a b l k is h = record {
  key = k.key ∙ h.key;
  peer = λ o e. h.peer o (sym (ap (λ (m : Machine). m.peer) k.machine) ∙ e);
  due = λ t e. absurd (none-some t (sym (ap ticket_due is.1) ∙ e));
  sealed = h.sealed;
}

resized : (a b : Association) (l : Life) → IsKeptButMtu a b → Knows l a → Knows l b
resized a b l k h = record {
  key = k.key ∙ h.key;
  peer = λ o e. h.peer o (sym (ap (λ (m : Machine). m.peer) k.machine) ∙ e);
  due = λ t e. h.due t (sym (ap (λ (d : Due). ticket_due d.alone) k.due) ∙ e);
  sealed = h.sealed;
}

pub first_or_not : {X : Type 0} (x : X) (xs : List X) (y : X) → Contains (x ∷ xs) y → (x ≡ y) ⊎ Contains xs y
first_or_not x xs y (zero, lt, e) = inl e
first_or_not x xs y (suc k, lt, e) = inr (k, omega (arith, lt), e)

-- a ticket that is sealed was due
pub sealed_of : (P : Ticket → Type 0) (o : Option Ticket) (ts : List Ticket) → ((t : Ticket) → o ≡ Some t → P t) → ((t : Ticket) → Contains ts t → P t)
    → (t : Ticket) → Contains (with_sealed o ts) t → P t
sealed_of P None ts due was t c = was t c
sealed_of P (Some k) ts due was t c = elim (first_or_not k ts t c) [
  | inl e ↦ due t (ap Some e)
  | inr c ↦ was t c
]

wrote : (a b : Association) (l : Life) (d : List ℕ) → KeepsPeer a b → Knows l a → Knows (life_after (writes d) a l) b
wrote a b l d k h = record {
  key = k.key ∙ h.key;
  peer = λ o e. h.peer o (k.machine.peer o e);
  due = λ t e. h.due t (k.owes t e);
  sealed = sealed_of (λ t. CameInInit l t.peer) (ticket_due a.due.alone) l.sealed h.due h.sealed;
}

-- ## A datagram

module _ (d : List ℕ) (a b : Association) (l : Life) (f : ArrivesAsOffered d a b) (h : Knows l a) where
  abbrev after : Life
  after = life_after (handles d) a l

  later : (x : List ℕ) → Contains l.came x → Contains (d ∷ l.came) x
  later x c = Contains-append_right (d ∷ []) l.came x c

  now : Contains (d ∷ l.came) d
  now = Contains-append_left (d ∷ []) l.came d (there d)

  init-later : (o : Offer) → CameInInit l o → CameInInit after o
  init-later o c = (c.0, later c.0 c.1, c.2)

  so-later : (o : Offer) → CameSo l o → CameSo after o
  so-later o (inl c) = inl (c.0, later c.0 c.1, c.2)
  so-later o (inr c) = inr (c.0, (c.1.0, later c.1.0 c.1.1, c.1.2), c.2)

  -- by whose offer the association may begin
  offered-came : (o : Offer) → IsOffered d a o → CameSo after o
  offered-came o (by_ticket t e is) = inr (t, (d, now, subst (λ (k : List ℕ). IsEchoed d k t) h.key e), is)
  offered-came o (by_init_ack so e) = inl (d, now, e)
  offered-came o (by_kept so e) = so-later o (h.peer o e)

  handled : Knows after b
  handled = record {
    key = f.key ∙ h.key;
    peer = λ o e. elim (f.peer o e) [ inl known ↦ so-later o (h.peer o known) | inr offered ↦ offered-came o offered ];
    due = λ t e. elim (f.owes t e) [ inl owed ↦ init-later t.peer (h.due t owed) | inr w ↦ (d, now, w.offered) ];
    sealed = λ t c. init-later t.peer (h.sealed t c);
  }

  begun-so : (call : Arrival) → IsBegunBy d a b call → BeginsBySome (CameSo after) a.config call
  begun-so (receives c) r = tt
  begun-so (hears c) r = tt
  begun-so (begins tsn max limits) r = (r.peer, offered-came r.peer r.offered, r.is)
  begun-so (renews tsn size max) r = tt

  pub beginning_came : ArrivesAs (BeginsBySome (CameSo after) a.config) d (halves_of a) (halves_of b)
  beginning_came =
      follows_of (IsBroughtAs (IsBegunBy d a b) d) (IsBroughtAs (BeginsBySome (CameSo after) a.config) d) Does
      (λ call r. record { brought = r.brought; rule = begun-so call r.rule }) (halves_of a) (halves_of b) f.arrives

pub deed_is_known : (deed : Deed) (a b : Association) (l : Life) → DoesDeed deed a b → Knows l a → Knows (life_after deed a l) b
deed_is_known stays a b l k h = keeps a b l k h
deed_is_known asks a b l k h = asked a b l k.0 k.1 h
deed_is_known resizes a b l k h = resized a b l k h
deed_is_known (writes d) a b l k h = wrote a b l d k.0 h
deed_is_known (handles d) a b l f h = handled d a b l f h

-- ## Where no cookie was forged

pub unforged_came : (l : Life) (a : Association) → Knows l a → IsUnforged l → (o : Offer) → CameSo l o → CameInInit l o ⊎ CameInInitAck l o
unforged_came l a h own o (inl c) = inr c
unforged_came l a h own o (inr c) = inl (subst (CameInInit l) c.2 (h.sealed c.0 (own c.0 c.1)))

-- ## Of whom the offer is

-- an INIT has the first TSN of this side
kind-init : (key : List ℕ) (m : Machine) (k : AloneKind) (i : Init) → IsInitOf key m k i → ack_type i.is_ack ≡ ack_type false → i.initial_tsn ≡ m.own.first_tsn
kind-init key m alone.Init i h e = ap (λ (x : Init). x.initial_tsn) h.1
kind-init key m (alone.InitAck t) i h e = absurd (omega (arith, e, ap (λ (x : Init). ack_type x.is_ack) h.2.1))
kind-init key m _ i h e = absurd h

due-init : (key : List ℕ) (m : Machine) (o : Option Alone) (i : Init) → IsInitDue key m o i → ack_type i.is_ack ≡ ack_type false
    → i.initial_tsn ≡ m.own.first_tsn
due-init key m None i h e = absurd h
due-init key m (Some due) i h e = kind-init key m due.kind i h e

-- an INIT ACK has that of the ticket
kind-ack : (key : List ℕ) (m : Machine) (k : AloneKind) (i : Init) → IsInitOf key m k i → ack_type i.is_ack ≡ ack_type true
    → (t : Ticket) × (ticket_in_kind k ≡ Some t) × (i.initial_tsn ≡ t.own.first_tsn)
kind-ack key m alone.Init i h e = absurd (omega (arith, e, ap (λ (x : Init). ack_type x.is_ack) h.1))
kind-ack key m (alone.InitAck t) i h e = (t, refl, ap (λ (x : Init). x.initial_tsn) h.2.1)
kind-ack key m _ i h e = absurd h

due-ack : (key : List ℕ) (m : Machine) (o : Option Alone) (i : Init) → IsInitDue key m o i → ack_type i.is_ack ≡ ack_type true
    → (t : Ticket) × (ticket_due o ≡ Some t) × (i.initial_tsn ≡ t.own.first_tsn)
due-ack key m None i h e = absurd h
due-ack key m (Some due) i h e = kind-ack key m due.kind i h e

module _ (a : Association) (d : List ℕ) (w : OffersAsDue a d) where
  abbrev put : List ℕ
  put = packet_encoding (sum_of w.is_zero) w.packet

  -- an INIT or an INIT ACK that is read was put as it was due
  read-as : (b : Bool) (place : ChunkPlace) → IsChunkOf d place → place.typ ≡ ack_type b → (s : Said) → init_in (value_at (drop place.at d)) ≡ Ok s
      → (i : Init) × IsInitDue a.key a.machine a.due.alone i × (ack_type i.is_ack ≡ ack_type b) × (s.offer.first_tsn ≡ i.initial_tsn)
  read-as b place own typ s reads =
      let found = init_there (sum_of w.is_zero) w.packet w.encodings b place (subst (λ (x : List ℕ). IsChunkOf x place) w.encoded own) typ in
      let at : value_at (drop place.at d) ≡ init_value found.0 = ap (λ (x : List ℕ). value_at (drop place.at x)) w.encoded ∙ found.3 in
      let said = subst (λ (x : List ℕ). init_in x ≡ Ok s) at reads in
      let of = All-contains (IsOffering a) w.packet.chunks (init_chunk found.0) (All-from_recursion (IsOffering a) w.packet.chunks w.own) found.1 in
      let fits = All-contains Fits w.packet.chunks (init_chunk found.0) (All-from_recursion Fits w.packet.chunks w.fits.chunks) found.1 in
      (found.0, of, found.2, (init_said found.0 s fits.initiate_tag fits.initial_tsn said).1)

  pub init_read : (o : Offer) → OffersInit d o → o.first_tsn ≡ a.machine.own.first_tsn
  init_read o h =
      let r = read-as false h.place h.own h.typ (record { offer = o; cookie = h.cookie }) h.reads in
      r.3 ∙ due-init a.key a.machine a.due.alone r.0 r.1 r.2

  pub ack_read : (o : Offer) → AnswersInit d o → (t : Ticket) × OwesTicket a t × (o.first_tsn ≡ t.own.first_tsn)
  ack_read o h =
      let k = answer_said (init_in (value_at (drop h.place.at d))) o h.cookie h.reads in
      let r = read-as true h.place h.own h.typ k.0 k.1 in
      let f = due-ack a.key a.machine a.due.alone r.0 r.1 r.2 in
      (f.0, f.1, sym (ap (λ (x : Offer). x.first_tsn) k.2) ∙ r.3 ∙ f.2)
