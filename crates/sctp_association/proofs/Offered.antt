-- With whose first TSN the halves of an association begin: what a chunk brings, and what chunks bring one after another.
use Rattle.std.proofs.Common.{◌≡◌, ◌⊎◌, ℕ, List, true, refl, ap, subst, sym, ◌∙◌, inl, inr}
use Rattle.sctp_association.proofs.Arrived.{came_alike, came_same}
use Rattle.sctp_association.proofs.Arriving.{follows_of, follows_then}
use Rattle.sctp_association.proofs.Known.{keeps_kept, kept_same, within_same, within_then}
use Rattle.sctp_association.specs.Arrivals.{Arrival, CallsArrive, Does, IsBroughtAs, IsOfHalf, begins, hears, receives, renews}
use Rattle.sctp_association.specs.Beginnings.{ArrivesAsOffered, IsBegunBy, IsEchoed, IsOffered, IsOwedFor, IsOwnEchoed, IsOwnOffer, KeepsPeer, KeepsPeerButTag}
use Rattle.sctp_association.specs.Beginnings.{begins_by}
use Rattle.sctp_association.specs.Beginnings.{HasFreshTag, by_init_ack, by_kept, is_asking}
use Rattle.sctp_association.specs.Causes.{TellsStale}
use Rattle.sctp_association.specs.Kept.{IsKept, OwesNoMore, OwesTicket}
use Rattle.sctp_association.specs.Beginnings.{by_ticket, renews_by}
use Rattle.sctp_association.specs.Lasting.{KeepsLimits}
use Rattle.sctp_association.specs.declared.association.Association.{Association}
use Rattle.sctp_association.specs.declared.config.Config.{Config}
use Rattle.sctp_association.specs.declared.due.Due.{Due}
use Rattle.sctp_association.specs.Halves.{HalvesAlike, halves_of}
use Rattle.sctp_datagram.specs.Carried.{IsChunkOf}
use Rattle.sctp_datagram.specs.declared.datagram.ChunkPlace.{ChunkPlace}
use Rattle.sctp_handshake.specs.declared.machine.Machine.{Machine}
use Rattle.sctp_handshake.specs.declared.offer.Offer.{Offer}
use Rattle.sctp_handshake.specs.declared.ticket.Ticket.{Ticket}

module _ (d : List ℕ) where
  -- ## What this side offers

  own_same : (a : Association) {o : Offer} → o ≡ a.machine.own → IsOwnOffer d a o
  own_same a {o} e = record { base = a.machine.own; is = inl refl; tag = inl e }

  fresh_then : (o p q : Offer) → (p ≡ o) ⊎ (TellsStale d × HasFreshTag o p) → (q ≡ p) ⊎ (TellsStale d × HasFreshTag p q)
      → (q ≡ o) ⊎ (TellsStale d × HasFreshTag o q)
  fresh_then o p q (inl e) (inl f) = inl (f ∙ e)
  fresh_then o p q (inr t) (inl f) = inr (t.0, subst (HasFreshTag o) (sym f) t.1)
  fresh_then o p q (inl e) (inr t) = inr (t.0, subst (λ (k : Offer). HasFreshTag k q) e t.1)
  fresh_then o p q (inr s) (inr t) =
      inr (t.0, record { same = t.1.same ∙ ap (λ (k : Offer). record k { tag = q.tag }) s.1.same; some = t.1.some })

  -- ## Calls of halves that are there

  half-begun : (a b : Association) (call : Arrival) → IsOfHalf call → IsBegunBy d a b call
  half-begun a b (receives c) h = tt
  half-begun a b (hears h) e = tt
  half-begun a b (begins tsn max limits) h = absurd h
  half-begun a b (renews tsn size max) h = absurd h

  pub offered_calls : (a b : Association) → CallsArrive d (halves_of a) (halves_of b) → KeepsPeer a b → ArrivesAsOffered d a b
  offered_calls a b f k = record {
    arrives =
        follows_of (IsBroughtAs IsOfHalf d) (IsBroughtAs (IsBegunBy d a b) d) Does
        (λ call h. record { brought = h.brought; rule = half-begun a b call h.rule }) (halves_of a) (halves_of b) f;
    restarted = λ e. k.machine.restarted ∙ e;
    config = k.config;
    key = k.key;
    asking = k.machine.asking;
    peer = λ o e. inl (k.machine.peer o e);
    own = own_same a k.machine.own;
    owes = λ t e. inl (k.owes t e);
    machine = k.machine.limits;
    sending = k.sending;
  }

  pub offered_kept : (a b : Association) → CallsArrive d (halves_of a) (halves_of b) → IsKept a b → ArrivesAsOffered d a b
  offered_kept a b f k = offered_calls a b f (keeps_kept a b k)

  pub offered_alike : (a b : Association) → HalvesAlike a b → KeepsPeer a b → ArrivesAsOffered d a b
  offered_alike a b h k = offered_calls a b (came_alike d a b h) k

  pub offered_halves : (a b : Association) → halves_of b ≡ halves_of a → KeepsPeer a b → ArrivesAsOffered d a b
  offered_halves a b e k = offered_calls a b (came_same d (halves_of a) (halves_of b) e) k

  -- behind an ERROR this side may offer a fresh tag
  pub offered_fresh : (c : ChunkPlace) → IsChunkOf d c → c.typ ≡ 9 → (a b : Association) → halves_of b ≡ halves_of a → KeepsPeerButTag c d a b
      → ArrivesAsOffered d a b
  offered_fresh c of typ a b e k =
      let f = offered_halves a (record b { machine = record b.machine { own = a.machine.own } }) e k.keeps in
      record {
        arrives =
            follows_of (IsBroughtAs IsOfHalf d) (IsBroughtAs (IsBegunBy d a b) d) Does
            (λ call h. record { brought = h.brought; rule = half-begun a b call h.rule }) (halves_of a) (halves_of b)
            (came_same d (halves_of a) (halves_of b) e);
        restarted = f.restarted;
        config = f.config;
        key = f.key;
        asking = f.asking;
        peer = f.peer;
        own = record {
          base = a.machine.own;
          is = inl refl;
          tag = elim k.own [
            | inl same ↦ inl same
            | inr fresh ↦ inr (record { place = c; own = of; typ = typ; cause = fresh.0 }, fresh.1)
          ];
        };
        owes = f.owes;
        machine = f.machine;
        sending = f.sending;
      }

  pub offered_same : (a b : Association) → b ≡ a → ArrivesAsOffered d a b
  offered_same a b e =
      subst (λ (x : Association). ArrivesAsOffered d a x) (sym e) (offered_kept a a (came_same d (halves_of a) (halves_of a) refl) (kept_same a))

  -- a packet of one reply is due, and nothing else changes
  pub offered_due : (a b : Association) (due : Due) → b ≡ record a { due = due }
      → ((t : Ticket) → OwesTicket b t → OwesTicket a t ⊎ IsOwedFor d a t) → ArrivesAsOffered d a b
  offered_due a b due e owes = record {
    arrives =
        follows_of (IsBroughtAs IsOfHalf d) (IsBroughtAs (IsBegunBy d a b) d) Does
        (λ call h. record { brought = h.brought; rule = half-begun a b call h.rule }) (halves_of a) (halves_of b)
        (came_same d (halves_of a) (halves_of b) (ap halves_of e));
    restarted = λ is. ap (λ (x : Association). x.machine.has_restarted) e ∙ is;
    config = ap (λ (x : Association). x.config) e;
    key = ap (λ (x : Association). x.key) e;
    asking = λ asks. subst (λ (m : Machine). is_asking m.state ≡ true) (ap (λ (x : Association). x.machine) e) asks;
    peer = λ o is. inl (sym (ap (λ (x : Association). x.machine.peer) e) ∙ is);
    own = own_same a (ap (λ (x : Association). x.machine.own) e);
    owes = owes;
    machine = ap (λ (x : Association). x.machine.limits) e;
    sending = within_same a b (ap (λ (x : Association). x.config) e) (ap (λ (x : Association). x.outbound) e);
  }

  -- the same, where no INIT ACK is due that was not due before
  pub offered_less : (a b : Association) (due : Due) → b ≡ record a { due = due } → OwesNoMore a b → ArrivesAsOffered d a b
  offered_less a b due e less = offered_due a b due e (λ t owed. inl (less t owed))

  -- ## One after another

  -- what may begin by the later of two may begin by the earlier
  module _ (a b : Association) (f : ArrivesAsOffered d a b) where
    offer-back : (o : Offer) → IsOffered d b o → IsOffered d a o
    offer-back o (by_ticket t e is) = by_ticket t (subst (λ (k : List ℕ). IsEchoed d k t) f.key e) is
    offer-back o (by_init_ack asks e) = by_init_ack (f.asking asks) e
    offer-back o (by_kept asks e) = elim (f.peer o e) [
      | inl known ↦ by_kept (f.asking asks) known
      | inr offered ↦ offered
    ]

    -- what this side offers, too, and the INIT ACK that is due
    own-back : (o : Offer) → IsOwnOffer d b o → IsOwnOffer d a o
    own-back o w = elim w.is [
      | inl same ↦ record {
        base = f.own.base;
        is = f.own.is;
        tag = fresh_then f.own.base b.machine.own o f.own.tag (elim w.tag [
          | inl is ↦ inl (is ∙ same)
          | inr t ↦ inr (t.0, subst (λ (k : Offer). HasFreshTag k o) same t.1)
        ]);
      }
      | inr echoed ↦ record { base = w.base; is = inr (subst (λ (k : List ℕ). IsOwnEchoed d k w.base) f.key echoed); tag = w.tag }
    ]

    owes-back : (t : Ticket) → OwesTicket b t ⊎ IsOwedFor d b t → OwesTicket a t ⊎ IsOwedFor d a t
    owes-back t (inl owed) = f.owes t owed
    owes-back t (inr w) = inr (record { offered = w.offered; own = w.own; is = own-back w.own w.is; tsn = w.tsn; tag = w.tag })

    rule-back : (c : Association) (call : Arrival) → IsBegunBy d b c call → IsBegunBy d a c call
    rule-back c (receives call) r = tt
    rule-back c (hears h) r = tt
    rule-back c (begins tsn max limits) r = record {
      peer = r.peer;
      offered = offer-back r.peer r.offered;
      is = subst (λ (k : Config). begins tsn max limits ≡ begins_by r.peer k) f.config r.is;
    }
    rule-back c (renews tsn size max) r = record {
      ticket = r.ticket;
      echoed = subst (λ (k : List ℕ). IsEchoed d k r.ticket) f.key r.echoed;
      is = subst (λ (k : Config). renews tsn size max ≡ renews_by r.ticket.own.first_tsn k) f.config r.is;
      restarted = r.restarted;
    }

    -- that the peer has begun again stays noted
    rule-on : (c : Association) → (b.machine.has_restarted ≡ true → c.machine.has_restarted ≡ true) → (call : Arrival) → IsBegunBy d a b call
        → IsBegunBy d a c call
    rule-on c stays (receives call) r = tt
    rule-on c stays (hears h) r = tt
    rule-on c stays (begins tsn max limits) r = r
    rule-on c stays (renews tsn size max) r = record { ticket = r.ticket; echoed = r.echoed; is = r.is; restarted = stays r.restarted }

    pub offered_then : (c : Association) → ArrivesAsOffered d b c → ArrivesAsOffered d a c
    offered_then c g = record {
      arrives =
          follows_then (IsBroughtAs (IsBegunBy d a c) d) Does (halves_of a) (halves_of b) (halves_of c) (
          follows_of (IsBroughtAs (IsBegunBy d a b) d) (IsBroughtAs (IsBegunBy d a c) d) Does
          (λ call h. record { brought = h.brought; rule = rule-on c g.restarted call h.rule }) (halves_of a) (halves_of b) f.arrives
          ) (
          follows_of (IsBroughtAs (IsBegunBy d b c) d) (IsBroughtAs (IsBegunBy d a c) d) Does
          (λ call h. record { brought = h.brought; rule = rule-back c call h.rule }) (halves_of b) (halves_of c) g.arrives
          );
      restarted = λ e. g.restarted (f.restarted e);
      config = g.config ∙ f.config;
      key = g.key ∙ f.key;
      asking = λ e. f.asking (g.asking e);
      peer = λ o e. elim (g.peer o e) [ inl known ↦ f.peer o known | inr offered ↦ inr (offer-back o offered) ];
      own = own-back c.machine.own g.own;
      owes = λ t e. owes-back t (g.owes t e);
      machine = g.machine ∙ f.machine;
      sending = within_then a b c f.sending g.sending;
    }

-- ## The limits

-- what comes leaves them
pub limits_of_offered : {d : List ℕ} {a b : Association} → ArrivesAsOffered d a b → KeepsLimits a b
limits_of_offered f = record { config = f.config; machine = f.machine; sending = f.sending }
