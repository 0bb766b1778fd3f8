-- An association begins by a COOKIE-ECHO, a COOKIE-ACK or an INIT ACK of a datagram: by whose offer.
use Rattle.std.proofs.Common.{◌≡◌, ◌⊎◌, ℕ, ◌<◌, Bool, true, false, List, Ok, Option, Some, None, drop, refl, ap, sym, subst, ◌∙◌, inl, inr, arith}
use Rattle.std.proofs.lemmas.Bool.{false≢true}
use Rattle.std.proofs.lemmas.Option.{none-some, same_Some}
use Rattle.sctp_association.proofs.Arriving.{follows_one, follows_same, follows_then}
use Rattle.sctp_association.specs.Arrivals.{Arrival, Does, Follows, Halves, HasType, IsBroughtAs, by_type}
use Rattle.sctp_association.specs.Beginnings.{AnswersInit, ArrivesAsOffered, Begins, BeginsAnew, BeginsBy, IsBegunBy, IsEchoed, IsOffered}
use Rattle.sctp_association.specs.Beginnings.{IsOwedFor, IsOwnEchoed, begins_by, by_init_ack, by_kept, by_ticket, is_asking, is_standing, renews_by}
use Rattle.sctp_association.specs.Kept.{OwesNoMore}
use Rattle.sctp_association.specs.Lasting.{StaysWithin}
use Rattle.sctp_association.specs.declared.association.Association.{Association}
use Rattle.sctp_association.specs.declared.config.Config.{Config}
use Rattle.sctp_association.specs.declared.inbound.Inbound.{Inbound}
use Rattle.sctp_association.specs.Halves.{halves_of, receiver_of}
use Rattle.sctp_chunks.specs.Framing.{value_at}
use Rattle.sctp_datagram.specs.Carried.{IsChunkOf}
use Rattle.sctp_datagram.specs.declared.datagram.ChunkPlace.{ChunkPlace}
use Rattle.sctp_handshake.specs.Beginnings.{init_ack_checked, init_ack_row, init_checked, init_reply, init_row, on_init_ack}
use Rattle.sctp_handshake.specs.Cookies as cookies
use Rattle.sctp_handshake.specs.Cookies.{cookie_ack_row, cookie_step, on_cookie_ack, on_cookie_echo, renewal_row, repeat_row, row_of, unless_stale}
use Rattle.sctp_handshake.specs.Machines.{Step, Takes, dropped}
use Rattle.sctp_handshake.specs.Offers.{offer_fault}
use Rattle.sctp_handshake.specs.declared.answer.Answer.{Answer}
use Rattle.sctp_handshake.specs.InitValues.{init_in}
use Rattle.sctp_handshake.specs.declared.answer.Reply.{Reply}
use Rattle.sctp_handshake.specs.declared.answer.Reply.TheVariants.{InitAck}
use Rattle.sctp_handshake.specs.declared.answer.Told.{Told}
use Rattle.sctp_handshake.specs.declared.answer.Told.TheVariants.{Connected, Restarted}
use Rattle.sctp_handshake.specs.declared.machine.cookies.CookieRow.{CookieRow}
use Rattle.sctp_handshake.specs.declared.machine.cookies.CookieRow.TheVariants.{Collision, First, Late, Repeat, Restart, Unlisted}
use Rattle.sctp_handshake.specs.declared.init_value.Said.{Said}
use Rattle.sctp_handshake.specs.declared.machine.Machine.{Machine}
use Rattle.sctp_handshake.specs.declared.offer.Offer.{Offer}
use Rattle.sctp_handshake.specs.declared.offer.OfferFault.{OfferFault}
use Rattle.sctp_handshake.specs.declared.offer.OfferFault.TheVariants.{NoTag, SmallWindow}
use Rattle.sctp_handshake.specs.declared.state.State.{State}
use Rattle.sctp_handshake.specs.declared.state.State.TheVariants.{Closed, CookieEchoed, CookieWait, ShutdownAckSent}
use Rattle.sctp_handshake.specs.declared.ticket.Ticket.{Ticket}

-- ## What a step tells and leaves

-- the association has this machine then; what it begins by stays, and so do the limits of what it sends
pub record IsLeft (a : Association) (n : Machine) (b : Association) : Type 0 where
  pub config : b.config ≡ a.config
  pub key : b.key ≡ a.key
  pub machine : b.machine ≡ n
  pub owes : OwesNoMore a b
  pub sending : StaysWithin a b

abbrev is-new : Option Told → Bool
is-new (Some Restarted) = true
is-new _ = false

-- the peer that the step leaves was known, or is so offered
abbrev IsPeer : (Offered : Offer → Type 0) → Machine → Machine → Type 0
IsPeer Offered m n = (o : Offer) → n.peer ≡ Some o → (m.peer ≡ Some o) ⊎ Offered o

-- where it tells that the association stands, this side has asked, or the peer is so offered; where it tells that it began anew, this side is as
-- it says, and the peer is so offered
record Tells (Offered : Offer → Type 0) (Own : Offer → Type 0) (m : Machine) (s : Step) : Type 0 where
  asking : is_asking s.machine.state ≡ true → is_asking m.state ≡ true
  peer : IsPeer Offered m s.machine
  connected : s.answer.told ≡ Some Connected → (o : Offer) → s.machine.peer ≡ Some o
      → ((is_asking m.state ≡ true) × (m.peer ≡ Some o)) ⊎ Offered o
  own : s.answer.told ≡ Some Restarted → Own s.machine.own
  anew : s.answer.told ≡ Some Restarted → (o : Offer) → s.machine.peer ≡ Some o → Offered o
  mine : (s.machine.own ≡ m.own) ⊎ Own s.machine.own
  new : s.answer.told ≡ Some Connected → is_standing m.state ≡ false
  restarted : m.has_restarted ≡ true → s.machine.has_restarted ≡ true
  noted : s.answer.told ≡ Some Restarted → s.machine.has_restarted ≡ true
  limits : s.machine.limits ≡ m.limits

module _ (d : List ℕ) (a b : Association) (Offered Own : Offer → Type 0) (offers : (o : Offer) → Offered o → IsOffered d a o)
    (s : Step) (t : Tells Offered Own a.machine s) (n : Machine) (answer : Answer) (takes : Takes s n answer) where
  abbrev Rule : Arrival → Type 0
  Rule = IsBroughtAs (IsBegunBy d a b) d

  same : (x y : Halves) → y ≡ x → Follows Rule Does x y
  same x y e = follows_same Rule Does x y e

  known : (o : Offer) → n.peer ≡ Some o → s.machine.peer ≡ Some o
  known o e = sym (ap (λ (k : Machine). k.peer) takes.machine) ∙ e

  -- a chunk of this type comes, by which an association begins
  module _ (typ : ℕ) (has : HasType d typ) (begins' : (typ ≡ 10) ⊎ (typ ≡ 11)) where
    receiver-begins : (p : Option Offer) (x y : Halves) → ((o : Offer) → p ≡ Some o → IsOffered d a o) → Begins p a.config x y → Follows Rule Does x y
    receiver-begins None x y of e = same x y e
    receiver-begins (Some o) x y of does =
        follows_one Rule Does (begins_by o a.config) x y
        (record { brought = by_type typ has begins'; rule = record { peer = o; offered = of o refl; is = refl } }) does

    is-connected : s.answer.told ≡ Some Connected → (x y : Halves) → (is_standing a.machine.state ≡ false → x.receiver ≡ None)
        → (x.receiver ≡ None → Begins n.peer a.config x y) → Follows Rule Does x y
    is-connected told x y free b =
        receiver-begins n.peer x y (λ o e. elim (t.connected told o (known o e)) [
          | inl kept ↦ by_kept kept.0 kept.1
          | inr offered ↦ offers o offered
        ]) (b (free (t.new told)))

    -- where it tells that it began anew, a COOKIE-ECHO came
    module _ (renewed : s.answer.told ≡ Some Restarted → HasType d 10
        × ((own : Offer) → Own own → b.machine.has_restarted ≡ true → Rule (renews_by own.first_tsn a.config))) (is : b.machine ≡ s.machine) where
      is-anew : s.answer.told ≡ Some Restarted → (x y : Halves) → BeginsAnew n a.config x y → Follows Rule Does x y
      is-anew told x y k =
          let noted : b.machine.has_restarted ≡ true = ap (λ (j : Machine). j.has_restarted) is ∙ t.noted told in
          let own : Own n.own = subst (λ (k : Machine). Own k.own) (sym takes.machine) (t.own told) in
          let of : (o : Offer) → n.peer ≡ Some o → IsOffered d a o =
          λ o e. offers o (t.anew told o (known o e)) in
          follows_then Rule Does x k.middle y
          (follows_one Rule Does (renews_by n.own.first_tsn a.config) x k.middle ((renewed told).1 n.own own noted) k.renewed)
          (receiver-begins n.peer k.middle y of k.begun)

      begun : (o : Option Told) → s.answer.told ≡ o → (x y : Halves) → (is_standing a.machine.state ≡ false → x.receiver ≡ None)
          → BeginsBy o n a.config x y → Follows Rule Does x y
      begun None e x y free b = same x y b
      begun (Some Connected) e x y free b = is-connected e x y free b
      begun (Some Restarted) e x y free b = is-anew e x y b
      begun (Some _) e x y free b = same x y b

  -- then what stays
  module _ (kept : IsLeft a n b) (echoes : (o : Offer) → Own o → IsOwnEchoed d a.key o) where
    so : Follows Rule Does (halves_of a) (halves_of b) → ArrivesAsOffered d a b
    so arrives =
        let is : b.machine ≡ s.machine = kept.machine ∙ takes.machine in
        let own : b.machine.own ≡ s.machine.own = ap (λ (k : Machine). k.own) is in
        record {
          arrives = arrives;
          restarted = λ e. ap (λ (k : Machine). k.has_restarted) is ∙ t.restarted e;
          config = kept.config;
          key = kept.key;
          asking = λ e. t.asking (subst (λ (k : Machine). is_asking k.state ≡ true) is e);
          peer = λ o e. elim (t.peer o (sym (ap (λ (k : Machine). k.peer) is) ∙ e)) [ inl old ↦ inl old | inr offered ↦ inr (offers o offered) ];
          own = record {
            base = s.machine.own;
            is = elim t.mine [ inl same ↦ inl same | inr echoed ↦ inr (echoes s.machine.own echoed) ];
            tag = inl own;
          };
          owes = λ k e. inl (kept.owes k e);
          machine = ap (λ (k : Machine). k.limits) is ∙ t.limits;
          sending = kept.sending;
        }

    begun-so : (typ : ℕ) → HasType d typ → (typ ≡ 10) ⊎ (typ ≡ 11)
        → (s.answer.told ≡ Some Restarted → HasType d 10
        × ((own : Offer) → Own own → b.machine.has_restarted ≡ true → Rule (renews_by own.first_tsn a.config)))
        → (is_standing a.machine.state ≡ false → a.inbound ≡ None)
        → BeginsBy answer.told n a.config (halves_of a) (halves_of b) → ArrivesAsOffered d a b
    begun-so typ has begins' renewed free b' =
        so (begun typ has begins' renewed (kept.machine
        ∙ takes.machine) answer.told (sym (ap (λ (k : Answer). k.told) takes.answer)) (halves_of a) (halves_of b)
        (λ e. ap (λ (i : Option Inbound). receiver_of i) (free e)) b')

-- ## A COOKIE-ECHO

module _ (t : Ticket) (m : Machine) where
  abbrev OfTicket : Step → Type 0
  OfTicket s = Tells (λ o. t.peer ≡ o) (λ own. own ≡ t.own) m s

  -- it tells nothing, and leaves the machine
  cookie-same : (s : Step) → s.machine ≡ m → s.answer.told ≡ None → OfTicket s
  cookie-same s is none = record {
    asking = λ e. subst (λ (k : Machine). is_asking k.state ≡ true) is e;
    peer = λ o e. inl (sym (ap (λ (k : Machine). k.peer) is) ∙ e);
    connected = λ e. absurd (none-some Connected (sym none ∙ e));
    own = λ e. absurd (none-some Restarted (sym none ∙ e));
    anew = λ e. absurd (none-some Restarted (sym none ∙ e));
    mine = inl (ap (λ (k : Machine). k.own) is);
    new = λ e. absurd (none-some Connected (sym none ∙ e));
    restarted = λ e. ap (λ (k : Machine). k.has_restarted) is ∙ e;
    noted = λ e. absurd (none-some Restarted (sym none ∙ e));
    limits = ap (λ (k : Machine). k.limits) is;
  }

  cookie-begins : (is_standing m.state ≡ false) → OfTicket (cookies.begins t m)
  cookie-begins new = record {
    asking = λ e. absurd (false≢true e);
    peer = λ o e. inr (same_Some t.peer o e);
    connected = λ _ o e. inr (same_Some t.peer o e);
    own = λ _. refl;
    anew = λ _ o e. same_Some t.peer o e;
    mine = inr refl;
    new = λ _. new;
    restarted = λ e. e;
    noted = λ e. absurd (false≢true (ap is-new e));
    limits = refl;
  }

  cookie-restarts : OfTicket (cookies.restarts t m)
  cookie-restarts = record {
    asking = λ e. absurd (false≢true e);
    peer = λ o e. inr (same_Some t.peer o e);
    connected = λ _ o e. inr (same_Some t.peer o e);
    own = λ _. refl;
    anew = λ _ o e. same_Some t.peer o e;
    mine = inr refl;
    new = λ e. absurd (false≢true (sym (ap is-new e)));
    restarted = λ _. refl;
    noted = λ _. refl;
    limits = refl;
  }

  cookie-renews : (s : State) → m.state ≡ s → OfTicket (renewal_row s t m)
  cookie-renews Closed is = cookie-begins (ap is_standing is)
  cookie-renews CookieWait is = cookie-begins (ap is_standing is)
  cookie-renews CookieEchoed is = cookie-begins (ap is_standing is)
  cookie-renews ShutdownAckSent is = cookie-same (renewal_row ShutdownAckSent t m) refl refl
  cookie-renews _ is = cookie-restarts

  -- both tags match: the association stands that this side has asked for
  cookie-repeats : (s : State) → m.state ≡ s → OfTicket (repeat_row s m)
  cookie-repeats CookieEchoed is = record {
    asking = λ e. absurd (false≢true e);
    peer = λ o e. inl e;
    connected = λ _ o e. inl (ap is_asking is, e);
    own = λ e. absurd (false≢true (ap is-new e));
    anew = λ e. absurd (false≢true (ap is-new e));
    mine = inl refl;
    new = λ _. ap is_standing is;
    restarted = λ e. e;
    noted = λ e. absurd (false≢true (ap is-new e));
    limits = refl;
  }
  cookie-repeats _ is = cookie-same _ refl refl

  cookie-unless : (stale : Bool) (s : Step) → OfTicket s → OfTicket (unless_stale stale m s)
  cookie-unless true s h = cookie-same (unless_stale true m s) refl refl
  cookie-unless false s h = h

  cookie-row : (r : CookieRow) (stale : Bool) → OfTicket (cookie_step r t stale m)
  cookie-row First stale = cookie-unless stale (renewal_row m.state t m) (cookie-renews m.state refl)
  cookie-row Restart stale = cookie-unless stale (renewal_row m.state t m) (cookie-renews m.state refl)
  cookie-row Collision stale = cookie-unless stale (renewal_row m.state t m) (cookie-renews m.state refl)
  cookie-row Late stale = cookie-unless stale (dropped m) (cookie-same (dropped m) refl refl)
  cookie-row Repeat stale = cookie-repeats m.state refl
  cookie-row Unlisted stale = cookie-unless stale (dropped m) (cookie-same (dropped m) refl refl)

module _ (d : List ℕ) (p : ChunkPlace) (own : IsChunkOf d p) (a b : Association) (n : Machine) (answer : Answer) where
  pub cookie_offered : p.typ ≡ 10 → (t : Ticket) → IsEchoed d a.key t → (stale : Bool) → Takes (on_cookie_echo t stale a.machine) n answer
      → (is_standing a.machine.state ≡ false → a.inbound ≡ None) → BeginsBy answer.told n a.config (halves_of a) (halves_of b) → IsLeft a n b
      → ArrivesAsOffered d a b
  cookie_offered typ t echoed stale takes free led left =
      let has : HasType d 10 = record { place = p; own = own; is = typ } in
      begun-so d a b (λ o. t.peer ≡ o) (λ mine. mine ≡ t.own) (λ o e. by_ticket t echoed e) (on_cookie_echo t stale a.machine)
      (cookie-row t a.machine (row_of t a.machine) stale) n answer takes left (λ o is. (t, echoed, sym is)) 10 has (inl refl)
      (λ told. (
        has,
        λ mine is noted. record {
          brought = by_type 10 has refl;
          rule = record { ticket = t; echoed = echoed; is = ap (λ (o : Offer). renews_by o.first_tsn a.config) is; restarted = noted };
        },
      )) free led

  -- ## A COOKIE-ACK

  ack-tells : (s : State) (m : Machine) → m.state ≡ s → Tells (λ o. ⊥) (λ mine. ⊥) m (cookie_ack_row s m)
  ack-tells CookieEchoed m is = record {
    asking = λ e. absurd (false≢true e);
    peer = λ o e. inl e;
    connected = λ _ o e. inl (ap is_asking is, e);
    own = λ e. absurd (false≢true (ap is-new e));
    anew = λ e. absurd (false≢true (ap is-new e));
    mine = inl refl;
    new = λ _. ap is_standing is;
    restarted = λ e. e;
    noted = λ e. absurd (false≢true (ap is-new e));
    limits = refl;
  }
  ack-tells _ m is = record {
    asking = λ e. e;
    peer = λ o e. inl e;
    connected = λ e. absurd (none-some Connected e);
    own = λ e. absurd (none-some Restarted e);
    anew = λ e. absurd (none-some Restarted e);
    mine = inl refl;
    new = λ e. absurd (none-some Connected e);
    restarted = λ e. e;
    noted = λ e. absurd (none-some Restarted e);
    limits = refl;
  }

  pub ack_offered : p.typ ≡ 11 → Takes (on_cookie_ack a.machine) n answer → (is_standing a.machine.state ≡ false → a.inbound ≡ None)
      → BeginsBy answer.told n a.config (halves_of a) (halves_of b) → IsLeft a n b → ArrivesAsOffered d a b
  ack_offered typ takes free led left =
      let has : HasType d 11 = record { place = p; own = own; is = typ } in
      let tells : Tells (λ o. ⊥) (λ mine. ⊥) a.machine (on_cookie_ack a.machine) = ack-tells a.machine.state a.machine refl in
      begun-so d a b (λ o. ⊥) (λ mine. ⊥) (λ o e. absurd e) (on_cookie_ack a.machine) tells n answer takes left (λ o never. absurd never) 11 has (inr refl)
      (λ told. absurd (tells.own told)) free led

-- ## An INIT ACK

-- it tells of nothing that begins, and the peer that it leaves was known, or made this offer where this side has asked
record Hears (offer : Offer) (m : Machine) (s : Step) : Type 0 where
  asking : is_asking s.machine.state ≡ true → is_asking m.state ≡ true
  peer : IsPeer (λ o. (is_asking m.state ≡ true) × (offer ≡ o)) m s.machine
  quiet : (n : Machine) (c : Config) (x y : Halves) → BeginsBy s.answer.told n c x y → y ≡ x
  own : s.machine.own ≡ m.own
  restarted : s.machine.has_restarted ≡ m.has_restarted
  limits : s.machine.limits ≡ m.limits

init-ack-checked : (f : Option OfferFault) (offer : Offer) (m : Machine) → m.state ≡ CookieWait → Hears offer m (init_ack_checked f offer m)
init-ack-checked None offer m is = record {
  asking = λ e. ap is_asking is;
  peer = λ o e. inr (ap is_asking is, same_Some offer o e);
  quiet = λ n c x y b. b;
  own = refl;
  restarted = refl;
  limits = refl;
}
init-ack-checked (Some SmallWindow) offer m is = record {
  asking = λ e. e;
  peer = λ o e. inl e;
  quiet = λ n c x y b. b;
  own = refl;
  restarted = refl;
  limits = refl;
}
init-ack-checked (Some _) offer m is = record {
  asking = λ e. absurd (false≢true e);
  peer = λ o e. absurd (none-some o e);
  quiet = λ n c x y b. b;
  own = refl;
  restarted = refl;
  limits = refl;
}

init-ack-hears : (s : State) (offer : Offer) (m : Machine) → m.state ≡ s → Hears offer m (init_ack_row s offer m)
init-ack-hears CookieWait offer m is = init-ack-checked (offer_fault offer) offer m is
init-ack-hears _ offer m is = record { asking = λ e. e; peer = λ o e. inl e; quiet = λ n c x y b. b; own = refl; restarted = refl; limits = refl }

module _ (d : List ℕ) (a b : Association) (n : Machine) (answer : Answer) (offer : Offer) where
  pub init_ack_offered : AnswersInit d offer → Takes (on_init_ack offer a.machine) n answer → BeginsBy answer.told n a.config (halves_of a) (halves_of b)
      → IsLeft a n b → ArrivesAsOffered d a b
  init_ack_offered answers takes begun left =
      let h : Hears offer a.machine (on_init_ack offer a.machine) = init-ack-hears a.machine.state offer a.machine refl in
      let is : b.machine ≡ (on_init_ack offer a.machine).machine = left.machine ∙ takes.machine in
      let told = subst (λ (o : Option Told). BeginsBy o n a.config (halves_of a) (halves_of b)) (ap (λ (k : Answer). k.told) takes.answer) begun in
      record {
        arrives = follows_same (IsBroughtAs (IsBegunBy d a b) d) Does (halves_of a) (halves_of b) (h.quiet n a.config (halves_of a) (halves_of b) told);
        restarted = λ e. ap (λ (j : Machine). j.has_restarted) is ∙ h.restarted ∙ e;
        config = left.config;
        key = left.key;
        own = record { base = a.machine.own; is = inl refl; tag = inl (ap (λ (j : Machine). j.own) is ∙ h.own) };
        owes = λ t e. inl (left.owes t e);
        machine = ap (λ (j : Machine). j.limits) is ∙ h.limits;
        sending = left.sending;
        asking = λ e. h.asking (subst (λ (j : Machine). is_asking j.state ≡ true) is e);
        peer = λ o e. elim (h.peer o (sym (ap (λ (j : Machine). j.peer) is) ∙ e)) [
          | inl old ↦ inl old
          | inr made ↦ inr (by_init_ack made.0 (subst (AnswersInit d) made.1 answers))
        ];
      }

-- ## An INIT

-- the ticket of a reply
abbrev ticket-in : Option Reply → Option Ticket
ticket-in (Some (InitAck t)) = Some t
ticket-in _ = None

-- it has the offer of the peer, and the first TSN of the machine
record IsOfInit (peer : Offer) (tag : ℕ) (m : Machine) (t : Ticket) : Type 0 where
  offer : t.peer ≡ peer
  tsn : t.own.first_tsn ≡ m.own.first_tsn
  tag-is : (t.own.tag ≡ m.own.tag) ⊎ (t.own.tag ≡ tag)

abbrev IsReplyTo : Offer → ℕ → Machine → Option Reply → Type 0
IsReplyTo peer tag m o = ((t : Ticket) × (ticket-in o ≡ Some t) × IsOfInit peer tag m t) ⊎ (ticket-in o ≡ None)

row-offer : (s : State) (peer : Offer) (tag : ℕ) (m : Machine) → IsReplyTo peer tag m (init_row s peer tag m)
row-offer ShutdownAckSent peer tag m = inr refl
row-offer CookieWait peer tag m = inl (_, refl, record { offer = refl; tsn = refl; tag-is = inl refl })
row-offer CookieEchoed peer tag m = inl (_, refl, record { offer = refl; tsn = refl; tag-is = inl refl })
row-offer _ peer tag m = inl (_, refl, record { offer = refl; tsn = refl; tag-is = inr refl })

checked-offer : (f : Option OfferFault) (peer : Offer) (tag : ℕ) (m : Machine) → IsReplyTo peer tag m (init_checked f peer tag m)
checked-offer None peer tag m = row-offer m.state peer tag m
checked-offer (Some NoTag) peer tag m = inr refl
checked-offer (Some _) peer tag m = inr refl

answers-offer : (peer : Offer) (tag : ℕ) (m : Machine) (t : Ticket) → Some (InitAck t) ≡ init_reply peer tag m → IsOfInit peer tag m t
answers-offer peer tag m t e = elim (checked-offer (offer_fault peer) peer tag m) [
  | inl found ↦ subst (IsOfInit peer tag m) (sym (same_Some t found.0 (ap ticket-in e ∙ found.1))) found.2
  | inr none ↦ absurd (none-some t (sym none ∙ sym (ap ticket-in e)))
]

module _ (d : List ℕ) (p : ChunkPlace) (own : IsChunkOf d p) (typ : p.typ ≡ 1) (said : Said) (a : Association) where
  -- a ticket that is due was due before, or answers the INIT
  pub init_answered : init_in (value_at (drop p.at d)) ≡ Ok said → (tag : ℕ) → 0 < tag → (r : Reply) → Some r ≡ init_reply said.offer tag a.machine
      → (Before : Type 0) (t : Ticket) → Before ⊎ (r ≡ InitAck t) → Before ⊎ IsOwedFor d a t
  init_answered reads tag some r e Before t (inl before) = inl before
  init_answered reads tag some r e Before t (inr is) =
      let of = answers-offer said.offer tag a.machine t (ap Some (sym is) ∙ e) in
      inr (record {
        offered =
            record { place = p; own = own; typ = typ; cookie = said.cookie; reads = reads ∙ ap (λ (o : Offer). Ok (record said { offer = o })) (sym of.offer) };
        own = a.machine.own;
        is = record { base = a.machine.own; is = inl refl; tag = inl refl };
        tsn = of.tsn;
        tag = elim of.tag-is [ inl same ↦ inl same | inr fresh ↦ inr (omega (arith, some, fresh)) ];
      })
