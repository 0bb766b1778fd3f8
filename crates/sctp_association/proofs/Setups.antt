-- Two associations as each knows the other, from `new` on.
use Rattle.std.proofs.Common.{◌≡◌, ◌⊎◌, ℕ, ◌++◌, true, false, List, [], ◌∷◌, arith, refl, ap, sym, subst, ◌∙◌, inl, inr}
use Rattle.std.proofs.lemmas.Bool.{false≢true}
use Rattle.std.proofs.lemmas.List.{append-nil}
use Rattle.std.proofs.lemmas.List.Elements.{Contains-append_right}
use Rattle.std.proofs.lemmas.Option.{none-some}
use Rattle.std.specs.Prelude.{Contains}
use Rattle.sctp_association.proofs.HostCalls.{each-datagram-brings}
use Rattle.sctp_association.proofs.Links.{each-one-life-begins, each-one-life-goes-on, each-one-life-turns}
use Rattle.sctp_association.proofs.Lives.{ack_read, deed_is_known, first_or_not, init_read, life_begins, sealed_of}
use Rattle.sctp_association.proofs.OneLife.{each-link-delivers-any}
use Rattle.sctp_association.proofs.OneLife.{each-link-delivers-young}
use Rattle.sctp_association.proofs.Rules.{brought-steps, calls-by}
use Rattle.sctp_association.specs.Ages.{AreYoungActs, aged_each, made_by_one, made_by_other}
use Rattle.sctp_association.specs.Arrivals.{Arrival, Does, Halves, IsBroughtAs, Steps, begins, hears, receives, renews}
use Rattle.sctp_association.specs.Beginnings.{AnswersInit, ArrivesAsOffered, BeginsToAsk, HasAsked, IsBegunBy, IsEchoed, IsKeptButMtu, IsOffered, IsOwnOffer}
use Rattle.sctp_association.specs.Beginnings.{HasFreshTag, IsOwnEchoed, KeepsPeer, OffersInit, by_init_ack, by_kept, by_ticket}
use Rattle.sctp_association.specs.Causes.{TellsStale}
use Rattle.sctp_association.specs.declared.association.Association.{Association}
use Rattle.sctp_association.specs.declared.config.Config.{Config}
use Rattle.sctp_association.specs.declared.due.Due.{Due}
use Rattle.sctp_association.specs.Halves.{halves_of}
use Rattle.sctp_association.specs.HostCalls.{ActsEach, Log, host_of}
use Rattle.sctp_association.specs.Hosts.{Act, AreByRule, Host, Way, asks as asked, handles as hands, polls, reads_on}
use Rattle.sctp_association.specs.Kept.{ticket_due}
use Rattle.sctp_association.specs.Links.{AreActsByRule, Party, host_at, party}
use Rattle.sctp_association.specs.Lives.{Deed, DoesDeed, Life, asks, handles, life_after, new_life, resizes, stays, writes}
use Rattle.sctp_association.specs.Offering.{OffersAsDue}
use Rattle.sctp_association.specs.OneLife.{Brought, IsOneLife, brought_each, brought_in, came_to_one}
use Rattle.sctp_association.specs.Reached.{limits_of}
use Rattle.sctp_association.specs.Setups.{AreQuiet, AreSetUp, AreSetUpBy, AreSetUpByActs, BringsOwnCookies, CameFrom, EachDatagramKeeps, EachQuietCallKeeps}
use Rattle.sctp_association.specs.Setups.{EachSetUpDelivers, EachSetUpDeliversYoung, EachSetUpTurns, EachTwoAreSetUp, EachWrittenKeeps, IsSetUp, OfferTsn}
use Rattle.sctp_association.specs.Setups.{ReceivesBy}
use Rattle.sctp_association.specs.Setups.{is_silent}
use Rattle.sctp_handshake.specs.declared.machine.Machine.{Machine}
use Rattle.sctp_handshake.specs.declared.offer.Offer.{Offer}
use Rattle.sctp_handshake.specs.declared.ticket.Ticket.{Ticket}
use Rattle.sctp_receiver.specs.declared.receiver.limits.Limits.{Limits}

-- ## One of them

module _ (out back : Way) (l : Life) (x y : Party) (h : IsSetUp out back l x) where
  same-sent : y.log.sent ≡ x.log.sent → OfferTsn out.tsn y.log.sent
  same-sent e d c o of = h.sent d (subst (λ (s : List (List ℕ)). Contains s d) e c) o of

  kept : KeepsPeer x.association y.association → y.log.sent ≡ x.log.sent → IsSetUp out back l y
  kept k e = record {
    knows = deed_is_known stays x.association y.association l k h.knows;
    own = ap (λ (o : Offer). o.first_tsn) k.machine.own ∙ h.own;
    due = λ t owed. h.due t (k.owes t owed);
    sealed = h.sealed;
    sent = same-sent e;
    peer = λ o is. h.peer o (k.machine.peer o is);
    config = subst (ReceivesBy back) (sym k.config) h.config;
  }

  has-asked : BeginsToAsk x.association y.association → HasAsked y.association → y.log.sent ≡ x.log.sent → IsSetUp out back l y
  has-asked k is e = record {
    knows = deed_is_known asks x.association y.association l (k, is) h.knows;
    own = ap (λ (m : Machine). m.own.first_tsn) k.machine ∙ h.own;
    due = λ t owed. absurd (none-some t (sym (ap ticket_due is.1) ∙ owed));
    sealed = h.sealed;
    sent = same-sent e;
    peer = λ o known. h.peer o (sym (ap (λ (m : Machine). m.peer) k.machine) ∙ known);
    config = subst (ReceivesBy back) (sym k.config) h.config;
  }

  resized : IsKeptButMtu x.association y.association → y.log.sent ≡ x.log.sent → IsSetUp out back l y
  resized k e = record {
    knows = deed_is_known resizes x.association y.association l k h.knows;
    own = ap (λ (m : Machine). m.own.first_tsn) k.machine ∙ h.own;
    due = λ t owed. h.due t (sym (ap (λ (d : Due). ticket_due d.alone) k.due) ∙ owed);
    sealed = h.sealed;
    sent = same-sent e;
    peer = λ o known. h.peer o (sym (ap (λ (m : Machine). m.peer) k.machine) ∙ known);
    config = record {
      most = ap (λ (c : Config). c.max_message_size) k.config ∙ h.config.most;
      limits = ap limits_of k.config ∙ h.config.limits;
    };
  }

  -- a datagram that is written offers the first TSN of this side
  module _ (d : List ℕ) (w : OffersAsDue x.association d) where
    offered-own : (o : Offer) → OffersInit d o ⊎ AnswersInit d o → o.first_tsn ≡ out.tsn
    offered-own o (inl of) = init_read x.association d w o of ∙ h.own
    offered-own o (inr of) = let t = ack_read x.association d w o of in t.2 ∙ h.due t.0 t.1

    wrote : KeepsPeer x.association y.association → y.log.sent ≡ d ∷ x.log.sent → IsSetUp out back (life_after (writes d) x.association l) y
    wrote k e = record {
      knows = deed_is_known (writes d) x.association y.association l (k, w) h.knows;
      own = ap (λ (o : Offer). o.first_tsn) k.machine.own ∙ h.own;
      due = λ t owed. h.due t (k.owes t owed);
      sealed = sealed_of (λ t. t.own.first_tsn ≡ out.tsn) (ticket_due x.association.due.alone) l.sealed h.due h.sealed;
      sent = λ c there o of. elim (first_or_not d x.log.sent c (subst (λ (s : List (List ℕ)). Contains s c) e there)) [
        | inl is ↦ offered-own o (subst (λ (k : List ℕ). OffersInit k o ⊎ AnswersInit k o) (sym is) of)
        | inr before ↦ h.sent c before o of
      ];
      peer = λ o is. h.peer o (k.machine.peer o is);
      config = subst (ReceivesBy back) (sym k.config) h.config;
    }

-- ## A datagram of the peer

module _ (out back : Way) (life : Life) (d : List ℕ) (a b : Association) (l : Log) (z : Party) (h : IsSetUp out back life (party a l))
    (peer-sent : OfferTsn back.tsn z.log.sent) (from : CameFrom life z) (handed : Contains z.log.sent d) (f : ArrivesAsOffered d a b)
    (own-cookies : BringsOwnCookies life d) where
  -- a ticket that is echoed is one that this side has sealed
  was-sealed : (t : Ticket) → IsEchoed d a.key t → Contains life.sealed t
  was-sealed t e = own-cookies t (subst (λ (k : List ℕ). IsEchoed d k t) h.knows.key e)

  own-tsn : (o : Offer) → IsOwnOffer d a o → o.first_tsn ≡ out.tsn
  own-tsn o w = tag-tsn w.tag ∙ base-tsn w.is
    where
      base-tsn : (w.base ≡ a.machine.own) ⊎ IsOwnEchoed d a.key w.base → w.base.first_tsn ≡ out.tsn
      base-tsn (inl same) = ap (λ (k : Offer). k.first_tsn) same ∙ h.own
      base-tsn (inr e) = sym (ap (λ (k : Offer). k.first_tsn) e.2) ∙ h.sealed e.0 (was-sealed e.0 e.1)

      -- a fresh tag leaves it
      tag-tsn : (o ≡ w.base) ⊎ (TellsStale d × HasFreshTag w.base o) → o.first_tsn ≡ w.base.first_tsn
      tag-tsn (inl e) = ap (λ (k : Offer). k.first_tsn) e
      tag-tsn (inr t) = ap (λ (k : Offer). k.first_tsn) t.1.same

  -- by whose offer the association may begin, of that the first TSN is the peer's
  offered-tsn : (o : Offer) → IsOffered d a o → o.first_tsn ≡ back.tsn
  offered-tsn o (by_ticket t e is) =
      let came = h.knows.sealed t (was-sealed t e) in
      sym (ap (λ (k : Offer). k.first_tsn) is) ∙ peer-sent came.0 (from came.0 came.1) t.peer (inl came.2)
  offered-tsn o (by_init_ack so e) = peer-sent d handed o (inr e)
  offered-tsn o (by_kept so e) = h.peer o e

  handled : IsSetUp out back (life_after (handles d) a life) (party b l)
  handled = record {
    knows = deed_is_known (handles d) a b life f h.knows;
    own = own-tsn b.machine.own f.own;
    due = λ t owed. elim (f.owes t owed) [ inl before ↦ h.due t before | inr w ↦ w.tsn ∙ own-tsn w.own w.is ];
    sealed = h.sealed;
    sent = h.sent;
    peer = λ o e. elim (f.peer o e) [ inl known ↦ h.peer o known | inr offered ↦ offered-tsn o offered ];
    config = subst (ReceivesBy back) (sym f.config) h.config;
  }

  came-too : CameFrom (life_after (handles d) a life) z
  came-too c there = elim (first_or_not d life.came c there) [
    | inl is ↦ subst (λ (k : List ℕ). Contains z.log.sent k) is handed
    | inr before ↦ from c before
  ]

  -- the numbers of a call that begins a receiver
  abbrev tsn-of : Arrival → ℕ
  tsn-of (begins tsn max limits) = tsn
  tsn-of _ = 0

  abbrev most-of : Arrival → ℕ
  most-of (begins tsn max limits) = max
  most-of _ = 0

  abbrev limits-by : Limits → Arrival → Limits
  limits-by other (begins tsn max limits) = limits
  limits-by other _ = other

  -- each call is of one life, where the peer has not begun again
  is-of-one : b.machine.has_restarted ≡ false → (call : Arrival) (x y : Halves) → IsBegunBy d a b call → Does call x y → IsOneLife back call x
  is-of-one none (receives c) x y r e = tt
  is-of-one none (hears c) x y r e = tt
  is-of-one none (begins tsn max limits) x y r e = (
    e.0,
    (
      ap tsn-of r.is ∙ offered-tsn r.peer r.offered,
      (ap most-of r.is ∙ h.config.most, ap (limits-by limits) r.is ∙ h.config.limits),
    ),
  )
  is-of-one none (renews tsn size max) x y r e = absurd (false≢true (sym none ∙ r.restarted))

  are-of-one : b.machine.has_restarted ≡ false → (calls : List Arrival) (x y : Halves) (r : Steps (IsBroughtAs (IsBegunBy d a b) d) Does calls x y)
      → AreByRule (IsOneLife back) d calls x y (brought-steps d a b calls x y r)
  are-of-one none calls x y r = calls-by d a b (IsOneLife back) (is-of-one none) calls x y r

-- ## Both

quiet-acts : (R : Arrival → Halves → Type 0) (peer : List (List ℕ)) (acts : List Act) (x y : Host) (done : ActsEach peer acts x y) → AreQuiet acts
    → AreActsByRule R peer acts x y done × (brought_each peer acts x y done ≡ [])
quiet-acts R peer [] x y done q = (tt, refl)
quiet-acts R peer (asked call ∷ acts) x y done q = let g = quiet-acts R peer acts done.0 y done.1.1 q.1 in ((tt, g.0), g.1)
quiet-acts R peer (reads_on stream ∷ acts) x y done q = let g = quiet-acts R peer acts done.0 y done.1.1 q.1 in ((tt, g.0), g.1)
quiet-acts R peer (polls is_sent datagram ∷ acts) x y done q = let g = quiet-acts R peer acts done.0 y done.1.1 q.1 in ((tt, g.0), g.1)
quiet-acts R peer (hands datagram ∷ acts) x y done q = absurd (false≢true q.0)

module _ (f b : Way) (x y z : Party) (set : AreSetUp f b x z) (acts : List Act) (done : ActsEach z.log.sent acts (host_at x) (host_at y))
    (acted : AreActsByRule (IsOneLife b) z.log.sent acts (host_at x) (host_at y) done) (more : List Brought)
    (brings : brought_each z.log.sent acts (host_at x) (host_at y) done ≡ more)
    (longer : (d : List ℕ) → Contains x.log.sent d → Contains y.log.sent d) where
  set-up-by : (deed : Deed) → IsSetUp f b (life_after deed x.association set.life) y → CameFrom (life_after deed x.association set.life) z
      → AreSetUpBy f b x y z set deed more
      (AreYoungActs f (made_by_other f b x z set.link) (host_at z) acts (host_at x) (host_at y) done)
      (aged_each (made_by_one f b x z set.link) z.log.sent acts (host_at x) (host_at y) done)
  set-up-by deed is from =
      let g = each-one-life-goes-on f b acts x y z set.link done in
      record {
        next = record {
          life = life_after deed x.association set.life;
          peer_life = set.peer_life;
          one_is = is;
          other_is = set.other_is;
          came = from;
          came_back = λ d c. longer d (set.came_back d c);
          link = g.0;
          once = g.1 set.once acted;
        };
        life = refl;
        peer_life = refl;
        came = g.2 ∙ ap (λ (m : List Brought). came_to_one f b x z set.link ++ m) brings;
        came_back = g.3;
        young = g.4;
        made_then = g.5;
        made_back = g.6;
      }

pub each-quiet-keeps : EachQuietCallKeeps
each-quiet-keeps f b deed acts x y z set silent does quiet done same = by deed silent does
  where
    q : AreActsByRule (IsOneLife b) z.log.sent acts (host_at x) (host_at y) done × (brought_each z.log.sent acts (host_at x) (host_at y) done ≡ [])
    q = quiet-acts (IsOneLife b) z.log.sent acts (host_at x) (host_at y) done quiet

    longer : (d : List ℕ) → Contains x.log.sent d → Contains y.log.sent d
    longer d c = subst (λ (s : List (List ℕ)). Contains s d) (sym same) c

    by : (deed : Deed) → is_silent deed ≡ true → DoesDeed deed x.association y.association → AreSetUpByActs f b x y z set deed acts done
    by stays e k = set-up-by f b x y z set acts done q.0 [] q.1 longer stays (kept f b set.life x y set.one_is k same) set.came
    by asks e k = set-up-by f b x y z set acts done q.0 [] q.1 longer asks (has-asked f b set.life x y set.one_is k.0 k.1 same) set.came
    by resizes e k = set-up-by f b x y z set acts done q.0 [] q.1 longer resizes (resized f b set.life x y set.one_is k same) set.came
    by (writes d) e k = absurd (false≢true e)
    by (handles d) e k = absurd (false≢true e)

pub each-written-keeps : EachWrittenKeeps
each-written-keeps f b d x y z set k done more =
    set-up-by f b x y z set (polls true d ∷ []) done (tt, tt) [] refl
    (λ c there. subst (λ (s : List (List ℕ)). Contains s c) (sym more) (Contains-append_right (d ∷ []) x.log.sent c there)) (writes d)
    (wrote f b set.life x y set.one_is d k.1 k.0 more) set.came

pub each-datagram-keeps : EachDatagramKeeps
each-datagram-keeps f b d a c l z set handed o own none =
    let x = party a l in
    let y = party c l in
    let calls = o.arrives.calls in
    let run = brought-steps d a c calls (halves_of a) (halves_of c) o.arrives.run in
    let done = each-datagram-brings d a c l z.log.sent handed (record { calls = calls; run = run }) in
    let rule = are-of-one f b set.life d a c l z set.one_is set.other_is.sent set.came handed o own none calls (halves_of a) (halves_of c) o.arrives.run in
    let by = set-up-by f b x y z set (hands d ∷ []) (host_of c l, (done.0, refl)) (done.1 b rule, tt) (brought_in d calls (halves_of a) (halves_of c) run)
    (append-nil _ ∙ done.2) (λ c there. there) (handles d) (handled f b set.life d a c l z set.one_is set.other_is.sent set.came handed o own)
    (came-too f b set.life d a c l z set.one_is set.other_is.sent set.came handed o own) in (
      run,
      record {
        next = by.next;
        life = by.life;
        peer_life = by.peer_life;
        came = by.came;
        came_back = by.came_back;
        young = λ before now. by.young before (done.3 f (made_by_other f b x z set.link) (host_at z) now, tt, tt);
        made_then = by.made_then;
        made_back = by.made_back;
      },
    )

pub each-two-are-set-up : EachTwoAreSetUp
each-two-are-set-up f b x z c peer-c key peer-key one other made peer-made by peer-by =
    let begun = each-one-life-begins f b x z one other in
    let nothing : (h : Host) (w : Way) (s : List (List ℕ)) → s ≡ []
    → OfferTsn w.tsn s = λ h w s none d there. absurd (omega (arith, (subst (λ (s : List (List ℕ)). Contains s d) none there).1)) in
    let set : AreSetUp f b x z = record {
      life = new_life key;
      peer_life = new_life peer-key;
      one_is = record {
        knows = life_begins c key f.tsn x.association made;
        own = made.own;
        due = λ t e. absurd (none-some t (sym made.owes ∙ e));
        sealed = λ t there. absurd (omega (arith, there.1));
        sent = nothing (host_at x) f x.log.sent (ap (λ (h : Host). h.sent) one);
        peer = λ o e. absurd (none-some o (sym made.peer ∙ e));
        config = subst (ReceivesBy b) (sym made.config) by;
      };
      other_is = record {
        knows = life_begins peer-c peer-key b.tsn z.association peer-made;
        own = peer-made.own;
        due = λ t e. absurd (none-some t (sym peer-made.owes ∙ e));
        sealed = λ t there. absurd (omega (arith, there.1));
        sent = nothing (host_at z) b z.log.sent (ap (λ (h : Host). h.sent) other);
        peer = λ o e. absurd (none-some o (sym peer-made.peer ∙ e));
        config = subst (ReceivesBy f) (sym peer-made.config) peer-by;
      };
      came = λ d there. absurd (omega (arith, there.1));
      came_back = λ d there. absurd (omega (arith, there.1));
      link = begun.0;
      once = begun.1;
    } in
    (set, begun.4, begun.5, begun.6)

pub each-set-up-turns : EachSetUpTurns
each-set-up-turns f b x z set =
    let g = each-one-life-turns f b x z set.link in (
      record {
        life = set.peer_life;
        peer_life = set.life;
        one_is = set.other_is;
        other_is = set.one_is;
        came = set.came_back;
        came_back = set.came;
        link = g.0;
        once = g.1 set.once;
      },
      g.2,
      g.3,
      g.4,
      g.5,
      g.6,
    )

pub each-set-up-delivers : EachSetUpDelivers
each-set-up-delivers f b x z set fit other few other-few = each-link-delivers-any f b x z set.link set.once fit other few other-few

pub each-set-up-delivers-young : EachSetUpDeliversYoung
each-set-up-delivers-young f b x z set young fit other short other-short =
    each-link-delivers-young f b x z set.link set.once young fit other short other-short
