-- Two associations go on from where moves led them, and change places.
use Rattle.std.proofs.Common.{◌≡◌, List, [], ◌∷◌, ◌++◌, map, refl, ap, sym, subst, ◌∙◌, append_assoc}
use Rattle.std.proofs.lemmas.List.{append-nil}
use Rattle.std.specs.Prelude.{⊤}
use Rattle.sctp_association.proofs.Hosts.{each-cut}
use Rattle.sctp_association.proofs.PlainHosts.{each-delivers, each-plain-delivers-young}
use Rattle.sctp_association.specs.Ages.{AreYoungActs, AreYoungMoves, aged_by, aged_each, aged_one, aged_other, made_by_one, made_by_other}
use Rattle.sctp_association.specs.Arrivals.{Arrival, Halves}
use Rattle.sctp_association.specs.HostCalls.{ActsEach}
use Rattle.sctp_association.specs.Hosts.{Act, AreMovesByRule, Delivers, DeliversPlain, Host, Hosts, IsPlain, Move, MovesTo, Way, first_host, hosts, one_acts}
use Rattle.sctp_association.specs.Hosts.{other_acts}
use Rattle.sctp_association.specs.Links.{AreActsByRule, AreInOrder, AreLinked, EachLinkDelivers, EachLinkGoesOn, EachLinkIsCut, EachLinkTurns, EachTwoBegin}
use Rattle.sctp_association.specs.Links.{IsReadAsWritten, Party, host_at}
use Rattle.sctp_association.specs.OneLife.{Brought, EachOneLifeBegins, EachOneLifeGoesOn, EachOneLifeTurns, IsOneLife, brought_by, brought_each}
use Rattle.sctp_association.specs.OneLife.{brought_to_one, brought_to_other}
use Rattle.sctp_delivery.specs.Recent.{Aged}
use Rattle.sctp_association.specs.Young.{DeliversPlainYoung, EachPlainLinkDeliversYoung, IsReadPlainlyYoung}
use Rattle.sctp_delivery.specs.SenderCalls.{Write}
use Rattle.sctp_delivery.specs.Session.{Session}
use Rattle.sctp_receiver.specs.ReceiverRuns.{Message}

-- ## Moves one after another

module _ (f b : Way) (A B : Arrival → Halves → Type 0) where
  -- moves that are as the rules say where what they come of is, that bring these calls, and by which nothing old comes where that is so of these
  record ByRule (Given : Type 0) (Young : List Aged → List Aged → Type 0) (made-one made-other : List Aged → List Aged) (ones others : List Brought)
      (h : Hosts) (ms : List Move) (j : Hosts) : Type 0 where
    run : MovesTo h ms j
    rule : Given → AreMovesByRule A B h ms j run
    young : (xs zs : List Aged) → Young xs zs → AreYoungMoves f b xs zs h ms j run
    by-one : (ages : List Aged) → aged_one ages h ms j run ≡ made-one ages
    by-other : (ages : List Aged) → aged_other ages h ms j run ≡ made-other ages
    to-one : brought_to_one h ms j run ≡ ones
    to-other : brought_to_other h ms j run ≡ others

  abbrev Both : (ms ns : List Move) (h i j : Hosts) → MovesTo h ms i → MovesTo i ns j → Type 0
  Both ms ns h i j r s =
      ByRule (AreMovesByRule A B h ms i r × AreMovesByRule A B i ns j s)
      (λ xs zs. AreYoungMoves f b xs zs h ms i r × AreYoungMoves f b (aged_one xs h ms i r) (aged_other zs h ms i r) i ns j s)
      (λ ages. aged_one (aged_one ages h ms i r) i ns j s) (λ ages. aged_other (aged_other ages h ms i r) i ns j s)
      (brought_to_one h ms i r ++ brought_to_one i ns j s) (brought_to_other h ms i r ++ brought_to_other i ns j s) h (ms ++ ns) j

  both-then : (ms ns : List Move) (h i j : Hosts) (r : MovesTo h ms i) (s : MovesTo i ns j) → Both ms ns h i j r s
  both-then [] ns h i j r s =
      subst (λ (k : Hosts). ByRule (⊤ × AreMovesByRule A B i ns j s) (λ xs zs. ⊤ × AreYoungMoves f b xs zs i ns j s) (λ ages. aged_one ages i ns j s)
      (λ ages. aged_other ages i ns j s) (brought_to_one i ns j s) (brought_to_other i ns j s) k ns j) r
      (record { run = s; rule = λ p. p.1; young = λ xs zs p. p.1; by-one = λ ages. refl; by-other = λ ages. refl; to-one = refl; to-other = refl })
  both-then (one_acts act ∷ ms) ns h i j r s =
      let g = both-then ms ns r.0 i j r.1.1 s in
      let first = brought_by h.other.sent act h.one r.0.one r.1.0.0 in
      record {
        run = (r.0, (r.1.0, g.run));
        rule = λ p. (p.0.0, g.rule (p.0.1, p.1));
        young = λ xs zs p. (p.0.0, p.0.1, g.young (aged_by xs h.other.sent act h.one r.0.one r.1.0.0) zs (p.0.2, p.1));
        by-one = λ ages. g.by-one (aged_by ages h.other.sent act h.one r.0.one r.1.0.0);
        by-other = g.by-other;
        to-one = ap (λ l. first ++ l) g.to-one ∙ sym (append_assoc first (brought_to_one r.0 ms i r.1.1) (brought_to_one i ns j s));
        to-other = g.to-other;
      }
  both-then (other_acts act ∷ ms) ns h i j r s =
      let g = both-then ms ns r.0 i j r.1.1 s in
      let first = brought_by h.one.sent act h.other r.0.other r.1.0.0 in
      record {
        run = (r.0, (r.1.0, g.run));
        rule = λ p. (p.0.0, g.rule (p.0.1, p.1));
        young = λ xs zs p. (p.0.0, p.0.1, g.young xs (aged_by zs h.one.sent act h.other r.0.other r.1.0.0) (p.0.2, p.1));
        by-one = g.by-one;
        by-other = λ ages. g.by-other (aged_by ages h.one.sent act h.other r.0.other r.1.0.0);
        to-one = g.to-one;
        to-other = ap (λ l. first ++ l) g.to-other ∙ sym (append_assoc first (brought_to_other r.0 ms i r.1.1) (brought_to_other i ns j s));
      }

  -- acts of the one
  one-moves : (acts : List Act) (x y z : Host) (done : ActsEach z.sent acts x y)
      → ByRule (AreActsByRule A z.sent acts x y done) (λ xs zs. AreYoungActs f zs z acts x y done) (λ ages. aged_each ages z.sent acts x y done)
      (λ ages. ages) (brought_each z.sent acts x y done) [] (hosts x z) (map one_acts acts) (hosts y z)
  one-moves [] x y z done = record {
    run = ap (λ (k : Host). hosts k z) done;
    rule = λ p. tt;
    young = λ xs zs p. tt;
    by-one = λ ages. refl;
    by-other = λ ages. refl;
    to-one = refl;
    to-other = refl;
  }
  one-moves (act ∷ acts) x y z done =
      let g = one-moves acts done.0 y z done.1.1 in
      record {
        run = (hosts done.0 z, ((done.1.0, refl), g.run));
        rule = λ p. (p.0, g.rule p.1);
        young = λ xs zs p. (p.0, p.1, g.young (aged_by xs z.sent act x done.0 done.1.0) zs p.2);
        by-one = λ ages. g.by-one (aged_by ages z.sent act x done.0 done.1.0);
        by-other = g.by-other;
        to-one = ap (λ l. brought_by z.sent act x done.0 done.1.0 ++ l) g.to-one;
        to-other = g.to-other;
      }

module _ (A B : Arrival → Halves → Type 0) (f b : Way) (acts : List Act) (x y z : Party) (link : AreLinked f b x z)
    (done : ActsEach z.log.sent acts (host_at x) (host_at y)) where
  abbrev start : Hosts
  start = hosts (first_host f) (first_host b)

  more : ByRule f b A B (AreActsByRule A z.log.sent acts (host_at x) (host_at y) done)
      (λ xs zs. AreYoungActs f zs (host_at z) acts (host_at x) (host_at y) done)
      (λ ages. aged_each ages z.log.sent acts (host_at x) (host_at y) done) (λ ages. ages)
      (brought_each z.log.sent acts (host_at x) (host_at y) done) [] (hosts (host_at x) (host_at z)) (map one_acts acts) (hosts (host_at y) (host_at z))
  more = one-moves f b A B acts (host_at x) (host_at y) (host_at z) done

  all : Both f b A B link.moves (map one_acts acts) start (hosts (host_at x) (host_at z)) (hosts (host_at y) (host_at z)) link.run more.run
  all = both-then f b A B link.moves (map one_acts acts) start (hosts (host_at x) (host_at z)) (hosts (host_at y) (host_at z)) link.run more.run

  abbrev next : AreLinked f b y z
  next = record { moves = link.moves ++ map one_acts acts; run = all.run }

pub each-link-goes-on : EachLinkGoesOn
each-link-goes-on f b acts x y z link done =
    let m = more (IsPlain b) (IsPlain f) f b acts x y z link done in
    let a = all (IsPlain b) (IsPlain f) f b acts x y z link done in
    (next (IsPlain b) (IsPlain f) f b acts x y z link done, λ plain acted. a.rule (plain, m.rule acted))

pub each-one-life-goes-on : EachOneLifeGoesOn
each-one-life-goes-on f b acts x y z link done =
    let m = more (IsOneLife b) (IsOneLife f) f b acts x y z link done in
    let a = all (IsOneLife b) (IsOneLife f) f b acts x y z link done in
    let before = brought_to_one (hosts (first_host f) (first_host b)) link.moves (hosts (host_at x) (host_at z)) link.run in
    let others = brought_to_other (hosts (first_host f) (first_host b)) link.moves (hosts (host_at x) (host_at z)) link.run in
    let made = made_by_one f b x z link in
    let made-other = made_by_other f b x z link in (
      next (IsOneLife b) (IsOneLife f) f b acts x y z link done,
      λ once acted. a.rule (once, m.rule acted),
      a.to-one ∙ ap (λ l. before ++ l) m.to-one,
      a.to-other ∙ ap (λ l. others ++ l) m.to-other ∙ append-nil others,
      λ young acted. a.young [] [] (young, m.young made made-other acted),
      a.by-one [] ∙ m.by-one made,
      a.by-other [] ∙ m.by-other made-other,
    )

abbrev begun : (f b : Way) (x z : Party) → host_at x ≡ first_host f → host_at z ≡ first_host b → AreLinked f b x z
begun f b x z one other =
    record { moves = []; run = ap (λ (h : Host). hosts h (host_at z)) one ∙ ap (λ (h : Host). hosts (first_host f) h) other }

pub each-two-begin : EachTwoBegin
each-two-begin f b x z one other = (begun f b x z one other, tt)

pub each-one-life-begins : EachOneLifeBegins
each-one-life-begins f b x z one other = (begun f b x z one other, tt, refl, refl, tt, refl, refl)

-- ## The two change places

abbrev turned-move : Move → Move
turned-move (one_acts act) = other_acts act
turned-move (other_acts act) = one_acts act

abbrev turned : Hosts → Hosts
turned h = hosts h.other h.one

module _ (f b : Way) (A B : Arrival → Halves → Type 0) where
  turn-each : (ms : List Move) (h i : Hosts) (r : MovesTo h ms i)
      → ByRule b f B A (AreMovesByRule A B h ms i r) (λ xs zs. AreYoungMoves f b zs xs h ms i r) (λ ages. aged_other ages h ms i r)
      (λ ages. aged_one ages h ms i r) (brought_to_other h ms i r) (brought_to_one h ms i r) (turned h) (map turned-move ms) (turned i)
  turn-each [] h i r = record {
    run = ap turned r;
    rule = λ p. tt;
    young = λ xs zs p. tt;
    by-one = λ ages. refl;
    by-other = λ ages. refl;
    to-one = refl;
    to-other = refl;
  }
  turn-each (one_acts act ∷ ms) h i r =
      let g = turn-each ms r.0 i r.1.1 in
      record {
        run = (turned r.0, (r.1.0, g.run));
        rule = λ p. (p.0, g.rule p.1);
        young = λ xs zs p. (p.0, p.1, g.young xs (aged_by zs h.other.sent act h.one r.0.one r.1.0.0) p.2);
        by-one = g.by-one;
        by-other = λ ages. g.by-other (aged_by ages h.other.sent act h.one r.0.one r.1.0.0);
        to-one = g.to-one;
        to-other = ap (λ l. brought_by h.other.sent act h.one r.0.one r.1.0.0 ++ l) g.to-other;
      }
  turn-each (other_acts act ∷ ms) h i r =
      let g = turn-each ms r.0 i r.1.1 in
      record {
        run = (turned r.0, (r.1.0, g.run));
        rule = λ p. (p.0, g.rule p.1);
        young = λ xs zs p. (p.0, p.1, g.young (aged_by xs h.one.sent act h.other r.0.other r.1.0.0) zs p.2);
        by-one = λ ages. g.by-one (aged_by ages h.one.sent act h.other r.0.other r.1.0.0);
        by-other = g.by-other;
        to-one = ap (λ l. brought_by h.one.sent act h.other r.0.other r.1.0.0 ++ l) g.to-one;
        to-other = g.to-other;
      }

pub each-link-turns : EachLinkTurns
each-link-turns f b x z link =
    let g = turn-each f b (IsPlain b) (IsPlain f) link.moves (hosts (first_host f) (first_host b)) (hosts (host_at x) (host_at z)) link.run in
    (record { moves = map turned-move link.moves; run = g.run }, g.rule)

pub each-one-life-turns : EachOneLifeTurns
each-one-life-turns f b x z link =
    let g = turn-each f b (IsOneLife b) (IsOneLife f) link.moves (hosts (first_host f) (first_host b)) (hosts (host_at x) (host_at z)) link.run in
    (record { moves = map turned-move link.moves; run = g.run }, g.rule, g.to-one, g.to-other, g.young [] [], g.by-one [], g.by-other [])

-- ## What holds

in-order : (w : Way) (x z : Party) (s : Session) → DeliversPlain w (host_at x) (host_at z) s → AreInOrder x.log.written z.log.read
in-order w x z s d =
    subst (λ (ws : List Write). AreInOrder ws z.log.read) d.written (subst (λ (ms : List Message). AreInOrder s.written ms) d.read d.order)

as-written : (w : Way) (x z : Party) → Delivers w (host_at x) (host_at z) → IsReadAsWritten w x z
as-written w x z d = record { delivers = d; order = in-order w x z d.stand.session d.delivers }

as-written-young : (w : Way) (x z : Party) → DeliversPlainYoung w (host_at x) (host_at z) → IsReadPlainlyYoung w x z
as-written-young w x z d = record { delivers = d; order = in-order w x z d.ran.session d.delivers }

pub each-link-delivers : EachLinkDelivers
each-link-delivers f b x z link plain fit other one-few other-few =
    let d = each-delivers f b link.moves (hosts (host_at x) (host_at z)) link.run plain fit other one-few other-few in
    (as-written f x z d.0, as-written b z x d.1)

pub each-plain-link-delivers-young : EachPlainLinkDeliversYoung
each-plain-link-delivers-young f b x z link plain young fit other one-short other-short =
    let d = each-plain-delivers-young f b link.moves (hosts (host_at x) (host_at z)) link.run plain young fit other one-short other-short in
    (as-written-young f x z d.0, as-written-young b z x d.1)

pub each-link-is-cut : EachLinkIsCut
each-link-is-cut f b x z link = each-cut f b link.moves (hosts (host_at x) (host_at z)) link.run
