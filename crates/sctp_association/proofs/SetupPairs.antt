-- A caller of two associations that are set up with each other: they stay so.
use Rattle.std.proofs.Common.{◌≡◌, ℕ, ◌+◌, Bool, true, false, List, [], ◌∷◌, map, Option, Some, None, ap, arith, refl, sym, subst, ◌∙◌}
use Rattle.std.proofs.lemmas.Bool.{false≢true}
use Rattle.std.specs.Prelude.{Contains, if◌then◌else◌, suc}
use Rattle.sctp_association.proofs.Known.{within_same}
use Rattle.sctp_association.specs.Beginnings.{ArrivesAsOffered, IsEchoed, KeepsPeer, KnowsNoMore}
use Rattle.sctp_association.specs.declared.association.Association.{Association}
use Rattle.sctp_association.specs.declared.due.Due.{Due}
use Rattle.sctp_association.specs.declared.event.Events.{Events}
use Rattle.sctp_association.specs.declared.inbound.Inbound.{Inbound}
use Rattle.sctp_association.specs.declared.outbound.Outbound.{Outbound}
use Rattle.sctp_association.specs.HostCalls.{Leads, Log, acts_of_read, sent_of}
use Rattle.sctp_association.specs.Hosts.{Act, asks, polls, reads_on}
use Rattle.sctp_association.specs.Kept.{ticket_due}
use Rattle.sctp_association.specs.Links.{party}
use Rattle.sctp_association.specs.Lives.{Life, stays}
use Rattle.sctp_association.specs.Offering.{OffersAsDue}
use Rattle.sctp_association.specs.Pairs.{ComesSetUp, StaysSetUp}
use Rattle.sctp_association.specs.Reads.{IsSameBeside}
use Rattle.sctp_association.specs.Setups.{AreQuiet, EachDatagramKeeps, EachQuietCallKeeps, EachWrittenKeeps}
use Rattle.sctp_delivery.specs.SenderCalls.{SenderCall}
use Rattle.sctp_receiver.specs.Receiver.{is_open}

-- ## Acts that write and take no datagram

pub asks_quiet : (cs : List SenderCall) → AreQuiet (map asks cs)
asks_quiet [] = tt
asks_quiet (c ∷ cs) = (refl, asks_quiet cs)

pub read_quiet : (stream : ℕ) (o : Option Inbound) → AreQuiet (acts_of_read stream o)
read_quiet stream None = tt
read_quiet stream (Some i) = by (is_open stream i.receiver)
  where
    by : (b : Bool) → AreQuiet (if b then reads_on stream ∷ [] else [])
    by true = (refl, tt)
    by false = tt

-- ## One call

pub quiet_stays : EachQuietCallKeeps → (acts : List Act) (a b : Association) (l m : Log) → AreQuiet acts → KeepsPeer a b → m.sent ≡ l.sent
    → Leads a l acts b m → StaysSetUp a l b m
quiet_stays keeps acts a b l m quiet k same leads forth back z set =
    (keeps forth back stays acts (party a l) (party b m) z set refl k quiet (leads z.log.sent) same).next

-- what `write` leaves of that
pub rest_keeps : (a b : Association) (o : Outbound) (e : Events) → b ≡ record a { outbound = o; events = e }
    → o ≡ record a.outbound { sender = o.sender } → KeepsPeer a b
rest_keeps a b o e is same = subst (KeepsPeer a) (sym is) (record {
  config = refl;
  key = refl;
  machine = record { asking = λ e. e; standing = λ e. e; peer = λ o e. e; own = refl; restarted = refl; limits = refl };
  owes = λ t e. e;
  sending = (λ x. ap (λ (p : Outbound). p.failures.most) same ∙ x, λ x. ap (λ (p : Outbound). p.rto.limits) same ∙ x);
})

-- what `read` leaves of what an association begins by
pub beside_keeps : (a b : Association) → IsSameBeside a b → KeepsPeer a b
beside_keeps a b s = record {
  config = s.config;
  key = s.key;
  machine = subst (λ m. KnowsNoMore a.machine m) (sym s.machine) (record {
    asking = λ e. e;
    standing = λ e. e;
    peer = λ o e. e;
    own = refl;
    restarted = refl;
    limits = refl;
  });
  owes = λ t e. subst (λ (d : Due). ticket_due d.alone ≡ Some t) s.due e;
  sending = within_same a b s.config s.outbound;
}

-- `poll_transmit`
pub poll_stays : EachQuietCallKeeps → EachWrittenKeeps → (is_sent : Bool) (a b : Association) → KeepsPeer a b
    → (is_sent ≡ true → OffersAsDue a b.draft.bytes) → ((l : Log) → Leads a l (polls is_sent b.draft.bytes ∷ []) b (sent_of is_sent b l))
    → (l : Log) → StaysSetUp a l b (sent_of is_sent b l)
poll_stays quiet written true a b k offers leads l forth back z set =
    (written forth back b.draft.bytes (party a l) (party b (sent_of true b l)) z set (k, offers refl) (leads l z.log.sent) refl).next
poll_stays quiet written false a b k offers leads l forth back z set =
    quiet_stays quiet (polls false b.draft.bytes ∷ []) a b l (sent_of false b l) (refl, tt) k refl (leads l) forth back z set

-- ## A datagram comes

pub none_offered : (d : List ℕ) (a : Association) → ComesSetUp d 0 a a
none_offered d a = (refl, λ forth back l z set own cookies none. (set, cookies))

-- the peer has not begun again before, where it has not since
not-before : (x y : Bool) → (x ≡ true → y ≡ true) → y ≡ false → x ≡ false
not-before true y later none = absurd (false≢true (sym none ∙ later refl))
not-before false y later none = refl

module _ (handled : EachDatagramKeeps) (d : List ℕ) where
  next-offered : (n : ℕ) (a b c : Association) → ComesSetUp d n a b → ArrivesAsOffered d b c → ComesSetUp d (suc n) a c
  next-offered n a b c so f = (
    (b, so.0, f),
    λ forth back l z set own cookies none.
        let g = so.1 forth back l z set own cookies (not-before b.machine.has_restarted c.machine.has_restarted f.restarted none) in
        let h = handled forth back d b c l z g.0 own f g.1 none in
        (h.1.next, λ t e. subst (λ (k : Life). Contains k.sealed t) (sym h.1.life) (g.1 t (subst (λ (k : Life). IsEchoed d k.key t) h.1.life e))),
  )

  pub one_offered : (n : ℕ) (a b c : Association) → ComesSetUp d n a b → ArrivesAsOffered d b c → ComesSetUp d (n + 1) a c
  one_offered n a b c so f =
      let e : suc n ≡ n + 1 = omega arith in
      subst (λ (k : ℕ). ComesSetUp d k a c) e (next-offered n a b c so f)
