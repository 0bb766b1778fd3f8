-- Two associations that begin once stand in two sessions of every call, whatever datagrams bring: of few TSNs, or in which nothing is old.
use Rattle.std.proofs.Common.{◌≡◌, ◌<◌, ◌^◌, ℕ, Bool, true, false, List, [], ◌∷◌, Option, Some, None, refl, ap, sym, subst, ◌∙◌, inl, inr, arith}
use Rattle.std.proofs.lemmas.Bool.Decides.{nat_tests}
use Rattle.std.specs.Prelude.{◌⊎◌, ◌==◌, ◌||◌, ◌&&◌, Contains, not}
use Rattle.std.specs.List.{list_any}
use Rattle.sctp_association.proofs.FewHosts.{each-few-joined}
use Rattle.sctp_association.proofs.Hosts.{Fits}
use Rattle.sctp_association.proofs.Long.{Long, given-of, stand-of}
use Rattle.sctp_association.proofs.LongHosts.{Joined, each-joined, turned}
use Rattle.sctp_association.proofs.Rules.{moves-both, moves-in}
use Rattle.sctp_association.specs.Arrivals.{Arrival, Halves, begins, hears, receives, renews, restarts}
use Rattle.sctp_association.specs.Hosts.{AreMovesByRule, Host, Hosts, IsPlain, Move, MovesTo, NamesOpen, Way, WroteFew, first_host, hosts}
use Rattle.sctp_association.specs.Young.{DeliversYoung, EachDeliversYoung, EachFewIsYoung, EachLinkDeliversYoung, IsReadAsWrittenYoung, Ran}
use Rattle.sctp_association.specs.Links.{Party, host_at}
use Rattle.sctp_association.specs.OneLife.{AreOfTheirOwn, AreOneLife, AreSingleOnSteady, AreWritesOnSteady, Brought, Came, CamePastClosed, DeliversAny}
use Rattle.sctp_association.specs.OneLife.{DeliversIn}
use Rattle.sctp_association.specs.OneLife.{EachDeliversAny}
use Rattle.sctp_association.specs.OneLife.{EachPlainIsOneLife}
use Rattle.sctp_association.specs.OneLife.{EachLinkDeliversAny, IsOneLife, NoneWasDropped, IsReadAsWrittenAny, IsSteady, IsUntouched, WasBrought, brought}
use Rattle.sctp_association.specs.OneLife.{brought_to_one, brought_to_other, others_of}
use Rattle.sctp_delivery.proofs.Every.{Every, all-of-every}
use Rattle.sctp_delivery.proofs.EveryMessages as messages
use Rattle.sctp_delivery.proofs.EveryRuns as every
use Rattle.sctp_delivery.proofs.EveryYoung as young
use Rattle.sctp_delivery.proofs.EveryYoungOrder as young_order
use Rattle.sctp_delivery.proofs.InOrder as in_order
use Rattle.sctp_util.proofs.More.{not_both}
use Rattle.sctp_delivery.specs.EveryCall.{AnyCall, closes, closes_incoming, discards, makes, of_receiving, of_sending, passes_over, renews as renewed}
use Rattle.sctp_delivery.specs.EveryCall.{RunsAny, resets, resets_incoming, takes_back}
use Rattle.sctp_delivery.specs.EveryEnd.{dropped_any}
use Rattle.sctp_delivery.specs.EveryOrder.{goes_on, opens_incoming}
use Rattle.sctp_delivery.specs.Recent.{Aged}
use Rattle.sctp_delivery.specs.SenderCalls.{Write}
use Rattle.sctp_delivery.specs.Session.{Session}
use Rattle.sctp_receiver.specs.Receiver.{Reception}
use Rattle.sctp_receiver.specs.ReceiverRuns as runs
use Rattle.sctp_receiver.specs.ReceiverRuns.{Message}
use Rattle.sctp_receiver.specs.Skips.{names_closed}
use Rattle.sctp_data.specs.ForwardTsn.{ForwardTsn}

-- ## What is brought may come

-- `ones` came to the host of this sender and of this receiver, and `others` to the peer
module _ (ones others : List Brought) where
  names : (f : ForwardTsn) (h : Halves) (o : Option Reception) → h.receiver ≡ o → Contains ones (brought (receives (runs.forwards f)) h)
      → NamesOpen f o ⊎ CamePastClosed ones f
  names f h None is c = inl tt
  names f h (Some r) is c = by (names_closed f r) refl
    where
      by : (b : Bool) → names_closed f r ≡ b → NamesOpen f (Some r) ⊎ CamePastClosed ones f
      by true e = inr (h, c, λ named. not_both (sym (subst (NamesOpen f) is named) ∙ e))
      by false e = inl e

  pub fits : (w : Way) (a : Arrival) (h : Halves) → IsOneLife w a h → Contains ones (brought a h) → Fits (WasBrought ones others) (WasBrought others ones) w a h
  fits w (receives (runs.discards tsn)) h p c = λ d same. (h, subst (λ n. Contains ones (brought (receives (runs.discards n)) h)) (sym same) c)
  fits w (receives (runs.closes stream)) h p c = (h, c)
  fits w (receives (runs.resets stream last)) h p c = (h, c)
  fits w (receives (runs.forwards f)) h p c = names f h h.receiver refl c
  fits w (receives _) h p c = tt
  fits w (hears (restarts stream)) h p c = (h, c)
  fits w (hears _) h p c = tt
  fits w (begins tsn max limits) h p c = p
  fits w (renews tsn size max) h p c = absurd p

  -- where no datagram had the sender begin the stream again, no call of the session did
  pub steady-calls : (cs : List AnyCall) (s : ℕ) → Every (WasBrought ones others) (others_of cs) → IsSteady ones s → list_any (renewed s) cs ≡ false
  steady-calls [] s e n = refl
  steady-calls (makes call ∷ cs) s e n = steady-calls cs s e n
  steady-calls (of_sending (takes_back sack back) ∷ cs) s e n = steady-calls cs s e n
  steady-calls (of_sending (closes stream) ∷ cs) s e n = absurd e.0
  steady-calls (of_sending (resets stream) ∷ cs) s e n = by (stream == s) refl (steady-calls cs s e.1 n)
    where
      by : (b : Bool) → (stream == s) ≡ b → list_any (renewed s) cs ≡ false → (b || list_any (renewed s) cs) ≡ false
      by true same rest =
          let is : stream ≡ s = grind (arith, nat_tests, same) in absurd (n (subst (λ x. Came ones (hears (restarts x))) is e.0))
      by false same rest = rest
  steady-calls (of_receiving call ∷ cs) s e n = steady-calls cs s e.1 n

  -- a call of another stream breaks none
  elsewhere : (P : ℕ → Type 0) (stream s : ℕ) (b : Bool) → (stream == s) ≡ b → P stream → (P s → ⊥) → (rest : Bool) → rest ≡ true → (not b && rest) ≡ true
  elsewhere P stream s true same p n rest on =
      let is : stream ≡ s = grind (arith, nat_tests, same) in absurd (n (subst P is p))
  elsewhere P stream s false same p n rest on = on

  pub unbroken-calls : (cs : List AnyCall) (opened : Bool) (s : ℕ) → Every (WasBrought ones others) (others_of cs) → IsUntouched ones others s
      → goes_on opened s cs ≡ true
  unbroken-calls [] opened s e n = refl
  unbroken-calls (makes call ∷ cs) opened s e n = unbroken-calls cs (opened || opens_incoming s (makes call)) s e n
  unbroken-calls (of_sending (takes_back sack back) ∷ cs) opened s e n = unbroken-calls cs (opened || false) s e n
  unbroken-calls (of_sending (closes stream) ∷ cs) opened s e n = absurd e.0
  unbroken-calls (of_sending (resets stream) ∷ cs) opened s e n =
      elsewhere (λ x. Came ones (hears (restarts x))) stream s (stream == s) refl e.0 n.begun (goes_on (opened || false) s cs)
      (unbroken-calls cs (opened || false) s e.1 n)
  unbroken-calls (of_receiving (discards c) ∷ cs) opened s e n = absurd (n.noted c.tsn e.0)
  unbroken-calls (of_receiving (closes_incoming stream) ∷ cs) opened s e n =
      elsewhere (λ x. Came others (receives (runs.closes x))) stream s (stream == s) refl e.0 n.closed (goes_on (opened || false) s cs)
      (unbroken-calls cs (opened || false) s e.1 n)
  unbroken-calls (of_receiving (resets_incoming stream last) ∷ cs) opened s e n =
      elsewhere (λ x. Came others (receives (runs.resets x last))) stream s (stream == s) refl e.0 (n.reset last) (goes_on (opened || false) s cs)
      (unbroken-calls cs (opened || false) s e.1 n)
  unbroken-calls (of_receiving (passes_over f) ∷ cs) opened s e n = absurd (n.passed f e.0)

  -- where none was brought, none was dropped
  none-dropped : (old : Session) (cs : List AnyCall) (new : Session) (run : RunsAny old cs new) → Every (WasBrought ones others) (others_of cs)
      → NoneWasDropped others → dropped_any old cs new run ≡ []
  none-dropped old [] new run e n = refl
  none-dropped old (makes call ∷ cs) new run e n = none-dropped run.0 cs new run.1.1 e n
  none-dropped old (of_sending (takes_back sack back) ∷ cs) new run e n = none-dropped run.0 cs new run.1.1 e n
  none-dropped old (of_sending (closes stream) ∷ cs) new run e n = absurd e.0
  none-dropped old (of_sending (resets stream) ∷ cs) new run e n = none-dropped run.0 cs new run.1.1 e.1 n
  none-dropped old (of_receiving (discards c) ∷ cs) new run e n = absurd (n c.tsn e.0)
  none-dropped old (of_receiving (closes_incoming stream) ∷ cs) new run e n = none-dropped run.0 cs new run.1.1 e.1 n
  none-dropped old (of_receiving (resets_incoming stream last) ∷ cs) new run e n = none-dropped run.0 cs new run.1.1 e.1 n
  none-dropped old (of_receiving (passes_over f) ∷ cs) new run e n = none-dropped run.0 cs new run.1.1 e.1 n

  -- ## The law

  module _ (f b : Way) (made back : List Aged) (x z : Host) (j : Joined (WasBrought ones others) (WasBrought others ones) f b made back x z) where
    abbrev st : Long
    st = j.forth

    abbrev r : Ran
    r = j.forth.ran

    single : AreSingleOnSteady ones r.session.receiving.read
    single k m lt n =
        young.single r.reported r.tsn r.size r.max r.most r.limits r.calls r.session r.run st.small st.some st.recent st.young st.short k m lt
        (ap not (steady-calls r.calls _ j.goes.only n))

    delivers-in : DeliversIn f ones others x z r.calls r.session
    delivers-in = record {
      sends = j.goes.sends;
      receives = j.goes.receives;
      written = j.goes.written;
      read = j.goes.read;
      others = all-of-every (WasBrought ones others) (others_of r.calls) j.goes.only;
      bytes = every.accounted r.reported r.tsn r.size r.max r.most r.limits r.calls r.session r.run;
      made = every.made r.reported r.tsn r.size r.max r.most r.limits r.calls r.session r.run;
      whole = every.messages r.reported r.tsn r.size r.max r.most r.limits r.calls r.session r.run;
      parts = young.parts r.reported r.tsn r.size r.max r.most r.limits r.calls r.session r.run st.small st.some st.recent st.young st.short;
      writes = young.written r.reported r.tsn r.size r.max r.most r.limits r.calls r.session r.run st.small st.some st.recent st.young st.short;
      own = young.own r.reported r.tsn r.size r.max r.most r.limits r.calls r.session r.run st.small st.some st.recent st.young st.short;
      steady = subst (AreSingleOnSteady ones) j.goes.read single;
      apart = messages.told-apart r.reported r.tsn r.size r.max r.most r.limits r.calls r.session r.run;
      unbroken = λ s n. unbroken-calls r.calls false s j.goes.only n;
      order = young_order.in-order r.reported r.tsn r.size r.max r.most r.limits r.calls r.session r.run st.small st.some st.recent st.young st.passed
          st.short;
      modes = young_order.as-written r.reported r.tsn r.size r.max r.most r.limits r.calls r.session r.run st.small st.some st.recent st.young st.passed
          st.short;
      turn = in_order.in-turn-any-young r.reported r.tsn r.size r.max r.most r.limits r.calls r.session r.run st.small st.some st.recent st.young
          st.passed st.short;
    }

    delivers-young : DeliversYoung f ones others x z
    delivers-young = record { ran = r; delivers = delivers-in }

    delivers : WroteFew x → DeliversAny f ones others x z
    delivers wrote =
        let given = j.goes.given in
        let cut = wrote.0 in
        let few : given-of j.forth < 2 ^ 31 = omega (arith, given, cut) in
        record {
          stand = stand-of st few;
          delivers = delivers-in;
          once = every.none-read-twice r.reported r.tsn r.size r.max r.most r.limits r.calls r.session r.run st.small few;
          end = messages.ordered-read r.reported r.tsn r.size r.max r.most r.limits r.calls r.session r.run st.small st.some few st.short;
          chunks = messages.sent-read r.reported r.tsn r.size r.max r.most r.limits r.calls r.session r.run st.small st.some few st.short;
          unordered = messages.unordered-written-read r.reported r.tsn r.size r.max r.most r.limits r.calls r.session r.run st.small st.some few st.short;
          dropped = none-dropped _ r.calls r.session r.run j.goes.only;
        }

-- each call that moves bring fits the sessions
fits-moves : (f b : Way) (moves : List Move) (new : Hosts) (run : MovesTo (hosts (first_host f) (first_host b)) moves new)
    → AreOneLife f b (hosts (first_host f) (first_host b)) moves new run
    → (ones others : List Brought) → brought_to_one (hosts (first_host f) (first_host b)) moves new run ≡ ones
    → brought_to_other (hosts (first_host f) (first_host b)) moves new run ≡ others
    → AreMovesByRule (Fits (WasBrought ones others) (WasBrought others ones) b) (Fits (WasBrought others ones) (WasBrought ones others) f)
    (hosts (first_host f) (first_host b)) moves new run
fits-moves f b moves new run once ones others to-one to-other =
    let first = hosts (first_host f) (first_host b) in
    moves-both (IsOneLife b) (λ a h. Contains ones (brought a h)) (Fits (WasBrought ones others) (WasBrought others ones) b) (fits ones others b)
    (IsOneLife f) (λ a h. Contains others (brought a h)) (Fits (WasBrought others ones) (WasBrought ones others) f) (fits others ones f)
    moves first new run once
    (moves-in ones others moves first new run (λ a c. subst (λ (l : List Brought). Contains l a) to-one c)
    (λ a c. subst (λ (l : List Brought). Contains l a) to-other c))

pub each-delivers-any : EachDeliversAny
each-delivers-any f b moves new run once fit other one-few other-few =
    let first = hosts (first_host f) (first_host b) in
    let ones = brought_to_one first moves new run in
    let others = brought_to_other first moves new run in
    let P = WasBrought ones others in
    let Q = WasBrought others ones in
    let x = (each-few-joined P Q f b moves new run (fits-moves f b moves new run once ones others refl refl) fit other one-few other-few).1 in
    let j = x.joined' in (
      delivers ones others f b x.ones x.others new.one new.other j one-few,
      delivers others ones b f x.others x.ones new.other new.one (turned P Q f b x.ones x.others new.one new.other j) other-few,
    )

pub each-delivers-young : EachDeliversYoung
each-delivers-young f b moves new run once young fit other one-short other-short =
    let first = hosts (first_host f) (first_host b) in
    let ones = brought_to_one first moves new run in
    let others = brought_to_other first moves new run in
    let P = WasBrought ones others in
    let Q = WasBrought others ones in
    let x = each-joined P Q f b moves new run (fits-moves f b moves new run once ones others refl refl) young fit other one-short other-short in
    let j = x.joined' in (
      delivers-young ones others f b x.ones x.others new.one new.other j,
      delivers-young others ones b f x.others x.ones new.other new.one (turned P Q f b x.ones x.others new.one new.other j),
    )

-- where few fragments are written, nothing is old
pub each-few-young : EachFewIsYoung
each-few-young f b moves new run once fit other one-few other-few =
    let first = hosts (first_host f) (first_host b) in
    let ones = brought_to_one first moves new run in
    let others = brought_to_other first moves new run in
    (each-few-joined (WasBrought ones others) (WasBrought others ones) f b moves new run (fits-moves f b moves new run once ones others refl refl) fit other
    one-few other-few).0

-- ## Plain calls

plain-once : (w : Way) (a : Arrival) (h : Halves) → IsPlain w a h → IsPlain w a h → IsOneLife w a h
plain-once w (receives call) h p q = tt
plain-once w (hears call) h p q = tt
plain-once w (begins tsn max limits) h p q = p
plain-once w (renews tsn size max) h p q = absurd p

pub each-plain : EachPlainIsOneLife
each-plain f b old moves new run plain =
    moves-both (IsPlain b) (IsPlain b) (IsOneLife b) (plain-once b) (IsPlain f) (IsPlain f) (IsOneLife f) (plain-once f) moves old new run plain plain

-- ## As a caller has them

module _ (ones others : List Brought) (w : Way) (x z : Party) (calls : List AnyCall) (s : Session)
    (d : DeliversIn w ones others (host_at x) (host_at z) calls s) where
  pub on-steady : AreWritesOnSteady ones x.log.written z.log.read
  on-steady =
      let steady : AreSingleOnSteady ones s.receiving.read = subst (AreSingleOnSteady ones) (sym d.read) d.steady in
      let all : AreWritesOnSteady ones s.written s.receiving.read = λ k m lt n. d.writes k m lt (steady k m lt n) in
      subst (λ (ws : List Write). AreWritesOnSteady ones ws z.log.read) d.written
      (subst (λ (ms : List Message). AreWritesOnSteady ones s.written ms) d.read all)

  pub of-their-own : AreOfTheirOwn x.log.written z.log.read
  of-their-own =
      subst (λ (ws : List Write). AreOfTheirOwn ws z.log.read) d.written (subst (λ (ms : List Message). AreOfTheirOwn s.written ms) d.read d.own)

as-written : (ones others : List Brought) (w : Way) (x z : Party) → DeliversAny w ones others (host_at x) (host_at z) → IsReadAsWrittenAny w ones others x z
as-written ones others w x z d =
    let calls = d.stand.calls in
    let s = d.stand.session in
    record {
      delivers = d;
      writes = on-steady ones others w x z calls s d.delivers;
      own = of-their-own ones others w x z calls s d.delivers;
    }

pub each-link-delivers-any : EachLinkDeliversAny
each-link-delivers-any f b x z link once fit other one-few other-few =
    let first = hosts (first_host f) (first_host b) in
    let last = hosts (host_at x) (host_at z) in
    let ones = brought_to_one first link.moves last link.run in
    let others = brought_to_other first link.moves last link.run in
    let d = each-delivers-any f b link.moves last link.run once fit other one-few other-few in
    (as-written ones others f x z d.0, as-written others ones b z x d.1)

as-written-young : (ones others : List Brought) (w : Way) (x z : Party) → DeliversYoung w ones others (host_at x) (host_at z)
    → IsReadAsWrittenYoung w ones others x z
as-written-young ones others w x z d =
    let calls = d.ran.calls in
    let s = d.ran.session in
    record {
      delivers = d;
      writes = on-steady ones others w x z calls s d.delivers;
      own = of-their-own ones others w x z calls s d.delivers;
    }

pub each-link-delivers-young : EachLinkDeliversYoung
each-link-delivers-young f b x z link once young fit other one-short other-short =
    let first = hosts (first_host f) (first_host b) in
    let last = hosts (host_at x) (host_at z) in
    let ones = brought_to_one first link.moves last link.run in
    let others = brought_to_other first link.moves last link.run in
    let d = each-delivers-young f b link.moves last link.run once young fit other one-short other-short in
    (as-written-young ones others f x z d.0, as-written-young others ones b z x d.1)
