-- A session of every call in which nothing is old, and the next one.
use Rattle.std.proofs.Common.{◌≡◌, ◌+◌, ◌<◌, ◌^◌, ℕ, Bool, true, false, List, [], ◌∷◌, ◌++◌, Option, refl, ap, sym, subst}
use Rattle.std.proofs.Common.{arith}
use Rattle.std.specs.Prelude.{⊤}
use Rattle.sctp_association.proofs.Tsns.{waiting_in}
use Rattle.sctp_association.specs.Young.{Ran}
use Rattle.sctp_delivery.proofs.EveryHolds.{HasBeside}
use Rattle.sctp_delivery.proofs.EveryRuns.{grows}
use Rattle.sctp_delivery.proofs.EveryYoung.{AreBacked, Then, after, all-backed, start}
use Rattle.sctp_delivery.proofs.Numbers.{number_of}
use Rattle.sctp_delivery.proofs.Queues.{started}
use Rattle.sctp_delivery.proofs.Recent.{IsNear}
use Rattle.sctp_delivery.proofs.StandsAny.{given-then, run-then}
use Rattle.sctp_delivery.specs.EveryCall.{AnyCall, FollowsAny, RunsAny, tsns_given_any}
use Rattle.sctp_delivery.specs.EveryRecent.{ArePassedYoung, AreRecentAny, AreYoungAny, IsPassedYoung, IsRecentAny, IsYoungAny, aged_any}
use Rattle.sctp_delivery.specs.Recent.{Aged, HoldsRecent}
use Rattle.sctp_delivery.specs.Returns.{at_start_with}
use Rattle.sctp_delivery.specs.Session.{Session, bytes_written, count_in_flight}
use Rattle.sctp_delivery.specs.StandAny.{StandAny}
use Rattle.sctp_outbound.specs.outbound_queue.OutboundQueue.{all_started}
use Rattle.sctp_outbound.specs.pending_queue.Whole.{IsSendable}
use Rattle.sctp_receiver.proofs.StreamCosts.{are_apart}
use Rattle.sctp_receiver.specs.Inbound.{numbers_of}
use Rattle.sctp_receiver.specs.declared.receiver.limits.Limits.{Limits}
use Rattle.sctp_sender.specs.declared.sender.Reported.{Reported}
use Rattle.sctp_util.specs.Serial.{distance}

-- ## What it made, and how old that is

abbrev pub ages-in : List Aged → (old : Session) (cs : List AnyCall) (new : Session) → RunsAny old cs new → List Aged
ages-in ages old [] new r = ages
ages-in ages old (c ∷ cs) new r = ages-in (aged_any c old r.0 ages) r.0 cs new r.1.1

abbrev pub first-of : Ran → Session
first-of r = at_start_with r.reported r.tsn r.size r.max r.most r.limits

pub record Long : Type 0 where
  pub ran : Ran
  pub small : ran.tsn < 2 ^ 32
  pub some : 0 < ran.size
  pub short : bytes_written ran.session < 2 ^ 64
  pub recent : AreRecentAny (first-of ran) ran.calls ran.session ran.run
  pub young : AreYoungAny [] (first-of ran) ran.calls ran.session ran.run
  pub passed : ArePassedYoung [] (first-of ran) ran.calls ran.session ran.run

abbrev pub ages-of : Long → List Aged
ages-of st = ages-in [] (first-of st.ran) st.ran.calls st.ran.session st.ran.run

-- how many TSNs were given out, and how many fragments wait
abbrev pub given-of : Long → ℕ
given-of st = tsns_given_any (first-of st.ran) st.ran.calls st.ran.session st.ran.run

abbrev pub used-of : Long → ℕ
used-of st = given-of st + waiting_in st.ran.session.sending.sender.flight

-- ## One call more

recent-then : (cs : List AnyCall) (c : AnyCall) (old mid new : Session) (r : RunsAny old cs mid) (f : FollowsAny c mid new) → AreRecentAny old cs mid r
    → IsRecentAny c mid → count_in_flight new < 2 ^ 31 → AreRecentAny old (cs ++ c ∷ []) new (run-then cs c old mid new r f)
unfolding run-then
recent-then [] c old mid new r f q now few = (subst (IsRecentAny c) r now, few, tt)
recent-then (d ∷ cs) c old mid new r f q now few = (q.0, q.1, recent-then cs c r.0 mid new r.1.1 f q.2 now few)

young-then : (ages : List Aged) (cs : List AnyCall) (c : AnyCall) (old mid new : Session) (r : RunsAny old cs mid) (f : FollowsAny c mid new)
    → AreYoungAny ages old cs mid r → IsYoungAny c (ages-in ages old cs mid r) → HoldsRecent new
    → AreYoungAny ages old (cs ++ c ∷ []) new (run-then cs c old mid new r f)
unfolding run-then
young-then ages [] c old mid new r f q now holds = (now, holds, tt)
young-then ages (d ∷ cs) c old mid new r f q now holds = (q.0, q.1, young-then (aged_any d old r.0 ages) cs c r.0 mid new r.1.1 f q.2 now holds)

passed-then : (ages : List Aged) (cs : List AnyCall) (c : AnyCall) (old mid new : Session) (r : RunsAny old cs mid) (f : FollowsAny c mid new)
    → ArePassedYoung ages old cs mid r → IsPassedYoung c (ages-in ages old cs mid r) → ArePassedYoung ages old (cs ++ c ∷ []) new
    (run-then cs c old mid new r f)
unfolding run-then
passed-then ages [] c old mid new r f q now = (now, tt)
passed-then ages (d ∷ cs) c old mid new r f q now = (q.0, passed-then (aged_any d old r.0 ages) cs c r.0 mid new r.1.1 f q.1 now)

ages-then : (ages : List Aged) (cs : List AnyCall) (c : AnyCall) (old mid new : Session) (r : RunsAny old cs mid) (f : FollowsAny c mid new)
    → ages-in ages old (cs ++ c ∷ []) new (run-then cs c old mid new r f) ≡ aged_any c mid new (ages-in ages old cs mid r)
unfolding run-then
ages-then ages [] c old mid new r f = ap (λ s. aged_any c s new ages) (sym r)
ages-then ages (d ∷ cs) c old mid new r f = ages-then (aged_any d old r.0 ages) cs c r.0 mid new r.1.1 f

-- what laws ask of a call, and of the session behind it
pub record Allows (st : Long) (c : AnyCall) (t : Session) : Type 0 where
  pub recent : IsRecentAny c st.ran.session
  pub flying : count_in_flight t < 2 ^ 31
  pub young : IsYoungAny c (ages-of st)
  pub holds : HoldsRecent t
  pub passed : IsPassedYoung c (ages-of st)
  pub short : bytes_written t < 2 ^ 64

pub record LeadsTo (st : Long) (c : AnyCall) (t : Session) : Type 0 where
  pub next : Long
  pub there : next.ran.session ≡ t
  pub calls : next.ran.calls ≡ st.ran.calls ++ c ∷ []
  pub ages : ages-of next ≡ aged_any c st.ran.session t (ages-of st)
  pub given : given-of next ≡ given-of st + distance st.ran.session.sending.sender.flight.next_tsn t.sending.sender.flight.next_tsn

pub leads-to : (st : Long) (c : AnyCall) (t : Session) → FollowsAny c st.ran.session t → Allows st c t → LeadsTo st c t
leads-to st c t f a =
    let x = st.ran in
    let begin = first-of x in
    record {
      next = record {
        ran = record {
          reported = x.reported;
          tsn = x.tsn;
          size = x.size;
          max = x.max;
          most = x.most;
          limits = x.limits;
          calls = x.calls ++ c ∷ [];
          session = t;
          run = run-then x.calls c begin x.session t x.run f;
        };
        small = st.small;
        some = st.some;
        short = a.short;
        recent = recent-then x.calls c begin x.session t x.run f st.recent a.recent a.flying;
        young = young-then [] x.calls c begin x.session t x.run f st.young a.young a.holds;
        passed = passed-then [] x.calls c begin x.session t x.run f st.passed a.passed;
      };
      there = refl;
      calls = refl;
      ages = ages-then [] x.calls c begin x.session t x.run f;
      given = given-then x.calls c begin x.session t x.run f;
    }

-- ## What is so of it

abbrev pub nowhere : ℕ → Bool
nowhere k = false

known-then : (first : ℕ) (cs : List AnyCall) (s new : Session) (ages : List Aged) (r : RunsAny s cs new) → AreRecentAny s cs new r
    → AreYoungAny ages s cs new r → bytes_written new < 2 ^ 64 → AreBacked ⊤ cs → Then ⊤ nowhere first s ages
    → (later : List Aged) × Then ⊤ nowhere first new later
known-then first [] s new ages r q y short back a = (ages, subst (λ x. Then ⊤ nowhere first x ages) (sym r) a)
known-then first (c ∷ cs) s new ages r q y short back a =
    let bytes = grows cs r.0 new r.1.1 in
    known-then first cs r.0 new (aged_any c s r.0 ages) r.1.1 q.2 y.2 short back.1
    (after ⊤ nowhere first c s r.0 a.numbered a.sent ages a.places' r.1.0 q.1 (λ k. omega (arith, bytes, short)) back.0 (λ k e. refl) q.0 y.0 y.1 a.now)

module _ (st : Long) where
  known : (later : List Aged) × Then ⊤ nowhere st.ran.tsn st.ran.session later
  known =
      let x = st.ran in
      known-then x.tsn x.calls (first-of x) x.session [] x.run st.recent st.young st.short (all-backed ⊤ tt x.calls)
      (start ⊤ nowhere x.tsn x.reported x.size x.max x.most x.limits st.small st.some)

  pub near-of : IsNear st.ran.session
  near-of = known.1.now.near

  pub holds-of : HoldsRecent st.ran.session
  holds-of = known.1.now.owned.recent

  pub beside-of : HasBeside nowhere st.ran.tsn st.ran.session
  beside-of = known.1.now.beside tt

  pub distinct-of : are_apart (numbers_of st.ran.session.receiving.receiver.streams) ≡ true
  distinct-of = known.1.now.distinct

  pub next-small : st.ran.session.sending.sender.flight.next_tsn < 2 ^ 32
  next-small = let e = near-of.regular.regular.numbered.next_is in omega (arith, e)

  -- what waits can be sent
  pub ready-of : (now : ℕ) → IsSendable (all_started now st.ran.session.sending.sender.flight.queue).pending
      (all_started now st.ran.session.sending.sender.flight.queue).inflight.chunks
      (all_started now st.ran.session.sending.sender.flight.queue).next_message_id
  ready-of now =
      let t = st.ran.session.sending.sender in
      let k = known.1 in
      (started nowhere k.numbered st.ran.tsn (λ s. number_of s t.streams) now t.flight.queue t.flight.next_tsn k.sent k.now.young.holds.held.stands).sendable

  -- no way from the TSN that is next to itself
  pub same-way : distance st.ran.session.sending.sender.flight.next_tsn st.ran.session.sending.sender.flight.next_tsn ≡ 0
  unfolding distance
  same-way = let small = next-small in omega (arith, small)

-- ## The first one

pub record Begins (reported : Reported) (tsn size max most : ℕ) (limits : Option Limits) : Type 0 where
  pub st : Long
  pub there : st.ran.session ≡ at_start_with reported tsn size max most limits
  pub calls : st.ran.calls ≡ []
  pub ages : [] ≡ ages-of st
  pub given : given-of st ≡ 0

pub begins : (reported : Reported) (tsn size max most : ℕ) (limits : Option Limits) → tsn < 2 ^ 32 → 0 < size → Begins reported tsn size max most limits
begins reported tsn size max most limits small some = record {
  st = record {
    ran = record {
      reported = reported;
      tsn = tsn;
      size = size;
      max = max;
      most = most;
      limits = limits;
      calls = [];
      session = at_start_with reported tsn size max most limits;
      run = refl;
    };
    small = small;
    some = some;
    short = omega arith;
    recent = tt;
    young = tt;
    passed = tt;
  };
  there = refl;
  calls = refl;
  ages = refl;
  given = refl;
}

-- ## Where few TSNs were given out

abbrev pub stand-of : (st : Long) → given-of st < 2 ^ 31 → StandAny
stand-of st few = record {
  reported = st.ran.reported;
  tsn = st.ran.tsn;
  size = st.ran.size;
  max = st.ran.max;
  most = st.ran.most;
  limits = st.ran.limits;
  calls = st.ran.calls;
  session = st.ran.session;
  run = st.ran.run;
  small = st.small;
  some = st.some;
  few = few;
  short = st.short;
}
