-- Where each call that a datagram brings is plain, two associations stand in sessions of a sender that keeps what is reported.
use Rattle.std.proofs.Common.{◌≡◌, ◌+◌, ◌<◌, ℕ, false, true, List, [], ◌∷◌, refl, ap, inl, subst, ◌∙◌, arith}
use Rattle.sctp_association.proofs.FewHosts.{each-few-joined}
use Rattle.sctp_association.proofs.Hosts.{Fits}
use Rattle.sctp_association.proofs.Long.{Long, first-of}
use Rattle.sctp_association.proofs.LongHosts.{Joined, each-joined, turned}
use Rattle.sctp_association.proofs.HostSteps.{contains-none}
use Rattle.sctp_association.proofs.OneLife.{steady-calls, unbroken-calls}
use Rattle.sctp_association.proofs.Rules.{moves-both}
use Rattle.sctp_association.specs.Arrivals.{Arrival, Halves, acks, begins, counts, hears, passes, receives, renews, restarts}
use Rattle.sctp_association.specs.Hosts.{AreMovesByRule, ArePlainMoves, Delivers, DeliversPlain, EachDelivers, Host, Hosts, IsPlain, Move, MovesTo, Way}
use Rattle.sctp_association.specs.Hosts.{WroteFew, first_host, hosts}
use Rattle.sctp_association.specs.OneLife.{IsUntouched, WasBrought, others_of}
use Rattle.sctp_association.specs.Young.{DeliversPlainYoung, EachPlainDeliversYoung, Ran}
use Rattle.sctp_delivery.proofs.Every.{Every, every-of, every-of-all}
use Rattle.sctp_delivery.proofs.EveryYoung as young
use Rattle.sctp_delivery.proofs.EveryYoungOrder as young_order
use Rattle.sctp_delivery.proofs.PlainRuns as laws
use Rattle.std.specs.Prelude.{◌≢◌, All, AllPairs, if◌then◌else◌, not}
use Rattle.sctp_delivery.specs.EveryCall as any
use Rattle.sctp_delivery.specs.EveryCall.{is_single, single_messages}
use Rattle.sctp_delivery.specs.EveryOrder.{is_unbroken}
use Rattle.sctp_delivery.specs.Messages.{StandAt}
use Rattle.sctp_delivery.specs.Order.{ordered_places}
use Rattle.sctp_receiver.specs.ReceiverRuns.{Message}
use Rattle.sctp_delivery.specs.EveryCall.{AnyCall, RunsAny, SenderDoes, makes, of_receiving, of_sending, tsns_given_any}
use Rattle.sctp_delivery.specs.Recent.{Aged}
use Rattle.sctp_delivery.specs.Returns as so
use Rattle.sctp_delivery.specs.Returns.{CallOrReturn, RunsWithReturns, TakesBack, tsns_given_so}
use Rattle.sctp_delivery.specs.Session.{Session}
use Rattle.sctp_delivery.specs.Stand.{StandSo}
use Rattle.sctp_receiver.specs.ReceiverRuns as runs
use Rattle.sctp_util.specs.Serial.{distance}

-- ## No call that most sessions do not have

abbrev NoCall : AnyCall → Type 0
NoCall c = ⊥

fits : (w : Way) (a : Arrival) (h : Halves) → IsPlain w a h → IsPlain w a h → Fits NoCall NoCall w a h
fits w (receives (runs.takes c arrival)) h p q = tt
fits w (receives (runs.opens stream)) h p q = tt
fits w (receives (runs.forwards f)) h p q = inl p
fits w (receives _) h p q = absurd p
fits w (hears (acks sack back gone)) h p q = tt
fits w (hears (passes tsn gone)) h p q = tt
fits w (hears (counts count)) h p q = tt
fits w (hears (restarts stream)) h p q = absurd p
fits w (begins tsn max limits) h p q = p
fits w (renews tsn size max) h p q = absurd p

-- ## The session

-- the same calls as such a session has them
record Plainly (old : Session) (cs : List AnyCall) (new : Session) (r : RunsAny old cs new) : Type 0 where
  calls : List CallOrReturn
  run : RunsWithReturns old calls new
  given : tsns_given_so old calls new run ≡ tsns_given_any old cs new r

plainly : (cs : List AnyCall) (old new : Session) (r : RunsAny old cs new) → Every NoCall (others_of cs) → Plainly old cs new r
plainly [] old new r e = record { calls = []; run = r; given = refl }
plainly (makes c ∷ cs) old new r e =
    let g = plainly cs r.0 new r.1.1 e in
    record {
      calls = so.makes c ∷ g.calls;
      run = (r.0, (r.1.0, g.run));
      given = ap (λ n. distance old.sending.sender.flight.next_tsn r.0.sending.sender.flight.next_tsn + n) g.given;
    }
plainly (of_sending (any.takes_back sack back) ∷ cs) old new r e =
    let g = plainly cs r.0 new r.1.1 e in
    let f : SenderDoes (any.takes_back sack back) old r.0 = r.1.0 in
    let t : TakesBack sack back old r.0 = record {
      handed = f.handed;
      step = f.step;
      exact = f.exact;
      accepted = f.accepted.0;
      answered = f.accepted.1;
      after = f.after;
    } in
    record {
      calls = so.takes_back sack back ∷ g.calls;
      run = (r.0, (t, g.run));
      given = ap (λ n. distance old.sending.sender.flight.next_tsn r.0.sending.sender.flight.next_tsn + n) g.given;
    }
plainly (of_sending (any.closes stream) ∷ cs) old new r e = absurd e.0
plainly (of_sending (any.resets stream) ∷ cs) old new r e = absurd e.0
plainly (of_receiving call ∷ cs) old new r e = absurd e.0

-- ## The law

module _ (f b : Way) (made back : List Aged) (x z : Host) (j : Joined NoCall NoCall f b made back x z) where
  abbrev r : Ran
  r = j.forth.ran

  abbrev st : Long
  st = j.forth

  -- nothing came by which a session of every call has more
  brought : Every (WasBrought [] []) (others_of r.calls)
  brought = every-of NoCall (WasBrought [] []) (λ c e. absurd e) (others_of r.calls) j.goes.only

  untouched : (stream : ℕ) → IsUntouched [] [] stream
  untouched stream = record {
    begun = λ c. contains-none _ c.1;
    closed = λ c. contains-none _ c.1;
    reset = λ last c. contains-none _ c.1;
    noted = λ tsn c. contains-none _ c.1;
    passed = λ g c. contains-none _ c.1;
  }

  single : All (λ (m : Message). is_single m.fragments ≡ true) r.session.receiving.read
  single k m lt =
      young.single r.reported r.tsn r.size r.max r.most r.limits r.calls r.session r.run st.small st.some st.recent st.young st.short k m lt
      (ap not (steady-calls [] [] r.calls _ brought (untouched _).begun))

  singles : single_messages r.session.receiving.read ≡ r.session.receiving.read
  singles = all-pass r.session.receiving.read (every-of-all (λ (m : Message). is_single m.fragments ≡ true) r.session.receiving.read single)
    where
      all-pass : (ms : List Message) → Every (λ (m : Message). is_single m.fragments ≡ true) ms → single_messages ms ≡ ms
      all-pass [] e = refl
      all-pass (m ∷ ms) e =
          ap (λ b. if b then m ∷ single_messages ms else single_messages ms) e.0 ∙ ap (λ (l : List Message). m ∷ l) (all-pass ms e.1)

  delivers-in : DeliversPlain f x z r.session
  delivers-in =
      let ws = r.session.written in
      let o = subst (λ (ms : List Message). (places : List ℕ) × StandAt ws ms places × AllPairs (λ p q. p ≢ q) places
      × ((stream : ℕ) → is_unbroken r.calls stream ≡ true → AllPairs (λ p q. p < q) (ordered_places stream ms places))) singles
      (young_order.in-order r.reported r.tsn r.size r.max r.most r.limits r.calls r.session r.run st.small st.some st.recent st.young st.passed
      st.short) in
      record {
        sends = j.goes.sends;
        receives = j.goes.receives;
        written = j.goes.written;
        read = j.goes.read;
        writes = λ k m lt.
            young.written r.reported r.tsn r.size r.max r.most r.limits r.calls r.session r.run st.small st.some st.recent st.young st.short k m lt
            (single k m lt);
        own = subst (λ (ms : List Message). (places : List ℕ) × StandAt ws ms places × AllPairs (λ p q. p ≢ q) places) singles
            (young.own r.reported r.tsn r.size r.max r.most r.limits r.calls r.session r.run st.small st.some st.recent st.young st.short);
        order = (o.0, o.1, o.2, λ stream. o.3 stream (unbroken-calls [] [] r.calls false stream brought (untouched stream)));
      }

  delivers-young : DeliversPlainYoung f x z
  delivers-young = record { ran = r; delivers = delivers-in }

  delivers : WroteFew x → Delivers f x z
  delivers wrote =
      let p = plainly r.calls (first-of r) r.session r.run j.goes.only in
      let given = p.given in
      let used = j.goes.given in
      let cut = wrote.0 in
      let so : StandSo = record {
        reported = r.reported;
        tsn = r.tsn;
        size = r.size;
        max = r.max;
        most = r.most;
        limits = r.limits;
        calls = p.calls;
        session = r.session;
        run = p.run;
        small = st.small;
        some = st.some;
        few = omega (arith, given, used, cut);
        short = st.short;
      } in
      record {
        stand = so;
        delivers = delivers-in;
        ends = laws.others-read so.reported so.tsn so.size so.max so.most so.limits so.calls so.session so.run so.small so.some so.few so.short;
      }

fits-moves : (f b : Way) (moves : List Move) (new : Hosts) (run : MovesTo (hosts (first_host f) (first_host b)) moves new)
    → ArePlainMoves f b (hosts (first_host f) (first_host b)) moves new run
    → AreMovesByRule (Fits NoCall NoCall b) (Fits NoCall NoCall f) (hosts (first_host f) (first_host b)) moves new run
fits-moves f b moves new run plain =
    moves-both (IsPlain b) (IsPlain b) (Fits NoCall NoCall b) (fits b) (IsPlain f) (IsPlain f) (Fits NoCall NoCall f) (fits f) moves
    (hosts (first_host f) (first_host b)) new run plain plain

pub each-delivers : EachDelivers
each-delivers f b moves new run plain fit other one-few other-few =
    let x = (each-few-joined NoCall NoCall f b moves new run (fits-moves f b moves new run plain) fit other one-few other-few).1 in
    let j = x.joined' in (
      delivers f b x.ones x.others new.one new.other j one-few,
      delivers b f x.others x.ones new.other new.one (turned NoCall NoCall f b x.ones x.others new.one new.other j) other-few,
    )

pub each-plain-delivers-young : EachPlainDeliversYoung
each-plain-delivers-young f b moves new run plain young fit other one-short other-short =
    let x = each-joined NoCall NoCall f b moves new run (fits-moves f b moves new run plain) young fit other one-short other-short in
    let j = x.joined' in (
      delivers-young f b x.ones x.others new.one new.other j,
      delivers-young b f x.others x.ones new.other new.one (turned NoCall NoCall f b x.ones x.others new.one new.other j),
    )
