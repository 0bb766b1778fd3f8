-- Sessions of every call in a whole life: on a stream that goes on, ordered messages are read in the order of their writes.
use Rattle.sctp_delivery.proofs.Names.{common_steps, nat_tests, ⊤, ◌≡◌, ℕ, ◌-◌, ◌<◌, ◌^◌, Bool, true, false, not, List, [], ◌∷◌, length, Option, Some, None}
use Rattle.sctp_delivery.proofs.Names.{refl, ap, sym, subst, ◌∙◌, arith, ◌||◌, negated, or-left, or-right, list_any, AllPairs, StandAt, ChunkPayloadData}
use Rattle.sctp_delivery.proofs.Names.{Limits, Message, Modes, OutboundStream, Session, Stand, at_first, modes_from, bytes_written, change_where, has_number}
use Rattle.sctp_delivery.proofs.Names.{of_receiver, of_sender, Drop}
use Rattle.std.proofs.Common.{◌≢◌}
use Rattle.sctp_sender.specs.declared.sender.Reported.{Reported}
use Rattle.sctp_sender.specs.declared.sender.Reported.TheVariants.{Keep}
use Rattle.sctp_sender.specs.declared.sender.flight.kept.TakenBack.{TakenBack}
use Rattle.sctp_sender.specs.Keeping.{after_returns, more_by, restored}
use Rattle.sctp_delivery.specs.EveryCall.{AnyCall, FollowsAny, RunsAny, SenderDoes, SenderOther, is_single, is_steady, makes, of_receiving, of_sending, renews}
use Rattle.sctp_delivery.specs.EveryCall.{single_messages}
use Rattle.sctp_delivery.specs.EveryOrder.{AreSingleReadAsWritten, AreSingleReadInOrder, breaks, goes_on, is_unbroken, opens_incoming, plain_calls}
use Rattle.sctp_delivery.specs.EveryRecent.{ArePassedYoung, AreRecentAny, AreYoungAny, IsPassedYoung, IsRecentAny, IsYoungAny, aged_any}
use Rattle.sctp_delivery.specs.Modes.{Mode, Sending, was_written_ordered}
use Rattle.sctp_delivery.specs.Order.{is_ordered_on, places_where}
use Rattle.sctp_delivery.specs.Recent.{Aged, HoldsRecent}
use Rattle.sctp_delivery.specs.Returns.{at_start_with}
use Rattle.sctp_delivery.specs.Session.{count_in_flight}
use Rattle.sctp_delivery.proofs.Delivered.{HoldsOn, IsReadOf, sender-step-on}
use Rattle.sctp_delivery.proofs.Every.{Every}
use Rattle.sctp_delivery.proofs.EveryRead.{steady-there}
use Rattle.sctp_delivery.proofs.EveryRecent.{flight-same, near-after}
use Rattle.sctp_delivery.proofs.EveryRuns as runs
use Rattle.sctp_delivery.proofs.EveryShadows.{IsReady, left-in-modes, modes-on, ready-after, ready-first}
use Rattle.sctp_delivery.proofs.EveryYoung.{AreBacked, IsBacked, all-backed, IsNow, Then, after, picked, read-same, soles-of, start}
use Rattle.sctp_delivery.proofs.FlightPlaces.{AreKin, kin-itself, kin-long, set-kin}
use Rattle.sctp_delivery.proofs.ModeQueues.{IsFlying}
use Rattle.sctp_delivery.proofs.ModeSessions.{AreInModes, IsAsSaid, changed-in, said-after, said-beside, said-first, starts-ordered}
use Rattle.sctp_delivery.proofs.OnceWritten.{places, stand}
use Rattle.sctp_delivery.proofs.OrderedMessages.{is_in_order}
use Rattle.sctp_delivery.proofs.Sent.{Entry, Numbered}
use Rattle.sctp_delivery.proofs.UnwrappedLaw.{in-order-by, starts}
use Rattle.sctp_delivery.proofs.YoungOrder.{AreTurned, IsTurned, indexed-below, later-turn, other, receiver-turned, sender-turned, turned-first}
use Rattle.sctp_delivery.proofs.YoungOwn.{apart, receiver-owned, sole-are}
use Rattle.sctp_delivery.proofs.YoungReads.{floor}
use Rattle.sctp_delivery.proofs.YoungSpread.{IsSpreadOver, receiver-spread, sender-spread, spread-first}
use Rattle.sctp_delivery.proofs.YoungTurns.{Due}

-- ## What comes back

restored-kin : (bs : List (Option (List ℕ))) (cs : List ChunkPayloadData) → AreKin cs (restored bs cs)
restored-kin [] cs = kin-itself cs
restored-kin (b ∷ bs) [] = tt
restored-kin (None ∷ bs) (c ∷ cs) = (record { stream = refl; kind = refl; number = refl }, restored-kin bs cs)
restored-kin (Some k ∷ bs) (c ∷ cs) = (record { stream = refl; kind = refl; number = refl }, restored-kin bs cs)

restored-flying : (ws : List Sending) (n : ℕ) (bs : List (Option (List ℕ))) (cs : List ChunkPayloadData) → Every (IsFlying ws n) cs
    → Every (IsFlying ws n) (restored bs cs)
restored-flying ws n [] cs e = e
restored-flying ws n (b ∷ bs) [] e = tt
restored-flying ws n (None ∷ bs) (c ∷ cs) e = (e.0, restored-flying ws n bs cs e.1)
restored-flying ws n (Some k ∷ bs) (c ∷ cs) e = grind (arith, nat_tests, common_steps, restored-flying ws n bs cs e.1)

returned-in : (f : ℕ → Mode) (rs : List TakenBack) (ls : List OutboundStream) → AreInModes f ls → AreInModes f (after_returns rs ls)
returned-in f [] ls h = h
returned-in f (r ∷ rs) ls h =
    returned-in f rs (change_where (has_number r.stream) (more_by r.bytes) ls) (changed-in f (has_number r.stream) (more_by r.bytes)
    (record { number = λ l. refl; unordered = λ l. refl; reliability = λ l. refl; value = λ l. refl }) ls h)

-- a call of the sender that most sessions do not have: what is in flight is of the same streams and numbers
other-kin : (call : SenderOther) (s v : Session) → SenderDoes call s v
    → AreKin s.sending.sender.flight.queue.inflight.chunks v.sending.sender.flight.queue.inflight.chunks
other-kin h0 h1 h2 h3 = grind (arith, nat_tests, common_steps, restored-kin, kin-itself)

-- and as the calls say
other-said : (call : SenderOther) (s v : Session) (m : Modes) (ns : List Numbered) (sent : List Entry) → SenderDoes call s v → IsAsSaid m s ns sent
    → IsAsSaid m v ns sent
other-said call s v m ns sent f h = grind (arith, returned-in, restored-flying, left-in-modes, changed-in)

-- where the chunks in flight are of the same streams and numbers
abbrev spread-kin : (going : ℕ → Bool) (first : ℕ) (s v : Session) (sent : List Entry) (ages : List Aged)
    → v.sending.sender.flight.acked_tsn ≡ s.sending.sender.flight.acked_tsn
    → AreKin s.sending.sender.flight.queue.inflight.chunks v.sending.sender.flight.queue.inflight.chunks → IsSpreadOver going first s sent ages
    → IsSpreadOver going first v sent ages
spread-kin going first s v sent ages acked kin p =
    let cs = s.sending.sender.flight.queue.inflight.chunks in
    let ds = v.sending.sender.flight.queue.inflight.chunks in
    record {
      set = record {
        acked = p.set.acked;
        total = let n = kin-long cs ds kin in let t = p.set.total in omega (arith, n, t);
        is = acked ∙ p.set.is;
        set = λ st o. set-kin st sent p.set.acked cs ds kin (p.set.set st o);
      };
      near = p.near;
      names = p.names;
    }

-- ## Each call

module _ (K : Type 0) (going calm : ℕ → Bool) (sub : (st : ℕ) → calm st ≡ true → going st ≡ true) (first : ℕ) where
  -- opened: which streams the receiver opened
  record IsOrderly (opened : ℕ → Bool) (m : Modes) (s : Session) (ns : List Numbered) (sent : List Entry) (ages : List Aged) (ps : List ℕ) : Type 0 where
    spread : IsSpreadOver going first s sent ages
    turned : IsTurned calm first s sent spread.set.acked ps
    said : IsAsSaid m s ns sent
    ready : IsReady calm opened s

  module _ (opened : ℕ → Bool) (m : Modes) (s v : Session) (ns : List Numbered) (sent : List Entry) (ages : List Aged) (ps : List ℕ)
      (few : count_in_flight v < 2 ^ 31) (short : K → bytes_written v < 2 ^ 64) (recent : HoldsRecent v) (i : IsNow K going first s ns sent ages ps)
      (o : IsOrderly opened m s ns sent ages ps) where
    abbrev Turned : Stand → ℕ → Type 0
    Turned y st =
        (e : Due st first sent (floor (length sent)) (o.spread.set.acked - floor (length sent)) y.receiver) × AreTurned st sent e.k y.read ps

    to-turned : ((st : ℕ) → calm st ≡ true → Turned v.receiving st) → IsTurned calm first v sent o.spread.set.acked ps
    to-turned h = record { due = λ st c. (h st c).0; turned = λ st c. (h st c).1 }

    orderly-after : (c : AnyCall) (f : FollowsAny c s v) (back : IsBacked K c) (off : (r : ℕ) → renews r c ≡ true → going r ≡ false) (q : IsRecentAny c s)
        (y : IsYoungAny c ages) → IsPassedYoung c ages → ((st : ℕ) → calm st ≡ true → breaks (opened st) st c ≡ false)
        → IsOrderly (λ k. opened k || opens_incoming k c) (modes_from m (plain_calls (c ∷ []))) v
        (after K going first c s v ns sent ages ps f few short back off q y recent i).numbered
        (after K going first c s v ns sent ages ps f few short back off q y recent i).sent (aged_any c s v ages)
        (after K going first c s v ns sent ages ps f few short back off q y recent i).places'
    unfolding after
    orderly-after (makes (of_sender call)) f back off q y z whole =
        let x = sender-step-on going first call s v ns sent f i.young.holds in
        let k = near-after (makes (of_sender call)) s v few f q i.near in
        record {
          spread = sender-spread going first call s v ns sent ages f i.young.holds few i.near k o.spread;
          turned = sender-turned going calm first call s v ns sent ages f i.young.holds few i.near k o.spread recent ps o.turned;
          said = said-after call s v m ns sent x.more f x.grown i.young.holds.held.sized o.said;
          ready = ready-after calm opened (makes (of_sender call)) s v f whole o.ready;
        }
    orderly-after (makes (of_receiver call)) f back off q y z whole =
        let w = receiver-owned going first call s v ns sent ages f i.young y recent few q i.near ps i.owned in
        let same = ap (λ (x : Session). x.sending) f.after in
        record {
          spread = receiver-spread going first call s v sent ages same o.spread;
          turned = receiver-turned going calm sub first call s v ns sent ages f i.young.holds i.near o.spread i.young.placed y z q ps w.0 w.2 w.1.once.0
              o.turned;
          said = said-beside s v m ns sent same o.said;
          ready = ready-after calm opened (makes (of_receiver call)) s v f whole o.ready;
        }
    orderly-after (of_sending call) f back off q y z whole = record {
      spread = spread-kin going first s v sent ages (flight-same s v few i.near call f).0 (other-kin call s v f) o.spread;
      turned = to-turned (λ st c. subst (λ x. Turned x st) (sym (ap (λ (x : Session). x.receiving) f.after)) (o.turned.due st c, o.turned.turned st c));
      said = other-said call s v m ns sent f o.said;
      ready = ready-after calm opened (of_sending call) s v f whole o.ready;
    }
    orderly-after (of_receiving call) f back off q y z whole =
        let same = ap (λ (x : Session). x.sending) f.after in
        let cs = s.sending.sender.flight.queue.inflight.chunks in
        record {
          spread = spread-kin going first s v sent ages (ap (λ l. l.sender.flight.acked_tsn) same)
              (subst (λ l. AreKin cs l.sender.flight.queue.inflight.chunks) (sym same) (kin-itself cs)) o.spread;
          turned = to-turned (λ st c.
              let d = o.turned.due st c in
              let l = later-turn st first sent (o.spread.set.acked - floor (length sent)) s.receiving.receiver v.receiving.receiver s.receiving.read ps d
              (o.turned.turned st c) (other going st first (sub st c) s v ns sent ages i.young.holds i.near o.spread i.young.placed d (opened st)
              (o.ready.open' st c) o.ready.apart call f q z (whole st c)) in
              (l.0, subst (λ ms. AreTurned st sent l.0.k ms ps) (sym (read-same call s v f)) l.1));
          said = said-beside s v m ns sent same o.said;
          ready = ready-after calm opened (of_receiving call) s v f whole o.ready;
        }

  -- ## Each session

  record Orderly (m : Modes) (s : Session) : Type 0 where
    ages : List Aged
    then' : Then K going first s ages
    opened : ℕ → Bool
    orderly : IsOrderly opened m s then'.numbered then'.sent ages then'.places'

  all-orderly : (opened : ℕ → Bool) (cs : List AnyCall) (s new : Session) (ages : List Aged) (m : Modes) (r : RunsAny s cs new) → AreRecentAny s cs new r
      → AreYoungAny ages s cs new r → ArePassedYoung ages s cs new r → (K → bytes_written new < 2 ^ 64) → AreBacked K cs
      → ((k : ℕ) → list_any (renews k) cs ≡ true → going k ≡ false) → ((k : ℕ) → calm k ≡ true → goes_on (opened k) k cs ≡ true)
      → (a : Then K going first s ages) → IsOrderly opened m s a.numbered a.sent ages a.places' → Orderly (modes_from m (plain_calls cs)) new
  all-orderly opened [] s new ages m r q y z short back off whole a o =
      subst (Orderly m) (sym r) (record { ages = ages; then' = a; opened = opened; orderly = o })
  all-orderly opened (c ∷ cs) s new ages m r q y z short back off whole a o =
      let bytes = runs.grows cs r.0 new r.1.1 in
      let less : K → bytes_written r.0 < 2 ^ 64 = λ k. (let b = short k in omega (arith, bytes, b)) in
      let off' : (k : ℕ) → renews k c ≡ true → going k ≡ false = λ k e. off k (or-left (renews k c) (list_any (renews k) cs) e) in
      let one : (k : ℕ) → calm k ≡ true → (breaks (opened k) k c ≡ false) × (goes_on (opened k || opens_incoming k c) k cs ≡ true) =
      grind (arith, nat_tests, common_steps, not, negated) in
      let b = after K going first c s r.0 a.numbered a.sent ages a.places' r.1.0 q.1 less back.0 off' q.0 y.0 y.1 a.now in
      let p = orderly-after opened m s r.0 a.numbered a.sent ages a.places' q.1 less y.1 a.now o c r.1.0 back.0 off' q.0 y.0 z.0 (λ k e. (one k e).0) in
      subst (λ n. Orderly n new) (modes-on c cs m)
      (all-orderly (λ k. opened k || opens_incoming k c) cs r.0 new (aged_any c s r.0 ages) (modes_from m (plain_calls (c ∷ []))) r.1.1 q.2 y.2 z.1 short back.1
      (λ k e. off k (or-right (renews k c) (list_any (renews k) cs) e)) (λ k e. (one k e).1) b p)

  orderly-start : (reported : Reported) (size max most : ℕ) (limits : Option Limits) (small : first < 2 ^ 32) (some : 0 < size)
      → IsOrderly (λ k. false) at_first (at_start_with reported first size max most limits)
      (start K going first reported size max most limits small some).numbered
      (start K going first reported size max most limits small some).sent [] (start K going first reported size max most limits small some).places'
  unfolding start
  orderly-start Drop size max most limits small some = record {
    spread = spread-first going first size max most limits small;
    turned = turned-first calm first size max most limits small;
    said = said-first first size max most limits;
    ready = ready-first calm Drop first size max most limits;
  }
  orderly-start Keep size max most limits small some =
      let t = turned-first calm first size max most limits small in
      let h = said-first first size max most limits in
      record {
        spread = record {
          set = record { acked = 0; total = omega arith; is = omega (arith, small); set = λ st o. (tt, tt) };
          near = λ st o. omega arith;
          names = tt;
        };
        turned = record { due = t.due; turned = t.turned };
        said = assumption h;
        ready = ready-first calm Keep first size max most limits;
      }

-- ## The laws

module _ (reported : Reported) (first size max most : ℕ) (limits : Option Limits) (cs : List AnyCall) (s : Session)
    (run : RunsAny (at_start_with reported first size max most limits) cs s) (small : first < 2 ^ 32) (some : 0 < size)
    (q : AreRecentAny (at_start_with reported first size max most limits) cs s run)
    (y : AreYoungAny [] (at_start_with reported first size max most limits) cs s run)
    (z : ArePassedYoung [] (at_start_with reported first size max most limits) cs s run) (short : bytes_written s < 2 ^ 64) where
  abbrev modes : Modes
  modes = modes_from at_first (plain_calls cs)

  o : Orderly ⊤ (is_steady cs) (is_unbroken cs) (steady-there false cs) first (modes_from at_first (plain_calls cs)) s
  o =
      all-orderly ⊤ (is_steady cs) (is_unbroken cs) (steady-there false cs) first (λ k. false) cs (at_start_with reported first size max most limits) s []
      at_first run q y z (λ k. short) (all-backed ⊤ tt cs) (λ k e. ap not e) (λ k e. e) (start ⊤ (is_steady cs) first reported size max most limits small some)
      (orderly-start ⊤ (is_steady cs) (is_unbroken cs) (steady-there false cs) first reported size max most limits small some)

  abbrev a : Then ⊤ (is_steady cs) first s o.ages
  a = o.then'

  abbrev h : HoldsOn (is_steady cs) first s a.numbered a.sent
  h = a.now.young.holds

  -- of the messages that pass, each of which begins with an ordered fragment, the places of the writes fall
  in-order-so : (T : ℕ → Message → ℕ → Bool)
      → ((st : ℕ) (m : Message) (x : IsReadOf a.numbered a.sent m) → T st m x.written.0 ≡ true → (x.chunk.unordered ≡ false) × (is_in_order st m ≡ true))
      → (places : List ℕ) × StandAt s.written (single_messages s.receiving.read) places × AllPairs (λ p q. p ≢ q) places
      × ((st : ℕ) → is_unbroken cs st ≡ true → AllPairs (λ p q. p < q) (places_where (T st) (single_messages s.receiving.read) places))
  in-order-so T starts' =
      let ns = a.numbered in
      let sent = a.sent in
      let once = h.held.stands.begun'.once in
      let line = h.held.stands.queued.line in
      let read = single_messages s.receiving.read in
      let x = picked s sent (λ m. is_single m.fragments) s.receiving.read a.places' a.now.owned.once.0 a.now.owned.once.1 in
      let e = sole-are ns first sent once line s read x.0 x.1 (soles-of reported first size max most limits cs s run sent) in (
        places ns sent once read e.0,
        subst (λ ws. StandAt ws read (places ns sent once read e.0)) h.writes (stand ns sent once read e.0),
        apart ns first sent once line s read e.0 x.0 e.1 x.2,
        λ st c.
            let rising = h.held.stands.queued.ranked.rising in
            let k = (o.orderly.turned.due st c).k in
            in-order-by st ns sent once rising h.placed (T st) (starts' st) k read e.0
            (indexed-below st ns first sent once line s rising h.placed (T st) (starts' st) k read e.0 x.0 e.1 (x.4 st k (o.orderly.turned.turned st c))),
      )

  pub in-order : AreSingleReadInOrder cs s
  in-order = in-order-so (λ st m p. is_ordered_on st m) (λ st m x f. let b = starts st m x.chunk x.others x.fragments f in (b.1, b.2))

  pub as-written : AreSingleReadAsWritten cs s
  as-written =
      in-order-so (λ st. was_written_ordered (modes_from at_first (plain_calls cs)).of_writes st)
      (λ st. starts-ordered modes s a.numbered a.sent o.orderly.said h.placed st)
