-- Sessions of every call in a whole life: each message of which no fragment but the first begins one is a write, and no write is read twice.
use Rattle.sctp_delivery.proofs.Names.{common_steps, nat_tests, ◌+◌, ◌≡◌, ℕ, ◌<◌, ◌≤◌, ◌^◌, Bool, true, false, not, List, [], ◌∷◌, length, Option, inl, refl}
use Rattle.sctp_delivery.proofs.Names.{ap, sym, subst, ◌∙◌, arith, AllPass-from_list_all, ChunkPayloadData, Contains, Limits, Message, Session, Stand, Ledger}
use Rattle.sctp_delivery.proofs.Names.{StandAt, bytes_written, filter, list_all, list_any, is_complete, is_on, of_receiver, of_sender, or-left, or-right}
use Rattle.sctp_delivery.proofs.Names.{stream_of, held_weight, ⊤}
use Rattle.sctp_receiver.specs.Inbound.{numbers_of}
use Rattle.sctp_receiver.proofs.StreamCosts.{are_apart}
use Rattle.sctp_receiver.proofs.Closed.{stays-apart}
use Rattle.sctp_sender.specs.declared.sender.Reported.{Reported}
use Rattle.sctp_sender.specs.declared.sender.Reported.TheVariants.{Drop, Keep}
use Rattle.sctp_delivery.specs.EveryCall.{SenderOther, AnyCall, AreSingleWhereSteady, AreSingleWritesOfTheirOwn, AreWritesWhereSingle, FollowsAny, ReceiverDoes}
use Rattle.sctp_delivery.specs.EveryCall.{ReceiverOther, RunsAny, as_receiver_run, is_single, is_steady, makes, of_receiving, of_sending, renews}
use Rattle.sctp_delivery.specs.EveryCall.{single_messages}
use Rattle.sctp_delivery.specs.EveryRecent.{AreRecentAny, AreYoungAny, IsRecentAny, IsYoungAny, aged_any}
use Rattle.sctp_delivery.specs.Messages.{AreParts}
use Rattle.sctp_delivery.specs.ReceiverCalls as incoming
use Rattle.sctp_delivery.specs.Recent.{Aged, HoldsRecent}
use Rattle.sctp_delivery.specs.Returns.{at_start_with}
use Rattle.sctp_delivery.specs.Session.{count_in_flight}
use Rattle.sctp_delivery.proofs.Calls.{contains-forgotten, forget, numbered_after}
use Rattle.sctp_delivery.proofs.Cases.{at-if}
use Rattle.sctp_delivery.proofs.Delivered.{HoldsOn, beside-on, found-sent-on, held-first, sender-step-on}
use Rattle.sctp_delivery.proofs.Every.{Every, every-of-all, every-tested}
use Rattle.sctp_delivery.proofs.EveryHolds.{HasBeside, WhereBack, beside-after, beside-start, other-step}
use Rattle.sctp_delivery.proofs.EveryRead.{none-begin, single-steady, writes-single}
use Rattle.sctp_delivery.proofs.EveryRecent.{flew-so, near-after, near-start, stays-so}
use Rattle.sctp_delivery.proofs.EveryRuns as runs
use Rattle.sctp_delivery.proofs.HeldWeights.{weighs-so}
use Rattle.sctp_delivery.proofs.Kept.{held-weighs}
use Rattle.sctp_delivery.proofs.OnceWritten.{places, stand}
use Rattle.sctp_delivery.proofs.Recent.{IsNear}
use Rattle.sctp_delivery.proofs.Sent.{Entry, Numbered, fragment, part-line}
use Rattle.sctp_delivery.proofs.Sessions as sessions
use Rattle.sctp_delivery.proofs.Sessions.{all-pass}
use Rattle.sctp_delivery.proofs.TakenAgain.{Flies}
use Rattle.sctp_delivery.proofs.TakenCalls.{Knows}
use Rattle.sctp_delivery.proofs.TsnPlaces.{IsGiven}
use Rattle.sctp_delivery.proofs.YoungOwn.{AreDistinct, AreOther, AreRead, IsDone, IsOwned, IsSole, apart, read-kept, receiver-owned, sender-owned, sole-are}
use Rattle.sctp_delivery.proofs.OrderedMessages.{is_in_order}
use Rattle.sctp_delivery.proofs.SpreadEntries.{begun_to}
use Rattle.sctp_delivery.proofs.UnwrappedHolds.{Where}
use Rattle.sctp_delivery.proofs.YoungOrder.{AreTurned, turned-more}
use Rattle.sctp_delivery.proofs.YoungReads.{IsYoungOn, none-fail, receiver-young, sender-young}

-- the receiver did the call
pub read-same : (call : ReceiverOther) (s v : Session) → ReceiverDoes call s v → v.receiving.read ≡ s.receiving.read
read-same h0 h1 h2 h3 = grind (arith, nat_tests, common_steps)

module _ (going : ℕ → Bool) (first : ℕ) where
  -- ## A call by which no chunk is taken, and none is read: no stream holds more then

  module _ (s v : Session) (ns : List Numbered) (sent : List Entry) (ages : List Aged) (ps : List ℕ)
      (less : (w : ChunkPayloadData → ℕ) (st : ℕ) → held_weight w (stream_of st v.receiving.receiver) ≤ held_weight w (stream_of st s.receiving.receiver))
      (read : v.receiving.read ≡ s.receiving.read) where
    pub quiet-young : HoldsOn going first v ns sent → IsYoungOn going first s ns sent ages → IsYoungOn going first v ns sent ages
    quiet-young holds i = grind (arith, nat_tests, common_steps, held-weighs, none-fail, all-pass)

    module _ (flew : (t : ℕ) → Flies t v → Flies t s)
        (knows : (t : ℕ) → Flies t s → Knows t s.receiving.receiver → Knows t v.receiving.receiver) where
      done : (stream : ℕ) (c : ChunkPayloadData) (w : Numbered) (after : List ℕ) (xs : List Entry) → IsDone s sent stream c w after xs
          → IsDone v sent stream c w after xs
      done stream c w after xs d = grind (arith, nat_tests, common_steps)

      pub quiet-owned : HoldsRecent v → IsOwned s sent ps → IsOwned v sent ps
      quiet-owned recent h = grind (arith, nat_tests, common_steps, read-kept, done)

-- ## Each call

-- where the call takes back what a SACK no longer reports
abbrev pub IsBacked : Type 0 → AnyCall → Type 0
IsBacked K (makes call) = ⊤
IsBacked K (of_sending call) = WhereBack call K
IsBacked K (of_receiving call) = ⊤

abbrev pub AreBacked : Type 0 → List AnyCall → Type 0
AreBacked K [] = ⊤
AreBacked K (c ∷ cs) = IsBacked K c × AreBacked K cs

pub all-backed : (K : Type 0) → K → (cs : List AnyCall) → AreBacked K cs
all-backed K k [] = tt
all-backed K k (makes call ∷ cs) = (tt, all-backed K k cs)
all-backed K k (of_sending call ∷ cs) = grind (arith, nat_tests, common_steps, all-backed K k cs)
all-backed K k (of_receiving call ∷ cs) = (tt, all-backed K k cs)

pub back-map : {K T : Type 0} (call : SenderOther) → WhereBack call K → (K → T) → WhereBack call T
back-map h0 h1 h2 = grind (arith, nat_tests, common_steps)

-- K: fewer than 2^64 bytes are written, where a call takes back what a SACK no longer reports
module _ (K : Type 0) (going : ℕ → Bool) (first : ℕ) where
  pub record IsNow (s : Session) (ns : List Numbered) (sent : List Entry) (ages : List Aged) (ps : List ℕ) : Type 0 where
    pub near : IsNear s
    pub young : IsYoungOn going first s ns sent ages
    pub owned : IsOwned s sent ps
    pub beside : K → HasBeside going first s
    pub distinct : are_apart (numbers_of s.receiving.receiver.streams) ≡ true

  pub record Then (s : Session) (ages : List Aged) : Type 0 where
    pub numbered : List Numbered
    pub sent : List Entry
    pub places' : List ℕ
    pub now : IsNow s numbered sent ages places'

  unfoldable pub after : (c : AnyCall) (s v : Session) (ns : List Numbered) (sent : List Entry) (ages : List Aged) (ps : List ℕ) → FollowsAny c s v
      → count_in_flight v < 2 ^ 31 → (K → bytes_written v < 2 ^ 64) → IsBacked K c → ((r : ℕ) → renews r c ≡ true → going r ≡ false) → IsRecentAny c s
      → IsYoungAny c ages → HoldsRecent v → IsNow s ns sent ages ps → Then v (aged_any c s v ages)
  after (makes (of_sender call)) s v ns sent ages ps f few short back off q y recent i =
      let k = near-after (makes (of_sender call)) s v few f q i.near in
      let x = sender-step-on going first call s v ns sent f i.young.holds in
      record {
        numbered = numbered_after call ns;
        sent = x.more;
        places' = ps;
        now = record {
          near = k;
          young = sender-young going first call s v ns sent ages f i.young recent;
          owned = sender-owned going first call s v ns sent ages f i.young recent few i.near k ps i.owned;
          beside = λ k'. beside-after going first (makes (of_sender call)) s v f i.near.few few (short k') off k.regular (i.beside k');
          distinct = subst (λ (y : Stand). are_apart (numbers_of y.receiver.streams) ≡ true) (sym (ap (λ (y : Session). y.receiving) f.after)) i.distinct;
        };
      }
  after (makes (of_receiver call)) s v ns sent ages ps f few short back off q y recent i =
      let k = near-after (makes (of_receiver call)) s v few f q i.near in
      let o = receiver-owned going first call s v ns sent ages f i.young y recent few q i.near ps i.owned in
      record {
        numbered = ns;
        sent = sent;
        places' = o.0;
        now = record {
          near = k;
          young = receiver-young going first call s v ns sent ages f i.young y;
          owned = o.1;
          beside = λ k'. beside-after going first (makes (of_receiver call)) s v f i.near.few few (short k') off k.regular (i.beside k');
          distinct = stays-apart (incoming.as_run call) s.receiving.receiver v.receiving.receiver f.step.receiver i.distinct;
        };
      }
  after (of_sending call) s v ns sent ages ps f few short back off q y recent i =
      let k = near-after (of_sending call) s v few f q i.near in
      let same = ap (λ (x : Session). x.receiving) f.after in
      let less : (w : ChunkPayloadData → ℕ) (st : ℕ) → held_weight w (stream_of st v.receiving.receiver)
      ≤ held_weight w (stream_of st s.receiving.receiver) = λ w st. (
      let e = ap (λ (x : Stand). held_weight w (stream_of st x.receiver)) same in omega (arith, e)) in
      let read = ap (λ (x : Stand). x.read) same in
      record {
        numbered = ns;
        sent = sent;
        places' = ps;
        now = record {
          near = k;
          young = quiet-young going first s v ns sent ages ps less read
              (other-step going first s v ns sent i.young.holds call (back-map call back i.beside) off f) i.young;
          owned = quiet-owned going first s v ns sent ages ps less read (flew-so s v few i.near call f)
              (λ t fl e. subst (λ (x : Stand). Knows t x.receiver) (sym same) e) recent i.owned;
          beside = λ k'. beside-after going first (of_sending call) s v f i.near.few few (short k') off k.regular (i.beside k');
          distinct = subst (λ (x : Stand). are_apart (numbers_of x.receiver.streams) ≡ true) (sym same) i.distinct;
        };
      }
  after (of_receiving call) s v ns sent ages ps f few short back off q y recent i =
      let k = near-after (of_receiving call) s v few f q i.near in
      let sending = ap (λ (x : Session). x.sending) f.after in
      let less : (w : ChunkPayloadData → ℕ) (st : ℕ) → held_weight w (stream_of st v.receiving.receiver)
      ≤ held_weight w (stream_of st s.receiving.receiver) = λ w st. weighs-so w st call s v i.distinct f in
      let read = read-same call s v f in
      record {
        numbered = ns;
        sent = sent;
        places' = ps;
        now = record {
          near = k;
          young = quiet-young going first s v ns sent ages ps less read
              (beside-on going first s v ns sent sending (ap (λ (x : Session). x.made) f.after) (ap (λ (x : Session). x.written) f.after) i.young.holds)
              i.young;
          owned = quiet-owned going first s v ns sent ages ps less read
              (λ t fl. subst (λ (l : Ledger). IsGiven l.sender.flight.acked_tsn (length l.sender.flight.queue.inflight.chunks) t) sending fl)
              (λ t fl e. stays-so s v few i.near t fl call f q e) recent i.owned;
          beside = λ k'. beside-after going first (of_receiving call) s v f i.near.few few (short k') off k.regular (i.beside k');
          distinct = stays-apart (as_receiver_run call) s.receiving.receiver v.receiving.receiver f.step.receiver i.distinct;
        };
      }

  all-then : (cs : List AnyCall) (s new : Session) (ages : List Aged) (r : RunsAny s cs new) → AreRecentAny s cs new r → AreYoungAny ages s cs new r
      → (K → bytes_written new < 2 ^ 64) → AreBacked K cs → ((q : ℕ) → list_any (renews q) cs ≡ true → going q ≡ false) → Then s ages
      → (later : List Aged) × Then new later
  all-then [] s new ages r q y short back off a = (ages, subst (λ x. Then x ages) (sym r) a)
  all-then (c ∷ cs) s new ages r q y short back off a =
      let bytes = runs.grows cs r.0 new r.1.1 in
      all-then cs r.0 new (aged_any c s r.0 ages) r.1.1 q.2 y.2 short back.1 (λ k e. off k (or-right (renews k c) (list_any (renews k) cs) e))
      (after c s r.0 a.numbered a.sent ages a.places' r.1.0 q.1 (λ k. let b = short k in omega (arith, bytes, b)) back.0
      (λ k e. off k (or-left (renews k c) (list_any (renews k) cs) e)) q.0 y.0 y.1 a.now)

  unfoldable pub start : (reported : Reported) (size max most : ℕ) (limits : Option Limits) → first < 2 ^ 32 → 0 < size
      → Then (at_start_with reported first size max most limits) []
  start Drop size max most limits small some = record {
    numbered = [];
    sent = [];
    places' = [];
    now = record {
      near = near-start Drop first size max most limits small;
      young = record {
        holds = record { held = held-first going first size max most limits small some; made = tt; writes = refl; placed = tt };
        placed = tt;
        held = λ st. refl;
        read = tt;
      };
      owned = record { single = λ st t. omega arith; missing = λ t lt fl off st. refl; once = (tt, tt); recent = λ st. refl };
      beside = λ k. beside-start going first Drop size max most limits small some;
      distinct = refl;
    };
  }
  start Keep size max most limits small some =
      let h = held-first going first size max most limits small some in
      record {
        numbered = [];
        sent = [];
        places' = [];
        now = record {
          near = near-start Keep first size max most limits small;
          young = record {
            holds = record {
              held = record { stands = h.stands; open' = h.open'; sized = h.sized; apart = h.apart; size = h.size };
              made = tt;
              writes = refl;
              placed = tt;
            };
            placed = tt;
            held = λ st. refl;
            read = tt;
          };
          owned = record { single = λ st t. omega arith; missing = λ t lt fl off st. refl; once = (tt, tt); recent = λ st. refl };
          beside = λ k. beside-start going first Keep size max most limits small some;
          distinct = refl;
        };
      }

-- ## Some of the messages

-- the turn of a message, whose first fragment has the place q, before these, of which some are left
module _ (st q : ℕ) (sent : List Entry) (all some : List Message) (ps qs : List ℕ)
    (left : (j : ℕ) → AreTurned st sent j all ps → AreTurned st sent j some qs) where
  abbrev Turn : Bool → ℕ → List Message → List ℕ → Type 0
  Turn b k ms xs = Where b ((i : ℕ) × (i < k) × (q ≤ length sent) × (begun_to st q sent ≡ i + 1) × AreTurned st sent i ms xs) (AreTurned st sent k ms xs)

  turn-here : (b : Bool) (k : ℕ) → Turn b k all ps → Turn b k some qs
  turn-here true k u = (u.0, u.1, u.2, u.3, left u.0 u.4)
  turn-here false k u = left k u

  turn-past : (b : Bool) (k : ℕ) → Turn b k all ps → AreTurned st sent k some qs
  turn-past true k u = let lt = u.1 in turned-more st sent sent (inl refl) u.0 k (omega (arith, lt)) some qs (left u.0 u.4)
  turn-past false k u = left k u

-- those that pass a test have places of their own, too, and their turns
module _ (s : Session) (sent : List Entry) (p : Message → Bool) where
  abbrev pub ArePicked : (all some : List Message) (ps : List ℕ) → Type 0
  ArePicked all some ps =
      (qs : List ℕ) × AreRead s sent some qs × AreDistinct qs × ((x : ℕ) → AreOther x ps → AreOther x qs)
      × ((st k : ℕ) → AreTurned st sent k all ps → AreTurned st sent k some qs)

  pub picked : (ms : List Message) (ps : List ℕ) → AreRead s sent ms ps → AreDistinct ps → ArePicked ms (filter p ms) ps
  picked [] [] a d = ([], tt, tt, λ x o. o, λ st k t. tt)
  picked [] (q ∷ ps) a d = absurd a
  picked (m ∷ ms) [] a d = absurd a
  picked (m ∷ ms) (q ∷ ps) a d =
      let r = picked ms ps a.1 d.1 in
      at-if (λ ns. ArePicked (m ∷ ms) ns (q ∷ ps)) (p m)
      (λ e. (
        q ∷ r.0,
        (a.0, r.1),
        (r.3 q d.0, r.2),
        λ x o. (o.0, r.3 x o.1),
        λ st k t. turn-here st q sent ms (filter p ms) ps r.0 (r.4 st) (is_in_order st m) k t,
      ))
      (λ e. (r.0, r.1, r.2, λ x o. r.3 x o.1, λ st k t. turn-past st q sent ms (filter p ms) ps r.0 (r.4 st) (is_in_order st m) k t))

-- ## The laws

-- each message of which no fragment but the first begins one
pub soles-of : (reported : Reported) (first size max most : ℕ) (limits : Option Limits) (cs : List AnyCall) (s : Session)
    → RunsAny (at_start_with reported first size max most limits) cs s → (sent : List Entry) → Every (IsSole sent) (single_messages s.receiving.read)
soles-of reported first size max most limits cs s run sent =
    let read = s.receiving.read in
    let whole = runs.messages reported first size max most limits cs s run in
    let on-each =
    sessions.read-on-so first most limits (runs.receiver_calls cs) s (runs.receiver-runs cs (at_start_with reported first size max most limits) s run) in
    every-tested (IsSole sent) (λ m. is_single m.fragments) read
    (every-of-all (λ m. is_single m.fragments ≡ true → IsSole sent m) read (λ k m lt e. (
      AllPass-from_list_all (λ x. is_complete x.fragments) read whole.0 k m lt,
      AllPass-from_list_all (λ x. list_all (is_on x.stream) x.fragments) read on-each k m lt,
      λ low g c ds is. none-begin ds (ap is_single (sym is) ∙ e),
    )))

module _ (reported : Reported) (first size max most : ℕ) (limits : Option Limits) (cs : List AnyCall) (s : Session)
    (run : RunsAny (at_start_with reported first size max most limits) cs s) (small : first < 2 ^ 32) (some : 0 < size)
    (q : AreRecentAny (at_start_with reported first size max most limits) cs s run)
    (y : AreYoungAny [] (at_start_with reported first size max most limits) cs s run) (short : bytes_written s < 2 ^ 64) where
  all : (later : List Aged) × Then ⊤ (is_steady cs) first s later
  all =
      all-then ⊤ (is_steady cs) first cs (at_start_with reported first size max most limits) s [] run q y (λ k. short) (all-backed ⊤ tt cs) (λ k e. ap not e)
      (start ⊤ (is_steady cs) first reported size max most limits small some)

  a : Then ⊤ (is_steady cs) first s all.0
  a = all.1

  abbrev h : HoldsOn (is_steady cs) first s a.numbered a.sent
  h = a.now.young.holds

  on-each : sessions.AreOn s
  on-each =
      sessions.read-on-so first most limits (runs.receiver_calls cs) s (runs.receiver-runs cs (at_start_with reported first size max most limits) s run)

  pub written : AreWritesWhereSingle s
  written = writes-single (is_steady cs) first s a.numbered a.sent h.held.stands.queued.line h.held.stands.queued.indexed h.held.stands.begun'.once h.writes
      on-each (runs.messages reported first size max most limits cs s run) a.now.young.read

  pub single : AreSingleWhereSteady cs s
  single k m lt = single-steady (is_steady cs) first s a.numbered a.sent h.held.stands.queued.line h.held.stands.queued.indexed h.held.stands.begun'.once
      h.writes on-each (runs.messages reported first size max most limits cs s run) a.now.young.read k m lt

  pub own : AreSingleWritesOfTheirOwn s
  own =
      let ns = a.numbered in
      let sent = a.sent in
      let once = h.held.stands.begun'.once in
      let line = h.held.stands.queued.line in
      let read = single_messages s.receiving.read in
      let x = picked s sent (λ m. is_single m.fragments) s.receiving.read a.places' a.now.owned.once.0 a.now.owned.once.1 in
      let e = sole-are ns first sent once line s read x.0 x.1 (soles-of reported first size max most limits cs s run sent) in (
        places ns sent once read e.0,
        subst (λ ws. StandAt ws read (places ns sent once read e.0)) h.writes (stand ns sent once read e.0),
        apart ns first sent once line s read e.0 x.0 e.1 x.2,
      )

  -- each DATA chunk that was made is a part of a write
  pub parts : AreParts s
  parts d c =
      let x = found-sent-on (is_steady cs) a.sent s.made d h.made c in
      let f = (part-line a.numbered first a.sent (fragment d x.0 x.1 ∷ x.2) x.3 h.held.stands.queued.line).0 in (
        forget x.0,
        subst (λ ws. Contains ws (forget x.0)) h.writes (contains-forgotten a.numbered x.0 f.written),
        record { stream = f.stream; payload_type = f.payload; bytes = (f.part.0, x.1, f.part.1) },
      )
