-- A Late as a link does it: the partially sent message of the late slots is abandoned first, then that of each late slot in turn.
use Rattle.sctp_model.proofs.Names.{◌≡◌, ℕ, zero, suc, ◌+◌, ◌-◌, ◌<◌, ◌≤◌, ◌%◌, ◌^◌, Bool, true, false, List, [], ◌∷◌, ◌++◌, length, map, get_or, take, Option}
use Rattle.sctp_model.proofs.Names.{Some, None, refl, ap, sym, ◌∙◌, arith, ◌==◌, ◌&&◌, not, nat_lt, nat_le, fold, find, if◌then◌else◌, ◌||◌, list_all, filter}
use Rattle.sctp_model.proofs.Names.{subst, nat_tests, map-append, fold-append, same-yes, length-mapped, both, Outbound, late_tsns, LinkRecord, message_of}
use Rattle.sctp_model.proofs.Names.{sent_of, is_partially_sent, is_in_flight, tsn_of, place_of, message_at, in_all, written_bytes, released_bytes, growth}
use Rattle.sctp_model.proofs.Names.{after_abandon, late_slots, IsRight, refusal_of, after, takes_memory, IsSetup, message_of_tsn, abandoned_tsn}
use Rattle.sctp_model.proofs.Names.{RefinesOutbound}
use Rattle.std.proofs.Math.Seq.{take-suc, take-length}
use Rattle.sctp_model.specs.declared.event.Event.TheVariants as E
use Rattle.sctp_model.specs.Reply as R
use Rattle.sctp_model.proofs.sender.Shape.{shape}
use Rattle.sctp_model.proofs.sender.Sender.{Sender}
use Rattle.sctp_model.proofs.sender.SenderSteps.{partial-one}
use Rattle.sctp_model.proofs.sender.SenderRun.{Consistent}
use Rattle.sctp_model.proofs.sender.Fronts.{slot-sent}
use Rattle.sctp_model.proofs.sender.Few.{few}
use Rattle.sctp_model.proofs.refinement.abandonment.AbandonedEvents.{IsAbandoning, AllInFlight, abandoning-first, abandoning-next, late-tsns, late-in_flight}
use Rattle.sctp_model.proofs.refinement.abandonment.AbandonedLate.{abandoned-again, dead-then, partial-still}
use Rattle.sctp_model.proofs.refinement.abandonment.AbandonedLink.{place-back}
use Rattle.sctp_model.proofs.refinement.abandonment.Released.{balance-in, released-abandoned}

-- ## The partially sent one first

-- it may be abandoned once more
again-all : (w : LinkRecord) (n : ℕ) (ns : List ℕ) → Sender (shape w) → is_partially_sent w n ≡ true
    → fold after_abandon (after_abandon w n) (filter (is_partially_sent w) ns) ≡ after_abandon w n
again-all w n [] s e = refl
again-all w n (k ∷ ns) s e = by (is_partially_sent w k) refl (again-all w n ns s e)
  where
    twice : after_abandon (after_abandon w n) n ≡ after_abandon w n
    twice = abandoned-again (after_abandon w n) n (dead-then w n n ∙ ap (λ b. b || (message_at w n).abandoned) (same-yes n))

    by : (b : Bool) → is_partially_sent w k ≡ b → fold after_abandon (after_abandon w n) (filter (is_partially_sent w) ns) ≡ after_abandon w n
        → fold after_abandon (after_abandon w n) (if b then k ∷ filter (is_partially_sent w) ns else filter (is_partially_sent w) ns) ≡ after_abandon w n
    by false f h = h
    by true f h =
        let same : n ≡ k = partial-one (shape w) n k s e f in
        ap (λ v. fold after_abandon v (filter (is_partially_sent w) ns)) (ap (after_abandon (after_abandon w n)) (sym same) ∙ twice) ∙ h

pub first-is : (w : LinkRecord) (ts : List ℕ) → Sender (shape w) → abandoned_tsn w (find (λ t. is_partially_sent w (message_of_tsn w t)) ts)
    ≡ fold after_abandon w (filter (is_partially_sent w) (map (message_of_tsn w) ts))
first-is w [] s = refl
first-is w (t ∷ ts) s = grind (arith, nat_tests, again-all, first-is w ts s)

find-yes : (p : ℕ → Bool) (ts : List ℕ) (t : ℕ) → find p ts ≡ Some t → p t ≡ true
find-yes p [] t e = cc
find-yes p (x ∷ ts) t e = grind (arith, nat_tests, find-yes p ts t)

find-none : (p : ℕ → Bool) (ts : List ℕ) → find p ts ≡ None → (j d : ℕ) → j < length ts → p (get_or ts j d) ≡ false
find-none p [] e j d lt = absurd (omega (arith, lt))
find-none p (x ∷ ts) e zero d lt = grind (arith, nat_tests)
find-none p (x ∷ ts) e (suc j) d lt = grind (arith, nat_tests, find-none p ts)

-- what holds of each holds of the one that is found
pub find-among : (p q : ℕ → Bool) (ts : List ℕ) (t : ℕ) → list_all q ts ≡ true → find p ts ≡ Some t → q t ≡ true
find-among p q [] t a e = cc
find-among p q (x ∷ ts) t a e = grind (arith, nat_tests, find-among p q ts t)

pub each-of : (q : ℕ → Bool) (ts : List ℕ) (j d : ℕ) → list_all q ts ≡ true → j < length ts → q (get_or ts j d) ≡ true
each-of q [] j d a lt = absurd (omega (arith, lt))
each-of q (x ∷ ts) zero d a lt = (both (q x) (list_all q ts) a).0
each-of q (x ∷ ts) (suc j) d a lt = each-of q ts j d (both (q x) (list_all q ts) a).1 (omega (arith, lt))

-- none of them is partially sent then
pub none-partial : (w : LinkRecord) (ts : List ℕ) (o : Option ℕ) → Sender (shape w) → o ≡ find (λ t. is_partially_sent w (message_of_tsn w t)) ts → (j d : ℕ)
    → j < length ts → is_partially_sent (abandoned_tsn w o) (message_of_tsn w (get_or ts j d)) ≡ false
none-partial w ts None s e j d lt = find-none (λ t. is_partially_sent w (message_of_tsn w t)) ts (sym e) j d lt
none-partial w ts (Some t) s e j d lt = partial-still w n k ∙ by (is_partially_sent w k) refl
  where
    n : ℕ
    n = message_of_tsn w t

    k : ℕ
    k = message_of_tsn w (get_or ts j d)

    by : (b : Bool) → is_partially_sent w k ≡ b → (b && not (k == n)) ≡ false
    by false f = refl
    by true f = ap not (let z : k ≡ n = partial-one (shape w) k n s f (find-yes (λ t. is_partially_sent w (message_of_tsn w t)) ts t (sym e)) in
        ap (λ i. k == i) (sym z) ∙ same-yes k)

-- ## In turn

-- record v is record w with some messages of TSNs in flight abandoned
pub record IsTurn (w v : LinkRecord) : Type 0 where
  pub setup : IsSetup w.setup
  pub abandoning : IsAbandoning w.setup w v
  pub more : in_all w (released_bytes w) ≤ in_all v (released_bytes v)

pub turn-first : (w : LinkRecord) → IsSetup w.setup → Consistent w.setup w → IsTurn w w
turn-first w is g = record { setup = is; abandoning = abandoning-first w.setup w g; more = omega arith }

-- no more is released than was written
pub turn-written : (w v : LinkRecord) → IsTurn w v → in_all v (released_bytes v) ≤ in_all v (written_bytes v)
turn-written w v t = omega (arith, balance-in w.setup v t.setup t.abandoning.consistent)

-- one more
module _ (w v : LinkRecord) (t : ℕ) (turn : IsTurn w v) (flies : is_in_flight w (place_of w t) ≡ true) where
  abbrev p : ℕ
  p = place_of w t

  abbrev n : ℕ
  n = message_of w (place_of w t)

  low : w.taken ≤ p
  low = let a = (both (nat_le w.taken p) (nat_lt p (length w.slots)) flies).0 in grind (arith, nat_tests)

  high : p < length w.slots
  high = let a = (both (nat_le w.taken p) (nat_lt p (length w.slots)) flies).1 in grind (arith, nat_tests)

  place-same : place_of v t ≡ p
  place-same = ap (λ s. (t + (2 ^ 32 - s.first)) % 2 ^ 32) turn.abandoning.first

  message-here : message_of v p ≡ n
  message-here = ap (λ x. x.message) (turn.abandoning.slot p high)

  message-same : message_of v (place_of v t) ≡ n
  message-same = ap (message_of v) place-same ∙ message-here

  high' : p < length v.slots
  high' = omega (arith, high, turn.abandoning.more)

  sent : 0 < sent_of v n
  sent = subst (λ k. 0 < sent_of v k) message-here (slot-sent (shape v) p turn.abandoning.consistent.sender high')

  -- it is an Abandon that is accepted
  pub turn-accepted : refusal_of v (E.Abandon t) ≡ None
  turn-accepted = grind (arith, nat_tests, place-same, low, high')

  pub turn-is : after v (E.Abandon t) ≡ after_abandon v n
  turn-is = ap (after_abandon v) message-same

  -- which takes no memory where the message is not partially sent
  pub turn-takes : is_partially_sent v n ≡ false → takes_memory v (E.Abandon t) ≡ false
  turn-takes h = ap (is_partially_sent v) message-same ∙ h

  pub turn-next : IsTurn w (after_abandon v n)
  turn-next = record {
    setup = turn.setup;
    abandoning = abandoning-next w.setup w v n sent turn.abandoning;
    more = omega (arith, turn.more, released-abandoned w.setup v n turn.setup turn.abandoning.consistent sent);
  }

  -- the bytes add up
  pub turn-sum : growth w v + growth v (after_abandon v n) ≡ growth w (after_abandon v n)
  turn-sum = omega (arith, turn.more, released-abandoned w.setup v n turn.setup turn.abandoning.consistent sent)

-- after the partially sent one, if any
pub turn-given : (w : LinkRecord) (ts : List ℕ) (o : Option ℕ) → IsSetup w.setup → Consistent w.setup w
    → list_all (λ t. is_in_flight w (place_of w t)) ts ≡ true → o ≡ find (λ t. is_partially_sent w (message_of_tsn w t)) ts → IsTurn w (abandoned_tsn w o)
turn-given w ts None is g all e = turn-first w is g
turn-given w ts (Some t) is g all e =
    turn-next w w t (turn-first w is g) (find-among (λ t. is_partially_sent w (message_of_tsn w t)) (λ t. is_in_flight w (place_of w t)) ts t all (sym e))

pub partial-next : (v : LinkRecord) (n k : ℕ) → is_partially_sent v k ≡ false → is_partially_sent (after_abandon v n) k ≡ false
partial-next v n k h = partial-still v n k ∙ ap (λ b. b && not (k == n)) h

-- record v is record w after so many of these TSNs, and so many bytes have left
pub record GivesInTurn (w v : LinkRecord) (o : Option ℕ) (ts : List ℕ) (count bytes : ℕ) : Type 0 where
  pub turn : IsTurn w v
  pub is : v ≡ fold after_abandon (abandoned_tsn w o) (map (message_of_tsn w) (take count ts))
  pub bytes_are : bytes ≡ growth w v
  pub complete : (j d : ℕ) → j < length ts → is_partially_sent v (message_of_tsn w (get_or ts j d)) ≡ false

module _ (w : LinkRecord) (ts : List ℕ) (o : Option ℕ) (all : list_all (λ t. is_in_flight w (place_of w t)) ts ≡ true) where
  pub begins : (bytes : ℕ) → IsSetup w.setup → Consistent w.setup w → o ≡ find (λ t. is_partially_sent w (message_of_tsn w t)) ts
      → bytes ≡ growth w (abandoned_tsn w o) → GivesInTurn w (abandoned_tsn w o) o ts 0 bytes
  begins bytes is g e b = record { turn = turn-given w ts o is g all e; is = refl; bytes_are = b; complete = none-partial w ts o g.sender e }

  module _ (v : LinkRecord) (count bytes t : ℕ) (i : GivesInTurn w v o ts count bytes) (lt : count < length ts) (t_is : t ≡ get_or ts count t) where
    flies : is_in_flight w (place_of w t) ≡ true
    flies = ap (λ k. is_in_flight w (place_of w k)) t_is ∙ each-of (λ t. is_in_flight w (place_of w t)) ts count t all lt

    pub accepted-now : refusal_of v (E.Abandon t) ≡ None
    accepted-now = turn-accepted w v t i.turn flies

    pub takes-none : takes_memory v (E.Abandon t) ≡ false
    takes-none = turn-takes w v t i.turn flies (ap (λ k. is_partially_sent v (message_of_tsn w k)) t_is ∙ i.complete count t lt)

    pub goes-on : (u : LinkRecord) (more : ℕ) → u ≡ after v (E.Abandon t) → more ≡ growth v u → GivesInTurn w u o ts (count + 1) (bytes + more)
    goes-on u more e b =
        let n = message_of_tsn w t in
        let here : u ≡ after_abandon v n = e ∙ turn-is w v t i.turn flies in
        let next : GivesInTurn w (after_abandon v n) o ts (count + 1) (bytes + more) = record {
          turn = turn-next w v t i.turn flies;
          is = ap (λ r. after_abandon r n) i.is ∙ sym (fold-append after_abandon (abandoned_tsn w o) (map (message_of_tsn w) (take count ts)) (n ∷ []))
              ∙ sym (ap (fold after_abandon (abandoned_tsn w o)) (ap (map (message_of_tsn w)) (taken ∙ ap (λ k. take count ts ++ k ∷ []) (sym t_is))
              ∙ map-append (message_of_tsn w) (take count ts) (t ∷ [])));
          bytes_are = omega (arith, i.bytes_are, b, ap (growth v) here, turn-sum w v t i.turn flies);
          complete = λ j d less. partial-next v n (message_of_tsn w (get_or ts j d)) (i.complete j d less);
        } in
        subst (λ r. GivesInTurn w r o ts (count + 1) (bytes + more)) (sym here) next
      where
        taken : take (count + 1) ts ≡ take count ts ++ get_or ts count t ∷ []
        taken = ap (λ k. take k ts) (let z : count + 1 ≡ suc count = omega arith in z) ∙ take-suc ts count t lt

-- ## The TSNs of the late slots

pub all-fly : (w : LinkRecord) (ps : List ℕ) → w.setup.first < 2 ^ 32 → length w.slots < 2 ^ 32 → AllInFlight w ps
    → list_all (λ t. is_in_flight w (place_of w t)) (map (tsn_of w) ps) ≡ true
all-fly w [] first short a = refl
all-fly w (p ∷ ps) first short a = grind (arith, nat_tests, place-back, all-fly w ps first short)

messages-back : (w : LinkRecord) (ps : List ℕ) → w.setup.first < 2 ^ 32 → length w.slots < 2 ^ 32 → AllInFlight w ps
    → map (message_of_tsn w) (map (tsn_of w) ps) ≡ map (message_of w) ps
messages-back w [] first short a = refl
messages-back w (p ∷ ps) first short a = cc (place-back w p first (omega (arith, a.1, short)), messages-back w ps first short a.2)

module _ (w : LinkRecord) (now : ℕ) (q : Outbound) (ts : List ℕ) (is : IsSetup w.setup) (g : Consistent w.setup w) (made : w.taken ≤ length w.slots)
    (t : RefinesOutbound w q) (listed : ts ≡ late_tsns now q) where
  here : ts ≡ map (tsn_of w) (late_slots w now)
  here = listed ∙ late-tsns w now q g.sender made t

  short : length w.slots < 2 ^ 32
  short = omega (arith, few w.setup w g)

  pub late-fly : list_all (λ t. is_in_flight w (place_of w t)) ts ≡ true
  late-fly = ap (list_all (λ t. is_in_flight w (place_of w t))) here ∙ all-fly w (late_slots w now) is.first short (late-in_flight w now)

  messages-are : map (message_of_tsn w) ts ≡ map (message_of w) (late_slots w now)
  messages-are = ap (map (message_of_tsn w)) here ∙ messages-back w (late_slots w now) is.first short (late-in_flight w now)

  -- it takes memory where some are
  pub late-takes : 0 < length ts → takes_memory w (E.Late now) ≡ true
  late-takes some = let l : 0 < length (late_slots w now) = omega (arith, some, ap length here, length-mapped (tsn_of w) (late_slots w now)) in
      grind (arith, nat_tests)

  in-all : (o : Option ℕ) → o ≡ find (λ t. is_partially_sent w (message_of_tsn w t)) ts
      → fold after_abandon (abandoned_tsn w o) (map (message_of_tsn w) ts) ≡ after w (E.Late now)
  in-all o e = grind (arith, nat_tests, first-is, messages-are, fold-append)

  -- all in all it is the Late
  pub late-done : (v : LinkRecord) (o : Option ℕ) (bytes : ℕ) → o ≡ find (λ t. is_partially_sent w (message_of_tsn w t)) ts
      → GivesInTurn w v o ts (length ts) bytes → IsRight w (E.Late now) (R.Late (length ts) bytes) v
  late-done v o bytes e i = grind (arith, nat_tests, here, length-mapped, take-length, in-all)
