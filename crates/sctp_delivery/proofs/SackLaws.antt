-- What SACKs and FORWARD-TSNs say after every session in which fewer than 2^31 TSNs are given out.
use Rattle.sctp_delivery.proofs.Names.{common_steps, ◌≡◌, ℕ, ◌+◌, ◌<◌, ◌≤◌, ◌^◌, Bool, true, false, List, [], ◌∷◌, length, map, Option, refl, ap, sym, subst}
use Rattle.sctp_delivery.proofs.Names.{◌∙◌, inl, inr, arith, None, zero, suc, ◌++◌, take, drop, get_or, Some, if◌then◌else◌, ◌||◌, nat_le, All, Contains}
use Rattle.sctp_delivery.proofs.Names.{filter, list_any, nat_tests, or-left, or-right, or-split, both, tsn, ChunkPayloadData, Sack, Limits, Stand}
use Rattle.sctp_delivery.proofs.Names.{following_tsn, chunk_before, Flight, after_sack, is_outdated, is_whole, released_by, released_of, reports, reports_anew}
use Rattle.sctp_delivery.proofs.Names.{take_sack, message_to_abandon, ReceiverCall, AcknowledgedCame, AfterEachSessionOfFewTsns, AllReportedLeaves}
use Rattle.sctp_delivery.proofs.Names.{EachSackTells, NextSackTells, NoneIsRefused, NoneIsTakenTwice, PassAbandoned, is_reported, passes, reports_tsn}
use Rattle.sctp_delivery.proofs.Names.{tsns_given, was_passed, was_taken, StaysAcknowledged, SenderCall, Call, ReceiverFollows, RunsTo, SenderFollows, Session}
use Rattle.sctp_delivery.proofs.Names.{at_start, of_receiver, of_sender, change_where, as_abandoned, as_acknowledged, is_of, Outbound, abandoned_of, as_sent}
use Rattle.sctp_delivery.proofs.Names.{sent_next, sent_of, terminal_chunk, with_terminal_chunk, last_removed, abandoned_at, abandoned_each, fragments_with_mode}
use Rattle.sctp_delivery.proofs.Names.{can_miss, missed, Transmission, started-inflight, tsn-at}
use Rattle.std.specs.Prelude.{not}
use Rattle.sctp_util.specs.Serial.{distance, at_or_before}
use Rattle.sctp_delivery.specs.Sacks.{LeftCame, ReleasedCame, ReportWhatCame}
use Rattle.sctp_delivery.proofs.Every.{Every, all-of-every, every-mapped, every-of, one-of, every-changed, every-contained, every-inserted, every-joined}
use Rattle.sctp_delivery.proofs.Every.{every-left, every-of-all, every-passing, every-taken, every-both, every-tested}
use Rattle.sctp_delivery.proofs.GivenTsns.{IsNumbered, taken-numbered, flight-given, raises-abandoned}
use Rattle.sctp_delivery.proofs.TakenCalls.{hears, passed-upto, more-arrived, tells, AreTaken, more-come, takes-once, IsInOrder, each-sack-tells, keeps-order}
use Rattle.sctp_delivery.proofs.TakenCalls.{next-sack-tells}
use Rattle.sctp_delivery.proofs.ArrivedTsns.{IsArrived}
use Rattle.sctp_delivery.proofs.ReportedTsns.{IsTruthful, later-truthful, not-refused, answered-known}
use Rattle.sctp_delivery.proofs.SackSteps.{IsValidBut, came_in, stays-valid-with, IsMadeGiven, known, known_or, made-given, moves, none_dropped, flight_of}
use Rattle.sctp_delivery.proofs.SackSteps.{message-inflight}
use Rattle.sctp_delivery.proofs.ValidMarks.{IsRight, IsValid, came-of, more-taken}
use Rattle.sctp_delivery.proofs.TsnPlaces.{IsGiven, at-or-before, base, before, past-first, same-place, tsn-small}
use Rattle.sctp_outbound.specs.payload_queue.PayloadQueue as payload
use Rattle.sctp_delivery.specs.SenderCalls as outgoing
use Rattle.sctp_delivery.proofs.Changes.{Change, all_start, acknowledges, changes, each_leaves, flight_after, front_expires, more_room, nothing, one_leaves}
use Rattle.sctp_delivery.proofs.Changes.{some_marked, some_missed}
use Rattle.sctp_delivery.proofs.Writing.{accepted-stream}

-- after n TSNs were given out nobody speaks of another; those that the receiver drops are among these
pub record IsInStepBut (dropped : ℕ → Bool) (p n : ℕ) (s : Session) : Type 0 where
  pub numbered : IsNumbered p n s.sending.sender.flight
  pub made : Every (IsMadeGiven p n) s.made
  pub arrived : IsArrived p n (known_or dropped s) s.receiving.receiver.cumulative_tsn s.receiving.receiver.beyond
  pub sacks : Every (IsTruthful p n (known_or dropped s)) s.sacks
  pub settled : IsArrived p n (known_or dropped s) s.sending.sender.flight.acked_tsn []
  pub valid : IsValidBut dropped s
  pub taken : AreTaken p n s.receiving.receiver s.receiving.accepted
  pub order : IsInOrder s.receiving.receiver

-- it drops none
abbrev pub IsInStep : ℕ → ℕ → Session → Type 0
IsInStep p n s = IsInStepBut none_dropped p n s

pub begin-but : (dropped : ℕ → Bool) (first size max most : ℕ) (limits : Option Limits) → first < 2 ^ 32
    → IsInStepBut dropped (base first) 0 (at_start first size max most limits)
begin-but dropped first size max most limits small = grind (arith, nat_tests, common_steps)

pub begin : (first size max most : ℕ) (limits : Option Limits) → first < 2 ^ 32 → IsInStep (base first) 0 (at_start first size max most limits)
begin first size max most limits small = begin-but none_dropped first size max most limits small

-- ## A call

module _ (dropped : ℕ → Bool) (p n : ℕ) (old new : Session) where
  -- what came stays so, where what was taken does
  more-came : ((t : ℕ) → was_taken t old ≡ true → was_taken t new ≡ true) → (t : ℕ) → came_in dropped old t ≡ true → came_in dropped new t ≡ true
  more-came taken t e = grind (arith, nat_tests)

  pub grows-so : ((t : ℕ) → was_taken t old ≡ true → was_taken t new ≡ true) → ((t : ℕ) → was_passed t old ≡ true → was_passed t new ≡ true)
      → (t : ℕ) → known_or dropped old t ≡ true → known_or dropped new t ≡ true
  grows-so taken passed t e = elim (or-split (came_in dropped old t) (was_passed t old) e) [
    | inl a ↦ or-left (came_in dropped new t) (was_passed t new) (more-came taken t a)
    | inr a ↦ or-right (came_in dropped new t) (was_passed t new) (passed t a)
  ]

  more-known : (call : SenderCall) → SenderFollows call old new → (t : ℕ) → known_or dropped old t ≡ true → known_or dropped new t ≡ true
  more-known call f = grind (arith, nat_tests)

  pub sender-step-but : (call : SenderCall) → n + distance old.sending.sender.flight.next_tsn new.sending.sender.flight.next_tsn < 2 ^ 31
      → SenderFollows call old new → IsInStepBut dropped p n old
      → IsInStepBut dropped p (n + distance old.sending.sender.flight.next_tsn new.sending.sender.flight.next_tsn) new
  sender-step-but call few f i =
      let small : n < 2 ^ 31 = omega (arith, few) in
      let after = n + distance old.sending.sender.flight.next_tsn new.sending.sender.flight.next_tsn in
      let grows = more-known call f in
      let move = moves p n (known_or dropped old) old new small i.numbered call i.sacks f in
      record {
        numbered = move.numbered few;
        settled = more-arrived p n after (known_or dropped old) (known_or dropped new) new.sending.sender.flight.acked_tsn [] (omega arith) grows
            (move.settled i.settled);
        made = subst (Every (IsMadeGiven p after)) (sym (ap (λ (s : Session). s.made) f.after)) (made-given p n old new small i.numbered call i.made f);
        arrived = grind (arith, nat_tests, common_steps, more-arrived);
        order = subst (λ (s : Stand). IsInOrder s.receiver) (sym (ap (λ (s : Session). s.receiving) f.after)) i.order;
        taken = grind (arith, nat_tests, common_steps, more-come);
        sacks = grind (arith, nat_tests, common_steps, every-of, later-truthful);
        valid =
            more-taken (came_in dropped old) (came_in dropped new) (λ t. list_any (passes t) new.made) new.sending.sender.flight.queue
            (more-came (λ t e. ap (was_taken t) f.after ∙ e))
            (subst (λ ms. IsValid (came_in dropped old) (λ t. list_any (passes t) ms) new.sending.sender.flight.queue)
            (sym (ap (λ (s : Session). s.made) f.after)) (stays-valid-with dropped p n old new small i.numbered i.valid call i.sacks i.made f));
      }

  -- where the sender stays as it is
  pub beside : n < 2 ^ 31 → new.made ≡ old.made → new.sending ≡ old.sending → ((t : ℕ) → was_taken t old ≡ true → was_taken t new ≡ true)
      → IsArrived p n (known_or dropped new) new.receiving.receiver.cumulative_tsn new.receiving.receiver.beyond
      → Every (IsTruthful p n (known_or dropped new)) new.sacks → AreTaken p n new.receiving.receiver new.receiving.accepted
      → IsInOrder new.receiving.receiver → IsInStepBut dropped p n old → IsInStepBut dropped p n new
  beside few made sender taken arrived sacks' taken' order' i =
      let grows = grows-so taken (λ t e. ap (list_any (passes t)) made ∙ e) in
      record {
        numbered = subst (λ l. IsNumbered p n l.sender.flight) (sym sender) i.numbered;
        settled = subst (λ l. IsArrived p n (known_or dropped new) l.sender.flight.acked_tsn []) (sym sender)
            (more-arrived p n n (known_or dropped old) (known_or dropped new) old.sending.sender.flight.acked_tsn [] (omega arith) grows i.settled);
        made = subst (Every (IsMadeGiven p n)) (sym made) i.made;
        order = order';
        taken = taken';
        arrived = arrived;
        sacks = sacks';
        valid =
            subst (λ l. IsValid (came_in dropped new) (λ t. list_any (passes t) new.made) l.sender.flight.queue) (sym sender)
            (subst (λ ms. IsValid (came_in dropped new) (λ t. list_any (passes t) ms) old.sending.sender.flight.queue) (sym made)
            (more-taken (came_in dropped old) (came_in dropped new) (λ t. list_any (passes t) old.made) old.sending.sender.flight.queue
            (more-came taken) i.valid));
      }

pub sender-step : (p n : ℕ) (call : SenderCall) (old new : Session)
    → n + distance old.sending.sender.flight.next_tsn new.sending.sender.flight.next_tsn < 2 ^ 31 → SenderFollows call old new → IsInStep p n old
    → IsInStep p (n + distance old.sending.sender.flight.next_tsn new.sending.sender.flight.next_tsn) new
sender-step p n call old new few f i = sender-step-but none_dropped p n old new call few f i

-- what was taken stays so
pub more-accepted : (call : ReceiverCall) (old new : Session) → ReceiverFollows call old new → (t : ℕ) → was_taken t old ≡ true → was_taken t new ≡ true
more-accepted call old new h4 t h6 = grind (arith, nat_tests)

pub receiver-step-but : (dropped : ℕ → Bool) (p n : ℕ) (call : ReceiverCall) (old new : Session) → n < 2 ^ 31 → ReceiverFollows call old new
    → IsInStepBut dropped p n old → IsInStepBut dropped p n new
receiver-step-but dropped p n call old new few f i =
    let taken = more-accepted call old new f in
    let made : new.made ≡ old.made = ap (λ (s : Session). s.made) f.after in
    let grows = grows-so dropped p n old new taken (λ t e. ap (list_any (passes t)) made ∙ e) in
    beside dropped p n old new few made (ap (λ (s : Session). s.sending) f.after) taken
    (hears p n (known_or dropped old) (known_or dropped new) old new few i.made grows
    (λ t e. or-left (came_in dropped new t) (was_passed t new) (or-right (dropped t) (was_taken t new) e)) i.arrived call f
    (λ g in' same h k le. or-right (came_in dropped new (tsn p k)) (was_passed (tsn p k) new)
    (ap (list_any (passes (tsn p k))) made ∙ passed-upto p n old.made g few h in' k le)))
    (subst (Every (IsTruthful p n (known_or dropped new))) (sym (ap (λ (s : Session). s.sacks) f.after))
    (tells p n (known_or dropped old) (known_or dropped new) old call few grows i.arrived i.sacks))
    (takes-once p n (known_or dropped old) old new few i.made i.arrived i.taken call f)
    (keeps-order p n (known_or dropped old) old new few i.made i.arrived i.order call f) i

pub receiver-step : (p n : ℕ) (call : ReceiverCall) (old new : Session) → n < 2 ^ 31 → ReceiverFollows call old new → IsInStep p n old → IsInStep p n new
receiver-step p n call old new few f i = receiver-step-but none_dropped p n call old new few f i

same-distance : (q k : ℕ) → distance (tsn q k) (tsn q k) ≡ 0
unfolding distance
same-distance q k = omega arith

-- the next TSN stays where a receiver is called
pub no-move : (p n : ℕ) (old new : Session) → new.sending ≡ old.sending → IsNumbered p n old.sending.sender.flight
    → distance old.sending.sender.flight.next_tsn new.sending.sender.flight.next_tsn ≡ 0
no-move p n old new e h = grind (arith, nat_tests, same-distance)

all-steps : (p n : ℕ) (cs : List Call) (old new : Session) (run : RunsTo old cs new) → n + tsns_given old cs new run < 2 ^ 31 → IsInStep p n old → IsInStep p
    (n + tsns_given old cs new run) new
all-steps p n [] old new run few i = subst (λ k. IsInStep p k new) {x = n} {y = n + 0} (omega arith) (subst (IsInStep p n) (sym run) i)
all-steps p n (of_sender call ∷ cs) old new run few i =
    let d = distance old.sending.sender.flight.next_tsn run.0.sending.sender.flight.next_tsn in
    let sum : (n + d) + tsns_given run.0 cs new run.1.1 ≡ n + (d + tsns_given run.0 cs new run.1.1) = omega arith in
    subst (λ k. IsInStep p k new) sum (all-steps p (n + d) cs run.0 new run.1.1 (omega (arith, few))
    (sender-step p n call old run.0 (omega (arith, few)) run.1.0 i))
all-steps p n (of_receiver call ∷ cs) old new run few i =
    let d = distance old.sending.sender.flight.next_tsn run.0.sending.sender.flight.next_tsn in
    let none : d ≡ 0 = no-move p n old run.0 (ap (λ (s : Session). s.sending) run.1.0.after) i.numbered in
    let sum : n + tsns_given run.0 cs new run.1.1 ≡ n + (d + tsns_given run.0 cs new run.1.1) = omega (arith, none) in
    subst (λ k. IsInStep p k new) sum (all-steps p n cs run.0 new run.1.1 (omega (arith, few))
    (receiver-step p n call old run.0 (omega (arith, few)) run.1.0 i))

-- ## The laws

pub in-step : (first size max most : ℕ) (limits : Option Limits) (cs : List Call) (s : Session) (run : RunsTo (at_start first size max most limits) cs s)
    → first < 2 ^ 32 → tsns_given (at_start first size max most limits) cs s run < 2 ^ 31 → IsInStep (base first)
    (tsns_given (at_start first size max most limits) cs s run) s
in-step first size max most limits cs s run small few =
    let n = tsns_given (at_start first size max most limits) cs s run in
    subst (λ k. IsInStep (base first) k s) {x = 0 + n} {y = n} (omega arith)
    (all-steps (base first) 0 cs (at_start first size max most limits) s run (omega (arith, few)) (begin first size max most limits small))

pub accepts : (dropped : ℕ → Bool) (p n : ℕ) (s : Session) → n < 2 ^ 31 → IsInStepBut dropped p n s → NoneIsRefused s
accepts dropped p n s few i = search (all-of-every, every-of, not-refused)

pub none-refused : AfterEachSessionOfFewTsns (λ first count s. NoneIsRefused s)
none-refused first size max most limits cs s run small few = accepts none_dropped (base first) (tsns_given (at_start first size max most limits) cs s run) s few
    (in-step first size max most limits cs s run small few)

near-first : (first t : ℕ) → at_or_before first t ≡ true → distance first t < 2 ^ 31
unfolding at_or_before
near-first first t e = grind (arith, nat_tests)

-- of the TSNs from the first on, each that a SACK reports is known
abbrev ReportKnown : (ℕ → Bool) → ℕ → ℕ → Session → Type 0
ReportKnown dropped first n s =
    (t : ℕ) → t < 2 ^ 32 → at_or_before first t ≡ true → list_any (reports_tsn t) s.sacks ≡ true
    → (known_or dropped s t ≡ true) × (distance first t < n)

pub reports-given : (dropped : ℕ → Bool) (first n : ℕ) (s : Session) → first < 2 ^ 32 → n < 2 ^ 31 → IsInStepBut dropped (base first) n s
    → ReportKnown dropped first n s
reports-given dropped first n s small few i t fits from e =
    let p = base first in
    let k = distance first t + 1 in
    let near = near-first first t from in
    let at : t ≡ tsn p k = past-first first t small fits in
    let one = one-of (IsTruthful p n (known_or dropped s)) (reports_tsn t) s.sacks e i.sacks in
    let r = answered-known p n (known_or dropped s) one.0 k few (omega arith) (omega (arith, near)) one.2 (subst (λ u. reports_tsn u one.0 ≡ true) at one.1) in
    (subst (λ u. known_or dropped s u ≡ true) (sym at) r.0, omega (arith, r.1))

pub report-given : AfterEachSessionOfFewTsns ReportWhatCame
report-given first size max most limits cs s run small few =
    reports-given none_dropped first (tsns_given (at_start first size max most limits) cs s run) s small few
    (in-step first size max most limits cs s run small few)

-- of the TSNs from the first on, each up to the acknowledged one is known
abbrev LeftKnown : (ℕ → Bool) → ℕ → Session → Type 0
LeftKnown dropped first s =
    (t : ℕ) → t < 2 ^ 32 → at_or_before first t ≡ true → at_or_before t s.sending.sender.flight.acked_tsn ≡ true → known_or dropped s t ≡ true

pub left-came : (dropped : ℕ → Bool) (first n : ℕ) (s : Session) → first < 2 ^ 32 → n < 2 ^ 31 → IsInStepBut dropped (base first) n s
    → LeftKnown dropped first s
left-came dropped first n s small few i t fits from upto =
    let p = base first in
    let k = distance first t + 1 in
    let near = near-first first t from in
    let at : t ≡ tsn p k = past-first first t small fits in
    let a = i.settled in
    let within = a.within in
    let order : nat_le k a.place ≡ true = grind (arith, nat_tests, common_steps, at-or-before) in
    let le : k ≤ a.place = grind (arith, nat_tests) in
    subst (λ u. known_or dropped s u ≡ true) (sym at) (a.so_far k (omega arith) le)

pub all-left-came : AfterEachSessionOfFewTsns (λ first count s. LeftCame first s)
all-left-came first size max most limits cs s run small few =
    left-came none_dropped first (tsns_given (at_start first size max most limits) cs s run) s small few (in-step first size max most limits cs s run small few)

-- ## What is acknowledged

-- a SACK reports a chunk in flight
answered-of : (kn : ℕ → Bool) (p n : ℕ) → n < 2 ^ 31 → (k : Sack) → IsTruthful p n kn k → (c : ChunkPayloadData) → IsGiven p n c.tsn
    → reports k c ≡ true → kn c.tsn ≡ true
answered-of kn p n few k t c g e =
    let within = g.within in
    let r = answered-known p n kn k g.place few g.some (omega (arith, within, few)) t (subst (λ u. reports_tsn u k ≡ true) g.is e) in
    subst (λ u. kn u ≡ true) (sym g.is) r.0

-- of the chunks in flight each that is acknowledged or reported came, or its message is abandoned
abbrev AcknowledgedKnown : (ℕ → Bool) → Session → Type 0
AcknowledgedKnown dropped s =
    All (λ c. is_reported s c ≡ true → (came_in dropped s c.tsn || c.abandoned) ≡ true) s.sending.sender.flight.queue.inflight.chunks

pub came-so : (dropped : ℕ → Bool) (p n : ℕ) (s : Session) → n < 2 ^ 31 → IsInStepBut dropped p n s → AcknowledgedKnown dropped s
came-so dropped p n s few i =
    let cs = s.sending.sender.flight.queue.inflight.chunks in
    all-of-every (λ (c : ChunkPayloadData). is_reported s c ≡ true → (came_in dropped s c.tsn || c.abandoned) ≡ true) cs
    (every-both (λ c. IsGiven p n c.tsn) (IsRight (came_in dropped s) (λ t. was_passed t s))
    (λ c. is_reported s c ≡ true → (came_in dropped s c.tsn || c.abandoned) ≡ true) each cs (flight-given p n s.sending.sender.flight i.numbered)
    i.valid.inflight)
  where
    answered : (c : ChunkPayloadData) → IsGiven p n c.tsn → list_any (λ k. reports k c) s.sacks ≡ true → known_or dropped s c.tsn ≡ true
    answered c g e =
        let one = one-of (IsTruthful p n (known_or dropped s)) (λ k. reports k c) s.sacks e i.sacks in
        answered-of (known_or dropped s) p n few one.0 one.2 c g one.1

    each : (c : ChunkPayloadData) → IsGiven p n c.tsn → IsRight (came_in dropped s) (λ t. was_passed t s) c → is_reported s c ≡ true
        → (came_in dropped s c.tsn || c.abandoned) ≡ true
    each c h2 h3 h4 = grind (arith, nat_tests, answered, came-of, or-split)

pub came : (p n : ℕ) (s : Session) → n < 2 ^ 31 → IsInStep p n s → AcknowledgedCame s
came p n s few i = came-so none_dropped p n s few i

pub acknowledged-came : AfterEachSessionOfFewTsns (λ first count s. AcknowledgedCame s)
acknowledged-came first size max most limits cs s run small few = came (base first) (tsns_given (at_start first size max most limits) cs s run) s few
    (in-step first size max most limits cs s run small few)

pub passed-gone : (dropped : ℕ → Bool) (p n : ℕ) (s : Session) → IsInStepBut dropped p n s → PassAbandoned s
passed-gone dropped p n s i = grind (arith, nat_tests, all-of-every, every-of)

pub pass-abandoned : AfterEachSessionOfFewTsns (λ first count s. PassAbandoned s)
pass-abandoned first size max most limits cs s run small few =
    passed-gone none_dropped (base first) (tsns_given (at_start first size max most limits) cs s run) s
    (in-step first size max most limits cs s run small few)

-- ## What is released

-- a chunk with bytes came
abbrev HasCome : (ℕ → Bool) → Session → ChunkPayloadData → Type 0
HasCome dropped s c = 0 < length c.user_data → came_in dropped s c.tsn ≡ true

-- and each that a SACK would release
abbrev ReleasedKnown : (ℕ → Bool) → Session → Type 0
ReleasedKnown dropped s = All (λ k. All (λ r. 0 < r.bytes → came_in dropped s r.tsn ≡ true) (released_by k s.sending.sender.flight)) s.sacks

pub released : (dropped : ℕ → Bool) (p n : ℕ) (s : Session) → n < 2 ^ 31 → IsInStepBut dropped p n s → ReleasedKnown dropped s
released dropped p n s few i =
    all-of-every (λ k. All (λ r. 0 < r.bytes → came_in dropped s r.tsn ≡ true) (released_by k s.sending.sender.flight)) s.sacks
    (every-of (IsTruthful p n (known_or dropped s)) (λ k. All (λ r. 0 < r.bytes → came_in dropped s r.tsn ≡ true) (released_by k s.sending.sender.flight))
    (λ k t. of-sack k t) s.sacks i.sacks)
  where
    one : (k : Sack) → IsTruthful p n (known_or dropped s) k → (c : ChunkPayloadData) → IsGiven p n c.tsn → IsRight (came_in dropped s) (λ t. was_passed t s) c
        → reports_anew k c ≡ true → HasCome dropped s c
    one k t c g r e some = elim (or-split (came_in dropped s c.tsn) c.abandoned
        (came-of (came_in dropped s) (λ u. was_passed u s) c r (answered-of (known_or dropped s) p n few k t c g (both (not c.acked) (reports k c) e).1))) [
          | inl a ↦ a
          | inr a ↦ let none = r.bare a in absurd (omega (arith, none, some))
        ]

    each : (k : Sack) → IsTruthful p n (known_or dropped s) k → (cs : List ChunkPayloadData) → Every (λ (c : ChunkPayloadData). IsGiven p n c.tsn) cs → Every
        (IsRight (came_in dropped s) (λ t. was_passed t s)) cs → Every (λ (c : ChunkPayloadData). reports_anew k c ≡ true → HasCome dropped s c) cs
    each k t cs g r =
        every-both (λ c. IsGiven p n c.tsn) (IsRight (came_in dropped s) (λ u. was_passed u s)) (λ c. reports_anew k c ≡ true → HasCome dropped s c)
        (one k t) cs g r

    of-sack : (k : Sack) → IsTruthful p n (known_or dropped s) k
        → All (λ r. 0 < r.bytes → came_in dropped s r.tsn ≡ true) (released_by k s.sending.sender.flight)
    of-sack k t = by (is_outdated k s.sending.sender.flight)
      where
        by : (b : Bool) → All (λ r. 0 < r.bytes → came_in dropped s r.tsn ≡ true)
            (if b then [] else map (released_of (is_whole k s.sending.sender.flight)) (filter (reports_anew k) s.sending.sender.flight.queue.inflight.chunks))
        by true = λ j d lt. absurd (omega (arith, lt))
        by false =
            let cs = s.sending.sender.flight.queue.inflight.chunks in
            let w = is_whole k s.sending.sender.flight in
            all-of-every (λ r. 0 < r.bytes → came_in dropped s r.tsn ≡ true) (map (released_of w) (filter (reports_anew k) cs))
            (every-mapped (HasCome dropped s) (λ r. 0 < r.bytes → came_in dropped s r.tsn ≡ true) (released_of w) (λ c h. h) (filter (reports_anew k) cs)
            (every-tested (HasCome dropped s) (reports_anew k) cs (each k t cs (flight-given p n s.sending.sender.flight i.numbered) i.valid.inflight)))

pub all-released-came : AfterEachSessionOfFewTsns (λ first count s. ReleasedCame s)
all-released-came first size max most limits cs s run small few =
    released none_dropped (base first) (tsns_given (at_start first size max most limits) cs s run) s few
    (in-step first size max most limits cs s run small few)

-- ## What is taken

pub none-twice : AfterEachSessionOfFewTsns (λ first count s. NoneIsTakenTwice s)
none-twice first size max most limits cs s run small few = (in-step first size max most limits cs s run small few).taken.apart

-- ## What is told

pub all-answered : AfterEachSessionOfFewTsns (λ first count s. NextSackTells s)
all-answered first size max most limits cs s run small few =
    let i = in-step first size max most limits cs s run small few in
    next-sack-tells (base first) (tsns_given (at_start first size max most limits) cs s run) s (known s) few i.arrived i.order i.taken

pub each-tells : AfterEachSessionOfFewTsns (λ first count s. EachSackTells s)
each-tells first size max most limits cs s run small few =
    let i = in-step first size max most limits cs s run small few in
    each-sack-tells (base first) (tsns_given (at_start first size max most limits) cs s run) s (known s) few i.arrived i.order i.taken

-- ## Nothing is left

pub none-of : (cs : List ChunkPayloadData) → length cs ≡ 0 → cs ≡ []
none-of [] e = refl
none-of (c ∷ cs) e = absurd (omega (arith, e))

leaves-none : (p n : ℕ) (kn : ℕ → Bool) (k : Sack) (f : Flight) → n < 2 ^ 31 → IsNumbered p n f → IsTruthful p n kn k
    → following_tsn k.cumulative_tsn_ack ≡ f.next_tsn → (after_sack k f).queue.inflight.chunks ≡ []
leaves-none p n kn k f few h t e = by (is_outdated k f) refl (taken-numbered p n t.place k f few t.within t.is h)
  where
    last : t.place ≡ n
    last = grind (arith, nat_tests)

    by : (b : Bool) → is_outdated k f ≡ b → IsNumbered p n (if b then f else take_sack k f) → (if b then f else take_sack k f).queue.inflight.chunks ≡ []
    by b h2 h3 = grind (arith, nat_tests, before, last, none-of, same-place)

pub reported-leaves : (dropped : ℕ → Bool) (p n : ℕ) (s : Session) → n < 2 ^ 31 → IsInStepBut dropped p n s → AllReportedLeaves s
reported-leaves dropped p n s few i =
    all-of-every (λ k. following_tsn k.cumulative_tsn_ack ≡ s.sending.sender.flight.next_tsn →
    (after_sack k s.sending.sender.flight).queue.inflight.chunks ≡ []) s.sacks
    (every-of (IsTruthful p n (known_or dropped s)) (λ k. following_tsn k.cumulative_tsn_ack ≡ s.sending.sender.flight.next_tsn →
    (after_sack k s.sending.sender.flight).queue.inflight.chunks ≡ [])
    (λ k t e. leaves-none p n (known_or dropped s) k s.sending.sender.flight few i.numbered t e) s.sacks i.sacks)

pub all-reported-leaves : AfterEachSessionOfFewTsns (λ first count s. AllReportedLeaves s)
all-reported-leaves first size max most limits cs s run small few =
    reported-leaves none_dropped (base first) (tsns_given (at_start first size max most limits) cs s run) s few
    (in-step first size max most limits cs s run small few)

-- # A chunk in flight that is acknowledged stays so while it is in flight (RFC 4960 6.2.1): marks keep it so, and a further chunk has a TSN of
-- its own

-- ## Of chunks that were in flight

module _ (xs : List ChunkPayloadData) where
  -- acknowledged where one of them with its TSN was
  abbrev pub StaysSo : ChunkPayloadData → Type 0
  StaysSo d = (c : ChunkPayloadData) → Contains xs c → c.tsn ≡ d.tsn → c.acked ≡ true → d.acked ≡ true

  abbrev pub AllStaySo : Outbound → Type 0
  AllStaySo q = Every StaysSo q.inflight.chunks

  -- none of them has the TSN
  abbrev pub IsUnused : ℕ → Type 0
  IsUnused t = (c : ChunkPayloadData) → Contains xs c → c.tsn ≡ t → ⊥

  changed : (p : ChunkPayloadData → Bool) (f : ChunkPayloadData → ChunkPayloadData) → ((c : ChunkPayloadData) → (f c).tsn ≡ c.tsn)
      → ((c : ChunkPayloadData) → c.acked ≡ true → (f c).acked ≡ true) → (cs : List ChunkPayloadData) → Every StaysSo cs
      → Every StaysSo (change_where p f cs)
  changed p f same keep cs s = every-changed StaysSo p f (λ x h so c i e a. keep x (so c i (e ∙ same x) a)) cs s

  sent-of : (o : Option ChunkPayloadData) (q : Outbound) (tsn now : ℕ) → IsUnused tsn → AllStaySo q → AllStaySo (sent_of o q tsn now)
  sent-of None q tsn now new s = s
  sent-of (Some x) q tsn now new s =
      every-inserted StaysSo chunk_before (as_sent tsn now x) q.inflight.chunks (λ c i e a. absurd (new c i e)) s

  sent : (q : Outbound) (tsn now : ℕ) → IsUnused tsn → AllStaySo q → AllStaySo (sent_next q tsn now)
  sent q tsn now new s = grind (arith, nat_tests, sent-of, started-inflight)

  abandoned : (o : Option ℕ) (tsn : ℕ) (q : Outbound) → IsUnused tsn → AllStaySo q → AllStaySo (abandoned_of o tsn q)
  abandoned None tsn q new s = s
  abandoned (Some m) tsn q new s = by (last_removed m q.pending)
    where
      left : Every StaysSo (change_where (is_of m) as_abandoned q.inflight.chunks)
      left = changed (is_of m) as_abandoned (λ c. refl) (λ c a. a) q.inflight.chunks s

      by : (o : Option ChunkPayloadData) → Every StaysSo (with_terminal_chunk o tsn
          (payload.with_chunks q.inflight (change_where (is_of m) as_abandoned q.inflight.chunks))).chunks
      by None = left
      by (Some x) = every-inserted StaysSo chunk_before (terminal_chunk tsn x) (change_where (is_of m) as_abandoned q.inflight.chunks)
          (λ c i e a. absurd (new c i e)) left

  missed-stay : (count : ℕ) (cs : List ChunkPayloadData) → Every StaysSo cs → Every StaysSo (change_where can_miss missed (take count cs) ++ drop count cs)
  missed-stay count cs s =
      every-joined StaysSo (change_where can_miss missed (take count cs)) (drop count cs)
      (changed can_miss missed (λ c. refl) (λ c a. a) (take count cs) (every-taken StaysSo count cs s)) (every-left StaysSo count cs s)

  acknowledged : (k : Sack) (f : Flight) → AllStaySo f.queue → AllStaySo (after_sack k f).queue
  acknowledged k f s = by (is_outdated k f)
    where
      by : (b : Bool) → AllStaySo (if b then f else take_sack k f).queue
      by true = s
      by false =
          every-passing StaysSo (λ c. not (at_or_before c.tsn k.cumulative_tsn_ack)) (change_where (reports_anew k) as_acknowledged f.queue.inflight.chunks)
          (changed (reports_anew k) as_acknowledged (λ c. refl) (λ c a. refl) f.queue.inflight.chunks s)

  -- ## Where they are the first n

  module _ (p n : ℕ) (given : Every (λ (c : ChunkPayloadData). IsGiven p n c.tsn) xs) where
    unused : (k t : ℕ) → n < k → k < 2 ^ 32 → t ≡ tsn p k → IsUnused t
    unused k t past fits is c i e = grind (arith, nat_tests, common_steps)

    abandoned-each : (ts : List ℕ) (f : Flight) (k : ℕ) → n < k → k + length ts ≤ 2 ^ 32 → f.next_tsn ≡ tsn p k → AllStaySo f.queue
        → AllStaySo (abandoned_each ts f).queue
    abandoned-each [] f k past fits is s = s
    abandoned-each (t ∷ ts) f k past fits is s =
        let r = raises-abandoned p 1 (message_to_abandon t f) f (omega arith) in
        let few = r.few in
        abandoned-each ts (abandoned_at t f) (k + r.count) (omega (arith, past)) (omega (arith, fits, few)) (r.next k is)
        (abandoned (message_to_abandon t f) f.next_tsn f.queue (unused k f.next_tsn past (omega (arith, fits)) is) s)

-- ## One TSN is one chunk

same-chunk : (p n : ℕ) (f : Flight) → n < 2 ^ 31 → IsNumbered p n f → (i j : ℕ) (c d : ChunkPayloadData) → i < length f.queue.inflight.chunks
    → j < length f.queue.inflight.chunks → (get_or f.queue.inflight.chunks i c).tsn ≡ (get_or f.queue.inflight.chunks j d).tsn → i ≡ j
same-chunk p n f few h i j c d lt less e =
    let first = tsn p (h.acked + 1) in
    let small = tsn-small p (h.acked + 1) in
    let a = tsn-at f.queue.inflight.chunks first i c small h.run lt in
    let b = tsn-at f.queue.inflight.chunks first j d small h.run less in
    let total = h.total in
    omega (arith, a, b, e, total, few, lt, less, small)

get-same : {A : Type 0} (xs : List A) (k : ℕ) (c d : A) → k < length xs → get_or xs k d ≡ get_or xs k c
get-same [] k c d lt = absurd (omega (arith, lt))
get-same (x ∷ xs) zero c d lt = refl
get-same (x ∷ xs) (suc k) c d lt = get-same xs k c d (omega (arith, lt))

at-first : (p n : ℕ) (f : Flight) → n < 2 ^ 31 → IsNumbered p n f → Every (StaysSo f.queue.inflight.chunks) f.queue.inflight.chunks
at-first p n f few h = every-of-all (StaysSo f.queue.inflight.chunks) f.queue.inflight.chunks one
  where
    one : (j : ℕ) (d : ChunkPayloadData) → j < length f.queue.inflight.chunks → StaysSo f.queue.inflight.chunks (get_or f.queue.inflight.chunks j d)
    one j d lt c i e a =
        let cs = f.queue.inflight.chunks in
        let at : get_or cs i.0 c ≡ c = i.2 in
        let same = same-chunk p n f few h i.0 j c d i.1 lt (ap (λ (x : ChunkPayloadData). x.tsn) at ∙ e) in
        let is : get_or cs j d ≡ c = get-same cs j c d lt ∙ ap (λ k. get_or cs k c) (sym same) ∙ at in
        ap (λ (x : ChunkPayloadData). x.acked) is ∙ a

-- ## A call of the sender

module _ (p n : ℕ) (old new : Session) (few : n < 2 ^ 31) (h : IsNumbered p n old.sending.sender.flight) where
  abbrev Stay : Type 0
  Stay = AllStaySo (flight_of old).queue.inflight.chunks (flight_of new).queue

  first : AllStaySo (flight_of old).queue.inflight.chunks (flight_of old).queue
  first = at-first p n (flight_of old) few h

  given : Every (λ (c : ChunkPayloadData). IsGiven p n c.tsn) (flight_of old).queue.inflight.chunks
  given = flight-given p n (flight_of old) h

  next : IsUnused (flight_of old).queue.inflight.chunks (flight_of old).next_tsn
  next = unused (flight_of old).queue.inflight.chunks p n given (n + 1) (flight_of old).next_tsn (omega arith) (omega (arith, few)) h.next_is

  stay-to : (t : Transmission) → new.sending.sender ≡ t → AllStaySo (flight_of old).queue.inflight.chunks t.flight.queue → Stay
  stay-to t e s = subst (λ (u : Transmission). AllStaySo (flight_of old).queue.inflight.chunks u.flight.queue) (sym e) s

  each : (ts : List ℕ) → length ts ≤ 1 + length (flight_of old).queue.inflight.chunks
      → AllStaySo (flight_of old).queue.inflight.chunks (abandoned_each ts (flight_of old)).queue
  each ts short =
      let total = h.total in
      abandoned-each (flight_of old).queue.inflight.chunks p n given ts (flight_of old) (n + 1) (omega arith) (omega (arith, few, short, total)) h.next_is first

  changed-by : (call : SenderCall) (c : Change call old.sending.sender)
      → AllStaySo (flight_of old).queue.inflight.chunks (flight_after call old.sending.sender c).queue
  changed-by call nothing = first
  changed-by call (all_start now) =
      subst (λ (w : payload.Payload). Every (StaysSo (flight_of old).queue.inflight.chunks) w.chunks) (sym (started-inflight now (flight_of old).queue)) first
  changed-by call (more_room count) = first
  changed-by call (some_marked p f k) =
      changed (flight_of old).queue.inflight.chunks p f (λ c. ap (λ (d : ChunkPayloadData). d.tsn) (k c))
      (λ c a. ap (λ (d : ChunkPayloadData). d.acked) (k c) ∙ a) (flight_of old).queue.inflight.chunks first
  changed-by call (some_missed count) = missed-stay (flight_of old).queue.inflight.chunks count (flight_of old).queue.inflight.chunks first
  changed-by call (one_leaves o e found) =
      abandoned (flight_of old).queue.inflight.chunks o (flight_of old).next_tsn (flight_of old).queue next first
  changed-by call (each_leaves ts short e) = each ts short
  changed-by call (front_expires now c found e) = first
  changed-by call (acknowledges k gone e) = acknowledged (flight_of old).queue.inflight.chunks k (flight_of old) first

  stay : (call : SenderCall) → SenderFollows call old new → Stay
  stay (outgoing.writes stream ppi (b ∷ bs)) f =
      let l = accepted-stream stream (length (b ∷ bs)) old.sending.sender f.accepted in
      stay-to _ (f.exact.1 (omega arith) l.0 l.1)
      (subst (λ (w : payload.Payload). Every (StaysSo (flight_of old).queue.inflight.chunks) w.chunks)
      (sym (message-inflight (fragments_with_mode l.0 ppi (b ∷ bs)) (flight_of old).queue)) first)
  stay (outgoing.sends now) f =
      stay-to _ f.exact (sent (flight_of old).queue.inflight.chunks (flight_of old).queue (flight_of old).next_tsn now next first)
  stay call f =
      let x = changes old.sending.sender new.sending.sender call refl f.step.sender f.exact in
      subst (λ (g : Flight). AllStaySo (flight_of old).queue.inflight.chunks g.queue) (sym x.flight) (changed-by call x.change)

-- ## The law

pub kept : (p n : ℕ) (s : Session) → n < 2 ^ 31 → IsNumbered p n s.sending.sender.flight → StaysAcknowledged s
kept p n s few h (of_sender call) t f c d i j e a =
    every-contained (StaysSo (flight_of s).queue.inflight.chunks) (flight_of t).queue.inflight.chunks d j (stay p n s t few h call f) c i e a
kept p n s few h (of_receiver call) t f c d i j e a =
    let same : flight_of t ≡ flight_of s = ap (λ (u : Session). flight_of u) f.after in
    every-contained (StaysSo (flight_of s).queue.inflight.chunks) (flight_of t).queue.inflight.chunks d j
    (subst (λ (g : Flight). Every (StaysSo (flight_of s).queue.inflight.chunks) g.queue.inflight.chunks) (sym same) (at-first p n (flight_of s) few h)) c i e a

pub stays-acknowledged : AfterEachSessionOfFewTsns (λ first count s. StaysAcknowledged s)
stays-acknowledged first size max most limits cs s run small few =
    let i : IsInStep (base first) (tsns_given (at_start first size max most limits) cs s run) s = in-step first size max most limits cs s run small few in
    kept (base first) (tsns_given (at_start first size max most limits) cs s run) s few i.numbered
