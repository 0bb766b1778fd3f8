-- What is lost is sent again, what is abandoned is passed, a SACK leaves fewer: rounds, one after another, empty the sender.
use Rattle.sctp_delivery.proofs.Names.{common_steps, ◌≡◌, ℕ, true, ◌∷◌, refl, ap, Result, Ok, Err, arith, ◌+◌, ◌^◌, ◌<◌, Bool, false, length, get_or, Some, sym}
use Rattle.sctp_delivery.proofs.Names.{◌∙◌, ◌≤◌, List, [], take, None, inl, inr, subst, zero, suc, ◌-◌, ◌&&◌, ◌||◌, find, if◌then◌else◌, nat_le, option_map}
use Rattle.sctp_delivery.proofs.Names.{All, ◌==◌, nat_tests, not_both, and, Sack, ReceiverRefusal, Reception, max_sack_entries, sack_entries, sack_of_entries}
use Rattle.sctp_delivery.proofs.Names.{is_reliable_at_receiver, is_all_acknowledged, reads_nothing, ReceiverCall, is_reporting, ReceiverFollows, Session}
use Rattle.sctp_delivery.proofs.Names.{at_start, Call, RunsTo, of_receiver, of_sender, or-left, or-right, ChunkPayloadData, tsn, distance-tsn, is_outstanding}
use Rattle.sctp_delivery.proofs.Names.{has_tsn, following_tsn, can_resend, is_outstanding_in, Flight, after_sack, is_outdated, take_sack, tsn-at, IsRunFrom}
use Rattle.sctp_delivery.proofs.Names.{flight_of, in_flight, IsAnswered, IsCaughtUp, is_first_abandoned, IsRound, chunks_left, Rounds}
use Rattle.sctp_delivery.proofs.Names.{AfterEachSessionOfFewTsns, AcknowledgedCame, tsns_given, was_taken, resent_at, Transmission, with_flight, SenderMakes}
use Rattle.sctp_delivery.proofs.Names.{resends, takes_sack, filter, cases_lt, at_or_before, distance, last_of, chunk_count, ends, advanced_ack_point}
use Rattle.sctp_delivery.proofs.Names.{can_skip_to, last_end, WhileFewTsns}
use Rattle.std.proofs.Common.{◌⊎◌}
use Rattle.std.specs.Prelude.{OnOk, not}
use Rattle.sctp_delivery.specs.ReceiverCalls as incoming
use Rattle.sctp_delivery.specs.ReceiverCalls.{ReceiverMakes}
use Rattle.sctp_sender.proofs.Runs.{found-at}
use Rattle.sctp_delivery.specs.Rounds.{EachCanGoOn, EachAnswerLeavesFewer, LeavesFewer, SkipsToPoint, AfterEachFitSessionOfFewTsns, EachRoundTakesOne}
use Rattle.sctp_delivery.specs.Rounds.{RoundsEnd, AfterEachFitReliableSession, AllIsReadAfterRounds, AreReliable, tsns_in_rounds}
use Rattle.sctp_delivery.proofs.SackLaws.{IsInStep, acknowledged-came, in-step}
use Rattle.sctp_delivery.proofs.TsnPlaces.{base, tsn-small, at-or-before, before, next-place, same-place}
use Rattle.sctp_sender.specs.Resending.{next_within}
use Rattle.sctp_sender.proofs.Skips.{can-go}
use Rattle.sctp_delivery.specs.Modes.{WhileFewInFlight}
use Rattle.sctp_delivery.specs.Session.{count_in_flight}
use Rattle.sctp_delivery.proofs.Continued.{IsContinued, lead-ends}
use Rattle.sctp_delivery.proofs.Every.{Every, every-changed, every-of-all, every-passing}
use Rattle.sctp_delivery.proofs.FewInFlight.{IsInRun}
use Rattle.sctp_delivery.proofs.GivenTsns.{IsNumbered, rebased, taken-numbered, lead, lead-within, point-ahead, point-is, rest-run}
use Rattle.sctp_delivery.proofs.KeptSessions.{kept-in}
use Rattle.sctp_delivery.proofs.Reached.{IsReached, has-lasted, kept, none-more, reach-on, IsReachedReliably, reliably-on}
use Rattle.sctp_delivery.proofs.TakenCalls.{next-untaken}
use Rattle.sctp_delivery.proofs.SackSteps.{known}
use Rattle.sctp_delivery.proofs.Delivered.{next_tsn}
use Rattle.sctp_delivery.proofs.OthersOnce.{all-read}

-- # The calls by which the receiver makes a SACK

-- what each of them makes: a SACK of so many blocks and duplicates at most; what came stays as it is
pub record IsReporting (call : ReceiverCall) (s t : Session) : Type 0 where
  pub credit : ℕ
  pub entries : ℕ
  pub made : t.sacks ≡ sack_of_entries credit entries s.receiving.receiver ∷ s.sacks
  pub streams : t.receiving.receiver.streams ≡ s.receiving.receiver.streams
  pub accepted : t.receiving.accepted ≡ s.receiving.accepted
  pub reliable : is_reliable_at_receiver call ≡ true

pub reporting-of : (call : ReceiverCall) (s t : Session) → is_reporting call ≡ true → ReceiverFollows call s t → IsReporting call s t
reporting-of (incoming.reports credit) s t e f = record {
  credit = credit;
  entries = max_sack_entries;
  made = ap (λ (x : Session). x.sacks) f.after;
  streams = ap (λ (r : Reception). r.streams) f.step.receiver;
  accepted = f.step.accepted;
  reliable = refl;
}
reporting-of (incoming.reports_within credit bytes) s t e f = record {
  credit = credit;
  entries = sack_entries bytes;
  made = ap (λ (x : Session). x.sacks) f.after;
  streams = ap (λ (r : Reception). r.streams) f.step.receiver;
  accepted = f.step.accepted;
  reliable = refl;
}
reporting-of (incoming.makes_sack credit bytes) s t e f = record {
  credit = credit;
  entries = sack_entries bytes;
  made = ap (λ (x : Session). x.sacks) f.after;
  streams = ap (λ (r : Reception). r.streams) f.step.receiver;
  accepted = f.step.accepted;
  reliable = refl;
}
reporting-of call s t e f = absurd (not_both e)

-- the SACK has the cumulative TSN of the receiver
pub cumulative-of : (call : ReceiverCall) (s t : Session) (k : Sack) → is_reporting call ≡ true → ReceiverFollows call s t → t.sacks ≡ k ∷ s.sacks
    → k.cumulative_tsn_ack ≡ s.receiving.receiver.cumulative_tsn
cumulative-of call s t k e f made = grind (arith, nat_tests, reporting-of)

-- a SACK of no bytes reports no duplicate, and none is forgotten: where one is only made nothing changes
pub only-made : {V : Type 0} (a : Result V ReceiverRefusal) (credit bytes : ℕ) (r : Reception) → OnOk a (ReceiverMakes (incoming.makes_sack credit bytes) r r)
only-made (Ok v) credit bytes r = (refl, tt)
only-made (Err e) credit bytes r = tt

-- # What is in flight can be sent again, unless it came or is abandoned

-- the chunk at a place is the first with its TSN
pub found-in : (p n : ℕ) (s : Session) → n < 2 ^ 31 → IsInStep p n s → (k : ℕ) (d : ChunkPayloadData) → k < length (in_flight s)
    → find (has_tsn (get_or (in_flight s) k d).tsn) (in_flight s) ≡ Some (get_or (in_flight s) k d)
found-in p n s few i k d lt =
    let h = i.numbered in
    let first = tsn p (h.acked + 1) in
    let small = tsn-small p (h.acked + 1) in
    let total = h.total in
    ap (λ u. find (has_tsn u) (in_flight s)) (tsn-at (in_flight s) first k d small h.run lt)
    ∙ found-at (in_flight s) first k d small h.run (omega (arith, total, few)) lt

module _ (p n : ℕ) (s : Session) (few : n < 2 ^ 31) (i : IsInStep p n s) (came : AcknowledgedCame s) (k : ℕ) (d : ChunkPayloadData)
    (lt : k < length (in_flight s)) where
  abbrev c : ChunkPayloadData
  c = get_or (in_flight s) k d

  found : can_resend c.tsn (flight_of s) ≡ is_outstanding c
  found = ap is_outstanding_in (found-in p n s few i k d lt)

  done : (a b : Bool) → c.acked ≡ a → c.abandoned ≡ b → (not a && not b) ≡ false → (was_taken c.tsn s || c.abandoned) ≡ true
  done h0 h1 h2 h3 h4 = grind (arith, nat_tests, common_steps, or-left, or-right, not_both)

  goes-on : (b : Bool) → is_outstanding c ≡ b → (can_resend c.tsn (flight_of s) || (was_taken c.tsn s || c.abandoned)) ≡ true
  goes-on true e = or-left (can_resend c.tsn (flight_of s)) _ (found ∙ e)
  goes-on false e = or-right (can_resend c.tsn (flight_of s)) _ (done c.acked c.abandoned refl refl e)

pub all-go-on : AfterEachSessionOfFewTsns (λ first count s. EachCanGoOn s)
all-go-on first size max most limits cs s run small few k d lt =
    goes-on (base first) (tsns_given (at_start first size max most limits) cs s run) s few (in-step first size max most limits cs s run small few)
    (acknowledged-came first size max most limits cs s run small few) k d lt (is_outstanding (get_or (in_flight s) k d)) refl

-- # What `resend_next` sends, as the call of a session that sends a chunk again

pub resent : {V E : Type 0} (now room : ℕ) (old new : Transmission) (a : Result V E)
    → OnOk a ((c : ChunkPayloadData) → next_within room old.flight ≡ Some c → new ≡ with_flight (resent_at c.tsn now c old.flight) old)
    → ((c : ChunkPayloadData) → next_within room old.flight ≡ Some c
    → (find (has_tsn c.tsn) old.flight.queue.inflight.chunks ≡ Some c) × (can_resend c.tsn old.flight ≡ true))
    → OnOk a ((c : ChunkPayloadData) → next_within room old.flight ≡ Some c → SenderMakes (resends c.tsn now c) old new)
resent now room old new (Ok v) made marked = λ c e. let m = marked c e in (made c e, (tt, ((m.1, m.0), tt)))
resent now room old new (Err x) made marked = tt

-- # What is abandoned can be passed, and a SACK of a receiver that is caught up leaves fewer chunks in flight

-- ## What a FORWARD-TSN passes

some-lead : (cs : List ChunkPayloadData) → is_first_abandoned cs ≡ true → 0 < lead cs
some-lead [] e = absurd (not_both e)
some-lead (c ∷ cs) e = let n : lead (c ∷ cs) ≡ lead cs + 1 = ap (λ b. if not b then 0 else lead cs + 1) e in omega (arith, n)

point : (p n : ℕ) (f : Flight) (h : IsNumbered p n f) → advanced_ack_point f ≡ tsn p (h.acked + lead f.queue.inflight.chunks)
point p n f h = grind (arith, nat_tests, point-is)

pub skips : (s : Session) → count_in_flight s < 2 ^ 31 → IsInRun (flight_of s) → IsContinued (flight_of s).queue → SkipsToPoint s
skips s few h continued e =
    let f = flight_of s in
    let cs = in_flight s in
    let p = f.acked_tsn in
    let n = length cs in
    let some = some-lead cs e in
    let far = point-ahead p n f h few in
    let l = lead-ends _ p h.acked cs continued h.run e in
    let can : can_skip_to (advanced_ack_point f) f ≡ true = can-go f (advanced_ack_point f) (omega (arith, far, some)) (omega arith) in
    ap (λ b. if b then option_map (λ (c : ChunkPayloadData). c.tsn) (last_end (advanced_ack_point f) f) else None) can
    ∙ ap (λ j. option_map (λ (c : ChunkPayloadData). c.tsn) (last_of (filter ends (take j cs)))) far
    ∙ ap (option_map (λ (c : ChunkPayloadData). c.tsn)) l.last
    ∙ ap Some (l.is ∙ sym (point p n f h))

pub all-skip : WhileFewInFlight SkipsToPoint
all-skip first size max most limits cs s small some r few = grind (arith, nat_tests, common_steps, has-lasted, skips)

-- ## A SACK of a receiver that is caught up

-- no SACK that was taken was ahead of the receiver
pub ahead-of-sacks : (first n : ℕ) (s : Session) → n < 2 ^ 31 → IsReached first n s → (h : IsInStep (base first) n s) → h.numbered.acked ≤ h.arrived.place
ahead-of-sacks first n s few i h =
    let p = base first in
    let given = i.given in
    let u = (kept-in first i.size i.max i.most i.limits i.calls s i.small i.some i.run (omega (arith, few, given))).kept.unwrapped in
    let g = u.spread.step.numbered in
    let d = (u.answered 0).0.arrived in
    let total = h.numbered.total in
    let most = g.total in
    let within = h.arrived.within in
    let upto = d.within in
    let least = d.least_is in
    let a = same-place p h.numbered.acked g.acked (omega (arith, total, few)) (omega (arith, most, few, given)) (sym h.numbered.acked_is ∙ g.acked_is) in
    let b = same-place p h.arrived.place d.place (omega (arith, within, few)) (omega (arith, upto, few, given)) (sym h.arrived.is ∙ d.is) in
    omega (arith, a, b, least)

module _ (first n : ℕ) (s t : Session) (few : n < 2 ^ 31) (i : IsReached first n s) (c : IsCaughtUp s) (a : IsAnswered s t) where
  step : IsInStep (base first) n s
  step = (kept first n s few i).kept.step

  abbrev f : Flight
  f = s.sending.sender.flight

  abbrev acked : ℕ
  acked = step.numbered.acked

  -- the place of the cumulative TSN of the receiver
  abbrev q : ℕ
  q = step.arrived.place

  up : acked ≤ q
  up = ahead-of-sacks first n s few i step

  within : q ≤ n
  within = step.arrived.within

  -- the SACK tells of it
  abbrev k : Sack
  k = a.sack

  -- it has the cumulative TSN of the receiver
  cumulative : a.sack.cumulative_tsn_ack ≡ s.receiving.receiver.cumulative_tsn
  cumulative = cumulative-of a.call s a.reported a.sack a.makes a.reporting a.made

  told : a.sack.cumulative_tsn_ack ≡ tsn (base first) q
  told = cumulative ∙ step.arrived.is

  flight-after : t.sending.sender.flight ≡ after_sack a.sack s.sending.sender.flight
  flight-after =
      ap (λ (u : Transmission). u.flight) a.taking.exact ∙ ap (λ (x : Session). after_sack a.sack x.sending.sender.flight) a.reporting.after

  current : is_outdated a.sack s.sending.sender.flight ≡ false
  current = grind (arith, nat_tests, before, up, within)

  taken-sack : t.sending.sender.flight ≡ take_sack a.sack s.sending.sender.flight
  taken-sack = flight-after ∙ ap (λ b. if b then f else take_sack k f) current

  numbered : IsNumbered (base first) n (take_sack a.sack s.sending.sender.flight)
  numbered =
      subst (λ b. IsNumbered (base first) n (if b then f else take_sack k f)) current
      (taken-numbered (base first) n q k f few within told step.numbered)

  there : numbered.acked ≡ q
  there = grind (arith, nat_tests, common_steps, numbered, same-place)

  -- the TSN behind it was not taken
  untaken : was_taken (tsn (base first) (q + 1)) s ≡ false
  untaken =
      ap (λ u. was_taken u s) (sym (next-place (base first) q)) ∙ ap (λ u. was_taken (following_tsn u) s) (sym step.arrived.is)
      ∙ next-untaken (base first) n s (known s) few step.arrived step.order step.taken

  -- a chunk that is kept was taken
  abbrev WasKept : ChunkPayloadData → Type 0
  WasKept x = x.abandoned ≡ false → was_taken x.tsn s ≡ true

  every : Every WasKept s.sending.sender.flight.queue.inflight.chunks
  every = every-of-all WasKept (in_flight s) c.taken

  -- the first chunk in flight leaves
  rises-past : (cs : List ChunkPayloadData) → in_flight s ≡ cs → 0 < length cs → acked < q
  rises-past [] e lt = absurd (omega (arith, lt))
  rises-past (x ∷ xs) e lt = by x.abandoned refl
    where
      first-is : x.tsn ≡ tsn (base first) (acked + 1)
      first-is = (rest-run (base first) acked x xs (subst (IsRunFrom (tsn (base first) (acked + 1))) e step.numbered.run)).0

      apart : was_taken x.tsn s ≡ true → acked < q
      apart h1 = grind (arith, nat_tests, cases_lt, first-is, not_both, untaken, up)

      by : (b : Bool) → x.abandoned ≡ b → acked < q
      by false g = apart ((subst (Every WasKept) e every).0 g)
      by true g =
          let lead-first : is_first_abandoned (in_flight s) ≡ true = ap is_first_abandoned e ∙ g in
          let some = some-lead (in_flight s) lead-first in
          let k = (kept first n s few i).kept in
          let total = k.step.numbered.total in
          let upto = c.followed (advanced_ack_point f)
          (skips s (omega (arith, total, few)) (rebased (base first) n f k.step.numbered) k.continued lead-first) in
          let total = step.numbered.total in
          let most = lead-within (in_flight s) in
          let order : nat_le (acked + lead (in_flight s)) q ≡ true =
          sym (at-or-before (base first) (acked + lead (in_flight s)) q (omega (arith, total, most, few)) (omega (arith, within, few)))
          ∙ ap (λ u. at_or_before u (tsn (base first) q)) (sym (point (base first) n f step.numbered))
          ∙ ap (at_or_before (advanced_ack_point f)) (sym step.arrived.is) ∙ upto in
          let le : acked + lead (in_flight s) ≤ q = grind (arith, nat_tests, order) in
          omega (arith, le, some)

  count-left : length (in_flight t) + q ≡ n
  count-left = let total = numbered.total in let e = ap (λ (x : Flight). length x.queue.inflight.chunks) taken-sack in omega (arith, total, e, there)

  fewer : 0 < length (in_flight s) → length (in_flight t) < length (in_flight s)
  fewer lt = grind (arith, nat_tests, common_steps, rises-past, count-left)

  -- what is so of a chunk that is kept stays so
  stays : (P : Bool → ℕ → Type 0) → Every (λ (x : ChunkPayloadData). P x.abandoned x.tsn) (in_flight s)
      → Every (λ (x : ChunkPayloadData). P x.abandoned x.tsn) (in_flight t)
  stays P e = grind (arith, nat_tests, every-changed, every-passing, taken-sack)

  run-left : IsRunFrom (tsn (base first) (q + 1)) (in_flight t)
  run-left = grind (arith, nat_tests, common_steps, taken-sack, numbered)

  left-first : (cs : List ChunkPayloadData) → in_flight t ≡ cs → (cs ≡ []) ⊎ (is_first_abandoned cs ≡ true)
  left-first [] e = inl refl
  left-first (x ∷ xs) e = inr (by x.abandoned refl)
    where
      here : x.tsn ≡ tsn (base first) (q + 1)
      here = (rest-run (base first) q x xs (subst (IsRunFrom (tsn (base first) (q + 1))) e run-left)).0

      by : (b : Bool) → x.abandoned ≡ b → b ≡ true
      by true g = refl
      by false g =
          let was = (subst (Every WasKept) e (stays (λ b u. b ≡ false → was_taken u s ≡ true) every)).0 g in
          absurd (not_both (sym untaken ∙ ap (λ u. was_taken u s) (sym here) ∙ was))

  none-left : All (λ (x : ChunkPayloadData). x.abandoned ≡ false) (in_flight s) → (cs : List ChunkPayloadData) → in_flight t ≡ cs
      → (cs ≡ []) ⊎ (is_first_abandoned cs ≡ true) → cs ≡ []
  none-left all cs e (inl none) = none
  none-left all [] e (inr first) = refl
  none-left all (x ∷ xs) e (inr first) =
      let kept-all = every-of-all (λ (y : ChunkPayloadData). y.abandoned ≡ false) (in_flight s) all in
      absurd (not_both (sym (subst (Every (λ (y : ChunkPayloadData). y.abandoned ≡ false)) e (stays (λ b u. b ≡ false) kept-all)).0 ∙ first))

  pub leaves-fewer : LeavesFewer s t
  leaves-fewer = search (fewer, left-first, none-left)

pub all-leave-fewer : WhileFewTsns EachAnswerLeavesFewer
all-leave-fewer first size max most limits cs s small some r few c t a =
    leaves-fewer first _ s t few
    (record { size = size; max = max; most = most; limits = limits; calls = cs; small = small; some = some; run = r; given = refl }) c a

-- # Rounds, one after another, empty the sender

-- ## The SACK gives out no TSN

after-sack : (k : Sack) (f : Flight) → ((after_sack k f).next_tsn ≡ f.next_tsn) × ((after_sack k f).queue.pending ≡ f.queue.pending)
after-sack k f = grind (arith, nat_tests)

module _ (s t : Session) (a : IsAnswered s t) where
  abbrev pub two : List Call
  two = of_receiver a.call ∷ of_sender (takes_sack a.sack a.gone) ∷ []

  abbrev pub run : RunsTo s two t
  run = (a.reported, (a.reporting, (t, (a.taking, refl))))

  sender-same : a.reported.sending ≡ s.sending
  sender-same = ap (λ (x : Session). x.sending) a.reporting.after

  after : t.sending.sender.flight ≡ after_sack a.sack s.sending.sender.flight
  after = ap (λ (u : Transmission). u.flight) a.taking.exact ∙ ap (λ l. after_sack a.sack l.sender.flight) sender-same

  pub same-pending : t.sending.sender.flight.queue.pending ≡ s.sending.sender.flight.queue.pending
  same-pending = ap (λ (f : Flight). f.queue.pending) after ∙ (after-sack a.sack s.sending.sender.flight).1

  pub same-next : t.sending.sender.flight.next_tsn ≡ s.sending.sender.flight.next_tsn
  same-next = ap (λ (f : Flight). f.next_tsn) after ∙ (after-sack a.sack s.sending.sender.flight).0

  still : (p n : ℕ) → IsNumbered p n s.sending.sender.flight → distance (next_tsn s) (next_tsn s) ≡ 0
  still p n h = grind (arith, nat_tests, distance-tsn)

  pub none-given : (p n : ℕ) → IsNumbered p n s.sending.sender.flight → tsns_given s two t run ≡ 0
  none-given p n h =
      let one = ap (λ l. distance (next_tsn s) l.sender.flight.next_tsn) sender-same ∙ still p n h in
      let two' = ap (λ u. distance u (next_tsn t)) (ap (λ l. l.sender.flight.next_tsn) sender-same) ∙ ap (distance (next_tsn s)) same-next ∙ still p n h in
      omega (arith, one, two')

  pub answered : (first n : ℕ) → n < 2 ^ 31 → IsReached first n s → IsReached first n t
  answered first n few i =
      let none = none-given (base first) n (kept first n s few i).kept.step.numbered in
      subst (λ k. IsReached first k t) {x = n + tsns_given s two t run} {y = n} (omega (arith, none)) (reach-on first n two s t run i)

-- ## One round

-- the session that it leaves, reached so, and at least one chunk fewer
pub record TakesOne (first n : ℕ) (s t : Session) : Type 0 where
  pub reached : IsReached first n t
  pub fewer : chunks_left t.sending.sender ≤ chunks_left s.sending.sender - 1

takes-one : (first n : ℕ) (s t : Session) (r : IsRound s t) → n + tsns_given s r.calls r.reached r.run < 2 ^ 31 → IsReached first n s
    → TakesOne first (n + tsns_given s r.calls r.reached r.run) s t
takes-one first n s t r few i =
    let m = n + tsns_given s r.calls r.reached r.run in
    let u = reach-on first n r.calls s r.reached r.run i in
    let fewer = leaves-fewer first m r.reached t few u r.caught_up r.answered in
    record {
      reached = answered r.reached t r.answered first m few u;
      fewer =
          let before = none-more first n r.calls s r.reached r.run few r.exchange i in
          let waiting = ap chunk_count (same-pending r.reached t r.answered) in
          elim (cases_lt 0 (length (in_flight r.reached))) [
            | inl some ↦ let less = fewer.fewer some in omega (arith, before, waiting, less)
            | inr none ↦ grind (arith, nat_tests, common_steps, fewer, none-waits)
          ];
    }
  where
    none-waits : (0 < chunk_count (flight_of r.reached).queue.pending → 0 < length (in_flight r.reached)) → length (in_flight r.reached) ≡ 0
        → chunk_count (flight_of r.reached).queue.pending ≡ 0
    none-waits h1 h2 = grind (arith, nat_tests, cases_lt)

-- ## Rounds

each-takes-one : (first n : ℕ) (s : Session) → IsReached first n s → EachRoundTakesOne n s
each-takes-one first n s i zero t r few = let same = ap (λ (x : Session). chunks_left x.sending.sender) r in omega (arith, same)
each-takes-one first n s i (suc k) t r few =
    let m = n + tsns_given s r.1.0.calls r.1.0.reached r.1.0.run in
    let one = takes-one first n s r.0 r.1.0 (omega (arith, few)) i in
    let ih = each-takes-one first m r.0 one.reached k t r.1.1 (omega (arith, few)) in
    let less = one.fewer in
    omega (arith, less, ih)

pub all-take-one : AfterEachFitSessionOfFewTsns EachRoundTakesOne
all-take-one first size max most limits cs s small some r few =
    each-takes-one first _ s (record {
      size = size;
      max = max;
      most = most;
      limits = limits;
      calls = cs;
      small = small;
      some = some;
      run = r;
      given = refl;
    })

pub all-end : AfterEachFitSessionOfFewTsns RoundsEnd
all-end first size max most limits cs s small some r few k enough t rounds all =
    let left = all-take-one first size max most limits cs s small some r few k t rounds all in
    let waits : chunk_count (flight_of t).queue.pending ≡ 0 = omega (arith, left, enough) in
    let flies : length (in_flight t) ≡ 0 = omega (arith, left, enough) in
    and (chunk_count (flight_of t).queue.pending == 0) (length (in_flight t) == 0) (grind (arith, nat_tests, waits)) (grind (arith, nat_tests, flies))

-- # After rounds of reliable calls each write was read

answered-reliably : (first n : ℕ) (s t : Session) (a : IsAnswered s t) → n < 2 ^ 31 → IsReachedReliably first n s → IsReachedReliably first n t
answered-reliably first n s t a few i =
    let none = none-given s t a (base first) n (kept first n s few i.reached).kept.step.numbered in
    subst (λ k. IsReachedReliably first k t) {x = n + tsns_given s (two s t a) t (run s t a)} {y = n} (omega (arith, none))
    (reliably-on first n (two s t a) s t (run s t a)
    (and (is_reliable_at_receiver a.call) true (reporting-of a.call s a.reported a.makes a.reporting).reliable refl) i)

rounds-reliably : (first n k : ℕ) (s t : Session) (r : Rounds k s t) → AreReliable k s t r → n + tsns_in_rounds k s t r < 2 ^ 31
    → IsReachedReliably first n s → IsReachedReliably first (n + tsns_in_rounds k s t r) t
rounds-reliably first n zero s t r e few i =
    subst (λ k. IsReachedReliably first k t) {x = n} {y = n + 0} (omega arith) (subst (IsReachedReliably first n) (sym r) i)
rounds-reliably first n (suc k) s t r e few i =
    let one = r.1.0 in
    let d = tsns_given s one.calls one.reached one.run in
    let u = reliably-on first n one.calls s one.reached one.run e.0 i in
    let v = answered-reliably first (n + d) one.reached r.0 one.answered (omega (arith, few)) u in
    let sum : (n + d) + tsns_in_rounds k r.0 t r.1.1 ≡ n + (d + tsns_in_rounds k r.0 t r.1.1) = omega arith in
    subst (λ m. IsReachedReliably first m t) sum (rounds-reliably first (n + d) k r.0 t r.1.1 e.1 (omega (arith, few)) v)

pub all-read-after : AfterEachFitReliableSession AllIsReadAfterRounds
all-read-after first size max most limits cs s small some r few reliable k t rounds each all enough nothing =
    let n = tsns_given _ cs s r in
    let i = rounds-reliably first n k s t rounds each all (record {
      reached = record { size = size; max = max; most = most; limits = limits; calls = cs; small = small; some = some; run = r; given = refl };
      reliable = reliable;
    }) in
    let x = i.reached in
    let given = x.given in
    let end = all-end first size max most limits cs s small some r few k enough t rounds all in
    all-read first x.size x.max x.most x.limits x.calls t x.run small (omega (arith, given, all)) i.reliable x.some
    (and (is_all_acknowledged t.sending.sender) (reads_nothing t.receiving.receiver) end nothing)
