-- Sessions of a whole life: what came at the receiver lies behind the acknowledged TSN, and before the next one, while nothing older is handed over.
use Rattle.sctp_delivery.proofs.Names.{common_steps, Option, Some, None, Limits, expired_of, ◌≡◌, ℕ, ◌+◌, ◌-◌, ◌<◌, ◌≤◌, ◌^◌, Bool, true, false, not, List, []}
use Rattle.sctp_delivery.proofs.Names.{◌∷◌, length, refl, ap, sym, subst, ◌∙◌, arith, nat_tests, inl, inr, ◌⊎◌, cases_lt, filter, not_both, both, if◌then◌else◌}
use Rattle.sctp_delivery.proofs.Names.{tsn, Sack, Flight, Transmission, Reception, Released, after_sack, take_sack, is_outdated, follow_forward_tsn}
use Rattle.sctp_delivery.proofs.Names.{without_incomplete, is_stale, New, Repeat, list_any, Session, SenderFollows, ReceiverFollows, SenderCall, ReceiverCall}
use Rattle.sctp_delivery.proofs.Names.{at_start, of_sender, of_receiver, CanBeAnswered, Contains, ForwardTsn, after_forward_tsn, filter_of, has_come}
use Rattle.sctp_delivery.proofs.Names.{with_filter, with_tsn, fragments_with_mode, with_message, sent_next, next_after_send, nat_lt, ◌&&◌, ◌==◌, tsns}
use Rattle.sctp_delivery.proofs.Names.{all_started, after_misses, abandoned_each, after_abandonment, changed-run, started-inflight, can_miss, missed}
use Rattle.sctp_delivery.proofs.Names.{sack_refusal, data_chunk, data_of, forward_tsn, Ledger}
use Rattle.sctp_outbound.specs.payload_queue.PayloadQueue as payload
use Rattle.sctp_sender.proofs.MarkedRuns.{part-run}
use Rattle.sctp_delivery.proofs.Sessions.{neither}
use Rattle.sctp_receiver.specs.TsnFilter.{rise_beyond}
use Rattle.sctp_sender.specs.Flight.{count_acked, with_queue, with_room}
use Rattle.sctp_util.specs.Serial.{at_or_before, comes_before, distance}
use Rattle.sctp_delivery.specs.Recent.{IsRecent}
use Rattle.sctp_delivery.specs.ReceiverCalls as incoming
use Rattle.sctp_delivery.specs.SenderCalls as outgoing
use Rattle.sctp_delivery.specs.Session.{count_in_flight}
use Rattle.sctp_delivery.proofs.ArrivedTsns.{IsArrived, IsKnown, advanced}
use Rattle.sctp_delivery.proofs.Changes.{Change, Keeps, acknowledges, all_start, changes, each-call, each_leaves, flight_after, front_expires, more_room}
use Rattle.sctp_delivery.proofs.Changes.{nothing, one_leaves, some_marked, some_missed}
use Rattle.sctp_delivery.proofs.Every.{Every, every-both, every-contained, every-inserted, every-of, every-passing}
use Rattle.sctp_delivery.proofs.FewInFlight.{AreRegular, IsInRun, IsMadeSmall, IsSmall, regular-then, sack-place}
use Rattle.sctp_delivery.proofs.GivenTsns.{IsNumbered, Raises, as-long, raises-abandoned, raises-each, raises-sent, taken-numbered}
use Rattle.sctp_delivery.proofs.QueueChunks.{pushed}
use Rattle.sctp_delivery.proofs.SackSteps.{message-inflight}
use Rattle.sctp_delivery.proofs.Taking.{can-near, settled}
use Rattle.sctp_delivery.proofs.TakenCalls.{IsInOrder, fresh-new, more-arrived, order-past, order-with}
use Rattle.sctp_delivery.proofs.TsnPlaces.{IsGiven, same-place, upto-is}
use Rattle.sctp_delivery.proofs.ValidMarks.{IsRight, IsUnmarked, IsValid, fragments-unmarked}
use Rattle.sctp_delivery.proofs.Writing.{accepted-stream}

-- ## Which TSNs may come

abbrev pub any : ℕ → Bool
any t = true

abbrev pub none : ℕ → Bool
none t = false

-- what came at the receiver, behind the place acknowledged
abbrev pub HasArrived : Flight → Reception → Type 0
HasArrived f r = IsArrived f.acked_tsn (length f.queue.inflight.chunks) any r.cumulative_tsn r.beyond

pub record IsNear (s : Session) : Type 0 where
  pub regular : AreRegular s
  pub valid : IsValid any none s.sending.sender.flight.queue
  pub arrived : HasArrived s.sending.sender.flight s.receiving.receiver
  pub order : IsInOrder s.receiving.receiver
  pub few : count_in_flight s < 2 ^ 31

-- a TSN before the next one is in flight, or at or before each place in the run
near-given : (p n t : ℕ) (next : ℕ) → n < 2 ^ 31 → t < 2 ^ 32 → next ≡ tsn p (n + 1) → comes_before t next ≡ true
    → IsGiven p n t ⊎ ((d : ℕ) → d ≤ n → at_or_before t (tsn p d) ≡ true)
unfolding comes_before at_or_before distance
near-given p n t next few small is e =
    let b = both (nat_lt 0 (distance t next)) (nat_lt (distance t next) (2 ^ 31)) e in
    let pos : 0 < distance t next = grind (arith, nat_tests) in
    let near : distance t next < 2 ^ 31 = grind (arith, nat_tests) in
    elim (cases_lt n (distance t next)) [
      | inr ge ↦ inl (record { place = n + 1 - distance t next; some = omega (arith, ge); within = omega (arith, pos); is = omega (arith, small, is, ge, pos) })
      | inl lt ↦ grind (arith, nat_tests, common_steps)
    ]

-- ## A call of the sender

-- nothing more is acknowledged, and no less is in flight
pub record IsLonger (f g : Flight) : Type 0 where
  pub acked : g.acked_tsn ≡ f.acked_tsn
  pub long : length f.queue.inflight.chunks ≤ length g.queue.inflight.chunks

pub same-longer : (f g : Flight) → tsns g.queue.inflight.chunks ≡ tsns f.queue.inflight.chunks → g.acked_tsn ≡ f.acked_tsn → IsLonger f g
same-longer f g same acked = record { acked = acked; long = let n = as-long g.queue.inflight.chunks f.queue.inflight.chunks same in omega (arith, n) }

raised-longer : (most : ℕ) (f g : Flight) → Raises f.acked_tsn most f g → IsLonger f g
raised-longer most f g r = record { acked = r.acked; long = let n = r.long in omega (arith, n) }

pub longer-arrived : (f g : Flight) (r : Reception) → IsLonger f g → HasArrived f r → HasArrived g r
longer-arrived f g r l h = grind (arith, nat_tests, common_steps, more-arrived)

-- those beyond lie past the cumulative TSN
pub rise-each : (base far : ℕ) (ts : List ℕ) → rise_beyond base far ts ≡ true → Every (λ t. (far < distance base t) × (distance base t < 2 ^ 31)) ts
rise-each base far [] e = tt
rise-each base far (t ∷ ts) e =
    let b = both (nat_lt t (2 ^ 32) && (nat_lt far (distance base t) && nat_lt (distance base t) (2 ^ 31))) (rise_beyond base (distance base t) ts) e in
    let c = both (nat_lt far (distance base t)) (nat_lt (distance base t) (2 ^ 31)) (both (nat_lt t (2 ^ 32)) _ b.0).1 in
    let past : far < distance base t = grind (arith, nat_tests) in
    let near : distance base t < 2 ^ 31 = grind (arith, nat_tests) in (
      (past, near),
      every-of (λ u. (distance base t < distance base u) × (distance base u < 2 ^ 31)) (λ u. (far < distance base u) × (distance base u < 2 ^ 31))
          (λ u h. let lt = h.0 in (omega (arith, lt, past), h.1)) ts (rise-each base (distance base t) ts b.1),
    )

-- from the place c on
from-place : (p n c cumulative : ℕ) (beyond : List ℕ) → n < 2 ^ 31 → (h : IsArrived p n any cumulative beyond) → c ≤ h.place
    → Every (λ t. (1 < distance cumulative t) × (distance cumulative t < 2 ^ 31)) beyond → IsArrived (tsn p c) (n - c) any cumulative beyond
unfolding distance
from-place p n c cumulative beyond few h le past =
    let within = h.within in
    let is = h.is in
    record {
      place = h.place - c;
      within = omega (arith, le, within);
      is = omega (arith, is, le);
      so_far = λ k pos l. refl;
      each = every-both (IsKnown p n any) (λ t. (1 < distance cumulative t) × (distance cumulative t < 2 ^ 31)) (IsKnown (tsn p c) (n - c) any)
          (λ t k d.
          let a = k.within in
          let at = k.is in
          let lo = d.0 in
          let hi = d.1 in
          let later : h.place < k.place = grind (arith, nat_tests, common_steps) in
          record {
            place = k.place - c;
            some = omega (arith, later, le);
            within = omega (arith, a, later, le);
            is = omega (arith, at, later, le);
            so = refl;
          }) beyond h.each past;
    }

sacked-arrived : (k : Sack) (f : Flight) (r : Reception) → length f.queue.inflight.chunks < 2 ^ 31 → IsSmall k.cumulative_tsn_ack → sack_refusal k f ≡ None
    → at_or_before k.cumulative_tsn_ack r.cumulative_tsn ≡ true → IsInRun f → IsInOrder r → HasArrived f r → HasArrived (after_sack k f) r
sacked-arrived k f r few small fits recent run order h = by (is_outdated k f) refl
  where
    by : (b : Bool) → is_outdated k f ≡ b → HasArrived (if b then f else take_sack k f) r
    by true e = h
    by false e =
        let p = f.acked_tsn in
        let n = length f.queue.inflight.chunks in
        let c = count_acked k f in
        let at = sack-place k f small fits run e in
        let within = h.within in
        let le = upto-is p c h.place at.1 h.is (omega (arith, at.0, few)) (omega (arith, within, few)) recent in
        let num : IsNumbered p n (take_sack k f) = subst (IsNumbered p n) (ap (λ b. if b then f else take_sack k f) e)
        (taken-numbered p n c k f few at.0 at.1 run) in
        let total = num.total in
        let same : num.acked ≡ c = same-place p num.acked c (omega (arith, total, few)) (omega (arith, at.0, few)) (sym num.acked_is ∙ at.1) in
        let left : n - c ≡ length (take_sack k f).queue.inflight.chunks = omega (arith, total, same) in
        let rise = rise-each r.cumulative_tsn 1 r.beyond order.rise in
        subst (λ a. IsArrived a (length (take_sack k f).queue.inflight.chunks) any r.cumulative_tsn r.beyond) (sym at.1)
        (subst (λ m. IsArrived (tsn p c) m any r.cumulative_tsn r.beyond) left (from-place p n c r.cumulative_tsn r.beyond few h le rise))

-- or a SACK is taken
abbrev pub IsLongerOrSacked : SenderCall → Flight → Flight → Type 0
IsLongerOrSacked call f g = IsLonger f g ⊎ ((k : Sack) × (gone : List Released) × (call ≡ outgoing.takes_sack k gone) × (g ≡ after_sack k f))

moves-by : (call : SenderCall) (t : Transmission) (c : Change call t) → IsLongerOrSacked call t.flight (flight_after call t c)
moves-by call t nothing = inl (same-longer t.flight t.flight refl refl)
moves-by call t (all_start now) = inl (same-longer t.flight (with_queue t.flight (all_started now t.flight.queue))
    (ap (λ (w : payload.Payload). tsns w.chunks) (started-inflight now t.flight.queue)) refl)
moves-by call t (more_room count) = inl (same-longer t.flight (with_queue t.flight (with_room count t.flight.queue)) refl refl)
moves-by call t (some_marked q g k) = grind (arith, nat_tests, common_steps, same-longer, changed-run)
moves-by call t (some_missed count) =
    inl (same-longer t.flight (after_misses count t.flight) (part-run can_miss missed (λ d. refl) t.flight.queue.inflight.chunks count) refl)
moves-by call t (one_leaves o e found) =
    inl (raised-longer 1 t.flight (after_abandonment o t.flight) (raises-abandoned t.flight.acked_tsn 1 o t.flight (omega arith)))
moves-by call t (each_leaves ts short e) =
    inl (raised-longer (length ts) t.flight (abandoned_each ts t.flight) (raises-each t.flight.acked_tsn ts t.flight))
moves-by call t (front_expires now c found e) = inl (same-longer t.flight (with_queue t.flight (expired_of (Some c) t.flight.queue)) refl refl)
moves-by call t (acknowledges k gone e) = inr (k, gone, e, refl)

module _ (old new : Session) (few : count_in_flight new < 2 ^ 31) (i : IsNear old) where
  abbrev u : Transmission
  u = old.sending.sender

  abbrev r : Reception
  r = old.receiving.receiver

  keeps : Keeps IsUnmarked (IsRight any none) u
  keeps = grind (arith, nat_tests, common_steps)

  sender-valid : (c : SenderCall) → SenderFollows c old new → IsValid any none new.sending.sender.flight.queue
  sender-valid (outgoing.writes stream ppi (b ∷ bs)) g =
      let l = accepted-stream stream (length (b ∷ bs)) u g.accepted in
      subst (λ (x : Transmission). IsValid any none x.flight.queue) (sym (g.exact.1 (omega arith) l.0 l.1))
      (pushed IsUnmarked (IsRight any none) IsUnmarked (IsRight any none) (λ c h. h) (λ c h. h) (fragments_with_mode l.0 ppi (b ∷ bs)) u.flight.queue
      (fragments-unmarked l.0 ppi (b ∷ bs)) i.valid)
  sender-valid c g = each-call IsUnmarked (IsRight any none) u keeps i.valid new.sending.sender c refl g.step.sender g.exact

  pub sender-moves : (c : SenderCall) → SenderFollows c old new → IsLongerOrSacked c u.flight new.sending.sender.flight
  sender-moves (outgoing.writes stream ppi (b ∷ bs)) g =
      let l = accepted-stream stream (length (b ∷ bs)) u g.accepted in
      let cs = fragments_with_mode l.0 ppi (b ∷ bs) in
      subst (λ (x : Transmission). IsLongerOrSacked (outgoing.writes stream ppi (b ∷ bs)) u.flight x.flight) (sym (g.exact.1 (omega arith) l.0 l.1))
      (inl (same-longer u.flight (with_queue u.flight (with_message cs u.flight.queue))
      (ap (λ (w : payload.Payload). tsns w.chunks) (message-inflight cs u.flight.queue)) refl))
  sender-moves (outgoing.sends now) g =
      let f = record u.flight { queue = sent_next u.flight.queue u.flight.next_tsn now; next_tsn = next_after_send u.flight } in
      subst (λ (x : Transmission). IsLongerOrSacked (outgoing.sends now) u.flight x.flight) (sym g.exact)
      (inl (raised-longer 1 u.flight f (raises-sent u.flight.acked_tsn 1 now u.flight (omega arith))))
  sender-moves c g =
      let x = changes u new.sending.sender c refl g.step.sender g.exact in
      subst (IsLongerOrSacked c u.flight) (sym x.flight) (moves-by c u x.change)

  -- a SACK that is taken has a TSN of 32 bits, and is not refused
  pub sack-fits : (c : SenderCall) → SenderFollows c old new → (k : Sack) (gone : List Released) → c ≡ outgoing.takes_sack k gone
      → IsSmall k.cumulative_tsn_ack × (sack_refusal k u.flight ≡ None)
  sack-fits c g k gone e = grind (arith, nat_tests, common_steps)

  sender-arrived : (c : SenderCall) → SenderFollows c old new → IsRecent (of_sender c) old → HasArrived new.sending.sender.flight r
  sender-arrived c g q = grind (arith, nat_tests, common_steps, sender-moves, longer-arrived, sack-fits, sacked-arrived)

  pub sender-near : (c : SenderCall) → SenderFollows c old new → IsRecent (of_sender c) old → IsNear new
  sender-near c g q =
      let same = ap (λ (s : Session). s.receiving.receiver) g.after in
      record {
        regular = regular-then (of_sender c) old new i.few few g i.regular;
        valid = sender-valid c g;
        arrived = subst (HasArrived new.sending.sender.flight) (sym same) (sender-arrived c g q);
        order = subst IsInOrder (sym same) i.order;
        few = few;
      }

  -- ## A call of the receiver

  abbrev p : ℕ
  p = u.flight.acked_tsn

  abbrev n : ℕ
  n = count_in_flight old

  abbrev pub Comes : Reception → Type 0
  Comes q = HasArrived old.sending.sender.flight q × IsInOrder q

  to : (q : Reception) → new.receiving.receiver ≡ q → Comes q → Comes new.receiving.receiver
  to q e h = subst Comes (sym e) h

  -- one that is handed over is in flight, or came
  pub given : (t : ℕ) → IsSmall t → comes_before t u.flight.next_tsn ≡ true → at_or_before t r.cumulative_tsn ≡ false → IsGiven p n t
  given t small e past = grind (arith, nat_tests, common_steps, near-given, not_both)

  pub fresh-given : (t : ℕ) → IsSmall t → comes_before t u.flight.next_tsn ≡ true → has_come t (filter_of r) ≡ false → IsGiven p n t
  fresh-given t small e fresh = given t small e (neither (at_or_before t r.cumulative_tsn) (list_any (λ x. x == t) r.beyond) fresh).0

  -- behind one that came, and behind a FORWARD-TSN
  pub comes-with : (t : ℕ) → IsGiven p n t → has_come t (filter_of r) ≡ false → Comes (with_filter (with_tsn t (filter_of r)) r)
  comes-with t a fresh = search (order-with, advanced, every-inserted)

  pub comes-past : (c : ForwardTsn) → Contains old.made (forward_tsn c) → comes_before c.new_cumulative_tsn u.flight.next_tsn ≡ true
      → Comes (after_forward_tsn c r)
  comes-past c handed q = by (is_stale c r) refl
    where
      by : (b : Bool) → is_stale c r ≡ b → Comes (if b then r else without_incomplete c.new_cumulative_tsn (if b then r else follow_forward_tsn c r))
      by true e = (i.arrived, i.order)
      by false e =
          let small = every-contained IsMadeSmall old.made (forward_tsn c) handed i.regular.made in
          let a = given c.new_cumulative_tsn small q e in
          let o = subst (λ b. IsInOrder (if b then r else without_incomplete c.new_cumulative_tsn (if b then r else follow_forward_tsn c r))) e
          (order-past p n r any i.few i.arrived i.order c a) in (
            advanced p n any c.new_cumulative_tsn (filter (λ t. not (at_or_before t c.new_cumulative_tsn)) r.beyond) i.few (record {
              place = a.place;
              within = a.within;
              is = a.is;
              so_far = λ j pos le. refl;
              each = every-passing (IsKnown p n any) (λ t. not (at_or_before t c.new_cumulative_tsn)) r.beyond i.arrived.each;
            }),
            o,
          )

  receiver-comes : (c : ReceiverCall) → ReceiverFollows c old new → IsRecent (of_receiver c) old → Comes new.receiving.receiver
  receiver-comes (incoming.opens stream) g q = to _ g.step.receiver.1 (i.arrived, record { small = i.order.small; rise = i.order.rise })
  receiver-comes (incoming.takes c Repeat) g q = to _ g.step.receiver (i.arrived, record { small = i.order.small; rise = i.order.rise })
  receiver-comes (incoming.takes c (New answered)) g q =
      let fresh = fresh-new c.tsn answered r g.accepted.1 in
      let small = every-contained IsMadeSmall old.made (data_chunk (data_of c)) g.handed i.regular.made in
      to _ g.step.receiver.after (comes-with c.tsn (fresh-given c.tsn small q fresh) fresh)
  receiver-comes (incoming.follows c) g q = to _ g.step.receiver (comes-past c g.handed q)
  receiver-comes c g q = to _ g.step.receiver (i.arrived, record { small = i.order.small; rise = i.order.rise })

  pub receiver-near : (c : ReceiverCall) → ReceiverFollows c old new → IsRecent (of_receiver c) old → IsNear new
  receiver-near c g q =
      let same = ap (λ (s : Session). s.sending) g.after in
      let k = receiver-comes c g q in
      record {
        regular = regular-then (of_receiver c) old new i.few few g i.regular;
        valid = subst (λ (l : Ledger). IsValid any none l.sender.flight.queue) (sym same) i.valid;
        arrived = subst (λ (l : Ledger). HasArrived l.sender.flight new.receiving.receiver) (sym same) k.0;
        order = k.1;
        few = few;
      }

-- ## The beginning, and what is so of each

pub near-first : (first size max most : ℕ) (limits : Option Limits) → first < 2 ^ 32 → IsNear (at_start first size max most limits)
near-first first size max most limits small = grind (arith, nat_tests, common_steps)

pub near-can : (s : Session) → IsNear s → CanBeAnswered s
near-can s i =
    can-near any s.sending.sender.flight.acked_tsn (count_in_flight s) s i.few i.regular.regular.numbered i.arrived
    (settled any none s.sending.sender.flight.queue.inflight.chunks i.valid.inflight)
