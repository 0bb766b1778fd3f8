-- Sessions that were reached from a start, call by call: the chunks in flight are continued, and no more are left in an exchange.
use Rattle.sctp_delivery.proofs.Names.{◌≡◌, ℕ, ◌+◌, ◌^◌, ◌<◌, ◌≤◌, true, List, [], ◌∷◌, ◌++◌, Option, refl, ap, sym, subst, arith, list_all, nat_tests}
use Rattle.sctp_delivery.proofs.Names.{common_steps, distance, and, both, Limits, Ledger, is_reliable, ReceiverCall, is_exchange, tsns_given, SenderCall, Call}
use Rattle.sctp_delivery.proofs.Names.{length, append-nil, append_assoc, abandoned_by, abandoned_in, Follows, ReceiverFollows, RunsTo, SenderFollows, Session}
use Rattle.sctp_delivery.proofs.Names.{at_start, of_receiver, of_sender}
use Rattle.sctp_delivery.specs.Modes.{AreFewInFlight}
use Rattle.sctp_delivery.specs.Session.{count_in_flight}
use Rattle.sctp_delivery.proofs.AbandonedMessages.{AreBelow, AreMarkedGone, below-after, by-below, gone-left, gone-right, marked-later, stays-marked}
use Rattle.sctp_delivery.proofs.Calls.{length-forgotten, numbered_after}
use Rattle.sctp_delivery.proofs.QueuesLeft.{calls-go, Goes, left}
use Rattle.sctp_delivery.proofs.Continued.{IsContinued}
use Rattle.sctp_delivery.proofs.Delivered as delivered
use Rattle.sctp_delivery.proofs.Delivered.{Holds, next_tsn}
use Rattle.sctp_delivery.proofs.Every.{every-joined}
use Rattle.sctp_delivery.proofs.Numbers.{number_of}
use Rattle.sctp_delivery.proofs.FewInFlight.{AreRegular, regular-first, regular-of-few, regular-then}
use Rattle.sctp_delivery.proofs.SackLaws as sacks
use Rattle.sctp_delivery.proofs.SackSteps.{none_dropped}
use Rattle.sctp_delivery.proofs.SackLaws.{IsInStep}
use Rattle.sctp_delivery.proofs.Sent.{Entry, Numbered}
use Rattle.sctp_delivery.proofs.TsnPlaces.{base}
use Rattle.sctp_delivery.proofs.OneRead.{given-then, run-then}

-- ## The chunks in flight are continued

pub record IsKept (first n : ℕ) (s : Session) (ns : List Numbered) (sent : List Entry) : Type 0 where
  pub holds : Holds first s ns sent
  pub step : IsInStep (base first) n s
  pub continued : IsContinued s.sending.sender.flight.queue

-- what a call of the sender makes of the queues
pub goes : (first n : ℕ) (call : SenderCall) (old new : Session) (ns : List Numbered) (sent : List Entry) → n < 2 ^ 31 → SenderFollows call old new
    → IsKept first n old ns sent → Goes (is_exchange (of_sender call)) old.sending.sender.flight.queue new.sending.sender.flight.queue
goes first n call old new ns sent few f i =
    let total = i.step.numbered.total in
    calls-go old new (omega (arith, total, few)) (regular-of-few none_dropped (base first) n old i.step) ns first sent i.holds.held call f

sender-kept : (first n : ℕ) (call : SenderCall) (old new : Session) (ns : List Numbered) (sent : List Entry)
    → n + distance (next_tsn old) (next_tsn new) < 2 ^ 31 → SenderFollows call old new → IsKept first n old ns sent
    → (more : List Entry) × IsKept first (n + distance (next_tsn old) (next_tsn new)) new (numbered_after call ns) more
sender-kept first n call old new ns sent few f i =
    let x = delivered.sender-step first call old new ns sent f i.holds in (
      x.more,
      record {
        holds = x.holds;
        step = sacks.sender-step (base first) n call old new few f i.step;
        continued = (goes first n call old new ns sent (omega (arith, few)) f i).continued i.continued;
      },
    )

receiver-kept : (first n : ℕ) (call : ReceiverCall) (old new : Session) (ns : List Numbered) (sent : List Entry) → n < 2 ^ 31
    → ReceiverFollows call old new → IsKept first n old ns sent → IsKept first n new ns sent
receiver-kept first n call old new ns sent few f i = record {
  holds = delivered.receiver-step first call old new ns sent f i.holds;
  step = sacks.receiver-step (base first) n call old new few f i.step;
  continued = subst (λ (l : Ledger). IsContinued l.sender.flight.queue) (sym (ap (λ (s : Session). s.sending) f.after)) i.continued;
}

-- the writes and entries of a session
pub record HasKept (first n : ℕ) (s : Session) : Type 0 where
  pub numbered : List Numbered
  pub sent : List Entry
  pub kept : IsKept first n s numbered sent

kept-after : (first n : ℕ) (cs : List Call) (old new : Session) (ns : List Numbered) (sent : List Entry) (r : RunsTo old cs new)
    → n + tsns_given old cs new r < 2 ^ 31 → IsKept first n old ns sent → HasKept first (n + tsns_given old cs new r) new
kept-after first n [] old new ns sent r few i = grind (arith, nat_tests, common_steps)
kept-after first n (of_sender call ∷ cs) old new ns sent r few i =
    let d = distance (next_tsn old) (next_tsn r.0) in
    let x = sender-kept first n call old r.0 ns sent (omega (arith, few)) r.1.0 i in
    let sum : (n + d) + tsns_given r.0 cs new r.1.1 ≡ n + (d + tsns_given r.0 cs new r.1.1) = omega arith in
    subst (λ k. HasKept first k new) sum
    (kept-after first (n + d) cs r.0 new (numbered_after call ns) x.0 r.1.1 (omega (arith, few)) x.1)
kept-after first n (of_receiver call ∷ cs) old new ns sent r few i =
    let d = distance (next_tsn old) (next_tsn r.0) in
    let none : d ≡ 0 = sacks.no-move (base first) n old r.0 (ap (λ (s : Session). s.sending) r.1.0.after) i.step.numbered in
    let sum : n + tsns_given r.0 cs new r.1.1 ≡ n + (d + tsns_given r.0 cs new r.1.1) = omega (arith, none) in
    subst (λ k. HasKept first k new) sum
    (kept-after first n cs r.0 new ns sent r.1.1 (omega (arith, few)) (receiver-kept first n call old r.0 ns sent (omega (arith, few)) r.1.0 i))

-- ## While few are in flight, however many TSNs were given out

pub record HasLasted (first : ℕ) (s : Session) : Type 0 where
  pub numbered : List Numbered
  pub sent : List Entry
  pub holds : Holds first s numbered sent
  pub regular : AreRegular s
  pub continued : IsContinued s.sending.sender.flight.queue
  pub few : count_in_flight s < 2 ^ 31

lasts-call : (first : ℕ) (call : SenderCall) (old new : Session) → SenderFollows call old new → count_in_flight new < 2 ^ 31 → HasLasted first old
    → HasLasted first new
lasts-call first call old new f few h =
    let x = delivered.sender-step first call old new h.numbered h.sent f h.holds in
    record {
      numbered = numbered_after call h.numbered;
      sent = x.more;
      holds = x.holds;
      regular = regular-then (of_sender call) old new h.few few f h.regular;
      continued = (calls-go old new h.few h.regular.regular h.numbered first h.sent h.holds.held call f).continued h.continued;
      few = few;
    }

lasts-answer : (first : ℕ) (call : ReceiverCall) (old new : Session) → ReceiverFollows call old new → count_in_flight new < 2 ^ 31 → HasLasted first old
    → HasLasted first new
lasts-answer first call old new f few h = record {
  numbered = h.numbered;
  sent = h.sent;
  holds = delivered.receiver-step first call old new h.numbered h.sent f h.holds;
  regular = regular-then (of_receiver call) old new h.few few f h.regular;
  continued = subst (λ (l : Ledger). IsContinued l.sender.flight.queue) (sym (ap (λ (s : Session). s.sending) f.after)) h.continued;
  few = few;
}

lasts : (first : ℕ) (cs : List Call) (old new : Session) (r : RunsTo old cs new) → AreFewInFlight old cs new r → HasLasted first old → HasLasted first new
lasts first [] old new r few h = subst (HasLasted first) (sym r) h
lasts first (of_sender call ∷ cs) old new r few h = lasts first cs r.0 new r.1.1 few.1 (lasts-call first call old r.0 r.1.0 few.0 h)
lasts first (of_receiver call ∷ cs) old new r few h = lasts first cs r.0 new r.1.1 few.1 (lasts-answer first call old r.0 r.1.0 few.0 h)

pub lasted-first : (first size max most : ℕ) (limits : Option Limits) → first < 2 ^ 32 → 0 < size → HasLasted first (at_start first size max most limits)
lasted-first first size max most limits small some = record {
  numbered = [];
  sent = [];
  holds = delivered.at-first first size max most limits small some;
  regular = regular-first first size max most limits small;
  continued = tt;
  few = omega arith;
}

pub has-lasted : (first size max most : ℕ) (limits : Option Limits) (cs : List Call) (s : Session) → first < 2 ^ 32 → 0 < size
    → (r : RunsTo (at_start first size max most limits) cs s) → AreFewInFlight (at_start first size max most limits) cs s r → HasLasted first s
has-lasted first size max most limits cs s small some r few =
    lasts first cs (at_start first size max most limits) s r few (lasted-first first size max most limits small some)

-- each message that was abandoned is one that was written, and chunks in flight of such messages alone are marked so
pub lasts-gone : (first : ℕ) (cs : List Call) (old new : Session) (r : RunsTo old cs new) → AreFewInFlight old cs new r → (h : HasLasted first old)
    → (gone : List ℕ) → AreBelow (length h.numbered) gone → AreMarkedGone gone old.sending.sender.flight.queue.inflight.chunks
    → AreBelow (length new.written) (gone ++ abandoned_in old cs new r)
    × AreMarkedGone (gone ++ abandoned_in old cs new r) new.sending.sender.flight.queue.inflight.chunks
unfolding lasts-call lasts-answer
lasts-gone first [] old new r few h gone below marked = grind (arith, nat_tests, common_steps, length-forgotten, append-nil)
lasts-gone first (of_sender call ∷ cs) old new r few h gone below marked =
    let next = lasts-call first call old r.0 r.1.0 few.0 h in
    let answered = abandoned_by call old.sending.sender in
    let more = gone ++ answered in
    let chunks = old.sending.sender.flight.queue.inflight.chunks in
    subst (λ xs. AreBelow (length new.written) xs × AreMarkedGone xs new.sending.sender.flight.queue.inflight.chunks)
    (append_assoc gone answered (abandoned_in r.0 cs new r.1.1))
    (lasts-gone first cs r.0 new r.1.1 few.1 next more
    (below-after call h.numbered more (every-joined (λ m. m < length h.numbered) gone answered below
    (by-below h.numbered first (λ s. number_of s old.sending.sender.streams) call old.sending.sender h.sent h.holds.held.stands)))
    (stays-marked more old r.0 h.regular.regular.fresh (marked-later gone more (gone-left gone answered) chunks marked) call (gone-right gone answered) r.1.0))
lasts-gone first (of_receiver call ∷ cs) old new r few h gone below marked =
    lasts-gone first cs r.0 new r.1.1 few.1 (lasts-answer first call old r.0 r.1.0 few.0 h) gone below
    (subst (λ (l : Ledger). AreMarkedGone gone l.sender.flight.queue.inflight.chunks) (sym (ap (λ (s : Session). s.sending) r.1.0.after)) marked)

-- ## Reached from a start

-- n TSNs were given out since
pub record IsReached (first n : ℕ) (s : Session) : Type 0 where
  pub size : ℕ
  pub max : ℕ
  pub most : ℕ
  pub limits : Option Limits
  pub calls : List Call
  pub small : first < 2 ^ 32
  pub some : 0 < size
  pub run : RunsTo (at_start first size max most limits) calls s
  pub given : n ≡ tsns_given (at_start first size max most limits) calls s run

pub kept : (first n : ℕ) (s : Session) → n < 2 ^ 31 → IsReached first n s → HasKept first n s
kept first n s few i =
    let start = at_start first i.size i.max i.most i.limits in
    let e = i.given in
    subst (λ k. HasKept first k s) (sym e)
    (subst (λ k. HasKept first k s) {x = 0 + tsns_given start i.calls s i.run} {y = tsns_given start i.calls s i.run} (omega arith)
    (kept-after first 0 i.calls start s [] [] i.run (omega (arith, few, e)) (record {
      holds = delivered.at-first first i.size i.max i.most i.limits i.small i.some;
      step = sacks.begin first i.size i.max i.most i.limits i.small;
      continued = tt;
    })))

pub reach-one : (first n : ℕ) (call : Call) (s t : Session) → Follows call s t → IsReached first n s
    → IsReached first (n + distance (next_tsn s) (next_tsn t)) t
reach-one first n call s t f i =
    let start = at_start first i.size i.max i.most i.limits in
    record {
      size = i.size;
      max = i.max;
      most = i.most;
      limits = i.limits;
      calls = i.calls ++ call ∷ [];
      small = i.small;
      some = i.some;
      run = run-then i.calls call start s t i.run f;
      given = let e = given-then i.calls call start s t i.run f in omega (arith, e);
    }

pub reach-on : (first n : ℕ) (cs : List Call) (s t : Session) (run : RunsTo s cs t) → IsReached first n s
    → IsReached first (n + tsns_given s cs t run) t
reach-on first n [] s t run i =
    subst (λ k. IsReached first k t) {x = n} {y = n + 0} (omega arith) (subst (IsReached first n) (sym run) i)
reach-on first n (c ∷ cs) s t run i =
    let d = distance (next_tsn s) (next_tsn run.0) in
    let sum : (n + d) + tsns_given run.0 cs t run.1.1 ≡ n + (d + tsns_given run.0 cs t run.1.1) = omega arith in
    subst (λ k. IsReached first k t) sum (reach-on first (n + d) cs run.0 t run.1.1 (reach-one first n c s run.0 run.1.0 i))

-- ## By reliable calls alone

pub record IsReachedReliably (first n : ℕ) (s : Session) : Type 0 where
  pub reached : IsReached first n s
  pub reliable : list_all is_reliable reached.calls ≡ true

all-more : (call : Call) (cs : List Call) → list_all is_reliable cs ≡ true → is_reliable call ≡ true → list_all is_reliable (cs ++ call ∷ []) ≡ true
all-more call [] e f = and (is_reliable call) true f refl
all-more call (c ∷ cs) e f = grind (arith, nat_tests, common_steps, both (is_reliable c) (list_all is_reliable cs) e)

reliably-one : (first n : ℕ) (call : Call) (s t : Session) → Follows call s t → is_reliable call ≡ true → IsReachedReliably first n s
    → IsReachedReliably first (n + distance (next_tsn s) (next_tsn t)) t
unfolding reach-one
reliably-one first n call s t f e i = record {
  reached = reach-one first n call s t f i.reached;
  reliable = all-more call i.reached.calls i.reliable e;
}

pub reliably-on : (first n : ℕ) (cs : List Call) (s t : Session) (run : RunsTo s cs t) → list_all is_reliable cs ≡ true → IsReachedReliably first n s
    → IsReachedReliably first (n + tsns_given s cs t run) t
reliably-on first n [] s t run e i =
    subst (λ k. IsReachedReliably first k t) {x = n} {y = n + 0} (omega arith) (subst (IsReachedReliably first n) (sym run) i)
reliably-on first n (c ∷ cs) s t run e i =
    let b = both (is_reliable c) (list_all is_reliable cs) e in
    let d = distance (next_tsn s) (next_tsn run.0) in
    let sum : (n + d) + tsns_given run.0 cs t run.1.1 ≡ n + (d + tsns_given run.0 cs t run.1.1) = omega arith in
    subst (λ k. IsReachedReliably first k t) sum
    (reliably-on first (n + d) cs run.0 t run.1.1 b.1 (reliably-one first n c s run.0 run.1.0 b.0 i))

-- ## An exchange

-- no more chunks are left after it
pub none-more : (first n : ℕ) (cs : List Call) (s t : Session) (run : RunsTo s cs t) → n + tsns_given s cs t run < 2 ^ 31 → list_all is_exchange cs ≡ true
    → IsReached first n s → left t.sending.sender.flight.queue ≤ left s.sending.sender.flight.queue
none-more first n [] s t run few e i = let same = ap (λ (x : Session). left x.sending.sender.flight.queue) run in omega (arith, same)
none-more first n (of_sender call ∷ cs) s t run few e i =
    let b = both (is_exchange (of_sender call)) (list_all is_exchange cs) e in
    let d = distance (next_tsn s) (next_tsn run.0) in
    let k = kept first n s (omega (arith, few)) i in
    let one = (goes first n call s run.0 k.numbered k.sent (omega (arith, few)) run.1.0 k.kept).fewer b.0 in
    let ih = none-more first (n + d) cs run.0 t run.1.1 (omega (arith, few)) b.1 (reach-one first n (of_sender call) s run.0 run.1.0 i) in
    omega (arith, one, ih)
none-more first n (of_receiver call ∷ cs) s t run few e i =
    let d = distance (next_tsn s) (next_tsn run.0) in
    let ih = none-more first (n + d) cs run.0 t run.1.1 (omega (arith, few)) e (reach-one first n (of_receiver call) s run.0 run.1.0 i) in
    omega (arith, ap (λ (x : Session). left x.sending.sender.flight.queue) run.1.0.after, ih)
