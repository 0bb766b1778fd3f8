-- Each session can end by a window for one message after another: at rest the receiver holds nothing.
use Rattle.sctp_delivery.proofs.Names.{◌≡◌, ℕ, ◌+◌, ◌≤◌, ◌==◌, Bool, true, false, not, List, [], ◌∷◌, length, Option, Some, None, refl, ap, sym, subst, ◌∙◌}
use Rattle.sctp_delivery.proofs.Names.{arith, if◌then◌else◌, nat_le, find, filter, list_all, list_any, sum_by, sum_by-cons, none-some, nat_tests, same-is}
use Rattle.sctp_delivery.proofs.Names.{same-yes, some-same, negated, both, fails, not_both, change_where, ChunkPayloadData, Limits, InboundStream, number}
use Rattle.sctp_delivery.proofs.Names.{Reception, cost_of, Selected, Pending, Outbound, IsSendable, is_of, partial_of, selected_after, chunk_to_pop_from}
use Rattle.sctp_delivery.proofs.Names.{list_to_pop, rest_from, rest_after, next_pending, with_deadline, all_started, as_sent, sent_of, made, sendable-sent}
use Rattle.sctp_delivery.proofs.Names.{goes_on, peeked_all_started, started-inflight, Session, at_start, reads_nothing, chunks_waiting, in_flight, common_steps}
use Rattle.sctp_delivery.proofs.Names.{and, chunks_left, EachOtherIsReadOnce, has_room, Transmission}
use Rattle.std.specs.Prelude.{◌<◌, ◌^◌, max, nat_lt}
use Rattle.sctp_receiver.proofs.StreamCosts.{are_apart}
use Rattle.sctp_receiver.proofs.Weights as weights
use Rattle.sctp_receiver.specs.Credit.{cost_of_chunks}
use Rattle.sctp_receiver.specs.Inbound.{has_number, numbers_of}
use Rattle.sctp_delivery.specs.Ending.{AfterEachSessionWithTsnsLeft, EndsWhereTaken, EndsWithAllRead, cost_left, has_window, CanEnd, is_to_come, left_on}
use Rattle.sctp_delivery.specs.Ending.{rest_cost, waiting_cost}
use Rattle.sctp_delivery.proofs.EndDelivers.{due-to-come, few-given, some-of}
use Rattle.sctp_delivery.proofs.EndSessions.{after_sends, ends-in, sent, stands-started, there}
use Rattle.sctp_delivery.proofs.EndSteps.{At, FitEach, RoomIn, Setting, apart-at, cost, due_by, pending_of, price, put-due, rest_of, start}
use Rattle.sctp_delivery.proofs.Every.{Every, every-both, every-changed, every-of}
use Rattle.sctp_delivery.proofs.HeldCosts.{IsUnder, lefts-le, prices, under-in}
use Rattle.sctp_delivery.proofs.HeldInTheEnd.{IsBare, none-there}
use Rattle.sctp_delivery.proofs.InTheEnd.{all-every, unread-of}
use Rattle.sctp_delivery.proofs.KeptSessions.{kept-in}
use Rattle.sctp_delivery.proofs.NoneAbandoned.{each-of-others}
use Rattle.sctp_delivery.proofs.QueuesLeft.{goes-with}
use Rattle.sctp_delivery.proofs.RefusedLaw.{limits-same}
use Rattle.sctp_delivery.proofs.SackLaws.{none-of}

-- ## At rest

-- each stream is found by its number
number-found : (st : ℕ) (ls : List InboundStream) (l : InboundStream) → find (has_number st) ls ≡ Some l → list_any (λ k. k == st) (numbers_of ls) ≡ true
number-found st [] l e = absurd (none-some l e)
number-found st (x ∷ xs) l e = grind (arith, nat_tests, number-found st xs l)

each-found : (P : InboundStream → Type 0) (ls : List InboundStream) → are_apart (numbers_of ls) ≡ true
    → ((st : ℕ) (l : InboundStream) → find (has_number st) ls ≡ Some l → P l) → Every P ls
each-found P [] apart h = tt
each-found P (x ∷ xs) apart h =
    let a = both (not (list_any (λ k. k == number x) (numbers_of xs))) (are_apart (numbers_of xs)) apart in (
      h (number x) x (ap (λ b. if b then Some x else find (has_number (number x)) xs) (same-yes (number x))),
      each-found P xs a.1 (λ st l e. h st l (ap (λ b. if b then Some x else find (has_number st) xs)
          (fails (number x == st) (λ same. not_both (sym (negated (list_any (λ k. k == number x) (numbers_of xs)) a.0)
          ∙ ap (λ n. list_any (λ k. k == n) (numbers_of xs)) (same-is (number x) st same) ∙ number-found st xs l e))) ∙ e)),
    )

none-cost : (ls : List InboundStream) → Every (λ l. cost_of l ≡ 0) ls → sum_by cost_of ls ≡ 0
none-cost [] e = refl
none-cost (l ∷ ls) e = let h = e.0 in omega (arith, sum_by-cons cost_of l ls, none-cost ls e.1, h)

-- where nothing is in flight, no message is partially sent and nothing is to be read, the receiver holds nothing
at-rest : (b : Setting) (n : ℕ) (s : Session) → At b n s → length (in_flight s) ≡ 0 → (pending_of s).selected ≡ None
    → reads_nothing s.receiving.receiver ≡ true → sum_by cost_of s.receiving.receiver.streams ≡ 0
at-rest b n s i none unbegun unread =
    let k = kept-in b.first b.size b.max b.most b.limits i.calls s b.small b.some i.run (few-given b n s i) in
    none-cost s.receiving.receiver.streams
    (every-both IsUnder (λ l. IsBare l.queue.held) (λ l. cost_of l ≡ 0) free s.receiving.receiver.streams (under-in i.calls (start b) s i.run tt)
    (each-found (λ l. IsBare l.queue.held) s.receiving.receiver.streams (apart-at b n s i) (λ st l found.
    none-there b.first b.size b.max b.most b.limits i.calls s i.run _ (few-given b n s i) _ k.numbered k.sent k.kept (none-of (in_flight s) none) unbegun
    unread st l found (unread-of st s.receiving.receiver.streams l unread found))))
  where
    free : (l : InboundStream) → IsUnder l → IsBare l.queue.held → cost_of l ≡ 0
    free l u e = grind (arith, nat_tests, common_steps)

-- ## A chunk is sent

-- what a chunk counts for, where it is of the message
abbrev price_in : ℕ → ChunkPayloadData → ℕ
price_in m c = if is_of m c then price c else 0

cost-cons : (m : ℕ) (x : ChunkPayloadData) (xs : List ChunkPayloadData)
    → cost_of_chunks (filter (is_of m) (x ∷ xs)) ≡ price_in m x + cost_of_chunks (filter (is_of m) xs)
cost-cons m x xs = grind (arith, nat_tests, common_steps, sum_by-cons)

-- what is taken leaves so much less, and the rest of its message is partially sent, if any is
record IsTakenOut (w : ℕ) (c : ChunkPayloadData) (q r : Pending) : Type 0 where
  less : (m : ℕ) → waiting_cost m r + price_in m c ≡ waiting_cost m q
  rest : rest_cost r.selected r ≤ waiting_cost c.message_id r
  fit : FitEach w q → FitEach w r
  own : FitEach w q → waiting_cost c.message_id q ≤ w

rest-own : (sel : Option Selected) (kind : Bool) (c : ChunkPayloadData) (r : Pending) → ((m : ℕ) → partial_of sel ≡ Some m → c.message_id ≡ m)
    → rest_cost (selected_after sel kind c) r ≤ waiting_cost c.message_id r
rest-own None kind c r partial = grind (arith, nat_tests)
rest-own (Some s) kind c r partial = let same = ap (λ m. waiting_cost m r) (partial s.message_id refl) in grind (arith, nat_tests, same)

fewer-fit : (w : ℕ) (c : ChunkPayloadData) (q r : Pending) → ((m : ℕ) → waiting_cost m r + price_in m c ≡ waiting_cost m q) → (xs : List ChunkPayloadData)
    → Every (λ x. waiting_cost x.message_id q ≤ w) xs → Every (λ x. waiting_cost x.message_id r ≤ w) xs
fewer-fit w c q r less xs e =
    every-of (λ x. waiting_cost x.message_id q ≤ w) (λ x. waiting_cost x.message_id r ≤ w) (λ x le. let h = less x.message_id in omega (arith, h, le)) xs e

taken-out : (w : ℕ) (k : Option Bool) (os us : List ChunkPayloadData) (sel : Option Selected) (ro ru : ℕ) (c : ChunkPayloadData)
    → chunk_to_pop_from k (made os us sel ro ru) ≡ Some c → ((m : ℕ) → partial_of sel ≡ Some m → c.message_id ≡ m)
    → IsTakenOut w c (made os us sel ro ru) (rest_from k (made os us sel ro ru))
taken-out w None os us sel ro ru c h partial = absurd (none-some c h)
taken-out w (Some true) os [] sel ro ru c h partial = absurd (none-some c h)
taken-out w (Some false) [] us sel ro ru c h partial = absurd (none-some c h)
taken-out w (Some true) os (u ∷ us) sel ro ru c h partial =
    let q = made os (u ∷ us) sel ro ru in
    let r = made os us (selected_after sel true u) ro ru in
    let less : (m : ℕ) → waiting_cost m r + price_in m u ≡ waiting_cost m q = λ m. (let x = cost-cons m u us in omega (arith, x)) in
    subst (λ x. IsTakenOut w x q r) (some-same h) (record {
      less = less;
      rest = rest-own sel true u r (subst (λ (x : ChunkPayloadData). (m : ℕ) → partial_of sel ≡ Some m → x.message_id ≡ m) (sym (some-same h)) partial);
      fit = λ e. (fewer-fit w u q r less os e.0, fewer-fit w u q r less us e.1.1);
      own = λ e. e.1.0;
    })
taken-out w (Some false) (o ∷ os) us sel ro ru c h partial =
    let q = made (o ∷ os) us sel ro ru in
    let r = made os us (selected_after sel false o) ro ru in
    let less : (m : ℕ) → waiting_cost m r + price_in m o ≡ waiting_cost m q = λ m. (let x = cost-cons m o os in omega (arith, x)) in
    subst (λ x. IsTakenOut w x q r) (some-same h) (record {
      less = less;
      rest = rest-own sel false o r (subst (λ (x : ChunkPayloadData). (m : ℕ) → partial_of sel ≡ Some m → x.message_id ≡ m) (sym (some-same h)) partial);
      fit = λ e. (fewer-fit w o q r less os e.0.1, fewer-fit w o q r less us e.1);
      own = λ e. e.0.0;
    })

-- ## Lifetimes cost nothing

cost-started : (m : ℕ) (p : ChunkPayloadData → Bool) (now : ℕ) (cs : List ChunkPayloadData)
    → cost_of_chunks (filter (is_of m) (change_where p (with_deadline now) cs)) ≡ cost_of_chunks (filter (is_of m) cs)
cost-started m p now [] = refl
cost-started m p now (c ∷ cs) = grind (arith, nat_tests, common_steps, cost-cons, cost-started m p now cs)

-- the same message is partially sent, each counts for as much, and each fits
record IsAlike (w : ℕ) (q r : Pending) : Type 0 where
  selected : r.selected ≡ q.selected
  same : (m : ℕ) → waiting_cost m r ≡ waiting_cost m q
  fit : FitEach w q → FitEach w r

alike-started : (w now : ℕ) (q : Outbound) → IsAlike w q.pending (all_started now q).pending
alike-started w now q = grind (arith, nat_tests, common_steps, cost-started, every-changed, every-of)

-- ## Room for the next chunk

module _ (b : Setting) (n : ℕ) (s : Session) (i : At b n s) (none : length (in_flight s) ≡ 0) (unread : reads_nothing s.receiving.receiver ≡ true)
    (more : 0 < chunks_waiting s.sending.sender) (few : n + 1 < 2 ^ 31) where
  abbrev q : Outbound
  q = s.sending.sender.flight.queue

  abbrev p : Outbound
  p = all_started b.now q

  abbrev t : Session
  t = after_sends b.now s

  flies : length (in_flight t) ≡ 1
  flies = let f = (sent b n s i none more few).flying in omega (arith, f, none)

  sendable : IsSendable p.pending p.inflight.chunks p.next_message_id
  sendable = stands-started b n s i none more few

  next : (c : ChunkPayloadData) × (next_pending p.pending ≡ Some c)
  next = some-of (next_pending p.pending) (peeked_all_started b.now q ∙ there b n s i none more few)

  partial : (m : ℕ) → partial_of p.pending.selected ≡ Some m → next.0.message_id ≡ m
  partial m h = goes-with m next.0 (next_pending p.pending) next.1 (goes_on p.pending p.inflight.chunks p.next_message_id m sendable h)

  out : (w : ℕ) → IsTakenOut w next.0 p.pending (rest_after next.0.beginning_fragment next.0.unordered p.pending)
  out w =
      taken-out w (list_to_pop p.pending.selected next.0.beginning_fragment next.0.unordered) p.pending.ordered p.pending.unordered p.pending.selected
      p.pending.ordered_room p.pending.unordered_room next.0
      (sendable-sent p.pending p.inflight.chunks p.next_message_id next.0 (as_sent 0 b.now next.0) refl sendable next.1).taken partial

  after : pending_of t ≡ rest_after next.0.beginning_fragment next.0.unordered p.pending
  after = ap (λ o. (sent_of o p s.sending.sender.flight.next_tsn b.now).pending) next.1

  pub grows-each : RoomIn b.limits (after_sends b.now s)
  grows-each = by b.limits i.room
    where
      by : (o : Option Limits) → RoomIn o s → RoomIn o t
      by None r = tt
      by (Some l) r = (
        let reach = r.1 more in omega (arith, flies, reach),
        λ some. r.1 more,
        λ some. within,
        subst (FitEach l.window) (sym after) ((out l.window).fit fit),
      )
        where
          like : IsAlike l.window q.pending p.pending
          like = alike-started l.window b.now q

          fit : FitEach l.window p.pending
          fit = like.fit r.3

          -- what it leaves of its message and its own price are what the message counted for
          rest : rest_of (pending_of t) + price next.0 ≤ waiting_cost next.0.message_id p.pending
          rest =
              let x = (out l.window).less next.0.message_id in
              let y = (out l.window).rest in
              let z = ap rest_of after in
              let own = ap (λ k. if k then price next.0 else 0) (same-yes next.0.message_id) in
              omega (arith, x, y, z, own)

          -- it alone is due
          due-one : due_by price s.receiving.accepted (in_flight t) ≤ price next.0
          due-one =
              let put = put-due price s.receiving.accepted (as_sent s.sending.sender.flight.next_tsn b.now next.0) p.inflight.chunks in
              let is = ap (λ o. due_by price s.receiving.accepted (sent_of o p s.sending.sender.flight.next_tsn b.now).inflight.chunks) next.1 in
              let same = ap (λ x. due_by price s.receiving.accepted x.chunks) (started-inflight b.now q) in
              let empty = ap (due_by price s.receiving.accepted) (none-of (in_flight s) none) in
              omega (arith, put, is, same, empty)

          held : (sel : Option Selected) → q.pending.selected ≡ sel
              → sum_by left_on s.receiving.receiver.streams + waiting_cost next.0.message_id p.pending ≤ l.window
          held None e =
              let free = at-rest b n s i none e unread in
              let own = (out l.window).own fit in
              let less = lefts-le s.receiving.receiver.streams in
              omega (arith, free, own, less)
          held (Some x) e =
              let own = partial x.message_id (ap partial_of (like.selected ∙ e)) in
              let same = ap (λ m. waiting_cost m p.pending) own in
              let before = like.same x.message_id in
              let rest' = ap (λ o. rest_cost o q.pending) e in
              let own-price = rest in
              let priced : 0 < price next.0 = omega arith in
              let room = r.2 (omega (arith, same, before, rest', own-price, priced)) in
              omega (arith, same, before, rest', room)

          within : cost t ≤ l.window
          within =
              let h = held q.pending.selected refl in
              let x = rest in
              let y = due-one in
              omega (arith, h, x, y)

-- ## The law

pub room-each : (o : Option Limits) (s : Session)
    → due_by price s.receiving.accepted (in_flight s) ≤ sum_by price (filter (is_to_come s.receiving.receiver) (in_flight s))
    → has_window o s.sending.sender s.receiving.receiver ≡ true → RoomIn o s
room-each h0 h1 h2 h3 = grind (arith, nat_tests, common_steps, both, all-every)

pub all-end : AfterEachSessionWithTsnsLeft EndsWhereTaken
all-end tsn size max most limits cs s small some run few takes now =
    let p = both (has_window s.receiving.receiver.limits s.sending.sender s.receiving.receiver)
    (nat_le s.sending.sender.max_message_size s.receiving.receiver.max_message_size) takes in
    ends-in tsn size max most limits cs s small some run few p.1 grows-each
    (room-each limits s (due-to-come tsn size max most limits cs s small some run (omega (arith, few)))
    (subst (λ o. has_window o s.sending.sender s.receiving.receiver ≡ true) (limits-same cs (at_start tsn size max most limits) s run) p.0)) now

pub all-read : AfterEachSessionWithTsnsLeft EndsWithAllRead
all-read tsn size max most limits cs s small some run few none takes now =
    let e = all-end tsn size max most limits cs s small some run few takes now in
    (e, each-of-others e.ended (subst (λ gone. EachOtherIsReadOnce gone e.ended) none e.read))

-- ## Room for all that is left is room for one message after another

pub room-window : (o : Option Limits) (t : Transmission) (r : Reception) → has_room o t r ≡ true → has_window o t r ≡ true
room-window None t r h = refl
room-window (Some l) t r h =
    let p = both (nat_le (chunks_left t) l.reach) (nat_lt (sum_by cost_of r.streams + cost_left t) l.window) h in
    let window : sum_by cost_of r.streams + cost_left t < l.window = grind (arith, nat_tests, p.1) in
    let flying = prices t.flight.queue.inflight.chunks in
    let os = prices q.ordered in
    let us = prices q.unordered in
    let less = lefts-le r.streams in
    let fewer = weights.fewer (λ c. 0) price (is_to_come r) t.flight.queue.inflight.chunks in
    let some : (m : ℕ) → waiting_cost m q ≤ cost_of_chunks q.ordered + cost_of_chunks q.unordered = λ m.
    (let a = weights.fewer (λ c. 0) price (is_of m) q.ordered in let b = weights.fewer (λ c. 0) price (is_of m) q.unordered in omega (arith, a, b)) in
    let begun = rest q.selected some in
    let each : (c : ChunkPayloadData) → nat_le (waiting_cost c.message_id q) l.window ≡ true = λ c.
    yes (waiting_cost c.message_id q) l.window (let x = some c.message_id in omega (arith, x, window, os, us)) in
    let ordered = all (λ c. nat_le (waiting_cost c.message_id q) l.window) each q.ordered in
    let unordered = all (λ c. nat_le (waiting_cost c.message_id q) l.window) each q.unordered in
    grind (arith, nat_tests, p.0, window, flying, fewer, os, us, less, begun, ordered, unordered)
  where
    q : Pending
    q = t.flight.queue.pending

    yes : (m n : ℕ) → m ≤ n → nat_le m n ≡ true
    yes m n le = grind (arith, nat_tests, le)

    rest : (o : Option Selected) → ((m : ℕ) → waiting_cost m q ≤ cost_of_chunks q.ordered + cost_of_chunks q.unordered)
        → rest_cost o q ≤ cost_of_chunks q.ordered + cost_of_chunks q.unordered
    rest None some = omega arith
    rest (Some s) some = some s.message_id

    all : (f : ChunkPayloadData → Bool) → ((c : ChunkPayloadData) → f c ≡ true) → (cs : List ChunkPayloadData) → list_all f cs ≡ true
    all f h [] = refl
    all f h (c ∷ cs) = and (f c) (list_all f cs) (h c) (all f h cs)

-- so it is of a sender and a receiver at hand
pub can-end : (o : Option Limits) (t : Transmission) (r : Reception) (m : ℕ) → has_room o t r ≡ true → nat_le t.max_message_size m ≡ true → o ≡ r.limits
    → m ≡ r.max_message_size → AfterEachSessionWithTsnsLeft (λ gone s. s.sending.sender ≡ t → s.receiving.receiver ≡ r → (now : ℕ) → CanEnd now gone s)
can-end o t r m room fits limited same tsn size max most limits cs s small some run few sending receiving =
    grind (arith, nat_tests, common_steps, room-window, and, all-end)
