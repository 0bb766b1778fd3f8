-- Each session can end: round after round leaves fewer chunks, and then all that is to be read is read.
use Rattle.sctp_delivery.proofs.Names.{common_steps, ◌≡◌, ℕ, zero, suc, ◌+◌, ◌-◌, ◌%◌, ◌^◌, ◌<◌, ◌≤◌, Bool, true, false, List, [], ◌∷◌, length, Option, Some}
use Rattle.sctp_delivery.proofs.Names.{None, is_some, inl, inr, refl, ap, subst, ◌∙◌, arith, ◌==◌, if◌then◌else◌, nat_le, cases_lt, nat_tests, and-none}
use Rattle.sctp_delivery.proofs.Names.{same-yes, length-change_where, and, not_both, distance-tsn, distance, ChunkPayloadData, peeked_all_started}
use Rattle.sctp_delivery.proofs.Names.{sendable-sent, Selected, Outbound, all_started, as_sent, sent_next, sent_of, Pending, chunk_count, front_of, list_of}
use Rattle.sctp_delivery.proofs.Names.{list_to_pop, next_pending, next_pending_of, IsSendable, IsWhole, begun, free, stage_of, Limits, following_tsn}
use Rattle.sctp_delivery.proofs.Names.{started-inflight, Flight, next_after_send, send_refusal, with_flight, Ledger, EachOtherIsReadOnce, abandoned_in}
use Rattle.sctp_delivery.proofs.Names.{is_all_acknowledged, reads_nothing, chunks_waiting, chunks_left, in_flight, tsns_given, Made, made_after, sends}
use Rattle.sctp_delivery.proofs.Names.{with_chunk, Call, RunsTo, SenderFollows, Session, at_start, of_sender}
use Rattle.std.specs.Prelude.{◌*◌, slice_get}
use Rattle.sctp_sender.proofs.Amounts.{sent-bytes}
use Rattle.sctp_delivery.specs.Ending.{CanEnd}
use Rattle.sctp_delivery.proofs.Besides.{EachEnds, ends-here, sends-so}
use Rattle.sctp_delivery.proofs.Cases.{all_streams}
use Rattle.sctp_delivery.proofs.Delivered.{next_tsn}
use Rattle.sctp_delivery.proofs.EndDelivers.{ends-delivered, few-given, ends-answered, ends-caught-up}
use Rattle.sctp_delivery.proofs.EndSteps.{ends-read, RoomIn, few-spent, spent, At, Ends, Setting, at-next, kept-at, numbered-at, sender-before}
use Rattle.sctp_delivery.proofs.GivenTsns.{put-length}
use Rattle.sctp_delivery.proofs.RefusedLaw.{fit-session}
use Rattle.sctp_delivery.proofs.Numbers.{number_of}
use Rattle.sctp_delivery.proofs.OthersOnce.{others-read}
use Rattle.sctp_delivery.proofs.Queues.{started}
use Rattle.sctp_delivery.proofs.QueuesLeft.{popped}
use Rattle.sctp_delivery.proofs.TsnPlaces.{base, next-place}

-- ## A chunk is sent

filled : (kind : Bool) (n m : ℕ) (xs : List ChunkPayloadData) → IsWhole kind n (begun m) xs → is_some (slice_get xs 0) ≡ true
filled kind n m [] w = absurd w
filled kind n m (c ∷ cs) w = refl

-- where some chunk waits, one is next
next-there : (q : Pending) (xs : List ChunkPayloadData) (n : ℕ) → IsSendable q xs n → 0 < chunk_count q → is_some (next_pending q) ≡ true
next-there q xs n s some = by q.selected s.ordered s.unordered
  where
    front : (us os : List ChunkPayloadData) → 0 < length os + length us → is_some (front_of us os) ≡ true
    front (u ∷ us) os lt = refl
    front [] (o ∷ os) lt = refl
    front [] [] lt = absurd (omega (arith, lt))

    kind : (m : ℕ) (b : Bool) → IsWhole false n (if b then free 0 else begun m) q.ordered → IsWhole true n (if b then begun m else free 0) q.unordered
        → is_some (slice_get (list_of b q) 0) ≡ true
    kind m true w v = filled true n m q.unordered v
    kind m false w v = filled false n m q.ordered w

    by : (o : Option Selected) → IsWhole false n (stage_of false o) q.ordered → IsWhole true n (stage_of true o) q.unordered
        → is_some (next_pending_of o q) ≡ true
    by None w v = front q.unordered q.ordered some
    by (Some t) w v = kind t.message_id t.unordered w v

started-count : (now : ℕ) (q : Outbound) → chunk_count (all_started now q).pending ≡ chunk_count q.pending
started-count now q = grind (arith, nat_tests, length-change_where)

-- it waits no more, and is in flight
record IsMoved (q r : Outbound) : Type 0 where
  waiting : chunk_count r.pending + 1 ≡ chunk_count q.pending
  flying : length r.inflight.chunks ≡ length q.inflight.chunks + 1

moved : (q : Outbound) (tsn now : ℕ) → IsSendable q.pending q.inflight.chunks q.next_message_id → (o : Option ChunkPayloadData)
    → next_pending q.pending ≡ o → is_some o ≡ true → IsMoved q (sent_of o q tsn now)
moved q tsn now s None e some = absurd (not_both some)
moved q tsn now s (Some c) e some = record {
  waiting =
      popped (list_to_pop q.pending.selected c.beginning_fragment c.unordered) q.pending.ordered q.pending.unordered q.pending.selected q.pending.ordered_room
      q.pending.unordered_room c (sendable-sent q.pending q.inflight.chunks q.next_message_id c (as_sent tsn now c) refl s e).taken;
  flying = put-length (as_sent tsn now c) q.inflight.chunks;
}

-- with nothing in flight none is refused
unrefused : (f : Flight) → length f.queue.inflight.chunks ≡ 0 → send_refusal f ≡ None
unrefused f none = grind (arith, nat_tests, and-none)

-- no more than one chunk is made
few-made : (o : Option ChunkPayloadData) (ms : List Made) → length (with_chunk o ms) ≤ length ms + 1
few-made None ms = omega arith
few-made (Some c) ms = omega arith

abbrev pub after_sends : ℕ → Session → Session
after_sends now s =
    record s {
      sending = record s.sending {
        sender = with_flight (record s.sending.sender.flight {
          queue = sent_next s.sending.sender.flight.queue s.sending.sender.flight.next_tsn now;
          next_tsn = next_after_send s.sending.sender.flight;
        }) s.sending.sender;
      };
      made = made_after (sends now) s.sending.sender s.made;
    }

-- one chunk waits less, and is in flight
pub record Sent (s t : Session) : Type 0 where
  waiting : chunks_waiting t.sending.sender + 1 ≡ chunks_waiting s.sending.sender
  pub flying : length (in_flight t) ≡ length (in_flight s) + 1
  few : spent t ≤ spent s + 2
  sacks : t.sacks ≡ s.sacks

module _ (b : Setting) (n : ℕ) (s : Session) (i : At b n s) (none : length (in_flight s) ≡ 0) (some : 0 < chunks_waiting s.sending.sender)
    (few : n + 1 < 2 ^ 31) where
  abbrev q : Outbound
  q = s.sending.sender.flight.queue

  abbrev next : ℕ
  next = s.sending.sender.flight.next_tsn

  sendable : IsSendable s.sending.sender.flight.queue.pending s.sending.sender.flight.queue.inflight.chunks s.sending.sender.flight.queue.next_message_id
  sendable = (kept-at b n s i).kept.holds.held.stands.sendable

  pub there : is_some (next_pending s.sending.sender.flight.queue.pending) ≡ true
  there = next-there q.pending q.inflight.chunks q.next_message_id sendable some

  sending : SenderFollows (sends b.now) s (after_sends b.now s)
  sending = grind (arith, nat_tests, sendable, sent-bytes, unrefused)

  -- the queues stand with lifetimes that start
  pub stands-started : IsSendable (all_started b.now q).pending (all_started b.now q).inflight.chunks (all_started b.now q).next_message_id
  stands-started =
      let k = kept-at b n s i in
      (started all_streams k.numbered b.first (λ st. number_of st s.sending.sender.streams) b.now q next k.sent k.kept.holds.held.stands).sendable

  taken : IsMoved (all_started b.now q) (sent_next q next b.now)
  taken =
      moved (all_started b.now q) next b.now stands-started (next_pending (all_started b.now q).pending) refl (peeked_all_started b.now q ∙ there)

  pub sent : Sent s (after_sends b.now s)
  sent = grind (arith, nat_tests, common_steps, taken, started-count, started-inflight, few-spent, few-made)

  one-tsn : distance (next_tsn s) (next_tsn (after_sends b.now s)) ≡ 1
  one-tsn =
      let at = (numbered-at b n s i).next_is in
      let p = base b.first in
      let up : next_tsn (after_sends b.now s) ≡ following_tsn next = ap (λ c. if c then following_tsn next else next) there in
      ap (distance next) (up ∙ ap following_tsn at ∙ next-place p (n + 1)) ∙ ap (λ u. distance u ((p + (n + 1 + 1)) % 2 ^ 32)) at
      ∙ distance-tsn p (n + 1) (n + 1 + 1) (omega arith) (omega arith) ∙ (let z : n + 1 + 1 - (n + 1) ≡ 1 = omega arith in z)

  ends-sent : RoomIn b.limits (after_sends b.now s) → ((t : Session) → At b (n + 1) t → Sent s t → Ends b t) → Ends b s
  ends-sent room next-ends =
      let t = after_sends b.now s in
      let one = one-tsn in
      let x = sent in
      let waits = x.waiting in
      let j = at-next b n (of_sender (sends b.now)) s t sending (same-yes b.now) (omega (arith, one, few)) room i in
      let e = next-ends t (subst (λ k. At b k t) {x = n + distance (next_tsn s) (next_tsn t)} {y = n + 1} (omega (arith, one)) j) x in
      record {
        alone = sender-before b (sends b.now) s t sending (same-yes b.now) (omega (arith, one, waits)) e.alone;
        beside = sends-so (base b.first) n i.few b.now b.gone b.sacks b.made s t (kept-at b n s i).kept.step sending (same-yes b.now)
            (omega (arith, one, waits)) e.beside;
      }

-- ## A round

-- fewer chunks are in flight, and as many wait
record Rounded (s t : Session) : Type 0 where
  waiting : chunks_waiting t.sending.sender ≡ chunks_waiting s.sending.sender
  fewer : length (in_flight t) < length (in_flight s)
  few : spent t ≤ spent s + 1
  sacks : length t.sacks ≡ length s.sacks + 1

module _ (b : Setting) where
  ends-rounded : (n : ℕ) (s : Session) → At b n s → 0 < length (in_flight s) → ((t : Session) → At b n t → Rounded s t → Ends b t) → Ends b s
  ends-rounded n s i some next = ends-delivered b n s i (λ t j d. ends-caught-up b n t j d.taken (λ u k c.
      let long = d.as_many in
      let same = ap (λ (l : Ledger). length l.sender.flight.queue.inflight.chunks) c.sending in
      let waited = ap chunk_count d.pending in
      let waits = ap (λ (l : Ledger). chunks_waiting l.sender) c.sending in
      let sacks = ap length (c.sacks ∙ d.sacks) in
      ends-answered b n u k c.caught (omega (arith, long, same, some)) (λ v l a.
      let fewer = a.fewer in
      let waiting = a.waiting in
      let made = a.sacks in
      let few = a.few in
      let few-caught = c.few in
      let few-delivered = d.few in
      next v l (record {
        waiting = omega (arith, waiting, waits, waited);
        fewer = omega (arith, fewer, long, same);
        few = omega (arith, few, few-caught, few-delivered);
        sacks = omega (arith, made, sacks);
      }))))

  -- ## The end

  finish : (n : ℕ) (s : Session) → At b n s → chunks_left s.sending.sender ≡ 0 → length s.sacks ≤ b.sacks → length s.made ≤ b.made → Ends b s
  finish n s i none made all = ends-read b n s i (λ t j x unread.
      let waits = ap (λ (l : Ledger). chunks_waiting l.sender) x.sending in
      let flies = ap (λ (l : Ledger). length l.sender.flight.queue.inflight.chunks) x.sending in
      let sacks = ap length x.sacks in
      let waiting : chunks_waiting t.sending.sender ≡ 0 = omega (arith, waits, none) in
      let flying : length (in_flight t) ≡ 0 = omega (arith, flies, none) in
      let exhausted = and (is_all_acknowledged t.sending.sender) (reads_nothing t.receiving.receiver)
      (and (chunks_waiting t.sending.sender == 0) (length (in_flight t) == 0) (grind (arith, nat_tests, waiting)) (grind (arith, nat_tests, flying))) unread in
      let once = subst (λ g. EachOtherIsReadOnce g t) j.gone
      (others-read b.first b.size b.max b.most b.limits j.calls t j.run b.small (few-given b n t j) b.some exhausted) in
      let same = ap length x.made in
      record {
        alone = grind (arith, nat_tests, common_steps);
        beside = ends-here b.now b.gone b.sacks b.made t exhausted once waiting (omega (arith, sacks, made)) (omega (arith, same, all));
      })

  -- where nothing is in flight and nothing is to be read, there is room when the next chunk is sent
  abbrev pub Grows : Type 0
  Grows =
      (n : ℕ) (s : Session) → At b n s → length (in_flight s) ≡ 0 → reads_nothing s.receiving.receiver ≡ true → 0 < chunks_waiting s.sending.sender
      → n + 1 < 2 ^ 31 → RoomIn b.limits (after_sends b.now s)

  pub ends-from : Grows → (m n : ℕ) (s : Session) → At b n s → n + chunks_waiting s.sending.sender < 2 ^ 31
      → length s.sacks + chunks_left s.sending.sender ≤ b.sacks → spent s + chunks_left s.sending.sender + 2 * chunks_waiting s.sending.sender ≤ b.made
      → chunks_left s.sending.sender ≤ m → Ends b s
  ends-from grows zero n s i few sacks made le = finish n s i (omega (arith, le)) (omega (arith, sacks)) (omega (arith, made))
  ends-from grows (suc m) n s i few sacks made le = elim (cases_lt 0 (length (in_flight s))) [
    | inl some ↦ ends-rounded n s i some (λ t j r.
        let waits = r.waiting in
        let fewer = r.fewer in
        let reported = r.sacks in
        let spent' = r.few in
        ends-from grows m n t j (omega (arith, few, waits)) (omega (arith, sacks, waits, fewer, reported)) (omega (arith, made, spent', waits, fewer))
        (omega (arith, le, waits, fewer)))
    | inr none ↦ elim (cases_lt 0 (chunks_waiting s.sending.sender)) [
      | inr empty ↦ finish n s i (omega (arith, none, empty)) (omega (arith, sacks)) (omega (arith, made))
      | inl more ↦ ends-read b n s i (λ v l y unread.
          let here = ap (λ (l : Ledger). chunks_waiting l.sender) y.sending in
          let flying = ap (λ (l : Ledger). length l.sender.flight.queue.inflight.chunks) y.sending in
          let told = ap length y.sacks in
          let sent-so = ap length y.made in
          let most = few-spent v in
          ends-sent b n v l (omega (arith, flying, none)) (omega (arith, here, more)) (omega (arith, few, more))
          (grows n v l (omega (arith, flying, none)) unread (omega (arith, here, more)) (omega (arith, few, more))) (λ u k x.
          let gone = x.waiting in
          let flies = x.flying in
          let before = ap length x.sacks in
          ends-rounded (n + 1) u k (omega (arith, flies)) (λ t j r.
          let waits = r.waiting in
          let fewer = r.fewer in
          let reported = r.sacks in
          let spent' = r.few in
          let sent' = x.few in
          ends-from grows m (n + 1) t j (omega (arith, few, waits, gone, here))
          (omega (arith, sacks, waits, fewer, reported, gone, flies, before, here, flying, told, none))
          (omega (arith, made, spent', sent', waits, fewer, gone, flies, here, flying, sent-so, most, none))
          (omega (arith, le, waits, fewer, gone, flies, here, flying, none)))))
    ]
  ]

-- ## The law

module _ (tsn size max most : ℕ) (limits : Option Limits) (cs : List Call) (s : Session) (small : tsn < 2 ^ 32) (some : 0 < size)
    (run : RunsTo (at_start tsn size max most limits) cs s)
    (few : tsns_given (at_start tsn size max most limits) cs s run + chunks_waiting s.sending.sender < 2 ^ 31) where
  longer : nat_le s.sending.sender.max_message_size s.receiving.receiver.max_message_size ≡ true → max ≤ most
  longer e = grind (arith, nat_tests, fit-session)

  abbrev setting : nat_le s.sending.sender.max_message_size s.receiving.receiver.max_message_size ≡ true → ℕ → Setting
  setting enough now = record {
    first = tsn;
    size = size;
    max = max;
    most = most;
    limits = limits;
    small = small;
    some = some;
    enough = longer enough;
    gone = abandoned_in (at_start tsn size max most limits) cs s run;
    sacks = length s.sacks + chunks_left s.sending.sender;
    made = length s.made + 3 * chunks_left s.sending.sender;
    now = now;
  }

  -- so the session ends, where there is room
  ends : (enough : nat_le s.sending.sender.max_message_size s.receiving.receiver.max_message_size ≡ true) → ((b : Setting) → Grows b) → RoomIn limits s
      → (now : ℕ) → Ends (setting enough now) s
  ends enough grows room now =
      let b = setting enough now in
      ends-from b (grows b) (chunks_left s.sending.sender) (tsns_given (at_start tsn size max most limits) cs s run) s
      (record { calls = cs; run = run; given = refl; gone = refl; few = omega (arith, few); room = room }) few (omega arith)
      (let most' = few-spent s in omega (arith, most')) (omega arith)

  pub ends-in : nat_le s.sending.sender.max_message_size s.receiving.receiver.max_message_size ≡ true → ((b : Setting) → Grows b) → RoomIn limits s → (now : ℕ)
      → CanEnd now (abandoned_in (at_start tsn size max most limits) cs s run) s
  ends-in enough grows room now =
      let e = (ends enough grows room now).alone in
      record {
        calls = e.calls;
        ended = e.ended;
        run = e.run;
        delivery = e.delivery;
        given = e.given;
        written = e.written;
        sacks = e.sacks;
        made = e.made;
        exhausted = e.exhausted;
        read = e.read;
      }

  -- and so does each beside it
  pub ends-beside : nat_le s.sending.sender.max_message_size s.receiving.receiver.max_message_size ≡ true → ((b : Setting) → Grows b) → RoomIn limits s
      → (now : ℕ) → EachEnds now (abandoned_in (at_start tsn size max most limits) cs s run) (length s.sacks + chunks_left s.sending.sender)
      (length s.made + 3 * chunks_left s.sending.sender) s
  ends-beside enough grows room now = (ends enough grows room now).beside
