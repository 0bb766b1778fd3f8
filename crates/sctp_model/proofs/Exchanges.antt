-- What a sender and a receiver can count on in each exchange.
use Rattle.sctp_model.proofs.Names.{◌≡◌, ℕ, zero, suc, ◌+◌, ◌-◌, ◌<◌, ◌≤◌, ◌^◌, ◌%◌, Bool, true, false, List, [], ◌∷◌, ◌++◌, length, map, Option, Some, None}
use Rattle.sctp_model.proofs.Names.{refl, ap, sym, ◌∙◌, inl, inr, arith, zero-add, ◌⊎◌, if◌then◌else◌, ◌==◌, ◌&&◌, ◌||◌, not, nat_lt, nat_le, min, max}
use Rattle.sctp_model.proofs.Names.{slice_get, All, take, list_all, list_any, cases_lt, nat_tests, numbers_where, always, numbers_from, runs_of}
use Rattle.sctp_model.proofs.Names.{put_before_runs, first_of, or_else, map-kept-same, unbroken-le, both, and, not_both, length-kept-positive, fails, same-yes}
use Rattle.sctp_model.proofs.Names.{or-right, or-split, map-twice, length-mapped, numbered-at, get-last, get-snoc_new, get-snoc_old, length-numbers, any-in}
use Rattle.sctp_model.proofs.Names.{all-out, FirstOf, first-kept, Event, Setup, Datagram, Data, Forward, Sack, LinkRecord, arrived_at, cumulative, report_of}
use Rattle.sctp_model.proofs.Names.{reports, distances, gap_blocks, chunk_at, log_of, seen_count, History, record_of, IsRun, after, refusal_of, sent_reply}
use Rattle.sctp_model.proofs.Names.{OnEveryRun, shown_of}
use Rattle.sctp_model.specs.declared.event.Event.TheVariants as E
use Rattle.sctp_model.specs.Reply as R
use Rattle.sctp_model.specs.Messages
use Rattle.sctp_model.specs.Changes
use Rattle.sctp_model.specs.Log
use Rattle.sctp_model.specs.Exchanges
use Rattle.sctp_model.proofs.acknowledgement.Acknowledged.{acknowledged_is_reported, blocks-are}
use Rattle.sctp_model.proofs.receiver.Arrivals.{arrivals-run, cumulative_is_seen}
use Rattle.sctp_model.proofs.receiver.Shown.{slots-joined}
use Rattle.sctp_model.proofs.sender.Shape.{shape, front_of, index}
use Rattle.sctp_model.proofs.sender.Network.{same-network, network-after}
use Rattle.sctp_model.proofs.sender.Shapes
use Rattle.sctp_model.proofs.sender.SenderSteps.{of-has}
use Rattle.sctp_model.proofs.sender.SenderRun.{consistent-run, filled-keeps, unless-holds}
use Rattle.sctp_model.proofs.sender.Slots.{slots_in_order, indexes_leave_no_gap}
use Rattle.sctp_model.proofs.sender.Written.{messages_are_writes}

-- ## What DATA chunks say

pub begin_and_end : OnEveryRun Exchanges.BeginAndEnd
begin_and_end setup h is run n last lt e =
    let w = record_of setup h in
    let order : map (λ p. (Messages.slot_at w p).fragment)
    (Messages.slots_of w n) ≡ numbers_from 0 (Messages.sent_of w n) = (slots_in_order setup h is run n lt).0 in
    let begins : ℕ → Bool = λ i. i == 0 in
    let ends : ℕ → Bool = λ i. i == last in (
      map-twice (λ c. c.beginning_fragment) (chunk_at w) (Messages.slots_of w n)
          ∙ sym (map-twice begins (λ p. (Messages.slot_at w p).fragment) (Messages.slots_of w n)) ∙ ap (map begins) order,
      map-twice (λ c. c.ending_fragment) (chunk_at w) (Messages.slots_of w n)
          ∙ map-kept-same (λ p. (chunk_at w p).ending_fragment) (λ p. ends (Messages.slot_at w p).fragment) (Messages.has_fragment w n)
          (Messages.has_fragment w n) 0 (length w.slots)
          (λ k a b. refl) (λ k a b f. ending (Messages.slot_at w k).fragment (Messages.message_of w k) (of-has (shape w) n k f).0)
          ∙ sym (map-twice ends (λ p. (Messages.slot_at w p).fragment) (Messages.slots_of w n)) ∙ ap (map ends) order,
    )
  where
    ending : (i m : ℕ) → m ≡ n → (i + 1 == Messages.fragment_count (record_of setup h) m) ≡ (i == last)
    ending i m same = ap (λ k. i + 1 == Messages.fragment_count (record_of setup h) k) same ∙ ap (λ c. i + 1 == c) e ∙ grind (arith, nat_tests)

all-cons : {A : Type 0} (P : A → Type 0) (x : A) (xs : List A) → P x → All P xs → All P (x ∷ xs)
all-cons {A} P x xs h1 h2 = grind (arith, nat_tests)

all-mapped : {A : Type 0} (P : A → Type 0) (f : ℕ → A) (t : ℕ → Bool) (from count : ℕ) → ((k : ℕ) → from ≤ k → k < from + count → t k ≡ true → P (f k))
    → All P (map f (numbers_where t from count))
all-mapped P f t from zero each = λ k d lt. absurd (omega (arith, lt))
all-mapped {A} P f t from (suc count) each =
    grind (arith, nat_tests, all-cons, (all-mapped P f t (from + 1) count (λ k a b e. each k (omega arith) (omega arith) e)))

pub chunks_say_messages : OnEveryRun Exchanges.ChunksSayMessages
chunks_say_messages setup h is run n =
    all-mapped (Exchanges.SaysMessage (record_of setup h) n) (chunk_at (record_of setup h))
    (Messages.has_fragment (record_of setup h) n) 0 (length (record_of setup h).slots)
    (λ k a b f. says k (omega (arith, b)) f)
  where
    w : LinkRecord
    w = record_of setup h

    number : 0 < Messages.sent_of w n → Messages.ssn_of w n ≡ Exchanges.number_of w n
    number pos = grind (arith, nat_tests, indexes_leave_no_gap)

    says : (k : ℕ) → k < length w.slots → Messages.has_fragment w n k ≡ true → Exchanges.SaysMessage w n (chunk_at w k)
    says k lt f =
        let same : Messages.message_of w k ≡ n = (of-has (shape w) n k f).0 in
        let pos : 0 < Messages.sent_of w n = length-kept-positive (Messages.has_fragment w n) k 0 (length w.slots) (omega arith) (omega arith) f in (
          ap (λ m. (Messages.message_at w m).stream) same,
          (
            ap (λ m. not (Messages.message_at w m).ordered) same,
            (ap (λ m. (Messages.message_at w m).ppi) same, ap (Messages.ssn_of w) same ∙ number pos),
          ),
        )

pub chunks_join : OnEveryRun Exchanges.ChunksJoin
chunks_join setup h is run n lt all = grind (arith, nat_tests, consistent-run, slots-joined)

-- ## What goes again

pub outstanding_go_again : OnEveryRun Exchanges.OutstandingGoAgain
outstanding_go_again setup h is run tsn ok = grind (arith, nat_tests, acknowledged_is_reported)

-- ## What a SACK acknowledges

-- a gap block covers the slot at this place
abbrev covers : ℕ → ℕ → ℕ × ℕ → Bool
covers c p b = nat_le (c + b.0) (p + 1) && nat_le (p + 1) (c + b.1)

-- once a SACK is taken, each slot that it reports is acknowledged
taken-reports : (w : LinkRecord) (credit place : ℕ) → place < length w.slots → reports (report_of w credit) place ≡ true
    → (Messages.slot_at (Exchanges.acknowledged w credit) place).acknowledged ≡ true
taken-reports w credit place lt r = search (arith, nat_tests, get-last, numbered-at, zero-add, or-right)

pub acknowledges_seen : OnEveryRun Exchanges.AcknowledgesSeen
acknowledges_seen setup h is run credit place lt =
    let w = record_of setup h in
    let c : cumulative w ≡ seen_count (log_of setup h) (length w.slots) = cumulative_is_seen setup h is run in
    let short : seen_count (log_of setup h) (length w.slots) ≤ length w.slots = unbroken-le (Log.is_seen (log_of setup h)) 0 (length w.slots) in
    let l : place < cumulative w = omega (arith, lt, c) in
    let t : nat_lt place (cumulative w) ≡ true = grind (arith, nat_tests) in (
      taken-reports w credit place (omega (arith, lt, short)) (first t (list_any (covers (cumulative w) place) (gap_blocks w))),
      beyond (Exchanges.acknowledged w credit).taken w.taken (cumulative w)
          (ap (λ o. (Changes.after_acked (Changes.after_ack w credit) o).taken) (get-last w.network (Sack (report_of w credit)))) l,
    )
  where
    first : {a : Bool} → a ≡ true → (b : Bool) → (a || b) ≡ true
    first e b = ap (λ x. x || b) e

    beyond : (t m c : ℕ) → t ≡ max m c → place < c → place < t
    beyond t m c e l = omega (arith, e, l)

-- no run ends before it begins
run-ordered : (ds : List ℕ) (b : ℕ × ℕ) (bs : List (ℕ × ℕ)) → runs_of ds ≡ b ∷ bs → b.0 ≤ b.1
run-ordered [] b bs e = cc
run-ordered (d ∷ ds) b bs e = by_rest (runs_of ds) refl e (λ c cs f. run-ordered ds c cs f)
  where
    by_rest : (rs : List (ℕ × ℕ)) → runs_of ds ≡ rs → put_before_runs d rs ≡ b ∷ bs → ((c : ℕ × ℕ) (cs : List (ℕ × ℕ)) → runs_of ds ≡ c ∷ cs → c.0 ≤ c.1)
        → b.0 ≤ b.1
    by_rest rs h1 h2 h3 = grind (arith, nat_tests)

-- the runs cover each of the numbers
runs-cover : (c p d : ℕ) (ds : List ℕ) → c + d ≡ p + 1 → list_any (λ k. k == d) ds ≡ true → list_any (covers c p) (runs_of ds) ≡ true
runs-cover c p d [] s e = cc
runs-cover c p d (x ∷ ds) s e = by_rest (runs_of ds) refl (or-split (x == d) (list_any (λ k. k == d) ds) e) (λ h. runs-cover c p d ds s h)
  where
    by_rest : (bs : List (ℕ × ℕ)) → runs_of ds ≡ bs → ((x == d) ≡ true) ⊎ (list_any (λ k. k == d) ds ≡ true)
        → (list_any (λ k. k == d) ds ≡ true → list_any (covers c p) bs ≡ true) → list_any (covers c p) (put_before_runs x bs) ≡ true
    by_rest bs h1 h2 h3 = search (arith, nat_tests, not_both, both, and, run-ordered, or-split, or-right)

-- a list of which fewer are taken than may be is taken as a whole
take-all : {A : Type 0} (n : ℕ) (xs : List A) → length (take n xs) < n → take n xs ≡ xs
take-all zero xs lt = absurd (omega (arith, lt))
take-all (suc n) [] lt = refl
take-all (suc n) (x ∷ xs) lt = ap (λ l. x ∷ l) (take-all n xs (omega (arith, lt)))

pub acknowledges_arrived : OnEveryRun Exchanges.AcknowledgesArrived
acknowledges_arrived setup h is run credit place lt arrived near few = step (cases_lt place (cumulative w))
  where
    w : LinkRecord
    w = record_of setup h

    c : cumulative w ≡ seen_count (log_of setup h) (length w.slots)
    c = cumulative_is_seen setup h is run

    came : arrived_at w place ≡ true
    came = (arrivals-run setup h is run).arrived place ∙ arrived

    blocks : gap_blocks w ≡ runs_of (distances w)
    blocks = take-all 16379 (runs_of (distances w)) (omega (arith, few, ap length (blocks-are setup h is run)))

    covered : (d : ℕ) → cumulative w + d ≡ place + 1 → cumulative w ≤ place → list_any (covers (cumulative w) place) (gap_blocks w) ≡ true
    covered d e le =
        let at : cumulative w + d - 1 ≡ place = omega (arith, e) in
        let high : d < 1 + min 65535 (length w.slots - cumulative w) = omega (arith, e, near, c, lt) in
        ap (list_any (covers (cumulative w) place)) blocks
        ∙ runs-cover (cumulative w) place d (distances w) e
        (any-in (λ k. k == d) (λ k. arrived_at w (cumulative w + k - 1)) d 1 (min 65535 (length w.slots - cumulative w)) (omega (arith, e, le)) high
        (ap (arrived_at w) at ∙ came) (same-yes d))

    step : (place < cumulative w) ⊎ (cumulative w ≤ place) → (Messages.slot_at (Exchanges.acknowledged w credit) place).acknowledged ≡ true
    step (inl l) = (acknowledges_seen setup h is run credit place (omega (arith, l, c))).0
    step (inr g) =
        let e : cumulative w + (place + 1 - cumulative w) ≡ place + 1 = omega (arith, g) in
        taken-reports w credit place lt
        (or-right (nat_lt place (cumulative w)) (list_any (covers (cumulative w) place) (gap_blocks w)) (covered (place + 1 - cumulative w) e g))

-- ## What goes first

-- the slot that a Send gives out first is for the front, and giving it out changes no number
record Begun (w : LinkRecord) (k : ℕ) (v : LinkRecord) : Type 0 where
  more : length w.slots < length v.slots
  first : Messages.message_of v (length w.slots) ≡ k
  number : Messages.ssn_of v k ≡ Messages.ssn_of w k
  setup : v.setup ≡ w.setup

begun-more : (w : LinkRecord) (k : ℕ) (v : LinkRecord) → Begun w k v → Begun w k (Changes.send_fragment v)
begun-more w k v g = step (Messages.front v)
  where
    step : (o : Option ℕ) → Begun w k (Changes.send_fragment_of v o)
    step o = grind (arith, nat_tests, Shapes.shape-slot, get-snoc_old)

begun-first : (w : LinkRecord) (now k : ℕ) → Messages.front w ≡ Some k → Begun w k (Changes.send_fragment (Changes.after_start w now))
begun-first w now k f = step (Messages.front (Changes.after_start w now)) (ap front_of (Shapes.shape-started w now) ∙ f)
  where
    u : LinkRecord
    u = Changes.after_start w now

    step : (o : Option ℕ) → o ≡ Some k → Begun w k (Changes.send_fragment_of (Changes.after_start w now) o)
    step None e = cc
    step (Some j) e =
        let same : j ≡ k = cc in
        record {
          more = omega (arith, ap (λ y. y.slots) (Shapes.shape-slot u j false));
          first = ap (λ y. y.message) (get-snoc_new u.slots _ Messages.no_slot) ∙ same;
          number = ap (λ x. (if (x.message k).ordered then index x k else (x.message k).before) % 2 ^ 16) (Shapes.shape-started w now);
          setup = refl;
        }

begun : (w : LinkRecord) (now k : ℕ) → Messages.front w ≡ Some k → Begun w k (Changes.send_fragments (Changes.after_start w now))
begun w now k f =
    let u = Changes.after_start w now in
    filled-keeps (Begun w k) (begun-more w k) u.setup.limit (Changes.plus 12 (Changes.next_length u)) (Changes.send_fragment u) (begun-first w now k f)

pub unordered_go_first : OnEveryRun Exchanges.UnorderedGoFirst
unordered_go_first setup h is run now d tsn ssn count n m e first ordered none lt un = fails (Messages.is_unsent w m) clash
  where
    w : LinkRecord
    w = record_of setup h

    of_front : (o : Option ℕ) → Messages.front w ≡ o → sent_reply w (Changes.send_from (Changes.after_start w now) o) o ≡ R.Sent d tsn ssn count
        → Messages.message_of (Changes.send_from (Changes.after_start w now) o) (length w.slots) ≡ n → o ≡ Some n
    of_front None f r g = cc
    of_front (Some k) f r g = ap Some (sym (begun w now k f).first ∙ g)

    front : Messages.front w ≡ Some n
    front = of_front (Messages.front w) refl e first

    clash : Messages.is_unsent w m ≡ true → ⊥
    clash u =
        partial_or (first_of (Messages.messages_where w (Messages.is_partially_sent w))) (first-kept (Messages.is_partially_sent w) (length w.messages)) front
      where
        partial_or : (o : Option ℕ) → FirstOf (Messages.is_partially_sent w) (length w.messages) o
            → or_else o (or_else (first_of (Messages.messages_where w (λ k. Messages.is_unsent w k && not (Messages.message_at w k).ordered)))
            (first_of (Messages.messages_where w (λ k. Messages.is_unsent w k && (Messages.message_at w k).ordered)))) ≡ Some n → ⊥
        partial_or o h1 h2 = grind (arith, nat_tests, first-kept)

-- ## What replies tell

pub send_is_answered : OnEveryRun Exchanges.SendIsAnswered
send_is_answered setup h is run now d tsn ssn count e = step (Messages.front (record_of setup h)) refl e
  where
    w : LinkRecord
    w = record_of setup h

    step : (o : Option ℕ) → Messages.front (record_of setup h) ≡ o
        → sent_reply (record_of setup h) (Changes.send_from (Changes.after_start (record_of setup h) now) o) o ≡ R.Sent d tsn ssn count
        → ((chunk_at (Changes.send_from (Changes.after_start (record_of setup h) now) o) (length (record_of setup h).slots)).tsn ≡ tsn)
        × ((chunk_at (Changes.send_from (Changes.after_start (record_of setup h) now) o) (length (record_of setup h).slots)).stream_sequence_number ≡ ssn)
    step None f r = cc
    step (Some k) f r =
        let g = begun w now k f in
        let v = Changes.send_fragments (Changes.after_start w now) in
        let t : Messages.tsn_of w (length w.slots) ≡ tsn = cc in
        let q : Messages.ssn_of w k ≡ ssn = cc in
        (ap (λ s. (s.first + length w.slots) % 2 ^ 32) g.setup ∙ t, ap (Messages.ssn_of v) g.first ∙ g.number ∙ q)

pub write_is_answered : OnEveryRun Exchanges.WriteIsAnswered
write_is_answered setup h is run s byte ppi bytes = grind (arith, nat_tests, length-numbers, length-mapped, messages_are_writes, get-snoc_new)

pub resend_is_answered : OnEveryRun Exchanges.ResendIsAnswered
resend_is_answered setup h is run tsn d e = grind (arith, nat_tests, get-last)

-- ## What is bounded

all-snoc : {A : Type 0} (t : A → Bool) (xs : List A) (y : A) → list_all t xs ≡ true → t y ≡ true → list_all t (xs ++ y ∷ []) ≡ true
all-snoc t [] y e f = ap (λ b. b && true) f
all-snoc t (x ∷ xs) y e f = let a = both (t x) (list_all t xs) e in and (t x) (list_all t (xs ++ y ∷ [])) a.0 (all-snoc t xs y a.1 f)

all-map : {A : Type 0} (t : A → Bool) (f : ℕ → A) (xs : List ℕ) → list_all t (map f xs) ≡ list_all (λ k. t (f k)) xs
all-map t f [] = refl
all-map t f (x ∷ xs) = ap (λ b. t (f x) && b) (all-map t f xs)

-- a write has a byte, and no more than the greatest message
abbrev fits : Setup → Log.Shown → Bool
fits setup x = nat_lt 0 (Log.length_shown x) && nat_le (Log.length_shown x) setup.largest

writes-fit : (setup : Setup) (h : History) → IsRun setup h → list_all (fits setup) (Log.writes_in h) ≡ true
writes-fit setup [] run = refl
writes-fit setup ((E.Write s ppi (b ∷ bs), r) ∷ older) run =
    grind (arith, nat_tests, unless-holds, all-snoc, and, consistent-run, (writes-fit setup older run.1.1))
writes-fit setup ((event, r) ∷ older) run = writes-fit setup older run.1.1

pub messages_are_bounded : OnEveryRun Exchanges.MessagesAreBounded
messages_are_bounded setup h is run n lt =
    let w = record_of setup h in
    let all : list_all (λ k. fits setup (shown_of w k))
    (numbers_from 0 (length w.messages)) ≡ true = grind (arith, nat_tests, all-map, messages_are_writes, writes-fit) in
    let fit : fits setup (shown_of w n) ≡ true = all-out (λ k. fits setup (shown_of w k)) always n 0 (length w.messages) all (omega arith)
    (omega (arith, lt)) refl in
    let a = both (nat_lt 0 (length (Messages.message_at w n).bytes)) (nat_le (length (Messages.message_at w n).bytes) setup.largest) fit in
    let low = a.0 in
    let high = a.1 in
    (grind (arith, nat_tests), grind (arith, nat_tests))

-- a FORWARD-TSN has few names
abbrev few : Datagram → Bool
few (Forward upto names) = nat_le (length names) 16381
few (Data slots) = true
few (Sack r) = true

few-sent : (w : LinkRecord) (now : ℕ) (o : Option ℕ) → list_all few w.network ≡ true
    → list_all few (Changes.send_from (Changes.after_start w now) o).network ≡ true
few-sent w now None e = e
few-sent w now (Some n) e = search (arith, nat_tests, all-snoc, same-network)

few-after : (w : LinkRecord) (e : Event) → refusal_of w e ≡ None → list_all few w.network ≡ true → list_all few (after w e).network ≡ true
few-after w e h1 h2 = grind (arith, nat_tests, all-snoc, few-sent, network-after)

few-run : (setup : Setup) (h : History) → IsRun setup h → list_all few (record_of setup h).network ≡ true
few-run setup [] run = refl
few-run setup (entry ∷ older) run = few-after (record_of setup older) entry.0 run.0 (few-run setup older run.1.1)

few-at : (ds : List Datagram) (k upto : ℕ) (names : List ℕ) → list_all few ds ≡ true → slice_get ds k ≡ Some (Forward upto names)
    → nat_le (length names) 16381 ≡ true
few-at [] k upto names e f = cc
few-at (d ∷ ds) zero upto names e f = let same : d ≡ Forward upto names = cc in ap few (sym same) ∙ (both (few d) (list_all few ds) e).0
few-at (d ∷ ds) (suc k) upto names e f = few-at ds k upto names (both (few d) (list_all few ds) e).1 f

pub names_are_bounded : OnEveryRun Exchanges.NamesAreBounded
names_are_bounded setup h is run k upto names e = grind (arith, nat_tests, few-at, few-run)
