-- The message that a first fragment is of, among those that were read; and what is so where nothing waits and nothing is held.
use Rattle.sctp_delivery.proofs.Names.{◌≡◌, ℕ, suc, ◌+◌, ◌<◌, ◌≤◌, ◌^◌, Bool, true, false, List, [], ◌∷◌, ◌++◌, length, Option, Some, inl, inr, refl, ap, sym}
use Rattle.sctp_delivery.proofs.Names.{subst, ◌∙◌, arith, zero, ◌-◌, None, All, Contains, find, ◌==◌, ◌&&◌, ◌||◌, if◌then◌else◌, slice_index_or, ◌⊎◌, list_all}
use Rattle.sctp_delivery.proofs.Names.{list_any, sum_by, sum_by-append, sum_by-cons, AllPass-from_list_all, nat_tests, common_steps, or-split, same-is, both}
use Rattle.sctp_delivery.proofs.Names.{fails, not_both, ChunkPayloadData, Data, data_of, ChunkSet, held_chunks, Limits, InboundStream, Reception, stream_of}
use Rattle.sctp_delivery.proofs.Names.{held_weight, set_weight, Message, fragments_read, is_one_message, Stand, is_complete, has_tsn, is_on, fragments_held}
use Rattle.sctp_delivery.proofs.Names.{holds_nothing, is_all_acknowledged, Call, RunsTo, Session, at_start, ReceiverFollows, SenderFollows, of_receiver}
use Rattle.sctp_delivery.proofs.Names.{of_sender, Unknown, EachOtherIsReadOnce, abandoned_by, abandoned_in, StandAt, fragments_of_all, are_apart, tsns_given}
use Rattle.sctp_delivery.proofs.Names.{was_taken, passes, cases_lt, tsn, Made, SenderCall, forward_tsn, made_after, append-nil, distance, ReceiverCall}
use Rattle.std.proofs.Common.{append_assoc}
use Rattle.sctp_reassembly.specs.reassembly_queue.Counts.{set_chunks}
use Rattle.sctp_receiver.specs.Inbound.{has_number}
use Rattle.sctp_delivery.proofs.Cases.{all_streams, at-if, at-test, by-test}
use Rattle.sctp_delivery.proofs.Begun.{AreOnce, was_begun, begins}
use Rattle.sctp_delivery.proofs.Delivered.{EachSent, IsReadOf, each-from, each-sent, follows, from-few, inner-of, message-is, next_tsn}
use Rattle.sctp_delivery.proofs.Every.{Every, every-of, every-contained}
use Rattle.sctp_delivery.proofs.Kept as kept
use Rattle.sctp_delivery.proofs.OnceWritten.{EachRead, places, apart, each-read, stand}
use Rattle.sctp_delivery.proofs.ReadOnce as read_once
use Rattle.sctp_delivery.proofs.ReadOnce.{one}
use Rattle.sctp_delivery.proofs.Senders.{AreSent}
use Rattle.sctp_delivery.proofs.SackSteps.{none_dropped}
use Rattle.sctp_delivery.proofs.Sent.{Entry, IsLine, IsPart, Numbered, contains-more, fragment, part-length, part-line, same-parts, same-tsn, terminal, WasSent}
use Rattle.sctp_delivery.proofs.AbandonedMessages.{gone-left}
use Rattle.sctp_delivery.proofs.Calls.{length-forgotten, numbered_after}
use Rattle.sctp_delivery.proofs.TakenCalls.{more-arrived}
use Rattle.sctp_delivery.proofs.KeptOrGone.{known_past, IsKeptBut, IsPassedBy, HeldWell, IsLate}
use Rattle.sctp_delivery.proofs.OrderedPlaces.{place-at}
use Rattle.sctp_delivery.proofs.PassedMessages.{AreTakenOrGone, is_gone, IsMadePassing}
use Rattle.sctp_delivery.proofs.PassingCalls.{IsPassed, all-taken-or-gone, came-at, IsGone, passed-first, receiver-passes, sender-passes}
use Rattle.sctp_delivery.proofs.SpreadCalls.{IsSpread, sender-spreads}
use Rattle.sctp_delivery.proofs.SackLaws.{none-of}
use Rattle.sctp_delivery.proofs.OneRead.{run-then}
use Rattle.sctp_delivery.proofs.UnwrappedHolds.{IsWholeAt}
use Rattle.sctp_delivery.proofs.Unassembled.{tidy-more}
use Rattle.sctp_delivery.proofs.MessagePlaces.{IsEntryAt, IsWanted, begins-more, is_of_stream, ordered-alike, prior-of}
use Rattle.sctp_delivery.proofs.OrderedEntries.{AreIndexed, AreJoined}
use Rattle.sctp_delivery.proofs.Queues.{IsOnceMore}
use Rattle.sctp_delivery.proofs.SpreadEntries.{begun_to, is_at, to-all, to-up}
use Rattle.sctp_delivery.proofs.TakenTsns.{come}
use Rattle.sctp_delivery.proofs.TsnPlaces.{base, same-place}
use Rattle.sctp_delivery.proofs.UnwrappedHolds as holds
use Rattle.sctp_delivery.proofs.UnwrappedReads as reads
use Rattle.sctp_delivery.proofs.UnwrappedSessions as sessions
use Rattle.sctp_delivery.specs.ReceiverCalls as incoming
use Rattle.sctp_delivery.proofs.KeptCalls as calls
use Rattle.sctp_delivery.proofs.SackLaws as sacks
use Rattle.sctp_delivery.proofs.Sessions as made_in
use Rattle.sctp_delivery.proofs.SpreadFlight.{are-on, are-steps}
use Rattle.sctp_delivery.proofs.Kept.{IsOther}
use Rattle.sctp_delivery.proofs.TightFlight.{IsTight, tight-after, tight-later}
use Rattle.sctp_delivery.proofs.UnwrappedSessions.{IsUnwrapped, receiver-unwrapped, sender-answered, unwrapped-first}

-- ## Each write was read

module _ (ws : List Numbered) (first : ℕ) (sent : List Entry) (few : length sent < 2 ^ 32) (line : IsLine ws first sent) where
  -- what has the same TSN is of the same write
  pub same-write : (d e : Data) (w v : Numbered) (after rest : List ℕ) (xs ys : List Entry) → IsPart (fragment d w after ∷ xs) sent
      → IsPart (fragment e v rest ∷ ys) sent → d.tsn ≡ e.tsn → w ≡ v
  same-write d e w v after rest xs ys p q same = grind (arith, nat_tests, common_steps, part-line, part-length, same-parts)

module _ (ws : List Numbered) (first : ℕ) (sent : List Entry) (few : length sent < 2 ^ 32) (line : IsLine ws first sent) (indexed : AreIndexed sent) where
  -- the message of which a first fragment has the TSN is of its write
  module _ (d : Data) (w : Numbered) (after : List ℕ) (xs : List Entry) (p : IsPart (fragment d w after ∷ xs) sent)
      (begins : d.beginning_fragment ≡ true) where
    not-inner : (cs : List ChunkPayloadData) → EachSent sent cs → Every (λ (x : ChunkPayloadData). x.beginning_fragment ≡ false) cs
        → list_any (has_tsn d.tsn) cs ≡ false
    not-inner [] s e = refl
    not-inner (c ∷ cs) s e = at-test (λ b. (b || list_any (has_tsn d.tsn) cs) ≡ false) (has_tsn d.tsn c)
        (λ h.
        let it : data_of c ≡ d = same-tsn ws first sent few line (data_of c) d s.0 (w, after, xs, p) (same-is c.tsn d.tsn h) in
        absurd (not_both (sym e.0 ∙ ap (λ (x : Data). x.beginning_fragment) it ∙ begins)))
        (λ h. not-inner cs s.1 e.1)

    of-write : (m : Message) (x : IsReadOf ws sent m) → is_complete m.fragments ≡ true → is_one_message m.fragments ≡ true → EachSent sent m.fragments
        → list_any (has_tsn d.tsn) m.fragments ≡ true → x.numbered ≡ w
    of-write m x complete alike s e = grind (arith, follows, from-few, each-from, inner-of, or-split, same-write, same-is, not_both, not-inner)

    -- its place is one of those
    pub found : (once : AreOnce sent) (place : ℕ) → ((v : Numbered) → (c : Contains ws v) → v ≡ w → c.0 ≡ place)
        → (st : ℕ) (ms : List Message) (e : EachRead ws sent once ms)
        → All (λ m. (is_complete m.fragments ≡ true) × (is_one_message m.fragments ≡ true) × EachSent sent m.fragments) ms
        → 0 < sum_by (one d.tsn) (fragments_read st ms) → Contains (places ws sent once ms e) place
    found once place at st [] e all lt = absurd (omega (arith, lt))
    found once place at st (m ∷ ms) e all lt = by-test (list_any (has_tsn d.tsn) m.fragments)
        (λ h.
        let x = all 0 m (omega arith) in
        (0, omega arith, at e.0.numbered e.0.written (of-write m e.0 x.0 x.1 x.2 h)))
        (λ h. contains-more e.0.written.0 (places ws sent once ms e.1) place
        ((found once place at st ms e.1 (λ k o short. all (suc k) o (omega (arith, short)))) (rest h (m.stream == st) lt)))
      where
        rest : list_any (has_tsn d.tsn) m.fragments ≡ false → (b : Bool)
            → 0 < sum_by (one d.tsn) (if b then m.fragments ++ fragments_read st ms else fragments_read st ms) → 0 < sum_by (one d.tsn) (fragments_read st ms)
        rest h0 h1 h2 = grind (arith, nat_tests, common_steps, sum_by-append, read_once.none-count)

-- the first fragment of a write that was begun
pub begun-part : (m : ℕ) (sent : List Entry) → was_begun m sent ≡ true → (d : Data) × (w : Numbered) × (after : List ℕ) × (xs : List Entry)
    × IsPart (fragment d w after ∷ xs) sent × (d.beginning_fragment ≡ true) × (w.place ≡ m)
begun-part m [] e = absurd (not_both e)
begun-part m (terminal ∷ ys) e = let r = begun-part m ys e in (r.0, r.1, r.2, r.3, inr r.4, r.5, r.6)
begun-part m (fragment d w after ∷ ys) e = elim (or-split (d.beginning_fragment && (w.place == m)) (was_begun m ys) e) [
  | inl h ↦ let b = both d.beginning_fragment (w.place == m) h in (d, w, after, ys, inl refl, b.0, same-is w.place m b.1)
  | inr h ↦ let r = begun-part m ys h in (r.0, r.1, r.2, r.3, inr r.4, r.5, r.6)
]

-- ## Nothing waits, and nothing is held

pub record IsIdle (s : Session) : Type 0 where
  pub ordered : s.sending.sender.flight.queue.pending.ordered ≡ []
  pub unordered : s.sending.sender.flight.queue.pending.unordered ≡ []
  pub inflight : s.sending.sender.flight.queue.inflight.chunks ≡ []

pub idle-of : (s : Session) → is_all_acknowledged s.sending.sender ≡ true → IsIdle s
idle-of s e = grind (arith, nat_tests, common_steps, both, same-is, none-of)

-- no more have the TSN than there are
count-length : (t : ℕ) (cs : List ChunkPayloadData) → sum_by (one t) cs ≤ length cs
count-length t [] = omega arith
count-length t (c ∷ cs) = grind (arith, nat_tests, common_steps, sum_by-cons (one t) c cs, count-length t cs)

count-sets : (t : ℕ) (ss : List ChunkSet) → sum_by (set_weight (one t)) ss ≤ set_chunks ss
count-sets t [] = omega arith
count-sets t (s ∷ ss) = grind (arith, nat_tests, common_steps, sum_by-cons (set_weight (one t)) s ss, count-length t s.chunks, count-sets t ss)

pub none-held : (st t : ℕ) (r : Reception) → holds_nothing r ≡ true → sum_by (one t) (fragments_held st r) ≡ 0
none-held st t r e = kept.held-weighs (one t) (stream_of st r) ∙ at r.streams e
  where
    none : (l : InboundStream) → (held_chunks l.queue.held == 0) ≡ true → held_weight (one t) (Some l) ≡ 0
    none l h =
        let q = l.queue.held in
        omega (arith, same-is (held_chunks q) 0 h, count-sets t q.ordered, count-sets t q.unordered, count-length t q.unassembled)

    at : (ls : List InboundStream) → list_all (λ l. held_chunks l.queue.held == 0) ls ≡ true → held_weight (one t) (find (has_number st) ls) ≡ 0
    at [] h = refl
    at (l ∷ ls) h = let b = both (held_chunks l.queue.held == 0) (list_all (λ x. held_chunks x.queue.held == 0) ls) h in at-if
        (λ z. held_weight (one t) z ≡ 0) (has_number st l)
        (λ e. none l b.0)
        (λ e. at ls b.1)

-- ## What was read

-- what was read: complete messages, each of one message, of fragments that got TSNs
pub complete-messages : (first size max most : ℕ) (limits : Option Limits) (cs : List Call) (s : Session) → RunsTo (at_start first size max most limits) cs s
    → (sent : List Entry) → AreSent sent s.made
    → All (λ m. (is_complete m.fragments ≡ true) × (is_one_message m.fragments ≡ true) × EachSent sent m.fragments) s.receiving.read
complete-messages first size max most limits cs s run sent made = λ k m lt.
    let it = slice_index_or s.receiving.read k m in
    let messages = made_in.messages first size max most limits cs s run in (
      AllPass-from_list_all (λ x. is_complete x.fragments) s.receiving.read messages.0 k m lt,
      AllPass-from_list_all (λ x. is_one_message x.fragments) s.receiving.read messages.1 k m lt,
      each-sent sent s.made it.fragments made (made_in.made first size max most limits cs s run k m lt),
    )

-- # Where messages were abandoned, each other write is read exactly once in the end

pub slice-itself : {A : Type 0} (xs : List A) (k : ℕ) (a b : A) → k < length xs → slice_index_or xs k a ≡ slice_index_or xs k b
slice-itself [] k a b lt = absurd (omega (arith, lt))
slice-itself (x ∷ xs) zero a b lt = refl
slice-itself (x ∷ xs) (suc k) a b lt = slice-itself xs k a b (omega (arith, lt))

-- where nothing waits and nothing is in flight, and each fragment that was taken of a message that is not gone was read
module _ (first size max most : ℕ) (limits : Option Limits) (cs : List Call) (s : Session) (run : RunsTo (at_start first size max most limits) cs s)
    (small : first < 2 ^ 32) (few : tsns_given (at_start first size max most limits) cs s run < 2 ^ 31) (gone : List ℕ) (ns : List Numbered)
    (sent : List Entry) (i : IsSpread first (tsns_given (at_start first size max most limits) cs s run) s ns sent) (p : IsPassed first gone s ns sent)
    (idle : IsIdle s) where
  abbrev pub IsReadWhole : Type 0
  IsReadWhole =
      (d : Data) (w : Numbered) (after : List ℕ) (xs : List Entry) → IsPart (fragment d w after ∷ xs) sent → is_gone gone w.place ≡ false
      → was_taken d.tsn s ≡ true → (st : ℕ) × (0 < sum_by (one d.tsn) (fragments_read st s.receiving.read))

  pub others-once : IsReadWhole → EachOtherIsReadOnce gone s
  others-once all = (
    places ns sent once s.receiving.read reads,
    subst (λ ws. StandAt ws s.receiving.read (places ns sent once s.receiving.read reads)) i.holds.writes (stand ns sent once s.receiving.read reads),
    apart ns sent once s.receiving.read reads apart',
    λ k lt other.
        let same : length s.written ≡ length ns = omega (arith, ap length i.holds.writes, length-forgotten ns) in
        here k (omega (arith, lt, same)) (subst (λ n. is_gone gone (n - (k + 1)) ≡ false) same other),
  )
    where
      once : AreOnce sent
      once = i.holds.held.stands.begun'.once

      line : IsLine ns first sent
      line = i.holds.held.stands.queued.line

      short : length sent < 2 ^ 31
      short = omega (arith, few)

      apart' : are_apart (fragments_of_all s.receiving.read) ≡ true
      apart' = read_once.none-twice first size max most limits cs s run small few

      whole : All (λ m. (is_complete m.fragments ≡ true) × (is_one_message m.fragments ≡ true) × EachSent sent m.fragments) s.receiving.read
      whole = complete-messages first size max most limits cs s run sent i.holds.made

      reads : EachRead ns sent once s.receiving.read
      reads = each-read ns sent once s.receiving.read (λ k m lt.
          let w = whole k m lt in
          message-is ns first sent 0 line i.holds.held.stands.queued.indexed (slice_index_or s.receiving.read k m) w.0 w.1
          (each-from sent (omega (arith, short)) (slice_index_or s.receiving.read k m).fragments w.2)
          (AllPass-from_list_all (λ x. list_all (is_on x.stream) x.fragments) s.receiving.read (made_in.read-on first size max most limits cs s run) k m lt))

      came : AreTakenOrGone gone s sent
      came = all-taken-or-gone first (tsns_given (at_start first size max most limits) cs s run) s ns sent gone i few p.passing idle.inflight

      begun-at : (m : ℕ) → m < length ns → is_gone gone m ≡ false → was_begun m sent ≡ true
      begun-at m lt other = grind (arith, nat_tests, common_steps, or-split, not_both)

      none-written : Numbered
      none-written = record { stream = 0; payload_type = Unknown; bytes = []; place = 0 }

      here : (k : ℕ) → k < length ns → is_gone gone (length ns - (k + 1)) ≡ false → Contains (places ns sent once s.receiving.read reads) k
      here k lt other =
          let w = slice_index_or ns k none-written in
          let at = place-at ns k w i.holds.placed lt (slice-itself ns k w none-written lt) in
          let is : w.place ≡ length ns - (k + 1) = omega (arith, at) in
          let off : is_gone gone w.place ≡ false = ap (is_gone gone) is ∙ other in
          let b = begun-part w.place sent (begun-at w.place (omega (arith, at)) off) in
          let off' : is_gone gone b.1.place ≡ false = ap (is_gone gone) b.6 ∙ off in
          let t : was_taken b.0.tsn s ≡ true = elim (or-split (was_taken b.0.tsn s) (is_gone gone b.1.place) (came-at gone s sent came b.0 b.1 b.2 b.3 b.4)) [
            | inl e ↦ e
            | inr e ↦ absurd (not_both (sym off' ∙ e))
          ] in
          let on = all b.0 b.1 b.2 b.3 b.4 off' t in
          found ns first sent (omega (arith, short)) line i.holds.held.stands.queued.indexed b.0 b.1 b.2 b.3 b.4 b.5 once k
          (λ v c same.
          let p' : v.place ≡ w.place = ap (λ (x : Numbered). x.place) same ∙ b.6 in
          omega (arith, place-at ns c.0 v i.holds.placed c.1 c.2, p', at)) on.0 s.receiving.read reads whole on.1

-- # What was taken on a stream stays held or read, but for fragments of messages that are gone, where the sender gives out a TSN more.

entry-later : (x : Entry) (sent : List Entry) (y : ℕ) (d : Data) (w : Numbered) → IsEntryAt sent y d w → IsEntryAt (x ∷ sent) y d w
entry-later x sent y d w i = record { after = i.after; entries = i.entries; part = inr i.part; place = i.place }

-- an entry behind the first n, or one of these
entry-back : (x : Entry) (sent : List Entry) (y : ℕ) (d : Data) (w : Numbered) → IsEntryAt (x ∷ sent) y d w
    → (y ≡ length sent + 1) ⊎ IsEntryAt sent y d w
entry-back x sent y d w i = grind (arith, nat_tests, common_steps)

module _ (ns : List Numbered) (first : ℕ) (sent more : List Entry) (line : IsLine ns first more) (joined : AreJoined more) (once : IsOnceMore sent more)
    (n m : ℕ) (long : length sent ≡ n) (longer : length more ≡ m) (few : m < 2 ^ 31) (st a b : ℕ) (s : Stand)
    (answered : holds.AreDue (base first) st n (λ k. begun_to st k sent) (λ k. is_at st k sent) (λ c. WasSent sent (data_of c)) a s)
    (upto : b ≤ answered.arrived.place) (unarrived : come (tsn (base first) (n + 1)) s.receiver.cumulative_tsn s.receiver.beyond ≡ true → ⊥) where
  abbrev p : ℕ
  p = base first

  abbrev Fits : ℕ → List ChunkPayloadData → Type 0
  Fits = holds.Fits p st n (λ k. begun_to st k sent) (λ k. is_at st k sent) (λ c. WasSent sent (data_of c))

  abbrev Came : ℕ → Type 0
  Came = holds.Came p st n (λ k. begun_to st k sent) (λ k. is_at st k sent) (λ c. WasSent sent (data_of c)) s.receiver.cumulative_tsn s.receiver.beyond

  abbrev Old : ℕ → Type 0
  Old = IsLate first sent st s.receiver.cumulative_tsn s.receiver.beyond

  abbrev New : ℕ → Type 0
  New = IsLate first more st s.receiver.cumulative_tsn s.receiver.beyond

  sizes : (m ≡ n) ⊎ (m ≡ n + 1)
  sizes = grind (arith, nat_tests, common_steps)

  wider : n ≤ m
  wider = elim sizes [ inl e ↦ omega (arith, e) | inr e ↦ omega (arith, e) ]

  same-to : (k : ℕ) → k ≤ n → begun_to st k more ≡ begun_to st k sent
  same-to = sessions.same-to st first n sent more long once

  past-all : begun_to st (n + 1) sent ≡ begun_to st n sent
  past-all = to-all st (n + 1) sent (omega (arith, long)) ∙ sym (to-all st n sent (omega (arith, long)))

  up : (j k : ℕ) → j ≤ k → begun_to st j more ≤ begun_to st k more
  up j k le = to-up st j k more le

  -- no fewer were begun up to a place
  not-less : (y : ℕ) → y ≤ n + 1 → begun_to st y sent ≤ begun_to st y more
  not-less y le = elim (cases_lt n y) [
    | inr ge ↦ let e = same-to y ge in omega (arith, e)
    | inl lt ↦
        let it : y ≡ n + 1 = omega (arith, lt, le) in
        omega (arith, ap (λ k. begun_to st k sent) it, past-all, same-to n (omega arith), up n y (omega (arith, lt)))
  ]

  -- what is still to come is past the index
  module _ (index : ℕ) (top : index ≤ begun_to st n sent) (late : (y : ℕ) → y ≤ n + 1 → Old y → index < begun_to st y sent) where
    old : (y : ℕ) → y ≤ n + 1 → Old y → index < begun_to st y more
    old y le l = let x = late y le l in let e = not-less y le in omega (arith, x, e)

    off : (y : ℕ) → y ≡ n + 1 → come (tsn p y) s.receiver.cumulative_tsn s.receiver.beyond ≡ false
        → come (tsn p (n + 1)) s.receiver.cumulative_tsn s.receiver.beyond ≡ false
    off y e c = ap (λ k. come (tsn p k) s.receiver.cumulative_tsn s.receiver.beyond) (sym e) ∙ c

    -- a new ordered fragment of the stream
    fresh-here : (x : Entry) → more ≡ x ∷ sent → (d : Data) (w : Numbered) → IsEntryAt more (n + 1) d w → is_of_stream st d ≡ true
        → come (tsn p (n + 1)) s.receiver.cumulative_tsn s.receiver.beyond ≡ false → index < begun_to st (n + 1) more
    fresh-here x e d w i on c = by-test d.beginning_fragment
        (λ h.
        let j = begins-more ns first more line joined st n d w (subst (λ y. IsEntryAt more y d w) plus i) on h in
        omega (arith, j, ap (λ y. begun_to st y more) plus, same-to n (omega arith), top))
        (λ h.
        let r = prior-of ns first more line joined (n + 1) d w i h in
        let z : r.0 ≡ n = (omega arith) in
        let there = subst (λ y. IsEntryAt more y r.2 w) z r.3 in
        let back = entry-back x sent n r.2 w (subst (λ ys. IsEntryAt ys n r.2 w) e there) in
        let prior : IsEntryAt sent n r.2 w = elim back [ inl y ↦ absurd (omega (arith, y, long)) | inr y ↦ y ] in
        old (n + 1) (omega arith) (inr (n, plus, r.2, w, prior, ordered-alike st d r.2 r.4 ∙ on, r.4.0), c))
      where
        plus : n + 1 ≡ suc n
        plus = omega arith

    late-more : (y : ℕ) → y ≤ m + 1 → New y → index < begun_to st y more
    late-more y le l = elim once [
      | inl e ↦
          old y (omega (arith, le, ap length e, long, longer)) (subst (λ ys. IsWanted st ys y) e l.0, l.1)
      | inr e ↦ by e.0 e.1 (subst (λ ys. IsWanted st ys y) e.1 l.0)
    ]
      where
        by : (x : Entry) → more ≡ x ∷ sent → IsWanted st (x ∷ sent) y → index < begun_to st y more
        by x e (inl h) = elim (entry-back x sent y h.0 h.1 h.2) [
          | inl z ↦
              let at : y ≡ n + 1 = omega (arith, z, long) in
              let i = subst (λ k. IsEntryAt more k h.0 h.1) at (subst (λ ys. IsEntryAt ys y h.0 h.1) (sym e) h.2) in
              omega (arith, fresh-here x e h.0 h.1 i h.3 (off y at l.1), ap (λ k. begun_to st k more) at)
          | inr i ↦
              old y (omega (arith, part-length sent (fragment h.0 h.1 i.after ∷ i.entries) i.part, long)) (inl (h.0, h.1, i, h.3), l.1)
        ]
        by x e (inr h) = elim (entry-back x sent h.0 h.2 h.3 h.4) [
          | inl z ↦
              let at : h.0 ≡ n + 1 = omega (arith, z, long) in
              let i = subst (λ k. IsEntryAt more k h.2 h.3) at (subst (λ ys. IsEntryAt ys h.0 h.2 h.3) (sym e) h.4) in
              let none : come (tsn p (n + 1)) s.receiver.cumulative_tsn s.receiver.beyond ≡ false =
              fails (come (tsn p (n + 1)) s.receiver.cumulative_tsn s.receiver.beyond) unarrived in
              omega (arith, fresh-here x e h.2 h.3 i h.5 none, up (n + 1) y (omega (arith, at)))
          | inr i ↦
              old y (omega (arith, part-length sent (fragment h.2 h.3 i.after ∷ i.entries) i.part, long)) (inr (h.0, h.1, h.2, h.3, i, h.5, h.6), l.1)
        ]

  -- no chunk of a set has a TSN that was not given out
  rises-within : (i low : ℕ) (cs : List ChunkPayloadData)
      → holds.Rises p st n (λ k. begun_to st k sent) (λ k. is_at st k sent) (λ c. WasSent sent (data_of c)) i low cs → (y : ℕ) → y ≤ m
      → list_any (has_tsn (tsn p y)) cs ≡ true → y ≤ n
  rises-within i low [] r y le e = absurd (not_both e)
  rises-within i low (c ∷ cs) r y le e = elim (or-split (has_tsn (tsn p y) c) (list_any (has_tsn (tsn p y)) cs) e) [
    | inl h ↦ grind (arith, nat_tests, common_steps, same-place, same-is)
    | inr h ↦ rises-within i (r.0.before + 1) cs r.2 y le h
  ]

  whole-more : (index low top : ℕ) (ss : List ChunkSet)
      → reads.AreSets p n (λ k. begun_to st k sent)
      Fits Came low top ss
      → Every (IsWholeAt p n (λ k. begun_to st k sent) index) ss → Every (IsWholeAt p m (λ k. begun_to st k more) index) ss
  whole-more index low top [] r e = tt
  whole-more index low top (x ∷ xs) r e = grind (arith, nat_tests, common_steps, rises-within, same-to, whole-more index (r.0 + 1) top xs r.2 e.1)

  well-more : (o : Option InboundStream)
      → holds.DueOn p st n (λ k. begun_to st k sent) (λ k. is_at st k sent) (λ c. WasSent sent (data_of c)) Came answered.k answered.reach o
      → begun_to st n sent ≤ begun_to st a sent + 2 ^ 14 → HeldWell first sent st n a Old o → HeldWell first more st m b New o
  well-more None d near h = tt
  well-more (Some l) d near h = record {
    current = record {
      index = h.current.index;
      next = h.current.next;
      from =
          let w = answered.arrived.within in
          omega (arith, up b answered.arrived.place upto, same-to answered.arrived.place w, same);
      upto =
          omega (arith, same-to n (omega arith), up n m wider);
      late = late-more h.current.index h.current.upto h.current.late;
      whole = whole-more h.current.index d.low answered.reach l.queue.held.ordered d.sets h.current.whole;
      some = h.current.some;
    };
    tidy = tidy-more p n (let w = wider in omega (arith, w, few)) m l.queue.held wider h.tidy;
    orderly = h.orderly;
  }
    where
      same : h.current.index ≡ d.index
      same = grind (arith, nat_tests, answered.arrived.covered, to-up st a answered.arrived.place sent answered.arrived.least_is)

  gone-more : (gone now : List ℕ) → ((k : ℕ) → is_gone gone k ≡ true → is_gone now k ≡ true) → (c : ChunkPayloadData) → IsGone gone sent c
      → IsGone now more c
  gone-more gone now among c g = grind (arith, nat_tests, common_steps, entry-later)

  pub keeps-more : (gone now : List ℕ) (ms later : List Made) → ((k : ℕ) → is_gone gone k ≡ true → is_gone now k ≡ true)
      → ((t : ℕ) → list_any (passes t) ms ≡ true → list_any (passes t) later ≡ true)
      → begun_to st n sent ≤ begun_to st a sent + 2 ^ 14 → IsKeptBut first sent st n a gone ms s
      → IsKeptBut first more st m b now later s
  keeps-more gone now ms later among grows near k = record {
    lost = k.lost;
    of-gone = every-of (IsPassedBy gone sent ms) (IsPassedBy now more later) (λ c g. (gone-more gone now among c g.0, grows c.tsn g.1)) k.lost k.of-gone;
    weighs = k.weighs;
    holds = well-more (stream_of st s.receiver) answered.due near k.holds;
    floor = record {
      floor = k.floor.floor;
      within = let a = k.floor.within in let b = wider in omega (arith, a, b);
      ends = elim k.floor.ends [ inl z ↦ inl z | inr e ↦ inr (e.0, part-more e.0 e.1, e.2, e.3) ];
      below = k.floor.below;
      gone-to = k.floor.gone-to;
      past = k.floor.past;
      arrived = more-arrived p n m (known_past first sent st k.floor.floor s) (known_past first more st k.floor.floor s) s.receiver.cumulative_tsn
          s.receiver.beyond wider (λ t e. e) k.floor.arrived;
    };
  }
    where
      part-more : (ys : List Entry) → IsPart ys sent → IsPart ys more
      part-more ys x = elim once [ inl e ↦ subst (IsPart ys) (sym e) x | inr e ↦ subst (IsPart ys) (sym e.1) (inr x) ]

-- # In each session of few TSNs: what was taken is held or was read, but for fragments of messages that were abandoned or have expired.

-- what is so of a session in which the messages with these numbers were abandoned. Of each stream few messages are begun past one that has an
-- ordered chunk in flight
pub record IsKeptIn (first n : ℕ) (gone : List ℕ) (s : Session) (ns : List Numbered) (sent : List Entry) : Type 0 where
  pub unwrapped : IsUnwrapped first n s ns sent
  pub passed : IsPassed first gone s ns sent
  pub kept : (st : ℕ) → IsKeptBut first sent st n unwrapped.spread.step.numbered.acked gone s.made s.receiving
  pub tight : (st : ℕ) → IsTight st unwrapped.spread.step.numbered.acked sent

module _ (first size max most : ℕ) (limits : Option Limits) (n : ℕ) (few : n < 2 ^ 31) (gone : List ℕ) (cs : List Call) (call : ReceiverCall)
    (old new : Session) (run : RunsTo (at_start first size max most limits) cs old) (f : ReceiverFollows call old new) (ns : List Numbered)
    (sent : List Entry) (k : IsKeptIn first n gone old ns sent) where
  abbrev j : IsUnwrapped first n new ns sent
  j = receiver-unwrapped first n call old new ns sent few f k.unwrapped

  same : k.unwrapped.spread.step.numbered.acked ≡ j.spread.step.numbered.acked
  same = grind (arith, nat_tests, j.spread.step.numbered.total)

  after : (st : ℕ) → calls.Answered first n few old new ns sent k.unwrapped gone st new
  after st = subst (λ a. holds.AreDue (base first) st n (λ m. begun_to st m sent) (λ m. is_at st m sent) (λ c. WasSent sent (data_of c)) a new.receiving)
      (sym same) (j.answered st).0

  other : (st : ℕ) (c : ReceiverCall) → IsOther c → ReceiverFollows c old new
      → IsKeptBut first sent st n k.unwrapped.spread.step.numbered.acked gone old.made new.receiving
  other st c o f' = calls.keeps-other first n few old new ns sent k.unwrapped gone st c o f' (after st) (k.kept st)

  kept-on : (st : ℕ) (c : ReceiverCall) → ReceiverFollows c old new
      → IsKeptBut first sent st n k.unwrapped.spread.step.numbered.acked gone old.made new.receiving
  kept-on st (incoming.follows g) f' =
      calls.keeps-followed first n few old new ns sent k.unwrapped gone st k.passed.cut (made_in.all-made cs (at_start first size max most limits) old run refl)
      (complete-messages first size max most limits cs old run sent k.unwrapped.spread.holds.made) g f'
      (every-contained (IsMadePassing (base first) gone old sent) old.made (forward_tsn g) f'.handed k.passed.passing) (k.kept st)
  kept-on st c f' = other st c tt f'

  pub receiver-kept : IsKeptIn first n gone new ns sent
  receiver-kept = record {
    unwrapped = j;
    passed = receiver-passes first gone call old new ns sent f k.passed;
    kept = λ st.
        subst (λ ms. IsKeptBut first sent st n j.spread.step.numbered.acked gone ms new.receiving) (sym (ap (λ (s : Session). s.made) f.after))
        (subst (λ a. IsKeptBut first sent st n a gone old.made new.receiving) same (kept-on st call f));
    tight = λ st. subst (λ a. IsTight st a sent) same (k.tight st);
  }

sender-kept : (first n : ℕ) (gone : List ℕ) (call : SenderCall) (old new : Session) (ns : List Numbered) (sent : List Entry)
    → n + distance (next_tsn old) (next_tsn new) < 2 ^ 31 → SenderFollows call old new → IsKeptIn first n gone old ns sent
    → (more : List Entry) × IsKeptIn first (n + distance (next_tsn old) (next_tsn new)) (gone ++ abandoned_by call old.sending.sender) new
    (numbered_after call ns) more
sender-kept first n gone call old new ns sent few f k =
    let i = k.unwrapped in
    let small : n < 2 ^ 31 = omega (arith, few) in
    let m = n + distance (next_tsn old) (next_tsn new) in
    let x = sender-spreads first n call old new ns sent i.spread few f in
    let answered = λ (st : ℕ). sender-answered st first n call old new ns sent i.spread few f x (i.answered st) in
    let h = i.spread.step.numbered in
    let known = i.spread.holds.held.stands.known in
    let cs = old.sending.sender.flight.queue.inflight.chunks in (
      x.more,
      record {
        unwrapped = record { spread = x.spread; answered = answered };
        passed = sender-passes first n gone call old new ns sent i.spread few f x k.passed;
        kept = λ st.
            let d = (i.answered st).0 in
            let e = (answered st).0 in
            let w = d.arrived.within in
            let v = e.arrived.within in
            let least = e.arrived.least_is in
            let same : e.arrived.place ≡ d.arrived.place = grind (arith, nat_tests, common_steps, same-place) in
            subst (λ (s : Session). IsKeptBut first x.more st m x.spread.step.numbered.acked (gone ++ abandoned_by call old.sending.sender) s.made
            s.receiving) (sym f.after)
            (keeps-more (numbered_after call ns) first sent x.more x.spread.holds.held.stands.queued.line x.spread.holds.held.stands.queued.joined x.once n m
            i.spread.long x.spread.long few st i.spread.step.numbered.acked x.spread.step.numbered.acked old.receiving d (omega (arith, least, same))
            (calls.unarrived first n small old old ns sent i gone st) gone (gone ++ abandoned_by call old.sending.sender) old.made
            (made_after call old.sending.sender old.made) (gone-left gone (abandoned_by call old.sending.sender))
            (λ t. made_in.more-made (passes t) call old.sending.sender old.made)
            (sessions.near st first all_streams none_dropped refl n old ns sent i.spread small) (k.kept st));
        tight = λ st. tight-later st h.acked x.spread.step.numbered.acked x.more x.rises
            (tight-after st h.acked n sent x.more old.sending.sender call x.grown f.accepted x.spread.holds.held.stands.queued.indexed i.spread.long h.total
            (are-steps all_streams first n sent i.spread.long small st refl h.acked cs h.total h.run known)
            (are-on all_streams first n sent i.spread.long small st h.acked cs h.total h.run known) (k.tight st));
      },
    )

-- ## Every session

-- the writes and entries of a session in which the messages with these numbers were abandoned
pub record HasKept (first n : ℕ) (gone : List ℕ) (s : Session) : Type 0 where
  pub numbered : List Numbered
  pub sent : List Entry
  pub kept : IsKeptIn first n gone s numbered sent

module _ (first size max most : ℕ) (limits : Option Limits) where
  kept-after : (n : ℕ) (gone : List ℕ) (bs cs : List Call) (old new : Session) → RunsTo (at_start first size max most limits) bs old
      → (ns : List Numbered) (sent : List Entry) (r : RunsTo old cs new) → n + tsns_given old cs new r < 2 ^ 31 → IsKeptIn first n gone old ns sent
      → HasKept first (n + tsns_given old cs new r) (gone ++ abandoned_in old cs new r) new
  kept-after n gone bs [] old new run ns sent r few k =
      subst (λ m. HasKept first m (gone ++ []) new) {x = n} {y = n + 0} (omega arith)
      (subst (λ answered. HasKept first n answered new) (sym (append-nil gone))
      (subst (HasKept first n gone) (sym r) (record { numbered = ns; sent = sent; kept = k })))
  kept-after n gone bs (of_sender call ∷ cs) old new run ns sent r few k =
      let d = distance (next_tsn old) (next_tsn r.0) in
      let answered = abandoned_by call old.sending.sender in
      let x = sender-kept first n gone call old r.0 ns sent (omega (arith, few)) r.1.0 k in
      let sum : (n + d) + tsns_given r.0 cs new r.1.1 ≡ n + (d + tsns_given r.0 cs new r.1.1) = omega arith in
      subst (λ m. HasKept first m (gone ++ (answered ++ abandoned_in r.0 cs new r.1.1)) new) sum
      (subst (λ all. HasKept first ((n + d) + tsns_given r.0 cs new r.1.1) all new) (append_assoc gone answered (abandoned_in r.0 cs new r.1.1))
      (kept-after (n + d) (gone ++ answered) (bs ++ of_sender call ∷ []) cs r.0 new
      (run-then bs (of_sender call) (at_start first size max most limits) old r.0 run r.1.0) (numbered_after call ns) x.0 r.1.1 (omega (arith, few)) x.1))
  kept-after n gone bs (of_receiver call ∷ cs) old new run ns sent r few k =
      let d = distance (next_tsn old) (next_tsn r.0) in
      let none : d ≡ 0 = sacks.no-move (base first) n old r.0 (ap (λ (s : Session). s.sending) r.1.0.after) k.unwrapped.spread.step.numbered in
      let sum : n + tsns_given r.0 cs new r.1.1 ≡ n + (d + tsns_given r.0 cs new r.1.1) = omega (arith, none) in
      subst (λ m. HasKept first m (gone ++ abandoned_in r.0 cs new r.1.1) new) sum
      (kept-after n gone (bs ++ of_receiver call ∷ []) cs r.0 new (run-then bs (of_receiver call) (at_start first size max most limits) old r.0 run r.1.0) ns
      sent r.1.1 (omega (arith, few)) (receiver-kept first size max most limits n (omega (arith, few)) gone bs call old r.0 run r.1.0 ns sent k))

  pub kept-in : (cs : List Call) (s : Session) → first < 2 ^ 32 → 0 < size → (r : RunsTo (at_start first size max most limits) cs s)
      → tsns_given (at_start first size max most limits) cs s r < 2 ^ 31
      → HasKept first (tsns_given (at_start first size max most limits) cs s r) (abandoned_in (at_start first size max most limits) cs s r) s
  kept-in cs s small some r few =
      let n = tsns_given (at_start first size max most limits) cs s r in
      let start = unwrapped-first first size max most limits small some in
      subst (λ m. HasKept first m (abandoned_in (at_start first size max most limits) cs s r) s) {x = 0 + n} {y = n} (omega arith)
      (kept-after 0 [] [] cs (at_start first size max most limits) s refl [] [] r (omega (arith, few)) (record {
        unwrapped = start;
        passed = passed-first first size max most limits;
        kept = grind (arith, nat_tests, common_steps);
        tight = λ st z lt at. absurd (not_both at);
      }))
