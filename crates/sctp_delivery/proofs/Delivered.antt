-- Each message that is read was written.
use Rattle.sctp_delivery.proofs.Names.{common_steps, nat_tests, ◌≡◌, ℕ, zero, suc, ◌+◌, ◌%◌, ◌^◌, ◌<◌, ◌≤◌, Bool, true, false, not, List, [], ◌∷◌, ◌++◌, length}
use Rattle.sctp_delivery.proofs.Names.{Option, inl, inr, refl, ap, sym, subst, ◌∙◌, arith, get_or, ⊤, All, Contains, fails, ◌==◌, ◌&&◌, if◌then◌else◌}
use Rattle.sctp_delivery.proofs.Names.{slice_index_or, list_all, AllPass-from_list_all, negated, same-is, both, not_both, ChunkPayloadData, Data, data_of}
use Rattle.sctp_delivery.proofs.Names.{completes, is_complete, Limits, Message, is_one_message, is_on, AfterEachFitSession, AreWrites, IsWrite, WhileTsnsLast}
use Rattle.sctp_delivery.proofs.Names.{tsns_given, Made, SenderCall, Write, data_chunk, forward_tsn, AreMade, AreMessages, Call, ReceiverFollows, RunsTo}
use Rattle.sctp_delivery.proofs.Names.{SenderFollows, Session, at_start, of_receiver, of_sender}
use Rattle.sctp_util.specs.Serial.{distance}
use Rattle.sctp_reassembly.specs.reassembly_queue.Fragments.{payload_of}
use Rattle.sctp_receiver.specs.ReceiverRuns.{is_like}
use Rattle.sctp_delivery.specs.Messages.{AreParts, AreSame}
use Rattle.sctp_delivery.proofs.Cases.{all_streams, where-is}
use Rattle.sctp_delivery.proofs.Begun.{AreOnce}
use Rattle.sctp_delivery.proofs.Calls.{contains-forgotten, forget, forgotten, numbered_after, sent_by, stepped}
use Rattle.sctp_delivery.proofs.OrderedEntries.{AreIndexed, AreIndexedOn, AreRising, IsIndexed, begun_on, one, written_on, part-indexed}
use Rattle.sctp_delivery.proofs.OrderedPlaces.{AreNumbered}
use Rattle.sctp_delivery.proofs.Queues.{IsOnceMore}
use Rattle.sctp_delivery.proofs.Senders.{AreSent, AreSentOn, IsHeldOn, IsMoreBy}
use Rattle.sctp_delivery.proofs.Sent.{Numbered, Entry, GoesOn, IsFrom, IsLine, IsPart, WasSent, WasSentFrom, fragment, part-length, part-line, same-tsn}
use Rattle.sctp_delivery.proofs.Sent.{stands-next}
use Rattle.sctp_delivery.proofs.Sessions as sessions
use Rattle.sctp_delivery.proofs.Every.{Every, every-all, every-of, every-of-all}

-- ## All that a sender gave TSNs to, in every session

abbrev pub next_tsn : Session → ℕ
next_tsn s = s.sending.sender.flight.next_tsn

-- of numbers that is so on these streams
pub record HoldsOn (on : ℕ → Bool) (first : ℕ) (s : Session) (ns : List Numbered) (sent : List Entry) : Type 0 where
  pub held : IsHeldOn on ns first s.sending.sender sent
  pub made : AreSentOn on sent s.made
  pub writes : forgotten ns ≡ s.written
  pub placed : AreNumbered ns

abbrev pub Holds : ℕ → Session → List Numbered → List Entry → Type 0
Holds first s ns sent = HoldsOn all_streams first s ns sent

-- a TSN for each entry
pub counted : (first : ℕ) (sent more : List Entry) (a b : ℕ) → a ≡ (first + length sent) % 2 ^ 32 → b ≡ (first + length more) % 2 ^ 32 → IsOnceMore sent more
    → length more ≤ length sent + distance a b
unfolding distance
counted first sent more a b e f (inl same) = let n = ap length same in omega (arith, n)
counted first sent more a b e f (inr x) = let n = ap length x.1 in omega (arith, n, e, f)

-- the entries after a call of the sender, no more than the TSNs that were given out
pub record Sends (on : ℕ → Bool) (first : ℕ) (call : SenderCall) (old new : Session) (ns : List Numbered) (sent : List Entry) : Type 0 where
  pub more : List Entry
  pub holds : HoldsOn on first new (numbered_after call ns) more
  pub few : length more ≤ length sent + distance (next_tsn old) (next_tsn new)
  pub once : IsOnceMore sent more
  pub grown : IsMoreBy (sent_by call old.sending.sender) sent more

pub sender-step-on : (on : ℕ → Bool) (first : ℕ) (call : SenderCall) (old new : Session) (ns : List Numbered) (sent : List Entry)
    → SenderFollows call old new → HoldsOn on first old ns sent → Sends on first call old new ns sent
sender-step-on on first call old new ns sent f h =
    let r = stepped on ns first old.sending.sender sent old.made h.held call new.sending.sender f.step.sender f.exact f.accepted in
    record {
      more = r.more;
      holds = grind (arith, nat_tests, common_steps);
      few = counted first sent r.more (next_tsn old) (next_tsn new) h.held.stands.counted r.held.stands.counted r.once;
      once = r.once;
      grown = r.grown;
    }

-- where the sender stays as it is
pub beside-on : (on : ℕ → Bool) (first : ℕ) (old new : Session) (ns : List Numbered) (sent : List Entry) → new.sending ≡ old.sending → new.made ≡ old.made
    → new.written ≡ old.written → HoldsOn on first old ns sent → HoldsOn on first new ns sent
beside-on on first old new ns sent same made written h = grind (arith, nat_tests, common_steps)

abbrev pub sender-step : (first : ℕ) (call : SenderCall) (old new : Session) (ns : List Numbered) (sent : List Entry) → SenderFollows call old new
    → Holds first old ns sent → Sends all_streams first call old new ns sent
sender-step first call old new ns sent f h = sender-step-on all_streams first call old new ns sent f h

pub receiver-step : (first : ℕ) (call : _) (old new : Session) (ns : List Numbered) (sent : List Entry) → ReceiverFollows call old new → Holds first old ns sent
    → Holds first new ns sent
receiver-step first call old new ns sent f h = grind (arith, nat_tests, common_steps)

-- the writes and the entries after some calls, these no more than the TSNs that were given out
record After (first : ℕ) (old : Session) (cs : List Call) (new : Session) (r : RunsTo old cs new) (sent : List Entry) : Type 0 where
  numbered : List Numbered
  more : List Entry
  holds : Holds first new numbered more
  few : length more ≤ length sent + tsns_given old cs new r

held-after : (first : ℕ) (cs : List Call) (old new : Session) (ns : List Numbered) (sent : List Entry) (r : RunsTo old cs new) → Holds first old ns sent
    → After first old cs new r sent
held-after first [] old new ns sent r h = record { numbered = ns; more = sent; holds = subst (λ s. Holds first s ns sent) (sym r) h; few = omega arith }
held-after first (of_sender call ∷ cs) old new ns sent r h =
    let x = sender-step first call old r.0 ns sent r.1.0 h in
    let a = held-after first cs r.0 new (numbered_after call ns) x.more r.1.1 x.holds in
    record { numbered = a.numbered; more = a.more; holds = a.holds; few = omega arith }
held-after first (of_receiver call ∷ cs) old new ns sent r h =
    grind (arith, nat_tests, common_steps, receiver-step, held-after first cs r.0 new ns sent r.1.1 (receiver-step first call old r.0 ns sent r.1.0 h))

-- a new sender
pub held-first : (on : ℕ → Bool) (tsn size max most : ℕ) (limits : Option Limits) → tsn < 2 ^ 32 → 0 < size
    → IsHeldOn on [] tsn (at_start tsn size max most limits).sending.sender []
held-first on tsn size max most limits small some = grind (arith, nat_tests, common_steps)

pub at-first : (tsn size max most : ℕ) (limits : Option Limits) → tsn < 2 ^ 32 → 0 < size → Holds tsn (at_start tsn size max most limits) [] []
at-first tsn size max most limits small some = grind (arith, nat_tests, common_steps)

-- ## The fragments of a message

pub found-sent-on : (on : ℕ → Bool) (sent : List Entry) (ms : List Made) (d : Data) → AreSentOn on sent ms → Contains ms (data_chunk d) → WasSent sent d
found-sent-on on sent ms d a c = at ms c.0 c.1 c.2 a
  where
    at : (ms : List Made) (k : ℕ) → k < length ms → slice_index_or ms k (data_chunk d) ≡ data_chunk d → AreSentOn on sent ms → WasSent sent d
    at [] k lt e a = absurd (omega (arith, lt))
    at (data_chunk x ∷ ms) zero lt e a = let same : x ≡ d = cc in subst (WasSent sent) same a.0
    at (forward_tsn f ∷ ms) zero lt e a = cc
    at (data_chunk x ∷ ms) (suc k) lt e a = at ms k (omega (arith, lt)) e a.1
    at (forward_tsn f ∷ ms) (suc k) lt e a = at ms k (omega (arith, lt)) e a.1

pub found-sent : (sent : List Entry) (ms : List Made) (d : Data) → AreSent sent ms → Contains ms (data_chunk d) → WasSent sent d
found-sent sent ms d a c = found-sent-on all_streams sent ms d a c

-- each of these chunks got a TSN
abbrev pub EachSent : List Entry → List ChunkPayloadData → Type 0
EachSent sent cs = Every (λ c. WasSent sent (data_of c)) cs

-- and at one of 2^32 - 1 places from this one on
abbrev pub EachSentFrom : ℕ → List Entry → List ChunkPayloadData → Type 0
EachSentFrom low sent cs = Every (λ c. WasSentFrom low sent (data_of c)) cs

-- so it is while fewer than 2^32 TSNs were given out
pub from-few : (sent : List Entry) → length sent < 2 ^ 32 → (x : Entry) (xs : List Entry) → IsPart (x ∷ xs) sent → IsFrom 0 xs
from-few sent few x xs p = let n = part-length sent (x ∷ xs) p in (omega arith, omega (arith, n, few))

pub each-from : (sent : List Entry) → length sent < 2 ^ 32 → (cs : List ChunkPayloadData) → EachSent sent cs → EachSentFrom 0 sent cs
each-from sent few cs s = grind (arith, nat_tests, common_steps, every-of, from-few)

pub each-sent-on : (on : ℕ → Bool) (sent : List Entry) (ms : List Made) (cs : List ChunkPayloadData) → AreSentOn on sent ms
    → All (λ c. Contains ms (data_chunk (data_of c))) cs
    → EachSent sent cs
each-sent-on on sent ms cs a all =
    every-of-all (λ c. WasSent sent (data_of c)) cs (λ k d lt. found-sent-on on sent ms (data_of (get_or cs k d)) a (all k d lt))

pub each-sent : (sent : List Entry) (ms : List Made) (cs : List ChunkPayloadData) → AreSent sent ms
    → All (λ c. Contains ms (data_chunk (data_of c))) cs → EachSent sent cs
each-sent sent ms cs a all = each-sent-on all_streams sent ms cs a all

-- behind the first one a chunk that begins a message is alike the one before it: ordered, of the same stream and number
abbrev pub AreInner : ChunkPayloadData → List ChunkPayloadData → Type 0
AreInner c [] = ⊤
AreInner c (d ∷ ds) =
    (d.beginning_fragment ≡ true → (d.unordered ≡ false) × (c.unordered ≡ false) × (d.stream_identifier ≡ c.stream_identifier)
    × (d.stream_sequence_number ≡ c.stream_sequence_number)) × AreInner d ds

none-begins : (c : ChunkPayloadData) (cs : List ChunkPayloadData) → list_all (λ y. not y.beginning_fragment) cs ≡ true → AreInner c cs
none-begins c [] e = tt
none-begins c (d ∷ ds) e =
    let b = both (not d.beginning_fragment) (list_all (λ y. not y.beginning_fragment) ds) e in
    (λ h. absurd (not_both (sym (negated d.beginning_fragment b.0) ∙ h)), none-begins d ds b.1)

-- ordered, and of this stream and number
record IsOf (stream ssn : ℕ) (c : ChunkPayloadData) : Type 0 where
  ordered : c.unordered ≡ false
  same_stream : c.stream_identifier ≡ stream
  same_number : c.stream_sequence_number ≡ ssn

all-like : (x : ChunkPayloadData) → x.unordered ≡ false → (c : ChunkPayloadData) (cs : List ChunkPayloadData)
    → IsOf x.stream_identifier x.stream_sequence_number c → list_all (is_like x) cs ≡ true → AreInner c cs
all-like x k c [] i e = tt
all-like x k c (d ∷ ds) i e =
    let b = both (is_like x d) (list_all (is_like x) ds) e in
    let s = both (d.stream_identifier == x.stream_identifier) _ b.0 in
    let o = both (not d.unordered) (d.stream_sequence_number == x.stream_sequence_number)
    (subst (λ u. (if u then d.unordered else not d.unordered && (d.stream_sequence_number == x.stream_sequence_number)) ≡ true) k s.1) in
    let j : IsOf x.stream_identifier x.stream_sequence_number d = grind (arith, nat_tests, common_steps) in
    (λ _. (j.ordered, i.ordered, j.same_stream ∙ sym i.same_stream, j.same_number ∙ sym i.same_number), all-like x k d ds j b.1)

pub inner-of : (x : ChunkPayloadData) (ys : List ChunkPayloadData) → is_one_message (x ∷ ys) ≡ true → AreInner x ys
inner-of x ys e = grind (arith, nat_tests, common_steps, not, none-begins, all-like)

-- ## The law

-- each of these has the payload type
abbrev EachTyped : Numbered → List ChunkPayloadData → Type 0
EachTyped w cs = Every (λ c. c.payload_type ≡ w.payload_type) cs

-- the message is a write, of which the first fragment stands in the line
pub record IsReadOf (ws : List Numbered) (sent : List Entry) (m : Message) : Type 0 where
  pub chunk : ChunkPayloadData
  pub others : List ChunkPayloadData
  pub fragments : m.fragments ≡ chunk ∷ others
  pub begins : chunk.beginning_fragment ≡ true
  pub numbered : Numbered
  pub after : List ℕ
  pub entries : List Entry
  pub part : IsPart (fragment (data_of chunk) numbered after ∷ entries) sent
  pub written : Contains ws numbered
  pub write : IsWrite m (forget numbered)

-- and so is each that was read, of the writes and entries of a session
pub record IsReadSession (s : Session) : Type 0 where
  pub numbered : List Numbered
  pub sent : List Entry
  pub writes : forgotten numbered ≡ s.written
  pub once : AreOnce sent
  pub indexed : AreIndexed sent
  pub rising : AreRising sent
  pub few : (s : ℕ) → begun_on s sent ≤ written_on s numbered
  pub sent-made : AreSent sent s.made
  pub placed : AreNumbered numbered
  pub each : All (λ m. IsReadOf numbered sent m) s.receiving.read

-- of chunks that got TSNs at places from one on
module _ (ws : List Numbered) (first : ℕ) (sent : List Entry) (low : ℕ) (line : IsLine ws first sent) where
  -- a chunk, and those that follow it up to the end, are the rest of the write, where none of these begins a message
  follows-in : (c : ChunkPayloadData) (cs : List ChunkPayloadData) (w : Numbered) (after : List ℕ) (xs : List Entry)
      → IsPart (fragment (data_of c) w after ∷ xs) sent → IsFrom low xs → completes c cs ≡ true → EachSentFrom low sent cs
      → Every (λ (d : ChunkPayloadData). d.beginning_fragment ≡ false) cs → (payload_of cs ≡ after) × EachTyped w (c ∷ cs)
  follows-in c [] w after xs p at e s i =
      let l = part-line ws first sent (fragment (data_of c) w after ∷ xs) p line in
      (sym (l.0.ends e), (l.0.payload, tt))
  follows-in c (d ∷ ds) w after xs p at e s i =
      let b = both (d.tsn == (c.tsn + 1) % 2 ^ 32) (completes d ds) e in
      let v = s.0.0 in
      let rest = s.0.1 in
      let q = s.0.3 in
      let behind = stands-next ws first sent low line (data_of c)
      (data_of d) w v after rest xs s.0.2 p q at s.0.4 (same-is d.tsn ((c.tsn + 1) % 2 ^ 32) b.0) in
      let l = part-line ws first sent (fragment (data_of d) v rest ∷ s.0.2) q line in
      let g = subst (GoesOn (data_of d) v rest) behind l.1.0 i.0 in
      let ih = follows-in d ds v rest s.0.2 q s.0.4 b.1 s.1 i.1 in
      let here = part-line ws first sent (fragment (data_of c) w after ∷ xs) p line in
      (ap (λ bs. d.user_data ++ bs) ih.0 ∙ sym g.1, (here.0.payload, subst (λ v. EachTyped v (d ∷ ds)) g.0 ih.1))

  -- where the ordered messages of its stream have numbers one behind another, none of them does
  pub none-inside : (on : ℕ → Bool) → AreIndexedOn on sent → (c : ChunkPayloadData) (cs : List ChunkPayloadData) (w : Numbered) (after : List ℕ)
      (xs : List Entry) → IsPart (fragment (data_of c) w after ∷ xs) sent → IsFrom low xs → completes c cs ≡ true → EachSentFrom low sent cs → AreInner c cs
      → Every (λ (d : ChunkPayloadData). on d.stream_identifier ≡ true) cs → Every (λ (d : ChunkPayloadData). d.beginning_fragment ≡ false) cs
  none-inside on indexed c [] w after xs p at e s i o = tt
  none-inside on indexed c (d ∷ ds) w after xs p at e s i o =
      let b = both (d.tsn == (c.tsn + 1) % 2 ^ 32) (completes d ds) e in
      let behind = stands-next ws first sent low line (data_of c)
      (data_of d) w s.0.0 after s.0.1 xs s.0.2 p s.0.3 at s.0.4 (same-is d.tsn ((c.tsn + 1) % 2 ^ 32) b.0) in
      let up = part-indexed on sent (fragment (data_of d) s.0.0 s.0.1 ∷ s.0.2) s.0.3 indexed in
      let down = part-indexed on sent (fragment (data_of c) w after ∷ xs) p indexed in
      let here = where-is (on d.stream_identifier) (IsIndexed (data_of d) s.0.2) o.0 up.0 in (
        fails d.beginning_fragment (λ k.
            let a = i.0 k in
            let there = where-is (on c.stream_identifier) (IsIndexed (data_of c) xs) (ap on (sym a.2) ∙ o.0) down.0 in
            apart (data_of c) (data_of d) w after xs s.0.2 behind k a.0 a.1 a.2 a.3 there here),
        none-inside on indexed d ds s.0.0 s.0.1 s.0.2 s.0.3 s.0.4 b.1 s.1 i.1 o.1,
      )
    where
      apart : (c d : Data) (w : Numbered) (after : List ℕ) (xs ys : List Entry) → ys ≡ fragment c w after ∷ xs → d.beginning_fragment ≡ true
          → d.unordered ≡ false → c.unordered ≡ false → d.stream_identifier ≡ c.stream_identifier
          → d.stream_sequence_number ≡ c.stream_sequence_number → IsIndexed c xs → IsIndexed d ys → ⊥
      apart c d w after xs ys e k u v same number i j = grind (arith, nat_tests, common_steps)

  -- a chunk, and those that follow it up to the end, are the rest of the write; none of these begins a message
  pub follows : AreIndexed sent → (c : ChunkPayloadData) (cs : List ChunkPayloadData) (w : Numbered) (after : List ℕ) (xs : List Entry)
      → IsPart (fragment (data_of c) w after ∷ xs) sent → IsFrom low xs → completes c cs ≡ true → EachSentFrom low sent cs → AreInner c cs
      → (payload_of cs ≡ after) × EachTyped w (c ∷ cs) × Every (λ (d : ChunkPayloadData). d.beginning_fragment ≡ false) cs
  follows indexed c cs w after xs p at e s i = grind (arith, nat_tests, common_steps, none-inside, every-all, follows-in)

  -- a message of which no fragment but the first begins one
  pub single-is : (m : Message) → is_complete m.fragments ≡ true → (c : ChunkPayloadData) (cs : List ChunkPayloadData) → m.fragments ≡ c ∷ cs
      → (s : EachSentFrom low sent (c ∷ cs)) → Every (λ (d : ChunkPayloadData). d.beginning_fragment ≡ false) cs
      → list_all (is_on m.stream) (c ∷ cs) ≡ true → (x : IsReadOf ws sent m) × (x.entries ≡ s.0.2)
  single-is m complete c cs is s none on =
      let b = both c.beginning_fragment (completes c cs) (ap is_complete (sym is) ∙ complete) in
      let w = s.0.0 in
      let after = s.0.1 in
      let l = part-line ws first sent (fragment (data_of c) w after ∷ s.0.2) s.0.3 line in
      let f = follows-in c cs w after s.0.2 s.0.3 s.0.4 b.1 s.1 none in
      let x : IsReadOf ws sent m = grind (arith, nat_tests, common_steps) in
      (x, refl)

  -- of a message on such a stream no fragment but the first begins one
  pub single-on : (on : ℕ → Bool) → AreIndexedOn on sent → (m : Message) → is_complete m.fragments ≡ true → is_one_message m.fragments ≡ true
      → EachSentFrom low sent m.fragments → list_all (is_on m.stream) m.fragments ≡ true → on m.stream ≡ true
      → (c : ChunkPayloadData) (cs : List ChunkPayloadData) → m.fragments ≡ c ∷ cs → Every (λ (d : ChunkPayloadData). d.beginning_fragment ≡ false) cs
  single-on on indexed m complete one s there o c cs is =
      let s' : EachSentFrom low sent (c ∷ cs) = subst (EachSentFrom low sent) is s in
      let b = both c.beginning_fragment (completes c cs) (ap is_complete (sym is) ∙ complete) in
      let t = ap (list_all (is_on m.stream)) (sym is) ∙ there in
      none-inside on indexed c cs s'.0.0 s'.0.1 s'.0.2 s'.0.3 s'.0.4 b.1 s'.1 (inner-of c cs (ap is_one_message (sym is) ∙ one))
      (on-each cs (both (is_on m.stream c) (list_all (is_on m.stream) cs) t).1)
    where
      on-each : (ds : List ChunkPayloadData) → list_all (is_on m.stream) ds ≡ true → Every (λ (d : ChunkPayloadData). on d.stream_identifier ≡ true) ds
      on-each [] e = tt
      on-each (d ∷ ds) e =
          let b = both (is_on m.stream d) (list_all (is_on m.stream) ds) e in
          (ap on (same-is d.stream_identifier m.stream b.0) ∙ o, on-each ds b.1)

  pub message-is : AreIndexed sent → (m : Message) → is_complete m.fragments ≡ true → is_one_message m.fragments ≡ true → EachSentFrom low sent m.fragments
      → list_all (is_on m.stream) m.fragments ≡ true → IsReadOf ws sent m
  message-is indexed m complete one s on = by m.fragments refl
    where
      by : (cs : List ChunkPayloadData) → m.fragments ≡ cs → IsReadOf ws sent m
      by [] is = absurd (not_both (sym (ap is_complete is) ∙ complete))
      by (c ∷ cs) is =
          (single-is m complete c cs is (subst (EachSentFrom low sent) is s)
          (single-on all_streams indexed m complete one s on refl c cs is) (ap (list_all (is_on m.stream)) (sym is) ∙ on)).0

-- the next TSN is a number of 32 bits
pub next-small : AfterEachFitSession (λ s. next_tsn s < 2 ^ 32)
next-small tsn size max most limits cs s small some r =
    let a = held-after tsn cs (at_start tsn size max most limits) s [] [] r (at-first tsn size max most limits small some) in
    omega arith

-- a DATA chunk that was made is a part of a write
pub parts : AfterEachFitSession AreParts
parts tsn size max most limits cs s small some r d c =
    let a = held-after tsn cs (at_start tsn size max most limits) s [] [] r (at-first tsn size max most limits small some) in
    let x = found-sent a.more s.made d a.holds.made c in
    let f = (part-line a.numbered tsn a.more (fragment d x.0 x.1 ∷ x.2) x.3 a.holds.held.stands.queued.line).0 in (
      forget x.0,
      subst (λ ws. Contains ws (forget x.0)) a.holds.writes (contains-forgotten a.numbered x.0 f.written),
      record { stream = f.stream; payload_type = f.payload; bytes = (f.part.0, x.1, f.part.1) },
    )

-- and the only one with its TSN
pub same : WhileTsnsLast AreSame
same tsn size max most limits cs s small some r few d e c k is =
    let a = held-after tsn cs (at_start tsn size max most limits) s [] [] r (at-first tsn size max most limits small some) in
    same-tsn a.numbered tsn a.more (omega (arith, few)) a.holds.held.stands.queued.line d e (found-sent a.more s.made d a.holds.made c)
    (found-sent a.more s.made e a.holds.made k) is

-- each message that was read is one of these writes, where they got these entries
abbrev pub read-from : (tsn : ℕ) (s : Session) → sessions.AreOn s → AreMessages s → AreMade s → (ns : List Numbered) (sent : List Entry) → length sent < 2 ^ 32
    → Holds tsn s ns sent → IsReadSession s
read-from tsn s on whole made ns sent few h = record {
  numbered = ns;
  sent = sent;
  writes = h.writes;
  once = h.held.stands.begun'.once;
  indexed = h.held.stands.queued.indexed;
  rising = h.held.stands.queued.ranked.rising;
  few = λ st. let k = h.held.stands.queued.ranked.few st in omega (arith, k);
  sent-made = h.made;
  placed = h.placed;
  each = λ k m lt.
      let it = slice_index_or s.receiving.read k m in
      message-is ns tsn sent 0 h.held.stands.queued.line h.held.stands.queued.indexed it
      (AllPass-from_list_all (λ x. is_complete x.fragments) s.receiving.read whole.0 k m lt)
      (AllPass-from_list_all (λ x. is_one_message x.fragments) s.receiving.read whole.1 k m lt)
      (each-from sent few it.fragments (each-sent sent s.made it.fragments h.made (made k m lt)))
      (AllPass-from_list_all (λ x. list_all (is_on x.stream) x.fragments) s.receiving.read on k m lt);
}

abbrev pub read-in : (tsn size max most : ℕ) (limits : Option Limits) (cs : List Call) (s : Session) → RunsTo (at_start tsn size max most limits) cs s
    → (ns : List Numbered) (sent : List Entry) → length sent < 2 ^ 32 → Holds tsn s ns sent → IsReadSession s
read-in tsn size max most limits cs s r ns sent few h =
    read-from tsn s (sessions.read-on tsn size max most limits cs s r) (sessions.messages tsn size max most limits cs s r)
    (sessions.made tsn size max most limits cs s r) ns sent few h

pub read-of : (tsn size max most : ℕ) (limits : Option Limits) (cs : List Call) (s : Session) → tsn < 2 ^ 32 → 0 < size
    → (r : RunsTo (at_start tsn size max most limits) cs s) → tsns_given (at_start tsn size max most limits) cs s r < 2 ^ 32 → IsReadSession s
read-of tsn size max most limits cs s small some r few =
    let a = held-after tsn cs (at_start tsn size max most limits) s [] [] r (at-first tsn size max most limits small some) in
    read-in tsn size max most limits cs s r a.numbered a.more (omega (arith, few)) a.holds

pub are-writes : (s : Session) → IsReadSession s → AreWrites s
are-writes s a k m lt =
    let x = a.each k m lt in
    (forget x.numbered, subst (λ ws. Contains ws (forget x.numbered)) a.writes (contains-forgotten a.numbered x.numbered x.written), x.write)

pub law : WhileTsnsLast AreWrites
law tsn size max most limits cs s small some r few = are-writes s (read-of tsn size max most limits cs s small some r few)

-- the messages are writes
abbrev pub AllWrites : List Write → List Message → Type 0
AllWrites ws ms = All (λ m. (w : Write) × Contains ws w × IsWrite m w) ms
