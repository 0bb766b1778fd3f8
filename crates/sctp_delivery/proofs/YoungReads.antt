-- Sessions of a whole life: each message that is read was written, while what is handed over and what is held is less than 2^31 TSNs old.
use Rattle.sctp_delivery.proofs.Names.{common_steps, ◌≡◌, ℕ, ◌+◌, ◌-◌, ◌%◌, ◌<◌, ◌≤◌, ◌^◌, Bool, true, false, List, [], ◌∷◌, length, map, Option, Some, None}
use Rattle.sctp_delivery.proofs.Names.{refl, ap, sym, subst, ◌∙◌, arith, nat_tests, inl, inr, ◌&&◌, ◌||◌, if◌then◌else◌, nat_le, list_all, Contains}
use Rattle.sctp_delivery.proofs.Names.{slice_index_or, sum_by, sum_by-cons, AllPass-from_list_all, both, and, not_both, or-left, or-right, or-split}
use Rattle.sctp_delivery.proofs.Names.{ChunkPayloadData, ChunkSet, Data, data_of, is_on, is_complete, is_one_message, Limits, Message, fragments_on}
use Rattle.sctp_delivery.proofs.Names.{held_weight, message_on, stream_of, New, AreWrites, ReceiverCall, SenderCall, Made, data_chunk, forward_tsn, with_chunk}
use Rattle.sctp_delivery.proofs.Names.{⊤, Call, RunsTo, Session, SenderFollows, ReceiverFollows, at_start, of_receiver, of_sender, next_chunk}
use Rattle.sctp_util.specs.Serial.{comes_before, distance}
use Rattle.sctp_receiver.specs.ReceiverRuns.{with_message}
use Rattle.sctp_receiver.proofs.Weights.{message_weight}
use Rattle.sctp_delivery.specs.ReceiverCalls as incoming
use Rattle.sctp_delivery.specs.Recent.{Aged, AreYoung, HoldsRecent, IsYoung, WhileYoung, aged_after, new_chunks, older}
use Rattle.sctp_delivery.specs.SenderCalls as outgoing
use Rattle.sctp_delivery.proofs.Calls.{contains-forgotten, forget, numbered_after, sent_by}
use Rattle.sctp_delivery.proofs.Cases.{all_streams, at-test}
use Rattle.sctp_delivery.proofs.Delivered.{EachSentFrom, HoldsOn, Sends, at-first, beside-on, message-is, next_tsn, sender-step, sender-step-on}
use Rattle.sctp_delivery.proofs.Every.{Every, every-at, every-contained, every-joined, every-mapped, every-of}
use Rattle.sctp_delivery.proofs.HeldWeights.{read-held, weighs}
use Rattle.sctp_delivery.proofs.Kept.{held-weighs}
use Rattle.sctp_delivery.proofs.Queues.{IsOnceMore}
use Rattle.sctp_delivery.proofs.SameData.{is_same, same-data, same-itself}
use Rattle.sctp_delivery.proofs.Senders.{IsMoreBy}
use Rattle.sctp_delivery.proofs.Sent.{Entry, IsPart, Numbered, fragment, part-length, part-line, terminal}
use Rattle.sctp_delivery.proofs.Sessions as sessions
use Rattle.sctp_delivery.proofs.Sessions.{all-pass, fails}

-- ## Entries from a place on

-- the chunk got a TSN at a place from this one on
abbrev pub stands_from : ℕ → Data → List Entry → Bool
stands_from low d [] = false
stands_from low d (terminal ∷ xs) = stands_from low d xs
stands_from low d (fragment e w after ∷ xs) = (nat_le low (length xs) && is_same e d) || stands_from low d xs

abbrev pub StandsFrom : ℕ → Data → List Entry → Type 0
StandsFrom low d sent = (w : Numbered) × (after : List ℕ) × (xs : List Entry) × IsPart (fragment d w after ∷ xs) sent × (low ≤ length xs)

pub from-test : (low : ℕ) (d : Data) (sent : List Entry) → stands_from low d sent ≡ true → StandsFrom low d sent
from-test low d [] e = absurd (not_both e)
from-test low d (terminal ∷ xs) e = let x = from-test low d xs e in (x.0, x.1, x.2, inr x.3, x.4)
from-test low d (fragment c w after ∷ xs) e = elim (or-split (nat_le low (length xs) && is_same c d) (stands_from low d xs) e) [
  | inl h ↦
      let b = both (nat_le low (length xs)) (is_same c d) h in
      let le : low ≤ length xs = grind (arith, nat_tests) in
      let same = same-data c d b.1 in
      (w, after, xs, inl (ap (λ x. fragment x w after ∷ xs) (sym same)), le)
  | inr h ↦ let x = from-test low d xs h in (x.0, x.1, x.2, inr x.3, x.4)
]

pub to-test : (low : ℕ) (d : Data) (w : Numbered) (after : List ℕ) (xs sent : List Entry) → IsPart (fragment d w after ∷ xs) sent → low ≤ length xs
    → stands_from low d sent ≡ true
to-test low d w after xs [] p le = cc
to-test low d w after xs (y ∷ ys) (inl e) le = grind (arith, nat_tests, common_steps, or-left, and, same-itself)
to-test low d w after xs (terminal ∷ ys) (inr p) le = to-test low d w after xs ys p le
to-test low d w after xs (fragment c v rest ∷ ys) (inr p) le =
    or-right (nat_le low (length ys) && is_same c d) (stands_from low d ys) (to-test low d w after xs ys p le)

-- the first place that is less than 2^31 TSNs old, after so many
abbrev pub floor : ℕ → ℕ
floor n = n + 1 - 2 ^ 31

-- a chunk of the stream, at such a place
abbrev pub is_recent : List Entry → ℕ → ChunkPayloadData → Bool
is_recent sent st c = is_on st c && stands_from (floor (length sent)) (data_of c) sent

-- ## Tests of lists

pub none-fail : (p : ChunkPayloadData → Bool) (cs : List ChunkPayloadData) → list_all p cs ≡ true → sum_by (fails p) cs ≡ 0
none-fail p [] e = refl
none-fail p (c ∷ cs) e =
    let b = both (p c) (list_all p cs) e in
    let more = sum_by-cons (fails p) c cs in
    let here : fails p c ≡ 0 = ap (λ b. if b then 0 else 1) b.0 in
    omega (arith, more, here, none-fail p cs b.1)

pub both-pass : (p q r : ChunkPayloadData → Bool) → ((c : ChunkPayloadData) → p c ≡ true → q c ≡ true → r c ≡ true) → (cs : List ChunkPayloadData)
    → list_all p cs ≡ true → list_all q cs ≡ true → list_all r cs ≡ true
both-pass p q r h [] e f = refl
both-pass p q r h (c ∷ cs) e f =
    let a = both (p c) (list_all p cs) e in
    let b = both (q c) (list_all q cs) f in
    and (r c) (list_all r cs) (h c a.0 b.0) (both-pass p q r h cs a.1 b.1)

pub each-from : (low st : ℕ) (sent : List Entry) (cs : List ChunkPayloadData) → length sent < low + 2 ^ 32
    → list_all (λ c. is_on st c && stands_from low (data_of c) sent) cs ≡ true → EachSentFrom low sent cs
each-from low st sent [] few e = tt
each-from low st sent (c ∷ cs) few e =
    let b = both (is_on st c && stands_from low (data_of c) sent) (list_all (λ c. is_on st c && stands_from low (data_of c) sent) cs) e in
    let x = from-test low (data_of c) sent (both (is_on st c) (stands_from low (data_of c) sent) b.0).1 in
    let n = part-length sent (fragment (data_of c) x.0 x.1 ∷ x.2) x.3 in
    ((x.0, x.1, x.2, x.3, (x.4, omega (arith, n, few))), each-from low st sent cs few b.1)

-- ## A session

-- the DATA chunk got a TSN, and no more were given out since than its age says
abbrev pub IsPlacedAt : List Entry → ℕ → Made → Type 0
IsPlacedAt sent age (data_chunk d) =
    (w : Numbered) × (after : List ℕ) × (xs : List Entry) × IsPart (fragment d w after ∷ xs) sent × (length sent ≤ length xs + age)
IsPlacedAt sent age (forward_tsn f) = ⊤

abbrev pub IsPlaced : List Entry → Aged → Type 0
IsPlaced sent a = IsPlacedAt sent a.age a.chunk

abbrev pub IsReadFrom : List Entry → Message → Type 0
IsReadFrom sent m = (low : ℕ) × EachSentFrom low sent m.fragments

-- going: the streams on which numbers go on
pub record IsYoungOn (going : ℕ → Bool) (first : ℕ) (s : Session) (ns : List Numbered) (sent : List Entry) (ages : List Aged) : Type 0 where
  pub holds : HoldsOn going first s ns sent
  pub placed : Every (IsPlaced sent) ages
  pub held : (st : ℕ) → list_all (is_recent sent st) (fragments_on (stream_of st s.receiving.receiver)) ≡ true
  pub read : Every (IsReadFrom sent) s.receiving.read

abbrev pub IsYoungSession : ℕ → Session → List Numbered → List Entry → List Aged → Type 0
IsYoungSession first s ns sent ages = IsYoungOn all_streams first s ns sent ages

-- ## More TSNs are given out

pub more-part : (sent more ys : List Entry) → IsOnceMore sent more → IsPart ys sent → IsPart ys more
more-part sent more ys (inl e) p = subst (IsPart ys) (sym e) p
more-part sent more ys (inr x) p = subst (IsPart ys) (sym x.1) (inr p)

pub more-long : (sent more : List Entry) → IsOnceMore sent more → (length sent ≤ length more) × (length more ≤ length sent + 1)
more-long sent more (inl e) = let n = ap length e in (omega (arith, n), omega (arith, n))
more-long sent more (inr x) = let n = ap length x.1 in (omega (arith, n), omega (arith, n))

pub each-more : (sent more : List Entry) → IsOnceMore sent more → (low : ℕ) (cs : List ChunkPayloadData) → EachSentFrom low sent cs → EachSentFrom low more cs
each-more sent more once low cs e = grind (arith, nat_tests, common_steps, every-of, more-part)

read-more : (sent more : List Entry) → IsOnceMore sent more → (m : Message) → IsReadFrom sent m → IsReadFrom more m
read-more sent more once m r = (r.0, each-more sent more once r.0 m.fragments r.1)

placed-older : (given : ℕ) (sent more : List Entry) → IsOnceMore sent more → length more ≤ length sent + given → (a : Aged) → IsPlaced sent a
    → IsPlaced more (older given a)
placed-older given sent more once few a x = grind (arith, nat_tests, common_steps)

-- a TSN before the next one is of a place that is less than 2^31 TSNs old
pub recent-place : (first n k next t : ℕ) → k < n → n ≤ k + 2 ^ 31 → next ≡ (first + n) % 2 ^ 32 → t ≡ (first + k) % 2 ^ 32 → comes_before t next ≡ true
    → floor n ≤ k
unfolding comes_before distance
recent-place first n k next t lt most is at e = grind (arith, nat_tests, common_steps)

module _ (going : ℕ → Bool) (first : ℕ) (call : SenderCall) (old new : Session) (ns : List Numbered) (sent : List Entry) (ages : List Aged)
    (f : SenderFollows call old new) (i : IsYoungOn going first old ns sent ages) (recent : HoldsRecent new) where
  abbrev x : Sends going first call old new ns sent
  x = sender-step-on going first call old new ns sent f i.holds

  abbrev pub given : ℕ
  given = distance (next_tsn old) (next_tsn new)

  same : new.receiving ≡ old.receiving
  same = ap (λ (s : Session). s.receiving) f.after

  -- the chunk that gets a TSN
  new-placed : (c : SenderCall) → IsMoreBy (sent_by c old.sending.sender) sent x.more
      → Every (IsPlaced x.more) (map (λ m. record { chunk = m; age = 1 }) (new_chunks (of_sender c) old))
  new-placed (outgoing.sends now) g = by (next_chunk now old.sending.sender) g
    where
      by : (o : Option ChunkPayloadData) → IsMoreBy o sent x.more
          → Every (IsPlaced x.more) (map (λ m. record { chunk = m; age = 1 }) (with_chunk o []))
      by h0 h1 = grind (arith, nat_tests, common_steps)
  new-placed (outgoing.forwards t g) h = (tt, tt)
  new-placed (outgoing.forwards_within bytes g) h = (tt, tt)
  new-placed c g = tt

  all-placed : Every (IsPlaced x.more) (aged_after (of_sender call) old new ages)
  all-placed =
      every-joined (IsPlaced x.more) (map (λ m. record { chunk = m; age = 1 }) (new_chunks (of_sender call) old)) (map (older given) ages)
      (new-placed call x.grown)
      (every-mapped (IsPlaced sent) (IsPlaced x.more) (older given) (placed-older given sent x.more x.once x.few) ages i.placed)

  still-recent : (st : ℕ) (c : ChunkPayloadData) → is_recent sent st c ≡ true → comes_before c.tsn (next_tsn new) ≡ true → is_recent x.more st c ≡ true
  still-recent st c e before =
      let b = both (is_on st c) (stands_from (floor (length sent)) (data_of c) sent) e in
      let y = from-test (floor (length sent)) (data_of c) sent b.1 in
      let part = more-part sent x.more (fragment (data_of c) y.0 y.1 ∷ y.2) x.once y.3 in
      let number = (part-line (numbered_after call ns) first x.more (fragment (data_of c) y.0 y.1 ∷ y.2) part x.holds.held.stands.queued.line).0.number in
      let lt = part-length x.more (fragment (data_of c) y.0 y.1 ∷ y.2) part in
      let long = more-long sent x.more x.once in
      let upto = long.1 in
      let low = y.4 in
      let le = recent-place first (length x.more) (length y.2) (next_tsn new) c.tsn (omega (arith, lt)) (omega (arith, upto, low))
      x.holds.held.stands.counted number before in
      and (is_on st c) (stands_from (floor (length x.more)) (data_of c) x.more) b.0
      (to-test (floor (length x.more)) (data_of c) y.0 y.1 y.2 x.more part le)

  pub sender-young : IsYoungOn going first new (numbered_after call ns) x.more (aged_after (of_sender call) old new ages)
  sender-young = record {
    holds = x.holds;
    placed = all-placed;
    held = grind (arith, nat_tests, common_steps, same, both-pass, still-recent);
    read = subst (λ r. Every (IsReadFrom x.more) r.read) (sym same)
        (every-of (IsReadFrom sent) (IsReadFrom x.more) (read-more sent x.more x.once) old.receiving.read i.read);
  }

-- ## A call of the receiver

module _ (going : ℕ → Bool) (first : ℕ) (call : ReceiverCall) (old new : Session) (ns : List Numbered) (sent : List Entry) (ages : List Aged)
    (f : ReceiverFollows call old new) (i : IsYoungOn going first old ns sent ages) (young : IsYoung (of_receiver call) ages) where
  p : ℕ → ChunkPayloadData → Bool
  p st c = is_recent sent st c

  pub weight-none : (st : ℕ) → held_weight (fails (is_recent sent st)) (stream_of st old.receiving.receiver) ≡ 0
  weight-none st =
      let o = stream_of st old.receiving.receiver in
      sym (held-weighs (fails (is_recent sent st)) o) ∙ none-fail (is_recent sent st) (fragments_on o) (i.held st)

  -- what is handed over is recent
  pub handed-recent : (st : ℕ) (c : ChunkPayloadData) (said : Bool) → IsYoung (of_receiver (incoming.takes c (New said))) ages → is_on st c ≡ true
      → is_recent sent st c ≡ true
  handed-recent st c said y on = grind (arith, nat_tests, common_steps, every-contained, and, to-test)

  held-after : (c : ReceiverCall) → ReceiverFollows c old new → IsYoung (of_receiver c) ages → (st : ℕ)
      → held_weight (fails (is_recent sent st)) (stream_of st new.receiving.receiver) ≡ 0
  held-after (incoming.takes c (New said)) g y st =
      let h = weighs (fails (is_recent sent st)) st (incoming.takes c (New said)) old new g in
      let z = weight-none st in
      let none : ◌≡◌ {A = ℕ} (if is_on st c then fails (is_recent sent st) c else 0) 0 = at-test (λ b. (if b then fails (is_recent sent st) c else 0) ≡ 0)
      (is_on st c)
      (λ on. ap (λ b. if b then 0 else 1) (handed-recent st c said y on))
      (λ off. refl) in
      omega (arith, h, z, none)
  held-after c g y st =
      let h = weighs (fails (is_recent sent st)) st c old new g in
      let z = weight-none st in
      omega (arith, h, z)

  read-after : (c : ReceiverCall) → ReceiverFollows c old new → Every (IsReadFrom sent) new.receiving.read
  read-after (incoming.reads stream) g = subst (Every (IsReadFrom sent)) (sym g.step.read) (by (message_on stream old.receiving.receiver) refl)
    where
      by : (o : Option ChunkSet) → message_on stream old.receiving.receiver ≡ o → Every (IsReadFrom sent) (with_message stream o old.receiving.read)
      by None e = i.read
      by (Some set) e =
          let h = read-held (fails (is_recent sent stream)) stream old.receiving.receiver in
          let z = weight-none stream in
          let m = ap (λ o. message_weight (fails (is_recent sent stream)) o) e in
          let none : sum_by (fails (is_recent sent stream)) set.chunks ≡ 0 = omega (arith, h, z, m) in (
            (floor (length sent), each-from (floor (length sent)) stream sent set.chunks (omega arith) (all-pass (is_recent sent stream) set.chunks none)),
            i.read,
          )
  read-after c g = subst (Every (IsReadFrom sent)) (sym g.step.read) i.read

  pub receiver-young : IsYoungOn going first new ns sent (aged_after (of_receiver call) old new ages)
  receiver-young = record {
    holds = beside-on going first old new ns sent (ap (λ (s : Session). s.sending) f.after) (ap (λ (s : Session). s.made) f.after)
        (ap (λ (s : Session). s.written) f.after) i.holds;
    placed = every-mapped (IsPlaced sent) (IsPlaced sent) (older (distance (next_tsn old) (next_tsn new)))
        (placed-older (distance (next_tsn old) (next_tsn new)) sent sent (inl refl) (omega arith)) ages i.placed;
    held = λ st.
        let o = stream_of st new.receiving.receiver in
        all-pass (is_recent sent st) (fragments_on o) (held-weighs (fails (is_recent sent st)) o ∙ held-after call f young st);
    read = read-after call f;
  }

-- ## Each session

record After (first : ℕ) (s : Session) : Type 0 where
  numbered : List Numbered
  sent : List Entry
  ages : List Aged
  young : IsYoungSession first s numbered sent ages

young-then : (first : ℕ) (cs : List Call) (old new : Session) (ns : List Numbered) (sent : List Entry) (ages : List Aged) (r : RunsTo old cs new)
    → AreYoung ages old cs new r → IsYoungSession first old ns sent ages → After first new
young-then first [] old new ns sent ages r q i =
    record { numbered = ns; sent = sent; ages = ages; young = subst (λ s. IsYoungSession first s ns sent ages) (sym r) i }
young-then first (of_sender call ∷ cs) old new ns sent ages r q i =
    let x = sender-step first call old r.0 ns sent r.1.0 i.holds in
    young-then first cs r.0 new (numbered_after call ns) x.more (aged_after (of_sender call) old r.0 ages) r.1.1 q.2
    (sender-young all_streams first call old r.0 ns sent ages r.1.0 i q.1)
young-then first (of_receiver call ∷ cs) old new ns sent ages r q i =
    young-then first cs r.0 new ns sent (aged_after (of_receiver call) old r.0 ages) r.1.1 q.2
    (receiver-young all_streams first call old r.0 ns sent ages r.1.0 i q.0)

pub young-first : (tsn size max most : ℕ) (limits : Option Limits) → tsn < 2 ^ 32 → 0 < size → IsYoungSession tsn (at_start tsn size max most limits) [] [] []
young-first tsn size max most limits small some =
    record { holds = at-first tsn size max most limits small some; placed = tt; held = λ st. refl; read = tt }

-- each message that was read is a write
pub law : WhileYoung AreWrites
law tsn size max most limits cs s small some r q k m lt =
    let start = at_start tsn size max most limits in
    let a = young-then tsn cs start s [] [] [] r q (young-first tsn size max most limits small some) in
    let h = a.young.holds in
    let it = slice_index_or s.receiving.read k m in
    let from = every-at (IsReadFrom a.sent) s.receiving.read k m lt a.young.read in
    let whole = sessions.messages tsn size max most limits cs s r in
    let x = message-is a.numbered tsn a.sent from.0 h.held.stands.queued.line h.held.stands.queued.indexed it
    (AllPass-from_list_all (λ x. is_complete x.fragments) s.receiving.read whole.0 k m lt)
    (AllPass-from_list_all (λ x. is_one_message x.fragments) s.receiving.read whole.1 k m lt) from.1
    (AllPass-from_list_all (λ x. list_all (is_on x.stream) x.fragments) s.receiving.read (sessions.read-on tsn size max most limits cs s r) k m lt) in
    (forget x.numbered, subst (λ ws. Contains ws (forget x.numbered)) h.writes (contains-forgotten a.numbered x.numbered x.written), x.write)
