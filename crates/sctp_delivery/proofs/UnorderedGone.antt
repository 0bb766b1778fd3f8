-- Fragments of unordered messages that are held: none is of a message of which all fragments were taken, so one that a FORWARD-TSN takes out is of a
-- message that is gone. Of unordered chunks alone it is said how many were taken, read, and are held.
use Rattle.sctp_delivery.proofs.Names.{◌≡◌, ℕ, zero, suc, ◌+◌, ◌<◌, ◌≤◌, ◌^◌, Bool, true, false, List, [], ◌∷◌, length, Some, inl, inr, refl, ap, sym, subst}
use Rattle.sctp_delivery.proofs.Names.{◌∙◌, arith, ◌||◌, if◌then◌else◌, filter, list_all, list_any, sum_by, cases_lt, eq-eqb, Contains, sum_by-cons, nat_tests}
use Rattle.sctp_delivery.proofs.Names.{common_steps, at_or_before, or-split, same-is, both, fails, not_both, tsn, ChunkPayloadData, ChunkSet, Data, data_of}
use Rattle.sctp_delivery.proofs.Names.{data_chunk, is_complete, Reassembly, ReassemblyState, InboundStream, stream_of, fragments_read, held_weight, set_weight}
use Rattle.sctp_delivery.proofs.Names.{has_tsn, is_on, are_apart, was_taken, Session, Message, all_complete, take, drop, slice_index_or, Pushes}
use Rattle.sctp_delivery.proofs.Names.{BecomesComplete, insert_before, chunk_before, set_of_run, HasNoRun, rest_read}
use Rattle.sctp_receiver.proofs.CompleteMessages.{pushed-complete, rest-complete}
use Rattle.sctp_delivery.proofs.Cases.{at-test, by-test}
use Rattle.sctp_delivery.proofs.Every.{Every, every-of, every-joined, every-passing}
use Rattle.sctp_delivery.proofs.Even.{AreOrdered, IsEven, IsKeptByCalls, Sorted, lonely, lonely-kind, lonely-less, lonely-light, lonely-sets, sets-light}
use Rattle.sctp_delivery.proofs.FragmentPlaces.{Shows, at_place, shown}
use Rattle.sctp_delivery.proofs.InTheEnd.{all-every, any-of, none-data, some-of}
use Rattle.sctp_delivery.proofs.KeptSets.{IsUnorderedTidy, IsUnordered, IsWhole, OnlyFirst, pushed-rest, read-rest}
use Rattle.sctp_delivery.proofs.MessagePlaces.{EndsAt, IsEntryAt, cut-part, next-of, same-entry, within, entry-at, entry-of, place-tsn, IsSpan, shown-at}
use Rattle.sctp_delivery.proofs.MessagePlaces.{span-of}
use Rattle.sctp_delivery.proofs.OrderedEntries.{AreJoined}
use Rattle.sctp_delivery.proofs.PassedMessages.{AreCutGone, AreTakenOrGone, EndsMessage, is_gone}
use Rattle.sctp_delivery.proofs.PassingCalls.{IsGone, taken-or-gone}
use Rattle.sctp_delivery.proofs.ReadOnce as read_once
use Rattle.sctp_delivery.proofs.ReadOnce.{none-count, one}
use Rattle.sctp_delivery.proofs.Rising.{Ascend, Covers, IsOf, IsPlaced, run-of}
use Rattle.sctp_delivery.proofs.Sent.{Entry, IsLine, IsPart, Numbered, WasSent, fragment, part-length}
use Rattle.sctp_delivery.proofs.Sessions as sessions
use Rattle.sctp_delivery.proofs.TsnPlaces.{base, same-place, upto-is}
use Rattle.sctp_delivery.proofs.Unassembled.{left-rest, rest-more}
use Rattle.sctp_delivery.proofs.Whole.{AreWholeOn, read-whole, whole-of}

-- ## A queue

abbrev IsSingle : ChunkSet → Type 0
IsSingle s = OnlyFirst s.chunks

-- what is unassembled is in order, and what is complete is of one message each
pub record IsNeat (p n : ℕ) (q : Reassembly) : Type 0 where
  pub rest : IsUnorderedTidy p n q
  pub complete : all_complete q.unordered ≡ true
  pub single : Every IsSingle q.unordered

-- of the run of a message
none-begin : (count : ℕ) (xs : List ChunkPayloadData)
    → ((k : ℕ) (d : ChunkPayloadData) → k < count → (slice_index_or xs k d).beginning_fragment ≡ false)
    → Every (λ (c : ChunkPayloadData). c.beginning_fragment ≡ false) (take count xs)
none-begin zero xs h = tt
none-begin (suc n) [] h = tt
none-begin (suc n) (x ∷ xs) h = (h zero x (omega arith), none-begin n xs (λ k d lt. h (suc k) d (omega (arith, lt))))

run-first : (first count : ℕ) (xs : List ChunkPayloadData)
    → ((k : ℕ) (d : ChunkPayloadData) → first < k → k < first + count → (slice_index_or xs k d).beginning_fragment ≡ false)
    → OnlyFirst (take count (drop first xs))
run-first zero zero xs h = tt
run-first zero (suc n) [] h = tt
run-first zero (suc n) (x ∷ xs) h = none-begin n xs (λ k d lt. h (suc k) d (omega arith) (omega (arith, lt)))
run-first (suc f) zero xs h = tt
run-first (suc f) (suc n) [] h = tt
run-first (suc f) (suc n) (x ∷ xs) h = run-first f (suc n) xs (λ k d lt le. h (suc k) d (omega (arith, lt)) (omega (arith, le)))

set-first : (cs : List ChunkPayloadData) → OnlyFirst cs → IsSingle (set_of_run cs)
set-first [] e = tt
set-first (c ∷ cs) e = e

module _ (p n : ℕ) (few : n < 2 ^ 31) where
  pub pushed-neat : (x : ChunkPayloadData) (k : ℕ) → IsPlaced p n 0 k x → (answered : Bool) (old new : ReassemblyState) → Pushes x answered old new
      → (x.unordered ≡ true → list_any (has_tsn x.tsn) old.held.unassembled ≡ false) → IsNeat p n old.held → IsNeat p n new.held
  pushed-neat x k at answered old new h fresh e = record {
    rest = pushed-rest p n few x k at answered old new h fresh e.rest;
    complete = pushed-complete x answered old new h e.complete;
    single = grind (arith, nat_tests, common_steps, becomes);
  }
    where
      becomes : (b : Bool) → BecomesComplete (insert_before chunk_before x old.held.unassembled) old.held new.held b → Every IsSingle new.held.unordered
      becomes h0 h1 = grind (arith, nat_tests, common_steps, every-joined, set-first, run-first)

  rest-single : (q : Reassembly) → Every IsSingle q.unordered → Every IsSingle (rest_read q).unordered
  rest-single q h = grind (arith, nat_tests, common_steps)

  -- more TSNs are given out
  pub neat-more : (m : ℕ) (q : Reassembly) → n ≤ m → IsNeat p n q → IsNeat p m q
  neat-more m q le e = record { rest = rest-more p n few m q le e.rest; complete = e.complete; single = e.single }

  pub neat-kept : IsKeptByCalls (IsNeat p n)
  neat-kept = record {
    fresh = λ s max. record { rest = record { whole = tt; unassembled = tt; kinds = tt; none = λ g m run. omega arith }; complete = refl; single = tt };
    read = λ q h. record { rest = read-rest p n few q h.rest; complete = rest-complete q h.complete; single = rest-single q h.single };
    left = λ t q h. record { rest = left-rest p n few t q h.rest; complete = h.complete; single = h.single };
    alike = λ q r u a h. record {
      rest = record {
        whole = subst (Every IsWhole) (sym u) h.rest.whole;
        unassembled = subst (Ascend p n 0) (sym a) h.rest.unassembled;
        kinds = subst (Every IsUnordered) (sym a) h.rest.kinds;
        none = subst HasNoRun (sym a) h.rest.none;
      };
      complete = ap all_complete u ∙ h.complete;
      single = subst (Every IsSingle) (sym u) h.single;
    };
  }

-- ## A session

module _ (ws : List Numbered) (first : ℕ) (sent : List Entry) (line : IsLine ws first sent) (joined : AreJoined sent) (n : ℕ) (long : length sent ≡ n)
    (few : n < 2 ^ 31) (gone : List ℕ) (cut : AreCutGone gone sent) (s : Session)
    (was-made : (d : Data) → Contains s.made (data_chunk d) → WasSent sent d)
    (made : list_all (sessions.made_among s.made) s.receiving.accepted ≡ true) (apart : are_apart s.receiving.accepted ≡ true)
    (st : ℕ) (whole : AreWholeOn sent st s.receiving.read)
    (k : IsEven st (IsGone gone sent) (IsNeat (base first) n) s.receiving) where
  abbrev p : ℕ
  p = base first

  abbrev f : ℕ → Data
  f = at_place none-data sent

  show : Shows f sent
  show = shown none-data sent

  abbrev Was : ChunkPayloadData → Type 0
  Was c = WasSent sent (data_of c)

  was : (c : ChunkPayloadData) → sessions.made_among s.made c ≡ true → Was c
  was c e = was-made (data_of c) (sessions.found-made s.made (data_of c) e)

  abbrev R : ℕ → ℕ
  R t = sum_by (one t) (fragments_read st s.receiving.read)

  abbrev taken-on : ℕ → ℕ
  taken-on t = sum_by (one t) (filter (is_on st) s.receiving.accepted)

  one-each : (t : ℕ) → taken-on t ≤ 1
  one-each t = let x = read_once.fewer t (is_on st) s.receiving.accepted in let y = read_once.once t s.receiving.accepted apart in omega (arith, x, y)

  -- each chunk that was taken was made
  pub was-taken : Every Was s.receiving.accepted
  was-taken = all-every (sessions.made_among s.made) Was was s.receiving.accepted made

  -- a place whose TSN was taken is on the stream of its fragment
  pub taken-there : (j : ℕ) (e : Data) (w : Numbered) → IsEntryAt sent j e w → e.stream_identifier ≡ st → was_taken (tsn p j) s ≡ true → 0 < taken-on (tsn p j)
  taken-there j e w i on t = among s.receiving.accepted was-taken t
    where
      least : j ≤ n
      least = let m = (within ws first sent line joined j e w i).1 in omega (arith, m, long)

      here : (c : ChunkPayloadData) (xs : List ChunkPayloadData) → Was c → has_tsn (tsn p j) c ≡ true → 0 < sum_by (one (tsn p j)) (filter (is_on st) (c ∷ xs))
      here c xs w' h =
          let r = entry-at ws first sent line joined n long few c w' j least (same-is c.tsn (tsn p j) h) in
          let same = (same-entry ws first sent line joined j (data_of c) e r.0 w r.1 i).0 in
          let there : is_on st c ≡ true = eq-eqb c.stream_identifier st (ap (λ (x : Data). x.stream_identifier) same ∙ on) in
          let g = ap (λ b. sum_by (one (tsn p j)) (if b then c ∷ filter (is_on st) xs else filter (is_on st) xs)) there in
          let b : one (tsn p j) c ≡ 1 = ap (λ b. if b then 1 else 0) h in
          omega (arith, g, sum_by-cons (one (tsn p j)) c (filter (is_on st) xs), b)

      more : (c : ChunkPayloadData) (xs : List ChunkPayloadData) → 0 < sum_by (one (tsn p j)) (filter (is_on st) xs)
          → 0 < sum_by (one (tsn p j)) (filter (is_on st) (c ∷ xs))
      more c xs lt = grind (arith, nat_tests, common_steps)

      among : (xs : List ChunkPayloadData) → Every Was xs → list_any (has_tsn (tsn p j)) xs ≡ true → 0 < sum_by (one (tsn p j)) (filter (is_on st) xs)
      among [] e h = absurd (not_both h)
      among (c ∷ cs) e h = elim (or-split (has_tsn (tsn p j) c) (list_any (has_tsn (tsn p j)) cs) h) [
        | inl x ↦ here c cs e.0 x
        | inr x ↦ more c cs (among cs e.1 x)
      ]

  -- of a message that is not gone no fragment is lost
  pub none-lost : (j : ℕ) (e : Data) (w : Numbered) → IsEntryAt sent j e w → is_gone gone w.place ≡ false → sum_by (one (tsn p j)) k.lost ≡ 0
  none-lost j e w i alive = none-count (tsn p j) k.lost (none k.lost k.spent)
    where
      least : j ≤ n
      least = let m = (within ws first sent line joined j e w i).1 in omega (arith, m, long)

      off : (c : ChunkPayloadData) → IsGone gone sent c → has_tsn (tsn p j) c ≡ true → ⊥
      off c g h =
          let m = (within ws first sent line joined g.0 (data_of c) g.1 g.2).1 in
          let it : g.0 ≡ j = same-place p g.0 j (omega (arith, m, long, few)) (omega (arith, least, few))
          (sym (place-tsn ws first sent line joined n long few g.0 (data_of c) g.1 g.2) ∙ same-is c.tsn (tsn p j) h) in
          let x = same-entry ws first sent line joined j (data_of c) e g.1 w (subst (λ y. IsEntryAt sent y (data_of c) g.1) it g.2) i in
          not_both (sym alive ∙ ap (λ (u : Numbered). is_gone gone u.place) (sym x.1) ∙ g.3)

      none : (cs : List ChunkPayloadData) → Every (IsGone gone sent) cs → list_any (has_tsn (tsn p j)) cs ≡ false
      none [] g = refl
      none (c ∷ cs) g =
          ap (λ b. b || list_any (has_tsn (tsn p j)) cs) (fails (has_tsn (tsn p j) c) (off c g.0)) ∙ none cs g.1

  was-read : (ms : List Message) → AreWholeOn sent st ms → Every Was (fragments_read st ms)
  was-read [] e = tt
  was-read (m ∷ ms) e = grind (arith, nat_tests, common_steps, was-read ms e.1)

  -- of the TSN of an unordered fragment
  module _ (y : ℕ) (d : Data) (w : Numbered) (i : IsEntryAt sent y d w) (kind : d.unordered ≡ true) where
    abbrev t : ℕ
    t = tsn p y

    own : (c : ChunkPayloadData) → Was c → lonely (one t) c ≡ one t c
    own c was' = by-test (has_tsn t c)
        (λ h.
        let m = (within ws first sent line joined y d w i).1 in
        let r = entry-at ws first sent line joined n long few c was' y (omega (arith, m, long)) (same-is c.tsn t h) in
        let same = (same-entry ws first sent line joined y (data_of c) d r.0 w r.1 i).0 in
        ap (λ b. if b then one t c else 0) (ap (λ (x : Data). x.unordered) same ∙ kind))
        (λ h.
        let z : one t c ≡ 0 = ap (λ b. if b then 1 else 0) h in
        at-test (λ b. (if b then one t c else 0) ≡ one t c) c.unordered (λ _. refl) (λ _. sym z))

    owns : (cs : List ChunkPayloadData) → Every Was cs → sum_by (lonely (one t)) cs ≡ sum_by (one t) cs
    owns [] e = refl
    owns (c ∷ cs) e = omega (arith, own c e.0, owns cs e.1, sum_by-cons (lonely (one t)) c cs, sum_by-cons (one t) c cs)

    pub law : taken-on t ≡ R t + held_weight (lonely (one t)) (stream_of st s.receiving.receiver) + sum_by (one t) k.lost
    law = grind (arith, nat_tests, common_steps, lonely-light, owns, every-passing, was-taken, was-read, every-of)

  -- ## A stream

  module _ (l : InboundStream) (found : stream_of st s.receiving.receiver ≡ Some l) where
    abbrev q : Reassembly
    q = l.queue.held

    abbrev U : ℕ → ℕ
    U t = sum_by (set_weight (one t)) q.unordered

    abbrev A : ℕ → ℕ
    A t = sum_by (one t) q.unassembled

    held : AreOrdered q.ordered × IsNeat p n q
    held = subst (Sorted st (IsGone gone sent) (IsNeat p n)) found k.so.holds

    neat : IsNeat p n q
    neat = held.1

    -- all that is held unordered was made
    none-strange : (sum_by (sessions.fails (sessions.made_among s.made)) q.unassembled ≡ 0)
        × (sum_by (set_weight (sessions.fails (sessions.made_among s.made))) q.unordered ≡ 0)
    none-strange =
        let v = sessions.fails (sessions.made_among s.made) in
        let z = sessions.none-fails (sessions.made_among s.made) (is_on st) s.receiving.accepted made in
        let less = lonely-less v (filter (is_on st) s.receiving.accepted) in
        let law = k.so.weighs (lonely v) (lonely-light v) in
        let is = ap (held_weight (lonely v)) found in
        let x = lonely-kind v q.unassembled neat.rest.kinds in
        let y = lonely-sets v q.unordered neat.rest.whole in
        (omega (arith, z, less, law, is, x), omega (arith, z, less, law, is, y))

    pub was-unassembled : Every Was q.unassembled
    was-unassembled = all-every (sessions.made_among s.made) Was was q.unassembled (sessions.all-pass (sessions.made_among s.made) q.unassembled none-strange.0)

    was-sets : (ss : List ChunkSet) → sum_by (set_weight (sessions.fails (sessions.made_among s.made))) ss ≡ 0 → Every (λ x. Every Was x.chunks) ss
    was-sets [] e = tt
    was-sets (x ∷ xs) e =
        let v = sessions.fails (sessions.made_among s.made) in
        let m = sum_by-cons (set_weight v) x xs in (
          all-every (sessions.made_among s.made) Was was x.chunks (sessions.all-pass (sessions.made_among s.made) x.chunks (omega (arith, m, e))),
          was-sets xs (omega (arith, m, e)),
        )

    was-unordered : Every (λ x. Every Was x.chunks) q.unordered
    was-unordered = was-sets q.unordered none-strange.1

    equation : (y : ℕ) (d : Data) (w : Numbered) → IsEntryAt sent y d w → d.unordered ≡ true
        → taken-on (tsn p y) ≡ R (tsn p y) + (U (tsn p y) + A (tsn p y)) + sum_by (one (tsn p y)) k.lost
    equation y d w i kind =
        let v = one (tsn p y) in
        omega (
          arith,
          law y d w i kind,
          ap (held_weight (lonely v)) found,
          sets-light (lonely v) (lonely-light v) q.ordered held.0,
          lonely-sets v q.unordered neat.rest.whole,
          lonely-kind v q.unassembled neat.rest.kinds,
        )

    -- of a place, the chunk that has its TSN
    its-data : (c : ChunkPayloadData) (j : ℕ) → Was c → j ≤ n → has_tsn (tsn p j) c ≡ true → data_of c ≡ f j
    its-data c j w le h =
        let r = entry-at ws first sent line joined n long few c w j le (same-is c.tsn (tsn p j) h) in
        sym (shown-at ws first sent line joined f show j (data_of c) r.0 r.1)

    -- where one place of a message is in a complete set, the other is
    set-whole : (b j y : ℕ) → (f b).beginning_fragment ≡ true → b ≤ j → ((i : ℕ) → b < i → i ≤ j → (f i).beginning_fragment ≡ false) → j ≤ length sent
        → b ≤ y → ((i : ℕ) → b ≤ i → i < y → (f i).ending_fragment ≡ false) → 0 < U (tsn p j) → 0 < U (tsn p y)
    set-whole b j y begins upto inner le to open' = at q.unordered neat.complete neat.single was-unordered
      where
        at : (ss : List ChunkSet) → all_complete ss ≡ true → Every IsSingle ss
            → Every (λ x. Every Was x.chunks) ss → 0 < sum_by (set_weight (one (tsn p j))) ss → 0 < sum_by (set_weight (one (tsn p y))) ss
        at [] e o w lt = absurd (omega (arith, lt))
        at (x ∷ xs) e o w lt = by-test (list_any (has_tsn (tsn p j)) x.chunks)
            (λ h.
            let there = whole-of ws first sent (omega (arith, long, few)) line f show b j y begins upto inner le to open' x.chunks ec.0 o.0
            w.0 h in
            omega (arith, some-of (tsn p y) x.chunks there, sum_by-cons (set_weight (one (tsn p y))) x xs))
            (λ h.
            let z = none-count (tsn p j) x.chunks h in
            let m = sum_by-cons (set_weight (one (tsn p j))) x xs in
            omega (arith, sum_by-cons (set_weight (one (tsn p y))) x xs, (at xs ec.1 o.1 w.1) (omega (arith, z, m, lt))))
          where
            ec : (is_complete x.chunks ≡ true) × (all_complete xs ≡ true)
            ec = both (is_complete x.chunks) (all_complete xs) e

    -- ## Up to a place

    of-all : Every (IsOf p n few f) q.unassembled
    of-all = every-of Was (IsOf p n few f) (λ c w i pos le e. its-data c i w le (eq-eqb c.tsn (tsn p i) e)) q.unassembled was-unassembled

    -- a fragment of an unordered message of which all were taken, and none is lost, is not unassembled
    module _ (m : ℕ) (least : m ≤ length sent) (y : ℕ) (d : Data) (w : Numbered) (i : IsEntryAt sent y d w) (unordered : d.unordered ≡ true)
        (here : 0 < A (tsn p y)) (g : IsSpan f sent m w d y) (takes : (j : ℕ) → g.start ≤ j → j ≤ g.finish → was_taken (tsn p j) s ≡ true)
        (unlost : (j : ℕ) → g.start ≤ j → j ≤ g.finish → sum_by (one (tsn p j)) k.lost ≡ 0) where
      -- it is on the stream
      on : d.stream_identifier ≡ st
      on = among s.receiving.accepted was-taken (let e = equation y d w i unordered in omega (arith, e, here))
        where
          most : y ≤ n
          most = let a = g.from in let b = g.below in omega (arith, a, b, least, long)

          among : (xs : List ChunkPayloadData) → Every Was xs → 0 < sum_by (one (tsn p y)) (filter (is_on st) xs) → d.stream_identifier ≡ st
          among [] e lt = absurd (omega (arith, lt))
          among (c ∷ cs) e lt = by (is_on st c) refl (has_tsn (tsn p y) c) refl lt (among cs e.1)
            where
              by : (b : Bool) → is_on st c ≡ b → (h : Bool) → has_tsn (tsn p y) c ≡ h
                  → 0 < sum_by (one (tsn p y)) (if b then c ∷ filter (is_on st) cs else filter (is_on st) cs)
                  → (0 < sum_by (one (tsn p y)) (filter (is_on st) cs) → d.stream_identifier ≡ st) → d.stream_identifier ≡ st
              by false x h v lt' ih = ih lt'
              by true x true v lt' ih =
                  let r = entry-at ws first sent line joined n long few c e.0 y most (same-is c.tsn (tsn p y) v) in
                  let same = (same-entry ws first sent line joined y (data_of c) d r.0 w r.1 i).0 in
                  ap (λ (z : Data). z.stream_identifier) (sym same) ∙ same-is c.stream_identifier st x
              by true x false v lt' ih = grind (arith, nat_tests, common_steps, sum_by-cons (one (tsn p y)) c (filter (is_on st) cs))

      covers : Covers p g.start g.finish q.unassembled
      covers j from to =
          let one' = g.each j from to in
          let kind : (f j).unordered ≡ true = one'.1.0 ∙ unordered in
          let took = taken-there j (f j) w one'.0 (one'.1.1 ∙ on) (takes j from to) in
          let v = equation y d w i unordered in
          let z = one-each (tsn p y) in
          let start = g.upto in
          let within' : j ≤ length sent = omega (arith, to, g.below, least) in
          let inner : (l' : ℕ) → g.start < l' → l' ≤ j → (f l').beginning_fragment ≡ false = λ l' lt le. g.inner l' lt (omega (arith, le, to)) in
          let open' : (l' : ℕ) → g.start ≤ l' → l' < y → (f l').ending_fragment ≡ false = λ l' ge lt. g.open' l' ge (omega (arith, lt, g.from)) in
          any-of (tsn p j) q.unassembled (elim (cases_lt 0 (R (tsn p j))) [
            | inl read ↦
                let x = read-whole ws first sent (omega (arith, long, few)) line f show g.start j y g.begins from inner within' start open' st
                s.receiving.read whole read in
                absurd (omega (arith, x, v, z, here))
            | inr no-read ↦ elim (cases_lt 0 (U (tsn p j))) [
              | inl full ↦ let x = set-whole g.start j y g.begins from inner within' start open' full in absurd (omega (arith, x, v, z, here))
              | inr no-full ↦ omega (arith, equation j (f j) w one'.0 kind, took, unlost j from to, no-read, no-full)
            ]
          ])

      pub none-stays : ⊥
      none-stays =
          let below = g.below in
          let from = g.from in
          let upto' = g.upto in
          let run = run-of p n few f g.start g.finish g.some (omega (arith, from, upto')) (omega (arith, below, least, long)) g.begins g.ends g.inner 0
          q.unassembled neat.rest.unassembled covers of-all in
          neat.rest.none run.0 run.1 run.2

    module _ (passed : List Entry) (part : IsPart passed sent) (ends : EndsMessage passed) (came : AreTakenOrGone gone s passed) where
      abbrev m : ℕ
      m = length passed

      least : m ≤ length sent
      least = part-length sent passed part

      end : EndsAt sent m
      end = (passed, part, refl, ends)

      pub none-alive : (y : ℕ) (d : Data) (w : Numbered) → IsEntryAt sent y d w → y ≤ m → d.unordered ≡ true → is_gone gone w.place ≡ false
          → 0 < A (tsn p y) → ⊥
      none-alive y d w i upto unordered alive here =
          let g = span-of ws first sent line joined f show m least end (λ v z. is_gone gone v.place ≡ false) (λ v z h. h)
          (λ z e v o b lt h. next-of ws first sent line joined z e v o b (omega (arith, lt, least))
          (λ t. not_both (sym h ∙ (cut-part gone sent (fragment e v o.after ∷ o.entries) t cut).1))) y d w upto i alive in
          none-stays m least y d w i unordered here g (λ j from to.
          let below = g.below in
          elim (taken-or-gone ws first sent line joined n long few gone cut s passed part came j (f j) w (g.each j from to).0 (omega (arith, to, below))) [
            | inl x ↦ x
            | inr x ↦ absurd (not_both (sym alive ∙ x))
          ]) (λ j from to. none-lost j (f j) w (g.each j from to).0 alive)

      -- so it is of a message that is gone
      pub gone-unassembled : (c : ChunkPayloadData) → Was c → c.unordered ≡ true → 0 < A c.tsn → at_or_before c.tsn (tsn p m) ≡ true → IsGone gone sent c
      gone-unassembled c w' kind here before =
          let r = entry-of ws first sent line joined n long few c w' in
          let upto = upto-is p r.0 m r.4 refl (omega (arith, few)) (omega (arith, least, long, few)) before in
          by r.0 r.1 r.2 upto (subst (λ u. 0 < A u) r.4 here) (is_gone gone r.1.place) refl
        where
          by : (y : ℕ) (w : Numbered) → IsEntryAt sent y (data_of c) w → y ≤ m → 0 < A (tsn p y) → (b : Bool) → is_gone gone w.place ≡ b → IsGone gone sent c
          by y w i upto some true dead = (y, w, i, dead)
          by y w i upto some false alive = absurd (none-alive y (data_of c) w i upto kind alive some)
