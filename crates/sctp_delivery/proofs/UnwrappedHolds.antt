-- In each session the indexes of the ordered messages that are read on a stream rise: what is due on the stream, and what came.
use Rattle.sctp_delivery.proofs.Names.{◌≡◌, ℕ, ◌+◌, ◌%◌, ◌^◌, ◌<◌, ◌≤◌, Bool, true, false, List, [], ◌∷◌, Option, Some, None, inl, inr, refl, ap, sym, ◌∙◌}
use Rattle.sctp_delivery.proofs.Names.{arith, not, length, ⊤, ◌⊎◌, ◌==◌, if◌then◌else◌, nat_lt, nat_le, list_any, filter, cases_lt, eq-eqb, nat_tests, Seen}
use Rattle.sctp_delivery.proofs.Names.{advance_over, insert_before, at_or_before, at_or_before16, or-left, or-right, or-split, same-is, not_both, both, fails}
use Rattle.sctp_delivery.proofs.Names.{tsn, ChunkPayloadData, chunk_before, has_tsn, InboundStream, Reception, stream_of, Stand, is_ordered_on, common_steps}
use Rattle.sctp_delivery.proofs.Names.{at_or_before16-index, comes_before16-index, next16, ChunkSet, is_complete, sets_with, Reassembly, after_read}
use Rattle.sctp_delivery.proofs.Names.{front_readable, held_after_ordered_push, held_after_ordered_skip, is_passed, cannot_complete, held_after_incomplete_skip}
use Rattle.sctp_delivery.proofs.Names.{is_name_too_far}
use Rattle.sctp_delivery.proofs.Cases.{at-if, at-test}
use Rattle.sctp_delivery.proofs.Every.{Every, one-of, every-inserted, every-of, every-passing}
use Rattle.sctp_delivery.proofs.TakenTsns.{come, any-inserted}
use Rattle.sctp_delivery.proofs.TsnPlaces.{before, next-place, same-place, upto-yes, upto-is}
use Rattle.sctp_delivery.proofs.UnwrappedReads.{IsDue, recame}
use Rattle.sctp_delivery.proofs.Sessions.{neither, unnot}
use Rattle.sctp_reassembly.specs.reassembly_queue.Fragments.{with_chunk}
use Rattle.sctp_delivery.proofs.KeptSets.{front-read, every-first}
use Rattle.sctp_delivery.proofs.UnwrappedReads as reads

abbrev pub Where : Bool → Type 0 → Type 0 → Type 0
Where true P Q = P
Where false P Q = Q

-- st: a stream. Of n TSNs from the base p on, B k says how many ordered messages of the stream the first k begin
-- E k: the chunk at place k is an ordered one of the stream; M c: the chunk was made
module _ (p st n : ℕ) (B : ℕ → ℕ) (E : ℕ → Bool) (M : ChunkPayloadData → Type 0) where
  -- an ordered chunk of the stream, of the message with this index
  pub record IsOf (i : ℕ) (c : ChunkPayloadData) : Type 0 where
    pub before : ℕ
    pub within : before + 1 ≤ n
    pub is : c.tsn ≡ tsn p (before + 1)
    pub begun : B (before + 1) ≡ i + 1
    pub made : M c
    pub on : is_ordered_on st c ≡ true
    pub inner : c.beginning_fragment ≡ false → B before ≡ i + 1

  -- a chunk that was made
  pub record IsStepOf (c : ChunkPayloadData) : Type 0 where
    pub before : ℕ
    pub within : before + 1 ≤ n
    pub is : c.tsn ≡ tsn p (before + 1)
    pub made : M c
    pub on : E (before + 1) ≡ is_ordered_on st c
    pub other : is_ordered_on st c ≡ false → B (before + 1) ≡ B before
    pub own : is_ordered_on st c ≡ true → (i : ℕ) × (B (before + 1) ≡ i + 1) × (c.stream_sequence_number ≡ i % 2 ^ 16)
    pub inner : is_ordered_on st c ≡ true → c.beginning_fragment ≡ false → B before ≡ B (before + 1)

  pub record IsBeyond (reach t : ℕ) : Type 0 where
    pub before : ℕ
    pub within : before + 1 ≤ n
    pub is : t ≡ tsn p (before + 1)
    pub so : (B (before + 1) ≤ B before) ⊎ (B (before + 1) ≤ reach)

  -- up to the cumulative TSN no message past the reach was begun, and none begins with a TSN beyond; the place is this one or a later one
  pub record Covers (reach least cumulative : ℕ) (beyond : List ℕ) : Type 0 where
    pub place : ℕ
    pub least_is : least ≤ place
    pub within : place ≤ n
    pub is : cumulative ≡ tsn p place
    pub covered : B place ≤ reach
    pub each : Every (IsBeyond reach) beyond

  -- chunks of one message, whose places rise
  abbrev pub Rises : ℕ → ℕ → List ChunkPayloadData → Type 0
  Rises i low [] = ⊤
  Rises i low (c ∷ cs) = (o : IsOf i c) × (low ≤ o.before) × Rises i (o.before + 1) cs

  abbrev pub Fits : ℕ → List ChunkPayloadData → Type 0
  Fits i cs = Rises i 0 cs

  -- an ordered chunk of the stream has the place, and came
  abbrev pub Came : ℕ → List ℕ → ℕ → Type 0
  Came cumulative beyond y = (E y ≡ true) × (come (tsn p y) cumulative beyond ≡ true)

  abbrev pub DueOn : (ℕ → Type 0) → ℕ → ℕ → Option InboundStream → Type 0
  DueOn C k reach None = (k ≡ 0) × (reach ≡ 0) × ((y : ℕ) → y ≤ n → C y → ⊥)
  DueOn C k reach (Some l) = IsDue p n B Fits C k reach l.queue.held

  abbrev pub DueIn : ℕ → ℕ → Reception → Type 0
  DueIn k reach r = DueOn (Came r.cumulative_tsn r.beyond) k reach (stream_of st r)

  pub record AreDue (a : ℕ) (s : Stand) : Type 0 where
    pub k : ℕ
    pub reach : ℕ
    pub due : DueIn k reach s.receiver
    pub most : reach ≤ B n
    pub arrived : Covers reach a s.receiver.cumulative_tsn s.receiver.beyond

  module _ (few : n < 2 ^ 31) where
    -- no TSN that was not given out came
    pub none-past : (reach least c : ℕ) (ts : List ℕ) → Covers reach least c ts → (y : ℕ) → n < y → y ≤ 2 ^ 31 → come (tsn p y) c ts ≡ true → ⊥
    none-past reach least c ts h y lt most e = grind (arith, nat_tests, common_steps, or-split, upto-is, one-of, same-place, same-is)

  module _ (few : n < 2 ^ 31) (up : (j k : ℕ) → j ≤ k → B j ≤ B k) where
    -- ## What came

    pub beyond-more : (reach more t : ℕ) → reach ≤ more → IsBeyond reach t → IsBeyond more t
    beyond-more reach more t le b = grind (arith, nat_tests, common_steps)

    -- where the first TSN beyond is the next one, all is covered up to it
    onward : (reach least c t : ℕ) (ts : List ℕ) (h : Covers reach least c (t ∷ ts)) → (t == (c + 1) % 2 ^ 32) ≡ true
        → (j : Covers reach least t ts) × (j.place ≡ h.place + 1)
    onward reach least c t ts h e =
        let x = h.each.0 in
        let next : t ≡ tsn p (h.place + 1) = same-is t ((c + 1) % 2 ^ 32) e ∙ ap (λ u. (u + 1) % 2 ^ 32) h.is ∙ next-place p h.place in
        let one : x.before + 1 ≡ h.place + 1 = omega (arith, few, x.is, next) in
        let same : x.before ≡ h.place = omega (arith, one) in
        let b = ap B one in
        let c' = h.covered in (
          record {
            place = h.place + 1;
            least_is = omega arith;
            within = omega (arith, one);
            is = next;
            covered = elim x.so [ inl y ↦ omega (arith, y, ap B same, b, c') | inr y ↦ omega (arith, y, b) ];
            each = h.each.1;
          },
          refl,
        )

    pub advanced : (reach least c : ℕ) (ts : List ℕ) → Covers reach least c ts → Covers reach least (advance_over c ts).cum (advance_over c ts).held
    advanced reach least c [] h = h
    advanced reach least c (t ∷ ts) h = at-test (λ b. (let s : Seen = if b then advance_over t ts else
        (let r : Seen = record { cum = c; held = t ∷ ts } in r) in Covers reach least s.cum s.held)) (t == (c + 1) % 2 ^ 32)
        (λ e. advanced reach least t ts (onward reach least c t ts h e).0)
        (λ e. h)

    -- what came by a later cumulative TSN came before
    upto-back : (place y : ℕ) (t c : ℕ) → y ≤ n → place + 1 ≤ n → c ≡ tsn p place → t ≡ tsn p (place + 1) → at_or_before (tsn p y) t ≡ true
        → (at_or_before (tsn p y) c ≡ true) ⊎ ((t == tsn p y) ≡ true)
    upto-back place y t c le within is next e = grind (arith, nat_tests, common_steps, upto-is, cases_lt, eq-eqb, upto-yes)

    pub advance-back : (reach least c : ℕ) (ts : List ℕ) → Covers reach least c ts → (y : ℕ) → y ≤ n
        → come (tsn p y) (advance_over c ts).cum (advance_over c ts).held ≡ true → come (tsn p y) c ts ≡ true
    advance-back reach least c [] h y le e = e
    advance-back reach least c (t ∷ ts) h y le e = by (t == (c + 1) % 2 ^ 32) refl (λ g f. advance-back reach least t ts g y le f) e
      where
        by : (b : Bool) → (t == (c + 1) % 2 ^ 32) ≡ b
            → (Covers reach least t ts → come (tsn p y) (advance_over t ts).cum (advance_over t ts).held ≡ true → come (tsn p y) t ts ≡ true)
            → (let s : Seen = if b then advance_over t ts else (let r : Seen = record { cum = c; held = t ∷ ts } in r) in
            come (tsn p y) s.cum s.held ≡ true) → come (tsn p y) c (t ∷ ts) ≡ true
        by h0 h1 h2 h3 = grind (arith, nat_tests, common_steps, onward, or-split, upto-back, or-left, or-right)

    -- ## A set

    pub rises-put : (i low : ℕ) (x : ChunkPayloadData) (cs : List ChunkPayloadData) (o : IsOf i x) → low ≤ o.before → list_any (has_tsn x.tsn) cs ≡ false
        → Rises i low cs → Rises i low (insert_before chunk_before x cs)
    rises-put i low x [] o le none r = (o, le, tt)
    rises-put i low x (c ∷ cs) o le none r = at-if (Rises i low) (chunk_before x c)
        (λ e.
        let lt : o.before + 1 < r.0.before + 1 = grind (arith, nat_tests, sym order ∙ e) in
        (o, le, (r.0, omega (arith, lt), r.2)))
        (λ e.
        let ge : r.0.before + 1 ≤ o.before + 1 = grind (arith, nat_tests, sym order ∙ e) in (
          r.0,
          r.1,
          rises-put i (r.0.before + 1) x cs o (elim (cases_lt r.0.before o.before)
              [ inl l ↦ omega (arith, l) | inr l ↦ absurd (differ (omega (arith, ge, l))) ])
              (neither (c.tsn == x.tsn) (list_any (has_tsn x.tsn) cs) none).1 r.2,
        ))
      where
        order : chunk_before x c ≡ nat_lt (o.before + 1) (r.0.before + 1)
        order = cc (o.is, r.0.is, before p (o.before + 1) (r.0.before + 1) (omega (arith, few)) (omega (arith, few)))

        differ : o.before ≡ r.0.before → ⊥
        differ same = grind (arith, nat_tests, common_steps)

    rises-at : (i low y : ℕ) (cs : List ChunkPayloadData) → y ≤ n → Rises i low cs → list_any (has_tsn (tsn p y)) cs ≡ true → B y ≡ i + 1
    rises-at i low y [] le r e = absurd (not_both e)
    rises-at i low y (c ∷ cs) le r e = elim (or-split (c.tsn == tsn p y) (list_any (has_tsn (tsn p y)) cs) e) [
      | inl h ↦ grind (arith, nat_tests, common_steps)
      | inr h ↦ rises-at i (r.0.before + 1) y cs le r.2 h
    ]

    pub at-in : (i y : ℕ) (cs : List ChunkPayloadData) → y ≤ n → Fits i cs → list_any (has_tsn (tsn p y)) cs ≡ true → B y ≡ i + 1
    at-in i y cs le r e = rises-at i 0 y cs le r e

    -- ## What is due

    pub on-of : (C D : ℕ → Type 0) → ((y : ℕ) → y ≤ n → D y → C y) → (k reach : ℕ) (o : Option InboundStream) → DueOn C k reach o → DueOn D k reach o
    on-of C D less k reach None d = (d.0, d.1, λ y le h. d.2 y le (less y le h))
    on-of C D less k reach (Some l) d = recame p n B Fits C D k reach l.queue.held d (λ y le h. inl (less y le h))

-- # What a stream holds of ordered messages, where messages may be cut short: each message before the next index came whole, or was cut short
-- and passed; and each set of such a message is complete. So no fragment that comes for the first time lies before the next index.

abbrev pub IsSome : ChunkSet → Type 0
IsSome s = 0 < length s.chunks

-- B y: so many ordered messages of the stream are begun up to place y of n behind the base p
module _ (p n : ℕ) (B : ℕ → ℕ) where
  -- where its message lies before the index, the set is complete
  abbrev pub IsWholeAt : ℕ → ChunkSet → Type 0
  IsWholeAt index s = (y : ℕ) → y ≤ n → list_any (has_tsn (tsn p y)) s.chunks ≡ true → B y ≤ index → is_complete s.chunks ≡ true

  -- with the next index, from the base index on and up to the top. L y: an ordered fragment of the stream at place y is still to come
  pub record IsCurrent (low top : ℕ) (L : ℕ → Type 0) (q : Reassembly) : Type 0 where
    pub index : ℕ
    pub next : q.next_ssn ≡ index % 2 ^ 16
    pub from : low ≤ index + 2 ^ 15
    pub upto : index ≤ top
    pub late : (y : ℕ) → y ≤ n + 1 → L y → index < B y
    pub whole : Every (IsWholeAt index) q.ordered
    pub some : Every IsSome q.ordered

  -- with fewer to come
  abbrev pub current-less : (low top : ℕ) (L M : ℕ → Type 0) (q : Reassembly) → ((y : ℕ) → y ≤ n + 1 → M y → L y) → IsCurrent low top L q
      → IsCurrent low top M q
  current-less low top L M q less c = record {
    index = c.index;
    next = c.next;
    from = c.from;
    upto = c.upto;
    late = λ y le m. c.late y le (less y le m);
    whole = c.whole;
    some = c.some;
  }

  -- with the same ordered messages
  pub current-same : (low top : ℕ) (L : ℕ → Type 0) (q r : Reassembly) → r.next_ssn ≡ q.next_ssn → r.ordered ≡ q.ordered → IsCurrent low top L q
      → IsCurrent low top L r
  current-same low top L q r e f c = grind (arith, nat_tests, common_steps)

-- a fragment of the index or a later one is put in
pub put-in : (x : ChunkPayloadData) (index i : ℕ) (q : Reassembly) → q.next_ssn ≡ index % 2 ^ 16 → x.stream_sequence_number ≡ i % 2 ^ 16 → index ≤ i
    → i < index + 2 ^ 15 → held_after_ordered_push x q ≡ record q { ordered = sets_with x q.ordered }
put-in x index i q next is le near = grind (arith, nat_tests, common_steps, comes_before16-index)

filter-none : (r : ChunkSet → Bool) (ss : List ChunkSet) → Every (λ s. r s ≡ false) ss → (filter r ss ≡ []) × (filter (λ s. not (r s)) ss ≡ ss)
filter-none r [] e = (refl, refl)
filter-none r (s ∷ ss) e = grind (arith, nat_tests, common_steps, filter-none r ss e.1)

pub same-uncut : (t : ℕ) (q : Reassembly) → Every (λ s. cannot_complete t s ≡ false) q.ordered → held_after_incomplete_skip t q ≡ q
same-uncut t q e = grind (arith, nat_tests, filter-none (cannot_complete t) q.ordered e)

-- the places, the indexes and the chunks are those of UnwrappedReads
module _ (p n : ℕ) (B : ℕ → ℕ) (Fits : ℕ → List ChunkPayloadData → Type 0) (Came : ℕ → Type 0)
    (at-in : (i y : ℕ) (cs : List ChunkPayloadData) → y ≤ n → Fits i cs → list_any (has_tsn (tsn p y)) cs ≡ true → B y ≡ i + 1)
    (place-in : (i : ℕ) (cs : List ChunkPayloadData) → Fits i cs → 0 < length cs
    → (y : ℕ) × (y ≤ n) × (list_any (has_tsn (tsn p y)) cs ≡ true)) where
  abbrev has_place : ℕ → ChunkSet → Bool
  has_place y s = list_any (has_tsn (tsn p y)) s.chunks

  abbrev AreSets : ℕ → ℕ → List ChunkSet → Type 0
  AreSets = reads.AreSets p n B Fits Came

  abbrev IsWhole : ℕ → ChunkSet → Type 0
  IsWhole = IsWholeAt p n B

  abbrev IsNow : ℕ → ℕ → (ℕ → Type 0) → Reassembly → Type 0
  IsNow = IsCurrent p n B

  pub whole-below : (index k : ℕ) (s : ChunkSet) → Fits k s.chunks → IsSome s → IsWhole index s → k < index → is_complete s.chunks ≡ true
  whole-below index k s h some w lt = grind (arith, nat_tests, common_steps, place-in k s.chunks h some)

  -- ## A fragment comes

  module _ (x : ChunkPayloadData) where
    abbrev IsPut : ℕ → ChunkSet → Type 0
    IsPut index s = (list_any (has_tsn x.tsn) s.chunks ≡ true) ⊎ IsWhole index s

    has-put : (s : ChunkSet) → list_any (has_tsn x.tsn) (with_chunk x s).chunks ≡ true
    has-put s = grind (arith, nat_tests, common_steps, any-inserted, or-left, eq-eqb)

    some-inserted : (cs : List ChunkPayloadData) → 0 < length (insert_before chunk_before x cs)
    some-inserted [] = omega arith
    some-inserted (c ∷ cs) = at-if (λ z. 0 < length z) (chunk_before x c) (λ e. omega arith) (λ e. omega arith)

    some-put : (s : ChunkSet) → IsSome s → IsSome (with_chunk x s)
    some-put s h = at-if (λ z. 0 < length z) (list_any (has_tsn x.tsn) s.chunks) (λ e. h) (λ e. some-inserted s.chunks)

    pub some-with : (ss : List ChunkSet) → Every IsSome ss → Every IsSome (sets_with x ss)
    some-with ss h = grind (arith, nat_tests, common_steps, every-first, every-of, some-put, every-inserted)

    put-with : (index : ℕ) (ss : List ChunkSet) → Every (IsWhole index) ss → Every (IsPut index) (sets_with x ss)
    put-with index ss h = grind (arith, nat_tests, common_steps, every-first, every-of, has-put, every-inserted, or-left, eq-eqb)

    -- the sets with a chunk of the index or a later one are as complete as before
    whole-with : (index y low top : ℕ) (ss : List ChunkSet) → y ≤ n → x.tsn ≡ tsn p y → index < B y → AreSets low top ss → Every (IsPut index) ss
        → Every (IsWhole index) ss
    whole-with index y low top [] le is lt r e = tt
    whole-with index y low top (s ∷ ss) le is lt r e = grind (arith, nat_tests, common_steps, whole-with index y (r.0 + 1) top ss le is lt r.2 e.1)

    pub current-put : (low top : ℕ) (L : ℕ → Type 0) (q : Reassembly) (c : IsNow low top L q) (y l t : ℕ) → y ≤ n → x.tsn ≡ tsn p y
        → c.index < B y → AreSets l t (sets_with x q.ordered) → IsNow low top L (record q { ordered = sets_with x q.ordered })
    current-put low top L q c y l t le is lt r = search (whole-with, put-with, some-with)

  -- ## A message is read

  -- the sets of later messages
  whole-later : (index low top : ℕ) (ss : List ChunkSet) → index ≤ low → AreSets low top ss → Every (IsWhole index) ss
  whole-later index low top [] le r = tt
  whole-later index low top (s ∷ ss) le r =
      let from = r.1.0.0 in (
        λ z most there under. let b = at-in r.0 z s.chunks most r.1.1 there in absurd (omega (arith, b, from, le, under)),
        whole-later index (r.0 + 1) top ss (omega (arith, from, le)) r.2,
      )

  -- all of a complete set's message that is wanted is in it, and nothing that is held is still to come
  module _ (low top : ℕ) (L : ℕ → Type 0) (q : Reassembly) (k reach : ℕ) (d : IsDue p n B Fits Came k reach q)
      (all-in : (i y : ℕ) (cs : List ChunkPayloadData) → Fits i cs → is_complete cs ≡ true → L y → B y ≡ i + 1 → list_any (has_tsn (tsn p y)) cs ≡ true)
      (came : (y : ℕ) → list_any (has_place y) q.ordered ≡ true → L y → ⊥) (most : reach ≤ top) where
    pub front-current : (c : IsNow low top L q) → c.index ≡ d.index → IsNow low top L (after_read (front_readable q.next_ssn q.ordered) q)
    front-current c is = grind (arith, front-read, same-is, next16, cases_lt, or-left, whole-later)

  -- ## A FORWARD-TSN comes

  -- what misses a TSN lies before the index, and so is none of what is held
  pub none-cut : (t index low top : ℕ) (ss : List ChunkSet) (r : AreSets low top ss)
      → reads.Gone p n B Fits Came (λ s. not (cannot_complete t s)) index low top ss r → Every (IsWhole index) ss → Every IsSome ss
      → Every (λ s. cannot_complete t s ≡ false) ss
  none-cut t index low top [] r g w h = tt
  none-cut t index low top (s ∷ ss) r g w h = grind (arith, nat_tests, common_steps, none-cut t index (r.0 + 1) top ss r.2 g.1 w.1 h.1)

  module _ (k reach j last : ℕ) (q : Reassembly) (d : IsDue p n B Fits Came k reach q) (is : last ≡ j % 2 ^ 16) (back : reach ≤ j + 1 + 2 ^ 14)
      (ahead : j + 1 ≤ reach + 2 ^ 14) (answered : is_name_too_far last q ≡ false) where
    near : j < d.low + 2 ^ 15
    near = reads.name-near p n B Fits Came at-in k reach j last q d is back ahead answered

    order-at : (i : ℕ) (s : ChunkSet) → s.ssn ≡ i % 2 ^ 16 → d.low ≤ i → i < reach → at_or_before16 s.ssn last ≡ nat_le i j
    order-at i s e lo hi = cc (e, is, at_or_before16-index i j (omega (arith, hi, back)) (omega (arith, near, lo)))

    -- of the sets up to the name only complete ones stay
    whole-left : (low : ℕ) (ss : List ChunkSet) → d.low ≤ low → AreSets low reach ss
        → Every (IsWhole (j + 1)) (filter (λ s. not (is_passed last s)) ss)
    whole-left low [] le r = tt
    whole-left low (s ∷ ss) le r = grind (arith, nat_tests, common_steps, not, at-in, order-at, unnot, whole-left (r.0 + 1) ss (omega (arith, le)) r.2)

    pub skip-current : (low top : ℕ) (L : ℕ → Type 0) → (c : IsNow low top L q) → c.index ≡ d.index → j + 1 ≤ top → low ≤ j + 1 + 2 ^ 15
        → ((y : ℕ) → y ≤ n + 1 → L y → j + 1 < B y) → (e : IsNow low top L (held_after_ordered_skip last q)) × (j + 1 ≤ e.index)
    skip-current low top L c same upto from past = at-if (λ z.
        (e : IsNow low top L (record q { ordered = filter (λ s. not (is_passed last s)) q.ordered; next_ssn = z })) × (j + 1 ≤ e.index))
        (at_or_before16 q.next_ssn last)
        (λ e. (
          record {
            index = j + 1;
            next = ap (λ m. (m + 1) % 2 ^ 16) is ∙ next16 j;
            from = from;
            upto = upto;
            late = past;
            whole = whole-left d.low q.ordered (omega arith) d.sets;
            some = every-passing IsSome (λ s. not (is_passed last s)) q.ordered c.some;
          },
          omega arith,
        ))
        (λ e.
        let lt : j < d.index = grind (arith, nat_tests, sym order ∙ e) in (
          record {
            index = c.index;
            next = c.next;
            from = c.from;
            upto = c.upto;
            late = c.late;
            whole = every-passing (IsWhole c.index) (λ s. not (is_passed last s)) q.ordered c.whole;
            some = every-passing IsSome (λ s. not (is_passed last s)) q.ordered c.some;
          },
          omega (arith, lt, same),
        ))
      where
        order : at_or_before16 q.next_ssn last ≡ nat_le d.index j
        order = cc (d.next, is, at_or_before16-index d.index j (omega (arith, back)) (omega (arith, near)))

    -- ## What goes with it

    -- an incomplete set up to the name misses, of its message, a place up to m; and each such place of a message from the index on is held,
    -- or the fragments of its message may go
    module _ (P : ChunkPayloadData → Type 0) (m : ℕ) (within : m ≤ n) (E : ℕ → Bool)
        (misses : (i : ℕ) (cs : List ChunkPayloadData) → Fits i cs → 0 < length cs → is_complete cs ≡ false → i ≤ j
        → (z : ℕ) × (z ≤ m) × (E z ≡ true) × (B z ≡ i + 1) × (list_any (has_tsn (tsn p z)) cs ≡ false)) where
      -- the fragments of messages with such an index may go
      abbrev pub MayGo : ℕ → Type 0
      MayGo z = (i : ℕ) (cs : List ChunkPayloadData) → Fits i cs → B z ≡ i + 1 → Every P cs

      gone-passed : (index low : ℕ) (ss : List ChunkSet) → d.low ≤ low → AreSets low reach ss → Every (IsWhole index) ss → Every IsSome ss
          → ((z : ℕ) → z ≤ m → E z ≡ true → low + 1 ≤ B z → index + 1 ≤ B z → (list_any (has_place z) ss ≡ true) ⊎ MayGo z)
          → Every (λ s. is_passed last s ≡ true → Every P s.chunks) ss
      gone-passed index low [] le r w some hold = tt
      gone-passed index low (s ∷ ss) le r w some hold = (
        here,
        gone-passed index (r.0 + 1) ss (omega (arith, x, le)) r.2 w.1 some.1 (λ z upto on lo from. elim (hold z upto on (omega (arith, lo, x)) from) [
          | inr g ↦ inr g
          | inl h ↦ grind (arith, nat_tests, common_steps)
        ]),
      )
        where
          x : low ≤ r.0
          x = r.1.0.0

          here : is_passed last s ≡ true → Every P s.chunks
          here e =
              let y = r.1.0.1 in
              let f = both (at_or_before16 s.ssn last) (not (is_complete s.chunks)) e in
              let upto : r.0 ≤ j = grind (arith, nat_tests, sym (order-at r.0 s r.1.0.2 (omega (arith, x, le)) y) ∙ f.0) in
              let open' : is_complete s.chunks ≡ false = fails (is_complete s.chunks) (λ h. not_both (sym (ap not h) ∙ f.1)) in
              let z = misses r.0 s.chunks r.1.1 some.0 open' upto in
              let at : index ≤ r.0 = elim (cases_lt r.0 index) [
                | inl lt ↦ absurd (not_both (sym open' ∙ whole-below index r.0 s r.1.1 some.0 w.0 lt))
                | inr ge ↦ ge
              ] in
              elim (hold z.0 z.1 z.2 (omega (arith, x)) (omega (arith, at))) [
                | inr g ↦ g r.0 s.chunks r.1.1 z.3
                | inl h ↦ elim (or-split (has_place z.0 s) (list_any (has_place z.0) ss) h) [
                  | inl g ↦ absurd (not_both (sym z.4 ∙ g))
                  | inr g ↦ let most = z.1 in absurd (reads.later-none p n B Fits Came at-in (r.0 + 1) reach z.0 ss r.2
                      (omega (arith, most, within)) (omega arith) g)
                ]
              ]

      pub all-passed : (low top : ℕ) (L : ℕ → Type 0) (c : IsNow low top L q)
          → ((z : ℕ) → z ≤ m → E z ≡ true → c.index + 1 ≤ B z → (list_any (has_place z) q.ordered ≡ true) ⊎ MayGo z)
          → Every (λ s. is_passed last s ≡ true → Every P s.chunks) q.ordered
      all-passed low top L c hold = gone-passed c.index d.low q.ordered (omega arith) d.sets c.whole c.some (λ z upto on lo from. hold z upto on from)
