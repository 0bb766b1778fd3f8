-- What a stream holds of ordered messages, each by its index: so many were begun before it. Its number is the index modulo 2^16, and all
-- that is held lies less than half the circle past the lowest message that is still to be read.
use Rattle.sctp_delivery.proofs.Names.{common_steps, ◌≡◌, ℕ, ◌+◌, ◌-◌, ◌%◌, ◌^◌, ◌<◌, ◌≤◌, Bool, true, false, not, List, [], ◌∷◌, Option, Some, None, inl, inr}
use Rattle.sctp_delivery.proofs.Names.{refl, ap, sym, subst, ◌∙◌, arith, ⊤, ◌⊎◌, ◌==◌, ◌&&◌, ◌||◌, if◌then◌else◌, nat_le, nat_lt, filter, list_any, cases_lt}
use Rattle.sctp_delivery.proofs.Names.{nat_tests, none-some, after_leading, change_first, insert_before, at_or_before, at_or_before16, comes_before16, or-left}
use Rattle.sctp_delivery.proofs.Names.{or-right, or-split, same-is, same-yes, some-same, not_both, tsn, at_or_before16-index, comes_before16-index, next16}
use Rattle.sctp_delivery.proofs.Names.{ChunkPayloadData, ChunkSet, chunk_before, has_tsn, sets_with, Reassembly, ReassemblyState, after_read, front_readable}
use Rattle.sctp_delivery.proofs.Names.{held_after_ordered_skip, held_after_unordered_skip, is_passed, is_readable, message_read, rest_read, cannot_complete}
use Rattle.sctp_delivery.proofs.Names.{held_after_incomplete_skip, Pushes, PushesAs, is_name_too_far, is_ssn_too_far, lowest_among, lowest_ssn}
use Rattle.std.specs.Prelude.{is_some}
use Rattle.sctp_util.specs.Serial.{distance16}
use Rattle.sctp_reassembly.specs.reassembly_queue.Fragments.{with_chunk}
use Rattle.sctp_reassembly.specs.reassembly_queue.ReassemblyQueue.{TakesRun}
use Rattle.sctp_reassembly.specs.reassembly_queue.Skips.{ssn_past_sets}
use Rattle.sctp_delivery.proofs.Cases.{at-if, at-test, by-test}
use Rattle.sctp_delivery.proofs.Every.{Every, every-inserted}
use Rattle.sctp_delivery.proofs.KeptSets as sets
use Rattle.sctp_delivery.proofs.KeptSets.{front-read, put-sets, sets-those, sets-to, strictly, without_front}
use Rattle.sctp_delivery.proofs.TakenTsns.{any-inserted}
use Rattle.sctp_delivery.proofs.Sessions.{neither, unnot}
use Rattle.sctp_delivery.proofs.OrderedMessages.{IsUnorderedSet, starts_ordered}

-- what is so of all is so of those that are left behind the first ones
pub leading-each : (P : ChunkPayloadData → Type 0) (p : ChunkPayloadData → Bool) (xs : List ChunkPayloadData) → Every P xs → Every P (after_leading p xs)
leading-each P p [] h = tt
leading-each P p (x ∷ xs) h = at-if (Every P) (p x) (λ e. leading-each P p xs h.1) (λ e. h)

-- a number less than half the circle past another one, by their indexes
window : (low j : ℕ) → low ≤ j + 2 ^ 15 → j < low + 2 ^ 16 → distance16 (low % 2 ^ 16) (j % 2 ^ 16) < 2 ^ 15 → (low ≤ j) × (j < low + 2 ^ 15)
unfolding distance16
window low j x y z = (omega (arith, x, y, z), omega (arith, x, y, z))

-- how far it lies
pub sides : (low j : ℕ) → low ≤ j + 2 ^ 15 → j < low + 2 ^ 16
    → ((low ≤ j) × (low + distance16 (low % 2 ^ 16) (j % 2 ^ 16) ≡ j)) ⊎ ((j < low) × (low + distance16 (low % 2 ^ 16) (j % 2 ^ 16) ≡ j + 2 ^ 16))
unfolding distance16
sides low j x y = elim (cases_lt j low) [ inl lt ↦ inr (lt, omega (arith, x, lt)) | inr ge ↦ inl (ge, omega (arith, ge, y)) ]

-- Fits i cs: the chunks are ordered ones of the message with the index i; B k: so many messages of the stream were begun up to place k of the
-- n places behind the base p; Came k: an ordered chunk of the stream has the place k, and came
module _ (p n : ℕ) (B : ℕ → ℕ) (Fits : ℕ → List ChunkPayloadData → Type 0) (Came : ℕ → Type 0) where
  -- ## What is held

  -- from set to set the index rises, and the chunks of each are of its message
  abbrev pub AreSets : ℕ → ℕ → List ChunkSet → Type 0
  AreSets = sets.AreSets Fits

  -- a chunk of the sets has the place
  abbrev pub has_place : ℕ → ChunkSet → Bool
  has_place y s = list_any (has_tsn (tsn p y)) s.chunks

  -- its message lies before this index, or the chunk is held
  abbrev pub IsKeptAt : ℕ → List ChunkSet → ℕ → Type 0
  IsKeptAt index ss y = (B y ≤ index) ⊎ (list_any (has_place y) ss ≡ true)

  abbrev pub IsKept : ℕ → List ChunkSet → Type 0
  IsKept index ss = (y : ℕ) → y ≤ n → Came y → IsKeptAt index ss y

  -- the ordered messages still to be read have indexes from k on, and those that are held lie below the reach
  pub record IsDue (k reach : ℕ) (q : Reassembly) : Type 0 where
    pub index : ℕ
    pub low : ℕ
    pub next : q.next_ssn ≡ index % 2 ^ 16
    pub lowest : lowest_ssn q ≡ low % 2 ^ 16
    pub due : k ≤ low
    pub from : low ≤ index
    pub near : index < low + 2 ^ 15
    pub within : index ≤ reach
    pub far : reach ≤ low + 2 ^ 15
    pub sets : AreSets low reach q.ordered
    pub kept : IsKept index q.ordered
    pub unordered : Every IsUnorderedSet q.unordered
    pub unassembled : Every (λ c. c.unordered ≡ true) q.unassembled

  -- from which index on messages are due after one is read, and that of the message
  pub record Reads (k reach : ℕ) (q : Reassembly) : Type 0 where
    pub after : ℕ
    pub up : k ≤ after
    pub due : IsDue after reach (rest_read q)
    pub turn : (set : ChunkSet) → message_read q ≡ Some set → starts_ordered set.chunks ≡ true
        → (i : ℕ) × ((k ≤ i) × (i < after)) × Fits i set.chunks

  -- with a name that is not too far, and has the index j: what is due, up to this
  pub record IsSkipped (k reach j most : ℕ) (q : Reassembly) : Type 0 where
    pub more : ℕ
    pub up : reach ≤ more
    pub upto : j + 1 ≤ more
    pub within : more ≤ most
    pub due : IsDue k more q
    pub passed : j < due.index

  -- the sets that fail the test lie below this index
  abbrev pub Gone : (ChunkSet → Bool) → ℕ → (low top : ℕ) (ss : List ChunkSet) → AreSets low top ss → Type 0
  Gone q bound low top [] r = ⊤
  Gone q bound low top (s ∷ ss) r = (q s ≡ false → r.0 < bound) × Gone q bound (r.0 + 1) top ss r.2

  module _ (at-in : (i y : ℕ) (cs : List ChunkPayloadData) → y ≤ n → Fits i cs → list_any (has_tsn (tsn p y)) cs ≡ true → B y ≡ i + 1) where
    -- what is so of a window makes the lowest index its bottom
    settled : (k low index reach : ℕ) (q : Reassembly) → q.next_ssn ≡ index % 2 ^ 16 → k ≤ low → low ≤ index → index < low + 2 ^ 15 → index ≤ reach
        → reach ≤ low + 2 ^ 15 → AreSets low reach q.ordered → IsKept index q.ordered → Every IsUnorderedSet q.unordered
        → Every (λ c. c.unordered ≡ true) q.unassembled → (d : IsDue k reach q) × (d.index ≡ index)
    settled k low index reach q next due from near within far sets kept us xs = by q.ordered refl sets
      where
        build : (l : ℕ) → lowest_ssn q ≡ l % 2 ^ 16 → low ≤ l → l ≤ index → AreSets l reach q.ordered → (d : IsDue k reach q) × (d.index ≡ index)
        build l is up le r = (
          record {
            index = index;
            low = l;
            next = next;
            lowest = is;
            due = omega (arith, due, up);
            from = le;
            near = omega (arith, near, up);
            within = within;
            far = omega (arith, far, up);
            sets = r;
            kept = kept;
            unordered = us;
            unassembled = xs;
          },
          refl,
        )

        by : (ss : List ChunkSet) → q.ordered ≡ ss → AreSets low reach ss → (d : IsDue k reach q) × (d.index ≡ index)
        by [] e a = build index (ap (lowest_among q.next_ssn) e ∙ next) from (omega arith) (subst (AreSets index reach) (sym e) tt)
        by (s ∷ ss) e a = by-test (at_or_before16 s.ssn q.next_ssn)
            (λ f.
            let t : nat_le i index ≡ true = sym order ∙ f in
            build i (ap (lowest_among q.next_ssn) e ∙ ap (λ b. if b then s.ssn else q.next_ssn) f ∙ a.1.0.2) a.1.0.0 (grind (arith, nat_tests))
            (subst (AreSets i reach) (sym e) (i, ((omega arith, a.1.0.1, a.1.0.2), a.1.1), a.2)))
            (λ f.
            let lt : index < i = grind (arith, nat_tests, sym order ∙ f) in
            build index (ap (lowest_among q.next_ssn) e ∙ ap (λ b. if b then s.ssn else q.next_ssn) f ∙ next) from (omega arith)
            (subst (AreSets index reach) (sym e) (i, ((omega (arith, lt), a.1.0.1, a.1.0.2), a.1.1), a.2)))
          where
            i : ℕ
            i = a.0

            order : at_or_before16 s.ssn q.next_ssn ≡ nat_le i index
            order = cc (a.1.0.2, next, at_or_before16-index i index (omega (arith, far, from)) (omega (arith, near)))

    -- ## A fragment comes

    -- not too far past the lowest number, and near the reach, it is less than half the circle past the lowest index
    pub in-window : (k reach i ssn : ℕ) (q : Reassembly) (d : IsDue k reach q) → ssn ≡ i % 2 ^ 16 → reach ≤ i + 1 + 2 ^ 14 → i + 1 ≤ reach + 2 ^ 14
        → is_ssn_too_far ssn q ≡ false → (d.low ≤ i) × (i < d.low + 2 ^ 15)
    in-window k reach i ssn q d is a b e =
        let near : distance16 (lowest_ssn q) ssn < 2 ^ 15 = grind (arith, nat_tests) in
        window d.low i (omega (arith, a)) (omega (arith, b))
        (subst (λ n. distance16 n (i % 2 ^ 16) < 2 ^ 15) d.lowest (subst (λ n. distance16 (lowest_ssn q) n < 2 ^ 15) is near))

    taken-due : (k reach : ℕ) (xs : List ChunkPayloadData) (old new : Reassembly) → TakesRun xs old new → Every (λ c. c.unordered ≡ true) xs
        → IsDue k reach old → IsDue k reach new
    taken-due k reach xs old new t all d = grind (arith, nat_tests, common_steps)

    -- an unordered one
    pub push-unordered : (k reach : ℕ) (c : ChunkPayloadData) (answered : Bool) (old new : ReassemblyState) → c.unordered ≡ true → Pushes c answered old new
        → IsDue k reach old.held → IsDue k reach new.held
    push-unordered k reach c answered old new u p d = grind (arith, nat_tests, common_steps, taken-due, every-inserted)

    abbrev wider : (k reach more : ℕ) (q : Reassembly) (d : IsDue k reach q) → reach ≤ more → more ≤ d.low + 2 ^ 15 → IsDue k more q
    wider k reach more q d le far = record {
      index = d.index;
      low = d.low;
      next = d.next;
      lowest = d.lowest;
      due = d.due;
      from = d.from;
      near = d.near;
      within = omega (arith, le);
      far = far;
      sets = sets-to Fits d.low reach more q.ordered le d.sets;
      kept = d.kept;
      unordered = d.unordered;
      unassembled = d.unassembled;
    }

    -- what is held stays so, and the chunk is held then
    module _ (x : ChunkPayloadData) (y : ℕ) where
      with-place : (s : ChunkSet) → (has_tsn (tsn p y) x || has_place y s) ≡ true → has_place y (with_chunk x s) ≡ true
      with-place s h = grind (arith, nat_tests, common_steps, or-split, same-is, any-inserted)

      changed-place : (r : ChunkSet → Bool) (ss : List ChunkSet) → list_any (has_place y) ss ≡ true
          → list_any (has_place y) (change_first r (with_chunk x) ss) ≡ true
      changed-place r [] e = e
      changed-place r (s ∷ ss) e = by (r s) (or-split (has_place y s) (list_any (has_place y) ss) e) (λ h. changed-place r ss h)
        where
          by : (b : Bool) → (has_place y s ≡ true) ⊎ (list_any (has_place y) ss ≡ true)
              → (list_any (has_place y) ss ≡ true → list_any (has_place y) (change_first r (with_chunk x) ss) ≡ true)
              → list_any (has_place y) (if b then with_chunk x s ∷ ss else s ∷ change_first r (with_chunk x) ss) ≡ true
          by h0 h1 h2 = grind (arith, nat_tests, common_steps, or-left, with-place, or-right)

      new-place : has_tsn (tsn p y) x ≡ true → (r : ChunkSet → Bool) (ss : List ChunkSet) → list_any r ss ≡ true
          → list_any (has_place y) (change_first r (with_chunk x) ss) ≡ true
      new-place g r [] e = absurd (not_both e)
      new-place g r (s ∷ ss) e = by (r s) e (λ h. new-place g r ss h)
        where
          by : (b : Bool) → (b || list_any r ss) ≡ true → (list_any r ss ≡ true → list_any (has_place y) (change_first r (with_chunk x) ss) ≡ true)
              → list_any (has_place y) (if b then with_chunk x s ∷ ss else s ∷ change_first r (with_chunk x) ss) ≡ true
          by true h ih = or-left (has_place y (with_chunk x s)) (list_any (has_place y) ss) (with-place s (or-left (has_tsn (tsn p y) x) (has_place y s) g))
          by false h ih = or-right (has_place y s) (list_any (has_place y) (change_first r (with_chunk x) ss)) (ih h)

      put-place : (ss : List ChunkSet) → (has_tsn (tsn p y) x ≡ true) ⊎ (list_any (has_place y) ss ≡ true) → list_any (has_place y) (sets_with x ss) ≡ true
      put-place ss h = grind (arith, nat_tests, common_steps, or-left, or-right, new-place, changed-place, any-inserted)

    -- an ordered one of the place y, of an index in the window
    pub push-ordered : (k reach more i y : ℕ) (c : ChunkPayloadData) (answered : Bool) (old new : ReassemblyState) (d : IsDue k reach old.held)
        → c.unordered ≡ false → Fits i (c ∷ [])
        → ((cs : List ChunkPayloadData) → list_any (has_tsn c.tsn) cs ≡ false → Fits i cs → Fits i (insert_before chunk_before c cs))
        → c.stream_sequence_number ≡ i % 2 ^ 16 → has_tsn (tsn p y) c ≡ true → B y ≡ i + 1 → d.low ≤ i → i < d.low + 2 ^ 15 → reach ≤ more → i < more
        → more ≤ d.low + 2 ^ 15 → Pushes c answered old new → (e : IsDue k more new.held) × IsKeptAt e.index new.held.ordered y
    push-ordered k reach more i y c answered old new d u single put is at begun low top le top' far p' =
        subst (λ (s : ReassemblyState). (e : IsDue k more s.held) × IsKeptAt e.index s.held.ordered y)
        (sym (subst (λ b. PushesAs b c answered old new) u p').0)
        (at-test (λ b. (e : IsDue k more (if b then old.held else record old.held { ordered = sets_with c old.held.ordered })) × IsKeptAt e.index
        (if b then old.held else record old.held { ordered = sets_with c old.held.ordered }).ordered y)
        (comes_before16 c.stream_sequence_number old.held.next_ssn)
        (λ h.
        let lt : i < d.index = grind (arith, nat_tests, sym order ∙ h) in
        (wider k reach more old.held d le far, inl (omega (arith, begun, lt))))
        (λ h.
        let kept : IsKept d.index (sets_with c old.held.ordered) = grind (arith, nat_tests, common_steps, put-place) in
        let s = settled k d.low d.index more (record old.held { ordered = sets_with c old.held.ordered }) d.next d.due d.from d.near e.within
        far
        (put-sets Fits c i single put is d.low more old.held.ordered low top' far e.sets) kept d.unordered d.unassembled in
        (s.0, inr (put-place c y old.held.ordered (inl at)))))
      where
        e : IsDue k more old.held
        e = wider k reach more old.held d le far

        order : comes_before16 c.stream_sequence_number old.held.next_ssn ≡ nat_lt i d.index
        order = cc (is, d.next, comes_before16-index i d.index (omega (arith, top)) (omega (arith, low)))

    -- ## A message is read

    module _ (k reach : ℕ) (q : Reassembly) (d : IsDue k reach q) where
      -- the front set is read
      front-due : (s : ChunkSet) (ss : List ChunkSet) → q.ordered ≡ s ∷ ss → (a : AreSets d.low reach (s ∷ ss)) → is_readable q.next_ssn s ≡ true
          → (b : Bool) → (s.ssn == q.next_ssn) ≡ b → IsDue (a.0 + 1) reach (without_front q b ss)
      front-due s ss is a e = by
        where
          i : ℕ
          i = a.0

          low : d.low ≤ i
          low = a.1.0.0

          up : i < reach
          up = a.1.0.1

          kept : (m : ℕ) → i + 1 ≤ m → d.index ≤ m → IsKept m ss
          kept m from at y le came = grind (arith, nat_tests, common_steps)

          build : (n next : ℕ) → next ≡ n % 2 ^ 16 → i + 1 ≤ n → d.index ≤ n → n ≤ d.index + 1 → n ≤ reach
              → IsDue (i + 1) reach (record q { ordered = ss; next_ssn = next })
          build n next e from at most within =
              (settled (i + 1) (i + 1) n reach (record q { ordered = ss; next_ssn = next }) e (omega arith) from (omega (arith, most, low)) within
              (omega (arith, low)) a.2 (kept n from at) d.unordered d.unassembled).0

          by : (b : Bool) → (s.ssn == q.next_ssn) ≡ b → IsDue (i + 1) reach (without_front q b ss)
          by true f =
              let n : i % 2 ^ 16 ≡ d.index % 2 ^ 16 = sym a.1.0.2 ∙ same-is s.ssn q.next_ssn f ∙ d.next in
              let le : i ≤ d.index = grind (arith, nat_tests) in
              let same : i ≡ d.index = omega (arith, n, le, low) in
              build (d.index + 1) ((q.next_ssn + 1) % 2 ^ 16) (ap (λ m. (m + 1) % 2 ^ 16) d.next ∙ next16 d.index) (omega (arith, same)) (omega arith)
              (omega arith) (omega (arith, same, up))
          by false f =
              let le : i ≤ d.index = grind (arith, nat_tests) in
              let differ : i ≡ d.index → ⊥ = λ same. not_both (sym f ∙ ap (λ m. m == q.next_ssn) (a.1.0.2 ∙ ap (λ m. m % 2 ^ 16) same ∙ sym d.next)
              ∙ same-yes q.next_ssn) in
              let w = d.within in
              build d.index q.next_ssn d.next (omega (arith, strictly i d.index le (λ same. differ (sym same)))) (omega arith) (omega arith) w

      at-front : (after : ℕ) × ((k ≤ after) × IsDue after reach (after_read (front_readable q.next_ssn q.ordered) q))
          × ((set : ChunkSet) → front_readable q.next_ssn q.ordered ≡ Some set → (i : ℕ) × ((k ≤ i) × (i < after)) × Fits i set.chunks)
      at-front = front-read q
          (λ o r. (after : ℕ) × ((k ≤ after) × IsDue after reach r)
          × ((set : ChunkSet) → o ≡ Some set → (i : ℕ) × ((k ≤ i) × (i < after)) × Fits i set.chunks))
          (k, (omega arith, d), λ set e. absurd (none-some set e)) (λ s ss is e b f.
          let a : AreSets d.low reach (s ∷ ss) = subst (AreSets d.low reach) is d.sets in
          let up : k ≤ a.0 = omega arith in (
            a.0 + 1,
            (omega (arith, up), front-due s ss is a e b f),
            λ set g. (a.0, (up, omega arith), subst (λ (z : ChunkSet). Fits a.0 z.chunks) (some-same g) a.1.1),
          ))

      pub read-due : Reads k reach q
      read-due = by q.unordered refl
        where
          by : (us : List ChunkSet) → q.unordered ≡ us → Reads k reach q
          by [] is = grind (arith, nat_tests, common_steps, at-front)
          by (u ∷ us) is = grind (arith, nat_tests, common_steps)

    -- ## A FORWARD-TSN comes

    -- sets of later messages have no chunk of the place
    pub later-none : (low top z : ℕ) (ss : List ChunkSet) → AreSets low top ss → z ≤ n → B z ≤ low → list_any (has_place z) ss ≡ true → ⊥
    later-none low top z [] r most lo h = not_both h
    later-none low top z (s ∷ ss) r most lo h = elim (or-split (has_place z s) (list_any (has_place z) ss) h) [
      | inl g ↦ let b = at-in r.0 z s.chunks most r.1.1 g in let x = r.1.0.0 in absurd (omega (arith, b, x, lo))
      | inr g ↦ let x = r.1.0.0 in later-none (r.0 + 1) top z ss r.2 most (omega (arith, lo, x)) g
    ]

    -- where the sets of messages before an index go, what is held stays so, or lies before the index
    those-kept : (q : ChunkSet → Bool) (bound low top : ℕ) (ss : List ChunkSet) (r : AreSets low top ss)
        → Gone q bound low top ss r → (y : ℕ) → y ≤ n → list_any (has_place y) ss ≡ true → IsKeptAt bound (filter q ss) y
    those-kept q bound low top [] r g y le h = absurd (not_both h)
    those-kept q bound low top (s ∷ ss) r g y le h =
        by (q s) refl (or-split (has_place y s) (list_any (has_place y) ss) h) (λ k. those-kept q bound (r.0 + 1) top ss r.2 g.1 y le k)
      where
        by : (b : Bool) → q s ≡ b → (has_place y s ≡ true) ⊎ (list_any (has_place y) ss ≡ true)
            → (list_any (has_place y) ss ≡ true → IsKeptAt bound (filter q ss) y) → IsKeptAt bound (if b then s ∷ filter q ss else filter q ss) y
        by h0 h1 h2 h3 = grind (arith, nat_tests, common_steps)

    -- where the lowest message is not complete, its set goes
    without-lowest : (low top j index next last : ℕ) (ss : List ChunkSet) → next ≡ index % 2 ^ 16 → last ≡ j % 2 ^ 16 → low ≤ index → index < low + 2 ^ 15
        → low ≤ j → j < low + 2 ^ 15 → front_readable next ss ≡ None → AreSets low top ss → AreSets (low + 1) top (filter (λ set. not (is_passed last set)) ss)
    without-lowest h0 h1 h2 h3 h4 h5 h6 h7 h8 h9 h10 h11 h12 h13 h14 =
        grind (arith, nat_tests, common_steps, cases_lt, sets-those, not, at_or_before16-index, none-some)

    module _ (k reach j last : ℕ) (q : Reassembly) (d : IsDue k reach q) (is : last ≡ j % 2 ^ 16) (back : reach ≤ j + 1 + 2 ^ 14)
        (ahead : j + 1 ≤ reach + 2 ^ 14) where
      -- it lies past the lowest index, as far as the numbers say, or before it
      name-side : ((d.low ≤ j) × (d.low + distance16 (lowest_ssn q) last ≡ j)) ⊎ (j < d.low)
      name-side =
          let same : distance16 (lowest_ssn q) last ≡ distance16 (d.low % 2 ^ 16) (j % 2 ^ 16) = cc (d.lowest, is) in
          elim (sides d.low j (omega (arith, back)) (omega (arith, ahead))) [
            | inl x ↦ inl (x.0, omega (arith, same))
            | inr x ↦ inr x.0
          ]

      -- a name that is not too far is less than half the circle past the lowest index
      pub name-near : is_name_too_far last q ≡ false → j < d.low + 2 ^ 15
      name-near e = grind (arith, nat_tests, common_steps, name-side, neither)

    none-of : {A : Type 0} (o : Option A) → is_some o ≡ false → o ≡ None
    none-of None e = refl
    none-of (Some x) e = absurd (not_both (sym e))

    module _ (k reach j last most : ℕ) (q : Reassembly) (d : IsDue k reach q) (is : last ≡ j % 2 ^ 16) (back : reach ≤ j + 1 + 2 ^ 14)
        (ahead : j + 1 ≤ reach + 2 ^ 14) (le : reach ≤ most) (lt : j + 1 ≤ most) where
      abbrev left : List ChunkSet
      left = filter (λ set. not (is_passed last set)) q.ordered

      next-order : d.index < j + 2 ^ 15 → j < d.index + 2 ^ 15 → at_or_before16 q.next_ssn last ≡ nat_le d.index j
      next-order a b = ap (λ m. at_or_before16 m last) d.next ∙ ap (at_or_before16 (d.index % 2 ^ 16)) is ∙ at_or_before16-index d.index j a b

      -- the sets that go are of no later message
      pub passed-gone : (low top : ℕ) (ss : List ChunkSet) (r : AreSets low top ss) → top ≤ j + 2 ^ 15 → j < low + 2 ^ 15
          → Gone (λ set. not (is_passed last set)) (j + 1) low top ss r
      passed-gone low top [] r far near = tt
      passed-gone low top (s ∷ ss) r far near =
          grind (arith, nat_tests, common_steps, not, unnot, at_or_before16-index, passed-gone (r.0 + 1) top ss r.2 far (omega (arith, near)))

      skip-kept : j < d.low + 2 ^ 15 → (m : ℕ) → d.index ≤ m → j < m → IsKept m left
      skip-kept near m at past y le came = elim (d.kept y le came) [
        | inl h ↦ inl (omega (arith, h, at))
        | inr h ↦
            elim (those-kept (λ set. not (is_passed last set)) (j + 1) d.low reach q.ordered d.sets
            (passed-gone d.low reach q.ordered d.sets (omega (arith, back)) near) y le h) [
              | inl g ↦ inl (omega (arith, g, past))
              | inr g ↦ inr g
            ]
      ]

      -- from another lowest index on
      module _ (wide : j < d.low + 2 ^ 15) (low more : ℕ) (a : d.index < j + 2 ^ 15) (b : j < d.index + 2 ^ 15) (due : k ≤ low)
          (from : j < d.index → low ≤ d.index) (on : d.index ≤ j → low ≤ j + 1)
          (near : d.index < low + 2 ^ 15) (top : d.index ≤ j → j + 1 < low + 2 ^ 15) (up : reach ≤ more) (upto : j + 1 ≤ more) (within : more ≤ most)
          (far : more ≤ low + 2 ^ 15) (sets : AreSets low more left) where
        skips : IsSkipped k reach j most (held_after_ordered_skip last q)
        skips = at-if (λ z. IsSkipped k reach j most (record q { ordered = left; next_ssn = z })) (at_or_before16 q.next_ssn last)
            (λ e.
            let upto' : d.index ≤ j = grind (arith, nat_tests, sym (next-order a b) ∙ e) in
            build (j + 1) ((last + 1) % 2 ^ 16) (ap (λ m. (m + 1) % 2 ^ 16) is ∙ next16 j) (omega (arith, upto')) (on upto')
            (top upto') upto (omega arith))
            (λ e.
            let past : j < d.index = grind (arith, nat_tests, sym (next-order a b) ∙ e) in
            build d.index q.next_ssn d.next (omega arith) (from past) near (omega (arith, up)) past)
          where
            build : (n next : ℕ) → next ≡ n % 2 ^ 16 → d.index ≤ n → low ≤ n → n < low + 2 ^ 15 → n ≤ more → j < n
                → IsSkipped k reach j most (record q { ordered = left; next_ssn = next })
            build n next e at f g h i =
                let s = settled k low n more (record q { ordered = left; next_ssn = next }) e due f g h far sets (skip-kept wide n at i) d.unordered
                d.unassembled in
                record { more = more; up = up; upto = upto; within = within; due = s.0; passed = omega (arith, i) }

      -- the name is an old one
      old-name : j < d.low → IsSkipped k reach j most (held_after_ordered_skip last q)
      old-name x =
          let f = d.from in
          skips (omega (arith, x)) d.low reach (omega (arith, back)) (omega (arith, x, f)) d.due (λ z. f) (λ z. omega (arith, f, z)) d.near
          (λ y. absurd (omega (arith, x, f, y))) (omega arith) (omega (arith, x, f)) le d.far
          (sets-those Fits (λ set. not (is_passed last set)) d.low reach q.ordered d.sets)

      -- or lies in the window
      new-name : d.low ≤ j → j < d.low + 2 ^ 15 → (j + 1 ≡ d.low + 2 ^ 15 → front_readable q.next_ssn q.ordered ≡ None) → (more : ℕ) → reach ≤ more
          → j + 1 ≤ more → more ≤ most → more ≤ d.low + 2 ^ 15 → IsSkipped k reach j most (held_after_ordered_skip last q)
      new-name x y last-one more up upto within far =
          let f = d.from in
          let n = d.near in
          let u = d.due in
          let sets = sets-to Fits d.low reach more q.ordered up d.sets in
          elim (cases_lt (j + 1) (d.low + 2 ^ 15)) [
            | inl lt ↦ skips y d.low more (omega (arith, x, n)) (omega (arith, y, f)) d.due (λ z. f) (λ z. omega (arith, f, z)) d.near (λ z. lt) up upto
                within far
                (sets-those Fits (λ set. not (is_passed last set)) d.low more q.ordered sets)
            | inr ge ↦
                let top : j + 1 ≡ d.low + 2 ^ 15 = omega (arith, ge, y) in
                skips y (d.low + 1) more (omega (arith, x, n)) (omega (arith, y, f)) (omega (arith, u)) (λ z. omega (arith, top, n, z))
                (λ z. omega (arith, x)) (omega (arith, n)) (λ z. omega (arith, top)) up upto within (omega (arith, far))
                (without-lowest d.low more j d.index q.next_ssn last q.ordered d.next is f n x y (last-one top) sets)
          ]

      pub name-due : is_name_too_far last q ≡ false → IsSkipped k reach j most (held_after_ordered_skip last q)
      name-due e = by (name-side k reach j last q d is back ahead)
        where
          unread : (a : ℕ) (b : Bool) → ((a == 2 ^ 15 - 1) && b) ≡ false → a ≡ 2 ^ 15 - 1 → b ≡ false
          unread a b f g = ap (λ c. c && b) (sym (ap (λ n. n == 2 ^ 15 - 1) g)) ∙ f

          by : ((d.low ≤ j) × (d.low + distance16 (lowest_ssn q) last ≡ j)) ⊎ (j < d.low) → IsSkipped k reach j most (held_after_ordered_skip last q)
          by (inr x) = old-name x
          by (inl x) =
              let c = d.far in
              let top = name-near k reach j last q d is back ahead e in
              let none : j + 1 ≡ d.low + 2 ^ 15 → front_readable q.next_ssn q.ordered ≡ None = λ f. none-of (front_readable q.next_ssn q.ordered)
              (unread (distance16 (lowest_ssn q) last) (is_some (front_readable q.next_ssn q.ordered)) (neither _ _ e).1 (omega (arith, f))) in
              elim (cases_lt reach (j + 1)) [
                | inl less ↦ new-name x.0 top none (j + 1) (omega (arith, less)) (omega arith) lt (omega (arith, top))
                | inr ge ↦ new-name x.0 top none reach (omega arith) ge le c
              ]

    abbrev pub unassembled-due : (k reach t : ℕ) (q : Reassembly) → IsDue k reach q → IsDue k reach (held_after_unordered_skip t q)
    unassembled-due k reach t q d = record {
      index = d.index;
      low = d.low;
      next = d.next;
      lowest = d.lowest;
      due = d.due;
      from = d.from;
      near = d.near;
      within = d.within;
      far = d.far;
      sets = d.sets;
      kept = d.kept;
      unordered = d.unordered;
      unassembled = leading-each (λ c. c.unordered ≡ true) (λ c. at_or_before c.tsn t) q.unassembled d.unassembled;
    }

    -- what can't become complete lies below the next index
    pub past-sets : (base low top t index next : ℕ) (ss : List ChunkSet) (r : AreSets low top ss) → next ≡ index % 2 ^ 16 → index < base + 2 ^ 15
        → base ≤ low → Gone (λ set. not (cannot_complete t set)) index low top ss r → ssn_past_sets next (filter (cannot_complete t) ss) ≡ next
    past-sets base low top t index next [] r e f g h = refl
    past-sets base low top t index next (s ∷ ss) r e f g h =
        grind (arith, nat_tests, common_steps, not, at_or_before16-index, past-sets base (r.0 + 1) top t index next ss r.2 e f (omega (arith, g)) h.1)

    pub incomplete-due : (k reach t : ℕ) (q : Reassembly) (d : IsDue k reach q)
        → Gone (λ set. not (cannot_complete t set)) d.index d.low reach q.ordered d.sets → IsDue k reach (held_after_incomplete_skip t q)
    incomplete-due k reach t q d h =
        let kept : IsKept d.index (filter (λ set. not (cannot_complete t set)) q.ordered) = grind (arith, nat_tests, common_steps, those-kept, not) in
        (settled k d.low d.index reach (held_after_incomplete_skip t q)
        (past-sets d.low d.low reach t d.index q.next_ssn q.ordered d.sets d.next d.near (omega arith) h ∙ d.next) d.due d.from d.near d.within d.far
        (sets-those Fits (λ set. not (cannot_complete t set)) d.low reach q.ordered d.sets) kept d.unordered d.unassembled).0

-- other places came, each of which is held or lies before the next index
abbrev pub recame : (p n : ℕ) (B : ℕ → ℕ) (Fits : ℕ → List ChunkPayloadData → Type 0) (Came More : ℕ → Type 0) (k reach : ℕ) (q : Reassembly)
    (d : IsDue p n B Fits Came k reach q) → ((y : ℕ) → y ≤ n → More y → Came y ⊎ IsKeptAt p n B Fits Came d.index q.ordered y)
    → IsDue p n B Fits More k reach q
recame p n B Fits Came More k reach q d more = record {
  index = d.index;
  low = d.low;
  next = d.next;
  lowest = d.lowest;
  due = d.due;
  from = d.from;
  near = d.near;
  within = d.within;
  far = d.far;
  sets = d.sets;
  kept = λ y le m. elim (more y le m) [ inl c ↦ d.kept y le c | inr h ↦ h ];
  unordered = d.unordered;
  unassembled = d.unassembled;
}
