-- What a queue holds whole of ordered messages: each set before the next number is complete, and stays so until it is read, whatever FORWARD-TSNs name.
use Rattle.sctp_delivery.proofs.Names.{common_steps, ◌≡◌, ℕ, ◌+◌, ◌%◌, ◌^◌, ◌<◌, ◌≤◌, Bool, true, false, not, List, [], ◌∷◌, Option, Some, inl, inr, refl, ap}
use Rattle.sctp_delivery.proofs.Names.{sym, subst, ◌∙◌, arith, ◌⊎◌, if◌then◌else◌, filter, list_any, nat_le, nat_lt, cases_lt, nat_tests, fails, both, not_both}
use Rattle.sctp_delivery.proofs.Names.{same-is, eq-eqb, next16, or-split, tsn, at_or_before16-index, comes_before16-index, change_first, insert_before}
use Rattle.sctp_delivery.proofs.Names.{ChunkPayloadData, ChunkSet, has_ssn, has_tsn, new_set, set_before, Pushes, PushesAs, Reassembly, ReassemblyState}
use Rattle.sctp_delivery.proofs.Names.{is_complete, held_after_incomplete_skip, held_after_ordered_push, held_after_ordered_skip, held_after_unordered_skip}
use Rattle.sctp_delivery.proofs.Names.{is_passed, message_read, rest_read, cannot_complete, length}
use Rattle.sctp_reassembly.specs.reassembly_queue.Fragments.{with_chunk}
use Rattle.sctp_util.specs.Serial.{at_or_before16, comes_before16, distance16}
use Rattle.sctp_delivery.proofs.Cases.{at-if, by-test}
use Rattle.sctp_delivery.proofs.Every.{Every, every-inserted, every-of, every-passing}
use Rattle.sctp_delivery.proofs.KeptSets.{every-first, front-read}
use Rattle.sctp_delivery.proofs.Sessions.{unnot}
use Rattle.sctp_delivery.proofs.UnwrappedReads.{AreSets, Gone, IsDue, later-none}

-- # The sets of a queue

-- each one before the next number is complete
abbrev pub IsBefore : ℕ → ChunkSet → Type 0
IsBefore next s = comes_before16 s.ssn next ≡ true → is_complete s.chunks ≡ true

abbrev pub IsFront : ℕ → List ChunkSet → Type 0
IsFront next ss = Every (IsBefore next) ss

abbrev pub HasFront : Reassembly → Type 0
HasFront q = IsFront q.next_ssn q.ordered

same-front : (q r : Reassembly) → r.next_ssn ≡ q.next_ssn → r.ordered ≡ q.ordered → HasFront q → HasFront r
same-front q r e f h = subst (λ n. IsFront n r.ordered) (sym e) (subst (IsFront q.next_ssn) (sym f) h)

put-front : (x : ChunkPayloadData) (next : ℕ) (ss : List ChunkSet) → comes_before16 x.stream_sequence_number next ≡ false → IsFront next ss
    → IsFront next (if list_any (has_ssn x.stream_sequence_number) ss then change_first (has_ssn x.stream_sequence_number) (with_chunk x) ss
    else insert_before set_before (new_set x) ss)
put-front x next ss off h = grind (arith, nat_tests, common_steps, every-first, every-of, not_both, same-is, every-inserted)

before-next : (a b : ℕ) → comes_before16 a ((b + 1) % 2 ^ 16) ≡ true → at_or_before16 a b ≡ true
unfolding comes_before16 at_or_before16 distance16
before-next a b e = grind (arith, nat_tests, common_steps)

-- where incomplete ones up to the name go, those up to it are complete
passed-front : (last : ℕ) (ss : List ChunkSet) → IsFront ((last + 1) % 2 ^ 16) (filter (λ s. not (is_passed last s)) ss)
passed-front last [] = tt
passed-front last (s ∷ ss) = grind (arith, nat_tests, common_steps, not, unnot, before-next, passed-front last ss)

pub skipped-front : (last : ℕ) (q : Reassembly) → HasFront q → HasFront (held_after_ordered_skip last q)
skipped-front last q h = grind (arith, nat_tests, common_steps, not, passed-front, every-passing)

-- ## A message that is held whole

-- Fits i cs: the chunks are of the message with the index i
abbrev pub IsHeldIn : (ℕ → List ChunkPayloadData → Type 0) → ℕ → List ChunkSet → Type 0
IsHeldIn Fits i [] = ⊥
IsHeldIn Fits i (s ∷ ss) = (Fits i s.chunks × (is_complete s.chunks ≡ true)) ⊎ IsHeldIn Fits i ss

held-inserted : (Fits : ℕ → List ChunkPayloadData → Type 0) (i : ℕ) (before : ChunkSet → ChunkSet → Bool) (y : ChunkSet) (ss : List ChunkSet)
    → IsHeldIn Fits i ss → IsHeldIn Fits i (insert_before before y ss)
held-inserted Fits i before y [] h = absurd h
held-inserted Fits i before y (s ∷ ss) h = at-if (IsHeldIn Fits i) (before y s) (λ e. inr h)
    (λ e. elim h [ inl k ↦ inl k | inr k ↦ inr (held-inserted Fits i before y ss k) ])

pub held-those : (Fits : ℕ → List ChunkPayloadData → Type 0) (i : ℕ) (keep : ChunkSet → Bool) → ((s : ChunkSet) → is_complete s.chunks ≡ true → keep s ≡ true)
    → (ss : List ChunkSet) → IsHeldIn Fits i ss → IsHeldIn Fits i (filter keep ss)
held-those Fits i keep all [] h = h
held-those Fits i keep all (s ∷ ss) h = at-if (IsHeldIn Fits i) (keep s)
    (λ e. elim h [ inl k ↦ inl k | inr k ↦ inr (held-those Fits i keep all ss k) ])
    (λ e. elim h [ inl k ↦ absurd (not_both (sym e ∙ all s k.1)) | inr k ↦ held-those Fits i keep all ss k ])

-- the parameters are those of UnwrappedReads
module _ (p n : ℕ) (B : ℕ → ℕ) (Fits : ℕ → List ChunkPayloadData → Type 0) (Came : ℕ → Type 0) (k reach : ℕ) (q : Reassembly)
    (d : IsDue p n B Fits Came k reach q) (h : HasFront q) where
  abbrev Sets : ℕ → List ChunkSet → Type 0
  Sets low ss = AreSets p n B Fits Came low reach ss

  order-of : (s : ChunkSet) (i : ℕ) → s.ssn ≡ i % 2 ^ 16 → d.low ≤ i → i < reach → comes_before16 s.ssn q.next_ssn ≡ nat_lt i d.index
  order-of s i e lo hi = grind (arith, nat_tests, common_steps, comes_before16-index)

  -- one of an earlier message is before the next number, so it is complete
  pub before-is : (s : ChunkSet) (i : ℕ) → s.ssn ≡ i % 2 ^ 16 → d.low ≤ i → i < reach → i < d.index → comes_before16 s.ssn q.next_ssn ≡ true
  before-is s i e lo hi lt = let less : nat_lt i d.index ≡ true = grind (arith, nat_tests) in order-of s i e lo hi ∙ less

  -- with the same next number, and all that is held whole of earlier messages
  abbrev Keeps : Reassembly → Type 0
  Keeps r = (r.next_ssn ≡ q.next_ssn) × HasFront r × ((i : ℕ) → i < d.index → IsHeldIn Fits i q.ordered → IsHeldIn Fits i r.ordered)

  -- ## A fragment comes

  module _ (one : (i j : ℕ) (cs : List ChunkPayloadData) → Fits i cs → Fits j cs → is_complete cs ≡ true → i ≡ j) (x : ChunkPayloadData) where
    held-changed : (low : ℕ) (ss : List ChunkSet) → d.low ≤ low → Sets low ss → comes_before16 x.stream_sequence_number q.next_ssn ≡ false
        → (i : ℕ) → i < d.index → IsHeldIn Fits i ss → IsHeldIn Fits i (change_first (has_ssn x.stream_sequence_number) (with_chunk x) ss)
    held-changed low [] le r off i lt k = k
    held-changed low (s ∷ ss) le r off i lt k = at-if (IsHeldIn Fits i) (has_ssn x.stream_sequence_number s)
        (λ e. elim k [ inl f ↦ absurd (other e f) | inr f ↦ inr f ])
        (λ e. elim k [ inl f ↦ inl f | inr f ↦ inr (held-changed (r.0 + 1) ss (omega (arith, lo, le)) r.2 off i lt f) ])
      where
        lo : low ≤ r.0
        lo = r.1.0.0

        other : has_ssn x.stream_sequence_number s ≡ true → Fits i s.chunks × (is_complete s.chunks ≡ true) → ⊥
        other e f = grind (arith, nat_tests, common_steps, before-is, lo, not_both, same-is)

    put-kept : Keeps (held_after_ordered_push x q)
    put-kept = grind (arith, nat_tests, common_steps, put-front, held-changed, held-inserted)

    pub pushed-front : (answered : Bool) (old new : ReassemblyState) → old.held ≡ q → Pushes x answered old new → Keeps new.held
    pushed-front answered old new is pushes = by x.unordered pushes
      where
        by : (b : Bool) → PushesAs b x answered old new → Keeps new.held
        by false t = subst (λ (s : ReassemblyState). Keeps s.held) (sym t.0) (subst (λ z. Keeps (held_after_ordered_push x z)) (sym is) put-kept)
        by true t = grind (arith, nat_tests, common_steps)

  -- ## A message is read

  -- the next one, or another one; and what is held whole stays so, or is what is read
  pub record IsReadOne (o : Option ChunkSet) (r : Reassembly) : Type 0 where
    pub front : HasFront r
    pub next : (r.next_ssn ≡ q.next_ssn)
        ⊎ ((set : ChunkSet) × (o ≡ Some set) × Fits d.index set.chunks × (d.index < reach) × (r.next_ssn ≡ (d.index + 1) % 2 ^ 16))
    pub held : (i : ℕ) → IsHeldIn Fits i q.ordered → IsHeldIn Fits i r.ordered ⊎ ((set : ChunkSet) × (o ≡ Some set) × Fits i set.chunks)

  next-front : (low : ℕ) (ss : List ChunkSet) → d.index + 1 ≤ low → Sets low ss → IsFront ((q.next_ssn + 1) % 2 ^ 16) ss
  next-front low [] le r = tt
  next-front low (s ∷ ss) le r =
      let lo = r.1.0.0 in
      let hi = r.1.0.1 in
      let far = d.far in
      let from = d.from in
      let next : (q.next_ssn + 1) % 2 ^ 16 ≡ (d.index + 1) % 2 ^ 16 = ap (λ m. (m + 1) % 2 ^ 16) d.next ∙ next16 d.index in
      let less : nat_lt r.0 (d.index + 1) ≡ false = grind (arith, nat_tests) in
      let off : comes_before16 s.ssn ((q.next_ssn + 1) % 2 ^ 16) ≡ false = grind (arith, nat_tests, common_steps, comes_before16-index) in
      (λ t. absurd (not_both (sym off ∙ t)), next-front (r.0 + 1) ss (omega (arith, lo, le)) r.2)

  pub read-next : IsReadOne (message_read q) (rest_read q)
  read-next = grind (arith, at_or_before16-index, cases_lt, same-is, eq-eqb, not_both, next-front, next16, front-read)

  -- ## What cannot become complete goes

  module _ (t : ℕ) where
    abbrev Goes : (low : ℕ) (ss : List ChunkSet) → Sets low ss → Type 0
    Goes low ss r = Gone p n B Fits Came (λ set. not (cannot_complete t set)) d.index low reach ss r

    none-goes : (low : ℕ) (ss : List ChunkSet) (r : Sets low ss) → d.low ≤ low → IsFront q.next_ssn ss → Goes low ss r
        → Every (λ s. cannot_complete t s ≡ false) ss
    none-goes low [] r le f g = tt
    none-goes low (s ∷ ss) r le f g =
        let lo = r.1.0.0 in (
          fails (cannot_complete t s) (λ e.
              let whole = f.0 (before-is s r.0 r.1.0.2 (omega (arith, lo, le)) r.1.0.1 (g.0 (ap not e))) in
              not_both (sym (ap not whole) ∙ (both (not (is_complete s.chunks)) _ e).0)),
          none-goes (r.0 + 1) ss r.2 (omega (arith, lo, le)) f.1 g.1,
        )

    stay : (ss : List ChunkSet) → Every (λ s. cannot_complete t s ≡ false) ss
        → (filter (λ s. not (cannot_complete t s)) ss ≡ ss) × (filter (cannot_complete t) ss ≡ [])
    stay [] e = (refl, refl)
    stay (s ∷ ss) e = grind (arith, nat_tests, common_steps, stay ss e.1)

    -- nothing of ordered messages does
    abbrev pub IsUncut : Reassembly → Type 0
    IsUncut r = (r.next_ssn ≡ q.next_ssn) × (r.ordered ≡ q.ordered) × HasFront r

    pub cut-front : Goes d.low q.ordered d.sets → IsUncut (held_after_incomplete_skip t (held_after_unordered_skip t q))
    cut-front g = grind (arith, nat_tests, common_steps, stay, none-goes, same-front)

  -- ## A name of the stream comes

  -- which number is the next one then: that of the message behind the one that is named, if this one is not before the next
  pub skipped-next : (j last : ℕ) → last ≡ j % 2 ^ 16 → reach ≤ j + 1 + 2 ^ 14 → j < d.low + 2 ^ 15
      → (m : ℕ) × ((held_after_ordered_skip last q).next_ssn ≡ m % 2 ^ 16) × (d.index ≤ m) × ((m ≡ d.index) ⊎ (m ≡ j + 1))
  skipped-next j last is back near = at-if
      (λ z. (m : ℕ) × (z ≡ m % 2 ^ 16) × (d.index ≤ m) × ((m ≡ d.index) ⊎ (m ≡ j + 1))) (at_or_before16 q.next_ssn last)
      (λ e.
      let upto : d.index ≤ j = grind (arith, nat_tests, sym order ∙ e) in
      (j + 1, ap (λ m. (m + 1) % 2 ^ 16) is ∙ next16 j, omega (arith, upto), inr refl))
      (λ e. (d.index, d.next, omega arith, inl refl))
    where
      order : at_or_before16 q.next_ssn last ≡ nat_le d.index j
      order = grind (arith, nat_tests, common_steps, at_or_before16-index)

-- ## A message of which a place is held

module _ (p n : ℕ) (B : ℕ → ℕ) (Fits : ℕ → List ChunkPayloadData → Type 0) (Came : ℕ → Type 0) (reach : ℕ)
    (at-in : (i y : ℕ) (cs : List ChunkPayloadData) → y ≤ n → Fits i cs → list_any (has_tsn (tsn p y)) cs ≡ true → B y ≡ i + 1) where
  abbrev has : ℕ → ChunkSet → Bool
  has y s = list_any (has_tsn (tsn p y)) s.chunks

  some-in : (z : ℕ) (cs : List ChunkPayloadData) → list_any (has_tsn (tsn p z)) cs ≡ true → 0 < length cs
  some-in z [] e = absurd (not_both e)
  some-in z (c ∷ cs) e = omega arith

  -- it is held whole, or its set, which has all of its places that are held, is not complete
  abbrev pub IsOpenIn : ℕ → List ChunkSet → Type 0
  IsOpenIn i ss = (cs : List ChunkPayloadData) × Fits i cs × (0 < length cs) × (is_complete cs ≡ false)
      × ((y : ℕ) → y ≤ n → B y ≡ i + 1 → list_any (has y) ss ≡ true → list_any (has_tsn (tsn p y)) cs ≡ true)

  pub set-of : (z i : ℕ) → z ≤ n → B z ≡ i + 1 → (low : ℕ) (ss : List ChunkSet) → AreSets p n B Fits Came low reach ss → list_any (has z) ss ≡ true
      → IsHeldIn Fits i ss ⊎ IsOpenIn i ss
  set-of z i le count low [] r e = absurd (not_both e)
  set-of z i le count low (s ∷ ss) r e = elim (or-split (has z s) (list_any (has z) ss) e) [
    | inl f ↦
        let b = at-in r.0 z s.chunks le r.1.1 f in
        let same : r.0 ≡ i = omega (arith, b, count) in
        let fits = subst (λ x. Fits x s.chunks) same r.1.1 in
        by-test (is_complete s.chunks) (λ c. inl (inl (fits, c))) (λ c. inr (
          s.chunks,
          fits,
          some-in z s.chunks f,
          c,
          λ y most begun held. elim (or-split (has y s) (list_any (has y) ss) held) [
            | inl g ↦ g
            | inr g ↦ absurd (later-none p n B Fits Came at-in (r.0 + 1) reach y ss r.2 most (omega (arith, begun, same)) g)
          ],
        ))
    | inr f ↦
        let more : r.0 < i = elim (cases_lt r.0 i) [
          | inl lt ↦ lt
          | inr ge ↦ absurd (later-none p n B Fits Came at-in (r.0 + 1) reach z ss r.2 le (omega (arith, count, ge)) f)
        ] in
        elim (set-of z i le count (r.0 + 1) ss r.2 f) [
          | inl g ↦ inl (inr g)
          | inr g ↦ grind (arith, nat_tests, common_steps)
        ]
  ]
