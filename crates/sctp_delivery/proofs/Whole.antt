-- A message that was read has the whole range of places of each of its fragments.
use Rattle.sctp_delivery.proofs.Names.{common_steps, ◌≡◌, ℕ, ◌+◌, ◌<◌, ◌≤◌, ◌%◌, ◌^◌, true, false, List, [], ◌∷◌, length, inl, inr, ap, sym, subst, ◌∙◌, arith}
use Rattle.sctp_delivery.proofs.Names.{◌==◌, list_any, sum_by, cases_lt, eq-eqb, sum_by-append, nat_tests, or-left, or-right, or-split, same-is, both, not_both}
use Rattle.sctp_delivery.proofs.Names.{tsn, ChunkPayloadData, Data, data_of, completes, is_complete, Message, fragments_read, has_tsn}
use Rattle.sctp_delivery.proofs.Delivered.{EachSent}
use Rattle.sctp_delivery.proofs.Every.{Every}
use Rattle.sctp_delivery.proofs.FragmentPlaces.{Shows, part-place}
use Rattle.sctp_delivery.proofs.InTheEnd.{some-of}
use Rattle.sctp_delivery.proofs.KeptSets.{OnlyFirst}
use Rattle.sctp_delivery.proofs.ReadOnce.{none-count, one}
use Rattle.sctp_delivery.proofs.Sent.{Entry, IsLine, Numbered, WasSent, part-length, part-line}
use Rattle.sctp_delivery.proofs.TsnPlaces.{base, next-place, same-place}

-- a chunk of the place
pub record IsOn (p n : ℕ) (f : ℕ → Data) (c : ChunkPayloadData) (j : ℕ) : Type 0 where
  pub some : 0 < j
  pub within : j ≤ n
  pub is : c.tsn ≡ tsn p j
  pub data' : data_of c ≡ f j

-- on the stream complete messages were read, each of one message, of fragments that got TSNs
abbrev pub IsWholeOn : List Entry → ℕ → Message → Type 0
IsWholeOn sent st m = m.stream ≡ st → (is_complete m.fragments ≡ true) × OnlyFirst m.fragments × EachSent sent m.fragments

abbrev pub AreWholeOn : List Entry → ℕ → List Message → Type 0
AreWholeOn sent st ms = Every (IsWholeOn sent st) ms

module _ (ws : List Numbered) (first : ℕ) (sent : List Entry) (few : length sent < 2 ^ 31) (line : IsLine ws first sent)
    (f : ℕ → Data) (agr : Shows f sent) where
  abbrev p : ℕ
  p = base first

  abbrev n : ℕ
  n = length sent

  pub place-of : (c : ChunkPayloadData) → WasSent sent (data_of c) → (j : ℕ) × IsOn p n f c j
  place-of c s = grind (arith, part-line, part-length, part-place)

  -- the next TSN is that of the next place
  next-on : (c y : ChunkPayloadData) (j : ℕ) → IsOn p n f c j → WasSent sent (data_of y) → y.tsn ≡ (c.tsn + 1) % 2 ^ 32 → IsOn p n f y (j + 1)
  next-on c y j h s e =
      let k = place-of y s in
      let same : k.0 ≡ j + 1 = omega (arith, few, k.1.is, e, ap (λ t. (t + 1) % 2 ^ 32) h.is, next-place p j) in
      subst (IsOn p n f y) same k.1

  same-on : (c : ChunkPayloadData) (j i : ℕ) → IsOn p n f c j → i ≤ n → has_tsn (tsn p i) c ≡ true → j ≡ i
  same-on c j i h le e = let u = h.within in same-place p j i (omega (arith, u, few)) (omega (arith, le, few)) (sym h.is ∙ same-is c.tsn (tsn p i) e)

  -- what stands behind the first fragment
  back : (c : ChunkPayloadData) (cs : List ChunkPayloadData) (j : ℕ) → IsOn p n f c j → completes c cs ≡ true → EachSent sent cs
      → Every (λ (d : ChunkPayloadData). d.beginning_fragment ≡ false) cs
      → (i : ℕ) → i ≤ n → list_any (has_tsn (tsn p i)) (c ∷ cs) ≡ true → (j ≤ i) × ((l : ℕ) → j < l → l ≤ i → (f l).beginning_fragment ≡ false)
  back c [] j h e s g i le there = grind (arith, nat_tests, common_steps)
  back c (y ∷ ys) j h e s g i le there =
      let b = both (y.tsn == (c.tsn + 1) % 2 ^ 32) (completes y ys) e in
      let on = next-on c y j h s.0 (same-is y.tsn ((c.tsn + 1) % 2 ^ 32) b.0) in
      elim (or-split (has_tsn (tsn p i) c) (list_any (has_tsn (tsn p i)) (y ∷ ys)) there) [
        | inl k ↦ let same = same-on c j i h le k in (omega (arith, same), λ l lt short. absurd (omega (arith, same, lt, short)))
        | inr k ↦
            let ih = back y ys (j + 1) on b.1 s.1 g.1 i le k in
            let m = ih.0 in (
              omega (arith, m),
              λ l lt short. elim (cases_lt (j + 1) l) [
                | inl more ↦ ih.1 l more short
                | inr upto ↦ let it : l ≡ j + 1 = omega (arith, lt, upto) in
                    ap (λ x. (f x).beginning_fragment) it ∙ ap (λ (d : Data). d.beginning_fragment) (sym on.data') ∙ g.0
              ],
            )
      ]

  forth : (c : ChunkPayloadData) (cs : List ChunkPayloadData) (j : ℕ) → IsOn p n f c j → completes c cs ≡ true → EachSent sent cs → (i : ℕ) → j ≤ i
      → ((l : ℕ) → j ≤ l → l < i → (f l).ending_fragment ≡ false) → list_any (has_tsn (tsn p i)) (c ∷ cs) ≡ true
  forth c [] j h e s i le open' = grind (arith, nat_tests)
  forth c (y ∷ ys) j h e s i le open' = elim (cases_lt j i) [
    | inl lt ↦
        let b = both (y.tsn == (c.tsn + 1) % 2 ^ 32) (completes y ys) e in
        let on = next-on c y j h s.0 (same-is y.tsn ((c.tsn + 1) % 2 ^ 32) b.0) in
        or-right (has_tsn (tsn p i) c) (list_any (has_tsn (tsn p i)) (y ∷ ys))
        (forth y ys (j + 1) on b.1 s.1 i (omega (arith, lt)) (λ l from short. open' l (omega (arith, from)) short))
    | inr ge ↦ let same : j ≡ i = omega (arith, le, ge) in or-left (has_tsn (tsn p i) c) (list_any (has_tsn (tsn p i)) (y ∷ ys))
        (eq-eqb c.tsn (tsn p i) (h.is ∙ ap (tsn p) same))
  ]

  -- from its start `a` on the message of the place j goes up to k, at least
  module _ (a j k : ℕ) (begins : (f a).beginning_fragment ≡ true) (upto : a ≤ j) (inner : (l : ℕ) → a < l → l ≤ j → (f l).beginning_fragment ≡ false)
      (within : j ≤ n)
      (to : a ≤ k) (open' : (l : ℕ) → a ≤ l → l < k → (f l).ending_fragment ≡ false) where
    pub whole-of : (fs : List ChunkPayloadData) → is_complete fs ≡ true → OnlyFirst fs → EachSent sent fs → list_any (has_tsn (tsn p j)) fs ≡ true
        → list_any (has_tsn (tsn p k)) fs ≡ true
    whole-of [] e o s there = absurd (not_both there)
    whole-of (c ∷ cs) e o s there =
        let b = both c.beginning_fragment (completes c cs) e in
        let h = place-of c s.0 in
        let r = back c cs h.0 h.1 b.1 s.1 o j within there in
        let first' : (f h.0).beginning_fragment ≡ true = ap (λ (d : Data). d.beginning_fragment) (sym h.1.data') ∙ b.0 in
        let same : h.0 ≡ a = grind (arith, nat_tests, common_steps) in
        forth c cs a (subst (IsOn p n f c) same h.1) b.1 s.1 k to open'

    -- so where one place was read on the stream, the other was
    pub read-whole : (st : ℕ) (ms : List Message) → AreWholeOn sent st ms
        → 0 < sum_by (one (tsn p j)) (fragments_read st ms) → 0 < sum_by (one (tsn p k)) (fragments_read st ms)
    read-whole st [] all lt = absurd (omega (arith, lt))
    read-whole st (m ∷ ms) all lt = grind (arith, nat_tests, common_steps, sum_by-append, same-is, some-of, whole-of, none-count, read-whole st ms all.1)
