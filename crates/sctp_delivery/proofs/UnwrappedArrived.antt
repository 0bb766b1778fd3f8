-- The fragments of a set by their places: where the set misses a TSN, a place of its message is missing.
use Rattle.sctp_delivery.proofs.Names.{◌≡◌, ℕ, ◌+◌, ◌-◌, ◌^◌, ◌<◌, ◌≤◌, true, false, not, List, [], ◌∷◌, length, inl, inr, refl, ap, sym, ◌∙◌, arith, ⊤, ◌==◌}
use Rattle.sctp_delivery.proofs.Names.{◌&&◌, ◌||◌, list_any, cases_lt, nat_tests, common_steps, at_or_before, negated, or-split, same-yes, both, not_both, tsn}
use Rattle.sctp_delivery.proofs.Names.{ChunkPayloadData, misses, misses_behind, following_tsn, has_tsn, preceding_tsn}
use Rattle.sctp_delivery.proofs.OrderedEntries.{AreJoined, begun_on, ends_on}
use Rattle.sctp_delivery.proofs.Sent.{Entry, part-itself}
use Rattle.sctp_delivery.proofs.SpreadEntries.{at-here, at-more, at-part, begun_to, is_at, joined-rest, step-up, to-all, to-most, to-more}
use Rattle.sctp_delivery.proofs.TsnPlaces.{next-place, upto-is}

-- n TSNs behind the base p. Q z: the place z is one of the message; all between two of these are
module _ (p n : ℕ) (few : n < 2 ^ 31) (Q : ℕ → Type 0) (among : (j k l : ℕ) → Q j → Q k → j ≤ l → l ≤ k → Q l) where
  -- the chunk has the TSN of a place of the message behind k, up to n. So is the next place, where it does not end the message, and the one
  -- before, where it does not begin it
  pub record IsBehind (k : ℕ) (c : ChunkPayloadData) : Type 0 where
    pub place : ℕ
    pub past : k < place
    pub within : place ≤ n
    pub is : c.tsn ≡ tsn p place
    pub of : Q place
    pub next : c.ending_fragment ≡ false → place + 1 ≤ n → Q (place + 1)
    pub prior : c.beginning_fragment ≡ false → Q (place - 1)

  -- their places rise
  abbrev pub Rising : ℕ → List ChunkPayloadData → Type 0
  Rising k [] = ⊤
  Rising k (c ∷ cs) = (b : IsBehind k c) × Rising b.place cs

  strictly : (j k : ℕ) → j ≤ k → (j ≡ k → ⊥) → j < k
  strictly j k le differ = elim (cases_lt j k) [ inl lt ↦ lt | inr ge ↦ absurd (differ (omega (arith, le, ge))) ]

  -- no chunk has the TSN of a place up to k
  pub none-upto : (j k : ℕ) (cs : List ChunkPayloadData) → j ≤ k → j ≤ n → Rising k cs → list_any (has_tsn (tsn p j)) cs ≡ false
  none-upto j k [] le most r = refl
  none-upto j k (c ∷ cs) le most r = grind (arith, nat_tests, common_steps, none-upto j r.0.place cs (omega (arith, le)) most r.1)

  -- a place of the message, at most m, whose TSN no chunk has
  pub record IsMissing (least m : ℕ) (cs : List ChunkPayloadData) : Type 0 where
    pub place : ℕ
    pub from : least ≤ place
    pub upto : place ≤ m
    pub absent : list_any (has_tsn (tsn p place)) cs ≡ false
    pub of : Q place

  module _ (m : ℕ) (le : m ≤ n) where
    -- the place behind a chunk
    behind : (k : ℕ) (x : ChunkPayloadData) (b : IsBehind k x) → at_or_before (following_tsn x.tsn) (tsn p m) ≡ true → b.place + 1 ≤ m
    behind k x b e = grind (arith, nat_tests, common_steps, next-place, upto-is)

    -- the chunk itself stands elsewhere
    off : (k j : ℕ) (x : ChunkPayloadData) (b : IsBehind k x) → b.place < j → j ≤ n → (x.tsn == tsn p j) ≡ false
    off k j x b lt most = grind (arith, nat_tests, common_steps)

    missing-behind : (k : ℕ) (x : ChunkPayloadData) (xs : List ChunkPayloadData) (b : IsBehind k x) → Rising b.place xs
        → misses_behind (tsn p m) x xs ≡ true → IsMissing (b.place + 1) m (x ∷ xs)
    missing-behind k x [] b r e =
        let f = both (not x.ending_fragment) (at_or_before (following_tsn x.tsn) (tsn p m)) e in
        let up = behind k x b f.1 in
        record {
          place = b.place + 1;
          from = omega arith;
          upto = up;
          absent = ap (λ t. t || false) (off k (b.place + 1) x b (omega arith) (omega (arith, up, le)));
          of = b.next (negated x.ending_fragment f.0) (omega (arith, up, le));
        }
    missing-behind k x (y ∷ ys) b r e =
        elim (or-split (not (y.tsn == following_tsn x.tsn) && at_or_before (following_tsn x.tsn) (tsn p m)) (misses_behind (tsn p m) y ys) e) [
          | inl a ↦
              let f = both (not (y.tsn == following_tsn x.tsn)) (at_or_before (following_tsn x.tsn) (tsn p m)) a in
              let up = behind k x b f.1 in
              let c = r.0 in
              let past = c.past in
              let next : following_tsn x.tsn ≡ tsn p (b.place + 1) = ap following_tsn b.is ∙ next-place p b.place in
              let apart : b.place + 1 ≡ c.place → ⊥ = λ same. not_both (sym (negated (y.tsn == following_tsn x.tsn) f.0)
              ∙ ap (λ t. t == following_tsn x.tsn) (c.is ∙ ap (tsn p) (sym same) ∙ sym next) ∙ same-yes (following_tsn x.tsn)) in
              let lt : b.place + 1 < c.place = strictly (b.place + 1) c.place (omega (arith, past)) apart in
              record {
                place = b.place + 1;
                from = omega arith;
                upto = up;
                absent = grind (arith, nat_tests, common_steps, off, none-upto);
                of = among b.place c.place (b.place + 1) b.of c.of (omega arith) (omega (arith, lt));
              }
          | inr a ↦
              let i = missing-behind b.place y ys r.0 r.1 a in
              let from = i.from in
              let upto = i.upto in
              record {
                place = i.place;
                from = omega (arith, from);
                upto = i.upto;
                absent = grind (arith, nat_tests, common_steps);
                of = i.of;
              }
        ]

    -- the place that a set misses
    pub missing : (cs : List ChunkPayloadData) → Rising 0 cs → misses (tsn p m) cs ≡ true → IsMissing 0 m cs
    missing [] r e = absurd (not_both e)
    missing (x ∷ xs) r e =
        elim (or-split (not x.beginning_fragment && at_or_before (preceding_tsn x.tsn) (tsn p m)) (misses_behind (tsn p m) x xs) e) [
          | inl a ↦
              let b = r.0 in
              let past = b.past in
              let w = b.within in
              let f = both (not x.beginning_fragment) (at_or_before (preceding_tsn x.tsn) (tsn p m)) a in
              let at : x.tsn ≡ tsn p (b.place - 1 + 1) = b.is ∙ ap (tsn p) {x = b.place} {y = b.place - 1 + 1} (omega (arith, past)) in
              let prior : preceding_tsn (tsn p (b.place - 1 + 1)) ≡ tsn p (b.place - 1) = omega arith in
              let up = upto-is p (b.place - 1) m (ap preceding_tsn at ∙ prior) refl (omega (arith, w, few)) (omega (arith, le, few)) f.1 in
              record {
                place = b.place - 1;
                from = omega arith;
                upto = up;
                absent = none-upto (b.place - 1) (b.place - 1) (x ∷ xs) (omega arith) (omega (arith, w))
                    (record { place = b.place; past = omega (arith, past); within = b.within; is = b.is; of = b.of; next = b.next; prior = b.prior }, r.1);
                of = b.prior (negated x.beginning_fragment f.0);
              }
          | inr a ↦
              let i = missing-behind 0 x xs r.0 r.1 a in
              record { place = i.place; from = omega arith; upto = i.upto; absent = i.absent; of = i.of }
        ]

-- ## What is missing is of the message

pub at-within : (st k : ℕ) (sent : List Entry) → is_at st k sent ≡ true → k ≤ length sent
at-within st k [] e = absurd (not_both e)
at-within st k (x ∷ xs) e = grind (arith, nat_tests, common_steps, at-within st k xs)

-- the last entry goes on with one of its message, where it begins none
ends-before : (st : ℕ) (y : Entry) (ys : List Entry) → AreJoined (y ∷ ys) → ends_on st (y ∷ ys) ≡ true → begun_on st (y ∷ ys) ≡ begun_on st ys
    → ends_on st ys ≡ true
ends-before h0 h1 h2 h3 h4 h5 = grind (arith, nat_tests, common_steps)

-- between two entries of one message all are of it
pub between : (st : ℕ) (sent : List Entry) → AreJoined sent → (j k l : ℕ) → is_at st j sent ≡ true → is_at st k sent ≡ true → j ≤ l → l ≤ k
    → begun_to st j sent ≡ begun_to st k sent → is_at st l sent ≡ true
between st [] joined j k l a b le most same = absurd (not_both a)
between st (y ∷ ys) joined j k l a b le most same = elim (cases_lt k (length (y ∷ ys))) [
  | inl lt ↦
      at-more st l y ys (omega (arith, lt, most))
      ∙ between st ys (joined-rest y ys joined) j k l (sym (at-more st j y ys (omega (arith, lt, le, most))) ∙ a)
      (sym (at-more st k y ys (omega (arith, lt))) ∙ b) le most
      (sym (to-more st j y ys (omega (arith, lt, le, most))) ∙ same ∙ to-more st k y ys (omega (arith, lt)))
  | inr ge ↦
      let last : k ≡ length (y ∷ ys) = omega (arith, ge, at-within st k (y ∷ ys) b) in
      elim (cases_lt l k) [
        | inr up ↦ let it : l ≡ k = omega (arith, up, most) in ap (λ m. is_at st m (y ∷ ys)) it ∙ b
        | inl less ↦
            let here = to-more st j y ys (omega (arith, last, less, le)) in
            let all = to-all st k (y ∷ ys) ge in
            let none : begun_on st (y ∷ ys) ≡ begun_on st ys = omega (arith, here, all, to-most st j ys, step-up st y ys, same) in
            let ends : ends_on st (y ∷ ys) ≡ true = sym (at-here st y ys k last) ∙ b in
            let prior = ends-before st y ys joined ends none in
            at-more st l y ys (omega (arith, last, less))
            ∙ between st ys (joined-rest y ys joined) j (length ys) l (sym (at-more st j y ys (omega (arith, last, less, le))) ∙ a)
            (at-part st ys ys (part-itself ys) ∙ prior) le (omega (arith, last, less))
            (let whole = to-all st (length ys) ys (omega arith) in omega (arith, here, all, same, none, whole))
      ]
]
