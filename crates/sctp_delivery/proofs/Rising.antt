-- Chunks in the order of their places: one more put in, some taken out, and the run of one message among them.
use Rattle.sctp_delivery.proofs.Names.{common_steps, ◌≡◌, ℕ, zero, suc, ◌+◌, ◌-◌, ◌<◌, ◌≤◌, ◌%◌, ◌^◌, Bool, true, false, List, [], ◌∷◌, ◌++◌, length, take}
use Rattle.sctp_delivery.proofs.Names.{drop, inl, inr, refl, ap, sym, subst, ◌∙◌, arith, ⊤, All, if◌then◌else◌, nat_lt, slice_index_or, list_any, cases_lt}
use Rattle.sctp_delivery.proofs.Names.{nat_tests, insert_before, comes_before, pairs_cons, not_both, tsn, ChunkPayloadData, Data, data_of, chunk_before}
use Rattle.sctp_delivery.proofs.Names.{has_tsn, IsRun}
use Rattle.std.specs.Prelude.{IsTrue}
use Rattle.sctp_serial.specs.Window.{IsSerial}
use Rattle.sctp_delivery.proofs.Every.{Every, every-at}
use Rattle.sctp_delivery.proofs.TsnPlaces.{before, next-place, tsn-small}
use Rattle.sctp_delivery.proofs.Sessions.{neither}

-- the chunk has the TSN of a place, from the lowest one on and among the first n
abbrev pub IsPlaced : ℕ → ℕ → ℕ → ℕ → ChunkPayloadData → Type 0
IsPlaced p n low k c = (low ≤ k) × (k ≤ n) × (c.tsn ≡ tsn p k)

-- from chunk to chunk the place rises
abbrev pub Ascend : ℕ → ℕ → ℕ → List ChunkPayloadData → Type 0
Ascend p n low [] = ⊤
Ascend p n low (c ∷ cs) = (k : ℕ) × IsPlaced p n low k c × Ascend p n (k + 1) cs

-- each of these places has a chunk
abbrev pub Covers : ℕ → ℕ → ℕ → List ChunkPayloadData → Type 0
Covers p a b cs = (j : ℕ) → a ≤ j → j ≤ b → list_any (has_tsn (tsn p j)) cs ≡ true

module _ (p n : ℕ) (few : n < 2 ^ 31) where
  pub ascend-from : (low less : ℕ) (cs : List ChunkPayloadData) → less ≤ low → Ascend p n low cs → Ascend p n less cs
  ascend-from low less [] le a = tt
  ascend-from low less (c ∷ cs) le a = let m = a.1.0 in (a.0, (omega (arith, m, le), a.1.1, a.1.2), a.2)

  pub ascend-inserted : (low k : ℕ) (x : ChunkPayloadData) (cs : List ChunkPayloadData) → IsPlaced p n low k x → list_any (has_tsn x.tsn) cs ≡ false
      → Ascend p n low cs → Ascend p n low (insert_before chunk_before x cs)
  ascend-inserted low k x [] at none a = (k, at, tt)
  ascend-inserted low k x (c ∷ cs) at none a = by (chunk_before x c) refl
      (λ i. ascend-inserted (a.0 + 1) k x cs i (neither (has_tsn x.tsn c) (list_any (has_tsn x.tsn) cs) none).1 a.2)
    where
      j : ℕ
      j = a.0

      order : chunk_before x c ≡ nat_lt k j
      order =
          ap (λ t. comes_before t c.tsn) at.2 ∙ ap (comes_before (tsn p k)) a.1.2 ∙ before p k j (omega (arith, few)) (omega (arith, few))

      by : (b : Bool) → chunk_before x c ≡ b → (IsPlaced p n (a.0 + 1) k x → Ascend p n (a.0 + 1) (insert_before chunk_before x cs))
          → Ascend p n low (if b then x ∷ c ∷ cs else c ∷ insert_before chunk_before x cs)
      by h0 h1 h2 = grind (arith, nat_tests, common_steps, order, cases_lt)

  ascend-drop : (low m : ℕ) (cs : List ChunkPayloadData) → Ascend p n low cs → Ascend p n low (drop m cs)
  ascend-drop low zero cs a = a
  ascend-drop low (suc m) [] a = tt
  ascend-drop low (suc m) (c ∷ cs) a = let le = a.1.0 in ascend-drop low m cs (ascend-from (a.0 + 1) low cs (omega (arith, le)) a.2)

  pub ascend-cut : (low first m : ℕ) (cs : List ChunkPayloadData) → Ascend p n low cs → Ascend p n low (take first cs ++ drop (first + m) cs)
  ascend-cut low zero m cs a = subst (λ k. Ascend p n low (drop k cs)) {x = m} {y = zero + m} (omega arith) (ascend-drop low m cs a)
  ascend-cut low (suc first) m [] a = grind (arith, nat_tests, common_steps)
  ascend-cut low (suc first) m (c ∷ cs) a =
      let next : suc (first + m) ≡ suc first + m = omega arith in
      subst (λ k. Ascend p n low (c ∷ (take first cs ++ drop k (c ∷ cs)))) next (a.0, a.1, ascend-cut (a.0 + 1) first m cs a.2)

  later : (c : ChunkPayloadData) (k : ℕ) → k ≤ n → c.tsn ≡ tsn p k → (low : ℕ) (cs : List ChunkPayloadData) → k < low → Ascend p n low cs
      → All (λ y. IsTrue (comes_before c.tsn y.tsn)) cs
  later c k le e low [] lt a i d short = absurd (omega (arith, short))
  later c k le e low (y ∷ ys) lt a zero d short =
      let less : nat_lt k a.0 ≡ true = (let m : k < a.0 = omega (arith, lt) in grind (arith, nat_tests)) in
      let it : comes_before c.tsn y.tsn ≡ true = cc (e, a.1.2, before p k a.0 (omega (arith, le, few)) (omega (arith, few)), less) in
      it
  later c k le e low (y ∷ ys) lt a (suc i) d short = let u = a.1.0 in later c k le e (a.0 + 1) ys (omega (arith, lt, u)) a.2 i d (omega (arith, short))

  pub ascend-serial : (low : ℕ) (cs : List ChunkPayloadData) → Ascend p n low cs → IsSerial cs
  ascend-serial low [] a = record { in_range = λ i d short. absurd (omega (arith, short)); ascending = λ i j d lt short. absurd (omega (arith, short)) }
  ascend-serial low (c ∷ cs) a =
      let ih = ascend-serial (a.0 + 1) cs a.2 in
      record {
        in_range = range ih.in_range;
        ascending = pairs_cons (λ x y. IsTrue (comes_before x.tsn y.tsn)) c cs (later c a.0 a.1.1 a.1.2 (a.0 + 1) cs (omega arith) a.2) ih.ascending;
      }
    where
      range : All (λ x. x.tsn < 2 ^ 32) cs → All (λ x. x.tsn < 2 ^ 32) (c ∷ cs)
      range ih zero d short = subst (λ t. t < 2 ^ 32) (sym a.1.2) (tsn-small p a.0)
      range ih (suc i) d short = ih i d (omega (arith, short))

  -- ## What stands there

  none-below : (j low : ℕ) (cs : List ChunkPayloadData) → j < low → Ascend p n low cs → list_any (has_tsn (tsn p j)) cs ≡ false
  none-below j low [] lt a = refl
  none-below j low (c ∷ cs) lt a = grind (arith, nat_tests, common_steps, none-below j (a.0 + 1) cs (omega (arith, lt)) a.2)

  -- where the first of these places is the lowest one, it is that of the first chunk
  head-is : (a b : ℕ) (c : ChunkPayloadData) (cs : List ChunkPayloadData) (x : Ascend p n a (c ∷ cs)) → a ≤ b → Covers p a b (c ∷ cs) → x.0 ≡ a
  head-is a b c cs x le covers = grind (arith, nat_tests, common_steps, cases_lt, not_both, none-below)

  covers-rest : (a b k : ℕ) (c : ChunkPayloadData) (cs : List ChunkPayloadData) → c.tsn ≡ tsn p k → k < a → b ≤ n → Covers p a b (c ∷ cs) → Covers p a b cs
  covers-rest a b k c cs e lt le covers j from to = grind (arith, nat_tests, common_steps)

  -- they stand side by side
  side : (a b : ℕ) (cs : List ChunkPayloadData) → Ascend p n a cs → a ≤ b → b ≤ n → Covers p a b cs → (j : ℕ) → a + j ≤ b → (j < length cs)
      × ((d : ChunkPayloadData) → (slice_index_or cs j d).tsn ≡ tsn p (a + j))
  side a b [] x le top covers j to = absurd (not_both (covers a (omega arith) le))
  side a b (c ∷ cs) x le top covers zero to = (
    omega arith,
    λ d. x.1.2 ∙ ap (tsn p) {x = x.0} {y = a + zero}
        (let h = head-is a b c cs x le covers in omega (arith, h)),
  )
  side a b (c ∷ cs) x le top covers (suc j) to =
      let h = head-is a b c cs x le covers in
      let rest = covers-rest (a + 1) b x.0 c cs x.1.2 (omega (arith, h)) top (λ i from upto. covers i (omega (arith, from)) upto) in
      let ih = side (a + 1) b cs (subst (λ k. Ascend p n (k + 1) cs) h x.2) (omega (arith, to)) top rest j (omega (arith, to)) in
      (omega arith, λ d. ih.1 d ∙ ap (tsn p) {x = a + 1 + j} {y = a + suc j} (omega arith))

  -- and begin at some place in the list
  pub record IsSide (a b : ℕ) (cs : List ChunkPayloadData) : Type 0 where
    pub first : ℕ
    pub within : (j : ℕ) → a + j ≤ b → first + j < length cs
    pub tsns : (j : ℕ) (d : ChunkPayloadData) → a + j ≤ b → (slice_index_or cs (first + j) d).tsn ≡ tsn p (a + j)

  pub side-by-side : (low a b : ℕ) (cs : List ChunkPayloadData) → Ascend p n low cs → a ≤ b → b ≤ n → Covers p a b cs → IsSide a b cs
  side-by-side low a b [] x le top covers = absurd (not_both (covers a (omega arith) le))
  side-by-side low a b (c ∷ cs) x le top covers = by (λ lt. side-by-side (x.0 + 1) a b cs x.2 le top (covers-rest a b x.0 c cs x.1.2 lt top covers))
    where
      by : (x.0 < a → IsSide a b cs) → IsSide a b (c ∷ cs)
      by ih = elim (cases_lt x.0 a) [
        | inl lt ↦
            let r = ih lt in
            record {
              first = suc r.first;
              within = λ j to. let w = r.within j to in omega (arith, w);
              tsns = λ j d to. subst (λ k. (slice_index_or (c ∷ cs) k d).tsn ≡ tsn p (a + j)) {x = suc (r.first + j)} {y = suc r.first + j} (omega arith)
                  (r.tsns j d to);
            }
        | inr ge ↦
            let y : Ascend p n a (c ∷ cs) = (x.0, (ge, x.1.1, x.1.2), x.2) in
            record {
              first = 0;
              within = λ j to. let s = (side a b (c ∷ cs) y le top covers j to).0 in omega (arith, s);
              tsns = λ j d to. subst (λ k. (slice_index_or (c ∷ cs) k d).tsn ≡ tsn p (a + j)) {x = j} {y = 0 + j} (omega arith)
                  ((side a b (c ∷ cs) y le top covers j to).1 d);
            }
      ]

  -- ## A complete message

  -- each chunk is the one of its place
  abbrev pub IsOf : (ℕ → Data) → ChunkPayloadData → Type 0
  IsOf f c = (k : ℕ) → 0 < k → k ≤ n → c.tsn ≡ tsn p k → data_of c ≡ f k

  module _ (f : ℕ → Data) (a b : ℕ) (some : 0 < a) (le : a ≤ b) (top : b ≤ n) (begins : (f a).beginning_fragment ≡ true)
      (ends : (f b).ending_fragment ≡ true) (inner : (j : ℕ) → a < j → j ≤ b → (f j).beginning_fragment ≡ false) where
    -- it is a run, where all of it stands there
    pub run-of : (low : ℕ) (cs : List ChunkPayloadData) → Ascend p n low cs → Covers p a b cs → Every (IsOf f) cs → (first : ℕ) × (count : ℕ)
        × IsRun cs first count
    run-of low cs x covers of = (
      s.first,
      suc (b - a),
      record {
        some = omega arith;
        in_range = let w = s.within (b - a) (omega (arith, le)) in omega (arith, w);
        begins = λ d. ap (λ k. (slice_index_or cs k d).beginning_fragment) {x = s.first} {y = s.first + 0} (omega arith)
            ∙ ap (λ (y : Data). y.beginning_fragment) (is 0 d (omega (arith, le))) ∙ ap (λ k. (f k).beginning_fragment) {x = a + 0} {y = a} (omega arith)
            ∙ begins;
        no_other = λ k d lt short.
            let j = k - s.first in
            let e : k ≡ s.first + j = omega (arith, lt) in
            ap (λ i. (slice_index_or cs i d).beginning_fragment) e ∙ ap (λ (y : Data). y.beginning_fragment) (is j d (omega (arith, lt, short, le)))
            ∙ inner (a + j) (omega (arith, lt)) (omega (arith, lt, short, le));
        rising = λ k d ge short.
            let j = k - s.first in
            let e : k ≡ s.first + j = omega (arith, ge) in
            let g : k + 1 ≡ s.first + (j + 1) = omega (arith, ge) in
            let now = ap (λ i. (slice_index_or cs i d).tsn) e ∙ s.tsns j d (omega (arith, ge, short, le)) in
            let next = ap (λ i. (slice_index_or cs i d).tsn) g ∙ s.tsns (j + 1) d (omega (arith, ge, short, le)) in
            next ∙ ap (tsn p) {x = a + (j + 1)} {y = a + j + 1} (omega arith) ∙ sym (next-place p (a + j)) ∙ ap (λ t. (t + 1) % 2 ^ 32) (sym now);
        ends = λ d.
            let e : s.first + suc (b - a) - 1 ≡ s.first + (b - a) = omega arith in
            ap (λ k. (slice_index_or cs k d).ending_fragment) e ∙ ap (λ (y : Data). y.ending_fragment) (is (b - a) d (omega (arith, le)))
            ∙ ap (λ k. (f k).ending_fragment) {x = a + (b - a)} {y = b} (omega (arith, le)) ∙ ends;
      },
    )
      where
        s : IsSide a b cs
        s = side-by-side low a b cs x le top covers

        is : (j : ℕ) (d : ChunkPayloadData) → a + j ≤ b → data_of (slice_index_or cs (s.first + j) d) ≡ f (a + j)
        is j d to = every-at (IsOf f) cs (s.first + j) d (s.within j to) of (a + j) (omega (arith, some)) (omega (arith, to, top)) (s.tsns j d to)
