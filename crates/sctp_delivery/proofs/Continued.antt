-- Behind a chunk in flight that does not end its message stands one of it, abandoned where it is: whatever is sent, abandoned, marked or
-- taken out.
use Rattle.sctp_delivery.proofs.Names.{common_steps, ◌≡◌, ℕ, zero, suc, ◌+◌, Bool, true, false, not, List, [], ◌∷◌, ◌++◌, map, take, drop, Option, Some, refl}
use Rattle.sctp_delivery.proofs.Names.{ap, ap₂, sym, ◌∙◌, arith, if◌then◌else◌, ◌==◌, filter, map-append, take-append-drop, none-some, nat_tests, change_where}
use Rattle.sctp_delivery.proofs.Names.{not_both, tsn, ChunkPayloadData, as_abandoned, is_of, Outbound, last_of, ends, partially_sent, IsRunFrom}
use Rattle.sctp_delivery.proofs.Names.{is_first_abandoned}
use Rattle.sctp_delivery.proofs.Cases.{at-test, by-test}
use Rattle.sctp_delivery.proofs.GivenTsns.{lead, rest-run}

-- ## What is so of the chunks in flight

-- of a chunk: its message, whether it ends it, and whether that is abandoned
abbrev pub Facts : Type 0
Facts = ℕ × Bool × Bool

abbrev pub facts : ChunkPayloadData → Facts
facts c = (c.message_id, c.ending_fragment, c.abandoned)

abbrev pub facts_of : List ChunkPayloadData → List Facts
facts_of cs = map facts cs

-- behind each that does not end its message stands one of it, abandoned or not as it is; the last of all ends its message, or that is
-- the partially sent one, and not abandoned
abbrev pub AreContinued : Option ℕ → List Facts → Type 0
AreContinued partial [] = Unit {0}
AreContinued partial (x ∷ []) = x.1 ≡ false → (partial ≡ Some x.0) × (x.2 ≡ false)
AreContinued partial (x ∷ y ∷ ys) = (x.1 ≡ false → (y.0 ≡ x.0) × (y.2 ≡ x.2)) × AreContinued partial (y ∷ ys)

abbrev pub IsContinued : Outbound → Type 0
IsContinued q = AreContinued (partially_sent q.pending) (facts_of q.inflight.chunks)

-- ## Without the first, and with a further one

pub rest-continued : (partial : Option ℕ) (x : Facts) (xs : List Facts) → AreContinued partial (x ∷ xs) → AreContinued partial xs
rest-continued partial x [] a = tt
rest-continued partial x (y ∷ ys) a = a.1

pub left-continued : (partial : Option ℕ) (n : ℕ) (xs : List Facts) → AreContinued partial xs → AreContinued partial (drop n xs)
left-continued partial zero xs a = a
left-continued partial (suc n) [] a = tt
left-continued partial (suc n) (x ∷ xs) a = left-continued partial n xs (rest-continued partial x xs a)

-- a chunk of the message that is partially sent, or of a new one, is sent
pub sent-continued : (partial next : Option ℕ) (m : ℕ) (e : Bool) (xs : List Facts) → ((j : ℕ) → partial ≡ Some j → m ≡ j) → (e ≡ false → next ≡ Some m)
    → AreContinued partial xs → AreContinued next (xs ++ (m, e, false) ∷ [])
sent-continued partial next m e [] on goes a = λ f. (goes f, refl)
sent-continued partial next m e (x ∷ []) on goes a = (λ f. let h = a f in (on x.0 h.0, sym h.1), λ f. (goes f, refl))
sent-continued partial next m e (x ∷ y ∷ ys) on goes a = (a.0, sent-continued partial next m e (y ∷ ys) on goes a.1)

-- ## A message is abandoned

abbrev pub gone_at : ℕ → Facts → Facts
gone_at m x = if x.0 == m then (x.0, x.1, true) else x

pub facts-abandoned : (m : ℕ) (cs : List ChunkPayloadData) → facts_of (change_where (is_of m) as_abandoned cs) ≡ map (gone_at m) (facts_of cs)
facts-abandoned m [] = refl
facts-abandoned m (c ∷ cs) = grind (arith, nat_tests, common_steps, facts-abandoned m cs)

same-number : (m : ℕ) (x : Facts) → (gone_at m x).0 ≡ x.0
same-number m x = elim (x.0 == m) as (λ b. (if b then (x.0, x.1, true) else x).0 ≡ x.0) [ true ↦ refl | false ↦ refl ]

same-end : (m : ℕ) (x : Facts) → (gone_at m x).1 ≡ x.1
same-end m x = elim (x.0 == m) as (λ b. (if b then (x.0, x.1, true) else x).1 ≡ x.1) [ true ↦ refl | false ↦ refl ]

-- two of one message stay alike
alike : (m : ℕ) (x y : Facts) → y.0 ≡ x.0 → y.2 ≡ x.2 → (gone_at m y).2 ≡ (gone_at m x).2
alike m x y same both = grind (arith, nat_tests)

pair-gone : (m : ℕ) (x y : Facts) → (x.1 ≡ false → (y.0 ≡ x.0) × (y.2 ≡ x.2))
    → (gone_at m x).1 ≡ false → ((gone_at m y).0 ≡ (gone_at m x).0) × ((gone_at m y).2 ≡ (gone_at m x).2)
pair-gone m x y p e = let h = p (sym (same-end m x) ∙ e) in (same-number m y ∙ h.0 ∙ sym (same-number m x), alike m x y h.0 h.1)

-- one that is not partially sent
pub abandoned-continued : (partial : Option ℕ) (m : ℕ) (xs : List Facts) → (partial ≡ Some m → ⊥) → AreContinued partial xs
    → AreContinued partial (map (gone_at m) xs)
abandoned-continued partial m [] other a = tt
abandoned-continued partial m (x ∷ []) other a = grind (arith, nat_tests, common_steps)
abandoned-continued partial m (x ∷ y ∷ ys) other a = (pair-gone m x y a.0, abandoned-continued partial m (y ∷ ys) other a.1)

-- the one that is: its terminal chunk stands behind its chunks
pub ended-continued : (partial next : Option ℕ) (m : ℕ) (xs : List Facts) → partial ≡ Some m → AreContinued partial xs
    → AreContinued next (map (gone_at m) xs ++ (m, true, true) ∷ [])
ended-continued partial next m [] is a = λ e. absurd (not_both (sym e))
ended-continued partial next m (x ∷ []) is a = grind (arith, nat_tests, common_steps)
ended-continued partial next m (x ∷ y ∷ ys) is a = (pair-gone m x y a.0, ended-continued partial next m (y ∷ ys) is a.1)

-- ## Other changes

pub facts-changed : (p : ChunkPayloadData → Bool) (f : ChunkPayloadData → ChunkPayloadData) → ((c : ChunkPayloadData) → facts (f c) ≡ facts c)
    → (cs : List ChunkPayloadData) → facts_of (change_where p f cs) ≡ facts_of cs
facts-changed p f same [] = refl
facts-changed p f same (c ∷ cs) =
    ap₂ (λ x xs. x ∷ xs) (at-test (λ b. facts (if b then f c else c) ≡ facts c) (p c) (λ e. same c) (λ e. refl)) (facts-changed p f same cs)

-- of the first so many
pub facts-part-changed : (p : ChunkPayloadData → Bool) (f : ChunkPayloadData → ChunkPayloadData) → ((c : ChunkPayloadData) → facts (f c) ≡ facts c)
    → (cs : List ChunkPayloadData) (i : ℕ) → facts_of (change_where p f (take i cs) ++ drop i cs) ≡ facts_of cs
facts-part-changed p f same cs i =
    map-append facts (change_where p f (take i cs)) (drop i cs) ∙ ap (λ xs. xs ++ facts_of (drop i cs)) (facts-changed p f same (take i cs))
    ∙ sym (map-append facts (take i cs) (drop i cs)) ∙ ap facts_of (take-append-drop i cs)

-- ## The chunks in front that are of abandoned messages

-- the last of them ends its message
pub record EndsThere (p place : ℕ) (cs : List ChunkPayloadData) : Type 0 where
  pub chunk : ChunkPayloadData
  pub last : last_of (filter ends (take (lead cs) cs)) ≡ Some chunk
  pub is : chunk.tsn ≡ tsn p (place + lead cs)

last-more : (c e : ChunkPayloadData) (cs : List ChunkPayloadData) → last_of cs ≡ Some e → last_of (c ∷ cs) ≡ Some e
last-more c e [] h = absurd (none-some e h)
last-more c e (d ∷ ds) h = h

pub lead-ends : (partial : Option ℕ) (p place : ℕ) (cs : List ChunkPayloadData) → AreContinued partial (facts_of cs) → IsRunFrom (tsn p (place + 1)) cs
    → is_first_abandoned cs ≡ true → EndsThere p place cs
lead-ends partial p place [] a run first = absurd (not_both first)
lead-ends partial p place (c ∷ cs) a run first = by cs refl a r.1
    (λ b. lead-ends partial p (place + 1) cs (rest-continued partial (facts c) (facts_of cs) a) r.1 b)
  where
    r : (c.tsn ≡ tsn p (place + 1)) × IsRunFrom (tsn p (place + 1 + 1)) cs
    r = rest-run p place c cs run

    is-lead : (k : ℕ) → lead cs ≡ k → lead (c ∷ cs) ≡ suc k
    is-lead k e = ap (λ b. if not b then 0 else lead cs + 1) first ∙ (let n : lead cs + 1 ≡ suc k = omega (arith, e) in n)

    -- the chunk in front ends it, and is the only one
    alone : lead cs ≡ 0 → c.ending_fragment ≡ true → EndsThere p place (c ∷ cs)
    alone none e =
        let n = is-lead 0 none in
        record {
          chunk = c;
          last = ap (λ k. last_of (filter ends (take k (c ∷ cs)))) n ∙ ap (λ b. last_of (if b then c ∷ [] else [])) e;
          is = r.0 ∙ ap (λ k. tsn p (place + k)) (sym n);
        }

    -- one behind it does
    behind : EndsThere p (place + 1) cs → EndsThere p place (c ∷ cs)
    behind i =
        let n = is-lead (lead cs) refl in
        let sum : place + 1 + lead cs ≡ place + lead (c ∷ cs) = omega (arith, n) in
        record {
          chunk = i.chunk;
          last = ap (λ k. last_of (filter ends (take k (c ∷ cs)))) n ∙ at-test
              (λ b. last_of (if b then c ∷ filter ends (take (lead cs) cs) else filter ends (take (lead cs) cs)) ≡ Some i.chunk) c.ending_fragment
              (λ e. last-more c i.chunk (filter ends (take (lead cs) cs)) i.last)
              (λ e. i.last);
          is = i.is ∙ ap (tsn p) sum;
        }

    by : (ds : List ChunkPayloadData) → cs ≡ ds → AreContinued partial (facts c ∷ facts_of ds) → IsRunFrom (tsn p (place + 1 + 1)) ds
        → (is_first_abandoned cs ≡ true → EndsThere p (place + 1) cs) → EndsThere p place (c ∷ cs)
    by [] e k run' ih = alone (ap lead e) (at-test (λ b. b ≡ true) c.ending_fragment (λ h. refl) (λ h. absurd (not_both (sym (k h).1 ∙ first))))
    by (d ∷ ds) e k run' ih = by-test d.abandoned
        (λ g. behind (ih (ap is_first_abandoned e ∙ g)))
        (λ g. alone (ap lead e ∙ ap (λ b. if not b then 0 else lead ds + 1) g) (at-test (λ b. b ≡ true) c.ending_fragment
        (λ h. refl)
        (λ h. absurd (not_both (sym g ∙ (k.0 h).1 ∙ first)))))
