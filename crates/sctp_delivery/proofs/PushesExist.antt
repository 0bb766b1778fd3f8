-- Each chunk that comes makes something of its stream's queue: of fragments there is a run that ends earliest, or there is none.
use Rattle.sctp_delivery.proofs.Names.{common_steps, ◌≡◌, ℕ, zero, suc, ◌+◌, ◌-◌, ◌%◌, ◌^◌, ◌<◌, ◌≤◌, Bool, true, false, List, [], ◌∷◌, ◌++◌, length, get_or}
use Rattle.sctp_delivery.proofs.Names.{take, drop, inl, inr, refl, ap, sym, subst, ◌∙◌, arith, ◌⊎◌, if◌then◌else◌, cases_lt, nat_tests, get_or_default}
use Rattle.sctp_delivery.proofs.Names.{insert_before, not_both, ChunkPayloadData, Reassembly, ReassemblyState, set_of_run, chunk_before, is_on, HasNoRun}
use Rattle.sctp_delivery.proofs.Names.{IsEarliestRun, IsRun, filter, list_any, same-is, ChunkForwardTsnStream, last_of, Name}
use Rattle.std.specs.Prelude.{max}
use Rattle.sctp_reassembly.specs.reassembly_queue.ReassemblyQueue.{PushesUnordered, count_up}
use Rattle.sctp_sender.specs.Abandonment.{pair_of}

-- ## Searching

-- what is so, or is not
abbrev Decided : Type 0 → Type 0
Decided P = P ⊎ (P → ⊥)

-- of the numbers below n the first of which it is so, or none
abbrev FirstBelow : (ℕ → Type 0) → ℕ → Type 0
FirstBelow P n =
    ((k : ℕ) × (k < n) × P k × ((j : ℕ) → j < n → P j → k ≤ j)) ⊎ ((j : ℕ) → j < n → P j → ⊥)

first-below : (P : ℕ → Type 0) → ((k : ℕ) → Decided (P k)) → (n : ℕ) → FirstBelow P n
first-below P decide zero = inr (λ j lt. absurd (omega (arith, lt)))
first-below P decide (suc n) = by (first-below P decide n) (decide n)
  where
    by : FirstBelow P n → Decided (P n) → FirstBelow P (suc n)
    by h0 h1 = grind (arith, nat_tests, common_steps)

-- of each number below n it is so, or of one it is not
each-below : (P : ℕ → Type 0) → ((k : ℕ) → Decided (P k)) → (n : ℕ) → Decided ((k : ℕ) → k < n → P k)
each-below P decide n = by (first-below (λ k. P k → ⊥) (λ k. refuted (decide k)) n)
  where
    refuted : {Q : Type 0} → Decided Q → Decided (Q → ⊥)
    refuted (inl q) = inr (λ none. none q)
    refuted (inr none) = inl none

    by : FirstBelow (λ k. P k → ⊥) n → Decided ((k : ℕ) → k < n → P k)
    by (inl f) = inr (λ all. f.2 (all f.0 f.1))
    by (inr none) = inl (λ k lt. elim (decide k) [ inl h ↦ h | inr h ↦ absurd (none k lt h) ])

either : (b c : Bool) → Decided (b ≡ c)
either h0 h1 = grind (arith, nat_tests, common_steps)

-- where both are decided
pair : {P Q : Type 0} → Decided P → Decided Q → Decided (P × Q)
pair h0 h1 = grind (arith, nat_tests, common_steps)

-- ## Runs

module _ (xs : List ChunkPayloadData) (x : ChunkPayloadData) where
  -- the fragment at a place
  abbrev at : ℕ → ChunkPayloadData
  at k = get_or xs k x

  -- no fragment of the run but the first begins, and TSNs rise by one
  abbrev Inner : ℕ → ℕ → Type 0
  Inner f k = f ≤ k → ((at (k + 1)).beginning_fragment ≡ false) × ((at (k + 1)).tsn ≡ ((at k).tsn + 1) % 2 ^ 32)

  inner : (f k : ℕ) → Decided (Inner f k)
  inner f k = grind (arith, nat_tests, common_steps)

  -- what a run is, asked at its places
  abbrev Parts : ℕ → ℕ → Type 0
  Parts f e =
      (((at f).beginning_fragment ≡ true) × ((at (e - 1)).ending_fragment ≡ true))
      × ((k : ℕ) → k < e - 1 → Inner f k)

  parts : (f e : ℕ) → Decided (Parts f e)
  parts f e = pair (pair (either (at f).beginning_fragment true) (either (at (e - 1)).ending_fragment true)) (each-below (Inner f) (inner f) (e - 1))

  module _ (f e : ℕ) (lt : f < e) (le : e ≤ length xs) where
    here : (k : ℕ) (d : ChunkPayloadData) → k < length xs → get_or xs k d ≡ at k
    here k d less = get_or_default xs k d x less

    run-of-parts : Parts f e → IsRun xs f (e - f)
    run-of-parts p = record {
      some = omega (arith, lt);
      in_range = omega (arith, lt, le);
      begins = λ d. ap (λ (c : ChunkPayloadData). c.beginning_fragment) (here f d (omega (arith, lt, le))) ∙ p.0.0;
      no_other = λ k d more less.
          let same : k ≡ (k - 1) + 1 = omega (arith, more) in
          ap (λ (c : ChunkPayloadData). c.beginning_fragment) (here k d (omega (arith, less, le, lt)))
          ∙ ap (λ j. (at j).beginning_fragment) same ∙ (p.1 (k - 1) (omega (arith, more, less, lt)) (omega (arith, more))).0;
      rising = λ k d from less.
          ap (λ (c : ChunkPayloadData). c.tsn) (here (k + 1) d (omega (arith, from, less, lt, le)))
          ∙ (p.1 k (omega (arith, from, less, lt)) from).1
          ∙ ap (λ (c : ChunkPayloadData). (c.tsn + 1) % 2 ^ 32) (sym (here k d (omega (arith, from, less, lt, le))));
      ends = grind (arith, nat_tests, common_steps);
    }

    parts-of-run : IsRun xs f (e - f) → Parts f e
    parts-of-run r = grind (arith, nat_tests, common_steps)

  -- a run from there that ends there
  abbrev RunOf : ℕ → ℕ → Type 0
  RunOf e f = (f < e) × IsRun xs f (e - f)

  -- a run that ends there
  abbrev RunTo : ℕ → Type 0
  RunTo e = (e ≤ length xs) × ((f : ℕ) × RunOf e f)

  run-to : (e : ℕ) → Decided (RunTo e)
  run-to e = elim (cases_lt (length xs) e) [
    | inl long ↦ inr (λ r. omega (arith, long))
    | inr le ↦ by le (first-below (RunOf e) (λ f. decided le f) e)
  ]
    where
      decided : e ≤ length xs → (f : ℕ) → Decided (RunOf e f)
      decided le f = elim (cases_lt f e) [
        | inr ge ↦ inr (λ r. omega (arith, ge))
        | inl lt ↦ elim (parts f e) [
          | inl p ↦ inl (lt, run-of-parts f e lt le p)
          | inr none ↦ inr (λ r. none (parts-of-run f e lt le r.1))
        ]
      ]

      by : e ≤ length xs → FirstBelow (RunOf e) e → Decided (RunTo e)
      by le (inl f) = inl (le, (f.0, f.2))
      by le (inr none) = inr (λ r. none r.1.0 r.1.1.0 r.1.1)

  run-ends : (f n : ℕ) → IsRun xs f n → RunTo (f + n)
  run-ends f n r =
      let range = r.in_range in
      let same : n ≡ f + n - f = omega arith in
      (range, (f, (omega arith, subst (IsRun xs f) same r)))

  -- the run that ends earliest, or there is none
  pub earliest-or-none : ((first : ℕ) × (count : ℕ) × IsEarliestRun xs first count) ⊎ HasNoRun xs
  earliest-or-none = elim (first-below RunTo run-to (length xs + 1)) [
    | inr none ↦ inr (λ f n r. let range = r.in_range in none (f + n) (omega (arith, range)) (run-ends f n r))
    | inl e ↦ inl (
      e.2.1.0,
      e.0 - e.2.1.0,
      record {
        run = e.2.1.1.1;
        earliest = λ f n r.
            omega (arith, e.3 (f + n) (omega arith) (run-ends f n r));
      },
    )
  ]

-- ## A chunk comes

module _ (c : ChunkPayloadData) (old : ReassemblyState) where
  abbrev all : List ChunkPayloadData
  all = insert_before chunk_before c old.held.unassembled

  -- what it makes, and whether a message became complete by it
  pub record IsPushed : Type 0 where
    pub complete : Bool
    pub new : ReassemblyState
    pub pushed : PushesUnordered c old new complete

  abbrev after : Reassembly → ReassemblyState
  after held = record old {
    held = held;
    bytes = count_up old.bytes (length c.user_data);
    places = max old.places (length old.held.unassembled + 1);
  }

  pub unordered-pushed : IsPushed
  unordered-pushed = elim (earliest-or-none all c) [
    | inl r ↦ record {
      complete = true;
      new = after (record old.held {
        unassembled = take r.0 all ++ drop (r.0 + r.1) all;
        unordered = old.held.unordered ++ set_of_run (take r.1 (drop r.0 all)) ∷ [];
      });
      pushed = (record { first = r.0; count = r.1; run = r.2; moved = refl }, refl);
    }
    | inr none ↦ record {
      complete = false;
      new = after (record old.held { unassembled = all });
      pushed = ((none, refl), refl);
    }
  ]

-- # Of any chunks there are pairs that name them: of each stream the last one

-- each chunk has its pair, unless a later one is on its stream
abbrev pub names : List ChunkPayloadData → List ChunkForwardTsnStream
names [] = []
names (c ∷ cs) = if list_any (is_on c.stream_identifier) cs then names cs else pair_of c ∷ names cs

none-on : (s : ℕ) (cs : List ChunkPayloadData) → list_any (is_on s) cs ≡ false → filter (is_on s) cs ≡ []
none-on s [] e = refl
none-on s (c ∷ cs) e = grind (arith, nat_tests, common_steps, none-on s cs)

-- one in front of some changes nothing
last-same : (s : ℕ) (c : ChunkPayloadData) (cs : List ChunkPayloadData) → list_any (is_on s) cs ≡ true
    → last_of (c ∷ filter (is_on s) cs) ≡ last_of (filter (is_on s) cs)
last-same s c [] e = absurd (not_both e)
last-same s c (d ∷ ds) e = grind (arith, nat_tests, common_steps, last-same s c ds)

pub named : (cs : List ChunkPayloadData) → Name (names cs) cs
named [] s = refl
named (c ∷ cs) s = grind (arith, nat_tests, common_steps, last-same, same-is, none-on, named cs s)
