-- A walk over the places where something can come back, and over the blocks of a SACK.
use Rattle.sctp_sender.proofs.Names.{◌≡◌, ℕ, zero, suc, ◌+◌, ◌-◌, ◌<◌, ◌≤◌, true, false, List, [], ◌∷◌, length, take, drop, get_or, refl, ap, sym, subst, ◌∙◌}
use Rattle.sctp_sender.proofs.Names.{inl, inr, slice_get, None, arith, if◌then◌else◌, ◌&&◌, ◌||◌, not, nat_lt, cases_lt, false≢true, nat_tests, drop_more}
use Rattle.sctp_sender.proofs.Names.{get_or_default, take_more, take-append-drop, none-some, and-none, and-true, or-none, or-right, list_any-append, fails}
use Rattle.sctp_sender.proofs.Names.{ChunkPayloadData, GapAckBlock, is_in_block, is_in_blocks, ArePassed, can_at, return_at, returns_at, tells_of, ascends_from}
use Rattle.sctp_sender.proofs.Names.{is_reached}
use Rattle.std.specs.Prelude.{Option}
use Rattle.sctp_sender.proofs.Anew.{any-at, both, in-block, none-up-to}

abbrev pub no_block : GapAckBlock
no_block = record { start = 0; end = 0 }

-- ## Blocks that ascend, from one of them on

ascends-drop : (bs : List GapAckBlock) (last i : ℕ) → ascends_from last bs ≡ true → (more : ℕ) × (last ≤ more) × (ascends_from more (drop i bs) ≡ true)
ascends-drop bs last zero e = (last, omega arith, e)
ascends-drop [] last (suc i) e = (last, omega arith, refl)
ascends-drop (b ∷ bs) last (suc i) e =
    let h = both (nat_lt last b.start && _) (ascends_from b.end bs) e in
    let t = both (nat_lt last b.start) _ h.0 in
    let r = ascends-drop bs b.end i h.1 in
    (r.0, grind (arith, nat_tests, t.0, t.1, r.1), r.2)

-- the block at a place: it begins past 0, and the later ones behind it
pub record IsBlockAt (bs : List GapAckBlock) (i : ℕ) (b : GapAckBlock) : Type 0 where
  pub past : 0 < b.start
  pub runs : b.start ≤ b.end
  pub before : (n : ℕ) → n < b.start → is_in_blocks (drop i bs) n ≡ false

pub block-at : (bs : List GapAckBlock) (i : ℕ) (b : GapAckBlock) → ascends_from 0 bs ≡ true → i < length bs → b ≡ get_or bs i b → IsBlockAt bs i b
block-at bs i b e lt is =
    let d : drop i bs ≡ b ∷ drop (i + 1) bs = drop_more bs i b lt ∙ ap (λ x. x ∷ drop (i + 1) bs) (sym is) in
    let r = ascends-drop bs 0 i e in
    let all : ascends_from r.0 (b ∷ drop (i + 1) bs) ≡ true = subst (λ xs. ascends_from r.0 xs ≡ true) d r.2 in
    let h = both (nat_lt r.0 b.start && _) (ascends_from b.end (drop (i + 1) bs)) all in
    let t = both (nat_lt r.0 b.start) _ h.0 in
    let runs : b.start ≤ b.end = grind (arith, nat_tests, t.1) in
    record {
      past = grind (arith, nat_tests, t.0);
      runs = runs;
      before = λ n lt. ap (λ xs. is_in_blocks xs n) d
          ∙ ap (λ k. k || is_in_blocks (drop (i + 1) bs) n) (out n b lt)
          ∙ none-up-to (drop (i + 1) bs) b.end n h.1 (omega (arith, lt, runs));
    }
  where
    out : (n : ℕ) (b : GapAckBlock) → n < b.start → is_in_block n b ≡ false
    out n b lt = grind (arith, nat_tests, lt)

-- ## Blocks that are passed

pub passed-on : (count i : ℕ) (bs : List GapAckBlock) (place next : ℕ) → place ≤ next → ArePassed count i bs place → ArePassed count i bs next
passed-on count i bs place next le p n lt = p n (omega (arith, le, lt))

pub one-passed : (count i : ℕ) (bs : List GapAckBlock) (b : GapAckBlock) (place : ℕ) → i < length bs → b ≡ get_or bs i b → count + b.end ≤ place
    → ArePassed count i bs place → ArePassed count (i + 1) bs place
one-passed count i bs b place lt is le p n far =
    let out : is_in_block n b ≡ false = grind (arith, nat_tests, le, far) in
    ap (λ xs. is_in_blocks xs n) (take_more bs i b lt) ∙ list_any-append (is_in_block n) (take i bs) (get_or bs i b ∷ [])
    ∙ ap (λ k. k || is_in_blocks (get_or bs i b ∷ []) n) (p n far) ∙ or-none (is_in_block n (get_or bs i b)) ∙ ap (is_in_block n) (sym is) ∙ out

split : (i n : ℕ) (bs : List GapAckBlock) → is_in_blocks bs n ≡ (is_in_blocks (take i bs) n || is_in_blocks (drop i bs) n)
split i n bs = ap (λ xs. is_in_blocks xs n) (sym (take-append-drop i bs)) ∙ list_any-append (is_in_block n) (take i bs) (drop i bs)

-- what lies behind those that are passed, and before the next one, is in none
pub between : (count i : ℕ) (bs : List GapAckBlock) (place n : ℕ) → ArePassed count i bs place → place < count + n
    → ((b : GapAckBlock) → i < length bs → b ≡ get_or bs i b → n < b.start) → ascends_from 0 bs ≡ true → is_in_blocks bs n ≡ false
between count i bs place n p far next e = elim (cases_lt i (length bs)) [
  | inl lt ↦
      let b : GapAckBlock = get_or bs i no_block in
      let is : b ≡ get_or bs i b = get_or_default bs i no_block b lt in
      split i n bs ∙ ap (λ k. k || is_in_blocks (drop i bs) n) (p n far) ∙ (block-at bs i b e lt is).before n (next b lt is)
  | inr ge ↦ split i n bs ∙ ap (λ k. k || is_in_blocks (drop i bs) n) (p n far) ∙ ap (λ xs. is_in_blocks xs n) (drop-past i bs ge)
]
  where
    drop-past : (i : ℕ) (bs : List GapAckBlock) → length bs ≤ i → drop i bs ≡ []
    drop-past zero [] le = refl
    drop-past (suc i) [] le = refl
    drop-past zero (b ∷ bs) le = absurd (omega (arith, le))
    drop-past (suc i) (b ∷ bs) le = drop-past i bs (omega (arith, le))

-- ## The walk

pub record Walked (count : ℕ) (listed blocks : List GapAckBlock) (cs : List ChunkPayloadData) (from place i j : ℕ) : Type 0 where
  pub on : from ≤ place
  pub least : count ≤ place
  pub before : (k : ℕ) → from ≤ k → k < place → returns_at count blocks cs k ≡ false
  pub passed : ArePassed 0 i listed place
  pub reported : ArePassed count j blocks place

-- both lists ascend, and one reports each place at which something can come back
pub record AreListed (listed blocks : List GapAckBlock) (cs : List ChunkPayloadData) : Type 0 where
  pub ascend : ascends_from 0 listed ≡ true
  pub sorted : ascends_from 0 blocks ≡ true
  pub covered : (k : ℕ) → can_at cs k ≡ true → is_in_blocks listed (suc k) ≡ true

module _ {listed blocks : List GapAckBlock} {cs : List ChunkPayloadData} (are : AreListed listed blocks cs) where
  unlisted : (count k : ℕ) → is_in_blocks listed (suc k) ≡ false → returns_at count blocks cs k ≡ false
  unlisted count k e =
      let none : can_at cs k ≡ false = fails (can_at cs k) (λ h. false≢true (sym e ∙ are.covered k h)) in
      ap (λ b. b && not (is_reached count blocks k)) none

  reported-at : (count k : ℕ) → is_reached count blocks k ≡ true → returns_at count blocks cs k ≡ false
  reported-at count k e = ap (λ b. can_at cs k && not b) e ∙ and-none (can_at cs k)

  module _ {count from place i j : ℕ} (w : Walked count listed blocks cs from place i j) where
    moved : (next : ℕ) → place ≤ next → ((k : ℕ) → place ≤ k → k < next → returns_at count blocks cs k ≡ false) → Walked count listed blocks cs from next i j
    moved next le none = record {
      on = let h = w.on in omega (arith, le, h);
      least = let h = w.least in omega (arith, le, h);
      before = λ k low high. elim (cases_lt k place) [ inl lt ↦ w.before k low lt | inr ge ↦ none k ge high ];
      passed = passed-on 0 i listed place next le w.passed;
      reported = passed-on count j blocks place next le w.reported;
    }

    module _ (b : GapAckBlock) (lt : i < length listed) (is : b ≡ get_or listed i b) where
      -- to where the next run of what is listed begins
      pub to-start : (next : ℕ) → place ≤ next → ((k : ℕ) → place ≤ k → k < next → suc k < b.start) → Walked count listed blocks cs from next i j
      to-start next le near = moved next le (λ k low high. unlisted count k
          (between 0 i listed place (suc k) w.passed (omega (arith, low))
          (λ x less same. subst (λ (y : GapAckBlock). suc k < y.start) (at-one x b same is) (near k low high)) are.ascend))
        where
          at-one : (x b : GapAckBlock) → x ≡ get_or listed i x → b ≡ get_or listed i b → b ≡ x
          at-one x b f g = g ∙ get_or_default listed i b x lt ∙ sym f

      -- behind it
      pub past-run : b.end ≤ place → Walked count listed blocks cs from place (i + 1) j
      past-run le = record {
        on = w.on;
        least = w.least;
        before = w.before;
        passed = one-passed 0 i listed b place lt is (omega (arith, le)) w.passed;
        reported = w.reported;
      }

    module _ (b : GapAckBlock) (lt : j < length blocks) (is : b ≡ get_or blocks j b) where
      pub past-block : count + b.end ≤ place → Walked count listed blocks cs from place i (j + 1)
      past-block le = record {
        on = w.on;
        least = w.least;
        before = w.before;
        passed = w.passed;
        reported = one-passed count j blocks b place lt is le w.reported;
      }

      -- to the end of a block
      pub to-end : (next : ℕ) → count + b.start ≤ place + 1 → place ≤ next → next ≤ count + b.end → Walked count listed blocks cs from next i j
      to-end next start le end = moved next le (λ k low high.
          let there : is_in_block (suc k - count) (get_or blocks j b) ≡ true = ap (is_in_block (suc k - count)) (sym is)
          ∙ in-block (suc k - count) b (omega (arith, start, low)) (omega (arith, high, end)) in
          reported-at count k (or-right (nat_lt k count) (is_in_blocks blocks (suc k - count)) (any-at (is_in_block (suc k - count)) blocks j b lt there)))

    -- a place that no block reports
    pub unreached : ((b : GapAckBlock) → j < length blocks → b ≡ get_or blocks j b → place + 1 < count + b.start) → is_reached count blocks place ≡ false
    unreached next =
        let least = w.least in
        let out : is_in_blocks blocks (suc place - count) ≡ false = between count j blocks place (suc place - count) w.reported (omega (arith, least))
        (λ b lt is. let n = next b lt is in omega (arith, n, least)) are.sorted in
        let behind : nat_lt place count ≡ false = grind (arith, nat_tests, least) in
        ap (λ k. k || is_in_blocks blocks (suc place - count)) behind ∙ out

    pub looked-at : ((b : GapAckBlock) → j < length blocks → b ≡ get_or blocks j b → place + 1 < count + b.start)
        → returns_at count blocks cs place ≡ can_at cs place
    looked-at next = ap (λ k. can_at cs place && not k) (unreached next) ∙ and-true (can_at cs place)

    pub one-on : returns_at count blocks cs place ≡ false → Walked count listed blocks cs from (place + 1) i j
    one-on e = moved (place + 1) (omega arith) (λ k low high.
        let same : k ≡ place = omega (arith, low, high) in ap (returns_at count blocks cs) same ∙ e)

    -- where all runs are passed
    pub ended : length listed ≤ i → (k : ℕ) → from ≤ k → returns_at count blocks cs k ≡ false
    ended all k low = elim (cases_lt k place) [
      | inl lt ↦ w.before k low lt
      | inr ge ↦ unlisted count k (between 0 i listed place (suc k) w.passed (omega (arith, ge)) (λ b lt is. absurd (omega (arith, lt, all))) are.ascend)
    ]

pub can-none : (cs : List ChunkPayloadData) (k : ℕ) → slice_get cs k ≡ None → can_at cs k ≡ false
can-none [] zero e = refl
can-none [] (suc k) e = refl
can-none (d ∷ cs) zero e = absurd (none-some d (sym e))
can-none (d ∷ cs) (suc k) e = can-none cs k e

-- ## What comes back at a place

module _ (count : ℕ) (blocks : List GapAckBlock) (cs : List ChunkPayloadData) (ks : List (Option (List ℕ))) (k : ℕ) where
  pub none-at : returns_at count blocks cs k ≡ false → return_at count blocks cs ks k ≡ None
  none-at e = ap (λ b. if b && tells_of blocks (suc k - count) then get_or ks k None else None) e

  pub some-at : returns_at count blocks cs k ≡ true → tells_of blocks (suc k - count) ≡ true → return_at count blocks cs ks k ≡ get_or ks k None
  some-at e told = ap (λ b. if b && tells_of blocks (suc k - count) then get_or ks k None else None) e
      ∙ ap (λ b. if b then get_or ks k None else None) told

  pub untold-at : tells_of blocks (suc k - count) ≡ false → return_at count blocks cs ks k ≡ None
  untold-at e = ap (λ b. if b then get_or ks k None else None)
      (ap (λ b. returns_at count blocks cs k && b) e ∙ and-none (returns_at count blocks cs k))

  pub none-below : k < count → return_at count blocks cs ks k ≡ None
  none-below lt =
      let front : nat_lt k count ≡ true = grind (arith, nat_tests, lt) in
      none-at (ap (λ b. can_at cs k && not (b || is_in_blocks blocks (suc k - count))) front ∙ and-none (can_at cs k))

-- ## At the next run of what is listed

pub record IsAtRun (count : ℕ) (listed blocks : List GapAckBlock) (cs : List ChunkPayloadData) (from place i j next : ℕ) : Type 0 where
  pub some : 0 < (get_or listed i no_block).start
  pub is : get_or listed i no_block ≡ get_or listed i (get_or listed i no_block)
  pub on : place ≤ next
  pub walked : Walked count listed blocks cs from next i j
  pub lists : next < (get_or listed i no_block).end → is_in_blocks listed (suc next) ≡ true

pub at-run : {count : ℕ} {listed blocks : List GapAckBlock} {cs : List ChunkPayloadData} {from place i j : ℕ} → AreListed listed blocks cs
    → Walked count listed blocks cs from place i j → i < length listed → (next : ℕ) → place ≤ next
    → (get_or listed i no_block).start ≤ next + 1 → ((k : ℕ) → place ≤ k → k < next → suc k < (get_or listed i no_block).start)
    → IsAtRun count listed blocks cs from place i j next
at-run {count} {listed} {blocks} {cs} {from} {place} {i} {j} are w lt next on start near =
    let b : GapAckBlock = get_or listed i no_block in
    let is : b ≡ get_or listed i b = get_or_default listed i no_block b lt in
    record {
      some = (block-at listed i b are.ascend lt is).past;
      is = is;
      on = on;
      walked = to-start are w b lt is next on near;
      lists = λ less. any-at (is_in_block (suc next)) listed i b lt
          (ap (is_in_block (suc next)) (sym is) ∙ in-block (suc next) b (omega (arith, start)) (omega (arith, less)));
    }
