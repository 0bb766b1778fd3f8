-- Blocks that a walk puts one behind another: those that are left, or those of two lists.
use Rattle.sctp_sender.proofs.Names.{◌≡◌, ℕ, zero, suc, ◌+◌, ◌-◌, ◌<◌, ◌≤◌, Bool, true, false, List, [], ◌∷◌, length, take, get_or, refl, ap, sym, ◌∙◌, inl}
use Rattle.sctp_sender.proofs.Names.{inr, arith, ◌==◌, ◌&&◌, ◌||◌, not, nat_le, nat_lt, list_any, cases_lt, nat_tests, get_or_default, take_more, and-none}
use Rattle.sctp_sender.proofs.Names.{and-true, or-left, or-none, or-right, list_any-append, GapAckBlock, is_in_block, is_in_blocks, PlacedData, is_at}
use Rattle.sctp_sender.proofs.Names.{rises_from, ascends_from}
use Rattle.sctp_sender.proofs.Anew.{any-at, both, in-block}
use Rattle.sctp_sender.proofs.Covers.{neither}
use Rattle.sctp_sender.proofs.Returns.{between, no_block, one-passed, passed-on}

-- up to before a distance the blocks report exactly what is listed, place by place; and nothing from there on
pub record Swept (listed : ℕ → Bool) (bs : List GapAckBlock) (from : ℕ) : Type 0 where
  pub some : 0 < from
  pub ascend : ascends_from 0 bs ≡ true
  pub same : (k : ℕ) → is_in_blocks bs (suc k) ≡ (nat_lt (suc k) from && listed k)

module _ (listed : ℕ → Bool) where
  module _ (bs : List GapAckBlock) (from : ℕ) (w : Swept listed bs from) where
    pub behind : (n : ℕ) → from ≤ n → is_in_blocks bs n ≡ false
    behind zero le = let s = w.some in absurd (omega (arith, s, le))
    behind (suc k) le = let late : nat_lt (suc k) from ≡ false = grind (arith, nat_tests, le) in w.same k ∙ ap (λ a. a && listed k) late

    -- with a run behind it, up to before a further distance
    pub swept-on : (more : List GapAckBlock) (start end next : ℕ) → from ≤ start → from ≤ next → end < next → ascends_from 0 more ≡ true
        → ((n : ℕ) → is_in_blocks more n ≡ (is_in_blocks bs n || (nat_le start n && nat_le n end)))
        → ((k : ℕ) → from ≤ suc k → suc k < next → listed k ≡ (nat_le start (suc k) && nat_le (suc k) end)) → Swept listed more next
    swept-on more start end next low on short up put here = record {
      some = let s = w.some in omega (arith, s, on);
      ascend = up;
      same = λ k. put (suc k) ∙ elim (cases_lt (suc k) from) [
        | inl lt ↦ early k lt
        | inr ge ↦ ap (λ a. a || (nat_le start (suc k) && nat_le (suc k) end)) (behind (suc k) ge) ∙ late k ge
      ];
    }
      where
        early : (k : ℕ) → suc k < from → (is_in_blocks bs (suc k) || (nat_le start (suc k) && nat_le (suc k) end)) ≡ (nat_lt (suc k) next && listed k)
        early k lt =
            let out : nat_le start (suc k) ≡ false = grind (arith, nat_tests, lt, low) in
            let old : nat_lt (suc k) from ≡ true = grind (arith, nat_tests, lt) in
            let new : nat_lt (suc k) next ≡ true = grind (arith, nat_tests, lt, on) in
            ap (λ a. is_in_blocks bs (suc k) || (a && nat_le (suc k) end)) out ∙ or-none (is_in_blocks bs (suc k)) ∙ w.same k
            ∙ ap (λ a. a && listed k) (old ∙ sym new)

        late : (k : ℕ) → from ≤ suc k → (nat_le start (suc k) && nat_le (suc k) end) ≡ (nat_lt (suc k) next && listed k)
        late k ge = elim (cases_lt (suc k) next) [
          | inl lt ↦ (let new : nat_lt (suc k) next ≡ true = grind (arith, nat_tests, lt) in sym (here k ge lt) ∙ ap (λ a. a && listed k) (sym new))
          | inr far ↦ (
              let new : nat_lt (suc k) next ≡ false = grind (arith, nat_tests, far) in
              let out : nat_le (suc k) end ≡ false = grind (arith, nat_tests, far, short) in
              ap (λ a. nat_le start (suc k) && a) out ∙ no (nat_le start (suc k)) ∙ ap (λ a. a && listed k) (sym new)
              )
        ]
          where
            no : (a : Bool) → (a && false) ≡ false
            no true = refl
            no false = refl

-- ## A block that is come to

-- nothing from a distance on is in the first so many
abbrev pub NoneFrom : ℕ → ℕ → List GapAckBlock → Type 0
NoneFrom from i bs = (n : ℕ) → from ≤ n → is_in_blocks (take i bs) n ≡ false

module _ (bs : List GapAckBlock) (up : ascends_from 0 bs ≡ true) (from i : ℕ) (some : 0 < from) (past : NoneFrom from i bs) where
  passed : (n : ℕ) → from - 1 < 0 + n → is_in_blocks (take i bs) n ≡ false
  passed n lt = past n (omega (arith, lt, some))

  -- before the next block none reports
  pub none-before : (n : ℕ) → from ≤ n → (i < length bs → n < (get_or bs i no_block).start) → is_in_blocks bs n ≡ false
  none-before n le next = between 0 i bs (from - 1) n passed (omega (arith, le, some)) (λ b lt is.
      let same : b ≡ get_or bs i no_block = is ∙ get_or_default bs i b no_block lt in
      let start = ap (λ (x : GapAckBlock). x.start) same in
      let h = next lt in omega (arith, start, h)) up

  module _ (lt : i < length bs) where
    abbrev b : GapAckBlock
    b = get_or bs i no_block

    here : b ≡ get_or bs i b
    here = get_or_default bs i no_block b lt

    -- up to its end it alone reports
    pub at-block : (n : ℕ) → from ≤ n → n ≤ b.end → is_in_blocks bs n ≡ nat_le b.start n
    at-block n le end = elim (cases_lt n b.start) [
      | inl less ↦ (let no : nat_le b.start n ≡ false = grind (arith, nat_tests, less) in none-before n le (λ _. less) ∙ sym no)
      | inr ge ↦ (
          let yes : nat_le b.start n ≡ true = grind (arith, nat_tests, ge) in
          any-at (is_in_block n) bs i no_block lt (in-block n b ge end) ∙ sym yes
          )
    ]

    pub none-past : (next : ℕ) → from ≤ next → b.end < next → NoneFrom next (i + 1) bs
    none-past next on end n le =
        one-passed 0 i bs b (next - 1) lt here (omega (arith, end)) (passed-on 0 i bs (from - 1) (next - 1) (omega (arith, on)) passed) n
        (omega (arith, le, on, some))

pub none-on : (bs : List GapAckBlock) (from i next : ℕ) → from ≤ next → NoneFrom from i bs → NoneFrom next i bs
none-on bs from i next on past n le = past n (omega (arith, le, on))

-- ## Places with which something comes back

abbrev pub any_place : PlacedData
any_place = record { place = 0; user_data = [] }

none-under : (bs : List PlacedData) (n k : ℕ) → rises_from n bs ≡ true → k < n → list_any (is_at k) bs ≡ false
none-under [] n k up lt = refl
none-under (b ∷ bs) n k up lt =
    let h = both (nat_le n b.place) (rises_from (suc b.place) bs) up in
    let far = h.0 in
    let le : n ≤ b.place = grind (arith, nat_tests, far) in
    let no : (b.place == k) ≡ false = grind (arith, nat_tests, le, lt) in
    ap (λ a. a || list_any (is_at k) bs) no ∙ none-under bs (suc b.place) k h.1 (omega (arith, le, lt))

pub none-there : (bs : List PlacedData) (n i k : ℕ) → rises_from n bs ≡ true → (i < length bs → k < (get_or bs i any_place).place)
    → list_any (is_at k) (take i bs) ≡ false → list_any (is_at k) bs ≡ false
none-there [] n i k up next past = refl
none-there (b ∷ bs) n zero k up next past =
    let h = both (nat_le n b.place) (rises_from (suc b.place) bs) up in
    let lt = next (omega arith) in
    let no : (b.place == k) ≡ false = grind (arith, nat_tests, lt) in
    ap (λ a. a || list_any (is_at k) bs) no ∙ none-under bs (suc b.place) k h.1 (omega (arith, lt))
none-there (b ∷ bs) n (suc i) k up next past =
    let h = both (nat_le n b.place) (rises_from (suc b.place) bs) up in
    let p = neither (b.place == k) (list_any (is_at k) (take i bs)) past in
    ap (λ a. a || list_any (is_at k) bs) p.0 ∙ none-there bs (suc b.place) i k h.1 (λ lt. next (omega (arith, lt))) p.1

pub there-taken : (bs : List PlacedData) (i k : ℕ) → i < length bs → (get_or bs i any_place).place < k → list_any (is_at k) (take i bs) ≡ false
    → list_any (is_at k) (take (i + 1) bs) ≡ false
there-taken bs i k lt less past =
    let no : ((get_or bs i any_place).place == k) ≡ false = grind (arith, nat_tests, less) in
    ap (list_any (is_at k)) (take_more bs i any_place lt) ∙ list_any-append (is_at k) (take i bs) (get_or bs i any_place ∷ [])
    ∙ ap (λ a. a || list_any (is_at k) (get_or bs i any_place ∷ [])) past ∙ or-none ((get_or bs i any_place).place == k) ∙ no

-- ## Steps of the walks

-- the start of a run: the greater of two distances
pub record IsStart (from first start : ℕ) : Type 0 where
  pub low : from ≤ start
  pub on : first ≤ start
  pub least : (n : ℕ) → from ≤ n → first ≤ n → start ≤ n

start-is : (from first start n : ℕ) → IsStart from first start → from ≤ n → nat_le first n ≡ nat_le start n
start-is from first start n s le = elim (cases_lt n first) [
  | inl lt ↦ (
      let on = s.on in
      let a : nat_le first n ≡ false = grind (arith, nat_tests, lt) in
      let b : nat_le start n ≡ false = grind (arith, nat_tests, lt, on) in
      a ∙ sym b
      )
  | inr ge ↦ (
      let least = s.least n le ge in
      let a : nat_le first n ≡ true = grind (arith, nat_tests, ge) in
      let b : nat_le start n ≡ true = grind (arith, nat_tests, least) in
      a ∙ sym b
      )
]

within-end : (a : Bool) (n end : ℕ) → n ≤ end → a ≡ (a && nat_le n end)
within-end a n end le = let yes : nat_le n end ≡ true = grind (arith, nat_tests, le) in sym (ap (λ b. a && b) yes ∙ and-true a)

past-end : (a : Bool) (n end : ℕ) → end < n → false ≡ (a && nat_le n end)
past-end a n end lt = let no : nat_le n end ≡ false = grind (arith, nat_tests, lt) in sym (ap (λ b. a && b) no ∙ and-none a)

module _ (bs : List GapAckBlock) (up : ascends_from 0 bs ≡ true) (from i : ℕ) (some : 0 < from) (past : NoneFrom from i bs) (lt : i < length bs)
    (ps : List PlacedData) (rise : rises_from 0 ps ≡ true) (j : ℕ) (gone : (k : ℕ) → from ≤ suc k → list_any (is_at k) (take j ps) ≡ false)
    (start : ℕ) (is : IsStart from (get_or bs i no_block).start start) where
  left-here : (k : ℕ) → from ≤ suc k → suc k ≤ (get_or bs i no_block).end → (j < length ps → k < (get_or ps j any_place).place)
      → (is_in_blocks bs (suc k) && not (list_any (is_at k) ps)) ≡ nat_le start (suc k)
  left-here k low high ahead =
      ap (λ a. is_in_blocks bs (suc k) && not a) (none-there ps 0 j k rise ahead (gone k low)) ∙ and-true (is_in_blocks bs (suc k))
      ∙ at-block bs up from i some past lt (suc k) low high ∙ start-is from (get_or bs i no_block).start start (suc k) is low

  -- up to the next place with which something comes back
  pub left-to-place : j < length ps → (place : ℕ) → place ≡ (get_or ps j any_place).place → place < (get_or bs i no_block).end
      → (k : ℕ) → from ≤ suc k → suc k < place + 2
      → (is_in_blocks bs (suc k) && not (list_any (is_at k) ps)) ≡ (nat_le start (suc k) && nat_le (suc k) place)
  left-to-place less place there short k low high = elim (cases_lt k place) [
    | inl before ↦
        left-here k low (omega (arith, before, short)) (λ _. omega (arith, before, there))
        ∙ within-end (nat_le start (suc k)) (suc k) place (omega (arith, before))
    | inr ge ↦ (
        let same : ((get_or ps j any_place).place == k) ≡ true = grind (arith, nat_tests, ge, high, there) in
        ap (λ a. is_in_blocks bs (suc k) && not a) (any-at (is_at k) ps j any_place less same) ∙ and-none (is_in_blocks bs (suc k))
        ∙ past-end (nat_le start (suc k)) (suc k) place (omega (arith, ge))
        )
  ]

  -- up to the end of the block, where there is no such place before it
  pub left-to-end : (j < length ps → (get_or bs i no_block).end ≤ (get_or ps j any_place).place)
      → (k : ℕ) → from ≤ suc k → suc k ≤ (get_or bs i no_block).end
      → (is_in_blocks bs (suc k) && not (list_any (is_at k) ps)) ≡ (nat_le start (suc k) && nat_le (suc k) (get_or bs i no_block).end)
  left-to-end after k low high =
      left-here k low high (λ less. let h = after less in omega (arith, h, high)) ∙ within-end (nat_le start (suc k)) (suc k) (get_or bs i no_block).end high

-- ## Two lists of blocks, the second ones so many distances further

module _ (ss : List GapAckBlock) (sup : ascends_from 0 ss ≡ true) (ls : List GapAckBlock) (lup : ascends_from 0 ls ≡ true) (count from i j : ℕ)
    (some : 0 < from) (past : NoneFrom from i ss) (before : NoneFrom (count + from) j ls) where
  further : (k : ℕ) → is_in_blocks ls (suc (count + k)) ≡ is_in_blocks ls (count + suc k)
  further k = let e : suc (count + k) ≡ count + suc k = omega arith in ap (is_in_blocks ls) e

  pub some-further : 0 < count + from
  some-further = omega (arith, some)

  -- a block of the first list that begins no later than the next of the second
  pub ours-to-end : (lt : i < length ss) → (j < length ls → count + (get_or ss i no_block).start ≤ (get_or ls j no_block).start)
      → (start : ℕ) → IsStart from (get_or ss i no_block).start start → (k : ℕ) → from ≤ suc k → suc k ≤ (get_or ss i no_block).end
      → (is_in_blocks ss (suc k) || is_in_blocks ls (suc (count + k))) ≡ (nat_le start (suc k) && nat_le (suc k) (get_or ss i no_block).end)
  ours-to-end lt first start is k low high =
      one (nat_le (get_or ss i no_block).start (suc k)) refl
      ∙ start-is from (get_or ss i no_block).start start (suc k) is low ∙ within-end (nat_le start (suc k)) (suc k) (get_or ss i no_block).end high
    where
      at : is_in_blocks ss (suc k) ≡ nat_le (get_or ss i no_block).start (suc k)
      at = at-block ss sup from i some past lt (suc k) low high

      one : (b : Bool) → nat_le (get_or ss i no_block).start (suc k) ≡ b
          → (is_in_blocks ss (suc k) || is_in_blocks ls (suc (count + k))) ≡ nat_le (get_or ss i no_block).start (suc k)
      one true e = or-left (is_in_blocks ss (suc k)) (is_in_blocks ls (suc (count + k))) (at ∙ e) ∙ sym e
      one false e =
          let less : suc k < (get_or ss i no_block).start = grind (arith, nat_tests, e) in
          let none : is_in_blocks ls (count + suc k) ≡ false = none-before ls lup (count + from) j some-further before (count + suc k) (omega (arith, low))
          (λ lt. let h = first lt in omega (arith, h, less)) in
          ap (λ a. is_in_blocks ss (suc k) || a) (further k ∙ none) ∙ or-none (is_in_blocks ss (suc k)) ∙ at

  -- a block of the second list that begins before the next of the first
  pub theirs-to-end : (lt : j < length ls) → (i < length ss → (get_or ls j no_block).start < count + (get_or ss i no_block).start)
      → (start end : ℕ) → end ≡ (get_or ls j no_block).end - count → IsStart from ((get_or ls j no_block).start - count) start
      → (k : ℕ) → from ≤ suc k → suc k ≤ end
      → (is_in_blocks ss (suc k) || is_in_blocks ls (suc (count + k))) ≡ (nat_le start (suc k) && nat_le (suc k) end)
  theirs-to-end lt first start end far is k low high =
      one (nat_le (get_or ls j no_block).start (count + suc k)) refl ∙ same
      ∙ start-is from ((get_or ls j no_block).start - count) start (suc k) is low ∙ within-end (nat_le start (suc k)) (suc k) end high
    where
      same : nat_le (get_or ls j no_block).start (count + suc k) ≡ nat_le ((get_or ls j no_block).start - count) (suc k)
      same = grind (arith, nat_tests)

      at : is_in_blocks ls (count + suc k) ≡ nat_le (get_or ls j no_block).start (count + suc k)
      at = at-block ls lup (count + from) j some-further before lt (count + suc k) (omega (arith, low)) (omega (arith, high, far))

      one : (b : Bool) → nat_le (get_or ls j no_block).start (count + suc k) ≡ b
          → (is_in_blocks ss (suc k) || is_in_blocks ls (suc (count + k))) ≡ nat_le (get_or ls j no_block).start (count + suc k)
      one true e = or-right (is_in_blocks ss (suc k)) (is_in_blocks ls (suc (count + k))) (further k ∙ at ∙ e) ∙ sym e
      one false e =
          let less : count + suc k < (get_or ls j no_block).start = grind (arith, nat_tests, e) in
          let none : is_in_blocks ss (suc k) ≡ false = none-before ss sup from i some past (suc k) low (λ lt. let h = first lt in omega (arith, h, less)) in
          ap (λ a. a || is_in_blocks ls (suc (count + k))) none ∙ further k ∙ at
