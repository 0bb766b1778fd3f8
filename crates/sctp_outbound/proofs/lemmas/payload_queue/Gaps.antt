-- Distances along held chunks, and the blocks of those in reach.
use Rattle.std.proofs.Common.{◌≡◌, ◌==◌, ◌||◌, ◌&&◌, ◌+◌, ◌-◌, ◌%◌, ◌^◌, ◌<◌, ◌≤◌, ℕ, zero, suc, Bool, true, false, IsTrue, if◌then◌else◌, List, [], ◌∷◌, ◌++◌}
use Rattle.std.proofs.Common.{map, length, get_or, take, drop, get_or-drop, length-drop, Some, inl, inr, refl, sym, ap, ap₂, ◌∙◌, subst, arith, append-nil}
use Rattle.std.proofs.Common.{append_assoc, length-append}
use Rattle.std.specs.Prelude.{nat_le}
use Rattle.std.specs.List.{All, list_any, slice_get, filter}
use Rattle.std.specs.Option.{option_map}
use Rattle.std.proofs.lemmas.Bool.{cases_lt, cases_eq}
use Rattle.std.proofs.lemmas.Bool.Decides.{nat_tests}
use Rattle.std.proofs.lemmas.List.{get_or_default, get_or-take, length-take, map-append, map_more, take-append-drop}
use Rattle.std.proofs.lemmas.List.Elements.{All-head, All-tail}
use Rattle.std.proofs.lemmas.List.Folds.{list_any_more, list_any_none}
use Rattle.sctp_data.specs.declared.chunk.chunk_selective_ack.GapAckBlock.{GapAckBlock}
use Rattle.sctp_data.specs.declared.chunk.chunk_payload_data.ChunkPayloadData.{ChunkPayloadData}
use Rattle.sctp_util.specs.Kept.{put_before_runs, runs_of}
use Rattle.sctp_util.specs.Serial.{distance, comes_before, at_or_before}
use Rattle.sctp_util.proofs.Edits.{those-append, list_any-append, or_assoc}
use Rattle.sctp_util.proofs.Distances.{distance_cases, before_is, distance_by_before}
use Rattle.sctp_serial.specs.Runs.{IsRising}
use Rattle.sctp_serial.specs.Window.{IsSerial, IsHeldAt, IsPlaceFor, IsWithinHalf, SpansOneWindow}
use Rattle.sctp_outbound.proofs.lemmas.payload_queue.Marked.{any_chunk}
use Rattle.sctp_outbound.specs.payload_queue.Blocks.{AscendsFrom, IsFirstAfter, IsRunUntil, is_offset, is_reported, is_in_blocks, gap_offsets, ends_of}
use Rattle.sctp_util.proofs.Cases.{or-none}
use Rattle.sctp_serial.proofs.lemmas.AscendingEdits.{distance_self}

-- ## Distances

-- one farther is the next number
pub next_of : (a x y : ℕ) → a < 2 ^ 32 → x < 2 ^ 32 → y < 2 ^ 32 → distance a y ≡ distance a x + 1 → y ≡ (x + 1) % 2 ^ 32
next_of a x y ha hx hy e = elim (distance_cases a x ha hx) [
  | inl p ↦ elim (distance_cases a y ha hy) [ inl q ↦ omega arith | inr q ↦ omega arith ]
  | inr p ↦ elim (distance_cases a y ha hy) [ inl q ↦ omega arith | inr q ↦ omega arith ]
]

-- and the next number, where it is farther, is one farther
pub one_farther : (a x y : ℕ) → a < 2 ^ 32 → x < 2 ^ 32 → y < 2 ^ 32 → y ≡ (x + 1) % 2 ^ 32 → distance a x < distance a y → distance a y ≡ distance a x + 1
one_farther a x y ha hx hy e lt = elim (distance_cases a x ha hx) [
  | inl p ↦ elim (distance_cases a y ha hy) [ inl q ↦ omega arith | inr q ↦ omega arith ]
  | inr p ↦ elim (distance_cases a y ha hy) [ inl q ↦ omega arith | inr q ↦ omega arith ]
]

module _ (xs : List ChunkPayloadData) (serial : IsSerial xs) (i : ℕ) (d : ChunkPayloadData) where
  -- how far the chunk at a place lies after the one at i
  abbrev far : ℕ → ℕ
  far k = distance (get_or xs i d).tsn (get_or xs k d).tsn

  step_far : (k : ℕ) → i ≤ k → k + 1 < length xs → far k < far (k + 1)
  step_far k le short = elim (cases_lt i k) [
    | inl above ↦
        let p = before_is (get_or xs i d).tsn (get_or xs k d).tsn (serial.ascending i k d above (omega arith)) in
        let q = before_is (get_or xs i d).tsn (get_or xs (k + 1) d).tsn (serial.ascending i (k + 1) d (omega arith) short) in
        distance_by_before (get_or xs i d).tsn (get_or xs k d).tsn (get_or xs (k + 1) d).tsn (serial.in_range i d (omega arith))
        (serial.in_range k d (omega arith)) (serial.in_range (k + 1) d short)
        p.0 (omega (arith, p)) q.0 (omega (arith, q)) (serial.ascending k (k + 1) d (omega arith) short)
    | inr at ↦
        let here : far k ≡ 0 = subst (λ j. distance (get_or xs i d).tsn (get_or xs j d).tsn ≡ 0) {x = i} (omega arith)
        (distance_self (get_or xs i d).tsn (serial.in_range i d (omega arith))) in
        let q = before_is (get_or xs i d).tsn (get_or xs (k + 1) d).tsn (serial.ascending i (k + 1) d (omega arith) short) in
        omega (arith, q)
  ]

  spread : (k n : ℕ) → i ≤ k → k + n < length xs → far k + n ≤ far (k + n)
  spread k zero le short = subst (λ j. far k + 0 ≤ far j) {x = k} (omega arith) (omega arith)
  spread k (suc n) le short =
      let before = spread k n le (omega arith) in
      let more = step_far (k + n) (omega arith) (omega arith) in
      subst (λ j. far k + suc n ≤ far j) {x = k + n + 1} (omega arith) (omega arith)

  -- so there are at most half a circle of places
  pub few : i + 1 < length xs → (k : ℕ) → i < k → k < length xs → k < i + 2 ^ 31
  few some k lt short =
      let own : far i ≡ 0 = distance_self (get_or xs i d).tsn (serial.in_range i d (omega arith)) in
      let p = before_is (get_or xs i d).tsn (get_or xs k d).tsn (serial.ascending i k d lt short) in
      let s : far i + (k - i) ≤ far k = subst (λ j. far i + (k - i) ≤ far j) {x = i + (k - i)} (omega arith) (spread i (k - i) (omega arith) (omega arith)) in
      omega (arith, p)

  -- a place lies at least as far after i as places are between, and less than half a circle
  pub far_enough : (k : ℕ) → i ≤ k → k < length xs → (k - i ≤ far k) × (far k < 2 ^ 31)
  far_enough k le short =
      let own : far i ≡ 0 = distance_self (get_or xs i d).tsn (serial.in_range i d (omega arith)) in
      let s : far i + (k - i) ≤ far k = subst (λ j. far i + (k - i) ≤ far j) {x = i + (k - i)} (omega arith) (spread i (k - i) (omega arith) (omega arith)) in (
        omega arith,
        elim (cases_lt i k) [
          | inl later ↦ (before_is (get_or xs i d).tsn (get_or xs k d).tsn (serial.ascending i k d later short)).1
          | inr at ↦ subst (λ j. far j < 2 ^ 31) {x = i} (omega arith) (omega arith)
        ],
      )

  -- as far as the places are apart, so is each between
  pub rising_from_distance : (s : ℕ) → i + s < length xs → far (i + s) ≡ s → IsRising xs i (i + s)
  rising_from_distance s short e k c le lt =
      let own : far i ≡ 0 = distance_self (get_or xs i d).tsn (serial.in_range i d (omega arith)) in
      let low : far i + (k - i) ≤ far k = subst (λ j. far i + (k - i) ≤ far j) {x = i + (k - i)} (omega arith) (spread i (k - i) (omega arith) (omega arith)) in
      let more = step_far k le (omega arith) in
      let high : far (k + 1) + (i + s - (k + 1)) ≤ far (i + s) = subst (λ j. far (k + 1) + (i + s - (k + 1)) ≤ far j) {x = k + 1 + (i + s - (k + 1))}
      (omega arith) (spread (k + 1) (i + s - (k + 1)) (omega arith) (omega arith)) in
      subst (λ (x : ChunkPayloadData). (get_or xs (k + 1) c).tsn ≡ (x.tsn + 1) % 2 ^ 32) (get_or_default xs k d c (omega arith))
      (subst (λ (y : ChunkPayloadData). y.tsn ≡ ((get_or xs k d).tsn + 1) % 2 ^ 32) (get_or_default xs (k + 1) d c (omega arith))
      (next_of (get_or xs i d).tsn (get_or xs k d).tsn (get_or xs (k + 1) d).tsn (serial.in_range i d (omega arith)) (serial.in_range k d (omega arith))
      (serial.in_range (k + 1) d (omega arith)) (omega arith)))

  pub distance_from_rising : (s : ℕ) → i + s < length xs → IsRising xs i (i + s) → far (i + s) ≡ s
  distance_from_rising zero short r = subst (λ j. far j ≡ 0) {x = i} (omega arith) (distance_self (get_or xs i d).tsn (serial.in_range i d (omega arith)))
  distance_from_rising (suc s) short r =
      let before = distance_from_rising s (omega arith) (λ k c le lt. r k c le (omega arith)) in
      let more = step_far (i + s) (omega arith) (omega arith) in
      let next = one_farther (get_or xs i d).tsn (get_or xs (i + s) d).tsn (get_or xs (i + s + 1) d).tsn (serial.in_range i d (omega arith))
      (serial.in_range (i + s) d (omega arith)) (serial.in_range (i + s + 1) d (omega arith)) (r (i + s) d (omega arith) (omega arith)) more in
      subst (λ j. far j ≡ suc s) {x = i + s + 1} (omega arith) (omega arith)

-- one run behind another
pub rising_on : (xs : List ChunkPayloadData) (first middle last : ℕ) → IsRising xs first middle → IsRising xs middle last → IsRising xs first last
rising_on xs first middle last p q k d le lt = elim (cases_lt k middle) [ inl low ↦ p k d le low | inr high ↦ q k d high lt ]

-- a look some places ahead of one whose TSN is known
module _ (xs : List ChunkPayloadData) (serial : IsSerial xs) (place tsn step ahead : ℕ) (short : place + step < length xs)
    (number : (d : ChunkPayloadData) → (get_or xs place d).tsn ≡ tsn) (read : (d : ChunkPayloadData) → (get_or xs (place + step) d).tsn ≡ ahead) where
  apart : distance (get_or xs place any_chunk).tsn (get_or xs (place + step) any_chunk).tsn ≡ distance tsn ahead
  apart = ap₂ distance (number any_chunk) (read any_chunk)

  pub rises_ahead : distance tsn ahead ≡ step → IsRising xs place (place + step)
  rises_ahead e = rising_from_distance xs serial place any_chunk step short (apart ∙ e)

  pub breaks_ahead : (distance tsn ahead ≡ step → ⊥) → IsRising xs place (place + step) → ⊥
  breaks_ahead differs r = differs (sym apart ∙ distance_from_rising xs serial place any_chunk step short r)

-- a run that ends before a place where it breaks ends there for good
pub run_cut : (xs : List ChunkPayloadData) (first middle cut end last : ℕ) → cut < end → end ≤ length xs → first ≤ middle → IsRising xs first middle
    → (IsRising xs middle cut → ⊥) → IsRunUntil xs cut middle last → IsRunUntil xs end first last
run_cut xs first middle cut end last lt short le rising breaks run = record {
  from = omega (arith, run.from);
  to = omega (arith, run.to);
  rising = rising_on xs first middle last rising run.rising;
  stops = λ within d next. elim (cases_lt (last + 1) cut) [
    | inl low ↦ run.stops low d next
    | inr at ↦ breaks (λ k c ge below. elim (cases_lt k last) [
      | inl before ↦ run.rising k c ge before
      | inr here ↦
          let same : last ≡ k = omega (arith, run.to) in
          subst (λ (x : ChunkPayloadData). (get_or xs (k + 1) c).tsn ≡ (x.tsn + 1) % 2 ^ 32) (get_or_default xs k d c (omega (arith, run.to)))
          (subst (λ (y : ChunkPayloadData). y.tsn ≡ ((get_or xs k d).tsn + 1) % 2 ^ 32) (get_or_default xs (k + 1) d c (omega (arith, run.to)))
          (subst (λ j. (get_or xs (j + 1) d).tsn ≡ ((get_or xs j d).tsn + 1) % 2 ^ 32) same next))
    ])
  ];
}

-- ## Where the chunks after a TSN begin

within : (a b : ℕ) → at_or_before a b ≡ true → distance a b < 2 ^ 31
unfolding at_or_before
within a b h = grind (arith, nat_tests)

not_within : (a b : ℕ) → at_or_before a b ≡ false → 2 ^ 31 ≤ distance a b
unfolding at_or_before
not_within a b h = grind (arith, nat_tests)

too_far : (n : ℕ) → 2 ^ 16 ≤ n → is_offset n ≡ false
too_far n h = grind (arith, nat_tests)

-- a number before the TSN lies nearly a circle after it
out_before : (cumulative x : ℕ) → cumulative < 2 ^ 32 → x < 2 ^ 32 → IsTrue (comes_before x cumulative) → is_offset (distance cumulative x) ≡ false
out_before cumulative x hc hx h = let p = before_is x cumulative h in too_far (distance cumulative x) (elim (distance_cases cumulative x hc hx) [
  | inl q ↦ elim (distance_cases x cumulative hx hc) [ inl r ↦ omega (arith, p) | inr r ↦ omega (arith, p) ]
  | inr q ↦ elim (distance_cases x cumulative hx hc) [ inl r ↦ omega (arith, p) | inr r ↦ omega (arith, p) ]
])

-- from a number that is neither the TSN nor before it, distances only add up
beyond : (c a x : ℕ) → c < 2 ^ 32 → a < 2 ^ 32 → x < 2 ^ 32 → 2 ^ 31 ≤ distance a c → distance a x < 2 ^ 31
    → (distance c x ≡ distance c a + distance a x) × (0 < distance c a)
beyond c a x hc ha hx far near = elim (distance_cases a c ha hc) [
  | inl p ↦ elim (distance_cases c a hc ha) [
    | inl q ↦ absurd (omega arith)
    | inr q ↦ elim (distance_cases a x ha hx) [
      | inl r ↦ elim (distance_cases c x hc hx) [ inl s ↦ (omega arith, omega arith) | inr s ↦ (omega arith, omega arith) ]
      | inr r ↦ elim (distance_cases c x hc hx) [ inl s ↦ (omega arith, omega arith) | inr s ↦ (omega arith, omega arith) ]
    ]
  ]
  | inr p ↦ elim (distance_cases c a hc ha) [
    | inl q ↦ elim (distance_cases a x ha hx) [
      | inl r ↦ elim (distance_cases c x hc hx) [ inl s ↦ (omega arith, omega arith) | inr s ↦ (omega arith, omega arith) ]
      | inr r ↦ elim (distance_cases c x hc hx) [ inl s ↦ (omega arith, omega arith) | inr s ↦ (omega arith, omega arith) ]
    ]
    | inr q ↦ absurd (omega arith)
  ]
]

-- seen from just before a, all is one farther
from_before : (b a y : ℕ) → b ≡ (a + (2 ^ 32 - 1)) % 2 ^ 32 → a < 2 ^ 32 → y < 2 ^ 32 → distance a y < 2 ^ 31 → IsWithinHalf b y
from_before b a y e ha hy near = elim (distance_cases a y ha hy) [
  | inl p ↦ elim (distance_cases b y (omega arith) hy) [ inl q ↦ (omega arith, omega arith) | inr q ↦ (omega arith, omega arith) ]
  | inr p ↦ elim (distance_cases b y (omega arith) hy) [ inl q ↦ (omega arith, omega arith) | inr q ↦ (omega arith, omega arith) ]
]

module _ (cumulative : ℕ) (xs : List ChunkPayloadData) (fits : cumulative < 2 ^ 32) (serial : IsSerial xs) where
  -- all that comes after the TSN ascends
  ascends_behind : (place : ℕ) → ((k : ℕ) (d : ChunkPayloadData) → place ≤ k → k < length xs → IsTrue (comes_before cumulative (get_or xs k d).tsn))
      → AscendsFrom cumulative xs place
  ascends_behind place behind = record {
    after = λ k d le short. (before_is cumulative (get_or xs k d).tsn (behind k d le short)).0;
    farther = λ i j d le lt short.
        let p = before_is cumulative (get_or xs i d).tsn (behind i d le (omega arith)) in
        let q = before_is cumulative (get_or xs j d).tsn (behind j d (omega arith) short) in
        distance_by_before cumulative (get_or xs i d).tsn (get_or xs j d).tsn fits (serial.in_range i d (omega arith))
        (serial.in_range j d short) p.0 (omega (arith, p)) q.0 (omega (arith, q)) (serial.ascending i j d lt short);
  }

  pub first_found : (place : ℕ) (x : ChunkPayloadData) → IsHeldAt xs cumulative place x → IsFirstAfter cumulative xs (place + 1)
  first_found place x held = record {
    in_range = omega (arith, held.in_range);
    before = λ k d lt. elim (cases_lt k place) [
      | inl low ↦ out_before cumulative (get_or xs k d).tsn fits (serial.in_range k d (omega (arith, held.in_range)))
          (subst (λ t. IsTrue (comes_before (get_or xs k d).tsn t)) (number d) (serial.ascending k place d low held.in_range))
      | inr at ↦ subst (λ j. is_offset (distance cumulative (get_or xs j d).tsn) ≡ false) {x = place} (omega arith)
          (subst (λ t. is_offset (distance cumulative t) ≡ false) (sym (number d)) (ap is_offset (distance_self cumulative fits)))
    ];
    ascends = ascends_behind (place + 1)
        (λ k d le short. subst (λ t. IsTrue (comes_before t (get_or xs k d).tsn)) (number d) (serial.ascending place k d (omega arith) short));
  }
    where
      number : (d : ChunkPayloadData) → (get_or xs place d).tsn ≡ cumulative
      number d = ap (λ (y : ChunkPayloadData). y.tsn) (get_or_default xs place d x held.in_range ∙ held.value) ∙ held.number

-- the first number, where there is one
pub front_is : (xs : List ChunkPayloadData) (tsn : ℕ) → Some tsn ≡ option_map (λ c. c.tsn) (slice_get xs 0) → (d : ChunkPayloadData)
    → (0 < length xs) × ((get_or xs 0 d).tsn ≡ tsn)
front_is [] tsn e d = absurd (cc)
front_is (x ∷ xs) tsn e d = (omega arith, cc)

module _ (cumulative : ℕ) (xs : List ChunkPayloadData) (fits : cumulative < 2 ^ 32) (serial : IsSerial xs) (front : ℕ)
    (read : (d : ChunkPayloadData) → (0 < length xs) × ((get_or xs 0 d).tsn ≡ front)) where
  -- how far a later chunk lies after the front
  near : (k : ℕ) (d : ChunkPayloadData) → k < length xs → distance front (get_or xs k d).tsn < 2 ^ 31
  near k d short = elim (cases_lt 0 k) [
    | inl later ↦
        (before_is front (get_or xs k d).tsn (subst (λ t. IsTrue (comes_before t (get_or xs k d).tsn)) (read d).1 (serial.ascending 0 k d later short))).1
    | inr at ↦
        let small : front < 2 ^ 32 = subst (λ t. t < 2 ^ 32) (read d).1 (serial.in_range 0 d (omega arith)) in
        let same : (get_or xs k d).tsn ≡ front = ap (λ j. (get_or xs j d).tsn) {y = 0} (omega arith) ∙ (read d).1 in
        let zero_far : distance front (get_or xs k d).tsn ≡ 0 = ap (distance front) same ∙ distance_self front small in
        omega arith
  ]

  -- the front is not at or before the TSN, so nothing is
  pub first_at_front : at_or_before front cumulative ≡ false → IsFirstAfter cumulative xs 0
  first_at_front late = record {
    in_range = omega arith;
    before = λ k d lt. absurd (omega arith);
    ascends = record {
      after = λ k d le short. let s = sum k d short in omega (arith, s);
      farther = λ i j d le lt short.
          let s = sum i d (omega arith) in let t = sum j d short in
          let rises : distance front (get_or xs i d).tsn < distance front (get_or xs j d).tsn = elim (cases_lt 0 i) [
            | inl later ↦
                let p = before_is front (get_or xs i d).tsn
                (subst (λ n. IsTrue (comes_before n (get_or xs i d).tsn)) (read d).1 (serial.ascending 0 i d later (omega arith))) in
                let q = before_is front (get_or xs j d).tsn
                (subst (λ n. IsTrue (comes_before n (get_or xs j d).tsn)) (read d).1 (serial.ascending 0 j d (omega arith) short)) in
                distance_by_before front (get_or xs i d).tsn (get_or xs j d).tsn (small d) (serial.in_range i d (omega arith))
                (serial.in_range j d short) p.0 (omega (arith, p)) q.0 (omega (arith, q)) (serial.ascending i j d lt short)
            | inr at ↦
                let q = before_is front (get_or xs j d).tsn
                (subst (λ n. IsTrue (comes_before n (get_or xs j d).tsn)) (read d).1 (serial.ascending 0 j d (omega arith) short)) in
                let zero_far : distance front (get_or xs i d).tsn ≡ 0 = ap (λ n. distance front (get_or xs n d).tsn) {y = 0} (omega arith)
                ∙ ap (distance front) (read d).1 ∙ distance_self front (small d) in
                omega (arith, q)
          ] in
          omega (arith, s, t);
    };
  }
    where
      small : (d : ChunkPayloadData) → front < 2 ^ 32
      small d = subst (λ t. t < 2 ^ 32) (read d).1 (serial.in_range 0 d (read d).0)

      far_off : 2 ^ 31 ≤ distance front cumulative
      far_off = not_within front cumulative late

      sum : (k : ℕ) (d : ChunkPayloadData) → k < length xs
          → (distance cumulative (get_or xs k d).tsn ≡ distance cumulative front + distance front (get_or xs k d).tsn) × (0 < distance cumulative front)
      sum k d short = beyond cumulative front (get_or xs k d).tsn fits (small d) (serial.in_range k d short) far_off (near k d short)

  pub first_absent : at_or_before front cumulative ≡ true → (place : ℕ) → IsPlaceFor xs cumulative place → IsFirstAfter cumulative xs place
  first_absent early place p = record {
    in_range = p.in_range;
    before = λ k d lt. out_before cumulative (get_or xs k d).tsn fits (serial.in_range k d (omega (arith, p.in_range))) (p.before (window d) k d lt);
    ascends = ascends_behind cumulative xs fits serial place (λ k d le short. p.after (window d) k d le short);
  }
    where
      small : (d : ChunkPayloadData) → front < 2 ^ 32
      small d = subst (λ t. t < 2 ^ 32) (read d).1 (serial.in_range 0 d (read d).0)

      window : ChunkPayloadData → SpansOneWindow xs cumulative
      window d = (
        (front + (2 ^ 32 - 1)) % 2 ^ 32,
        record {
          base_in_range = omega arith;
          number = from_before _ front cumulative refl (small d) fits (within front cumulative early);
          held = λ k e short. from_before _ front (get_or xs k e).tsn refl (small d) (serial.in_range k e short) (near k e short);
        },
      )

-- ## The blocks

-- a chunk at a distance that is reported
reported_is : (cumulative n offset : ℕ) (c : ChunkPayloadData) → distance cumulative c.tsn ≡ offset → 0 < offset → offset < 2 ^ 16
    → is_reported cumulative n c ≡ (n == offset)
reported_is cumulative n offset c e pos small = grind (arith, nat_tests)

-- and one that is not
unreported : (cumulative n : ℕ) (c : ChunkPayloadData) → is_offset (distance cumulative c.tsn) ≡ false → is_reported cumulative n c ≡ false
unreported cumulative n c h = grind (arith, nat_tests)

in_first : (n s : ℕ) → (n == s) ≡ (nat_le s n && nat_le n s)
in_first n s = grind (arith, nat_tests)

in_more : (n s e : ℕ) → s ≤ e → ((nat_le s n && nat_le n e) || (n == e + 1)) ≡ (nat_le s n && nat_le n (e + 1))
in_more n s e le = grind (arith, nat_tests)

-- a distance put behind runs: it joins the last where it is next to it
extended_by : ℕ → List (ℕ × ℕ) → List (ℕ × ℕ)
extended_by d [] = (d, d) ∷ []
extended_by d (b ∷ []) = if b.1 + 1 == d then (b.0, d) ∷ [] else b ∷ (d, d) ∷ []
extended_by d (b ∷ c ∷ cs) = b ∷ extended_by d (c ∷ cs)

-- to put a distance before runs and one behind is one, in either order
one_run : (x d s e : ℕ) (last first : Bool) → (e + 1 == d) ≡ last → (s == x + 1) ≡ first
    → put_before_runs x (extended_by d ((s, e) ∷ [])) ≡ extended_by d (put_before_runs x ((s, e) ∷ []))
unfolding extended_by
one_run x d s e true true l f = simp (l, f) refl
one_run x d s e true false l f = simp (l, f) refl
one_run x d s e false true l f = simp (l, f) refl
one_run x d s e false false l f = simp (l, f) refl

joined-extended_by : (x d : ℕ) (bs : List (ℕ × ℕ)) → put_before_runs x (extended_by d bs) ≡ extended_by d (put_before_runs x bs)
unfolding extended_by
joined-extended_by x d [] = let e : (d == x + 1) ≡ (x + 1 == d) = grind (arith, nat_tests) in ap (λ b. if b then (x, d) ∷ [] else (x, x) ∷ (d, d) ∷ []) e
joined-extended_by x d (b ∷ []) = one_run x d b.0 b.1 (b.1 + 1 == d) (b.0 == x + 1) refl refl
joined-extended_by x d (b ∷ c ∷ cs) = first (b.0 == x + 1)
  where
    first : (t : Bool) → (if t then (x, b.1) ∷ extended_by d (c ∷ cs) else (x, x) ∷ b ∷ extended_by d (c ∷ cs))
        ≡ extended_by d (if t then (x, b.1) ∷ c ∷ cs else (x, x) ∷ b ∷ c ∷ cs)
    first true = refl
    first false = refl

runs_of-snoc : (ds : List ℕ) (d : ℕ) → runs_of (ds ++ d ∷ []) ≡ extended_by d (runs_of ds)
unfolding extended_by
runs_of-snoc [] d = refl
runs_of-snoc (x ∷ ds) d = ap (put_before_runs x) (runs_of-snoc ds d) ∙ joined-extended_by x d (runs_of ds)

-- distances put behind others take no run away
longer : (d : ℕ) (bs : List (ℕ × ℕ)) → length bs ≤ length (extended_by d bs)
unfolding extended_by
longer d [] = omega arith
longer d (b ∷ []) = last (b.1 + 1 == d)
  where
    last : (t : Bool) → length (b ∷ []) ≤ length (if t then (b.0, d) ∷ [] else b ∷ (d, d) ∷ [])
    last true = omega arith
    last false = omega arith
longer d (b ∷ c ∷ cs) = let rec = longer d (c ∷ cs) in omega arith

runs_grow : (ds es : List ℕ) → length (runs_of ds) ≤ length (runs_of (ds ++ es))
runs_grow ds [] = omega (arith, ap (λ xs. length (runs_of xs)) (append-nil ds))
runs_grow ds (e ∷ es) =
    omega
    (arith, longer e (runs_of ds), ap length (runs_of-snoc ds e), runs_grow (ds ++ e ∷ []) es, ap (λ xs. length (runs_of xs)) (append_assoc ds (e ∷ []) es))

-- a distance apart from all blocks is a run of its own
extended_by-apart : (d : ℕ) (bs : List GapAckBlock) → All (λ b. b.end + 1 < d) bs → extended_by d (map ends_of bs) ≡ map ends_of bs ++ (d, d) ∷ []
unfolding extended_by
extended_by-apart d [] apart = refl
extended_by-apart d (b ∷ []) apart =
    let far = All-head (λ (x : GapAckBlock). x.end + 1 < d) b [] apart in
    let joins : (b.end + 1 == d) ≡ false = grind (arith, nat_tests) in
    rw joins refl
extended_by-apart d (b ∷ c ∷ cs) apart =
    ap (λ xs. ends_of b ∷ xs) (extended_by-apart d (c ∷ cs) (All-tail (λ (x : GapAckBlock). x.end + 1 < d) b (c ∷ cs) apart))

-- and one next to the last joins it
extended_by-next : (s e : ℕ) (bs : List (ℕ × ℕ)) → extended_by (e + 1) (bs ++ (s, e) ∷ []) ≡ bs ++ (s, e + 1) ∷ []
unfolding extended_by
extended_by-next s e [] = let joins : (e + 1 == e + 1) ≡ true = grind (arith, nat_tests) in rw joins refl
extended_by-next s e (b ∷ []) = ap (λ xs. b ∷ xs) (extended_by-next s e [])
extended_by-next s e (b ∷ c ∷ cs) = ap (λ xs. b ∷ xs) (extended_by-next s e (c ∷ cs))

-- one chunk more, in reach
gap_offsets-more : (cumulative : ℕ) (xs : List ChunkPayloadData) (i : ℕ) (d : ChunkPayloadData) (offset : ℕ) → i < length xs
    → distance cumulative (get_or xs i d).tsn ≡ offset → 0 < offset → offset < 2 ^ 16
    → gap_offsets cumulative (take (i + 1) xs) ≡ gap_offsets cumulative (take i xs) ++ offset ∷ []
gap_offsets-more cumulative xs i d offset lt e pos small =
    let front = map (λ (c : ChunkPayloadData). distance cumulative c.tsn) (take i xs) in
    let reached : is_offset offset ≡ true = grind (arith, nat_tests) in
    ap (filter is_offset) (map_more (λ (c : ChunkPayloadData). distance cumulative c.tsn) xs i d lt) ∙ those-append is_offset front _
    ∙ ap (λ o. filter is_offset front ++ (if is_offset o then o ∷ [] else [])) e ∙ ap (λ b. filter is_offset front ++ (if b then offset ∷ [] else [])) reached

-- the chunks from a place on lie at an offset and the n next to it, all of which a block can hold
pub record InReach (cumulative : ℕ) (xs : List ChunkPayloadData) (place : ℕ) (d : ChunkPayloadData) (offset n : ℕ) : Type 0 where
  pub in_range : place + n < length xs
  pub positive : 0 < offset
  pub small : offset + n < 2 ^ 16
  pub along : (k : ℕ) → k ≤ n → distance cumulative (get_or xs (place + k) d).tsn ≡ offset + k

-- one run more
module _ (cumulative : ℕ) (xs : List ChunkPayloadData) (place : ℕ) (d : ChunkPayloadData) (offset : ℕ) (bs : List GapAckBlock) where
  first_there : (n : ℕ) → InReach cumulative xs place d offset n → distance cumulative (get_or xs place d).tsn ≡ offset
  first_there n r = subst (λ j. distance cumulative (get_or xs j d).tsn ≡ offset) {x = place + 0} (omega arith) (r.along 0 (omega arith) ∙ omega arith)

  last_there : (n : ℕ) → InReach cumulative xs place d offset (suc n) → distance cumulative (get_or xs (place + n + 1) d).tsn ≡ offset + n + 1
  last_there n r =
      subst (λ j. distance cumulative (get_or xs j d).tsn ≡ offset + n + 1) {x = place + suc n} (omega arith) (r.along (suc n) (omega arith) ∙ omega arith)

  one_less : (n : ℕ) → InReach cumulative xs place d offset (suc n) → InReach cumulative xs place d offset n
  one_less n r = record { in_range = omega (arith, r.in_range); positive = r.positive; small = omega (arith, r.small); along = λ k le. r.along k (omega arith) }

  pub runs_more : (n : ℕ) → InReach cumulative xs place d offset n → All (λ b. b.end + 1 < offset) bs
      → map ends_of bs ≡ runs_of (gap_offsets cumulative (take place xs))
      → map ends_of bs ++ (offset, offset + n) ∷ [] ≡ runs_of (gap_offsets cumulative (take (place + n + 1) xs))
  runs_more zero r apart before =
      let own = first_there 0 r in
      sym (subst (λ j. runs_of (gap_offsets cumulative (take j xs)) ≡ map ends_of bs ++ (offset, offset + 0) ∷ []) {x = place + 1} (omega arith)
      (ap runs_of (gap_offsets-more cumulative xs place d offset (omega (arith, r.in_range)) own r.positive (omega (arith, r.small)))
      ∙ runs_of-snoc (gap_offsets cumulative (take place xs)) offset ∙ ap (extended_by offset) (sym before) ∙ extended_by-apart offset bs apart
      ∙ ap (λ e. map ends_of bs ++ (offset, e) ∷ []) (omega arith)))
  runs_more (suc n) r apart before =
      let short = one_less n r in
      let own = last_there n r in
      sym (subst (λ j. runs_of (gap_offsets cumulative (take j xs)) ≡ map ends_of bs ++ (offset, offset + suc n) ∷ []) {x = place + n + 1 + 1} (omega arith)
      (ap runs_of (gap_offsets-more cumulative xs (place + n + 1) d (offset + n + 1) (omega (arith, r.in_range)) own (omega arith) (omega (arith, r.small)))
      ∙ runs_of-snoc (gap_offsets cumulative (take (place + n + 1) xs)) (offset + n + 1)
      ∙ ap (extended_by (offset + n + 1)) (sym (runs_more n short apart before)) ∙ extended_by-next offset (offset + n) (map ends_of bs)
      ∙ ap (λ e. map ends_of bs ++ (offset, e) ∷ []) (omega arith)))

  pub covered_more : (m n : ℕ) → InReach cumulative xs place d offset n → is_in_blocks bs m ≡ list_any (is_reported cumulative m) (take place xs)
      → (is_in_blocks bs m || (nat_le offset m && nat_le m (offset + n))) ≡ list_any (is_reported cumulative m) (take (place + n + 1) xs)
  covered_more m zero r before =
      let own = first_there 0 r in
      sym (subst (λ j. list_any (is_reported cumulative m) (take j xs) ≡ (is_in_blocks bs m || (nat_le offset m && nat_le m (offset + 0)))) {x = place + 1}
      (omega arith)
      (list_any_more (is_reported cumulative m) xs place d (omega (arith, r.in_range)) ∙ ap₂ (λ a b. a || b) (sym before) (reported_is cumulative m offset
      (get_or xs place d) own r.positive (omega (arith, r.small)) ∙ in_first m offset ∙ ap (λ e. nat_le offset m && nat_le m e) (omega arith))))
  covered_more m (suc n) r before =
      let short = one_less n r in
      let own = last_there n r in
      sym (subst (λ j. list_any (is_reported cumulative m) (take j xs)
      ≡ (is_in_blocks bs m || (nat_le offset m && nat_le m (offset + suc n)))) {x = place + n + 1 + 1} (omega arith)
      (list_any_more (is_reported cumulative m) xs (place + n + 1) d (omega (arith, r.in_range)) ∙ ap₂ (λ a b. a || b) (sym (covered_more m n short before))
      (reported_is cumulative m (offset + n + 1) (get_or xs (place + n + 1) d) own (omega arith) (omega (arith, r.small))) ∙ or_assoc (is_in_blocks bs m) _
      _ ∙ ap (λ b. is_in_blocks bs m || b) (in_more m offset (offset + n) (omega arith) ∙ ap (λ e. nat_le offset m && nat_le m e) (omega arith))))

-- the distances along a run
pub run_distances : (cumulative : ℕ) (xs : List ChunkPayloadData) (place last : ℕ) → cumulative < 2 ^ 32 → IsSerial xs → AscendsFrom cumulative xs place
    → last < length xs → IsRising xs place last → (d : ChunkPayloadData) (n : ℕ) → place + n ≤ last
    → distance cumulative (get_or xs (place + n) d).tsn ≡ distance cumulative (get_or xs place d).tsn + n
run_distances cumulative xs place last fits serial ascends short r d zero le = ap (λ j. distance cumulative (get_or xs j d).tsn) {y = place} (omega arith)
    ∙ omega arith
run_distances cumulative xs place last fits serial ascends short r d (suc n) le =
    let before = run_distances cumulative xs place last fits serial ascends short r d n (omega arith) in
    let next = one_farther cumulative (get_or xs (place + n) d).tsn (get_or xs (place + n + 1) d).tsn fits (serial.in_range (place + n) d (omega arith))
    (serial.in_range (place + n + 1) d (omega arith)) (r (place + n) d (omega arith) (omega arith))
    (ascends.farther (place + n) (place + n + 1) d (omega arith) (omega arith) (omega arith)) in
    subst (λ j. distance cumulative (get_or xs j d).tsn ≡ distance cumulative (get_or xs place d).tsn + suc n) {x = place + n + 1} (omega arith) (omega arith)

-- what is in reach behind a run does not touch it, unless the run ends where the reach does
pub run_apart : (cumulative : ℕ) (xs : List ChunkPayloadData) (place end last offset : ℕ) → cumulative < 2 ^ 32 → IsSerial xs → AscendsFrom cumulative xs place
    → end ≤ length xs → (end < length xs → offset + (end - place) ≡ 2 ^ 16) → IsRunUntil xs end place last → (j : ℕ) (d : ChunkPayloadData)
    → distance cumulative (get_or xs place d).tsn ≡ offset → last + 1 ≤ j → j < length xs → distance cumulative (get_or xs j d).tsn < 2 ^ 16
    → offset + (last - place) + 1 < distance cumulative (get_or xs j d).tsn
run_apart cumulative xs place end last offset fits serial ascends in_range full run j d here le short small =
    let short_last : last < length xs = omega (arith, run.to) in
    let at_last : distance cumulative (get_or xs last d).tsn ≡ offset + (last - place) =
    subst (λ i. distance cumulative (get_or xs i d).tsn ≡ offset + (last - place)) {x = place + (last - place)} (omega (arith, run.from))
    (run_distances cumulative xs place last fits serial ascends short_last run.rising d (last - place) (omega (arith, run.from))
    ∙ ap (λ o. o + (last - place)) here) in
    let next = ascends.farther last (last + 1) d run.from (omega arith) (omega arith) in
    let to_j : distance cumulative (get_or xs (last + 1) d).tsn ≤ distance cumulative (get_or xs j d).tsn = elim (cases_lt (last + 1) j) [
      | inl later ↦ let more = ascends.farther (last + 1) j d (omega (arith, run.from)) later short in omega arith
      | inr at ↦
          subst (λ i. distance cumulative (get_or xs (last + 1) d).tsn ≤ distance cumulative (get_or xs i d).tsn) {x = last + 1} (omega arith) (omega arith)
    ] in
    elim (cases_lt (last + 1) end) [
      | inl low ↦ elim (cases_eq (distance cumulative (get_or xs (last + 1) d).tsn) (distance cumulative (get_or xs last d).tsn + 1)) [
        | inl touches ↦ absurd (run.stops low d (next_of cumulative (get_or xs last d).tsn (get_or xs (last + 1) d).tsn fits (serial.in_range last d short_last)
            (serial.in_range (last + 1) d (omega arith)) touches))
        | inr apart ↦ omega arith
      ]
      | inr at ↦ let whole = full (omega arith) in omega (arith, run.to, run.from)
    ]

-- ## What no block can hold

none_in_reach : (cumulative : ℕ) (xs : List ChunkPayloadData) → All (λ c. is_offset (distance cumulative c.tsn) ≡ false) xs → gap_offsets cumulative xs ≡ []
none_in_reach cumulative [] h = refl
none_in_reach cumulative (x ∷ xs) h = rw (All-head (λ (c : ChunkPayloadData). is_offset (distance cumulative c.tsn) ≡ false) x xs h)
    (none_in_reach cumulative xs (All-tail (λ (c : ChunkPayloadData). is_offset (distance cumulative c.tsn) ≡ false) x xs h))

none_reported : (cumulative n : ℕ) (xs : List ChunkPayloadData) → All (λ c. is_offset (distance cumulative c.tsn) ≡ false) xs
    → list_any (is_reported cumulative n) xs ≡ false
none_reported cumulative n xs h = list_any_none (is_reported cumulative n) xs (λ k d lt. unreported cumulative n (get_or xs k d) (h k d lt))

module _ (cumulative : ℕ) (xs : List ChunkPayloadData) (place : ℕ) where
  module _ (before : (k : ℕ) (d : ChunkPayloadData) → k < place → is_offset (distance cumulative (get_or xs k d).tsn) ≡ false) where
    front_out : All (λ c. is_offset (distance cumulative c.tsn) ≡ false) (take place xs)
    front_out k d lt = let n = length-take place xs in subst (λ (c : ChunkPayloadData). is_offset (distance cumulative c.tsn) ≡ false)
        (sym (get_or-take place xs k d (omega arith))) (before k d (omega arith))

    pub front_offsets : gap_offsets cumulative (take place xs) ≡ []
    front_offsets = none_in_reach cumulative (take place xs) front_out

    pub front_reported : (n : ℕ) → list_any (is_reported cumulative n) (take place xs) ≡ false
    front_reported n = none_reported cumulative n (take place xs) front_out

  module _ (rest : (k : ℕ) (d : ChunkPayloadData) → place ≤ k → k < length xs → is_offset (distance cumulative (get_or xs k d).tsn) ≡ false) where
    rest_out : All (λ c. is_offset (distance cumulative c.tsn) ≡ false) (drop place xs)
    rest_out k d lt = let n = length-drop place xs in subst (λ (c : ChunkPayloadData). is_offset (distance cumulative c.tsn) ≡ false)
        (sym (get_or-drop place xs k d)) (rest (place + k) d (omega arith) (omega arith))

    pub rest_offsets : gap_offsets cumulative (take place xs) ≡ gap_offsets cumulative xs
    rest_offsets =
        let front = map (λ (c : ChunkPayloadData). distance cumulative c.tsn) (take place xs) in
        sym (ap (gap_offsets cumulative) (sym (take-append-drop place xs))
        ∙ ap (filter is_offset) (map-append (λ (c : ChunkPayloadData). distance cumulative c.tsn) (take place xs) (drop place xs))
        ∙ those-append is_offset front _ ∙ ap (λ ds. filter is_offset front ++ ds) (none_in_reach cumulative (drop place xs) rest_out) ∙ append-nil _)

    pub rest_reported : (n : ℕ) → list_any (is_reported cumulative n) (take place xs) ≡ list_any (is_reported cumulative n) xs
    rest_reported n = sym (ap (list_any (is_reported cumulative n)) (sym (take-append-drop place xs))
        ∙ list_any-append (is_reported cumulative n) (take place xs) (drop place xs)
        ∙ ap (λ b. list_any (is_reported cumulative n) (take place xs) || b) (none_reported cumulative n (drop place xs) rest_out) ∙ or-none _)

-- the chunks in front have no more runs than all
pub front_runs : (cumulative : ℕ) (xs : List ChunkPayloadData) (place : ℕ)
    → length (runs_of (gap_offsets cumulative (take place xs))) ≤ length (runs_of (gap_offsets cumulative xs))
front_runs cumulative xs place =
    let far = λ (c : ChunkPayloadData). distance cumulative c.tsn in
    let whole = ap (gap_offsets cumulative) (sym (take-append-drop place xs)) ∙ ap (filter is_offset) (map-append far (take place xs) (drop place xs))
    ∙ those-append is_offset (map far (take place xs)) (map far (drop place xs)) in
    omega (arith, runs_grow (gap_offsets cumulative (take place xs)) (gap_offsets cumulative (drop place xs)), ap (λ ds. length (runs_of ds)) whole)

-- once out of reach, all is
pub out_from : (cumulative : ℕ) (xs : List ChunkPayloadData) (place : ℕ) (x : ChunkPayloadData) → AscendsFrom cumulative xs place → place < length xs
    → x ≡ get_or xs place x → is_offset (distance cumulative x.tsn) ≡ false → (k : ℕ) (d : ChunkPayloadData) → place ≤ k → k < length xs
    → is_offset (distance cumulative (get_or xs k d).tsn) ≡ false
out_from cumulative xs place x ascends within_range read out k d le short =
    let here : distance cumulative (get_or xs place d).tsn ≡ distance cumulative x.tsn = ap (λ (y : ChunkPayloadData). distance cumulative y.tsn)
    (get_or_default xs place d x within_range ∙ sym read) in
    let after = ascends.after place d (omega arith) within_range in
    let far : 2 ^ 16 ≤ distance cumulative x.tsn = out_is_far (distance cumulative x.tsn) (omega arith) out in
    too_far (distance cumulative (get_or xs k d).tsn) (elim (cases_lt place k) [
      | inl later ↦ let farther = ascends.farther place k d (omega arith) later short in omega arith
      | inr at ↦ subst (λ j. 2 ^ 16 ≤ distance cumulative (get_or xs j d).tsn) {x = place} (omega arith) (omega arith)
    ])
  where
    out_is_far : (n : ℕ) → 0 < n → is_offset n ≡ false → 2 ^ 16 ≤ n
    out_is_far n pos h = grind (arith, nat_tests)

-- ## The first runs

-- distances put behind others keep each run but the last
front_extended : (n d : ℕ) (bs : List (ℕ × ℕ)) → n < length bs → take n (extended_by d bs) ≡ take n bs
unfolding extended_by
front_extended n d [] lt = absurd (omega arith)
front_extended zero d (b ∷ []) lt = refl
front_extended (suc n) d (b ∷ []) lt = absurd (omega arith)
front_extended zero d (b ∷ c ∷ cs) lt = refl
front_extended (suc n) d (b ∷ c ∷ cs) lt = ap (λ xs. b ∷ xs) (front_extended n d (c ∷ cs) (omega arith))

front_kept : (n : ℕ) (ds es : List ℕ) → n < length (runs_of ds) → take n (runs_of (ds ++ es)) ≡ take n (runs_of ds)
front_kept n ds [] lt = ap (λ xs. take n (runs_of xs)) (append-nil ds)
front_kept n ds (e ∷ es) lt =
    let snoc = runs_of-snoc ds e in
    ap (λ xs. take n (runs_of xs)) (sym (append_assoc ds (e ∷ []) es)) ∙ front_kept n (ds ++ e ∷ []) es (omega (arith, ap length snoc, longer e (runs_of ds)))
    ∙ ap (take n) snoc ∙ front_extended n e (runs_of ds) lt

front_of : (bs cs : List (ℕ × ℕ)) → take (length bs) (bs ++ cs) ≡ bs
front_of [] cs = refl
front_of (b ∷ bs) cs = ap (λ xs. b ∷ xs) (front_of bs cs)

-- where one more begins in front of a place, those before it are the first of all
pub first_runs : (cumulative : ℕ) (xs : List ChunkPayloadData) (place : ℕ) (bs : List (ℕ × ℕ)) (c : ℕ × ℕ)
    → bs ++ c ∷ [] ≡ runs_of (gap_offsets cumulative (take place xs)) → take (length bs) (runs_of (gap_offsets cumulative xs)) ≡ bs
first_runs cumulative xs place bs c e =
    let far = λ (x : ChunkPayloadData). distance cumulative x.tsn in
    let whole = ap (gap_offsets cumulative) (sym (take-append-drop place xs)) ∙ ap (filter is_offset) (map-append far (take place xs) (drop place xs))
    ∙ those-append is_offset (map far (take place xs)) (map far (drop place xs)) in
    ap (λ ds. take (length bs) (runs_of ds)) whole ∙ front_kept (length bs) (gap_offsets cumulative (take place xs)) (gap_offsets cumulative (drop place xs))
    (omega (arith, ap length e, length-append bs (c ∷ []))) ∙ ap (take (length bs)) (sym e) ∙ front_of bs (c ∷ [])
