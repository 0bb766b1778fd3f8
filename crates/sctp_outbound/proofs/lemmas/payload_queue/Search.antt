-- A binary search for a number.
use Rattle.std.proofs.Common.{◌≡◌, ◌≢◌, ℕ, ◌+◌, ◌-◌, ◌^◌, ◌<◌, ◌≤◌, false, IsTrue, List, length, map, min, get_or, ◌∙◌, inl, inr, sym, ap, subst, arith}
use Rattle.std.specs.Prelude.{Some, unwrap_or}
use Rattle.std.specs.List.{All, slice_get}
use Rattle.std.specs.Option.{option_map}
use Rattle.std.proofs.lemmas.Option.{slice_get-get_or}
use Rattle.std.proofs.lemmas.List.{get_or-map}
use Rattle.std.proofs.lemmas.Bool.{cases_lt, false≢true, false_from_ne_true}
use Rattle.sctp_data.specs.declared.chunk.chunk_payload_data.ChunkPayloadData.{ChunkPayloadData}
use Rattle.sctp_util.specs.Serial.{comes_before, distance}
use Rattle.sctp_util.proofs.Distances.{before_asym, before_irrefl, before_is, before_total, before_trans, distance_cases}
use Rattle.sctp_outbound.specs.payload_queue.PayloadQueue.{IsLatestPlace}
use Rattle.sctp_outbound.proofs.lemmas.payload_queue.Gaps.{far_enough}
use Rattle.sctp_outbound.proofs.lemmas.payload_queue.Marked.{any_chunk}
use Rattle.sctp_serial.specs.Window.{IsSerial, IsPlaceFor, IsWindow, IsWithinHalf}

-- the TSN of a chunk that was seen
pub seen_tsn : (chunks : List ChunkPayloadData) (place tsn : ℕ) → option_map (λ (c : ChunkPayloadData). c.tsn) (slice_get chunks place) ≡ Some tsn
    → place < length chunks → (d : ChunkPayloadData) → (get_or chunks place d).tsn ≡ tsn
seen_tsn chunks place tsn e lt d =
    ap (λ o. unwrap_or o tsn) (ap (option_map (λ (c : ChunkPayloadData). c.tsn)) (sym (slice_get-get_or chunks place d lt)) ∙ e)

-- the TSN that was read at a place
pub read_tsn : (chunks : List ChunkPayloadData) (tsns : List ℕ) (place here : ℕ) → tsns ≡ map (λ (c : ChunkPayloadData). c.tsn) chunks
    → here ≡ get_or tsns place here → place < length chunks → (d : ChunkPayloadData) → (get_or chunks place d).tsn ≡ here
read_tsn chunks tsns place here same e lt d =
    sym (get_or-map (λ (c : ChunkPayloadData). c.tsn) chunks place d here lt) ∙ ap (λ ns. get_or ns place here) (sym same) ∙ sym e

-- what is left of the search
pub record Narrowed (chunks : List ChunkPayloadData) (tsn low high : ℕ) : Type 0 where
  pub ordered : low ≤ high
  pub in_range : high ≤ length chunks
  pub none_left : (k : ℕ) (d : ChunkPayloadData) → k < low → (get_or chunks k d).tsn ≢ tsn
  pub none_right : (k : ℕ) (d : ChunkPayloadData) → high ≤ k → k < length chunks → (get_or chunks k d).tsn ≢ tsn
  pub left : (b : ℕ) → IsWindow b chunks tsn → (k : ℕ) (d : ChunkPayloadData) → k < low → IsTrue (comes_before (get_or chunks k d).tsn tsn)
  pub right : (b : ℕ) → IsWindow b chunks tsn → (k : ℕ) (d : ChunkPayloadData) → high ≤ k → k < length chunks
      → IsTrue (comes_before tsn (get_or chunks k d).tsn)

module _ (chunks : List ChunkPayloadData) (serial : IsSerial chunks) (tsn low high middle : ℕ) (fits : tsn < 2 ^ 32) (n : Narrowed chunks tsn low high)
    (here : ℕ)
    (at_least : low ≤ middle) (below : middle < high) (number_here : (d : ChunkPayloadData) → (get_or chunks middle d).tsn ≡ here) (differs : here ≢ tsn) where
  within : middle < length chunks
  within = omega (arith, n.in_range)

  rises : (k : ℕ) (d : ChunkPayloadData) → k < middle → IsTrue (comes_before (get_or chunks k d).tsn here)
  rises k d lt = subst (λ t. IsTrue (comes_before (get_or chunks k d).tsn t)) (number_here d) (serial.ascending k middle d lt within)

  falls : (k : ℕ) (d : ChunkPayloadData) → middle < k → k < length chunks → IsTrue (comes_before here (get_or chunks k d).tsn)
  falls k d lt short = subst (λ t. IsTrue (comes_before t (get_or chunks k d).tsn)) (number_here d) (serial.ascending middle k d lt short)

  small : here < 2 ^ 32
  small = subst (λ t. t < 2 ^ 32) (number_here any_chunk) (serial.in_range middle any_chunk within)

  near : (b : ℕ) → IsWindow b chunks tsn → IsWithinHalf b here
  near b w = subst (IsWithinHalf b) (number_here any_chunk) (w.held middle any_chunk within)

  pub narrowed_right : IsTrue (comes_before here tsn) → Narrowed chunks tsn (middle + 1) high
  narrowed_right h = record {
    ordered = omega arith;
    in_range = n.in_range;
    none_left = λ k d lt same. elim (cases_lt k middle) [
      | inl below_it ↦
          absurd (false≢true (sym (before_asym here tsn small fits h) ∙ subst (λ t. IsTrue (comes_before t here)) same (rises k d below_it)))
      | inr above ↦ differs (sym (number_here d) ∙ ap (λ i. (get_or chunks i d).tsn) (omega arith) ∙ same)
    ];
    none_right = n.none_right;
    left = λ b w k d lt. elim (cases_lt k middle) [
      | inl below_it ↦ before_trans b (get_or chunks k d).tsn here tsn w.base_in_range (serial.in_range k d (omega arith)) small fits
          (w.held k d (omega arith)).0 (w.held k d (omega arith)).1 (near b w).0 (near b w).1 w.number.0 w.number.1 (rises k d below_it) h
      | inr above ↦ subst (λ t. IsTrue (comes_before t tsn)) (sym (number_here d) ∙ ap (λ i. (get_or chunks i d).tsn) (omega arith)) h
    ];
    right = n.right;
  }

  pub narrowed_left : comes_before here tsn ≡ false → Narrowed chunks tsn low middle
  narrowed_left h = record {
    ordered = at_least;
    in_range = omega arith;
    none_left = n.none_left;
    none_right = λ k d le short same. elim (cases_lt middle k) [
      | inl above ↦ absurd (false≢true (sym h ∙ subst (λ t. IsTrue (comes_before here t)) same (falls k d above short)))
      | inr at_it ↦ differs (sym (number_here d) ∙ ap (λ i. (get_or chunks i d).tsn) (omega arith) ∙ same)
    ];
    left = n.left;
    right = λ b w k d le short. elim (cases_lt middle k) [
      | inl above ↦ before_trans b tsn here (get_or chunks k d).tsn w.base_in_range fits small (serial.in_range k d short) w.number.0 w.number.1
          (near b w).0 (near b w).1 (w.held k d short).0 (w.held k d short).1 (turned b w) (falls k d above short)
      | inr at_it ↦ subst (λ t. IsTrue (comes_before tsn t)) (sym (number_here d) ∙ ap (λ i. (get_or chunks i d).tsn) (omega arith)) (turned b w)
    ];
  }
    where
      turned : (b : ℕ) → IsWindow b chunks tsn → IsTrue (comes_before tsn here)
      turned b w = before_total b here tsn w.base_in_range small fits (near b w).0 (near b w).1 w.number.0 w.number.1 differs h

-- nothing is left to search
module _ (chunks : List ChunkPayloadData) (tsn place : ℕ) (n : Narrowed chunks tsn place place) where
  pub none_has : All (λ c. c.tsn ≢ tsn) chunks
  none_has k d lt = elim (cases_lt k place) [
    | inl low ↦ n.none_left k d low
    | inr high ↦ n.none_right k d high lt
  ]

  pub place_found : IsPlaceFor chunks tsn place
  place_found = record {
    in_range = n.in_range;
    before = λ w k d lt. n.left w.0 w.1 k d lt;
    after = λ w k d le lt. n.right w.0 w.1 k d le lt;
  }

-- nothing is ruled out yet
pub narrowed_none : (chunks : List ChunkPayloadData) (tsn : ℕ) → Narrowed chunks tsn 0 (length chunks)
narrowed_none chunks tsn = record {
  ordered = omega arith;
  in_range = omega arith;
  none_left = λ k d lt. absurd (omega arith);
  none_right = λ k d le lt. absurd (omega arith);
  left = λ b w k d lt. absurd (omega arith);
  right = λ b w k d le lt. absurd (omega arith);
}

-- what comes after the last goes behind it
pub behind_last : (chunks : List ChunkPayloadData) → IsSerial chunks → (tsn last : ℕ) → tsn < 2 ^ 32 → 0 < length chunks
    → ((d : ChunkPayloadData) → (get_or chunks (length chunks - 1) d).tsn ≡ last) → IsTrue (comes_before last tsn)
    → Narrowed chunks tsn (length chunks) (length chunks)
behind_last chunks serial tsn last fits some read h =
    subst (λ n. Narrowed chunks tsn n (length chunks)) {x = length chunks - 1 + 1} (omega arith)
    (narrowed_right chunks serial tsn 0 (length chunks) (length chunks - 1) fits (narrowed_none chunks tsn) last (omega arith) (omega arith) read
    (λ e. false≢true (sym (before_irrefl tsn fits) ∙ subst (λ t. IsTrue (comes_before t tsn)) e h)) h)

-- ## The latest place

-- what lies farther after f than y, but less than half a circle, does not come before y
not_before : (f x y : ℕ) → f < 2 ^ 32 → x < 2 ^ 32 → y < 2 ^ 32 → distance f y ≤ distance f x → distance f x < 2 ^ 31 → comes_before x y ≡ false
not_before f x y hf hx hy le near = false_from_ne_true (comes_before x y) (λ h. let p = before_is x y h in elim (distance_cases f x hf hx) [
  | inl a ↦ elim (distance_cases f y hf hy) [
    | inl b ↦ elim (distance_cases x y hx hy) [ inl r ↦ omega (arith, p) | inr r ↦ omega (arith, p) ]
    | inr b ↦ elim (distance_cases x y hx hy) [ inl r ↦ omega (arith, p) | inr r ↦ omega (arith, p) ]
  ]
  | inr a ↦ elim (distance_cases f y hf hy) [
    | inl b ↦ elim (distance_cases x y hx hy) [ inl r ↦ omega (arith, p) | inr r ↦ omega (arith, p) ]
    | inr b ↦ elim (distance_cases x y hx hy) [ inl r ↦ omega (arith, p) | inr r ↦ omega (arith, p) ]
  ]
])

-- as far after the first as the TSN
pub latest_found : (chunks : List ChunkPayloadData) → IsSerial chunks → (tsn front : ℕ) → tsn < 2 ^ 32
    → ((d : ChunkPayloadData) → (0 < length chunks) × ((get_or chunks 0 d).tsn ≡ front)) → IsLatestPlace chunks tsn (distance front tsn)
latest_found chunks serial tsn front fits read short d =
    let place = distance front tsn in
    let far = far_enough chunks serial 0 d place (omega arith) short in
    subst (λ f. distance f tsn ≤ distance f (get_or chunks place d).tsn → comes_before (get_or chunks place d).tsn tsn ≡ false) (read d).1
    (λ le. not_before (get_or chunks 0 d).tsn (get_or chunks place d).tsn tsn (serial.in_range 0 d (read d).0) (serial.in_range place d short) fits le far.1)
    (subst (λ f. distance front tsn ≤ distance f (get_or chunks place d).tsn) (read d).1 (omega (arith, far)))

-- a chunk before the TSN is not at the latest place
pub before_latest : (chunks : List ChunkPayloadData) (tsn latest place here : ℕ) → IsLatestPlace chunks tsn latest
    → ((d : ChunkPayloadData) → (get_or chunks place d).tsn ≡ here) → IsTrue (comes_before here tsn) → place < length chunks → place ≤ latest
    → place < latest
before_latest chunks tsn latest place here is number h short le = elim (cases_lt place latest) [
  | inl lt ↦ lt
  | inr at ↦ absurd (false≢true (sym (is (omega arith) any_chunk) ∙ subst (λ t. IsTrue (comes_before t tsn))
      (sym (number any_chunk) ∙ ap (λ i. (get_or chunks i any_chunk).tsn) (omega arith)) h))
]

-- what lies behind the latest place comes after the TSN
module _ (chunks : List ChunkPayloadData) (serial : IsSerial chunks) (tsn latest : ℕ) (fits : tsn < 2 ^ 32) (is : IsLatestPlace chunks tsn latest) where
  stays : (k : ℕ) (d : ChunkPayloadData) → latest < k → k < length chunks → IsTrue (comes_before (get_or chunks latest d).tsn tsn) → ⊥
  stays k d lt short h = false≢true (sym (is (omega arith) d) ∙ h)

  differs_behind : (k : ℕ) (d : ChunkPayloadData) → latest < k → k < length chunks → (get_or chunks k d).tsn ≢ tsn
  differs_behind k d lt short same = stays k d lt short
      (subst (λ t. IsTrue (comes_before (get_or chunks latest d).tsn t)) same (serial.ascending latest k d lt short))

  comes_behind : (b : ℕ) → IsWindow b chunks tsn → (k : ℕ) (d : ChunkPayloadData) → latest < k → k < length chunks
      → IsTrue (comes_before tsn (get_or chunks k d).tsn)
  comes_behind b w k d lt short =
      let here = (get_or chunks k d).tsn in
      let near = w.held k d short in
      let at = w.held latest d (omega arith) in
      before_total b here tsn w.base_in_range (serial.in_range k d short) fits near.0 near.1 w.number.0 w.number.1 (differs_behind k d lt short)
      (false_from_ne_true (comes_before here tsn) (λ h. stays k d lt short (before_trans b (get_or chunks latest d).tsn here tsn w.base_in_range
      (serial.in_range latest d (omega arith)) (serial.in_range k d short) fits at.0 at.1 near.0 near.1 w.number.0 w.number.1
      (serial.ascending latest k d lt short) h)))

  pub narrowed_latest : (high : ℕ) → high ≡ min (length chunks) (latest + 1) → Narrowed chunks tsn 0 high
  narrowed_latest high e = record {
    ordered = omega arith;
    in_range = omega arith;
    none_left = λ k d lt. absurd (omega arith);
    none_right = λ k d le short. differs_behind k d (omega arith) short;
    left = λ b w k d lt. absurd (omega arith);
    right = λ b w k d le short. comes_behind b w k d (omega arith) short;
  }
