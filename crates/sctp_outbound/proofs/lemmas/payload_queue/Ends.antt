-- What the first and the last of chunks in serial order say of all of them.
use Rattle.std.proofs.Common.{◌≡◌, ℕ, ◌+◌, ◌-◌, ◌%◌, ◌^◌, ◌<◌, ◌≤◌, ◌&&◌, Bool, true, false, not, IsTrue, if◌then◌else◌, List, [], ◌∷◌, length, get_or, refl}
use Rattle.std.proofs.Common.{sym, subst, ◌∙◌, inl, inr, arith}
use Rattle.std.specs.List.{All}
use Rattle.std.proofs.lemmas.Bool.{cases_lt, false≢true}
use Rattle.std.proofs.lemmas.Bool.Decides.{nat_tests}
use Rattle.sctp_data.specs.declared.chunk.chunk_payload_data.ChunkPayloadData.{ChunkPayloadData}
use Rattle.sctp_util.specs.Serial.{distance, comes_before, at_or_before}
use Rattle.sctp_util.proofs.Distances.{before_is, before_by_distance, distance_by_before}
use Rattle.sctp_outbound.proofs.lemmas.payload_queue.Marked.{any_chunk}
use Rattle.sctp_serial.specs.Window.{IsSerial, IsWindow, IsWithinHalf, SpansOneWindow, first_among, is_held, is_new}

-- distances add up, where the sum is short of the circle
distances_add : (a b c : ℕ) → a < 2 ^ 32 → b < 2 ^ 32 → c < 2 ^ 32 → distance a b + distance b c < 2 ^ 32 → distance a c ≡ distance a b + distance b c
unfolding distance
distances_add a b c ha hb hc h = omega arith

-- what lies between two numbers
between : (base f m l : ℕ) → base < 2 ^ 32 → f < 2 ^ 32 → m < 2 ^ 32 → l < 2 ^ 32 → IsWithinHalf base f → IsWithinHalf base l → IsTrue (comes_before f m)
    → IsTrue (comes_before m l) → IsTrue (comes_before f l) → IsWithinHalf base m
between base f m l hb hf hm hl wf wl fm ml fl =
    let a = before_is f m fm in
    let b = before_is m l ml in
    let c = before_is f l fl in
    let s = distances_add f m l hf hm hl (omega (arith, a, b)) in
    let t = distances_add base f l hb hf hl (omega (arith, c, wf)) in
    let u = distances_add base f m hb hf hm (omega (arith, a, wf)) in
    (omega (arith, u, wf), omega (arith, s, t, u, wl, b))

module _ (chunks : List ChunkPayloadData) (serial : IsSerial chunks) where
  -- where the first and the last lie within half a circle after a base, so do all
  pub all_between : (base : ℕ) → base < 2 ^ 32 → (f l : ℕ) → 0 < length chunks → ((d : ChunkPayloadData) → (get_or chunks 0 d).tsn ≡ f)
      → ((d : ChunkPayloadData) → (get_or chunks (length chunks - 1) d).tsn ≡ l) → IsWithinHalf base f → IsWithinHalf base l
      → All (λ c. IsWithinHalf base c.tsn) chunks
  all_between base hb f l some rf rl wf wl k d lt =
      let last = length chunks - 1 in
      let wf' : IsWithinHalf base (get_or chunks 0 d).tsn = subst (IsWithinHalf base) (sym (rf d)) wf in
      let wl' : IsWithinHalf base (get_or chunks last d).tsn = subst (IsWithinHalf base) (sym (rl d)) wl in
      elim (cases_lt 0 k) [
        | inl later ↦ elim (cases_lt k last) [
          | inl sooner ↦ between base (get_or chunks 0 d).tsn (get_or chunks k d).tsn (get_or chunks last d).tsn hb (serial.in_range 0 d some)
              (serial.in_range k d lt) (serial.in_range last d (omega arith)) wf' wl' (serial.ascending 0 k d later lt)
              (serial.ascending k last d sooner (omega arith)) (serial.ascending 0 last d (omega arith) (omega arith))
          | inr at_last ↦ subst (λ i. IsWithinHalf base (get_or chunks i d).tsn) {x = last} (omega arith) wl'
        ]
        | inr at_first ↦ subst (λ i. IsWithinHalf base (get_or chunks i d).tsn) {x = 0} (omega arith) wf'
      ]

-- of all, one that is read
pub read_within : (chunks : List ChunkPayloadData) (base place tsn : ℕ) → place < length chunks → ((d : ChunkPayloadData) → (get_or chunks place d).tsn ≡ tsn)
    → All (λ c. IsWithinHalf base c.tsn) chunks → IsWithinHalf base tsn
read_within chunks base place tsn lt read all = subst (IsWithinHalf base) (read any_chunk) (all place any_chunk lt)

-- ## The window that begins with the first

-- the number before one
abbrev pub before_one : ℕ → ℕ
before_one n = (n + (2 ^ 32 - 1)) % 2 ^ 32

-- what lies no sooner after a base than the first does
from_first : (base first n : ℕ) → base < 2 ^ 32 → first < 2 ^ 32 → n < 2 ^ 32 → 0 < distance base first → distance base first ≤ distance base n
    → distance base n ≤ 2 ^ 31 → IsWithinHalf (before_one first) n
unfolding distance
from_first base first n hb hf hn some le partial = (omega arith, omega arith)

module _ (tsn base : ℕ) (small : tsn < 2 ^ 32) where
  -- the first lies no farther after a base than the TSN and the chunks do
  first_nearest : (chunks : List ChunkPayloadData) → IsSerial chunks → IsWindow base chunks tsn
      → (first_among tsn chunks < 2 ^ 32) × (0 < distance base (first_among tsn chunks)) × (distance base (first_among tsn chunks) ≤ distance base tsn)
      × All (λ c. distance base (first_among tsn chunks) ≤ distance base c.tsn) chunks
  first_nearest [] serial w = (small, w.number.0, omega arith, λ k d lt. absurd (omega arith))
  first_nearest (x ∷ xs) serial w = step (comes_before tsn x.tsn) refl
    where
      here : IsWithinHalf base x.tsn
      here = w.held 0 x (omega arith)

      fits : x.tsn < 2 ^ 32
      fits = serial.in_range 0 x (omega arith)

      behind : (k : ℕ) (d : ChunkPayloadData) → k < length (x ∷ xs) → distance base x.tsn ≤ distance base (get_or (x ∷ xs) k d).tsn
      behind k d lt = elim (cases_lt 0 k) [
        | inl later ↦ let far = distance_by_before base x.tsn (get_or (x ∷ xs) k d).tsn w.base_in_range fits (serial.in_range k d lt) here.0 here.1
            (w.held k d lt).0 (w.held k d lt).1 (serial.ascending 0 k d later lt) in omega arith
        | inr at ↦ subst (λ i. distance base x.tsn ≤ distance base (get_or (x ∷ xs) i d).tsn) {x = 0} (omega arith) (omega arith)
      ]

      step : (b : Bool) → comes_before tsn x.tsn ≡ b → let first = if b then tsn else x.tsn in (first < 2 ^ 32) × (0 < distance base first)
          × (distance base first ≤ distance base tsn) × All (λ c. distance base first ≤ distance base c.tsn) (x ∷ xs)
      step true e =
          let near = distance_by_before base tsn x.tsn w.base_in_range small fits w.number.0 w.number.1 here.0 here.1 e in
          (small, w.number.0, omega arith, λ k d lt. let far = behind k d lt in omega arith)
      step false e = (fits, here.0, not_nearer, behind)
        where
          not_nearer : distance base x.tsn ≤ distance base tsn
          not_nearer = elim (cases_lt (distance base tsn) (distance base x.tsn)) [
            | inl nearer ↦ absurd (false≢true (sym e ∙ before_by_distance base tsn x.tsn w.base_in_range small fits w.number.0 w.number.1 here.0 here.1 nearer))
            | inr not_so ↦ not_so
          ]

-- where there is a window, the number before the first is a base of one
pub first_spans : (chunks : List ChunkPayloadData) (tsn : ℕ) → tsn < 2 ^ 32 → IsSerial chunks → SpansOneWindow chunks tsn
    → IsWithinHalf (before_one (first_among tsn chunks)) tsn × All (λ c. IsWithinHalf (before_one (first_among tsn chunks)) c.tsn) chunks
first_spans chunks tsn small serial (base, w) =
    let n = first_nearest tsn base small chunks serial w in
    let first = first_among tsn chunks in (
      from_first base first tsn w.base_in_range n.0 small n.1 n.2 w.number.1,
      λ k d lt. from_first base first (get_or chunks k d).tsn w.base_in_range n.0 (serial.in_range k d lt) n.1 (n.3 k d lt) (w.held k d lt).1,
    )

-- ## New TSNs

-- a TSN that is not at or before the cumulative one lies within half a circle after it
not_before : (cumulative tsn : ℕ) → cumulative < 2 ^ 32 → tsn < 2 ^ 32 → at_or_before tsn cumulative ≡ false → IsWithinHalf cumulative tsn
unfolding distance at_or_before
not_before cumulative tsn hc ht h =
    let far : 2 ^ 31 ≤ (cumulative + (2 ^ 32 - tsn)) % 2 ^ 32 = grind (arith, nat_tests) in
    (omega arith, omega arith)

-- where all that is held lies so, a new TSN lies in one window with it
pub new_window : (chunks : List ChunkPayloadData) (cumulative tsn : ℕ) → cumulative < 2 ^ 32 → tsn < 2 ^ 32 → All (λ c. IsWithinHalf cumulative c.tsn) chunks
    → IsTrue (is_new chunks tsn cumulative) → IsWindow cumulative chunks tsn
new_window chunks cumulative tsn hc ht all new = record {
  base_in_range = hc;
  number = not_before cumulative tsn hc ht (second (is_held chunks tsn) (at_or_before tsn cumulative) new);
  held = all;
}
  where
    second : (a b : Bool) → IsTrue (not a && not b) → b ≡ false
    second a false h = refl
    second false true h = absurd (false≢true h)
    second true true h = absurd (false≢true h)
