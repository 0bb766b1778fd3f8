-- What a filter of TSNs and its gap ack blocks know, where none arrived but those that were given out.
use Rattle.sctp_delivery.proofs.Names.{◌≡◌, ℕ, ◌+◌, ◌<◌, ◌≤◌, ◌%◌, ◌^◌, Bool, true, List, [], ◌∷◌, map, refl, arith, if◌then◌else◌, ◌==◌, ◌&&◌, nat_le, filter}
use Rattle.sctp_delivery.proofs.Names.{list_any, cases_lt, nat_tests, put_before_runs, runs_of, advance_over, Seen, distance, not_both, tsn, distance-tsn}
use Rattle.sctp_delivery.proofs.Names.{distance-tsn_back}
use Rattle.sctp_delivery.proofs.Every.{Every}

-- one of the n TSNs that were given out, and it is known
pub record IsKnown (p n : ℕ) (known : ℕ → Bool) (t : ℕ) : Type 0 where
  pub place : ℕ
  pub some : 0 < place
  pub within : place ≤ n
  pub is : t ≡ tsn p place
  pub so : known t ≡ true

-- all up to the cumulative TSN is known, and each one beyond
pub record IsArrived (p n : ℕ) (known : ℕ → Bool) (cumulative : ℕ) (beyond : List ℕ) : Type 0 where
  pub place : ℕ
  pub within : place ≤ n
  pub is : cumulative ≡ tsn p place
  pub so_far : (k : ℕ) → 0 < k → k ≤ place → known (tsn p k) ≡ true
  pub each : Every (IsKnown p n known) beyond

pub advanced : (p n : ℕ) (known : ℕ → Bool) (c : ℕ) (ts : List ℕ) → n < 2 ^ 31 → IsArrived p n known c ts → IsArrived p n known (advance_over c ts).cum
    (advance_over c ts).held
advanced p n known c [] few h = h
advanced p n known c (t ∷ ts) few h = by (t == (c + 1) % 2 ^ 32) refl (λ g. advanced p n known t ts few g)
  where
    by : (b : Bool) → (t == (c + 1) % 2 ^ 32) ≡ b → (IsArrived p n known t ts → IsArrived p n known (advance_over t ts).cum (advance_over t ts).held) →
        (let s : Seen = if b then advance_over t ts else (let r : Seen = record { cum = c; held = t ∷ ts } in r) in IsArrived p n known s.cum s.held)
    by b h2 h3 = grind (arith, nat_tests)

-- ## Gap ack blocks

abbrev pub in_run : ℕ → ℕ × ℕ → Bool
in_run d b = nat_le b.0 d && nat_le d b.1

pub in-runs : (P : ℕ → Type 0) (ds : List ℕ) (d : ℕ) → Every P ds → list_any (in_run d) (runs_of ds) ≡ true → P d
in-runs P [] d h e = absurd (not_both e)
in-runs P (x ∷ xs) d h e = by (runs_of xs) (λ g. in-runs P xs d h.1 g) e
  where
    by : (bs : List (ℕ × ℕ)) → (list_any (in_run d) bs ≡ true → P d) → list_any (in_run d) (put_before_runs x bs) ≡ true → P d
    by bs h2 h3 = grind (arith, nat_tests)

-- so far past a cumulative TSN stands one that is known
pub record IsKnownAfter (p n : ℕ) (known : ℕ → Bool) (cum d : ℕ) : Type 0 where
  pub some : 0 < d
  pub within : cum + d ≤ n
  pub so : known (tsn p (cum + d)) ≡ true

pub after-cumulative : (p n : ℕ) (known : ℕ → Bool) (cum : ℕ) (offset : ℕ → Bool) → n < 2 ^ 31 → cum ≤ n →
    ((d : ℕ) → offset d ≡ true → (0 < d) × (d < 2 ^ 16)) → (ts : List ℕ) → Every (IsKnown p n known) ts → Every (IsKnownAfter p n known cum)
    (filter offset (map (distance (tsn p cum)) ts))
after-cumulative p n known cum offset few le far [] h = tt
after-cumulative p n known cum offset few le far (t ∷ ts) h =
    grind (arith, nat_tests, cases_lt, distance-tsn, distance-tsn_back, after-cumulative p n known cum offset few le far ts h.1)
