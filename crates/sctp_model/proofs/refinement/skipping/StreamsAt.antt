-- The streams of a record at their places.
use Rattle.sctp_model.proofs.Names.{◌≡◌, ℕ, zero, suc, ◌<◌, Bool, true, false, List, [], ◌∷◌, length, Some, refl, ap, ◌∙◌, arith, if◌then◌else◌, ◌==◌, ◌&&◌}
use Rattle.sctp_model.proofs.Names.{find, slice_index_or, list_all, same-yes, StreamRecord}

pub found-at : (i : ℕ) (rs : List StreamRecord) (d : StreamRecord) → i < length rs
    → (r : StreamRecord) × (find (λ q. q.stream == (slice_index_or rs i d).stream) rs ≡ Some r)
found-at i [] d lt = absurd (omega arith)
found-at zero (q ∷ rs) d lt = (q, ap (λ b. if b then Some q else find (λ p. p.stream == q.stream) rs) (same-yes q.stream))
found-at (suc i) (q ∷ rs) d lt = step (q.stream == (slice_index_or rs i d).stream) (found-at i rs d (omega arith))
  where
    step : (b : Bool) → (r : StreamRecord) × (find (λ p. p.stream == (slice_index_or rs i d).stream) rs ≡ Some r)
        → (r : StreamRecord) × ((if b then Some q else find (λ p. p.stream == (slice_index_or rs i d).stream) rs) ≡ Some r)
    step true f = (q, refl)
    step false f = f

pub all-same : (f g : StreamRecord → Bool) (rs : List StreamRecord)
    → ((i : ℕ) (d : StreamRecord) → i < length rs → f (slice_index_or rs i d) ≡ g (slice_index_or rs i d)) → list_all f rs ≡ list_all g rs
all-same f g [] h = refl
all-same f g (r ∷ rs) h = ap (λ b. b && list_all f rs) (h 0 r (omega arith)) ∙ ap (λ b. g r && b) (all-same f g rs (λ i d lt. h (suc i) d (omega arith)))
