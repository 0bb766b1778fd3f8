-- What stands behind headers of IPv6, one header further.
use Rattle.std.proofs.Common.{◌≡◌, ◌≢◌, ℕ, zero, suc, ◌+◌, ◌-◌, ◌<◌, ◌≤◌, inl, inr, Bool, true, false, List, length, refl, arith}
use Rattle.std.specs.Prelude.{slice_index, slice_range, ◌==◌}
use Rattle.sctp_capture.specs.Frame.{IsAtomic, IsPassed, passed_bytes, IsUpper}

-- what is left behind the header
abbrev pub left : ℕ → List ℕ → List ℕ
left first payload = slice_range payload (passed_bytes first payload) (length payload)

further_of : (n first : ℕ) (payload : List ℕ) (p : ℕ) (q : List ℕ) → IsPassed first payload → passed_bytes first payload ≤ length payload
    → IsUpper n (slice_index payload 0) (left first payload) p q → IsUpper (suc n) first payload p q
unfolding IsUpper
further_of n first payload p q extension fits upper = inl (extension, fits, upper)

-- one header is passed
pub further : (k first : ℕ) (payload : List ℕ) (p : ℕ) (q : List ℕ) → k < 16 → IsPassed first payload → passed_bytes first payload ≤ length payload
    → IsUpper (16 - (k + 1)) (slice_index payload 0) (left first payload) p q → IsUpper (16 - k) first payload p q
further k first payload p q lt extension fits upper =
    let e : 16 - k ≡ suc (16 - (k + 1)) = omega arith in rw e (further_of (16 - (k + 1)) first payload p q extension fits upper)

nearer_of : (n first : ℕ) (payload : List ℕ) (p : ℕ) (q : List ℕ) → IsPassed first payload → IsUpper (suc n) first payload p q
    → (passed_bytes first payload ≤ length payload) × IsUpper n (slice_index payload 0) (left first payload) p q
unfolding IsUpper
nearer_of n first payload p q extension (inl it) = (it.1, it.2)
nearer_of n first payload p q extension (inr it) = absurd (it.0 extension)

-- behind an extension something stands only where its header is whole, and then behind that
pub nearer : (k first : ℕ) (payload : List ℕ) (p : ℕ) (q : List ℕ) → k < 16 → IsPassed first payload → IsUpper (16 - k) first payload p q
    → (passed_bytes first payload ≤ length payload) × IsUpper (16 - (k + 1)) (slice_index payload 0) (left first payload) p q
nearer k first payload p q lt extension upper =
    let e : 16 - k ≡ suc (16 - (k + 1)) = omega arith in nearer_of (16 - (k + 1)) first payload p q extension (rw e at upper)

passed_least_by : (b : Bool) (first : ℕ) (payload : List ℕ) → (first == 44) ≡ b → 8 ≤ passed_bytes first payload
passed_least_by true first payload e = rw e (omega arith)
passed_least_by false first payload e = rw e (omega arith)

-- such a header has eight bytes or more
pub passed_least : (first : ℕ) (payload : List ℕ) → 8 ≤ passed_bytes first payload
passed_least first payload = passed_least_by (first == 44) first payload refl

-- behind a header that is cut off nothing stands
pub cut_off : (k first : ℕ) (payload : List ℕ) (p : ℕ) (q : List ℕ) → k < 16 → IsPassed first payload → length payload < passed_bytes first payload
    → IsUpper (16 - k) first payload p q → ⊥
cut_off k first payload p q lt extension short upper =
    let n = nearer k first payload p q lt extension upper in omega (arith, short, n.0)

here_of : (n first : ℕ) (payload : List ℕ) → (IsPassed first payload → ⊥) → first ≢ 44 → IsUpper (suc n) first payload first payload
unfolding IsUpper
here_of n first payload other whole = inr (other, whole, refl, refl)

-- the last header carries it
pub here : (k first : ℕ) (payload : List ℕ) → k < 16 → (IsPassed first payload → ⊥) → first ≢ 44 → IsUpper (16 - k) first payload first payload
here k first payload lt other whole =
    let e : 16 - k ≡ suc (16 - (k + 1)) = omega arith in rw e (here_of (16 - (k + 1)) first payload other whole)

fragment_is_not_passed : (payload : List ℕ) → (IsAtomic payload → ⊥) → IsPassed 44 payload → ⊥
fragment_is_not_passed payload parted (inl e) = absurd (omega (arith, e))
fragment_is_not_passed payload parted (inr (inl e)) = absurd (omega (arith, e))
fragment_is_not_passed payload parted (inr (inr (inl e))) = absurd (omega (arith, e))
fragment_is_not_passed payload parted (inr (inr (inr it))) = parted it.1

-- a fragment carries none
pub no_fragment : (n : ℕ) (payload : List ℕ) (p : ℕ) (q : List ℕ) → (IsAtomic payload → ⊥) → IsUpper n 44 payload p q → ⊥
unfolding IsUpper
no_fragment zero payload p q parted none = none
no_fragment (suc n) payload p q parted (inl it) = fragment_is_not_passed payload parted it.0
no_fragment (suc n) payload p q parted (inr it) = it.1 refl

-- what is neither passed nor a fragment is no fragment header
pub no_header : (first : ℕ) (payload : List ℕ) → (IsPassed first payload → ⊥) → ((first ≡ 44) × (IsAtomic payload → ⊥) → ⊥) → first ≢ 44
no_header first payload other parted e = parted (e, λ atomic. other (inr (inr (inr (e, atomic)))))

-- nothing stands behind none
pub none_left : (first : ℕ) (payload : List ℕ) (p : ℕ) (q : List ℕ) → IsUpper 0 first payload p q → ⊥
unfolding IsUpper
none_left first payload p q it = it

-- one thing stands behind the headers
pub only_upper : (n first : ℕ) (payload : List ℕ) (p : ℕ) (q : List ℕ) (p' : ℕ) (q' : List ℕ) → IsUpper n first payload p q
    → IsUpper n first payload p' q' → (p ≡ p') × (q ≡ q')
unfolding IsUpper
only_upper zero first payload p q p' q' a b = absurd a
only_upper (suc n) first payload p q p' q' (inl a) (inl b) =
    only_upper n (slice_index payload 0) (left first payload) p q p' q' a.2 b.2
only_upper (suc n) first payload p q p' q' (inl a) (inr b) = absurd (b.0 a.0)
only_upper (suc n) first payload p q p' q' (inr a) (inl b) = absurd (a.0 b.0)
only_upper (suc n) first payload p q p' q' (inr a) (inr b) = (rw (a.2, b.2) refl, rw (a.3, b.3) refl)
