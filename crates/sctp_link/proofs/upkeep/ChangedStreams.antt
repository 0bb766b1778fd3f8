-- Streams of one number are changed: what of a list stays, and what stands at each place.
use Rattle.sctp_link.proofs.Names.{OpenStream, has_number, ◌≡◌, ℕ, ◌<◌, Bool, true, false, List, [], ◌∷◌, length, map, refl, ap, sym, ◌∙◌, arith}
use Rattle.sctp_link.proofs.Names.{if◌then◌else◌, ◌==◌, slice_index_or, change_where, subst, same-is, same-yes, not_both, change_where-map}
use Rattle.sctp_link.proofs.Names.{length-change_where, StreamRecord, stream_record, map-at, same-turned}

-- what the change leaves of a stream it leaves of the list
pub fields-same : {A : Type 0} (f : OpenStream → A) (g : OpenStream → OpenStream) → ((l : OpenStream) → f (g l) ≡ f l) → (s : ℕ) (ls : List OpenStream)
    → map f (change_where (has_number s) g ls) ≡ map f ls
fields-same f g e s [] = refl
fields-same f g e s (l ∷ ls) = ap (λ x. x ∷ map f (change_where (has_number s) g ls)) (one (has_number s l)) ∙ ap (λ xs. f l ∷ xs) (fields-same f g e s ls)
  where
    one : (b : Bool) → f (if b then g l else l) ≡ f l
    one true = e l
    one false = refl

-- a stream of the number is changed, each other one is as it was
pub changed-at : (g : OpenStream → OpenStream) (s : ℕ) (ls : List OpenStream) (k : ℕ) (d : OpenStream) → k < length ls → slice_index_or
    (change_where (has_number s) g ls) k d ≡ (if s == (slice_index_or ls k d).state.stream_identifier then g (slice_index_or ls k d) else slice_index_or ls k d)
changed-at g s ls k d lt =
    ap (λ ys. slice_index_or ys k d) (change_where-map (has_number s) g ls) ∙ map-at (λ x. if has_number s x then g x else x) k ls d lt
    ∙ ap (λ b. if b then g (slice_index_or ls k d) else slice_index_or ls k d) (same-turned (slice_index_or ls k d).state.stream_identifier s)

-- so their records change
pub records-changed : (f : StreamRecord → StreamRecord) (g : OpenStream → OpenStream) → ((l : OpenStream) → stream_record (g l) ≡ f (stream_record l))
    → (s : ℕ) (ls : List OpenStream) → map stream_record (change_where (has_number s) g ls) ≡ map (λ r. if r.stream == s then f r else r) (map stream_record ls)
records-changed f g e s [] = refl
records-changed f g e s (l ∷ ls) = ap (λ x. x ∷ map stream_record (change_where (has_number s) g ls)) (one (l.state.stream_identifier == s))
    ∙ ap (λ xs. (if l.state.stream_identifier == s then f (stream_record l) else stream_record l) ∷ xs) (records-changed f g e s ls)
  where
    one : (b : Bool) → stream_record (if b then g l else l) ≡ (if b then f (stream_record l) else stream_record l)
    one true = e l
    one false = refl

-- what holds of each stream, and after the change of those with the number, holds of each one then
pub each-changed : (P : OpenStream → Type 0) (g : OpenStream → OpenStream) (s : ℕ) (ls : List OpenStream)
    → ((k : ℕ) (d : OpenStream) → k < length ls → (slice_index_or ls k d).state.stream_identifier ≡ s → P (g (slice_index_or ls k d)))
    → ((k : ℕ) (d : OpenStream) → k < length ls → ((slice_index_or ls k d).state.stream_identifier ≡ s → ⊥) → P (slice_index_or ls k d))
    → (k : ℕ) (d : OpenStream) → k < length (change_where (has_number s) g ls) → P (slice_index_or (change_where (has_number s) g ls) k d)
each-changed P g s ls on off k d lt = subst P (sym (changed-at g s ls k d below)) (by (s == (slice_index_or ls k d).state.stream_identifier) refl)
  where
    below : k < length ls
    below = omega (arith, lt, length-change_where (has_number s) g ls)

    by : (b : Bool) → (s == (slice_index_or ls k d).state.stream_identifier) ≡ b → P (if b then g (slice_index_or ls k d) else slice_index_or ls k d)
    by true e = on k d below (sym (same-is s (slice_index_or ls k d).state.stream_identifier e))
    by false e = off k d below (λ z. not_both (sym e ∙ ap (λ n. s == n) z ∙ same-yes s))
