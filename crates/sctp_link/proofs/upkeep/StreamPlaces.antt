-- The streams of a link, by their numbers: the place of one that is found, and what its change makes of them all.
use Rattle.sctp_link.proofs.Names.{◌≡◌, ℕ, suc, ◌<◌, Bool, true, false, List, [], ◌∷◌, ◌++◌, length, get_or, set, Some, None, refl, ap, sym, ◌∙◌, arith, ◌==◌}
use Rattle.sctp_link.proofs.Names.{◌||◌, if◌then◌else◌, find, slice_index_or, slice_set, list_any, subst, ne_eqb, eq-eqb, change_where, change_where-only}
use Rattle.sctp_link.proofs.Names.{by_place, OpenStream, number, has_number, stream_numbers, IsApart, map-set_same, get_or_default}
use Rattle.sctp_link.proofs.upkeep.Apart.{number-found, differ}
use Rattle.sctp_link.proofs.upkeep.ChangedStreams.{fields-same}

-- the place of a stream that is found
pub placed : (s : ℕ) (ls : List OpenStream) (l : OpenStream) → find (has_number s) ls ≡ Some l
    → (k : ℕ) × ((k < length ls) × ((d : OpenStream) → slice_index_or ls k d ≡ l))
placed s [] l e = cc
placed s (x ∷ ls) l e = step (x.state.stream_identifier == s) e (placed s ls l)
  where
    step : (b : Bool) → (if b then Some x else find (has_number s) ls) ≡ Some l
        → (find (has_number s) ls ≡ Some l → (k : ℕ) × ((k < length ls) × ((d : OpenStream) → slice_index_or ls k d ≡ l)))
        → (k : ℕ) × ((k < length (x ∷ ls)) × ((d : OpenStream) → slice_index_or (x ∷ ls) k d ≡ l))
    step true h ih = (0, (omega arith, λ d. let z : x ≡ l = cc in z))
    step false h ih = let r = ih h in (suc r.0, (omega (arith, r.1.0), λ d. r.1.1 d))

-- it is the only one of its number
pub only-found : (s : ℕ) (ls : List OpenStream) (l : OpenStream) → IsApart (stream_numbers ls) → find (has_number s) ls ≡ Some l → (k : ℕ) (d : OpenStream)
    → k < length ls → (slice_index_or ls k d).state.stream_identifier ≡ s → slice_index_or ls k d ≡ l
only-found s ls l a f k d lt e =
    let p = placed s ls l f in
    by_place {C = slice_index_or ls k d ≡ l} k p.0
    (λ ne. absurd (differ ls k p.0 d a lt p.1.0 ne (e ∙ sym (ap (λ (x : OpenStream). x.state.stream_identifier) (p.1.1 d) ∙ number-found s ls l f))))
    (λ z. ap (λ j. slice_index_or ls j d) z ∙ p.1.1 d)

-- where it stands alone, it alone is changed
pub changed-found : (s : ℕ) (ls : List OpenStream) → IsApart (stream_numbers ls) → (f : OpenStream → OpenStream) (k : ℕ) (d : OpenStream) → k < length ls
    → (slice_index_or ls k d).state.stream_identifier ≡ s → set ls k (f (get_or ls k d)) ≡ change_where (has_number s) f ls
changed-found s ls a f k d lt e = sym (change_where-only (has_number s) f ls k d (record {
  in_range = lt;
  here = λ c. eq-eqb _ _ (at-any c);
  elsewhere = λ j c less ne. ne_eqb _ _ (λ z. differ ls j k c a less lt ne (z ∙ sym (at-any c)));
}))
  where
    at-any : (c : OpenStream) → (slice_index_or ls k c).state.stream_identifier ≡ s
    at-any c = ap (λ (l : OpenStream). l.state.stream_identifier) (get_or_default ls k c d lt) ∙ e

-- ## No number twice

-- no number changes
pub apart-set : (ls : List OpenStream) (k : ℕ) (y d : OpenStream) → IsApart (stream_numbers ls)
    → y.state.stream_identifier ≡ (slice_index_or ls k d).state.stream_identifier → IsApart (stream_numbers (slice_set ls k y))
apart-set ls k y d a e = subst IsApart (sym (map-set_same number ls k y d e)) a

pub apart-changed : (s : ℕ) (f : OpenStream → OpenStream) (ls : List OpenStream) → ((l : OpenStream)
    → (f l).state.stream_identifier ≡ l.state.stream_identifier) → IsApart (stream_numbers ls) → IsApart (stream_numbers (change_where (has_number s) f ls))
apart-changed s f ls same a = subst IsApart (sym (fields-same number f same s ls)) a

-- one more, which was not there
pub apart-more : (ls : List OpenStream) (l : OpenStream) → IsApart (stream_numbers ls) → find (has_number l.state.stream_identifier) ls ≡ None
    → IsApart (stream_numbers (ls ++ l ∷ []))
apart-more [] l a none = (refl, tt)
apart-more (x ∷ ls) l a none = step (x.state.stream_identifier == l.state.stream_identifier) refl none (apart-more ls l a.1)
  where
    more : (n : ℕ) (ls : List OpenStream) → (l.state.stream_identifier == n) ≡ false → list_any (λ k. k == n) (stream_numbers ls) ≡ false
        → list_any (λ k. k == n) (stream_numbers (ls ++ l ∷ [])) ≡ false
    more n [] e h = ap (λ b. b || false) e
    more n (y ∷ ls) e h = other (y.state.stream_identifier == n) h (more n ls e)
      where
        other : (b : Bool) → (b || list_any (λ k. k == n) (stream_numbers ls)) ≡ false → (list_any (λ k. k == n) (stream_numbers ls) ≡ false
            → list_any (λ k. k == n) (stream_numbers (ls ++ l ∷ [])) ≡ false) → (b || list_any (λ k. k == n) (stream_numbers (ls ++ l ∷ []))) ≡ false
        other true g ih = cc
        other false g ih = ih g

    step : (b : Bool) → (x.state.stream_identifier == l.state.stream_identifier) ≡ b
        → (if b then Some x else find (has_number l.state.stream_identifier) ls) ≡ None
        → (find (has_number l.state.stream_identifier) ls ≡ None → IsApart (stream_numbers (ls ++ l ∷ []))) → IsApart (stream_numbers (x ∷ (ls ++ l ∷ [])))
    step true e h ih = cc
    step false e h ih = (more x.state.stream_identifier ls (ne_eqb _ _ (λ z. differs (sym (eq-eqb _ _ (sym z)) ∙ e))) a.0, ih h)
      where
        differs : true ≡ false → ⊥
        differs z = cc
