-- An association that goes on alone.
use Rattle.std.proofs.Common.{ℕ, ◌<◌, ◌+◌, ◌++◌, Bool, List, [], ◌∷◌, ap, refl, subst, sym}
use Rattle.std.proofs.lemmas.List.{take_more}
use Rattle.std.specs.Prelude.{length, slice_index, take}
use Rattle.sctp_association.specs.Silence.{LastsAt}
use Rattle.sctp_association.specs.Lasting.{Expires, LastsAlong, expires}
use Rattle.sctp_association.specs.declared.association.Association.{Association}

-- at one more moment
lasts-more : (ms : List ℕ) (now : ℕ) (es : List Bool) (a b c : Association) → LastsAt ms es a b → Expires (expires now b) b c
    → LastsAt (ms ++ now ∷ []) (es ++ expires now b ∷ []) a c
lasts-more [] now [] a b c run step = (ap (expires now) run, (c, (subst (λ (x : Association). Expires (expires now b) x c) run step, refl)))
lasts-more [] now (e ∷ es) a b c run step = absurd run
lasts-more (m ∷ ms) now [] a b c run step = absurd run
lasts-more (m ∷ ms) now (e ∷ es) a b c run step =
    (run.0, (run.1.0, (run.1.1.0, lasts-more ms now es run.1.0 b c run.1.1.1 step)))

-- of these moments so many have come
abbrev pub LastsFirst : ℕ → List ℕ → Association → Association → Type 0
LastsFirst i moments a b = (es : List Bool) × LastsAt (take i moments) es a b

pub first_more : (i : ℕ) (moments : List ℕ) (a b c : Association) → i < length moments → LastsFirst i moments a b
    → Expires (expires (slice_index moments i) b) b c → LastsFirst (i + 1) moments a c
first_more i moments a b c lt first step =
    let now = slice_index moments i in (
      first.0 ++ expires now b ∷ [],
      subst (λ (ms : List ℕ). LastsAt ms (first.0 ++ expires now b ∷ []) a c) (sym (take_more moments i 0 lt))
          (lasts-more (take i moments) now first.0 a b c first.1 step),
    )

pub along : (ms : List ℕ) (es : List Bool) (a b : Association) → LastsAt ms es a b → LastsAlong es a b
along [] [] a b run = run
along [] (e ∷ es) a b run = absurd run
along (m ∷ ms) [] a b run = absurd run
along (m ∷ ms) (e ∷ es) a b run = (run.1.0, (run.1.1.0, along ms es run.1.0 b run.1.1.1))
