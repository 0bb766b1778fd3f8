-- The first chunk of a datagram begins behind the header.
use Rattle.std.proofs.Common.{◌≡◌, ◌⊎◌, ℕ, true, false, List, [], ◌∷◌, ◌++◌, drop, length, ap, arith, subst, sym, ◌∙◌, inl, inr}
use Rattle.std.proofs.lemmas.Bool.{cases_Bool, false≢true}
use Rattle.std.specs.Prelude.{Result, Ok, Err, IfOk, OnErr}
use Rattle.sctp_association.specs.Coming.{TakesDataAt, TakesOnlyData}
use Rattle.sctp_association.specs.declared.association.Association.{Association}
use Rattle.sctp_association.specs.Cookies.{cookie_in, IsAlive, IsSealed}
use Rattle.sctp_association.specs.Steps.{is_accepted, is_taken}
use Rattle.sctp_association.specs.declared.association.Reason.TheVariants.{Tag}
use Rattle.sctp_association.specs.declared.association.arrivals.Step.{Step}
use Rattle.sctp_association.specs.declared.association.arrivals.Step.TheVariants.{Refused}
use Rattle.sctp_association.specs.declared.association.Taken.{Taken}
use Rattle.sctp_association.specs.declared.fault.Fault.{Fault}
use Rattle.sctp_association.specs.Tags.{AdmitsFirst, BeginsByCookie, EndsWithFirst, FirstIs, FirstIsAlive, IsFor, first_type, is_admitted, is_all_or_nothing}
use Rattle.sctp_datagram.specs.declared.datagram.ChunkPlace.{ChunkPlace}
use Rattle.sctp_datagram.specs.Places.{IsThere, Passes, TellsAll, behind, place_at}
use Rattle.sctp_handshake.specs.declared.machine.Machine.{Machine}
use Rattle.sctp_util.specs.Field.{u32_at}
use Rattle.sctp_datagram.specs.Types.{is_stopping}
use Rattle.sctp_chunks.specs.Framing.{type_at}

-- the chunks are none, or the first is that one
abbrev pub IsFirst : List ℕ → List ChunkPlace → Type 0
IsFirst d [] = Unit {0}
IsFirst d (c ∷ cs) = c ≡ place_at d 12

first_in : (d : List ℕ) (rows passed : List ChunkPlace) (end : ℕ) → Passes place_at d 12 passed end
    → ((drop end d ≡ []) × (rows ≡ passed))
    ⊎ (IsThere (drop end d) × (is_stopping (type_at (drop end d)) ≡ true) × (rows ≡ passed ++ place_at d end ∷ []))
    → IsFirst d rows
first_in d rows [] end passes (inl e) = rw e.1 tt
first_in d rows [] end passes (inr e) = rw e.2 (ap (place_at d) (sym passes))
first_in d rows (r ∷ passed) end passes (inl e) = rw e.1 passes.0
first_in d rows (r ∷ passed) end passes (inr e) = rw e.2 passes.0

pub first_place : (d : List ℕ) (rows : List ChunkPlace) → TellsAll place_at d rows → IsFirst d rows
first_place d rows t = first_in d rows t.passed t.end t.passes t.ended

pub first_is : (d : List ℕ) (rows : List ChunkPlace) → TellsAll place_at d rows → (n : ℕ) → first_type d ≡ n → FirstIs n rows
first_is d [] t n e = tt
first_is d (c ∷ cs) t n e = ap (λ p. p.typ) (first_place d (c ∷ cs) t) ∙ e

pub begins : (d : List ℕ) (rows : List ChunkPlace) (key : List ℕ) (now life : ℕ) → TellsAll place_at d rows
    → FirstIsAlive d rows key now life → BeginsByCookie d key now life
begins d rows key now life t f = record {
  typ = sym (ap (λ p. p.typ) place) ∙ f.typ;
  cookie = subst (λ p. IsAlive now life key (u32_at d 4) (cookie_in d p)) place f.cookie;
}
  where
    place : f.first ≡ place_at d 12
    place = first_place d (f.first ∷ f.rest) (rw (sym f.are) t)

-- ## A datagram of one chunk

pub on_err : {T E : Type 0} {X : Type 0} (r : Result T E) → X → OnErr r X
on_err (Ok x) h = tt
on_err (Err e) h = h

none-first : (x : ChunkPlace) (xs : List ChunkPlace) → [] ≡ x ∷ xs → ⊥
none-first x xs e = cc

pub one_first : (x y : ChunkPlace) (xs : List ChunkPlace) → x ∷ xs ≡ y ∷ [] → (x ≡ y) × (xs ≡ [])
one_first x y xs e = (cc, cc)

-- there is none, or it is the first one
abbrev OneRow : List ℕ → List ChunkPlace → Type 0
OneRow d rows = ((rows ≡ []) × (drop 12 d ≡ [])) ⊎ ((first : ChunkPlace) × (rows ≡ first ∷ []) × (first.typ ≡ first_type d))

none-there : (bytes : List ℕ) → bytes ≡ [] → IsThere bytes → ⊥
none-there bytes e there = omega (arith, there.is_framed.headed, ap length e)

one-row : (d : List ℕ) (rows passed : List ChunkPlace) (end : ℕ) → drop (behind d 12) d ≡ [] → Passes place_at d 12 passed end
    → ((drop end d ≡ []) × (rows ≡ passed))
    ⊎ (IsThere (drop end d) × (is_stopping (type_at (drop end d)) ≡ true) × (rows ≡ passed ++ place_at d end ∷ []))
    → OneRow d rows
one-row d rows [] end one passes (inl e) = inl (e.1, subst (λ (n : ℕ). drop n d ≡ []) (sym passes) e.0)
one-row d rows [] end one passes (inr e) = inr (place_at d end, e.2, ap (λ n. (place_at d n).typ) (sym passes))
one-row d rows (r ∷ []) end one passes (inl e) = inr (r, e.1, ap (λ p. p.typ) passes.0)
one-row d rows (r ∷ []) end one passes (inr e) =
    absurd (none-there (drop end d) (subst (λ (n : ℕ). drop n d ≡ []) passes.3 one) e.0)
one-row d rows (r ∷ q ∷ passed) end one passes e = absurd (none-there (drop (behind d 12) d) one passes.3.1)

-- its type is that of its chunk, and of one without chunks that of DATA
pub type_of_one : (d : List ℕ) (rows : List ChunkPlace) → TellsAll place_at d rows → EndsWithFirst d
    → ((first : ChunkPlace) → rows ≡ first ∷ [] → is_all_or_nothing first.typ ≡ false) → is_all_or_nothing (first_type d) ≡ false
type_of_one d rows t one f = elim (one-row d rows t.passed t.end one t.passes t.ended) [
  | inl e ↦ ap (λ (bytes : List ℕ). is_all_or_nothing (type_at bytes)) e.1
  | inr e ↦ sym (ap is_all_or_nothing e.2) ∙ f e.0 e.1
]

-- what DATA comes to
pub only_data : (d : List ℕ) (rows : List ChunkPlace) (key : List ℕ) (m : Machine) (a b : Association) → TellsAll place_at d rows → EndsWithFirst d
    → first_type d ≡ 0 → AdmitsFirst d rows key m
    → ((first : ChunkPlace) → rows ≡ first ∷ [] → first.typ ≡ 0 → (b.is_over ≡ true) ⊎ TakesDataAt first.at d a b) → TakesOnlyData d a b
only_data d rows key m a b t one typ admits f = elim (one-row d rows t.passed t.end one t.passes t.ended) [
  | inl e ↦ absurd (none-first admits.first admits.rest (sym e.0 ∙ admits.are))
  | inr e ↦
      let place : e.0 ≡ place_at d 12 = first_place d (e.0 ∷ []) (rw (sym e.1) t) in
      subst (λ (p : ChunkPlace). (b.is_over ≡ true) ⊎ TakesDataAt p.at d a b) place (f e.0 e.1 (e.2 ∙ typ))
]

-- ## Whose datagram it is

pub for_admitted : (d : List ℕ) (rows : List ChunkPlace) (key : List ℕ) (m : Machine) → TellsAll place_at d rows → (r : Result Taken Fault)
    → IfOk r (λ t. is_accepted t ≡ true → AdmitsFirst d rows key m) → IfOk r (λ t. is_accepted t ≡ true → IsFor d key m)
for_admitted d rows key m all (Ok t) h = λ e. record { chunks = rows; tells = all; admits = h e }
for_admitted d rows key m all (Err e) h = tt

-- the first chunk may stand there, where it is taken
pub admits_of : (first : ChunkPlace) (rest rows : List ChunkPlace) (d key : List ℕ) (m : Machine) (r : Result Step Fault) (tag count : ℕ)
    → rows ≡ first ∷ rest → tag ≡ u32_at d 4 → count ≡ length rows → (is_admitted first tag count m ≡ false → r ≡ Ok (Refused Tag))
    → (first.typ ≡ 10 → IfOk r (λ s. is_taken s ≡ true → IsSealed key tag (cookie_in d first))) → (s : Step) → r ≡ Ok s → is_taken s ≡ true
    → AdmitsFirst d rows key m
admits_of first rest rows d key m r tag count are own all foreign sealed s is took = record {
  first = first;
  rest = rest;
  are = are;
  admitted = sym (ap (λ n. is_admitted first n (length rows) m) own) ∙ sym (ap (λ n. is_admitted first tag n m) all) ∙ admitted;
  cookie = λ typ. subst (λ (n : ℕ). IsSealed key n (cookie_in d first)) own (of r s is (sealed typ) took);
}
  where
    of : (r : Result Step Fault) (s : Step) → r ≡ Ok s → IfOk r (λ s. is_taken s ≡ true → IsSealed key tag (cookie_in d first)) → is_taken s ≡ true
        → IsSealed key tag (cookie_in d first)
    of r s is h took = (subst (λ (k : Result Step Fault). IfOk k (λ s. is_taken s ≡ true → IsSealed key tag (cookie_in d first))) is h) took

    step-of : (r : Result Step Fault) (x y : Step) → r ≡ Ok x → r ≡ Ok y → x ≡ y
    step-of r x y a b = cc

    admitted : is_admitted first tag count m ≡ true
    admitted = elim (cases_Bool (is_admitted first tag count m)) [
      | inl may ↦ may
      | inr off ↦ absurd (false≢true (sym (ap is_taken (step-of r s (Refused Tag) is (foreign off))) ∙ took))
    ]
