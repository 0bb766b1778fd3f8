-- Each DATA chunk of a datagram is taken, up to the first chunk behind which the datagram does not go on.
use Rattle.std.proofs.Common.{◌≡◌, ◌⊎◌, ℕ, ◌+◌, ◌≤◌, Bool, true, false, List, [], ◌∷◌, ◌++◌, drop, length, refl, ap, sym, subst, ◌∙◌, inl, inr, arith, eq-eqb}
use Rattle.std.proofs.lemmas.Bool.{eqb-true, false≢true, or_cases}
use Rattle.std.proofs.lemmas.List.{nil_from_length}
use Rattle.std.specs.Prelude.{◌==◌, ◌&&◌, not, IfOk, Result, Ok}
use Rattle.sctp_association.proofs.Arriving.{follows_same, follows_then}
use Rattle.sctp_association.proofs.Coming.{if_ok}
use Rattle.sctp_association.specs.Arrivals.{Arrives, Does, Halves, IsBrought}
use Rattle.sctp_association.specs.Coming.{GoesOn, IsAskedAt, IsAtEnd, IsTakenFrom, TakesDataOf, TakesEach, TakesEachOf, goes_on}
use Rattle.sctp_association.specs.Entering.{usable_in}
use Rattle.sctp_association.specs.Halves.{halves_of}
use Rattle.sctp_association.specs.Once.{has_seen}
use Rattle.sctp_association.specs.Tags.{is_admitted}
use Rattle.sctp_association.specs.declared.association.Association.{Association}
use Rattle.sctp_association.specs.declared.association.Reason.{Reason}
use Rattle.sctp_association.specs.declared.association.Reason.TheVariants.{Unexpected}
use Rattle.sctp_association.specs.declared.association.arrivals.Step.{Step}
use Rattle.sctp_association.specs.declared.association.arrivals.Step.TheVariants.{Next, Stop, Refused}
use Rattle.sctp_association.specs.declared.fault.Fault.{Fault}
use Rattle.sctp_association.specs.declared.once.Once.{Once}
use Rattle.sctp_chunks.specs.Framing.{type_at}
use Rattle.sctp_datagram.proofs.Walk.{Ends, Passing}
use Rattle.sctp_datagram.specs.Places.{IsThere, Passes, TellsAll, behind, place_at}
use Rattle.sctp_datagram.specs.Types.{is_stopping}
use Rattle.sctp_datagram.specs.declared.datagram.ChunkPlace.{ChunkPlace}
use Rattle.sctp_handshake.specs.declared.machine.Machine.{Machine}

-- ## The chunks of a datagram are told in one way

ends-not : (d : List ℕ) (end : ℕ) → Ends d end → Passing d end → ⊥
ends-not d end (inl none) on = omega (arith, ap (λ (l : List ℕ). length l) none, on.0.is_framed.headed)
ends-not d end (inr stop) on = false≢true (sym on.1 ∙ stop.1)

passed-same : (d : List ℕ) (at : ℕ) (xs ys : List ChunkPlace) (e f : ℕ) → Passes place_at d at xs e → Ends d e → Passes place_at d at ys f → Ends d f
    → (xs ≡ ys) × (e ≡ f)
passed-same d at [] [] e f p s q t = (refl, sym p ∙ q)
passed-same d at [] (y ∷ ys) e f p s q t =
    let P : ℕ → Type 0 = λ n. Passing d n in
    absurd (ends-not d e s (subst P p (q.1, q.2)))
passed-same d at (x ∷ xs) [] e f p s q t =
    let P : ℕ → Type 0 = λ n. Passing d n in
    absurd (ends-not d f t (subst P q (p.1, p.2)))
passed-same d at (x ∷ xs) (y ∷ ys) e f p s q t =
    let later = passed-same d (behind d at) xs ys e f p.3 s q.3 t in
    (ap (λ (k : ChunkPlace). k ∷ xs) (p.0 ∙ sym q.0) ∙ ap (λ (l : List ChunkPlace). y ∷ l) later.0, later.1)

abbrev Told : List ℕ → List ChunkPlace → ℕ → List ChunkPlace → Type 0
Told d passed end rows =
    ((drop end d ≡ []) × (rows ≡ passed))
    ⊎ (IsThere (drop end d) × (is_stopping (type_at (drop end d)) ≡ true) × (rows ≡ passed ++ place_at d end ∷ []))

told-ends : (d : List ℕ) (passed : List ChunkPlace) (end : ℕ) (rows : List ChunkPlace) → Told d passed end rows → Ends d end
told-ends d passed end rows (inl e) = inl e.0
told-ends d passed end rows (inr e) = inr (e.0, e.1)

none-left : (d : List ℕ) (end : ℕ) → drop end d ≡ [] → IsThere (drop end d) → ⊥
none-left d end none there = omega (arith, ap (λ (l : List ℕ). length l) none, there.is_framed.headed)

told-same : (d : List ℕ) (passed : List ChunkPlace) (end : ℕ) (rows others : List ChunkPlace) → Told d passed end rows → Told d passed end others
    → rows ≡ others
told-same d passed end rows others (inl e) (inl f) = e.1 ∙ sym f.1
told-same d passed end rows others (inl e) (inr f) = absurd (none-left d end e.0 f.0)
told-same d passed end rows others (inr e) (inl f) = absurd (none-left d end f.0 e.0)
told-same d passed end rows others (inr e) (inr f) = e.2 ∙ sym f.2

pub told_once : (d : List ℕ) (rows others : List ChunkPlace) → TellsAll place_at d rows → TellsAll place_at d others → rows ≡ others
told_once d rows others t u =
    let ends = told-ends d t.passed t.end rows t.ended in
    let same = passed-same d 12 t.passed u.passed t.end u.end t.passes ends u.passes (told-ends d u.passed u.end others u.ended) in
    let P : List ChunkPlace → Type 0 = λ p. Told d p t.end others in
    let Q : ℕ → Type 0 = λ n. Told d u.passed n others in
    told-same d t.passed t.end rows others t.ended (subst P (sym same.0) (subst Q (sym same.1) u.ended))

-- ## Chunks that go on

pub going_types : (typ : ℕ) → goes_on typ ≡ true → (typ ≡ 0) ⊎ ((typ ≡ 3) ⊎ (typ ≡ 192))
going_types typ e = elim (or_cases (typ == 0) _ e) [
  | inl is ↦ inl (eqb-true typ 0 is)
  | inr more ↦ elim (or_cases (typ == 3) (typ == 192) more) [
    | inl is ↦ inr (inl (eqb-true typ 3 is))
    | inr is ↦ inr (inr (eqb-true typ 192 is))
  ]
]

-- a chunk that goes on may stand in a packet with the own tag
pub going_admitted : (c : ChunkPlace) (tag count : ℕ) (m : Machine) → goes_on c.typ ≡ true → tag ≡ m.own.tag → is_admitted c tag count m ≡ true
going_admitted c tag count m going own = elim (going_types c.typ going) [
  | inl is ↦ rw is (eq-eqb tag m.own.tag own)
  | inr (inl is) ↦ rw is (eq-eqb tag m.own.tag own)
  | inr (inr is) ↦ rw is (eq-eqb tag m.own.tag own)
]

-- ## Calls for the chunks of a datagram, one after another

module _ (d : List ℕ) where
  pub arrives_then : (x y z : Halves) → Arrives d x y → Arrives d y z → Arrives d x z
  arrives_then x y z f g = follows_then (IsBrought d) Does x y z f g

  -- nothing changes
  pub taken_same : (c : ChunkPlace) (a b : Association) → b ≡ a → (c.typ ≡ 0 → ⊥) → IsTakenFrom c d a b
  taken_same c a b e not = record {
    calls = follows_same (IsAskedAt c.at d) Does (halves_of a) (halves_of b) (ap halves_of e);
    usable = λ s usable. inl (ap (λ (x : Association). usable_in s x.inbound) e ∙ usable);
    comes = λ is. absurd (not is);
  }

-- ## What is owed behind some of the chunks

-- DATA is taken still, and where each chunk that is left is taken, each one is; or a chunk came that does not go on
pub data Owed (tag : ℕ) (d : List ℕ) (left : List ChunkPlace) (a : Association) (all : List ChunkPlace) (old : Association) : Type 0 where
  goes : TakesDataOf tag a → ((z : Association) → TakesEach left d a z → TakesEach all d old z) → Owed tag d left a all old
  ended : ((z : Association) → Arrives d (halves_of a) (halves_of z) → TakesEach all d old z) → Owed tag d left a all old

pub owed_first : (tag : ℕ) (d : List ℕ) (all : List ChunkPlace) (a : Association) → TakesDataOf tag a → Owed tag d all a all a
owed_first tag d all a takes = goes takes (λ z each. each)

stays-there : (d : List ℕ) (x : Halves) → Arrives d x x
stays-there d x = follows_same (IsBrought d) Does x x refl

-- none is left
pub owed_none : (tag : ℕ) (d : List ℕ) (left all : List ChunkPlace) (a old : Association) → left ≡ [] → Owed tag d left a all old → TakesEach all d old a
owed_none tag d left all a old none (goes takes f) =
    let P : List ChunkPlace → Type 0 = λ l. TakesEach l d a a in
    f a (subst P (sym none) (record { halves = refl; usable = λ s. refl }))
owed_none tag d left all a old none (ended f) = f a (stays-there d (halves_of a))

module _ (tag : ℕ) (d : List ℕ) (c : ChunkPlace) (cs : List ChunkPlace) (a b : Association) (all : List ChunkPlace) (old : Association) where
  -- what is no DATA is passed over
  pub owed_passed : (c.typ ≡ 0 → ⊥) → b ≡ a → Owed tag d (c ∷ cs) a all old → Owed tag d cs b all old
  owed_passed not same owed = subst (λ (x : Association). Owed tag d cs x all old) (sym same) (passed owed)
    where
      passed : Owed tag d (c ∷ cs) a all old → Owed tag d cs a all old
      passed (goes takes f) = goes takes (λ z each. f z (inr (a, (taken_same d c a a refl not, each))))
      passed (ended f) = ended f

  module _ (came : Arrives d (halves_of a) (halves_of b)) where
    -- a chunk comes that does not go on
    owed-else : goes_on c.typ ≡ false → Owed tag d (c ∷ cs) a all old → (z : Association) → Arrives d (halves_of b) (halves_of z) → TakesEach all d old z
    owed-else not (goes takes f) = λ z on. f z (inl (not, arrives_then d _ _ _ came on))
    owed-else not (ended f) = λ z on. f z (arrives_then d _ _ _ came on)

    -- it is taken
    owed-taken : TakesDataOf tag b → IsTakenFrom c d a b → Owed tag d (c ∷ cs) a all old → Owed tag d cs b all old
    owed-taken takes taken (goes t f) = goes takes (λ z each. f z (inr (b, (taken, each))))
    owed-taken takes taken (ended f) = ended (λ z on. f z (arrives_then d _ _ _ came on))

    module _ (r : Result Step Fault) (on : TakesDataOf tag a → goes_on c.typ ≡ true → IfOk r (λ s. GoesOn c tag d s a b)) where
      next-by : (g : Bool) → goes_on c.typ ≡ g → r ≡ Ok Next → Owed tag d (c ∷ cs) a all old → Owed tag d cs b all old
      next-by false is next owed = ended (owed-else is owed)
      next-by true is next (ended f) = ended (λ z more. f z (arrives_then d _ _ _ came more))
      next-by true is next (goes takes f) =
          let went = if_ok (λ s. GoesOn c tag d s a b) r Next next (on takes is) in
          owed-taken went.0 went.1 (goes takes f)

      -- the datagram goes on behind it
      pub owed_next : r ≡ Ok Next → Owed tag d (c ∷ cs) a all old → Owed tag d cs b all old
      owed_next next owed = next-by (goes_on c.typ) refl next owed

      stop-by : (g : Bool) → goes_on c.typ ≡ g → r ≡ Ok Stop → Owed tag d (c ∷ cs) a all old → TakesEachOf all d old b
      stop-by false is stop owed = inr (owed-else is owed b (stays-there d (halves_of b)))
      stop-by true is stop (ended f) = inr (f b came)
      stop-by true is stop (goes takes f) = inl (if_ok (λ s. GoesOn c tag d s a b) r Stop stop (on takes is))

      -- nothing behind it is looked at
      pub owed_stop : r ≡ Ok Stop → Owed tag d (c ∷ cs) a all old → TakesEachOf all d old b
      owed_stop stop owed = stop-by (goes_on c.typ) refl stop owed

      refused-by : (g : Bool) → goes_on c.typ ≡ g → (TakesDataOf tag a → goes_on c.typ ≡ true → ⊥) → Owed tag d (c ∷ cs) a all old → TakesEach all d old b
      refused-by false is never owed = owed-else is owed b (stays-there d (halves_of b))
      refused-by true is never (ended f) = f b came
      refused-by true is never (goes takes f) = absurd (never takes is)

      -- it is refused
      pub owed_refused : (TakesDataOf tag a → goes_on c.typ ≡ true → ⊥) → Owed tag d (c ∷ cs) a all old → TakesEach all d old b
      owed_refused never owed = refused-by (goes_on c.typ) refl never owed

next-refused : (x : Reason) → Next ≡ Refused x → ⊥
next-refused x e = cc

-- what is refused and passed over goes on
pub past_goes : (c : ChunkPlace) (tag : ℕ) (d : List ℕ) (r : Reason) (s : Step) (a b : Association) → TakesDataOf tag a → b ≡ a
    → GoesOn c tag d (Refused r) a b → (r ≡ Unexpected → s ≡ Next) → GoesOn c tag d s a b
past_goes c tag d r s a b takes same was past =
    subst (λ (k : Step). GoesOn c tag d k a b) (sym (past was.0)) (subst (TakesDataOf tag) (sym same) takes, taken_same d c a b same was.1)

pub past_never : (c : ChunkPlace) (tag : ℕ) (d : List ℕ) (r x : Reason) (s : Step) (a b : Association) → GoesOn c tag d (Refused r) a b
    → (r ≡ Unexpected → s ≡ Next) → s ≡ Refused x → ⊥
past_never c tag d r x s a b was past is = next-refused x (sym (past was.0) ∙ is)

-- ## The first chunk, and the others

module _ (tag : ℕ) (d : List ℕ) (c : ChunkPlace) (cs : List ChunkPlace) (a b : Association) (r : Result Step Fault)
    (on : goes_on c.typ ≡ true → IfOk r (λ s. GoesOn c tag d s a b)) (came : Arrives d (halves_of a) (halves_of b)) where
  first-stop-by : (g : Bool) → goes_on c.typ ≡ g → r ≡ Ok Stop → TakesEachOf (c ∷ cs) d a b
  first-stop-by false is stop = inr (inl (is, came))
  first-stop-by true is stop = inl (if_ok (λ s. GoesOn c tag d s a b) r Stop stop (on is))

  pub first_stop : r ≡ Ok Stop → TakesEachOf (c ∷ cs) d a b
  first_stop stop = first-stop-by (goes_on c.typ) refl stop

  first-next-by : (g : Bool) → goes_on c.typ ≡ g → r ≡ Ok Next → (e : Association) → Arrives d (halves_of b) (halves_of e)
      → (TakesDataOf tag b → TakesEachOf cs d b e) → TakesEachOf (c ∷ cs) d a e
  first-next-by false is next e more others = inr (inl (is, arrives_then d _ _ _ came more))
  first-next-by true is next e more others =
      let went = if_ok (λ s. GoesOn c tag d s a b) r Next next (on is) in
      elim (others went.0) [
        | inl over ↦ inl over
        | inr each ↦ inr (inr (b, (went.1, each)))
      ]

  pub first_next : r ≡ Ok Next → (e : Association) → Arrives d (halves_of b) (halves_of e)
      → (TakesDataOf tag b → TakesEachOf cs d b e) → TakesEachOf (c ∷ cs) d a e
  first_next next e more others = first-next-by (goes_on c.typ) refl next e more others

-- the datagram has ended
each-still : (cs : List ChunkPlace) (d : List ℕ) (a b e : Association) → IsAtEnd b e → TakesEach cs d a b → TakesEach cs d a e
each-still [] d a b e end each = record { halves = end.halves ∙ each.halves; usable = λ s. end.usable s ∙ each.usable s }
each-still (c ∷ cs) d a b e end (inl came) =
    inl (came.0, subst (λ (h : Halves). Arrives d (halves_of a) h) (sym end.halves) came.1)
each-still (c ∷ cs) d a b e end (inr on) = inr (on.0, (on.1.0, each-still cs d on.0 b e end on.1.1))

pub each_ended : (cs : List ChunkPlace) (d : List ℕ) (a b e : Association) → e.is_over ≡ b.is_over → IsAtEnd b e → TakesEachOf cs d a b
    → TakesEachOf cs d a e
each_ended cs d a b e over end (inl is) = inl (over ∙ is)
each_ended cs d a b e over end (inr each) = inr (each-still cs d a b e end each)

-- one chunk fewer is left
pub one_less : (n all : ℕ) (left rest : List ChunkPlace) (c : ChunkPlace) → left ≡ c ∷ rest → n + length left ≡ all → n + 1 + length rest ≡ all
one_less n all left rest c e count = omega (arith, count, ap length e)

pub first_same : (x y : ChunkPlace) (xs ys : List ChunkPlace) → x ∷ xs ≡ y ∷ ys → x ≡ y
first_same x y xs ys e = cc

-- DATA is never passed over since one came before
pub data_counts : (c : ChunkPlace) (o : Once) → (not (has_seen c.typ o) && not (c.typ == 10)) ≡ false → c.typ ≡ 0 → ⊥
data_counts c o passed is = false≢true (sym passed ∙ ap (λ (t : ℕ). not (has_seen t o) && not (t == 10)) is)

pub owed_at : (tag : ℕ) (d : List ℕ) (left rest : List ChunkPlace) (a : Association) (all : List ChunkPlace) (old : Association) → left ≡ rest
    → Owed tag d left a all old → Owed tag d rest a all old
owed_at tag d left rest a all old e owed = subst (λ (l : List ChunkPlace). Owed tag d l a all old) e owed

pub tagged : (tag other : ℕ) (a : Association) → tag ≡ other → TakesDataOf other a → TakesDataOf tag a
tagged tag other a e takes = subst (λ (n : ℕ). TakesDataOf n a) (sym e) takes

-- all were taken, where as many were as there are
pub none_left : (n end : ℕ) (left all : List ChunkPlace) → n + length left ≡ length all → end ≡ length all → end ≤ n → left ≡ []
none_left n end left all count is most = nil_from_length left (omega (arith, count, is, most))

abbrev ok-of : Step → Result Step Fault
ok-of s = Ok s

pub step_same : (s t : Step) → ok-of s ≡ ok-of t → s ≡ t
step_same s t e = cc
