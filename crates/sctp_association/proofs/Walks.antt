-- Chunks of a datagram, one after the other.
use Rattle.std.proofs.Common.{◌≡◌, ◌⊎◌, ℕ, Bool, true, false, List, [], ◌∷◌, refl, ap, sym, subst, ◌∙◌, inl, inr}
use Rattle.std.proofs.lemmas.Bool.{and_parts, cases_Bool, eqb-true, false≢true}
use Rattle.std.specs.Prelude.{Result, Ok, IfOk, ◌==◌, ◌&&◌, not, if◌then◌else◌}
use Rattle.sctp_association.proofs.Coming.{if_ok}
use Rattle.sctp_association.proofs.Ends.{row_has}
use Rattle.sctp_association.proofs.Expected.{taken_where}
use Rattle.sctp_association.specs.Behind.{StillAs, StillOn}
use Rattle.sctp_association.specs.Coming.{goes_on}
use Rattle.sctp_association.specs.Expected.{AsExpected, IsExpected, is_expected}
use Rattle.sctp_association.specs.Once.{has_seen, seen}
use Rattle.sctp_association.specs.Partly.{CutsChunk, CutsData, CutsReconfig, CutsSkip}
use Rattle.sctp_association.specs.Parts.{CutsAt, PartOf, WalksTo}
use Rattle.sctp_association.specs.Rows.{has_row}
use Rattle.sctp_association.specs.Paths.{MovesOn}
use Rattle.sctp_association.specs.Single.{AloneOn}
use Rattle.sctp_association.specs.Steps.{is_taken}
use Rattle.sctp_association.specs.Tags.{has_tag, is_admitted, is_all_or_nothing, is_reflected}
use Rattle.sctp_association.specs.ToldBy.{TellsBy, TellsByData, TellsByShutdown, TellsBySack}
use Rattle.sctp_association.specs.Walks.{EndsUnread, FirstOn, IsUnread, OtherOn, PassesOver, TakesChunk, Walks, WalksOf, counts}
use Rattle.sctp_association.specs.declared.association.Association.{Association}
use Rattle.sctp_association.specs.declared.association.Reason.{Reason}
use Rattle.sctp_association.specs.declared.association.Reason.TheVariants.{Tag, Unexpected}
use Rattle.sctp_association.specs.declared.association.arrivals.Step.{Step}
use Rattle.sctp_association.specs.declared.association.arrivals.Step.TheVariants.{Next, Stop, Cut, Refused}
use Rattle.sctp_association.specs.declared.due.Due.{Due}
use Rattle.sctp_association.specs.declared.fault.Fault.{Fault}
use Rattle.sctp_association.specs.declared.once.Once.{Once}
use Rattle.sctp_datagram.specs.declared.datagram.ChunkPlace.{ChunkPlace}
use Rattle.sctp_handshake.specs.declared.machine.Machine.{Machine}
use Rattle.sctp_handshake.specs.declared.state.State.TheVariants.{CookieWait}

-- ## A chunk

same-step : (r : Result Step Fault) (x y : Step) → r ≡ Ok x → r ≡ Ok y → x ≡ y
same-step r x y e f = cc

-- no INIT may stand behind another chunk
behind-init : (c : ChunkPlace) (tag : ℕ) (m : Machine) → is_admitted c tag 2 m ≡ true → c.typ ≡ 1 → ⊥
behind-init c tag m admitted is =
    let rest : Bool = if c.typ == 10 then true else (if is_reflected c then has_tag tag m.peer else tag == m.own.tag) in
    let first : (if 1 == 1 then tag == 0 && false else rest) ≡ true =
    sym (ap (λ (n : ℕ). if n == 1 then tag == 0 && false else rest) is) ∙ admitted in
    false≢true (and_parts (tag == 0) false first).1

still-reports : (with : Bool) (a b : Association) → StillAs with a b → (b.due.heartbeat ≡ a.due.heartbeat) × (b.due.report ≡ a.due.report)
still-reports with a b h = (ap (λ (d : Due). d.heartbeat) h.due, ap (λ (d : Due). d.report) h.due)

-- at which chunks memory may be wanting
pub record CutsBy (c : ChunkPlace) (d : List ℕ) (now : ℕ) (a b : Association) (r : Result Step Fault) : Type 0 where
  pub part : r ≡ Ok Cut → is_all_or_nothing c.typ ≡ false
  pub of_data : c.typ ≡ 0 → r ≡ Ok Cut → CutsData c d a b
  pub of_skip : c.typ ≡ 192 → r ≡ Ok Cut → CutsSkip c d a b
  pub of_reconfig : c.typ ≡ 130 → r ≡ Ok Cut → CutsReconfig c d now a b

part-row : (typ : ℕ) → is_all_or_nothing typ ≡ false → has_row typ ≡ true
part-row typ part = row_has typ (other 1 refl) (other 2 refl) (other 10 refl)
  where
    other : (n : ℕ) → is_all_or_nothing n ≡ true → typ ≡ n → ⊥
    other n whole is = false≢true (sym part ∙ ap is_all_or_nothing is ∙ whole)

-- what it brings is told, by its type
pub tells_by : (c : ChunkPlace) (d : List ℕ) (a b : Association) (r : Result Step Fault) → (c.typ ≡ 3 → r ≡ Ok Next → TellsBySack c d a b)
    → (c.typ ≡ 7 → r ≡ Ok Next → TellsByShutdown a b) → (c.typ ≡ 0 → r ≡ Ok Next → TellsByData c d a b) → r ≡ Ok Next → TellsBy c d a b
tells_by c d a b r sack shutdown long next =
    record { sack = λ e. sack e next; shutdown = λ e. shutdown e next; long = λ e. long e next }

module _ (c : ChunkPlace) (tag count : ℕ) (d : List ℕ) (now : ℕ) (a b : Association) (r : Result Step Fault)
    (foreign : is_admitted c tag count a.machine ≡ false → r ≡ Ok (Refused Tag))
    (expected : is_admitted c tag count a.machine ≡ true → has_row c.typ ≡ true → IfOk r (λ s. AsExpected (is_expected c.typ a) s)) where
  admitted-by : (s : Step) → r ≡ Ok s → (s ≡ Refused Tag → ⊥) → is_admitted c tag count a.machine ≡ true
  admitted-by s is other = elim (cases_Bool (is_admitted c tag count a.machine)) [
    | inl may ↦ may
    | inr off ↦ absurd (other (same-step r s (Refused Tag) is (foreign off)))
  ]

  takes : (s : Step) → r ≡ Ok s → is_taken s ≡ true → AloneOn c tag d now s a b → (goes_on c.typ ≡ true → IfOk r (λ s. StillOn c d s a b))
      → (goes_on c.typ ≡ true → IfOk r (λ s. MovesOn c d now s a.outbound b.outbound)) → (r ≡ Ok Next → TellsBy c d a b)
      → TakesChunk c tag count d now s a b
  takes s is took by still moves tells = record {
    path = λ goes. if_ok (λ s. MovesOn c d now s a.outbound b.outbound) r s is (moves goes);
    admitted = may;
    tells = λ next. tells (is ∙ ap Ok next);
    expected = λ row. taken_where (is_expected c.typ a) r (expected may row) s is took;
    by_type = by;
    beside = λ goes next. still-reports (c.typ == 0) a b (subst (λ (x : Step). StillOn c d x a b) next (if_ok (λ s. StillOn c d s a b) r s is (still goes)));
  }
    where
      may : is_admitted c tag count a.machine ≡ true
      may = admitted-by s is (λ e. false≢true (sym (ap is_taken e) ∙ took))

  -- memory is wanting
  cut : r ≡ Ok Cut → CutsBy c d now a b r → CutsChunk c tag count d now a b
  cut is cuts = record {
    admitted = may;
    expected = taken_where (is_expected c.typ a) r (expected may (part-row c.typ (cuts.part is))) Cut is refl;
    by_type = by (c.typ == 0) refl (c.typ == 130) refl (c.typ == 192) refl;
  }
    where
      may : is_admitted c tag count a.machine ≡ true
      may = admitted-by Cut is (λ e. cc)

      by : (x : Bool) → (c.typ == 0) ≡ x → (y : Bool) → (c.typ == 130) ≡ y → (z : Bool) → (c.typ == 192) ≡ z
          → ((c.typ ≡ 0) × CutsData c d a b) ⊎ (((c.typ ≡ 192) × CutsSkip c d a b) ⊎ ((c.typ ≡ 130) × CutsReconfig c d now a b))
      by true e y f z g = let typ = eqb-true c.typ 0 e in inl (typ, cuts.of_data typ is)
      by false e true f z g = let typ = eqb-true c.typ 130 f in inr (inr (typ, cuts.of_reconfig typ is))
      by false e false f true g = let typ = eqb-true c.typ 192 g in inr (inl (typ, cuts.of_skip typ is))
      by false e false f false g = absurd (false≢true (sym (cuts.part is) ∙ rw (e, f, g) refl))

  -- what is taken, or refused
  pub first_on : (s : Step) → r ≡ Ok s → AloneOn c tag d now s a b → (goes_on c.typ ≡ true → IfOk r (λ s. StillOn c d s a b))
      → (goes_on c.typ ≡ true → IfOk r (λ s. MovesOn c d now s a.outbound b.outbound)) → (r ≡ Ok Next → TellsBy c d a b) → CutsBy c d now a b r
      → FirstOn c tag count d now s a b
  first_on Next is by still moves tells cuts = inl (takes Next is refl by still moves tells)
  first_on Stop is by still moves tells cuts = takes Stop is refl by still moves tells
  first_on Cut is by still moves tells cuts = cut is cuts
  first_on (Refused k) is by still moves tells cuts = tt

  pub other_on : count ≡ 2 → (s : Step) → r ≡ Ok s → ((k : Reason) → s ≡ Refused k → ⊥) → AloneOn c tag d now s a b
      → (goes_on c.typ ≡ true → IfOk r (λ s. StillOn c d s a b))
      → (goes_on c.typ ≡ true → IfOk r (λ s. MovesOn c d now s a.outbound b.outbound)) → (r ≡ Ok Next → TellsBy c d a b) → CutsBy c d now a b r
      → OtherOn c tag d now s a b
  other_on two Next is taken by still moves tells cuts = inl (subst (λ (n : ℕ). TakesChunk c tag n d now Next a b) two (takes Next is refl by still moves tells))
  other_on two Stop is taken by still moves tells cuts = subst (λ (n : ℕ). TakesChunk c tag n d now Stop a b) two (takes Stop is refl by still moves tells)
  other_on two Cut is taken by still moves tells cuts = subst (λ (n : ℕ). CutsChunk c tag n d now a b) two (cut is cuts)
  other_on two (Refused k) is taken by still moves tells cuts = absurd (taken k refl)

  -- what is refused since it is not expected
  pub passes : (is_admitted c tag count a.machine ≡ true → IsExpected c tag d now a → (k : Reason) → r ≡ Ok (Refused k) → ⊥)
      → (c.typ ≡ 2 → r ≡ Ok (Refused Unexpected) → a.machine.state ≡ CookieWait → ⊥)
      → r ≡ Ok (Refused Unexpected) → b ≡ a → PassesOver c tag count d now a b
  passes due ack is same = record {
    admitted = may;
    unexpected = λ expected. due may expected Unexpected is;
    init_ack = λ typ. ack typ is;
    same = same;
  }
    where
      may : is_admitted c tag count a.machine ≡ true
      may = admitted-by (Refused Unexpected) is (λ e. cc)

-- ## Behind the first chunk

module _ (c : ChunkPlace) (tag : ℕ) (d : List ℕ) (now : ℕ) (a b : Association) (r : Result Step Fault)
    (foreign : is_admitted c tag 2 a.machine ≡ false → r ≡ Ok (Refused Tag))
    (expected : is_admitted c tag 2 a.machine ≡ true → has_row c.typ ≡ true → IfOk r (λ s. AsExpected (is_expected c.typ a) s))
    (due : is_admitted c tag 2 a.machine ≡ true → IsExpected c tag d now a → (k : Reason) → r ≡ Ok (Refused k) → ⊥)
    (ack : c.typ ≡ 2 → r ≡ Ok (Refused Unexpected) → a.machine.state ≡ CookieWait → ⊥)
    (waits : is_admitted c tag 2 a.machine ≡ true → c.typ ≡ 2 → (k : Reason) → r ≡ Ok (Refused k) → (k ≡ Unexpected → ⊥) → a.machine.state ≡ CookieWait)
    (counted : c.typ ≡ 10 → ⊥) (same : b ≡ a) where
  unread : (k : Reason) → r ≡ Ok (Refused k) → (k ≡ Unexpected → ⊥) → EndsUnread c tag d a b
  unread k is other = record { why = by (is_admitted c tag 2 a.machine) refl; same = same }
    where
      typed : (two : Bool) → (c.typ == 2) ≡ two → is_admitted c tag 2 a.machine ≡ true → IsUnread c d a
      typed true e may =
          let typ = eqb-true c.typ 2 e in
          let there = waits may typ k is other in
          record {
            typ = typ;
            waits = there;
            cookie = λ brings. due may (inr (inr (inr (record { typ = typ; waits = there; brings = inl brings })))) k is;
            end = λ brings. due may (inr (inr (inr (record { typ = typ; waits = there; brings = inr brings })))) k is;
          }
      typed false e may =
          let row = row_has c.typ (behind-init c tag a.machine may) (λ two. false≢true (sym e ∙ ap (λ (n : ℕ). n == 2) two)) counted in
          absurd (other (if_ok (λ s. AsExpected (is_expected c.typ a) s) r (Refused k) is (expected may row)).0)

      by : (may : Bool) → is_admitted c tag 2 a.machine ≡ may
          → (is_admitted c tag 2 a.machine ≡ false) ⊎ IsUnread c d a
      by true e = inr (typed (c.typ == 2) refl e)
      by false e = inl e

  -- what is refused is passed over, or the datagram is read no further
  pub other_past : (k : Reason) (s : Step) → r ≡ Ok (Refused k) → (k ≡ Unexpected → s ≡ Next) → ((k ≡ Unexpected → ⊥) → s ≡ Refused k)
      → OtherOn c tag d now s a b
  other_past Unexpected s is next end =
      subst (λ (x : Step). OtherOn c tag d now x a b) (sym (next refl)) (inr (passes c tag 2 d now a b r foreign expected due ack is same))
  other_past Tag s is next end = subst (λ (x : Step). OtherOn c tag d now x a b) (sym (end (λ e. cc))) (unread Tag is (λ e. cc))
  other_past k s is next end = subst (λ (x : Step). OtherOn c tag d now x a b) (sym (end (λ e. cc))) (unread k is (λ e. cc))

-- no COOKIE-ECHO counts
pub no_echo : (typ : ℕ) (o : Once) → counts typ o ≡ true → typ ≡ 10 → ⊥
no_echo typ o on is = false≢true (sym (ap (λ (n : ℕ). not (n == 10)) is) ∙ (and_parts (not (has_seen typ o)) (not (typ == 10)) on).1)

-- a chunk, and what stands behind it
module _ (tag : ℕ) (d : List ℕ) (now : ℕ) (o : Once) (c : ChunkPlace) (cs l : List ChunkPlace) (is : l ≡ c ∷ cs) (a b e : Association) where
  here : Walks tag d now o (c ∷ cs) a e → Walks tag d now o l a e
  here h = subst (λ (k : List ChunkPlace). Walks tag d now o k a e) (sym is) h

  pub walks_over : counts c.typ o ≡ false → Walks tag d now (seen c.typ o) cs a e → Walks tag d now o l a e
  walks_over off h = here (inl (off, h))

  pub walks_next : counts c.typ o ≡ true → OtherOn c tag d now Next a b → Walks tag d now (seen c.typ o) cs b e → Walks tag d now o l a e
  walks_next on by h = here (inr (on, inl (b, by, h)))

  pub walks_stop : counts c.typ o ≡ true → OtherOn c tag d now Stop a e → Walks tag d now o l a e
  walks_stop on by = here (inr (on, inr (inl by)))

  pub walks_unread : counts c.typ o ≡ true → EndsUnread c tag d a e → Walks tag d now o l a e
  walks_unread on by = here (inr (on, inr (inr by)))

-- up to a chunk at which memory is wanting
module _ (tag : ℕ) (d : List ℕ) (now : ℕ) (o : Once) (c : ChunkPlace) (cs l : List ChunkPlace) (is : l ≡ c ∷ cs) (a b e : Association) where
  to-here : WalksTo tag d now o (c ∷ cs) a e → WalksTo tag d now o l a e
  to-here h = subst (λ (k : List ChunkPlace). WalksTo tag d now o k a e) (sym is) h

  pub to_over : counts c.typ o ≡ false → WalksTo tag d now (seen c.typ o) cs a e → WalksTo tag d now o l a e
  to_over off h = to-here (inl (off, h))

  pub to_next : counts c.typ o ≡ true → OtherOn c tag d now Next a b → WalksTo tag d now (seen c.typ o) cs b e → WalksTo tag d now o l a e
  to_next on by h = to-here (inr (on, inl (b, by, h)))

  pub to_cut : counts c.typ o ≡ true → CutsAt c tag d now a e → WalksTo tag d now o l a e
  to_cut on by = to-here (inr (on, inr by))

pub to_seen : (tag : ℕ) (d : List ℕ) (now : ℕ) (x y : Once) (l : List ChunkPlace) (a e : Association) → x ≡ y → WalksTo tag d now x l a e
    → WalksTo tag d now y l a e
to_seen tag d now x y l a e same h = subst (λ (o : Once). WalksTo tag d now o l a e) same h

pub part_at : (c : ChunkPlace) (cs l : List ChunkPlace) (d : List ℕ) (now : ℕ) (a b : Association) → l ≡ c ∷ cs → PartOf (c ∷ cs) d now a b
    → PartOf l d now a b
part_at c cs l d now a b is h = subst (λ (k : List ChunkPlace). PartOf k d now a b) (sym is) h

pub walks_none : (tag : ℕ) (d : List ℕ) (now : ℕ) (o : Once) (l : List ChunkPlace) (a : Association) → l ≡ [] → Walks tag d now o l a a
walks_none tag d now o l a is = subst (λ (k : List ChunkPlace). Walks tag d now o k a a) (sym is) refl

-- where the kinds that were seen are the same
pub walks_seen : (tag : ℕ) (d : List ℕ) (now : ℕ) (x y : Once) (l : List ChunkPlace) (a e : Association) → x ≡ y → Walks tag d now x l a e
    → Walks tag d now y l a e
walks_seen tag d now x y l a e same h = subst (λ (o : Once). Walks tag d now o l a e) same h

-- ## A datagram

pub first_at : (c : ChunkPlace) (x y n m : ℕ) (d : List ℕ) (now : ℕ) (s : Step) (a b : Association) → x ≡ y → n ≡ m
    → FirstOn c x n d now s a b → FirstOn c y m d now s a b
first_at c x y n m d now s a b tag count h =
    subst (λ (k : ℕ). FirstOn c y k d now s a b) count (subst (λ (t : ℕ). FirstOn c t n d now s a b) tag h)

pub walks_at : (c : ChunkPlace) (cs l : List ChunkPlace) (d : List ℕ) (now : ℕ) (a b : Association) → l ≡ c ∷ cs → WalksOf (c ∷ cs) d now a b
    → WalksOf l d now a b
walks_at c cs l d now a b is h = subst (λ (k : List ChunkPlace). WalksOf k d now a b) (sym is) h
