-- The first SACK of a datagram is taken, or outdated, if it stands before the first chunk behind which the datagram does not go on.
use Rattle.std.proofs.Common.{◌≡◌, ◌⊎◌, ℕ, Bool, true, false, List, [], ◌∷◌, drop, Option, refl, ap, sym, subst, ◌∙◌, inl, inr}
use Rattle.std.proofs.lemmas.Bool.{cases_Bool, eqb-false, eqb-true, false≢true}
use Rattle.std.specs.Prelude.{◌==◌, ◌&&◌, not, IfOk, Result, Ok}
use Rattle.sctp_association.proofs.Arrived.{arrives_of, arrives_same, sack_came}
use Rattle.sctp_association.proofs.Arriving.{acknowledged_same}
use Rattle.sctp_association.proofs.Coming.{if_ok}
use Rattle.sctp_association.proofs.Each.{arrives_then}
use Rattle.sctp_association.specs.Arrivals.{Arrives, AsksToHear, Halves, HearsBy, IsOfHalf, halves, without_gaps}
use Rattle.sctp_association.specs.Coming.{goes_on}
use Rattle.sctp_association.specs.Halves.{halves_of}
use Rattle.sctp_association.specs.Sacks.{HearsFirst, HearsFirstOf, HearsOn, HearsSackFirst, IsSackIn, TakesSack, TakesSacksOf}
use Rattle.sctp_association.specs.Once.{has_seen, none_seen, seen}
use Rattle.sctp_association.specs.declared.association.Association.{Association}
use Rattle.sctp_association.specs.declared.association.Reason.{Reason}
use Rattle.sctp_association.specs.declared.association.Reason.TheVariants.{Unexpected}
use Rattle.sctp_association.specs.declared.association.arrivals.Step.{Step}
use Rattle.sctp_association.specs.declared.association.arrivals.Step.TheVariants.{Next, Stop, Cut, Refused}
use Rattle.sctp_association.specs.declared.fault.Fault.{Fault}
use Rattle.sctp_association.specs.declared.once.Once.{Once}
use Rattle.sctp_chunks.specs.Wire.{sack_chunk}
use Rattle.sctp_data.specs.SelectiveAck.{Sack}
use Rattle.sctp_datagram.specs.Carried.{IsChunkOf}
use Rattle.sctp_datagram.specs.Framing.{StartsWith}
use Rattle.sctp_datagram.specs.declared.datagram.ChunkPlace.{ChunkPlace}
use Rattle.sctp_delivery.proofs.WholeSacks as whole
use Rattle.sctp_handshake.specs.States.{takes_sacks}
use Rattle.sctp_receiver.specs.Receiver.{Reception}
use Rattle.sctp_sender.specs.Calls.{Acknowledges}
use Rattle.sctp_sender.specs.Flight.{is_outdated}
use Rattle.sctp_sender.specs.Sender.{Transmission}
use Rattle.sctp_sender.specs.declared.sender.Acked.{Acked}
use Rattle.sctp_sender.specs.declared.sender.refusal.SenderRefusal.{SenderRefusal}

-- ## A SACK

module _ (s k : Sack) (is : (k ≡ s) ⊎ (k ≡ without_gaps s)) (t u : Transmission) where
  sack-taken : (a : Acked) → Acknowledges k t u (Ok a) → TakesSack s t u
  sack-taken a h = record { sack = k; is = is; back = a.taken_back.items; gone = a.released.items; takes = whole.makes k t u (Ok a) h }

  -- the sender took it
  pub hears_taken : (w : Transmission) (r : Result Acked SenderRefusal) (a : Acked) → r ≡ Ok a → Acknowledges k t u r
      → HearsBy (AsksToHear (sack_chunk s)) u w → HearsSackFirst s t w
  hears_taken w r a e h on =
      let P : Result Acked SenderRefusal → Type 0 = λ q. Acknowledges k t u q in
      record { mid = u; hears = inr (sack-taken a (subst P e h)); after = on }

pub hears_outdated : (s : Sack) (t w : Transmission) → is_outdated s t.flight ≡ true → w ≡ t → HearsSackFirst s t w
hears_outdated s t w late same =
    record { mid = t; hears = inl (late, refl); after = acknowledged_same (AsksToHear (sack_chunk s)) t w same }

-- one that is read where it lies is so in the datagram
pub hears_in : (d : List ℕ) (p : ChunkPlace) → IsChunkOf d p → (bytes : List ℕ) (s : Sack) → bytes ≡ drop p.at d → StartsWith bytes (sack_chunk s)
    → (r : Option Reception) (t u : Transmission) → HearsSackFirst s t u → IsSackIn p.at d (halves t r) (halves u r)
hears_in d p own bytes s cut reads r t u h = record {
  sack = s;
  reads = subst (λ (l : List ℕ). StartsWith l (sack_chunk s)) cut reads;
  moment = halves t r;
  next = halves h.mid r;
  before = arrives_same d (halves t r) (halves t r) refl;
  hears = h.hears;
  after = arrives_of IsOfHalf d (halves h.mid r) (halves u r) (sack_came d p own bytes s cut reads r h.mid u h.after);
}

-- ## SACKs are taken as before

pub sacks_on : (tag : ℕ) (a b : Association) → TakesSacksOf tag a → b.is_over ≡ a.is_over → b.machine.state ≡ a.machine.state
    → b.machine.own ≡ a.machine.own → TakesSacksOf tag b
sacks_on tag a b t over state own = record {
  going = over ∙ t.going;
  state = ap takes_sacks state ∙ t.state;
  own = t.own ∙ ap (λ o. o.tag) (sym own);
}

-- of another chunk
pub hears_by : (c : ChunkPlace) (tag : ℕ) (d : List ℕ) (s : Step) (a b : Association) → (c.typ ≡ 3 → ⊥)
    → ((r : Reason) → s ≡ Refused r → r ≡ Unexpected) → (s ≡ Stop → b.is_over ≡ true) → (s ≡ Next → TakesSacksOf tag b) → HearsOn c tag d s a b
hears_by c tag d Next a b other unexpected over takes = (takes refl, λ is. absurd (other is))
hears_by c tag d Stop a b other unexpected over takes = over refl
hears_by c tag d Cut a b other unexpected over takes = tt
hears_by c tag d (Refused r) a b other unexpected over takes = (unexpected r refl, other)

-- what is refused and passed over goes on
pub past_hears : (c : ChunkPlace) (tag : ℕ) (d : List ℕ) (r : Reason) (s : Step) (a b : Association) → TakesSacksOf tag b
    → HearsOn c tag d (Refused r) a b → (r ≡ Unexpected → s ≡ Next) → HearsOn c tag d s a b
past_hears c tag d r s a b takes was past =
    subst (λ (k : Step). HearsOn c tag d k a b) (sym (past was.0)) (takes, λ is. absurd (was.1 is))

next-refused : (x : Reason) → Next ≡ Refused x → ⊥
next-refused x e = cc

pub past_hears_never : (c : ChunkPlace) (tag : ℕ) (d : List ℕ) (r x : Reason) (s : Step) (a b : Association) → HearsOn c tag d (Refused r) a b
    → (r ≡ Unexpected → s ≡ Next) → s ≡ Refused x → ⊥
past_hears_never c tag d r x s a b was past is = next-refused x (sym (past was.0) ∙ is)

-- ## Calls for the chunks of a datagram, one after another

never-sack : (c : ChunkPlace) → goes_on c.typ ≡ false → c.typ ≡ 3 → ⊥
never-sack c other is = false≢true (sym other ∙ ap goes_on is)

not-going : (typ : ℕ) (X : Type 0) → goes_on typ ≡ false → goes_on typ ≡ true → X
not-going typ X other is = absurd (false≢true (sym other ∙ is))

module _ (d : List ℕ) where
  hears-before : (at : ℕ) (x y z : Halves) → Arrives d x y → IsSackIn at d y z → IsSackIn at d x z
  hears-before at x y z came h = record {
    sack = h.sack;
    reads = h.reads;
    moment = h.moment;
    next = h.next;
    before = arrives_then d x y h.moment came h.before;
    hears = h.hears;
    after = h.after;
  }

  hears-on : (at : ℕ) (x y z : Halves) → IsSackIn at d x y → Arrives d y z → IsSackIn at d x z
  hears-on at x y z h more = record {
    sack = h.sack;
    reads = h.reads;
    moment = h.moment;
    next = h.next;
    before = h.before;
    hears = h.hears;
    after = arrives_then d h.next y z h.after more;
  }

  all-before : (cs : List ChunkPlace) (x y z : Halves) → Arrives d x y → HearsFirst cs d y z → HearsFirst cs d x z
  all-before [] x y z came hears = tt
  all-before (c ∷ cs) x y z came hears = (
    λ is. hears-before c.at x y z came (hears.0 is),
    λ going not. all-before cs x y z came (hears.1 going not),
  )

  -- it is the SACK
  hears-sack : (c : ChunkPlace) (cs : List ChunkPlace) (x y z : Halves) → c.typ ≡ 3 → (c.typ ≡ 3 → IsSackIn c.at d x y) → Arrives d y z
      → HearsFirst (c ∷ cs) d x z
  hears-sack c cs x y z sack hears more = (λ is. hears-on c.at x y z (hears is) more, λ going not. absurd (not sack))

  -- it is another one, and then the others come
  hears-next : (c : ChunkPlace) (cs : List ChunkPlace) (x y z : Halves) → (c.typ ≡ 3 → ⊥) → Arrives d x y → HearsFirst cs d y z
      → HearsFirst (c ∷ cs) d x z
  hears-next c cs x y z other came hears = (λ is. absurd (other is), λ going not. all-before cs x y z came hears)

  -- behind one that does not go on nothing is said
  hears-else : (c : ChunkPlace) (cs : List ChunkPlace) (x z : Halves) → goes_on c.typ ≡ false → HearsFirst (c ∷ cs) d x z
  hears-else c cs x z not = (λ is. absurd (never-sack c not is), λ going other. not-going c.typ (HearsFirst cs d x z) not going)

-- ## What is owed behind some of the chunks

-- No SACK came, SACKs are taken still, and where the first SACK of the chunks that are left is taken, that of all is; or that one came, or a chunk
-- that does not go on.
pub data OwedSack (tag : ℕ) (d : List ℕ) (left : List ChunkPlace) (a : Association) (all : List ChunkPlace) (old : Halves) (o : Once) : Type 0 where
  goes : TakesSacksOf tag a → o.sack ≡ false → ((z : Halves) → Arrives d (halves_of a) z → HearsFirst left d (halves_of a) z → HearsFirst all d old z)
      → OwedSack tag d left a all old o
  ended : ((z : Halves) → Arrives d (halves_of a) z → HearsFirst all d old z) → OwedSack tag d left a all old o

pub behind_other : (first : ℕ) (o : Once) → o ≡ seen first none_seen → (first ≡ 3 → ⊥) → o.sack ≡ false
behind_other first o is other = elim (cases_Bool (first == 3)) [
  | inl sack ↦ absurd (other (eqb-true first 3 sack))
  | inr yet ↦ ap (λ (k : Once). k.sack) is ∙ yet
]

pub owed_sack : (tag : ℕ) (d : List ℕ) (all : List ChunkPlace) (a : Association) (first : ℕ) (o : Once) → o ≡ seen first none_seen → (first ≡ 3 → ⊥)
    → TakesSacksOf tag a → OwedSack tag d all a all (halves_of a) o
owed_sack tag d all a first o is other takes = goes takes (behind_other first o is other) (λ z came hears. hears)

still : (d : List ℕ) (a : Association) → Arrives d (halves_of a) (halves_of a)
still d a = arrives_same d (halves_of a) (halves_of a) refl

-- none is left
pub sack_none : (tag : ℕ) (d : List ℕ) (left all : List ChunkPlace) (a : Association) (old : Halves) (o : Once) → left ≡ []
    → OwedSack tag d left a all old o → HearsFirst all d old (halves_of a)
sack_none tag d left all a old o none (goes takes yet f) =
    let P : List ChunkPlace → Type 0 = λ l. HearsFirst l d (halves_of a) (halves_of a) in
    f (halves_of a) (still d a) (subst P (sym none) tt)
sack_none tag d left all a old o none (ended f) = f (halves_of a) (still d a)

-- a SACK is passed over only since one came
pub sack_counts : (c : ChunkPlace) (o : Once) → o.sack ≡ false → (not (has_seen c.typ o) && not (c.typ == 10)) ≡ false → c.typ ≡ 3 → ⊥
sack_counts c o yet passed is =
    false≢true (sym passed ∙ ap (λ (t : ℕ). not (has_seen t o) && not (t == 10)) is ∙ ap (λ (b : Bool). not b && true) yet)

pub still_unseen : (c : ChunkPlace) (o : Once) → o.sack ≡ false → (c.typ ≡ 3 → ⊥) → (seen c.typ o).sack ≡ false
still_unseen c o yet other = elim (cases_Bool (c.typ == 3)) [
  | inl sack ↦ absurd (other (eqb-true c.typ 3 sack))
  | inr is ↦ rw yet is
]

module _ (tag : ℕ) (d : List ℕ) (c : ChunkPlace) (cs : List ChunkPlace) (a : Association) (all : List ChunkPlace) (old : Halves) (o : Once) where
  -- it is passed over
  pub sack_passed : (not (has_seen c.typ o) && not (c.typ == 10)) ≡ false → OwedSack tag d (c ∷ cs) a all old o → OwedSack tag d cs a all old (seen c.typ o)
  sack_passed passed (goes takes yet f) =
      let other = sack_counts c o yet passed in
      goes takes (still_unseen c o yet other) (λ z came hears. f z came (λ is. absurd (other is), λ going not. hears))
  sack_passed passed (ended f) = ended f

module _ (tag : ℕ) (d : List ℕ) (c : ChunkPlace) (cs : List ChunkPlace) (a b : Association) (all : List ChunkPlace) (old : Halves) (o : Once)
    (r : Result Step Fault) (came : Arrives d (halves_of a) (halves_of b))
    (on : TakesSacksOf tag a → goes_on c.typ ≡ true → IfOk r (λ s. HearsOn c tag d s a b)) where
  -- a chunk comes that does not go on
  sack-else : goes_on c.typ ≡ false → OwedSack tag d (c ∷ cs) a all old o → (z : Halves) → Arrives d (halves_of b) z → HearsFirst all d old z
  sack-else ends (goes takes yet f) = λ z more. f z (arrives_then d _ _ z came more) (hears-else d c cs (halves_of a) z ends)
  sack-else ends (ended f) = λ z more. f z (arrives_then d _ _ z came more)

  taken-by : (g : Bool) → (c.typ == 3) ≡ g → HearsOn c tag d Next a b → o.sack ≡ false
      → ((z : Halves) → Arrives d (halves_of a) z → HearsFirst (c ∷ cs) d (halves_of a) z → HearsFirst all d old z)
      → OwedSack tag d cs b all old (seen c.typ o)
  taken-by true is went yet f =
      ended (λ z more. f z (arrives_then d _ _ z came more) (hears-sack d c cs _ _ z (eqb-true c.typ 3 is) went.1 more))
  taken-by false is went yet f =
      goes went.0 (still_unseen c o yet (eqb-false c.typ 3 is)) (λ z more hears.
      f z (arrives_then d _ _ z came more) (hears-next d c cs _ _ z (eqb-false c.typ 3 is) came hears))

  next-by : (g : Bool) → goes_on c.typ ≡ g → r ≡ Ok Next → OwedSack tag d (c ∷ cs) a all old o → OwedSack tag d cs b all old (seen c.typ o)
  next-by false is next owed = ended (sack-else is owed)
  next-by true is next (ended f) = ended (λ z more. f z (arrives_then d _ _ z came more))
  next-by true is next (goes takes yet f) =
      taken-by (c.typ == 3) refl (if_ok (λ s. HearsOn c tag d s a b) r Next next (on takes is)) yet f

  -- the datagram goes on behind it
  pub sack_next : r ≡ Ok Next → OwedSack tag d (c ∷ cs) a all old o → OwedSack tag d cs b all old (seen c.typ o)
  sack_next next owed = next-by (goes_on c.typ) refl next owed

  stop-by : (g : Bool) → goes_on c.typ ≡ g → r ≡ Ok Stop → OwedSack tag d (c ∷ cs) a all old o
      → (b.is_over ≡ true) ⊎ HearsFirst all d old (halves_of b)
  stop-by false is stop owed = inr (sack-else is owed (halves_of b) (still d b))
  stop-by true is stop (ended f) = inr (f (halves_of b) came)
  stop-by true is stop (goes takes yet f) = inl (if_ok (λ s. HearsOn c tag d s a b) r Stop stop (on takes is))

  -- nothing behind it is looked at
  pub sack_stop : r ≡ Ok Stop → OwedSack tag d (c ∷ cs) a all old o → (b.is_over ≡ true) ⊎ HearsFirst all d old (halves_of b)
  sack_stop stop owed = stop-by (goes_on c.typ) refl stop owed

  refused-by : (g : Bool) → goes_on c.typ ≡ g → (TakesSacksOf tag a → goes_on c.typ ≡ true → ⊥) → OwedSack tag d (c ∷ cs) a all old o
      → HearsFirst all d old (halves_of b)
  refused-by false is never owed = sack-else is owed (halves_of b) (still d b)
  refused-by true is never (ended f) = f (halves_of b) came
  refused-by true is never (goes takes yet f) = absurd (never takes is)

  -- it is refused
  pub sack_refused : (TakesSacksOf tag a → goes_on c.typ ≡ true → ⊥) → OwedSack tag d (c ∷ cs) a all old o → HearsFirst all d old (halves_of b)
  sack_refused never owed = refused-by (goes_on c.typ) refl never owed

pub sack_at : (tag : ℕ) (d : List ℕ) (left rest : List ChunkPlace) (a : Association) (all : List ChunkPlace) (old : Halves) (o : Once) → left ≡ rest
    → OwedSack tag d left a all old o → OwedSack tag d rest a all old o
sack_at tag d left rest a all old o e owed = subst (λ (l : List ChunkPlace). OwedSack tag d l a all old o) e owed

pub sack_noted : (tag : ℕ) (d : List ℕ) (left : List ChunkPlace) (a : Association) (all : List ChunkPlace) (old : Halves) (o n : Once) → n ≡ o
    → OwedSack tag d left a all old o → OwedSack tag d left a all old n
sack_noted tag d left a all old o n e owed = subst (λ (k : Once). OwedSack tag d left a all old k) (sym e) owed

pub sacks_tagged : (tag other : ℕ) (a : Association) → tag ≡ other → TakesSacksOf other a → TakesSacksOf tag a
sacks_tagged tag other a e takes = subst (λ (n : ℕ). TakesSacksOf n a) (sym e) takes

-- ## The first chunk, and the others

module _ (tag : ℕ) (d : List ℕ) (c : ChunkPlace) (cs : List ChunkPlace) (a b : Association) (r : Result Step Fault)
    (on : goes_on c.typ ≡ true → IfOk r (λ s. HearsOn c tag d s a b)) where
  stop-first : (g : Bool) → goes_on c.typ ≡ g → r ≡ Ok Stop → HearsFirstOf (c ∷ cs) d a b
  stop-first false is stop = inr (hears-else d c cs (halves_of a) (halves_of b) is)
  stop-first true is stop = inl (if_ok (λ s. HearsOn c tag d s a b) r Stop stop (on is))

  pub first_sack_stop : r ≡ Ok Stop → HearsFirstOf (c ∷ cs) d a b
  first_sack_stop stop = stop-first (goes_on c.typ) refl stop

  module _ (came : Arrives d (halves_of a) (halves_of b)) (e : Association) (more : Arrives d (halves_of b) (halves_of e))
      (others : (c.typ ≡ 3 → ⊥) → TakesSacksOf tag b → HearsFirstOf cs d b e) where
    went-first : (g : Bool) → (c.typ == 3) ≡ g → HearsOn c tag d Next a b → HearsFirstOf (c ∷ cs) d a e
    went-first true is went = inr (hears-sack d c cs _ _ _ (eqb-true c.typ 3 is) went.1 more)
    went-first false is went = elim (others (eqb-false c.typ 3 is) went.0) [
      | inl over ↦ inl over
      | inr hears ↦ inr (hears-next d c cs _ _ _ (eqb-false c.typ 3 is) came hears)
    ]

    next-first : (g : Bool) → goes_on c.typ ≡ g → r ≡ Ok Next → HearsFirstOf (c ∷ cs) d a e
    next-first false is next = inr (hears-else d c cs (halves_of a) (halves_of e) is)
    next-first true is next = went-first (c.typ == 3) refl (if_ok (λ s. HearsOn c tag d s a b) r Next next (on is))

    pub first_sack_next : r ≡ Ok Next → HearsFirstOf (c ∷ cs) d a e
    first_sack_next next = next-first (goes_on c.typ) refl next

-- the datagram has ended
pub sack_ended : (cs : List ChunkPlace) (d : List ℕ) (a b e : Association) → e.is_over ≡ b.is_over → halves_of e ≡ halves_of b
    → HearsFirstOf cs d a b → HearsFirstOf cs d a e
sack_ended cs d a b e over same (inl is) = inl (over ∙ is)
sack_ended cs d a b e over same (inr hears) = inr (subst (λ (h : Halves). HearsFirst cs d (halves_of a) h) (sym same) hears)
