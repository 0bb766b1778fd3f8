-- Where the datagram goes on behind each of its chunks, its first SACK moves the sending half, and nothing else does.
use Rattle.std.proofs.Common.{◌≡◌, ◌⊎◌, ℕ, Bool, true, false, List, [], ◌∷◌, drop, refl, ap, sym, subst, ◌∙◌, inl, inr}
use Rattle.std.proofs.lemmas.Bool.{and_parts, eqb-false, eqb-true, or_left, or_right, true≢false}
use Rattle.std.specs.Prelude.{◌==◌, ◌&&◌, not, IfOk, Result, Ok, Err}
use Rattle.sctp_association.proofs.Coming.{if_ok}
use Rattle.sctp_association.proofs.Sacks.{behind_other, sack_counts, still_unseen}
use Rattle.sctp_association.specs.Coming.{goes_on}
use Rattle.sctp_association.specs.Once.{has_seen, none_seen, seen}
use Rattle.sctp_association.specs.Paths.{MovesAt, MovesBehind, MovesBy, MovesByFirst, MovesByFirstOf, MovesOn, all_go_on}
use Rattle.sctp_association.specs.Sacks.{HearsOn, TakesSacksOf}
use Rattle.sctp_association.specs.declared.association.Association.{Association}
use Rattle.sctp_association.specs.declared.association.arrivals.Step.{Step}
use Rattle.sctp_association.specs.declared.association.arrivals.Step.TheVariants.{Next, Stop, Cut, Refused}
use Rattle.sctp_association.specs.declared.fault.Fault.{Fault}
use Rattle.sctp_association.specs.declared.once.Once.{Once}
use Rattle.sctp_association.specs.declared.outbound.Outbound.{Outbound}
use Rattle.sctp_chunks.specs.Wire.{sack_chunk}
use Rattle.sctp_data.specs.SelectiveAck.{Sack}
use Rattle.sctp_datagram.specs.Framing.{StartsWith}
use Rattle.sctp_datagram.specs.declared.datagram.ChunkPlace.{ChunkPlace}

-- ## One chunk

-- one that is no SACK
pub moves_still : (c : ChunkPlace) (d : List ℕ) (now : ℕ) (s : Step) (x y : Outbound) → (c.typ ≡ 3 → ⊥) → y ≡ x → MovesOn c d now s x y
moves_still c d now Next x y other same = (λ is. absurd (other is), λ not. same)
moves_still c d now Stop x y other same = tt
moves_still c d now Cut x y other same = tt
moves_still c d now (Refused r) x y other same = tt

pub moves_none : (c : ChunkPlace) (d : List ℕ) (now : ℕ) (r : Result Step Fault) (x y : Outbound) → (c.typ ≡ 3 → ⊥) → y ≡ x
    → IfOk r (λ s. MovesOn c d now s x y)
moves_none c d now (Ok s) x y other same = moves_still c d now s x y other same
moves_none c d now (Err e) x y other same = tt

all-parts : (c : ChunkPlace) (cs : List ChunkPlace) → all_go_on (c ∷ cs) ≡ true → (goes_on c.typ ≡ true) × (all_go_on cs ≡ true)
all-parts c cs all = and_parts (goes_on c.typ) (all_go_on cs) all

-- ## Behind some of the chunks

-- No SACK came, and nothing moved: what the chunks that are left make of it, all make. Or one came, and moved it so.
pub data OwedMove (tag : ℕ) (d : List ℕ) (now : ℕ) (left : List ChunkPlace) (a : Association) (old : Outbound) (P : Outbound → Type 0) (o : Once) : Type 0
  where
    goes : TakesSacksOf tag a → all_go_on left ≡ true → o.sack ≡ false → a.outbound ≡ old → ((z : Outbound) → MovesByFirst left d now old z → P z)
        → OwedMove tag d now left a old P o
    came : TakesSacksOf tag a → all_go_on left ≡ true → o.sack ≡ true → P a.outbound → OwedMove tag d now left a old P o

module _ (tag : ℕ) (d : List ℕ) (now : ℕ) where
  owed-by : (first : ℕ) (cs : List ChunkPlace) (a : Association) (o : Once) (g : Bool) → (first == 3) ≡ g → o ≡ seen first none_seen → TakesSacksOf tag a
      → all_go_on cs ≡ true → OwedMove tag d now cs a a.outbound (λ z. MovesBehind first cs d now a.outbound z) o
  owed-by first cs a o true sack is takes all =
      came takes all (ap (λ (k : Once). k.sack) is ∙ sack) (λ e. refl, λ not. absurd (not (eqb-true first 3 sack)))
  owed-by first cs a o false sack is takes all =
      let other = eqb-false first 3 sack in
      goes takes all (behind_other first o is other) refl (λ z moves. (λ e. absurd (other e), λ not. moves))

  -- nothing was looked at behind the first chunk
  pub owed_move : (first : ℕ) (cs : List ChunkPlace) (a : Association) (o : Once) → o ≡ seen first none_seen → TakesSacksOf tag a → all_go_on cs ≡ true
      → OwedMove tag d now cs a a.outbound (λ z. MovesBehind first cs d now a.outbound z) o
  owed_move first cs a o is takes all = owed-by first cs a o (first == 3) refl is takes all

module _ (tag : ℕ) (d : List ℕ) (now : ℕ) (old : Outbound) (P : Outbound → Type 0) where
  -- none is left
  pub move_none : (left : List ChunkPlace) (a : Association) (o : Once) → left ≡ [] → OwedMove tag d now left a old P o → P a.outbound
  move_none left a o none (goes takes all yet same f) =
      let Q : List ChunkPlace → Type 0 = λ l. MovesByFirst l d now old a.outbound in
      f a.outbound (subst Q (sym none) same)
  move_none left a o none (came takes all yet moved) = moved

  pub move_at : (left rest : List ChunkPlace) (a : Association) (o : Once) → left ≡ rest → OwedMove tag d now left a old P o
      → OwedMove tag d now rest a old P o
  move_at left rest a o e owed = subst (λ (l : List ChunkPlace). OwedMove tag d now l a old P o) e owed

  pub move_noted : (left : List ChunkPlace) (a : Association) (o n : Once) → n ≡ o → OwedMove tag d now left a old P o → OwedMove tag d now left a old P n
  move_noted left a o n e owed = subst (λ (k : Once). OwedMove tag d now left a old P k) (sym e) owed

  module _ (c : ChunkPlace) (cs : List ChunkPlace) (a : Association) (o : Once) where
    -- a chunk is passed over
    pub move_passed : (not (has_seen c.typ o) && not (c.typ == 10)) ≡ false → OwedMove tag d now (c ∷ cs) a old P o
        → OwedMove tag d now cs a old P (seen c.typ o)
    move_passed passed (goes takes all yet same f) =
        let other = sack_counts c o yet passed in
        goes takes (all-parts c cs all).1 (still_unseen c o yet other) same (λ z moves. f z (λ is. absurd (other is), λ not. moves))
    move_passed passed (came takes all yet moved) = came takes (all-parts c cs all).1 (or_left o.sack (c.typ == 3) yet) moved

    -- once a SACK came no other counts
    only-once : o.sack ≡ true → (not (has_seen c.typ o) && not (c.typ == 10)) ≡ true → c.typ ≡ 3 → ⊥
    only-once yet counts is =
        true≢false (sym counts ∙ ap (λ (t : ℕ). not (has_seen t o) && not (t == 10)) is ∙ ap (λ (b : Bool). not b && true) yet)

    module _ (b : Association) (r : Result Step Fault) (hears : TakesSacksOf tag a → goes_on c.typ ≡ true → IfOk r (λ s. HearsOn c tag d s a b))
        (moves : TakesSacksOf tag a → goes_on c.typ ≡ true → IfOk r (λ s. MovesOn c d now s a.outbound b.outbound)) where
      taken-by : (g : Bool) → (c.typ == 3) ≡ g → TakesSacksOf tag b → MovesOn c d now Next a.outbound b.outbound → all_go_on cs ≡ true → o.sack ≡ false
          → a.outbound ≡ old → ((z : Outbound) → MovesByFirst (c ∷ cs) d now old z → P z) → OwedMove tag d now cs b old P (seen c.typ o)
      taken-by true sack there went all yet same f =
          let is = eqb-true c.typ 3 sack in
          let Q : Outbound → Type 0 = λ x. MovesAt c.at d now x b.outbound in
          came there all (or_right o.sack (c.typ == 3) sack) (f b.outbound (λ e. subst Q same (went.0 is), λ not. absurd (not is)))
      taken-by false sack there went all yet same f =
          let other = eqb-false c.typ 3 sack in
          goes there all (still_unseen c o yet other) (went.1 other ∙ same) (λ z on. f z (λ is. absurd (other is), λ not. on))

      -- the datagram goes on behind it
      pub move_next : r ≡ Ok Next → (not (has_seen c.typ o) && not (c.typ == 10)) ≡ true → OwedMove tag d now (c ∷ cs) a old P o
          → OwedMove tag d now cs b old P (seen c.typ o)
      move_next next counts (goes takes all yet same f) =
          let parts = all-parts c cs all in
          let there = if_ok (λ s. HearsOn c tag d s a b) r Next next (hears takes parts.0) in
          let went = if_ok (λ s. MovesOn c d now s a.outbound b.outbound) r Next next (moves takes parts.0) in
          taken-by (c.typ == 3) refl there.0 went parts.1 yet same f
      move_next next counts (came takes all yet moved) =
          let parts = all-parts c cs all in
          let there = if_ok (λ s. HearsOn c tag d s a b) r Next next (hears takes parts.0) in
          let went = if_ok (λ s. MovesOn c d now s a.outbound b.outbound) r Next next (moves takes parts.0) in
          came there.0 parts.1 (or_left o.sack (c.typ == 3) yet) (subst P (sym (went.1 (only-once yet counts))) moved)

      stopped : r ≡ Ok Stop → TakesSacksOf tag a → all_go_on (c ∷ cs) ≡ true → b.is_over ≡ true
      stopped stop takes all = if_ok (λ s. HearsOn c tag d s a b) r Stop stop (hears takes (all-parts c cs all).0)

      -- nothing behind it is looked at
      pub move_stop : r ≡ Ok Stop → OwedMove tag d now (c ∷ cs) a old P o → b.is_over ≡ true
      move_stop stop (goes takes all yet same f) = stopped stop takes all
      move_stop stop (came takes all yet moved) = stopped stop takes all

    -- it is not refused
    pub move_refused : {X : Type 0} → (TakesSacksOf tag a → goes_on c.typ ≡ true → ⊥) → OwedMove tag d now (c ∷ cs) a old P o → X
    move_refused never (goes takes all yet same f) = absurd (never takes (all-parts c cs all).0)
    move_refused never (came takes all yet moved) = absurd (never takes (all-parts c cs all).0)

-- ## The first chunk, and the others

module _ (tag : ℕ) (d : List ℕ) (now : ℕ) (c : ChunkPlace) (cs : List ChunkPlace) (a b : Association) (r : Result Step Fault)
    (all : all_go_on (c ∷ cs) ≡ true) (hears : goes_on c.typ ≡ true → IfOk r (λ s. HearsOn c tag d s a b)) where
  pub first_move_stop : r ≡ Ok Stop → MovesByFirstOf (c ∷ cs) d now a b
  first_move_stop stop = inl (if_ok (λ s. HearsOn c tag d s a b) r Stop stop (hears (all-parts c cs all).0))

  module _ (moves : goes_on c.typ ≡ true → IfOk r (λ s. MovesOn c d now s a.outbound b.outbound)) (e : Association)
      (others : TakesSacksOf tag b → all_go_on cs ≡ true → (e.is_over ≡ true) ⊎ MovesBehind c.typ cs d now b.outbound e.outbound) where
    moved-first : MovesOn c d now Next a.outbound b.outbound → MovesBehind c.typ cs d now b.outbound e.outbound
        → MovesByFirst (c ∷ cs) d now a.outbound e.outbound
    moved-first went on =
        let P : Outbound → Type 0 = λ z. MovesAt c.at d now a.outbound z in
        let Q : Outbound → Type 0 = λ x. MovesByFirst cs d now x e.outbound in (
          λ is. subst P (sym (on.0 is)) (went.0 is),
          λ not. subst Q (went.1 not) (on.1 not),
        )

    pub first_move_next : r ≡ Ok Next → MovesByFirstOf (c ∷ cs) d now a e
    first_move_next next =
        let parts = all-parts c cs all in
        let there = if_ok (λ s. HearsOn c tag d s a b) r Next next (hears parts.0) in
        let went = if_ok (λ s. MovesOn c d now s a.outbound b.outbound) r Next next (moves parts.0) in
        elim (others there.0 parts.1) [
          | inl over ↦ inl over
          | inr on ↦ inr (moved-first went on)
        ]

-- the datagram has ended
pub move_ended : (cs : List ChunkPlace) (d : List ℕ) (now : ℕ) (a b e : Association) → e.is_over ≡ b.is_over → e.outbound ≡ b.outbound
    → MovesByFirstOf cs d now a b → MovesByFirstOf cs d now a e
move_ended cs d now a b e over same (inl is) = inl (over ∙ is)
move_ended cs d now a b e over same (inr moves) =
    let P : Outbound → Type 0 = λ z. MovesByFirst cs d now a.outbound z in
    inr (subst P (sym same) moves)

-- ## A SACK

pub moves_in : (at : ℕ) (d bytes : List ℕ) (s : Sack) → bytes ≡ drop at d → StartsWith bytes (sack_chunk s) → (now : ℕ) (x y : Outbound)
    → MovesBy s now x y → MovesAt at d now x y
moves_in at d bytes s cut reads now x y moves =
    record { sack = s; reads = subst (λ (l : List ℕ). StartsWith l (sack_chunk s)) cut reads; moves = moves }
