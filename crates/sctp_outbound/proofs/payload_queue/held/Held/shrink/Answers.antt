use Rattle.std.proofs.Common.{is_some, ◌≡◌, [], length, List, ◌∷◌, sym, ap, ◌∙◌, refl, subst, arith}
use Rattle.std.specs.Prelude.{count_by}
use Rattle.slab.specs.Slab.{get, slab_len}
use Rattle.sctp_outbound.specs.Outstanding.{Counts}
use Rattle.sctp_outbound.specs.declared.payload_queue.held.Place.{Place}
use Rattle.sctp_outbound.specs.payload_queue.Places.{chunks_at}
use Rattle.sctp_outbound.proofs.lemmas.payload_queue.Places.{held_length, stored}
use Rattle.sctp_outbound.proofs.payload_queue.held.Held.shrink.Goals as goal

no_place : (ps : List Place) → length ps ≡ 0 → ps ≡ []
no_place [] e = refl
no_place (p ∷ ps) e = absurd (omega arith)

-- no place has a chunk
none_held : (c : goal.After-shrink_to_fit-2) → c.self.inside.places.items ≡ []
none_held c = no_place c.self.inside.places.items
    (omega (arith, held_length _ _ _ c.self.invariant.held, ap (λ s. length s.chunks) c.self.view_is, c.requires.empty))

no_chunk : (c : goal.After-shrink_to_fit-2) → chunks_at (get c.self.inside.slab) c.self.inside.places.items ≡ []
no_chunk c = ap (chunks_at (get c.self.inside.slab)) (none_held c)

none_kept : (c : goal.After-shrink_to_fit-2) → c.shrink_to_fit.new.self.items ≡ []
none_kept c = c.shrink_to_fit.ensures.items ∙ none_held c

pub invariant_of-self : goal.invariant_of-self
invariant_of-self c =
    let len = c.self.invariant.counted ∙ ap length (no_chunk c) in
    let counts = subst (Counts c.self.inside.outstanding) (no_chunk c) c.self.invariant.outstanding in
    let empty : slab_len c.clear.new.self ≡ 0 = ap (count_by is_some) c.clear.ensures.empty in
    let no_room : c.self.inside.room ≡ 0 = omega (arith, ap (λ s. s.room) c.self.view_is, c.requires.room) in
    rw (none_kept c) record {
      fits = omega (arith, c.shrink_to_fit.ensures.len, len, no_room);
      slab_fits = omega (arith, c.shrink_to_fit-2.ensures.len, empty, no_room);
      counted = omega (arith, c.shrink_to_fit.ensures.len, len);
      held = tt;
      deadlines = λ k d lt. absurd (omega arith);
      outstanding = counts;
    }

pub returns : goal.returns
returns c = stored _ _ _ _ (ap (chunks_at (get c.shrink_to_fit-2.new.self)) (none_kept c) ∙ sym (no_chunk c)) refl ∙ c.self.view_is
