use Rattle.std.proofs.Common.{◌≡◌, ◌+◌, IsSome, get_or, length, refl, sym, ap, ◌∙◌, subst, arith}
use Rattle.std.specs.List.{remove}
use Rattle.slab.specs.Slab.{get}
use Rattle.sctp_outbound.specs.Outstanding.{Counts}
use Rattle.sctp_outbound.specs.Stored.{NoneBefore}
use Rattle.sctp_data.specs.declared.chunk.chunk_payload_data.ChunkPayloadData.{ChunkPayloadData}
use Rattle.sctp_outbound.specs.payload_queue.Places.{AreHeldAt, chunks_at}
use Rattle.sctp_outbound.specs.declared.payload_queue.held.Place.{Place}
use Rattle.sctp_outbound.proofs.lemmas.payload_queue.Places.{held_at, held_length, none_before_remove, removed, same_chunk, stored}
use Rattle.sctp_outbound.proofs.lemmas.payload_queue.Outstandings.{counted_less, is_counted}
use Rattle.sctp_outbound.proofs.payload_queue.held.Held.remove_leaving_room.Goals as goal

pub remove-chunk-requires : goal.remove-chunk-requires
remove-chunk-requires c =
    let viewed = ap (λ s. length s.chunks) c.self.view_is in
    let inv = c.self.invariant in
    let found = held_at _ _ _ inv.held c.args.place c.take_from-taken.result
    (omega (arith, c.requires, viewed, held_length _ _ _ inv.held)) c.take_from-taken.ensures.value in
    subst IsSome (sym found.1) refl

-- the places that are left, and the chunks under the keys that are left
after : (c : goal.After-uncount) → (chunks_at (get c.remove-chunk.new.self) c.take_from-taken.new.places.items
    ≡ remove (chunks_at (get c.self.inside.slab) c.self.inside.places.items) c.args.place)
    × AreHeldAt (get c.remove-chunk.new.self) c.take_from-taken.new.places.items (chunks_at (get c.remove-chunk.new.self) c.take_from-taken.new.places.items)
after c =
    let viewed = ap (λ s. length s.chunks) c.self.view_is in
    let inv = c.self.invariant in
    removed (get c.self.inside.slab) (get c.remove-chunk.new.self) c.take_from-taken.result.key c.remove-chunk.ensures.updates.others c.self.inside.places.items
    c.take_from-taken.new.places.items c.args.place c.take_from-taken.result (omega (arith, c.requires, viewed, held_length _ _ _ inv.held))
    (ap (λ (p : Place). p.key) (sym c.take_from-taken.ensures.value)) c.take_from-taken.ensures.items inv.held

-- the chunk that goes is the one at the place
gone : (c : goal.After-uncount) (d : ChunkPayloadData) → get_or (chunks_at (get c.self.inside.slab) c.self.inside.places.items) c.args.place d
    ≡ c.remove-chunk.result
gone c d =
    let viewed = ap (λ s. length s.chunks) c.self.view_is in
    let inv = c.self.invariant in
    let found = held_at _ _ _ inv.held c.args.place c.take_from-taken.result
    (omega (arith, c.requires, viewed, held_length _ _ _ inv.held)) c.take_from-taken.ensures.value in
    found.3 d ∙ same_chunk _ _ _ found.1 c.remove-chunk.ensures.value

pub uncount-requires : goal.uncount-requires
uncount-requires c =
    let viewed = ap (λ s. length s.chunks) c.self.view_is in
    let inv = c.self.invariant in
    let found = held_at _ _ _ inv.held c.args.place c.take_from-taken.result
    (omega (arith, c.requires, viewed, held_length _ _ _ inv.held)) c.take_from-taken.ensures.value in
    is_counted _ _ c.args.place c.remove-chunk.result (omega (arith, c.requires, viewed))
    (λ d. found.3 d ∙ same_chunk _ _ _ found.1 c.remove-chunk.ensures.value) inv.outstanding

pub invariant_of-self : goal.invariant_of-self
invariant_of-self c =
    let inv = c.self.invariant in
    let now = after c in
    let long = held_length _ _ _ now.1 in
    let ok = c.take_from-taken.new.places.ok.0 in
    record {
      fits = omega (arith, inv.fits, c.take_from-taken.ensures.len, c.take_from-taken.ensures.capacity);
      slab_fits = omega (arith, inv.slab_fits, c.remove-chunk.ensures.len, c.remove-chunk.ensures.capacity);
      counted = omega (arith, long, ok);
      held = now.1;
      deadlines = subst (NoneBefore c.self.inside.earliest) (sym now.0) (none_before_remove c.self.inside.earliest c.args.place _ inv.deadlines);
      outstanding = subst (Counts c.uncount.new.self) (sym now.0) (counted_less _ _ c.args.place c.remove-chunk.result
          (omega (arith, c.requires, ap (λ s. length s.chunks) c.self.view_is)) (gone c) inv.outstanding c.uncount.new.self c.uncount.ensures.bytes
          c.uncount.ensures.chunks c.uncount.ensures.marked);
    }

pub returns-clause-removed : goal.returns-clause-removed
returns-clause-removed c = stored _ _ _ _ ((after c).0 ∙ ap (λ s. remove s.chunks c.args.place) c.self.view_is) (ap (λ s. s.room + 1) c.self.view_is)

pub returns-clause-value : goal.returns-clause-value
returns-clause-value c =
    let viewed = ap (λ s. length s.chunks) c.self.view_is in
    let inv = c.self.invariant in
    let found = held_at _ _ _ inv.held c.args.place c.take_from-taken.result
    (omega (arith, c.requires, viewed, held_length _ _ _ inv.held)) c.take_from-taken.ensures.value in
    let same = same_chunk _ _ _ found.1 c.remove-chunk.ensures.value in
    sym (ap (λ s. get_or s.chunks c.args.place c.remove-chunk.result) (sym c.self.view_is) ∙ found.3 c.remove-chunk.result ∙ same)
