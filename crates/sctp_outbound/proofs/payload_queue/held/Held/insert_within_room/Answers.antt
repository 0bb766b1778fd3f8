use Rattle.std.proofs.Common.{◌≡◌, ◌-◌, length, refl, sym, ap, ◌∙◌, subst, arith}
use Rattle.std.specs.List.{insert}
use Rattle.slab.specs.Slab.{get}
use Rattle.sctp_serial.specs.DataChunks.{bytes_of}
use Rattle.sctp_outbound.specs.Outstanding.{Counts}
use Rattle.sctp_outbound.specs.Stored.{NoneBefore}
use Rattle.sctp_outbound.specs.payload_queue.Places.{AreHeldAt, chunks_at}
use Rattle.sctp_outbound.proofs.lemmas.payload_queue.Places.{inserted, held_length, stored, none_before_insert}
use Rattle.sctp_outbound.proofs.lemmas.payload_queue.Outstandings.{counted_more, few, room_for}
use Rattle.sctp_outbound.proofs.payload_queue.held.Held.insert_within_room.Goals as goal

-- the chunk can be counted
pub count-requires-clause-bytes : goal.count-requires-clause-bytes
count-requires-clause-bytes c =
    room_for _ _ (length c.args.chunk.user_data) c.self.invariant.outstanding (omega (arith, c.requires.bytes, ap (λ s. bytes_of s.chunks) c.self.view_is))

pub count-requires-clause-chunks : goal.count-requires-clause-chunks
count-requires-clause-chunks c = (few _ _ c.self.invariant.outstanding (omega (arith, c.self.invariant.counted))).0

pub count-requires-clause-marked : goal.count-requires-clause-marked
count-requires-clause-marked c = (few _ _ c.self.invariant.outstanding (omega (arith, c.self.invariant.counted))).1

pub put_in-requires-clause-index : goal.put_in-requires-clause-index
put_in-requires-clause-index c =
    let viewed = ap (λ s. length s.chunks) c.self.view_is in
    omega (arith, viewed, c.requires.place, c.self.invariant.counted)

-- the places of the new deque, and the chunks under the new slab's keys
after : (c : goal.After-put_in) → (chunks_at (get c.insert_reserved-key.new.self) c.put_in.new.places.items
    ≡ insert (chunks_at (get c.self.inside.slab) c.self.inside.places.items) c.args.place c.args.chunk)
    × AreHeldAt (get c.insert_reserved-key.new.self) c.put_in.new.places.items (chunks_at (get c.insert_reserved-key.new.self) c.put_in.new.places.items)
after c =
    let long = held_length _ _ _ c.self.invariant.held in
    let viewed = ap (λ s. length s.chunks) c.self.view_is in
    inserted (get c.self.inside.slab) (get c.insert_reserved-key.new.self) c.insert_reserved-key.result c.insert_reserved-key.ensures.updates.others
    c.args.chunk c.insert_reserved-key.ensures.was_vacant c.insert_reserved-key.ensures.updates.changed c.self.inside.places.items
    c.put_in.new.places.items c.args.place _ (omega (arith, viewed, c.requires.place, long)) refl refl c.put_in.ensures.items c.self.invariant.held

pub invariant_of-self : goal.invariant_of-self
invariant_of-self c =
    let inv = c.self.invariant in
    let now = after c in
    let long = held_length _ _ _ now.1 in
    let ok = c.put_in.new.places.ok.0 in
    let less = c.saturating_sub-self-inside.ensures in
    let room = ap (λ s. s.room) c.self.view_is in
    record {
      fits = omega (arith, inv.fits, less, room, c.requires.room, c.put_in.ensures.len, c.put_in.ensures.capacity);
      slab_fits = omega (arith, inv.slab_fits, less, room, c.requires.room, c.insert_reserved-key.ensures.len, c.insert_reserved-key.ensures.capacity);
      counted = omega (arith, long, ok);
      held = now.1;
      deadlines = subst (NoneBefore c.min-self-inside.result) (sym now.0)
          (none_before_insert c.self.inside.earliest c.deadline_of.result c.args.place _ c.args.chunk c.min-self-inside.result c.min-self-inside.ensures
          inv.deadlines c.deadline_of.ensures);
      outstanding = subst (Counts c.count.new.self) (sym now.0) (counted_more c.self.inside.outstanding c.count.new.self _ c.args.place c.args.chunk
          inv.outstanding (omega (arith, c.requires.bytes, ap (λ s. bytes_of s.chunks) c.self.view_is)) c.count.ensures.bytes c.count.ensures.chunks
          c.count.ensures.marked);
    }

pub returns : goal.returns
returns c = stored _ _ _ _ ((after c).0 ∙ ap (λ s. insert s.chunks c.args.place c.args.chunk) c.self.view_is)
    (c.saturating_sub-self-inside.ensures ∙ ap (λ s. s.room - 1) c.self.view_is)
