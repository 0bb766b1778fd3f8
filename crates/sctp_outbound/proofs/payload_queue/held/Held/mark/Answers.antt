use Rattle.std.proofs.Common.{◌≡◌, ◌+◌, ◌<◌, get_or, length, refl, sym, ap, ◌∙◌, subst, arith}
use Rattle.slab.specs.Slab.{get}
use Rattle.sctp_data.specs.declared.chunk.chunk_payload_data.ChunkPayloadData.{ChunkPayloadData}
use Rattle.sctp_outbound.specs.Marks.{with_mark}
use Rattle.sctp_outbound.specs.Outstanding.{Counts}
use Rattle.sctp_outbound.specs.Stored.{IsNotBefore}
use Rattle.sctp_outbound.specs.payload_queue.Places.{chunks_at}
use Rattle.sctp_outbound.proofs.lemmas.payload_queue.Places.{IsRewritten, is_kept, rewritten, rewritten_as}
use Rattle.sctp_outbound.proofs.lemmas.payload_queue.Marked.{marked-not_before, marked-tsn}
use Rattle.sctp_outbound.proofs.lemmas.payload_queue.Outstandings.{has_room, recounted}
use Rattle.sctp_outbound.proofs.payload_queue.held.Held.mark.Goals as goal

pub index_mut-requires : goal.index_mut-requires
index_mut-requires c =
    is_kept c.self.inside.slab c.self.inside.places.items c.args.place c.index.result.now
    (omega (arith, c.requires, ap (λ s. length s.chunks) c.self.view_is)) c.index.ensures c.self.invariant.held

pub write_counted-left-requires : goal.write_counted-left-requires
write_counted-left-requires c =
    let inv = c.self.invariant in
    let lt : c.args.place < length (chunks_at (get c.self.inside.slab) c.self.inside.places.items) =
    omega (arith, c.requires, ap (λ s. length s.chunks) c.self.view_is) in
    let same = rewritten c.self.inside.slab c.self.inside.places.items c.args.place c.self.inside.earliest c.index.result.now c.index_mut.result.now
    c.index_mut.result.now lt c.index.ensures c.index_mut.ensures.value refl (λ own. own) inv.held inv.deadlines in
    has_room c.self.inside.outstanding _ c.args.place c.index_mut.result.now lt same.read inv.outstanding (length c.index_mut.result.now.user_data)
    (omega (arith, inv.counted)) (omega (arith, inv.outstanding.fits))

-- the chunk once it is marked
after : (c : goal.After-outstanding-2-1) → IsRewritten c.self.inside.slab c.self.inside.places.items c.args.place c.index.result.now.key
    c.self.inside.earliest c.index_mut.result.now c.write_counted-left.new.chunk
after c =
    let inv = c.self.invariant in
    let moment = c.self.inside.earliest in
    let e = c.write_counted-left.ensures.changed in
    rewritten c.self.inside.slab c.self.inside.places.items c.args.place moment c.index.result.now c.index_mut.result.now c.write_counted-left.new.chunk
    (omega (arith, c.requires, ap (λ s. length s.chunks) c.self.view_is)) c.index.ensures c.index_mut.ensures.value
    (ap (λ (x : ChunkPayloadData). x.tsn) e ∙ marked-tsn c.args.mark c.index_mut.result.now)
    (λ own. subst (IsNotBefore moment) (sym e) (marked-not_before moment c.args.mark c.index_mut.result.now own)) inv.held inv.deadlines

pub invariant_of-self : goal.invariant_of-self
invariant_of-self c =
    let inv = c.self.invariant in
    let now = after c in
    let xs = chunks_at (get c.self.inside.slab) c.self.inside.places.items in
    let short = ap (λ (x : ChunkPayloadData). length x.user_data) c.write_counted-left.ensures.changed in
    record {
      fits = inv.fits;
      slab_fits = omega (arith, inv.slab_fits, now.len);
      counted = omega (arith, inv.counted, now.counted);
      held = now.held;
      deadlines = now.deadlines;
      outstanding = subst (Counts c.write_counted-left.result.1) (sym now.chunks) (recounted c.self.inside.outstanding xs c.args.place
          c.index_mut.result.now (omega (arith, c.requires, ap (λ s. length s.chunks) c.self.view_is)) now.read inv.outstanding c.write_counted-left.result.1
          c.write_counted-left.new.chunk c.write_counted-left.ensures.counted (omega (arith, inv.outstanding.fits, short, c.write_counted-left.ensures.left)));
    }

pub returns-clause-changed : goal.returns-clause-changed
returns-clause-changed c =
    rewritten_as c.self.inside.slab c.self.inside.places.items c.args.place c.index.result.now.key c.self.inside.earliest c.self.inside.room
    c.index_mut.result.now c.write_counted-left.new.chunk (with_mark c.args.mark) c.args.self.now (after c) c.write_counted-left.ensures.changed c.self.view_is

pub returns-clause-left : goal.returns-clause-left
returns-clause-left c d =
    subst (λ (x : ChunkPayloadData). c.write_counted-left.result.0 + length (with_mark c.args.mark x).user_data ≡ length x.user_data)
    (sym (ap (λ s. get_or s.chunks c.args.place d) (sym c.self.view_is) ∙ (after c).read d)) c.write_counted-left.ensures.left
