use Rattle.std.proofs.Common.{◌≡◌, length, ap, ◌∙◌, arith}
use Rattle.slab.specs.Slab.{slab_len}
use Rattle.sctp_outbound.specs.Outstanding.{Counts}
use Rattle.sctp_outbound.specs.Stored.{NoneBefore}
use Rattle.sctp_outbound.specs.payload_queue.Places.{AreHeldAt, chunks_at}
use Rattle.sctp_outbound.proofs.lemmas.payload_queue.Places.{still}
use Rattle.sctp_outbound.proofs.payload_queue.held.Held.reserve.Goals as goal

pub invariant_of-self-in_err-reserve_in : goal.invariant_of-self-in_err-reserve_in
invariant_of-self-in_err-reserve_in c =
    let kept = c.in_err-reserve_in.ensures.rest_kept in
    let same = c.in_ok-reserve.ensures.items in
    let inv = c.self.invariant in
    record {
      fits = omega (arith, inv.fits, c.in_ok-reserve.ensures.len, c.in_ok-reserve.ensures.capacity);
      slab_fits = omega (arith, inv.slab_fits, ap slab_len kept, c.in_err-reserve_in.ensures.capacity);
      counted = still (λ under ps. c.reserve.new.self.len ≡ length (chunks_at under ps)) c.self.inside.slab c.reserve_in.new.slab _ _ _ kept same
          (c.in_ok-reserve.ensures.len ∙ inv.counted);
      held = still (λ under ps. AreHeldAt under ps (chunks_at under ps)) c.self.inside.slab c.reserve_in.new.slab _ _ _ kept same inv.held;
      deadlines = still (λ under ps. NoneBefore c.self.inside.earliest (chunks_at under ps)) c.self.inside.slab c.reserve_in.new.slab _ _ _ kept same
          inv.deadlines;
      outstanding = still (λ under ps. Counts c.self.inside.outstanding (chunks_at under ps)) c.self.inside.slab c.reserve_in.new.slab _ _ _ kept same
          inv.outstanding;
    }

pub invariant_of-self-2 : goal.invariant_of-self-2
invariant_of-self-2 c =
    let kept = c.in_ok-reserve_in.ensures.rest_kept in
    let same = c.in_ok-reserve.ensures.items in
    let inv = c.self.invariant in
    record {
      fits = c.in_ok-reserve.ensures.ok;
      slab_fits = c.in_ok-reserve_in.ensures.room;
      counted = still (λ under ps. c.reserve.new.self.len ≡ length (chunks_at under ps)) c.self.inside.slab c.reserve_in.new.slab _ _ _ kept same
          (c.in_ok-reserve.ensures.len ∙ inv.counted);
      held = still (λ under ps. AreHeldAt under ps (chunks_at under ps)) c.self.inside.slab c.reserve_in.new.slab _ _ _ kept same inv.held;
      deadlines = still (λ under ps. NoneBefore c.self.inside.earliest (chunks_at under ps)) c.self.inside.slab c.reserve_in.new.slab _ _ _ kept same
          inv.deadlines;
      outstanding = still (λ under ps. Counts c.self.inside.outstanding (chunks_at under ps)) c.self.inside.slab c.reserve_in.new.slab _ _ _ kept same
          inv.outstanding;
    }
