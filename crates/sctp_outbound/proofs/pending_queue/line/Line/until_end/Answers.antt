use Rattle.std.proofs.Common.{◌≡◌, ◌+◌, ◌-◌, ◌/◌, ◌≤◌, false, length, sym, subst, arith}
use Rattle.sctp_outbound.specs.Stored.{Stored}
use Rattle.sctp_outbound.specs.pending_queue.Whole.{AreWhole, begun, until_end}
use Rattle.sctp_outbound.proofs.lemmas.pending_queue.Front.{place_before, place_behind, until_end_le}
use Rattle.sctp_outbound.proofs.pending_queue.line.Line.until_end.Goals.{else-most-len-via-then-most-len+else-index-message_id, else-most-len-via-else-most-len}
use Rattle.sctp_outbound.proofs.pending_queue.line.Line.until_end.Goals as goal

pub returns-then-index-message_id-clause-none : goal.returns-then-index-message_id-clause-none
returns-then-index-message_id-clause-none c =
    let xs = c.self.inside.chunks.items in
    let w = subst (λ (s : Stored). AreWhole false (begun c.args.message_id) s.chunks) (sym c.self.view_is) c.requires in
    rw (← c.self.view_is) (place_before false w.0 c.args.message_id xs c.args.most c.index.result.now w.1
    (omega (arith, c.self.inside.chunks.ok.0)) c.index.ensures c.if-index-message_id.true)

pub loop-low-init : goal.loop-low-init
loop-low-init c =
    let xs = c.self.inside.chunks.items in
    let w = subst (λ (s : Stored). AreWhole false (begun c.args.message_id) s.chunks) (sym c.self.view_is) c.requires in
    let len : c.len-len.result ≡ length xs = omega (arith, c.self.inside.chunks.ok.0) in
    let ended : until_end xs ≤ c.min-high.result = elim c.else-most-len.branch [
      | else-most-len-via-then-most-len+else-index-message_id v ↦ let at = place_behind false w.0 c.args.message_id xs c.args.most v.index.result.now w.1
          (omega (arith, len)) v.index.ensures v.if-index-message_id.false in omega (arith, at)
      | else-most-len-via-else-most-len v ↦ omega (arith, until_end_le xs, len, v.if-most-len.false)
    ] in
    record { begun = omega arith; ended = ended; most = omega arith; in_range = omega (arith, len) }

pub loop-low-preserved-then-index-message_id-2 : goal.loop-low-preserved-then-index-message_id-2
loop-low-preserved-then-index-message_id-2 c =
    let xs = c.self.inside.chunks.items in
    let w = subst (λ (s : Stored). AreWhole false (begun c.args.message_id) s.chunks) (sym c.self.view_is) c.requires in
    let middle = c.loop-low.low + (c.loop-low.high - c.loop-low.low) / 2 in
    let before = place_before false w.0 c.args.message_id xs middle c.index-in-loop-low.result.now w.1
    (omega (arith, c.loop-low.invariant.in_range)) c.index-in-loop-low.ensures c.if-index-message_id-2.true in
    record {
      begun = omega (arith, before);
      ended = c.loop-low.invariant.ended;
      most = c.loop-low.invariant.most;
      in_range = c.loop-low.invariant.in_range;
    }

pub loop-low-preserved : goal.loop-low-preserved
loop-low-preserved c =
    let xs = c.self.inside.chunks.items in
    let w = subst (λ (s : Stored). AreWhole false (begun c.args.message_id) s.chunks) (sym c.self.view_is) c.requires in
    let middle = c.loop-low.low + (c.loop-low.high - c.loop-low.low) / 2 in
    let behind = place_behind false w.0 c.args.message_id xs middle c.index-in-loop-low.result.now w.1
    (omega (arith, c.loop-low.invariant.in_range)) c.index-in-loop-low.ensures c.if-index-message_id-2.false in
    record {
      begun = c.loop-low.invariant.begun;
      ended = behind;
      most = omega (arith, c.loop-low.invariant.most);
      in_range = omega (arith, c.loop-low.invariant.in_range);
    }
