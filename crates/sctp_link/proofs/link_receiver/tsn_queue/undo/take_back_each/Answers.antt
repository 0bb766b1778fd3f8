use Rattle.std.proofs.Common.{◌≡◌, ◌++◌, ◌∷◌, [], sym, subst}
use Rattle.sctp_link.specs.Tsns.{undone, CanUndoEach}
use Rattle.sctp_link.proofs.tsns.TakenBack.{undone-last, can-last, kept}
use Rattle.sctp_link.proofs.link_receiver.tsn_queue.undo.take_back_each.Goals as goal

pub take_back-requires : goal.take_back-requires
take_back-requires c =
    let us = c.pop.new.self.items in
    let items : c.loop-undo.undos.items ≡ us ++ c.in-Some.undo ∷ [] = c.in-Some.ensures.items in
    (can-last us c.in-Some.undo c.loop-undo.tsns (subst (λ vs. CanUndoEach vs c.loop-undo.tsns) items c.loop-undo.invariant.can)).0

pub loop-undo-preserved : goal.loop-undo-preserved
loop-undo-preserved c =
    let us = c.pop.new.self.items in
    let k = c.loop-undo.tsns in
    let items : c.loop-undo.undos.items ≡ us ++ c.in-Some.undo ∷ [] = c.in-Some.ensures.items in
    let rest = (can-last us c.in-Some.undo k (subst (λ vs. CanUndoEach vs k) items c.loop-undo.invariant.can)).1 in
    record {
      same = cc (c.take_back.ensures.value, undone-last us c.in-Some.undo k.filter, items, c.loop-undo.invariant.same);
      can = subst (λ f. CanUndoEach us (kept f c.take_back.new.self.places)) (sym c.take_back.ensures.value)
          (subst (λ n. CanUndoEach us (kept (undone c.in-Some.undo k.filter) n)) (sym c.take_back.ensures.places) rest);
    }
