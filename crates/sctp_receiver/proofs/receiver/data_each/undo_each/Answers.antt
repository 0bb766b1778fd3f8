use Rattle.sctp_receiver.proofs.Names.{◌≡◌, ◌++◌, ◌∷◌, [], ap, sym, subst, ◌∙◌, parts, chunks_undone, CanUndoChunks}
use Rattle.sctp_receiver.proofs.Undone.{undone-last, can-last}
use Rattle.sctp_receiver.proofs.receiver.data_each.undo_each.Goals as goal

pub undo_chunk-requires : goal.undo_chunk-requires
undo_chunk-requires c =
    let p = parts c.loop-undo.streams c.loop-undo.filter in
    let us = c.pop.new.self.items in
    let items : c.loop-undo.undos.items ≡ us ++ c.in-Some.undo ∷ [] = c.in-Some.ensures.items in
    (can-last us c.in-Some.undo p (subst (λ vs. CanUndoChunks vs p) items c.loop-undo.invariant.can)).0

pub loop-undo-preserved : goal.loop-undo-preserved
loop-undo-preserved c =
    let p = parts c.loop-undo.streams c.loop-undo.filter in
    let us = c.pop.new.self.items in
    let items : c.loop-undo.undos.items ≡ us ++ c.in-Some.undo ∷ [] = c.in-Some.ensures.items in
    let rest = (can-last us c.in-Some.undo p (subst (λ vs. CanUndoChunks vs p) items c.loop-undo.invariant.can)).1 in
    record {
      same = ap (chunks_undone us) c.undo_chunk.ensures ∙ sym (undone-last us c.in-Some.undo p) ∙ ap (λ vs. chunks_undone vs p) (sym items)
          ∙ c.loop-undo.invariant.same;
      can = subst (CanUndoChunks us) (sym c.undo_chunk.ensures) rest;
    }
