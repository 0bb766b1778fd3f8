use Rattle.std.proofs.Common.{rules, ◌≡◌, ◌<◌, ◌+◌, ◌∙◌, ap, sym, subst, arith, List, ◌∷◌, [], ◌++◌, length, take, get_or}
use Rattle.std.proofs.lemmas.List.{take_more, length-append}
use Rattle.sctp_data.specs.declared.chunk.chunk_payload_data.ChunkPayloadData.{ChunkPayloadData}
use Rattle.sctp_link.specs.declared.link_receiver.tsn_queue.undo.TsnUndo.{TsnUndo}
use Rattle.sctp_link.specs.Tsns.{undone, each_undone, CanUndoEach}
use Rattle.sctp_link.proofs.tsns.TakenBack.{undone-last, last-can, can-more, kept}
use Rattle.sctp_link.proofs.tsns.ReceiverTsns.{arrivals-more}
use Rattle.sctp_link.proofs.link_receiver.tsn_queue.undo.take_each.Goals as goal

pub loop-chunk-preserved : goal.loop-chunk-preserved
loop-chunk-preserved c =
    let x = c.chunk-item.result in
    let i = c.loop-chunk.chunk-index in
    let cs = c.args.chunks.now in
    let l = c.loop-chunk in
    let v = l.invariant in
    let u = c.in-Ok.undo in
    let k = c.take.new.self in
    let lt : i < length cs = omega (arith, c.loop-chunk-test.true) in
    let same : get_or cs i x ≡ x = search rules in
    let undos : c.put.new.items.items ≡ l.undos.items ++ u ∷ [] = c.put.ensures.items in
    let front : take i cs ++ x ∷ [] ≡ take (i + 1) cs = ap (λ (y : ChunkPayloadData). take i cs ++ y ∷ []) (sym same) ∙ sym (take_more cs i x lt) in
    let m = length-append l.undos.items (u ∷ []) in
    let many = ap (λ (us : List TsnUndo). length us) undos in
    let back : undone u k.filter ≡ l.tsns.filter = c.in-Ok.ensures.undo in
    let rest : CanUndoEach l.undos.items (kept (undone u k.filter) k.places) = subst (λ f. CanUndoEach l.undos.items (kept f k.places)) (sym back)
    (can-more l.undos.items l.tsns.filter l.tsns.places k.places c.in-Ok.ensures.places v.can) in
    record {
      taken = cc (c.in-Ok.ensures.ok, v.taken, arrivals-more (take i cs) x c.args.tsns.now.filter, front);
      undone = ap (λ us. each_undone us k.filter) undos ∙ undone-last l.undos.items u k.filter ∙ ap (each_undone l.undos.items) back ∙ v.undone;
      can = subst (λ us. CanUndoEach us k) (sym undos) (last-can l.undos.items u k c.in-Ok.ensures.can rest);
      undos = omega (arith, v.undos, m, many);
      undos_fit = omega (arith, v.undos_fit, c.put.ensures.capacity);
    }
