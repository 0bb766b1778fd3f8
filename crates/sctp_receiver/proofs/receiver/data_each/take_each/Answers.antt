use Rattle.sctp_receiver.proofs.Names.{rules, ◌≡◌, ◌<◌, ◌+◌, ◌∙◌, ap, sym, subst, arith, None, Some, refl, List, ◌∷◌, [], ◌++◌, length, take, get_or}
use Rattle.sctp_receiver.proofs.Names.{slice_get, length-append, slice_get_read, ChunkPayloadData, Arrival, ChunkUndo}
use Rattle.sctp_receiver.proofs.Names.{Reception, TakesEach, TakesFirstBy, data_refusal, Parts, parts}
use Rattle.sctp_receiver.proofs.Names.{reception_of, chunks_undone, CanUndoChunks}
use Rattle.std.proofs.lemmas.List.{take_more}
use Rattle.sctp_receiver.proofs.DataEach.{takes-more, stops}
use Rattle.sctp_receiver.proofs.Undone.{undone-last, last-can}
use Rattle.sctp_receiver.proofs.receiver.data_each.take_each.Goals as goal

pub returns-in-Err-clause-refused : goal.returns-in-Err-clause-refused
returns-in-Err-clause-refused c =
    let x = c.chunk-item.result in
    let cs = c.args.chunks.now in
    let lt : c.loop-chunk.chunk-index < length cs = omega (arith, c.loop-chunk-test.true) in
    let next : slice_get cs c.loop-chunk.chunk-index ≡ Some x = slice_get_read cs (length cs) c.loop-chunk.chunk-index x refl lt c.chunk-item.is in
    stops cs c.loop-chunk.arrivals.items c.loop-chunk.chunk-index x
    (reception_of c.args.rules (parts c.args.streams.now c.args.filter.now))
    (reception_of c.args.rules (parts c.loop-chunk.streams c.loop-chunk.filter)) c.in-Err.refusal c.loop-chunk.invariant.taken next
    c.in-Err.ensures.refused

pub loop-chunk-preserved : goal.loop-chunk-preserved
loop-chunk-preserved c =
    let x = c.chunk-item.result in
    let i = c.loop-chunk.chunk-index in
    let cs = c.args.chunks.now in
    let l = c.loop-chunk in
    let v = l.invariant in
    let p : Parts = parts l.streams l.filter in
    let q : Parts = parts c.take_any_ssn.new.streams c.take_any_ssn.new.filter in
    let start : Reception = reception_of c.args.rules (parts c.args.streams.now c.args.filter.now) in
    let old : Reception = reception_of c.args.rules p in
    let new : Reception = reception_of c.args.rules q in
    let a = c.in-Ok.arrival in
    let u = c.in-Ok.undo in
    let lt : i < length cs = omega (arith, c.loop-chunk-test.true) in
    let same : get_or cs i x ≡ x = search rules in
    let accepted : data_refusal x old ≡ None = search rules in
    let answers : c.put.new.items.items ≡ l.arrivals.items ++ a ∷ [] = c.put.ensures.items in
    let undos : c.put-in-Ok.new.items.items ≡ l.undos.items ++ u ∷ [] = c.put-in-Ok.ensures.items in
    let first : TakesFirstBy data_refusal x a old new = record { accepted = accepted; answer = c.in-Ok.ensures.answer; taken = c.in-Ok.ensures.ok } in
    let front : take i cs ++ x ∷ [] ≡ take (i + 1) cs = ap (λ (y : ChunkPayloadData). take i cs ++ y ∷ []) (sym same) ∙ sym (take_more cs i x lt) in
    let n = length-append l.arrivals.items (a ∷ []) in
    let m = length-append l.undos.items (u ∷ []) in
    let long = ap (λ (bs : List Arrival). length bs) answers in
    let many = ap (λ (us : List ChunkUndo). length us) undos in
    let rest : CanUndoChunks l.undos.items _ = subst (CanUndoChunks l.undos.items) (sym c.in-Ok.ensures.undo) v.can in
    record {
      taken = subst (λ (bs : List Arrival). TakesEach (take (i + 1) cs) bs start new) (sym answers)
          (subst (λ (ys : List ChunkPayloadData). TakesEach ys (l.arrivals.items ++ a ∷ []) start new) front
          (takes-more (take i cs) l.arrivals.items x a start old new v.taken first));
      undone = ap (λ us. chunks_undone us q) undos ∙ undone-last l.undos.items u q ∙ ap (chunks_undone l.undos.items) c.in-Ok.ensures.undo ∙ v.undone;
      can = subst (λ us. CanUndoChunks us q) (sym undos) (last-can l.undos.items u q c.in-Ok.ensures.can rest);
      arrivals = omega (arith, v.arrivals, n, long);
      arrivals_fit = omega (arith, v.arrivals_fit, c.put.ensures.capacity);
      undos = omega (arith, v.undos, m, many);
      undos_fit = omega (arith, v.undos_fit, c.put-in-Ok.ensures.capacity);
    }
