use Rattle.sctp_sender.proofs.Names.{List, [], ◌∷◌, ◌++◌, map, take, ap, sym, ◌∙◌, arith, not, filter, map-append, ChunkPayloadData, Released, released_of}
use Rattle.sctp_sender.proofs.Names.{no_message}
use Rattle.sctp_sender.proofs.Anew.{none-answered, one-answered}
use Rattle.sctp_sender.proofs.Walks.{read-of}
use Rattle.sctp_sender.proofs.sender.flight.answers.tell_at.Goals as goal

pub returns-then-chunk-clause-answered : goal.returns-then-chunk-clause-answered
returns-then-chunk-clause-answered c = λ p picks start.
    let cs = c.args.queue.now.inflight.chunks in
    let i = c.args.place in
    let x = c.in-Some.chunk.now in
    let at = read-of cs i x (sym c.in-Some.ensures) in
    let nay = ap p at.1 ∙ picks i x (omega arith) (omega arith) at.0 ∙ ap (λ (y : ChunkPayloadData). not y.acked) (sym at.1) ∙ ap not c.if-chunk.true in
    start ∙ ap (map (released_of no_message)) (sym (none-answered p cs i x at.0 at.1 nay))

pub returns-clause-answered : goal.returns-clause-answered
returns-clause-answered c = λ p picks start.
    let cs = c.args.queue.now.inflight.chunks in
    let i = c.args.place in
    let x = c.in-Some.chunk.now in
    let at = read-of cs i x (sym c.in-Some.ensures) in
    let yea = ap p at.1 ∙ picks i x (omega arith) (omega arith) at.0 ∙ ap (λ (y : ChunkPayloadData). not y.acked) (sym at.1) ∙ ap not c.if-chunk.false in
    c.put.ensures.items ∙ ap (λ (rs : List Released). rs ++ c.released_of.result ∷ []) (c.reserve.ensures.items ∙ start)
    ∙ ap (λ (r : Released). map (released_of no_message) (filter p (take i cs)) ++ r ∷ []) c.released_of.ensures
    ∙ sym (map-append (released_of no_message) (filter p (take i cs)) (x ∷ [])) ∙ ap (map (released_of no_message)) (sym (one-answered p cs i x at.0 at.1 yea))
