use Rattle.sctp_sender.proofs.Names.{◌++◌, ◌∷◌, [], List, ap, ◌∙◌, arith, GapAckBlock, is_in_blocks, ascends_from}
use Rattle.sctp_sender.proofs.Anew.{in-more, one-more-block}
use Rattle.sctp_sender.proofs.sender.flight.runs.put_run.Goals as goal

pub returns-clause-ascend : goal.returns-clause-ascend
returns-clause-ascend c =
    let b : GapAckBlock = record { start = c.args.start; end = c.args.end } in
    ap (ascends_from 0) (c.put.ensures.items ∙ ap (λ (x : GapAckBlock). c.reserve.new.self.items ++ x ∷ []) c.run.ensures
    ∙ ap (λ (xs : List GapAckBlock). xs ++ b ∷ []) c.reserve.ensures.items)
    ∙ one-more-block c.args.blocks.now.items 0 c.args.start c.args.end c.requires.ascend c.requires.some (omega (arith, c.if-end-start.false)) c.requires.behind

pub returns-clause-same : goal.returns-clause-same
returns-clause-same c = λ n.
    let b : GapAckBlock = record { start = c.args.start; end = c.args.end } in
    ap (λ xs. is_in_blocks xs n) (c.put.ensures.items ∙ ap (λ (x : GapAckBlock). c.reserve.new.self.items ++ x ∷ []) c.run.ensures
    ∙ ap (λ (xs : List GapAckBlock). xs ++ b ∷ []) c.reserve.ensures.items)
    ∙ in-more c.args.blocks.now.items b n
