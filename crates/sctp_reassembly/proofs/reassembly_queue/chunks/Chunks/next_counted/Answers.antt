use Rattle.std.proofs.Common.{◌++◌, length, length-take-le, sym, Some, arith, ap, ap₂, subst, ◌∙◌, ◌<◌}
use Rattle.std.specs.List.{concat}
use Rattle.sctp_reassembly.specs.reassembly_queue.Chunks.{left_of}
use Rattle.sctp_reassembly.proofs.lemmas.reassembly_queue.PiecesTaken.{pieces_join, piece_full, pieces_end, piece_some}
use Rattle.sctp_reassembly.proofs.reassembly_queue.chunks.Chunks.next_counted.Goals as goal

pub returns-clause-piece : goal.returns-clause-piece
returns-clause-piece c =
    let given = rw c.fragments-chunks.ensures at c.in_ok-index.ensures.bytes in
    let chunks = c.args.self.now.set.chunks in
    let here : c.args.self.now.index < length c.fragments-chunks.result.now = omega (arith, c.if-self-chunks.false) in
    let within : c.args.self.now.index < length chunks = subst (λ xs. c.args.self.now.index < length xs) c.fragments-chunks.ensures here in
    let some = piece_some c.args.max_length chunks c.args.self.now.index c.args.self.now.offset within in
    ap (λ xs. Some xs) (c.in_ok-bytes.ensures.ok ∙ given) ∙ sym some

pub returns-clause-joins : goal.returns-clause-joins
returns-clause-joins c =
    let left = rw c.fragments-chunks.ensures at c.in_ok-index.ensures.left in
    let given = rw c.fragments-chunks.ensures at c.in_ok-index.ensures.bytes in
    ap₂ (λ a b. a ++ concat b) (c.in_ok-bytes.ensures.ok ∙ given) left ∙ pieces_join c.args.max_length (left_of c.args.self.now)

pub returns-clause-asked : goal.returns-clause-asked
returns-clause-asked c lt =
    let old = left_of c.args.self.now in
    let left = rw c.fragments-chunks.ensures at c.in_ok-index.ensures.left in
    let given = rw c.fragments-chunks.ensures at c.in_ok-index.ensures.bytes in
    ap length (c.in_ok-bytes.ensures.ok ∙ given)
    ∙ length-take-le c.args.max_length (concat old) (piece_full c.args.max_length old (subst (λ xs. 0 < length xs) left lt))

pub returns-clause-ends : goal.returns-clause-ends
returns-clause-ends c le =
    let left = rw c.fragments-chunks.ensures at c.in_ok-index.ensures.left in
    left ∙ pieces_end c.args.max_length (left_of c.args.self.now) le
