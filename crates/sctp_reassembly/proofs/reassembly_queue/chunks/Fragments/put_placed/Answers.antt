use Rattle.std.proofs.Common.{◌≤◌, length, remove, ap, ◌∙◌, arith}
use Rattle.std.proofs.lemmas.List.Edits.{length-insert}
use Rattle.sctp_serial.proofs.lemmas.ListEdits.{remove-insert}
use Rattle.sctp_reassembly.proofs.lemmas.reassembly_queue.ChunkSets.{same_but_chunks}
use Rattle.sctp_reassembly.proofs.reassembly_queue.chunks.Fragments.put_placed.Goals as goal

pub returns-clause-undo : goal.returns-clause-undo
returns-clause-undo c =
    let xs = c.self.inside.chunks in
    let place = c.in-Some.at.place in
    let x = c.args.chunk in
    let le : place ≤ length xs = omega (arith, c.in-Some.ensures.free.in_range, ap length c.as_slice.ensures) in (
      omega (arith, le, length-insert xs place x le, ap length c.in_ok-insert.ensures.ok),
      same_but_chunks (ap (λ ys. remove ys place) c.in_ok-insert.ensures.ok ∙ remove-insert xs place x le) ∙ c.self.view_is,
    )
