use Rattle.std.proofs.Common.{◌≤◌, length, subst, sym, ap, ◌∙◌, Some, arith}
use Rattle.std.specs.List.{remove}
use Rattle.std.proofs.lemmas.List.Edits.{length-insert}
use Rattle.sctp_data.specs.ChunkSet.{ChunkSet}
use Rattle.sctp_reassembly.specs.reassembly_queue.Fragments.{is_complete, answer_with}
use Rattle.sctp_reassembly.specs.reassembly_queue.Undo.{AreNoted}
use Rattle.sctp_serial.proofs.lemmas.ListEdits.{remove-insert}
use Rattle.sctp_reassembly.proofs.lemmas.reassembly_queue.ChunkSets.{chunks_none}
use Rattle.sctp_reassembly.proofs.reassembly_queue.ordered_sets.OrderedSets.put_new.Goals as goal

pub returns-clause-answer : goal.returns-clause-answer
returns-clause-answer c =
    let x = c.args.chunk in
    ap (λ b. Some b) c.is_complete_counted-whole.ensures.value
    ∙ ap (λ (s : ChunkSet). Some (is_complete s.chunks)) c.new_set-set.ensures.value
    ∙ ap (answer_with x) (sym (chunks_none x.stream_sequence_number _ c.requires.free.absent))

pub returns-clause-undo : goal.returns-clause-undo
returns-clause-undo c =
    let xs = c.self.inside.sets.items in
    let i = c.args.at.place in
    let y = c.new_set-set.result in
    let le : i ≤ length xs = omega (arith, c.requires.free.in_range, ap length c.self.view_is) in
    let back = ap (λ ys. remove ys i) c.in_ok-insert.ensures.ok ∙ remove-insert xs i y le ∙ c.self.view_is in (
      record {
        place = omega (arith, le, length-insert xs i y le, ap length c.in_ok-insert.ensures.ok);
        noted = subst (AreNoted c.noted-noted.result) (sym back) c.noted-noted.ensures;
      },
      back,
    )

pub returns-clause-few : goal.returns-clause-few
returns-clause-few c =
    let one = ap (λ (s : ChunkSet). length s.chunks) c.new_set-set.ensures.value in
    omega (arith, one, c.is_complete_counted-whole.ensures.cost, c.new_set-set.ensures.cost)

pub returns-in_err-insert-clause-few : goal.returns-in_err-insert-clause-few
returns-in_err-insert-clause-few c =
    let one = ap (λ (s : ChunkSet). length s.chunks) c.new_set-set.ensures.value in
    omega (arith, one, c.is_complete_counted-whole.ensures.cost, c.new_set-set.ensures.cost)
