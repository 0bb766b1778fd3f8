use Rattle.std.proofs.Common.{◌≡◌, ◌-◌, List, length, sym, ap, subst, ◌∙◌, arith}
use Rattle.sctp_data.specs.declared.chunk.chunk_payload_data.ChunkPayloadData.{ChunkPayloadData}
use Rattle.sctp_serial.specs.Window.{IsSerial}
use Rattle.sctp_reassembly.specs.reassembly_queue.Orders.{digits}
use Rattle.sctp_reassembly.specs.reassembly_queue.ReassemblyQueue.{ReassemblyState}
use Rattle.sctp_reassembly.proofs.lemmas.reassembly_queue.Digits.{within_digits}
use Rattle.sctp_reassembly.proofs.lemmas.reassembly_queue.Unassembled.{same_list}
use Rattle.sctp_reassembly.proofs.reassembly_queue.ReassemblyQueue.place_of.Goals as goal

pub returns-clause-few : goal.returns-clause-few
returns-clause-few c serial =
    let xs = c.unassembled.result.now.chunks in
    let same : xs ≡ c.args.self.now.held.unassembled = same_list c.unassembled.ensures ∙ ap (λ (q : ReassemblyState). q.held.unassembled) c.self.view_is in
    omega (
      arith,
      within_digits (length xs) (c.place_for.new.turns - c.args.turns.now - 2) (c.place_for.ensures.cost (subst IsSerial (sym same) serial)),
      ap (λ (ys : List ChunkPayloadData). digits (length ys)) same,
    )

pub returns-clause-walk : goal.returns-clause-walk
returns-clause-walk c =
    let same : c.unassembled.result.now.chunks ≡ c.args.self.now.held.unassembled = same_list c.unassembled.ensures
    ∙ ap (λ (q : ReassemblyState). q.held.unassembled) c.self.view_is in
    omega (arith, c.place_for.ensures.walk, ap length same)
