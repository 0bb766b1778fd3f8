use Rattle.std.proofs.Common.{◌-◌, ◌^◌, not, min, ap, ◌∙◌, sym, subst, map}
use Rattle.std.specs.List.{filter}
use Rattle.sctp_util.specs.Serial.{at_or_before}
use Rattle.sctp_data.specs.declared.chunk.chunk_payload_data.ChunkPayloadData.{ChunkPayloadData}
use Rattle.sctp_serial.specs.Ascending.{IsAscending, IsOrder}
use Rattle.sctp_reassembly.specs.reassembly_queue.Orders.{IsOffOnlyOutOfOrder}
use Rattle.sctp_serial.specs.DataChunks.{bytes_of}
use Rattle.sctp_serial.proofs.lemmas.AscendingEdits.{ascending, ascends_those, order_on}
use Rattle.sctp_reassembly.proofs.lemmas.reassembly_queue.ChunkSets.{same_but_chunks}
use Rattle.sctp_reassembly.proofs.reassembly_queue.chunks.Fragments.keep_past.Goals as goal

pub invariant_of-self : goal.invariant_of-self
invariant_of-self c =
    let num = (λ (x : ChunkPayloadData). x.tsn) in
    let same = c.as_slice-left.ensures in
    record {
      counted = c.bytes_in-self-inside.ensures.value ∙ ap (λ cs. min (bytes_of cs) (2 ^ 64 - 1)) same;
      order = subst (λ ys. IsOrder c.still_ascending-self-inside.result (map num ys)) same c.still_ascending-self-inside.ensures.order;
      exact = subst (λ ys. IsOffOnlyOutOfOrder c.still_ascending-self-inside.result (map num ys)) same
          c.still_ascending-self-inside.ensures.exact;
    }

pub still_ascending-self-inside-requires : goal.still_ascending-self-inside-requires
still_ascending-self-inside-requires c on =
    let num = (λ (x : ChunkPayloadData). x.tsn) in
    let xs = c.self.inside.chunks in
    let p = (λ (x : ChunkPayloadData). not (at_or_before x.tsn c.args.tsn)) in
    subst (λ ys. IsAscending (map num ys)) (sym (c.as_slice-left.ensures ∙ c.keep_past.ensures))
    (ascending num (filter p xs) (ascends_those num p xs (order_on num c.self.inside.ascending xs on c.self.invariant.order)))

pub returns-clause-rest : goal.returns-clause-rest
returns-clause-rest c = rw (← c.self.view_is) (same_but_chunks c.keep_past.ensures)
