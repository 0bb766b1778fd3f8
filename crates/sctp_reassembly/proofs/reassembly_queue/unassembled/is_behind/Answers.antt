use Rattle.std.proofs.Common.{◌-◌, sym, ◌∙◌, arith}
use Rattle.sctp_reassembly.proofs.lemmas.reassembly_queue.SerialPlaces.{all_behind, read_on}
use Rattle.sctp_reassembly.proofs.reassembly_queue.unassembled.is_behind.Goals as goal

pub returns-clause-yes : goal.returns-clause-yes
returns-clause-yes c h s =
    let xs = c.args.chunks.now.items in
    all_behind xs s c.args.tsn c.args.place c.chunk-2.result.now c.chunk.result.now c.ranges.tsn.fits (omega arith) c.requires
    (read_on xs 0 _ _ c.index-2.ensures c.chunk-2.ensures) (read_on xs (c.args.place - 1) _ _ c.index.ensures c.chunk.ensures)
    (sym c.is_before.ensures.value ∙ c.if-not-is_before.false) (sym c.is_before-2.ensures.value ∙ h)
