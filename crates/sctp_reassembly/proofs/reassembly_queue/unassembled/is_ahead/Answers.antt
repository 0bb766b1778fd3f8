use Rattle.std.proofs.Common.{◌≡◌, ◌-◌, length, get_or, sym, ◌∙◌, subst, arith}
use Rattle.sctp_reassembly.proofs.lemmas.reassembly_queue.SerialPlaces.{all_ahead, read_on}
use Rattle.sctp_reassembly.proofs.reassembly_queue.unassembled.is_ahead.Goals as goal

pub returns-clause-yes : goal.returns-clause-yes
returns-clause-yes c h s =
    let xs = c.args.chunks.now.items in
    let last = subst (λ k. c.index-2.result.now ≡ get_or xs (k - 1) c.index-2.result.now) {y = length xs} (omega arith) c.index-2.ensures in
    all_ahead xs s c.args.tsn c.args.place c.chunk.result.now c.chunk-2.result.now c.ranges.tsn.fits (omega (arith, c.requires))
    (read_on xs c.args.place _ _ c.index.ensures c.chunk.ensures) (read_on xs (length xs - 1) _ _ last c.chunk-2.ensures)
    (sym c.is_before.ensures.value ∙ c.if-not-is_before.false) (sym c.is_before-2.ensures.value ∙ h)
