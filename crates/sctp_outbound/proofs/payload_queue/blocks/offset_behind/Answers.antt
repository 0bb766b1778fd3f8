use Rattle.std.proofs.Common.{sym, ◌∙◌, arith}
use Rattle.sctp_outbound.proofs.lemmas.payload_queue.Offsets.{offset_is, offset_past}
use Rattle.sctp_outbound.proofs.payload_queue.blocks.offset_behind.Goals as goal

pub returns-then-place-len-clause-value : goal.returns-then-place-len-clause-value
returns-then-place-len-clause-value c =
    sym (offset_past c.args.cumulative_tsn c.args.held.now.chunks c.ranges.cumulative_tsn.fits c.args.place (omega arith))

pub returns-in-Some-clause-value : goal.returns-in-Some-clause-value
returns-in-Some-clause-value c =
    let number = rw c.in-Some.is at c.requires in
    c.distance.ensures.value ∙ sym (offset_is c.args.cumulative_tsn c.args.held.now.chunks c.args.place c.in-Some.tsn (omega arith) number)

pub returns-in-None-clause-value : goal.returns-in-None-clause-value
returns-in-None-clause-value c = c.distance-in-None.ensures.value
    ∙ sym (offset_is c.args.cumulative_tsn c.args.held.now.chunks c.args.place c.tsn_at.result (omega arith) c.tsn_at.ensures.value)
