use Rattle.sctp_sender.proofs.Names.{true, false, ap, sym, ◌∙◌, not, option_map, ChunkPayloadData, is_kept}
use Rattle.sctp_sender.proofs.Walks.{find-step}
use Rattle.sctp_sender.proofs.sender.flight.skips.first_kept.Goals as goal

pub returns-then-not-chunk : goal.returns-then-not-chunk
returns-then-not-chunk c =
    let cs = c.args.queue.now.inflight.chunks in
    let found = c.loop-place.invariant
    ∙ find-step is_kept cs c.loop-place.place c.in-Some.chunk.now true (sym c.in-Some.ensures) (ap not c.if-not-chunk.true) in
    sym (ap (option_map (λ (d : ChunkPayloadData). d.tsn)) found)

pub loop-place-preserved : goal.loop-place-preserved
loop-place-preserved c =
    let cs = c.args.queue.now.inflight.chunks in
    c.loop-place.invariant ∙ find-step is_kept cs c.loop-place.place c.in-Some.chunk.now false (sym c.in-Some.ensures) (ap not c.if-not-chunk.false)
