use Rattle.sctp_sender.proofs.Names.{◌≡◌, true, false, List, take, sym, subst, ◌∙◌, append-nil, filter, ChunkPayloadData, Name, is_named}
use Rattle.sctp_sender.proofs.Points.{more-named}
use Rattle.sctp_sender.proofs.sender.flight.skips.pairs_of.Goals as goal

pub loop-place-preserved-then-not-is_named : goal.loop-place-preserved-then-not-is_named
loop-place-preserved-then-not-is_named c =
    let cs = c.args.queue.now.inflight.chunks in
    let x = c.in-Some.chunk.now in
    let i = c.loop-place.place in
    let nay : is_named x ≡ false = sym c.is_named.ensures ∙ c.if-not-is_named.true in
    let e = more-named cs i x false (sym c.in-Some.ensures) nay ∙ append-nil (filter is_named (take i cs)) in
    subst (λ (xs : List ChunkPayloadData). Name c.loop-place.pairs xs) (sym e) c.loop-place.invariant

pub loop-place-preserved : goal.loop-place-preserved
loop-place-preserved c =
    let cs = c.args.queue.now.inflight.chunks in
    let x = c.in-Some.chunk.now in
    let i = c.loop-place.place in
    let yea : is_named x ≡ true = sym c.is_named.ensures ∙ c.if-not-is_named.false in
    let e = more-named cs i x true (sym c.in-Some.ensures) yea in
    subst (λ (xs : List ChunkPayloadData). Name c.name.new.pairs xs) (sym e) (c.in_ok-name.ensures.ok (filter is_named (take i cs)) c.loop-place.invariant)
