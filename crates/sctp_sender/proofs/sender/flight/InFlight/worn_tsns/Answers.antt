use Rattle.sctp_sender.proofs.Names.{ℕ, List, ◌++◌, ◌∷◌, [], true, false, map, sym, ap, ◌∙◌, is_worn, ChunkPayloadData}
use Rattle.std.proofs.Common.{append-nil}
use Rattle.sctp_outbound.proofs.lemmas.outbound_queue.Outbounds.{tsns_more, none_listed}
use Rattle.sctp_sender.proofs.Unmarked.{none-worn}
use Rattle.sctp_sender.proofs.Walks.{read-of}
use Rattle.sctp_sender.proofs.sender.flight.InFlight.worn_tsns.Goals as goal

pub loop-place-preserved : goal.loop-place-preserved
loop-place-preserved c =
    let xs = c.args.self.now.queue.inflight.chunks in
    let x = c.in-Some.chunk.now in
    let r = read-of xs c.loop-place.place x (sym c.in-Some.ensures) in
    c.put.ensures.items ∙ ap (λ (ts : List ℕ). ts ++ x.tsn ∷ []) (c.reserve.ensures.items ∙ c.loop-place.invariant)
    ∙ sym (tsns_more is_worn xs c.loop-place.place x true r.0 r.1 (sym c.is_worn.ensures ∙ c.if-not-is_worn.false))

pub loop-place-preserved-then-not-is_worn : goal.loop-place-preserved-then-not-is_worn
loop-place-preserved-then-not-is_worn c =
    let xs = c.args.self.now.queue.inflight.chunks in
    let x = c.in-Some.chunk.now in
    let r = read-of xs c.loop-place.place x (sym c.in-Some.ensures) in
    c.loop-place.invariant ∙ sym (tsns_more is_worn xs c.loop-place.place x false r.0 r.1 (sym c.is_worn.ensures ∙ c.if-not-is_worn.true) ∙ append-nil _)

pub returns-then-is_err-clause-idle : goal.returns-then-is_err-clause-idle
returns-then-is_err-clause-idle c = λ none.
    let xs = c.args.self.now.queue.inflight.chunks in
    let x = c.in-Some.chunk.now in
    let r = read-of xs c.loop-place.place x (sym c.in-Some.ensures) in
    absurd (none_listed is_worn xs c.loop-place.place x r.0 r.1 (sym c.is_worn.ensures ∙ c.if-not-is_worn.false) none)

pub loop-place-init : goal.loop-place-init
loop-place-init c =
    rw (← c.self.view_is) (c.new-tsns.ensures.items ∙ ap (map (λ (d : ChunkPayloadData). d.tsn)) (sym
    (none-worn c.self.inside.unmarked c.self.inside.queue.inflight.chunks c.self.invariant.unmarked.each)))
