use Rattle.std.proofs.Common.{◌≡◌, map, subst, ◌<◌, ◌++◌, ◌∷◌, [], true, false, length, append-nil, sym, ap, ◌∙◌, arith}
use Rattle.sctp_outbound.specs.outbound_queue.OutboundQueue.{Outbound, is_late, late_tsns}
use Rattle.std.specs.List.{list_any}
use Rattle.sctp_outbound.specs.Marks.{is_of}
use Rattle.sctp_data.specs.declared.chunk.chunk_payload_data.ChunkPayloadData.{ChunkPayloadData}
use Rattle.sctp_outbound.proofs.lemmas.payload_queue.Between.{any-at}
use Rattle.sctp_outbound.proofs.lemmas.payload_queue.Deadlines.{none_late}
use Rattle.sctp_outbound.proofs.lemmas.outbound_queue.Outbounds.{tsns_more, none_listed}
use Rattle.sctp_outbound.proofs.outbound_queue.OutboundQueue.expired_inflight.Goals as goal

pub loop-place-preserved : goal.loop-place-preserved
loop-place-preserved c =
    let xs = c.self.inside.inflight.chunks in
    let within : c.loop-place.place < length xs = omega arith in
    c.in_ok-push.ensures.items ∙ ap (λ ts. ts ++ c.look-chunk.result.now.tsn ∷ []) c.loop-place.invariant
    ∙ sym (tsns_more (is_late c.args.now c.self.inside.pending) xs c.loop-place.place c.look-chunk.result.now true within c.look-chunk.ensures.value (subst
    (λ (o : Outbound). is_late c.args.now o.pending c.look-chunk.result.now ≡ true) (sym c.self.view_is) (sym c.is_late.ensures ∙ c.if-not-is_late.false)))

pub loop-place-preserved-then-not-is_late : goal.loop-place-preserved-then-not-is_late
loop-place-preserved-then-not-is_late c =
    let xs = c.self.inside.inflight.chunks in
    let within : c.loop-place.place < length xs = omega arith in
    c.loop-place.invariant
    ∙ sym (tsns_more (is_late c.args.now c.self.inside.pending) xs c.loop-place.place c.look-chunk.result.now false within c.look-chunk.ensures.value (subst
    (λ (o : Outbound). is_late c.args.now o.pending c.look-chunk.result.now ≡ false) (sym c.self.view_is) (sym c.is_late.ensures ∙ c.if-not-is_late.true))
    ∙ append-nil _)

pub returns-in_err-push-clause-idle : goal.returns-in_err-push-clause-idle
returns-in_err-push-clause-idle c =
    let xs = c.self.inside.inflight.chunks in
    let within : c.loop-place.place < length xs = omega arith in
    rw (← c.self.view_is) (λ none. absurd
    (none_listed (is_late c.args.now c.self.inside.pending) xs c.loop-place.place c.look-chunk.result.now within c.look-chunk.ensures.value (subst (λ (o : Outbound).
    is_late c.args.now o.pending c.look-chunk.result.now ≡ true) (sym c.self.view_is) (sym c.is_late.ensures ∙ c.if-not-is_late.false)) none))

pub is_late-requires : goal.is_late-requires
is_late-requires c =
    let xs = c.self.inside.inflight.chunks in
    let x = c.look-chunk.result.now in
    let within : c.loop-place.place < length xs = omega arith in
    subst (λ (o : Outbound). list_any (is_of x.message_id) o.inflight.chunks ≡ true) c.self.view_is (any-at xs c.loop-place.place x within c.look-chunk.ensures.value)

pub returns-then-now-earliest_deadline-clause-ok : goal.returns-then-now-earliest_deadline-clause-ok
returns-then-now-earliest_deadline-clause-ok c =
    let none = none_late c.earliest_deadline.result c.args.now c.self.inside.pending c.self.inside.inflight.chunks (omega arith) c.earliest_deadline.ensures in
    c.new-tsns.ensures.items ∙ sym (ap (map (λ (x : ChunkPayloadData). x.tsn)) none) ∙ ap (late_tsns c.args.now) c.self.view_is
