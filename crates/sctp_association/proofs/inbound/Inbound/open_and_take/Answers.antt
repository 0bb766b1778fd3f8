use Rattle.std.proofs.Common.{refl, subst, sym, ℕ, ◌<◌, ◌∙◌}
use Rattle.sctp_association.proofs.AcksOn.{acks_opened}
use Rattle.sctp_association.proofs.Entering.{handles_opened, to_use, usable_parts}
use Rattle.sctp_association.proofs.Noting.{tells_after}
use Rattle.sctp_data.specs.declared.chunk.chunk_payload_data.ChunkPayloadData.{ChunkPayloadData}
use Rattle.sctp_association.proofs.Arriving.{opened_asked, received_then}
use Rattle.std.proofs.Common.{ap}
use Rattle.sctp_association.proofs.Named.{open_now}
use Rattle.sctp_association.proofs.TooLong.{entered_opened}
use Rattle.sctp_association.proofs.Brought.{notes_after, notes_more}
use Rattle.sctp_receiver.specs.Receiver.{arrival_refusal}
use Rattle.sctp_association.proofs.First.{on_err}
use Rattle.sctp_association.proofs.Partly.{opens_err, opens_from}
use Rattle.sctp_association.proofs.inbound.Inbound.open_and_take.Goals as goal

pub returns-in_err-open_agreed-clause-received : goal.returns-in_err-open_agreed-clause-received
returns-in_err-open_agreed-clause-received c = opened_asked c.args.chunk.now _ _ c.open_agreed.ensures.received

pub returns-clause-received : goal.returns-clause-received
returns-clause-received c = received_then _ _ _ _ (opened_asked c.args.chunk.now _ _ c.open_agreed.ensures.received) c.take_on.ensures.received

pub returns-clause-tells : goal.returns-clause-tells
returns-clause-tells c = tells_after _ _ _ _ _ _ c.open_agreed.ensures.tells c.take_on.ensures.tells

pub returns-clause-handles : goal.returns-clause-handles
returns-clause-handles c to is =
    let chunk : ChunkPayloadData = c.args.chunk.now in
    let parts = usable_parts chunk.stream_identifier c.args.self.now (to_use chunk.stream_identifier c.args.self.now to) in
    let opened = c.in_ok-open_agreed.ensures in
    handles_opened chunk c.args.self.now c.open_agreed.new.self _ to (opened.opens refl)
    (opened.served refl (subst (λ (n : ℕ). chunk.stream_identifier < n) (sym opened.limits.1) parts.0) (opened.same chunk.stream_identifier ∙ parts.1))
    opened.limits.1 opened.same (c.take_on.ensures.handles is)

pub returns-clause-acks : goal.returns-clause-acks
returns-clause-acks c to is =
    let stream = c.args.chunk.now.stream_identifier in
    let opened = c.in_ok-open_agreed.ensures in
    acks_opened c.args.chunk.now c.args.now c.args.self.now c.open_agreed.new.self c.take_on.new.self to
    (opened.opens refl (to_use stream c.args.self.now to)) opened.acks (c.take_on.ensures.acks is)

pub returns-in_err-open_agreed-clause-notes : goal.returns-in_err-open_agreed-clause-notes
returns-in_err-open_agreed-clause-notes c to = notes_more _ _ _ _ _ _ (λ s p. absurd p) (λ s p. absurd p) c.in_err-open_agreed.ensures.notes

pub returns-clause-notes : goal.returns-clause-notes
returns-clause-notes c to =
    let chunk : ChunkPayloadData = c.args.chunk.now in
    let opens = c.in_ok-open_agreed.ensures.opens refl (to_use chunk.stream_identifier c.args.self.now to) in
    notes_after _ _ _ _ _ c.in_ok-open_agreed.ensures.notes
    (notes_more _ _ _ _ _ _ (λ s p. p)
    (λ s p. (p.0, ap (arrival_refusal chunk) (entered_opened chunk c.args.self.now c.open_agreed.new.self.receiver to opens) ∙ p.1)) c.take_on.ensures.notes)

-- the stream has a place once it is open
pub returns-clause-told : goal.returns-clause-told
returns-clause-told c to places is large =
    let s = c.args.chunk.now.stream_identifier in
    let opened = c.in_ok-open_agreed.ensures in
    let opens = opened.opens refl (to_use s c.args.self.now to) in
    let there = opened.tells.readable.places places s (open_now s _ _ opens) in
    c.take_on.ensures.told is (ap (arrival_refusal c.args.chunk.now) opens ∙ large) there.too_long

-- ## Where memory is wanting

pub returns-in_err-open_agreed-clause-cut : goal.returns-in_err-open_agreed-clause-cut
returns-in_err-open_agreed-clause-cut c = on_err _ (
    let e = c.in_err-open_agreed.ensures in
    opens_from _ _ _ _ _ e.received e.limits.1 e.same e.acks e.unknown e.tells e.notes)

pub returns-clause-cut : goal.returns-clause-cut
returns-clause-cut c =
    let e = c.in_ok-open_agreed.ensures in
    opens_err _ c.take_on.result c.args.self.now c.open_agreed.new.self _ c.args.events.now c.open_agreed.new.events _ c.take_on.ensures.err
    (opens_from _ _ _ _ _ e.received e.limits.1 e.same e.acks e.unknown e.tells e.notes)
