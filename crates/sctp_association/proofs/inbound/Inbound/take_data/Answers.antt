use Rattle.sctp_association.proofs.AcksOn.{acks_unopened}
use Rattle.sctp_association.proofs.Noting.{tells_same}
use Rattle.std.proofs.Common.{refl, rules, false, ◌≡◌}
use Rattle.sctp_association.proofs.Entering.{handles_open}
use Rattle.sctp_association.specs.Served.{is_to_open}
use Rattle.sctp_association.proofs.Arriving.{received_same}
use Rattle.std.proofs.Common.{ap, sym, true, ◌∙◌}
use Rattle.sctp_association.proofs.TooLong.{entered_opened, entered_unopened, large_open}
use Rattle.sctp_association.specs.declared.inbound.Inbound.{Inbound}
use Rattle.sctp_data.specs.declared.chunk.chunk_payload_data.ChunkPayloadData.{ChunkPayloadData}
use Rattle.sctp_receiver.specs.Receiver.{arrival_refusal, open_stream}
use Rattle.sctp_association.proofs.Brought.{notes_more, notes_none}
use Rattle.sctp_association.proofs.inbound.Inbound.take_data.Goals as goal

pub returns-then-is_empty-clause-received : goal.returns-then-is_empty-clause-received
returns-then-is_empty-clause-received c = received_same _ _ _ refl

pub returns-then-is_empty-clause-tells : goal.returns-then-is_empty-clause-tells
returns-then-is_empty-clause-tells c = tells_same _ _

pub returns-then-not-is_to_open-clause-handles : goal.returns-then-not-is_to_open-clause-handles
returns-then-not-is_to_open-clause-handles c is =
    let shut : is_to_open c.args.chunk.now.stream_identifier c.args.self.now ≡ false = search rules in
    handles_open c.args.chunk.now c.args.self.now c.take_on.new.self shut (c.take_on.ensures.handles is)

pub returns-then-not-is_to_open-clause-acks : goal.returns-then-not-is_to_open-clause-acks
returns-then-not-is_to_open-clause-acks c is =
    let shut : is_to_open c.args.chunk.now.stream_identifier c.args.self.now ≡ false = search rules in
    acks_unopened c.args.chunk.now c.args.now c.args.self.now c.take_on.new.self shut (c.take_on.ensures.acks is)

pub returns-then-is_empty-clause-notes : goal.returns-then-is_empty-clause-notes
returns-then-is_empty-clause-notes c = notes_none _ _ _ _ refl

pub returns-then-not-is_to_open-clause-notes : goal.returns-then-not-is_to_open-clause-notes
returns-then-not-is_to_open-clause-notes c =
    let shut : is_to_open c.args.chunk.now.stream_identifier c.args.self.now ≡ false = search rules in
    notes_more _ _ _ _ _ _ (λ s p. p)
    (λ s p. (p.0, ap (arrival_refusal c.args.chunk.now) (entered_unopened c.args.chunk.now c.args.self.now shut) ∙ p.1)) c.take_on.ensures.notes

-- ## A message that is too long

pub returns-then-not-is_to_open-clause-told : goal.returns-then-not-is_to_open-clause-told
returns-then-not-is_to_open-clause-told c places is large =
    let chunk : ChunkPayloadData = c.args.chunk.now in
    let i : Inbound = c.args.self.now in
    let shut : is_to_open chunk.stream_identifier i ≡ false = search rules in
    let own = sym (ap (arrival_refusal chunk) (entered_unopened chunk i shut)) ∙ large in
    let there = places chunk.stream_identifier (large_open chunk i.receiver own) in
    c.take_on.ensures.told is own there.too_long

pub returns-in-Ok-clause-told : goal.returns-in-Ok-clause-told
returns-in-Ok-clause-told c places is large =
    let chunk : ChunkPayloadData = c.args.chunk.now in
    let i : Inbound = c.args.self.now in
    let on : is_to_open chunk.stream_identifier i ≡ true = search rules in
    c.open_and_take.ensures.told on places (search rules)
    (sym (ap (arrival_refusal chunk) (entered_opened chunk i (open_stream chunk.stream_identifier i.receiver) on refl)) ∙ large)
