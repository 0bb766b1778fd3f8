use Rattle.sctp_association.proofs.Noting.{all_kept, inbound_kept, put_there, stays_put, tells_data, tells_in}
use Rattle.sctp_association.specs.declared.event.Events.{Events}
use Rattle.sctp_receiver.specs.Receiver.{message_on}
use Rattle.std.specs.Prelude.{is_some}
use Rattle.std.proofs.lemmas.Bool.{false≢true}
use Rattle.sctp_association.proofs.inbound.Inbound.take_on.Goals.{else-complete-via-then-complete+then-not-contains+else-is_readable}
use Rattle.sctp_association.proofs.inbound.Inbound.take_on.Goals.{else-complete-via-then-complete+else-not-contains, else-complete-via-else-complete}
use Rattle.std.proofs.Common.{ap, arith, inl, refl, rules, sym, ◌<◌, ◌^◌, ◌∙◌}
use Rattle.sctp_association.proofs.Arriving.{received_data, received_same, received_then}
use Rattle.std.proofs.Common.{true, ◌≡◌}
use Rattle.sctp_association.proofs.Brought.{adds_one, notes_more, notes_none, notes_read}
use Rattle.sctp_association.proofs.inbound.Inbound.take_on.Goals as goal
use Rattle.std.specs.Prelude.{IsOk}
use Rattle.sctp_association.proofs.Coming.{on_ok, refused_for}
use Rattle.sctp_association.proofs.TooLong.{err_same, same_receiver, same_refusal}
use Rattle.sctp_association.proofs.Entering.{handled_entered, handled_refused}
use Rattle.sctp_data.specs.declared.chunk.chunk_payload_data.ChunkPayloadData.{ChunkPayloadData}
use Rattle.sctp_association.specs.declared.inbound.Inbound.{Inbound}
use Rattle.sctp_receiver.specs.Receiver.{arrival_refusal, filter_of}
use Rattle.sctp_receiver.specs.TsnFilter.{has_come}
use Rattle.sctp_association.proofs.Reaching.{data_led}

pub invariant_of-self : goal.invariant_of-self
invariant_of-self c =
    let fits : c.args.chunk.now.tsn < 2 ^ 32 = search rules in
    record { limited = data_led _ _ _ _ _ fits c.requires.short c.data.ensures c.args.self.now.limited }

pub returns-then-is_readable-clause-received : goal.returns-then-is_readable-clause-received
returns-then-is_readable-clause-received c =
    let fits : c.args.chunk.now.tsn < 2 ^ 32 = search rules in
    received_then _ _ _ _ (received_data c.args.chunk.now _ _ _ fits c.data.ensures) (received_same _ _ _ (ap (λ i. i.receiver) c.note_data.ensures))

pub returns-else-complete-clause-received : goal.returns-else-complete-clause-received
returns-else-complete-clause-received c =
    let fits : c.args.chunk.now.tsn < 2 ^ 32 = search rules in
    received_then _ _ _ _ (received_data c.args.chunk.now _ _ _ fits c.data.ensures) (received_same _ _ _ (ap (λ i. i.receiver) c.note_data.ensures))

pub returns-in-Ok-Repeat-clause-received : goal.returns-in-Ok-Repeat-clause-received
returns-in-Ok-Repeat-clause-received c =
    let fits : c.args.chunk.now.tsn < 2 ^ 32 = search rules in
    received_then _ _ _ _ (received_data c.args.chunk.now _ _ _ fits c.data.ensures)
    (received_same _ _ _ (ap (λ i. i.receiver) c.note_data-in-Ok-Repeat.ensures))

pub returns-in-OutOfMemory-clause-received : goal.returns-in-OutOfMemory-clause-received
returns-in-OutOfMemory-clause-received c =
    let fits : c.args.chunk.now.tsn < 2 ^ 32 = search rules in
    received_data c.args.chunk.now _ _ _ fits c.data.ensures

pub returns-in_default-clause-received : goal.returns-in_default-clause-received
returns-in_default-clause-received c =
    let fits : c.args.chunk.now.tsn < 2 ^ 32 = search rules in
    received_then _ _ _ _ (received_data c.args.chunk.now _ _ _ fits c.data.ensures) c.follow.ensures.received

pub returns-then-is_readable-clause-takes : goal.returns-then-is_readable-clause-takes
returns-then-is_readable-clause-takes c is =
    let ok : IsOk c.data.result = search rules in
    inl (ap (λ (i : Inbound). has_come c.args.chunk.now.tsn (filter_of i.receiver)) c.note_data.ensures ∙ c.data.ensures.came ok)

pub returns-else-complete-clause-takes : goal.returns-else-complete-clause-takes
returns-else-complete-clause-takes c is =
    let ok : IsOk c.data.result = search rules in
    inl (ap (λ (i : Inbound). has_come c.args.chunk.now.tsn (filter_of i.receiver)) c.note_data.ensures ∙ c.data.ensures.came ok)

pub returns-in-Ok-Repeat-clause-takes : goal.returns-in-Ok-Repeat-clause-takes
returns-in-Ok-Repeat-clause-takes c is =
    let ok : IsOk c.data.result = search rules in
    inl (ap (λ (i : Inbound). has_come c.args.chunk.now.tsn (filter_of i.receiver)) c.note_data-in-Ok-Repeat.ensures ∙ c.data.ensures.came ok)

pub returns-in_default-clause-takes : goal.returns-in_default-clause-takes
returns-in_default-clause-takes c is =
    let why = ap (arrival_refusal c.args.chunk.now) c.in-Err.ensures.err ∙ refused_for _ _ c.in_default.not-OutOfMemory c.in-Err.ensures.refused in
    c.follow.ensures.takes why is

pub returns-then-is_readable-clause-handles : goal.returns-then-is_readable-clause-handles
returns-then-is_readable-clause-handles c is =
    let fits : c.args.chunk.now.tsn < 2 ^ 32 = search rules in
    let note = c.note_data.ensures in
    handled_entered c.args.chunk.now c.args.self.now _ _ _ _ fits c.in-Ok-New.is c.data.ensures (ap (λ (i : Inbound). i.receiver) note)
    (ap (λ (i : Inbound). i.streams) note) (ap (λ (i : Inbound). i.discarded) note)

pub returns-else-complete-clause-handles : goal.returns-else-complete-clause-handles
returns-else-complete-clause-handles c is =
    let fits : c.args.chunk.now.tsn < 2 ^ 32 = search rules in
    let note = c.note_data.ensures in
    handled_entered c.args.chunk.now c.args.self.now _ _ _ _ fits c.in-Ok-New.is c.data.ensures (ap (λ (i : Inbound). i.receiver) note)
    (ap (λ (i : Inbound). i.streams) note) (ap (λ (i : Inbound). i.discarded) note)

pub returns-in-Ok-Repeat-clause-handles : goal.returns-in-Ok-Repeat-clause-handles
returns-in-Ok-Repeat-clause-handles c is =
    let fits : c.args.chunk.now.tsn < 2 ^ 32 = search rules in
    let note = c.note_data-in-Ok-Repeat.ensures in
    handled_entered c.args.chunk.now c.args.self.now _ _ _ _ fits c.in-Ok-Repeat.is c.data.ensures (ap (λ (i : Inbound). i.receiver) note)
    (ap (λ (i : Inbound). i.streams) note) (ap (λ (i : Inbound). i.discarded) note)

pub returns-in_default-clause-handles : goal.returns-in_default-clause-handles
returns-in_default-clause-handles c is =
    let i : Inbound = c.args.self.now in
    let chunk : ChunkPayloadData = c.args.chunk.now in
    let refused = refused_for _ _ c.in_default.not-OutOfMemory c.in-Err.ensures.refused in
    let why = ap (arrival_refusal chunk) c.in-Err.ensures.err ∙ refused in
    let handled = c.follow.ensures.handles why is in
    handled_refused _ chunk i _ _ refused c.in-Err.ensures.err handled.0 handled.1

pub returns-then-is_readable-clause-tells : goal.returns-then-is_readable-clause-tells
returns-then-is_readable-clause-tells c =
    let s = c.args.chunk.now.stream_identifier in
    let e : Events = c.args.events.now in
    let put = c.insert.ensures in
    tells_in _ _ _ _ (tells_data c.args.chunk.now _ _ _ e _ _ c.data.ensures (ap (λ (i : Inbound). i.receiver) c.note_data.ensures)
    (inbound_kept e c.insert.new.self e.too_long e.reset_by_peer (λ n h. h) (λ n h. h) (omega (arith, put.room)) (omega arith) (omega arith)) put.room
    (stays_put s e.readable c.insert.new.self put.value put.full)
    (λ is m lt. put_there s e.readable c.insert.new.self put.value lt))

pub returns-else-complete-clause-tells : goal.returns-else-complete-clause-tells
returns-else-complete-clause-tells c =
    let s = c.args.chunk.now.stream_identifier in
    let e : Events = c.args.events.now in
    let same = ap (λ (i : Inbound). i.receiver) c.note_data.ensures in
    tells_in _ _ _ _ (tells_data c.args.chunk.now _ _ _ e e _ c.data.ensures same (all_kept e) refl (λ n h. h) (λ is m lt.
    elim c.else-complete.branch [
      | else-complete-via-then-complete+then-not-contains+else-is_readable w ↦
          absurd (false≢true (w.if-is_readable.ensures ∙ ap (λ r. is_some (message_on s r)) same ∙ m))
      | else-complete-via-then-complete+else-not-contains w ↦ sym w.if-not-contains.ensures
      | else-complete-via-else-complete w ↦ cc (is, c.in-Ok-New.is, c.in-Ok-New.field-0-is, w.if-complete.false)
    ]))

-- ## What is noted

pub returns-then-is_readable-clause-notes : goal.returns-then-is_readable-clause-notes
returns-then-is_readable-clause-notes c =
    let s = c.args.chunk.now.stream_identifier in
    let e : Events = c.args.events.now in
    let there : is_some (message_on s c.note_data.new.self.receiver) ≡ true = search rules in
    notes_read _ _ e c.insert.new.self (adds_one _ s e.readable c.insert.new.self (refl, there) c.insert.ensures.value c.insert.ensures.full)

pub returns-else-complete-clause-notes : goal.returns-else-complete-clause-notes
returns-else-complete-clause-notes c = notes_none _ _ _ _ refl

pub returns-in-Ok-Repeat-clause-notes : goal.returns-in-Ok-Repeat-clause-notes
returns-in-Ok-Repeat-clause-notes c = notes_none _ _ _ _ refl

pub returns-in-OutOfMemory-clause-notes : goal.returns-in-OutOfMemory-clause-notes
returns-in-OutOfMemory-clause-notes c = notes_none _ _ _ _ refl

pub returns-in_default-clause-notes : goal.returns-in_default-clause-notes
returns-in_default-clause-notes c =
    let chunk : ChunkPayloadData = c.args.chunk.now in
    let same = ap (arrival_refusal chunk) c.in-Err.ensures.err in
    let why = same ∙ refused_for _ _ c.in_default.not-OutOfMemory c.in-Err.ensures.refused in
    notes_more _ _ _ _ _ _ (λ s p. absurd p) (λ s p. (p.0, sym same ∙ p.1)) (c.follow.ensures.notes why)

-- ## A message that is too long

pub returns-in_default-clause-told : goal.returns-in_default-clause-told
returns-in_default-clause-told c is large lt =
    let why = ap (arrival_refusal c.args.chunk.now) c.in-Err.ensures.err ∙ refused_for _ _ c.in_default.not-OutOfMemory c.in-Err.ensures.refused in
    on_ok _ _ is (c.follow.ensures.told (same_refusal _ _ (sym why ∙ ap (arrival_refusal c.args.chunk.now) c.in-Err.ensures.err ∙ large))) lt

pub returns-in_default-clause-err : goal.returns-in_default-clause-err
returns-in_default-clause-err c =
    err_same c.follow.result _ c.args.self.now _ _ _ c.follow.ensures.err (same_receiver c.args.self.now c.data.new.self _ c.in-Err.ensures.err)
