use Rattle.sctp_association.proofs.Noting.{apart_of, inbound_kept, stays_put, tells_closed, tells_dropped, tells_in, tells_streams}
use Rattle.sctp_association.specs.declared.event.Events.{Events}
use Rattle.std.proofs.Common.{Some, ap, arith, inl, inr, refl, sym, ◌∙◌}
use Rattle.sctp_association.proofs.Coming.{closed_came}
use Rattle.sctp_association.proofs.Entering.{only_too_large, only_unknown, usable_but}
use Rattle.sctp_association.specs.Entering.{IsTooLong}
use Rattle.sctp_data.specs.declared.chunk.chunk_payload_data.ChunkPayloadData.{ChunkPayloadData}
use Rattle.sctp_receiver.specs.declared.receiver.refusal.ReceiverRefusal.{ReceiverRefusal}
use Rattle.sctp_receiver.specs.Receiver.{close_stream}
use Rattle.sctp_association.specs.declared.inbound.Inbound.{Inbound}
use Rattle.sctp_association.proofs.Brought.{adds_one, adds_out, notes_long, notes_none}
use Rattle.sctp_association.proofs.inbound.Inbound.follow.Goals as goal
use Rattle.sctp_association.proofs.inbound.Inbound.follow.Goals.{in-Drop, in-CloseAndDiscard+in_ok-discard-in-CloseAndDiscard}
use Rattle.sctp_association.proofs.inbound.Inbound.follow.Goals.{in-OpenOrDiscard+in_ok-discard-in-OpenOrDiscard+then-not-contains}
use Rattle.sctp_association.proofs.inbound.Inbound.follow.Goals.{in-OpenOrDiscard+in_ok-discard-in-OpenOrDiscard+else-not-contains}

-- what is discarded has come, also where its stream is closed
pub returns-clause-takes : goal.returns-clause-takes
returns-clause-takes c why is = elim c.match-advise.branch [
  | in-Drop w ↦ rw w.self-is (inr (record { refusal = c.args.refusal; refused = why; advised = sym c.advise.ensures ∙ w.in-Drop.is }))
  | in-OpenOrDiscard+in_ok-discard-in-OpenOrDiscard+then-not-contains w ↦ rw w.self-is (inl (w.in_ok-discard-in-OpenOrDiscard.ensures.came refl))
  | in-OpenOrDiscard+in_ok-discard-in-OpenOrDiscard+else-not-contains w ↦ rw w.self-is (inl (w.in_ok-discard-in-OpenOrDiscard.ensures.came refl))
  | in-CloseAndDiscard+in_ok-discard-in-CloseAndDiscard w ↦
      rw w.self-is (inl (closed_came _ c.args.chunk.now.stream_identifier w.discard-in-CloseAndDiscard.new.self _ w.close.ensures
      (w.in_ok-discard-in-CloseAndDiscard.ensures.came refl)))
]

-- what is closed is too long
pub returns-clause-handles : goal.returns-clause-handles
returns-clause-handles c why is = elim c.match-advise.branch [
  | in-Drop w ↦ rw w.self-is (
    λ known. inr (record { dropped = record { refusal = c.args.refusal; refused = why; advised = sym c.advise.ensures ∙ w.in-Drop.is }; same = refl }),
    λ s usable. inl usable,
  )
  | in-OpenOrDiscard+in_ok-discard-in-OpenOrDiscard+then-not-contains w ↦ rw w.self-is (
    λ known. absurd (known (only_unknown c.args.chunk.now c.args.self.now.receiver c.args.refusal (sym c.advise.ensures ∙ w.in-OpenOrDiscard.is))),
    λ s usable. inl usable,
  )
  | in-OpenOrDiscard+in_ok-discard-in-OpenOrDiscard+else-not-contains w ↦ rw w.self-is (
    λ known. absurd (known (only_unknown c.args.chunk.now c.args.self.now.receiver c.args.refusal (sym c.advise.ensures ∙ w.in-OpenOrDiscard.is))),
    λ s usable. inl usable,
  )
  | in-CloseAndDiscard+in_ok-discard-in-CloseAndDiscard w ↦
      let i : Inbound = c.args.self.now in
      let chunk : ChunkPayloadData = c.args.chunk.now in
      let large = only_too_large chunk i.receiver c.args.refusal (sym c.advise.ensures ∙ w.in-CloseAndDiscard.is) in
      let long : IsTooLong chunk i.receiver w.close.new.self = record {
        refused = why ∙ ap (λ (x : ReceiverRefusal). Some x) large;
        closed = w.close.ensures ∙ ap (close_stream chunk.stream_identifier) w.in_ok-discard-in-CloseAndDiscard.ensures.ok;
      } in
      rw w.self-is (
        λ known. inl long,
        λ s usable. usable_but chunk.stream_identifier s i w.insert.new.self _ w.insert.ensures.value w.insert.ensures.full long usable,
      )
]

pub returns-clause-tells : goal.returns-clause-tells
returns-clause-tells c =
    let e : Events = c.args.events.now in
    let i = c.args.self.now in
    tells_in _ _ _ _ (elim c.match-advise.branch [
      | in-Drop w ↦ rw (w.self-is, w.events-is) (tells_streams _ _ _ refl)
      | in-OpenOrDiscard+in_ok-discard-in-OpenOrDiscard+then-not-contains w ↦
          rw (w.self-is, w.events-is) (tells_dropped _ _ _ _ w.in_ok-discard-in-OpenOrDiscard.ensures.ok)
      | in-OpenOrDiscard+in_ok-discard-in-OpenOrDiscard+else-not-contains w ↦
          rw (w.self-is, w.events-is) (tells_dropped _ _ _ _ w.in_ok-discard-in-OpenOrDiscard.ensures.ok)
      | in-CloseAndDiscard+in_ok-discard-in-CloseAndDiscard w ↦
          rw (w.self-is, w.events-is) (tells_closed _ _ _ _ _ _ _ (apart_of i.streams i.receiver i.limited)
          w.in_ok-discard-in-CloseAndDiscard.ensures.ok w.close.ensures
          (inbound_kept e w.remove.new.self w.insert-in-CloseAndDiscard.new.self e.reset_by_peer
          (stays_put _ _ _ w.insert-in-CloseAndDiscard.ensures.value w.insert-in-CloseAndDiscard.ensures.full) (λ n h. h)
          (omega (arith, w.remove.ensures.room)) (omega (arith, w.insert-in-CloseAndDiscard.ensures.room)) (omega arith))
          w.remove.ensures.room w.remove.ensures.value)
    ])

-- what is too long is noted, and no message of its stream can be read
pub returns-clause-notes : goal.returns-clause-notes
returns-clause-notes c why =
    let e : Events = c.args.events.now in
    let chunk : ChunkPayloadData = c.args.chunk.now in
    elim c.match-advise.branch [
      | in-Drop w ↦ rw w.events-is (notes_none _ _ _ _ refl)
      | in-OpenOrDiscard+in_ok-discard-in-OpenOrDiscard+then-not-contains w ↦ rw w.events-is (notes_none _ _ _ _ refl)
      | in-OpenOrDiscard+in_ok-discard-in-OpenOrDiscard+else-not-contains w ↦ rw w.events-is (notes_none _ _ _ _ refl)
      | in-CloseAndDiscard+in_ok-discard-in-CloseAndDiscard w ↦
          let large = only_too_large chunk c.args.self.now.receiver c.args.refusal (sym c.advise.ensures ∙ w.in-CloseAndDiscard.is) in
          rw w.events-is (notes_long _ _ e w.remove.new.self w.insert-in-CloseAndDiscard.new.self
          (adds_out _ chunk.stream_identifier e.readable w.remove.new.self w.remove.ensures.value)
          (adds_one _ chunk.stream_identifier e.too_long w.insert-in-CloseAndDiscard.new.self
          (refl, why ∙ ap (λ (x : ReceiverRefusal). Some x) large)
          w.insert-in-CloseAndDiscard.ensures.value w.insert-in-CloseAndDiscard.ensures.full))
    ]
