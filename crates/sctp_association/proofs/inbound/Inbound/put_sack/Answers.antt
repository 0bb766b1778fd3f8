use Rattle.sctp_association.proofs.Making.{sack_kept, sack_put}
use Rattle.sctp_association.proofs.Leaving.{stands_put}
use Rattle.sctp_association.proofs.Putting.{nothing}
use Rattle.sctp_association.proofs.inbound.Inbound.put_sack.Goals as goal
use Rattle.sctp_association.proofs.inbound.Inbound.put_sack.Goals.{else-not-is_waiting-via-then-not-is_waiting+else-not-is_due}
use Rattle.sctp_association.proofs.inbound.Inbound.put_sack.Goals.{else-not-is_waiting-via-else-not-is_waiting}
use Rattle.sctp_association.proofs.inbound.Inbound.put_sack.Goals.{else-has_data, then-has_data}
use Rattle.sctp_association.proofs.Making.{due_waits}
use Rattle.std.specs.Prelude.{is_some}
use Rattle.sctp_chunks.specs.Wire.{sack_chunk}
use Rattle.sctp_path.specs.Timers.{Delay}
use Rattle.std.proofs.Common.{◌≡◌, ℕ, ◌+◌, ◌*◌, ◌≤◌, Option, ap, arith, inr, length, max, sym, true, ◌∙◌}
use Rattle.std.proofs.lemmas.Bool.{false≢true}
use Rattle.sctp_association.proofs.Idle.{ok_is, sack_fits}
use Rattle.sctp_data.specs.declared.chunk.chunk_selective_ack.ChunkSelectiveAck.{ChunkSelectiveAck}
use Rattle.sctp_data.specs.SelectiveAck.{Sack, sack_of}

pub returns-then-not-is_due-clause-made : goal.returns-then-not-is_due-clause-made
returns-then-not-is_due-clause-made c = λ t. nothing _

pub returns-in_err-sack-clause-made : goal.returns-in_err-sack-clause-made
returns-in_err-sack-clause-made c = λ t. nothing _

pub returns-then-not-put-clause-made : goal.returns-then-not-put-clause-made
returns-then-not-put-clause-made c = sack_kept _ _ (sack_chunk (sack_of c.in_ok-sack.sack)) _ _ c.if-not-put.ensures.added

pub returns-clause-made : goal.returns-clause-made
returns-clause-made c =
    let waits : is_some c.args.self.now.delay.due ≡ true = elim c.else-not-is_waiting.branch [
      | else-not-is_waiting-via-then-not-is_waiting+else-not-is_due w ↦ due_waits c.args.now _ (sym w.is_due.ensures ∙ w.if-not-is_due.false)
      | else-not-is_waiting-via-else-not-is_waiting w ↦ elim c.if-has_data.branch [
        | then-has_data v ↦ ap (λ (o : Option ℕ). is_some o) (sym v.at.ensures) ∙ sym v.is_some-is_waiting.ensures ∙ sym v.is_waiting-is
            ∙ w.if-not-is_waiting.false
        | else-has_data v ↦ absurd (false≢true (sym v.if-has_data.false ∙ sym v.is_waiting-is ∙ w.if-not-is_waiting.false))
      ]
    ] in
    sack_put _ _ c.in_ok-sack.sack _ _ _ c.in_ok-sack.ensures.sack _ (is_some c.args.self.now.delay.due) (is_some c.sent.new.self.due) c.sack_sent.ensures waits
    (ap (λ (d : Delay). is_some d.due) c.sent.ensures) c.if-not-put.ensures.added

abbrev entries : ChunkSelectiveAck → ℕ
entries s = length s.gap_ack_blocks.items + length s.duplicate_tsn.items

pub returns-then-not-put-clause-idle : goal.returns-then-not-put-clause-idle
returns-then-not-put-clause-idle c head short =
    let fit = ok_is (λ (s : ChunkSelectiveAck). 16 + 4 * entries s ≤ max 16 c.room.result) _ c.in_ok-sack.sack c.in_ok-sack.was c.make_sack.ensures.fits in
    let few = ok_is (λ (s : ChunkSelectiveAck). entries s ≤ 16379) _ c.in_ok-sack.sack c.in_ok-sack.was c.make_sack.ensures.fits_chunk in
    let h = sack_fits (sack_of c.in_ok-sack.sack) (length c.args.packet.now.bytes) c.args.packet.now.limit (omega (arith, fit, c.room.ensures.value)) few
    (omega (arith, short, c.put.ensures.grows)) (omega (arith, c.room.ensures.least)) in
    absurd (false≢true (sym c.if-not-put.true ∙ c.put.ensures.fits h.0 head h.1))

-- ## What waits

pub returns-clause-leaves : goal.returns-clause-leaves
returns-clause-leaves c = λ _. inr (
  sack_of c.in_ok-sack.sack,
  ap (λ (s : Sack). s.cumulative_tsn_ack) c.in_ok-sack.ensures.sack,
  stands_put c.put.result _ _ _ c.put.ensures.added c.if-not-put.false,
)
