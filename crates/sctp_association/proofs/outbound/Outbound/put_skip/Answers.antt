use Rattle.sctp_association.specs.Most.{packets_in}
use Rattle.std.proofs.Common.{ℕ, ◌≡◌, ◌+◌, ◌*◌, ◌-◌, ◌≤◌, Option, ap, arith, inl, inr, length, refl, subst, sym, ◌∙◌}
use Rattle.std.proofs.lemmas.Bool.{false≢true, leb-false, leb-true}
use Rattle.std.specs.Prelude.{IfSome, is_some, not}
use Rattle.sctp_association.proofs.Leaving.{stands_put}
use Rattle.sctp_association.proofs.Skips.{skip_fits}
use Rattle.sctp_association.specs.Skips.{NoneFits}
use Rattle.sctp_data.specs.ForwardTsn.{forward_tsn_of}
use Rattle.sctp_data.specs.declared.chunk.chunk_forward_tsn.ChunkForwardTsn.{ChunkForwardTsn}
use Rattle.sctp_association.proofs.Fewer.{skip_less, fewer_same}
use Rattle.sctp_association.proofs.Making.{skip_put_where}
use Rattle.sctp_association.proofs.Putting.{nothing}
use Rattle.sctp_association.proofs.outbound.Outbound.put_skip.Goals as goal
use Rattle.sctp_association.proofs.outbound.Outbound.put_skip.Goals.{else-is_none-via-then-is_none+else-not-is_empty, else-is_none-via-else-is_none}

pub returns-then-not-self-clause-made : goal.returns-then-not-self-clause-made
returns-then-not-self-clause-made c = λ r. nothing _

pub returns-in_err-skip-clause-made : goal.returns-in_err-skip-clause-made
returns-in_err-skip-clause-made c = λ r. nothing _

pub returns-then-not-is_empty-clause-made : goal.returns-then-not-is_empty-clause-made
returns-then-not-is_empty-clause-made c = λ r. nothing _

pub returns-in_default-clause-made : goal.returns-in_default-clause-made
returns-in_default-clause-made c = λ r. nothing _

pub returns-in-Some-clause-made : goal.returns-in-Some-clause-made
returns-in-Some-clause-made c =
    skip_put_where c.args.self.now.is_skip_due c.room.result _ _ _ _ _ _ c.if-not-self.false c.in-Some.is c.in_ok-skip.ensures.past c.in_ok-skip.ensures.ended
    c.in_ok-skip.ensures.names c.put.ensures.added

pub returns-then-not-self-clause-fewer : goal.returns-then-not-self-clause-fewer
returns-then-not-self-clause-fewer c = fewer_same _ _ _ _ refl refl

pub returns-in_err-skip-clause-fewer : goal.returns-in_err-skip-clause-fewer
returns-in_err-skip-clause-fewer c = fewer_same _ _ _ _ refl refl

pub returns-then-not-is_empty-clause-fewer : goal.returns-then-not-is_empty-clause-fewer
returns-then-not-is_empty-clause-fewer c = fewer_same _ _ _ _ refl refl

pub returns-in_default-clause-fewer : goal.returns-in_default-clause-fewer
returns-in_default-clause-fewer c = skip_less c.args.self.now.is_skip_due (packets_in c.args.self.now.sender.flight.queue) _ _ c.if-not-self.false

pub returns-in-Some-clause-fewer : goal.returns-in-Some-clause-fewer
returns-in-Some-clause-fewer c = skip_less c.args.self.now.is_skip_due (packets_in c.args.self.now.sender.flight.queue) _ _ c.if-not-self.false

-- ## It is due no more, where nothing was put

pub returns-then-not-is_empty-clause-skip : goal.returns-then-not-is_empty-clause-skip
returns-then-not-is_empty-clause-skip c head short = absurd (omega (arith, short, leb-false _ 12 (sym c.is_empty.ensures ∙ c.if-not-is_empty.true)))

pub returns-then-not-self-clause-leaves : goal.returns-then-not-self-clause-leaves
returns-then-not-self-clause-leaves c _ due = inl due

pub returns-in_err-skip-clause-leaves : goal.returns-in_err-skip-clause-leaves
returns-in_err-skip-clause-leaves c _ due = inl due

pub returns-then-not-is_empty-clause-leaves : goal.returns-then-not-is_empty-clause-leaves
returns-then-not-is_empty-clause-leaves c _ due = inl due

pub returns-in_default-clause-leaves : goal.returns-in_default-clause-leaves
returns-in_default-clause-leaves c head due =
    let limit = c.args.packet.now.limit in
    let short : length c.args.packet.now.bytes ≤ 12 = elim c.else-is_none.branch [
      | else-is_none-via-then-is_none+else-not-is_empty w ↦ leb-true _ 12 (sym w.is_empty.ensures ∙ w.if-not-is_empty.false)
      | else-is_none-via-else-is_none w ↦ absurd (false≢true (sym (ap (λ (o : Option ChunkForwardTsn). is_some o) c.in_default.is) ∙ c.is_none.ensures
          ∙ ap not w.if-is_none.false))
    ] in
    let room : c.room.result ≡ limit - 12 = c.room.ensures.value ∙ ap (λ n. limit - n) (omega (arith, head, short)) in
    inr (inr (subst (λ (n : ℕ). NoneFits n c.args.self.now.sender) room (c.in_ok-skip.ensures.none c.in_default.is)))

pub returns-in-Some-clause-leaves : goal.returns-in-Some-clause-leaves
returns-in-Some-clause-leaves c head due =
    let fit = subst (λ (o : Option ChunkForwardTsn). IfSome o (λ k. 8 + 4 * length k.streams.items ≤ c.room.result)) c.in-Some.is c.in_ok-skip.ensures.fits in
    let room = skip_fits (forward_tsn_of c.in-Some.skip) (length c.args.packet.now.bytes) c.args.packet.now.limit c.room.result c.room.ensures.value fit
    c.room.ensures.most in
    inr (inl (forward_tsn_of c.in-Some.skip, stands_put c.put.result _ _ _ c.put.ensures.added (c.put.ensures.fits room.0 head room.1)))
