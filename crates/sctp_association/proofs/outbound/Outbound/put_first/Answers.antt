use Rattle.sctp_association.specs.declared.outbound.Outbound.{Outbound}
use Rattle.std.proofs.Common.{ap, arith, inl, inr, refl, sym, ◌∙◌}
use Rattle.sctp_association.proofs.Congested.{marked_first}
use Rattle.sctp_association.proofs.Idle.{data_is_put, data_put, resent_fits}
use Rattle.sctp_association.proofs.Making.{again_put, none-of, none_again}
use Rattle.sctp_association.specs.Leaving.{one_where}
use Rattle.sctp_association.proofs.Left.{again_none, again_fewer}
use Rattle.sctp_association.proofs.Fewer.{data_same, fewer_same, fewer_to}
use Rattle.sctp_association.proofs.Putting.{kept, to_same}
use Rattle.sctp_association.proofs.outbound.Outbound.put_first.Goals as goal
use Rattle.sctp_association.specs.Congested.{path_of}
use Rattle.sctp_sender.specs.Sender.{Transmission}

pub returns-in_err-chunk-clause-made : goal.returns-in_err-chunk-clause-made
returns-in_err-chunk-clause-made c = kept _ _ _ _ c.in_err-chunk.ensures.err refl

pub returns-in_default-clause-made : goal.returns-in_default-clause-made
returns-in_default-clause-made c =
    none_again c.args.now c.room.result _ _ _ _ c.in_default.is c.in_ok-chunk.ensures.answer c.in_ok-chunk.ensures.none

pub returns-clause-made : goal.returns-clause-made
returns-clause-made c = to_same _ _ _ _ _ (ap (λ o. o.sender) c.stop_where_first.ensures.rest) (
    again_put c.args.now c.room.result c.in-Some.chunk _ c.args.self.now.sender c.resend_next.new.self _ _
    (data_is_put c.in-Some.chunk c.room.result _ _ c.put.result
    (resent_fits c.args.now c.room.result c.args.self.now.sender.flight c.in-Some.chunk (sym c.in-Some.is ∙ c.in_ok-chunk.ensures.answer))
    c.room.ensures.value c.room.ensures.most c.put.ensures.fits)
    (sym c.in-Some.is ∙ c.in_ok-chunk.ensures.answer)
    c.in_ok-chunk.ensures.ok c.in_ok-chunk.ensures.marked c.put.ensures.added
    )

pub returns-clause-put : goal.returns-clause-put
returns-clause-put c head _ = data_put c.in-Some.chunk c.room.result _ _ _ c.put.result
    (resent_fits c.args.now c.room.result c.args.self.now.sender.flight c.in-Some.chunk (sym c.in-Some.is ∙ c.in_ok-chunk.ensures.answer))
    c.room.ensures.value c.room.ensures.most c.put.ensures.fits c.put.ensures.put head

pub returns-in_default-clause-again : goal.returns-in_default-clause-again
returns-in_default-clause-again c = inl (ap (λ (t : Transmission). path_of (record c.args.self.now { sender = t }))
    (c.in_ok-chunk.ensures.none (none-of _ _ (sym c.in_default.is ∙ c.in_ok-chunk.ensures.answer))))

pub returns-clause-again : goal.returns-clause-again
returns-clause-again c =
    let (d, found, exact) = marked_first c.args.now c.room.result c.args.self.now.sender c.resend_next.new.self c.in-Some.chunk _
    (sym c.in-Some.is ∙ c.in_ok-chunk.ensures.answer) c.in_ok-chunk.ensures.ok in
    inr (refl, record { chunk = d; marked = found; after = ap path_of c.stop_where_first.ensures.rest ∙ grind (arith, exact, c.sent_again.ensures) })

-- ## What can still leave

pub returns-in_err-chunk-clause-fewer : goal.returns-in_err-chunk-clause-fewer
returns-in_err-chunk-clause-fewer c = fewer_same _ _ _ _
    (data_same c.args.self.now (record c.args.self.now { sender = c.resend_next.new.self }) c.in_err-chunk.ensures.err refl) refl

pub returns-in_default-clause-fewer : goal.returns-in_default-clause-fewer
returns-in_default-clause-fewer c = fewer_same _ _ _ _ (
    data_same c.args.self.now (record c.args.self.now { sender = c.resend_next.new.self })
    (again_none c.args.now c.room.result c.args.self.now.sender c.resend_next.new.self _ c.in_default.is c.in_ok-chunk.ensures.answer
    c.in_ok-chunk.ensures.none) refl
    ) refl

pub returns-clause-fewer : goal.returns-clause-fewer
returns-clause-fewer c =
    let again = again_fewer _ (one_where c.args.self.now.is_skip_due) c.args.now c.room.result c.args.self.now.sender c.resend_next.new.self c.in-Some.chunk
    c.args.packet.now.bytes c.put.new.self.bytes
    (sym c.in-Some.is ∙ c.in_ok-chunk.ensures.answer) c.in_ok-chunk.ensures.ok c.in_ok-chunk.ensures.marked in
    fewer_to _ _ _ _ _ (data_same (record c.args.self.now { sender = c.resend_next.new.self }) c.stop_where_first.new.self
    (ap (λ (o : Outbound). o.sender) c.stop_where_first.ensures.rest) (ap (λ (o : Outbound). o.is_skip_due) c.stop_where_first.ensures.rest)) again
