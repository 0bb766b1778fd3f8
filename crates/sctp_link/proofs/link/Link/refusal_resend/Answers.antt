use Rattle.sctp_link.proofs.Names.{ap, sym, ◌∙◌, ◌≡◌, ◌%◌, ◌+◌, ◌-◌, ◌<◌, ◌^◌, not, length, None, arith, length-mapped, is_cleared, unless, NotInFlight}
use Rattle.sctp_link.proofs.Names.{record_in, slot_record}
use Rattle.sctp_model.proofs.refinement.sending.Resending.{can-resend}
use Rattle.sctp_link.proofs.link.Link.refusal_resend.Goals as goal

pub is_cleared-requires : goal.is_cleared-requires
is_cleared-requires g c = rw (← c.self.view_is) (omega (arith, c.if-place-len.false, c.len.ensures, length-mapped slot_record c.self.inside.slots.items))

pub returns : goal.returns
returns g c =
    let w = record_in c.self.inside in
    let p = (c.args.tsn + (2 ^ 32 - c.self.inside.first_tsn)) % 2 ^ 32 in
    let lt : p < length w.slots = omega (arith, c.if-place-len.false, c.len.ensures, length-mapped slot_record c.self.inside.slots.items) in
    let answered : c.is_cleared.result ≡ is_cleared w p = rw (← c.self.view_is) at c.is_cleared.ensures in
    rw (← c.self.view_is)
    (sym (ap (λ b. unless b NotInFlight None) (can-resend w p c.if-place-self.false lt ∙ ap not (sym answered) ∙ ap not c.if-is_cleared.false)))
