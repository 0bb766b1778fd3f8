use Rattle.sctp_association.proofs.Noting.{same_streams, tells_in, tells_no_more, tells_opened, tells_same}
use Rattle.std.proofs.Common.{ap, refl}
use Rattle.sctp_association.proofs.Arriving.{received_opened, received_same}
use Rattle.sctp_association.proofs.Brought.{notes_none}
use Rattle.sctp_association.proofs.inbound.Inbound.open_agreed.Goals as goal
use Rattle.sctp_receiver.specs.Receiver.{Reception}
use Rattle.sctp_association.proofs.Named.{open_now, open_still}

pub returns-then-stream-self-clause-received : goal.returns-then-stream-self-clause-received
returns-then-stream-self-clause-received c = received_same _ _ _ refl

pub returns-in_err-reserve_inbound-clause-received : goal.returns-in_err-reserve_inbound-clause-received
returns-in_err-reserve_inbound-clause-received c = received_same _ _ _ refl

pub returns-in_err-reserve-clause-received : goal.returns-in_err-reserve-clause-received
returns-in_err-reserve-clause-received c = received_same _ _ _ refl

pub returns-in_err-open-clause-received : goal.returns-in_err-open-clause-received
returns-in_err-open-clause-received c = received_same _ _ _ c.in_err-open.ensures.err

pub returns-clause-received : goal.returns-clause-received
returns-clause-received c = received_opened _ _ _ (c.in_ok-open.ensures.accepted refl) c.in_ok-open.ensures.ok

pub returns-clause-served : goal.returns-clause-served
returns-clause-served c = λ ok few shut. open_now _ _ _ c.in_ok-open.ensures.ok

pub returns-clause-still : goal.returns-clause-still
returns-clause-still c = open_still _ _ _ c.in_ok-open.ensures.ok

pub returns-then-stream-self-clause-tells : goal.returns-then-stream-self-clause-tells
returns-then-stream-self-clause-tells c = tells_same _ _

pub returns-in_err-reserve_inbound-clause-tells : goal.returns-in_err-reserve_inbound-clause-tells
returns-in_err-reserve_inbound-clause-tells c =
    let e = c.in_err-reserve_inbound.ensures in
    tells_in _ _ _ _ (tells_no_more _ _ _ _ e.kept e.room e.readable (same_streams _ _ refl))

pub returns-in_err-reserve-clause-tells : goal.returns-in_err-reserve-clause-tells
returns-in_err-reserve-clause-tells c =
    let e = c.in_ok-reserve_inbound.ensures in
    tells_in _ _ _ _ (tells_no_more _ _ _ _ e.kept e.room e.readable (same_streams _ _ refl))

pub returns-in_err-open-clause-tells : goal.returns-in_err-open-clause-tells
returns-in_err-open-clause-tells c =
    let e = c.in_ok-reserve_inbound.ensures in
    tells_in _ _ _ _ (tells_no_more _ _ _ _ e.kept e.room e.readable (same_streams _ _ (ap (λ (r : Reception). r.streams) c.in_err-open.ensures.err)))

pub returns-clause-tells : goal.returns-clause-tells
returns-clause-tells c =
    let e = c.in_ok-reserve_inbound.ensures in
    tells_in _ _ _ _ (tells_opened _ _ _ _ _ e.kept e.room e.readable e.place c.in_ok-open.ensures.ok)

pub returns-then-stream-self-clause-notes : goal.returns-then-stream-self-clause-notes
returns-then-stream-self-clause-notes c = notes_none _ _ _ _ refl

pub returns-in_err-reserve_inbound-clause-notes : goal.returns-in_err-reserve_inbound-clause-notes
returns-in_err-reserve_inbound-clause-notes c = c.in_err-reserve_inbound.ensures.notes

pub returns-in_err-reserve-clause-notes : goal.returns-in_err-reserve-clause-notes
returns-in_err-reserve-clause-notes c = c.in_ok-reserve_inbound.ensures.notes

pub returns-in_err-open-clause-notes : goal.returns-in_err-open-clause-notes
returns-in_err-open-clause-notes c = c.in_ok-reserve_inbound.ensures.notes

pub returns-clause-notes : goal.returns-clause-notes
returns-clause-notes c = c.in_ok-reserve_inbound.ensures.notes
