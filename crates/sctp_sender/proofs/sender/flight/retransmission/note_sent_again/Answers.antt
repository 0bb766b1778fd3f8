use Rattle.sctp_sender.proofs.Names.{ap, ◌∙◌, refl, Some, false, change_where, ChunkPayloadData, with_nsent, with_retransmit, Outbound, with_inflight, has_tsn}
use Rattle.sctp_outbound.specs.Marks.{with_since}
use Rattle.sctp_sender.proofs.Walks.{changed-twice}
use Rattle.sctp_sender.proofs.sender.flight.retransmission.note_sent_again.Goals as goal

pub returns : goal.returns
returns c =
    let q = c.args.queue.now in
    let p = has_tsn c.args.tsn in
    let counted = with_nsent c.args.count in
    let noted = with_since (Some c.args.now) in
    let cleared = with_retransmit false in
    c.set_retransmit.ensures.changed ∙ ap (λ (o : Outbound). with_inflight o (change_where p cleared o.inflight.chunks)) c.set_since.ensures.changed
    ∙ ap (λ (o : Outbound). with_inflight o (change_where p cleared (change_where p noted o.inflight.chunks))) c.set_nsent.ensures.changed
    ∙ ap (λ xs. with_inflight q (change_where p cleared xs)) (changed-twice p counted (λ x. refl) noted q.inflight.chunks)
    ∙ ap (with_inflight q) (changed-twice p (λ (x : ChunkPayloadData). noted (counted x)) (λ x. refl) cleared q.inflight.chunks)
