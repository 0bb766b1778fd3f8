use Rattle.sctp_sender.proofs.Names.{suc, List, ap, sym, subst, ◌∙◌, ◌&&◌, not, list_any, GapAckBlock, is_in_blocks, Flight, Cover, blocks_left, is_at}
use Rattle.sctp_sender.proofs.Names.{restored, with_restored, AreKnown}
use Rattle.sctp_sender.proofs.Covering.{both-ok}
use Rattle.sctp_sender.proofs.LeftReported.{left-covers, left-known}
use Rattle.sctp_sender.proofs.Seen.{flight_in}
use Rattle.sctp_sender.proofs.sender.flight.InFlight.left_reported.Goals as goal

pub returns-clause-covered : goal.returns-clause-covered
returns-clause-covered c =
    let f : Flight = flight_in c.self.inside in
    let bs = c.args.kept.now.reported.items in
    let ks = c.args.kept.now.user_data.items in
    let v : Cover bs ks f = subst (Cover bs ks) (sym c.self.view_is) c.requires.covered in
    rw (← c.self.view_is) (both-ok c.without.result (λ left up same dense is le.
    subst (λ (xs : List GapAckBlock). Cover (blocks_left left xs) ks (with_restored dense f)) c.deref.ensures.value
    (left-covers f c.self.invariant.contiguous bs ks v (blocks_left left c.deref.result.now) up c.args.backs.now dense is
    (λ k. same k ∙ ap (λ (xs : List GapAckBlock). is_in_blocks xs (suc k) && not (list_any (is_at k) c.args.backs.now)) c.deref.ensures.value) le))
    c.without.ensures.ascend c.without.ensures.same)

pub returns-clause-known : goal.returns-clause-known
returns-clause-known c =
    let f : Flight = flight_in c.self.inside in
    let bs = c.args.kept.now.reported.items in
    let ks = c.args.kept.now.user_data.items in
    let v : Cover bs ks f = subst (Cover bs ks) (sym c.self.view_is) c.requires.covered in
    rw (← c.self.view_is) (both-ok c.without.result (λ left up same dense known is.
    subst (λ (xs : List GapAckBlock). AreKnown (blocks_left left xs) (restored dense f.queue.inflight.chunks)) c.deref.ensures.value
    (left-known f c.self.invariant.contiguous bs ks v (blocks_left left c.deref.result.now) up c.args.backs.now dense is
    (λ k. same k ∙ ap (λ (xs : List GapAckBlock). is_in_blocks xs (suc k) && not (list_any (is_at k) c.args.backs.now)) c.deref.ensures.value) known))
    c.without.ensures.ascend c.without.ensures.same)
