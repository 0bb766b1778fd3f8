use Rattle.std.proofs.Common.{◌≡◌, true, Some, sym, subst}
use Rattle.std.specs.Prelude.{find}
use Rattle.sctp_outbound.specs.outbound_queue.OutboundQueue.{Outbound}
use Rattle.sctp_outbound.specs.pending_queue.Whole.{partially_sent, waits}
use Rattle.sctp_serial.specs.DataChunks.{has_tsn}
use Rattle.sctp_outbound.proofs.lemmas.outbound_queue.Sendable.{found_in, kept_or_gone}
use Rattle.sctp_outbound.proofs.outbound_queue.OutboundQueue.abandon_between.Goals as goal

pub returns-clause-partial : goal.returns-clause-partial
returns-clause-partial c =
    let q = c.self.inside in
    let old : Outbound =
    record { pending = q.pending; inflight = q.inflight; next_message_id = q.next_message_id; next_unstarted = q.next_unstarted_message_id } in
    let m = c.in-Some.chunk.now.message_id in
    let found = found_in c.args.tsn q.inflight.chunks c.in-Some.chunk.now (sym c.in-Some.ensures) in
    rw (c.in_ok-bytes.ensures.raised, c.in_ok-bytes.ensures.ok, ← c.self.view_is)
    (kept_or_gone m c.args.next_tsn.now old (c.self.invariant.sendable.sent m found))

pub abandon_message-requires-clause-between : goal.abandon_message-requires-clause-between
abandon_message-requires-clause-between c =
    let x = c.in-Some.chunk.now in
    c.requires.between x (subst (λ (o : Outbound). find (has_tsn c.args.tsn) o.inflight.chunks ≡ Some x) c.self.view_is (sym c.in-Some.ensures))

pub abandon_message-requires-clause-partial : goal.abandon_message-requires-clause-partial
abandon_message-requires-clause-partial c =
    let m = c.in-Some.chunk.now.message_id in
    let found = found_in c.args.tsn c.self.inside.inflight.chunks c.in-Some.chunk.now (sym c.in-Some.ensures) in
    subst (λ (o : Outbound). waits m o.pending ≡ true → partially_sent o.pending ≡ Some m) c.self.view_is (c.self.invariant.sendable.sent m found)
