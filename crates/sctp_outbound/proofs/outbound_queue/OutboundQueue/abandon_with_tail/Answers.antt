use Rattle.std.proofs.Common.{◌≡◌, true, false, Some, length, refl, sym, ◌∙◌, subst, arith}
use Rattle.sctp_data.specs.declared.chunk.chunk_payload_data.ChunkPayloadData.{ChunkPayloadData}
use Rattle.sctp_util.proofs.Edits.{sum_by-inserted}
use Rattle.sctp_outbound.specs.Marks.{is_of, as_abandoned}
use Rattle.sctp_outbound.specs.outbound_queue.OutboundQueue.{terminal_chunk}
use Rattle.sctp_serial.specs.DataChunks.{chunk_before}
use Rattle.sctp_outbound.specs.pending_queue.Whole.{partially_sent, waits}
use Rattle.sctp_serial.specs.Window.{SpansOneWindow, is_held}
use Rattle.sctp_outbound.proofs.lemmas.outbound_queue.Abandoned.{is_held-change_where, window-change_where, no_last, last_is_of, sendable-abandoned}
use Rattle.sctp_outbound.proofs.lemmas.outbound_queue.Rest.{partial_stands}
use Rattle.sctp_outbound.proofs.outbound_queue.OutboundQueue.abandon_with_tail.Goals as goal

pub unreachable-requires : goal.unreachable-requires
unreachable-requires c =
    let tail = subst (λ q. waits c.args.message_id q.pending ≡ true) (sym c.self.view_is) c.requires.tail in
    no_last c.args.message_id c.self.inside.pending tail (sym c.pop_message-pending.ensures.last ∙ c.in_default.is)

pub push_no_check-requires-clause-fresh : goal.push_no_check-requires-clause-fresh
push_no_check-requires-clause-fresh c =
    let fresh = subst (λ q. is_held q.inflight.chunks c.args.tsn ≡ false) (sym c.self.view_is) c.requires.fresh in
    rw c.abandon_between-in_flight.ensures.abandoned
    (is_held-change_where (is_of c.args.message_id) as_abandoned (λ _. refl) c.args.tsn c.self.inside.inflight.chunks ∙ fresh)

pub push_no_check-requires-clause-window : goal.push_no_check-requires-clause-window
push_no_check-requires-clause-window c =
    let window = subst (λ q. SpansOneWindow q.inflight.chunks c.args.tsn) (sym c.self.view_is) c.requires.window in
    rw c.abandon_between-in_flight.ensures.abandoned
    (window-change_where (is_of c.args.message_id) as_abandoned (λ _. refl) c.args.tsn c.self.inside.inflight.chunks window)

pub invariant_of-self : goal.invariant_of-self
invariant_of-self c =
    let q = c.self.inside.pending in
    let tail = subst (λ r. waits c.args.message_id r.pending ≡ true) (sym c.self.view_is) c.requires.tail in
    let t = terminal_chunk c.args.tsn c.in-Some.mark in
    let same = last_is_of c.args.message_id q c.in-Some.mark (sym c.pop_message-pending.ensures.last ∙ c.in-Some.is) in
    let more = sum_by-inserted (λ (y : ChunkPayloadData). length y.user_data) chunk_before t c.abandon_between-in_flight.new.self.chunks in
    rw (c.in-Ok.ensures.ok, c.clear.ensures) record {
      sendable = rw (c.pop_message-pending.ensures.rest, c.abandon_between-in_flight.ensures.abandoned)
          (sendable-abandoned q c.self.inside.inflight.chunks c.self.inside.next_message_id c.args.message_id t same tail c.self.invariant.sendable);
      fits = omega (arith, c.self.invariant.fits, c.pop_message-pending.ensures.left, c.abandon_between-in_flight.ensures.left);
    }

pub returns-clause-released : goal.returns-clause-released
returns-clause-released c =
    let t = terminal_chunk c.args.tsn c.in-Some.mark in
    let more = sum_by-inserted (λ (y : ChunkPayloadData). length y.user_data) chunk_before t c.abandon_between-in_flight.new.self.chunks in
    rw (← c.self.view_is, c.in-Ok.ensures.ok, c.clear.ensures) (omega (arith, c.pop_message-pending.ensures.left, c.abandon_between-in_flight.ensures.left))

pub pop_message-pending-requires-clause-ordered : goal.pop_message-pending-requires-clause-ordered
pop_message-pending-requires-clause-ordered c =
    let partial = subst (λ q. partially_sent q.pending ≡ Some c.args.message_id) (sym c.self.view_is) c.requires.partial in
    (partial_stands c.self.inside.pending c.self.inside.inflight.chunks c.self.inside.next_message_id c.args.message_id c.self.invariant.sendable partial).0

pub pop_message-pending-requires-clause-unordered : goal.pop_message-pending-requires-clause-unordered
pop_message-pending-requires-clause-unordered c =
    let partial = subst (λ q. partially_sent q.pending ≡ Some c.args.message_id) (sym c.self.view_is) c.requires.partial in
    (partial_stands c.self.inside.pending c.self.inside.inflight.chunks c.self.inside.next_message_id c.args.message_id c.self.invariant.sendable partial).1
