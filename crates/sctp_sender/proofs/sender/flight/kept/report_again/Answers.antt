use Rattle.sctp_sender.proofs.Names.{◌≡◌, true, get_or, ap, sym, ◌∙◌, get_or_default, change_at, change_where, ChunkPayloadData, as_acknowledged}
use Rattle.sctp_sender.proofs.Names.{with_retransmit, Outbound, with_inflight, has_tsn}
use Rattle.sctp_sender.proofs.Placed.{set-change}
use Rattle.sctp_sender.proofs.Runs.{any_chunk}
use Rattle.sctp_sender.proofs.Undone.{marked-again, unmarked-again}
use Rattle.sctp_sender.proofs.Walks.{read-of}
use Rattle.sctp_sender.proofs.sender.flight.kept.report_again.Goals as goal

pub returns-then-is_marked : goal.returns-then-is_marked
returns-then-is_marked c =
    let q = c.args.queue.now in
    let cs = q.inflight.chunks in
    let i = c.args.place in
    let x = c.in-Some.chunk.now in
    let at = read-of cs i x (sym c.in-Some.ensures) in
    let is : x ≡ get_or cs i any_chunk = at.1 ∙ get_or_default cs i x any_chunk at.0 in
    let marked = c.mark_as_acked_at.ensures.acked any_chunk ∙ ap (with_inflight q) (set-change as_acknowledged cs i any_chunk at.0) in
    c.set_retransmit.ensures.changed
    ∙ ap (λ (o : Outbound). with_inflight o (change_where (has_tsn x.tsn) (with_retransmit true) o.inflight.chunks)) marked
    ∙ ap (λ (y : ChunkPayloadData). with_inflight q (change_where (has_tsn y.tsn) (with_retransmit true) (change_at as_acknowledged i cs))) is
    ∙ ap (with_inflight q)
    (marked-again cs i any_chunk c.requires.own at.0 (ap (λ (y : ChunkPayloadData). y.retransmit) (sym is) ∙ c.if-is_marked.true))

pub returns-else-is_marked : goal.returns-else-is_marked
returns-else-is_marked c =
    let q = c.args.queue.now in
    let cs = q.inflight.chunks in
    let i = c.args.place in
    let x = c.in-Some.chunk.now in
    let at = read-of cs i x (sym c.in-Some.ensures) in
    let is : x ≡ get_or cs i any_chunk = at.1 ∙ get_or_default cs i x any_chunk at.0 in
    c.mark_as_acked_at.ensures.acked any_chunk ∙ ap (with_inflight q)
    (unmarked-again cs i any_chunk at.0 (ap (λ (y : ChunkPayloadData). y.retransmit) (sym is) ∙ c.if-is_marked.false))
