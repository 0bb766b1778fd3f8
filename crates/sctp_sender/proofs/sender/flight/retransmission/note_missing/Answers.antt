use Rattle.sctp_sender.proofs.Names.{◌≡◌, ◌+◌, true, ap, ◌∙◌, refl, sym, arith, ◌||◌, eq-eqb, change_where, ChunkPayloadData, with_retransmit, Outbound}
use Rattle.sctp_sender.proofs.Names.{with_inflight, has_tsn}
use Rattle.std.proofs.Common.{◌==◌}
use Rattle.sctp_outbound.specs.Marks.{with_miss_indicator}
use Rattle.sctp_sender.proofs.Walks.{changed-twice}
use Rattle.sctp_sender.proofs.sender.flight.retransmission.note_missing.Goals as goal

pub returns-then-is_marked-clause-noted : goal.returns-then-is_marked-clause-noted
returns-then-is_marked-clause-noted c =
    let q = c.args.queue.now in
    let cs = q.inflight.chunks in
    let p = has_tsn c.args.tsn in
    let n = c.args.misses in
    let third : (n == 2) ≡ true = eq-eqb n 2 (omega arith) in
    c.set_retransmit.ensures.changed
    ∙ ap (λ (o : Outbound). with_inflight o (change_where p (with_retransmit true) o.inflight.chunks)) c.set_miss_indicator.ensures.changed
    ∙ ap (with_inflight q) (changed-twice p (with_miss_indicator (n + 1)) (λ x. refl) (with_retransmit true) cs) ∙ ap (λ b. with_inflight q (change_where p
    (λ (x : ChunkPayloadData). let y : ChunkPayloadData = record x { miss_indicator = n + 1; retransmit = b || x.retransmit } in y) cs)) (sym third)

pub returns-clause-noted : goal.returns-clause-noted
returns-clause-noted c =
    let q = c.args.queue.now in
    let cs = q.inflight.chunks in
    let p = has_tsn c.args.tsn in
    let n = c.args.misses in
    let third : (n == 2) ≡ true = eq-eqb n 2 (omega arith) in
    c.set_retransmit.ensures.changed
    ∙ ap (λ (o : Outbound). with_inflight o (change_where p (with_retransmit true) o.inflight.chunks)) c.set_miss_indicator.ensures.changed
    ∙ ap (with_inflight q) (changed-twice p (with_miss_indicator (n + 1)) (λ x. refl) (with_retransmit true) cs) ∙ ap (λ b. with_inflight q (change_where p
    (λ (x : ChunkPayloadData). let y : ChunkPayloadData = record x { miss_indicator = n + 1; retransmit = b || x.retransmit } in y) cs)) (sym third)
