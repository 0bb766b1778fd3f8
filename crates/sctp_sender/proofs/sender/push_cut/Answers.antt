use Rattle.sctp_sender.proofs.Names.{◌≡◌, ◌+◌, ◌<◌, ◌≤◌, ◌∷◌, [], ap, sym, ◌∙◌, subst, arith, length, List, ChunkPayloadData, IsMessageOrNone, Flight, total_bytes, bytes_of}
use Rattle.sctp_sender.proofs.Names.{with_queue, with_message, sum_by-cons, fragments_with_mode}
use Rattle.sctp_sender.proofs.Amounts.{message-bytes}
use Rattle.sctp_sender.proofs.SenderStreams.{one-message, sole-is, sole-message}
use Rattle.sctp_sender.proofs.sender.push_cut.Goals.{In_ok-chunk}
use Rattle.sctp_sender.proofs.sender.push_cut.Goals as goal

-- The chunk alone is the fragments.
alone : (c : In_ok-chunk) → c.in_ok-chunk.chunk ∷ [] ≡ fragments_with_mode c.args.state.now c.args.ppi c.args.bytes.now
alone c =
    ap (λ (x : ChunkPayloadData). x ∷ []) c.in_ok-chunk.ensures.ok
    ∙ sole-is c.args.state.now c.args.ppi c.args.bytes.now c.requires.some
    (omega (arith, c.if-len-size.true, c.len-len.ensures.value, c.max_payload_size-size.ensures.value))

pub push_sole-requires-clause-message : goal.push_sole-requires-clause-message
push_sole-requires-clause-message c =
    subst (λ (x : ChunkPayloadData). IsMessageOrNone (x ∷ [])) (sym c.in_ok-chunk.ensures.ok) (sole-message c.args.state.now c.args.ppi c.args.bytes.now)

pub push_sole-requires-clause-bytes : goal.push_sole-requires-clause-bytes
push_sole-requires-clause-bytes c =
    omega (arith, c.requires.bytes, ap (λ (x : ChunkPayloadData). length x.user_data) c.in_ok-chunk.ensures.ok)

pub returns-then-len-size-clause-ok : goal.returns-then-len-size-clause-ok
returns-then-len-size-clause-ok c =
    let p = (goal.at.returns-then-len-size-clause-ok c).In_ok-chunk in
    c.in_ok-push_sole.ensures.ok ∙ ap (λ (cs : List ChunkPayloadData). with_queue c.args.flight.now (with_message cs c.args.flight.now.queue)) (alone p)

pub returns-then-len-size-clause-count : goal.returns-then-len-size-clause-count
returns-then-len-size-clause-count c = ap length (alone (goal.at.returns-then-len-size-clause-count c).In_ok-chunk)

pub returns-then-len-size-clause-bytes : goal.returns-then-len-size-clause-bytes
returns-then-len-size-clause-bytes c =
    let q = c.args.flight.now.queue in
    let x = c.in_ok-chunk.chunk in
    let one = sum_by-cons (λ (y : ChunkPayloadData). length y.user_data) x [] in
    let long = ap (λ (y : ChunkPayloadData). length y.user_data) c.in_ok-chunk.ensures.ok in
    let all = message-bytes (x ∷ []) q in
    ap (λ (g : Flight). total_bytes g.queue) c.in_ok-push_sole.ensures.ok ∙ omega (arith, all, one, long)

pub push-requires-clause-message : goal.push-requires-clause-message
push-requires-clause-message c =
    subst IsMessageOrNone (sym c.in_ok-chunks.ensures.ok) (one-message c.args.state.now c.args.ppi c.args.bytes.now c.requires.some)

pub push-requires-clause-bytes : goal.push-requires-clause-bytes
push-requires-clause-bytes c = omega (arith, c.requires.bytes, c.in_ok-chunks.ensures.length)

pub returns-clause-ok : goal.returns-clause-ok
returns-clause-ok c =
    c.in_ok-push.ensures.ok
    ∙ ap (λ (cs : List ChunkPayloadData). with_queue c.args.flight.now (with_message cs c.args.flight.now.queue)) c.in_ok-chunks.ensures.ok

pub returns-clause-bytes : goal.returns-clause-bytes
returns-clause-bytes c =
    let q = c.args.flight.now.queue in
    ap (λ (g : Flight). total_bytes g.queue) c.in_ok-push.ensures.ok ∙ message-bytes c.in_ok-chunks.chunks.items q
    ∙ ap (λ n. total_bytes q + n) c.in_ok-chunks.ensures.length
