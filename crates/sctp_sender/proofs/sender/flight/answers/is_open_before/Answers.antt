use Rattle.sctp_sender.proofs.Names.{◌≡◌, ◌+◌, ◌-◌, ◌<◌, get_or, take, ap, sym, subst, ◌∙◌, arith, count_by, get_or_default, ChunkPayloadData, is_number}
use Rattle.sctp_sender.proofs.Names.{messages_of}
use Rattle.sctp_sender.proofs.Counts.{one-taken}
use Rattle.sctp_sender.proofs.Opened.{IsClosedBack, farther-back, none-back, open-back, other-back}
use Rattle.sctp_sender.proofs.Walks.{read-of}
use Rattle.sctp_sender.proofs.sender.flight.answers.is_open_before.Goals as goal

pub returns-then-chunk-message-clause-value : goal.returns-then-chunk-message-clause-value
returns-then-chunk-message-clause-value c =
    let cs = c.args.queue.now.inflight.chunks in
    let at = c.loop-start.start - 1 in
    let x = c.in-Some.chunk.now in
    let read = read-of cs at x (sym c.in-Some.ensures) in
    let is : (d : ChunkPayloadData) → x ≡ get_or cs at d = λ d. read.1 ∙ get_or_default cs at x d read.0 in
    let pos : 0 < c.loop-start.start = omega (arith, c.loop-start-test.true) in
    sym (other-back cs c.args.message c.requires.beside c.args.place c.loop-start.start c.loop-start.invariant.closed c.requires.place pos
    (λ d e. let own = ap (λ (y : ChunkPayloadData). y.message_id) (is d) ∙ e in omega (arith, c.if-chunk-message.true, own)))

pub returns-then-is_open-clause-value : goal.returns-then-is_open-clause-value
returns-then-is_open-clause-value c =
    let cs = c.args.queue.now.inflight.chunks in
    let at = c.loop-start.start - 1 in
    let x = c.in-Some.chunk.now in
    let read = read-of cs at x (sym c.in-Some.ensures) in
    let is : (d : ChunkPayloadData) → x ≡ get_or cs at d = λ d. read.1 ∙ get_or_default cs at x d read.0 in
    let pos : 0 < c.loop-start.start = omega (arith, c.loop-start-test.true) in
    sym (open-back cs c.args.message c.args.place c.loop-start.start c.loop-start.invariant.closed c.requires.place pos x is
    (omega (arith, c.if-chunk-message.false)) (sym c.is_open.ensures ∙ c.if-is_open.true))

pub loop-start-preserved : goal.loop-start-preserved
loop-start-preserved c =
    let cs = c.args.queue.now.inflight.chunks in
    let at = c.loop-start.start - 1 in
    let x = c.in-Some.chunk.now in
    let read = read-of cs at x (sym c.in-Some.ensures) in
    let is : (d : ChunkPayloadData) → x ≡ get_or cs at d = λ d. read.1 ∙ get_or_default cs at x d read.0 in
    let pos : 0 < c.loop-start.start = omega (arith, c.loop-start-test.true) in
    let e : at + 1 ≡ c.loop-start.start = omega (arith, pos) in
    let f = ap (λ n. count_by (is_number c.args.message) (take n (messages_of cs))) e in
    let one = one-taken c.args.message cs at x read.0 (is x) (omega (arith, c.if-chunk-message.false)) in
    let inv = c.loop-start.invariant in
    record {
      closed = farther-back cs c.args.message c.args.place c.loop-start.start c.loop-start.invariant.closed x is pos (omega (arith, c.if-chunk-message.false))
          (sym c.is_open.ensures ∙ c.if-is_open.false);
      not_back = omega (arith, c.tick.ensures, inv.not_back);
      cost = omega (arith, c.tick.ensures, inv.cost, f, one);
    }

pub returns-clause-value : goal.returns-clause-value
returns-clause-value c =
    let cs = c.args.queue.now.inflight.chunks in
    let none : c.loop-start.start ≡ 0 = omega (arith, c.loop-start-test.false) in
    sym (none-back cs c.args.message c.args.place (subst (IsClosedBack cs c.args.message c.args.place) none c.loop-start.invariant.closed))
