use Rattle.sctp_sender.proofs.Names.{◌≡◌, ◌<◌, get_or, inl, inr, ap, sym, ◌∙◌, arith, cases_lt, get_or_default, ChunkPayloadData}
use Rattle.sctp_sender.proofs.Counts.{one-dropped}
use Rattle.sctp_sender.proofs.Opened.{farther-on, none-on, open-on, other-on}
use Rattle.sctp_sender.proofs.Walks.{read-of}
use Rattle.sctp_sender.proofs.sender.flight.answers.is_open_from.Goals as goal

pub returns-then-chunk-message-clause-value : goal.returns-then-chunk-message-clause-value
returns-then-chunk-message-clause-value c =
    let cs = c.args.queue.now.inflight.chunks in
    let at = c.loop-end.end in
    let x = c.in-Some.chunk.now in
    let read = read-of cs at x (sym c.in-Some.ensures) in
    let is : (d : ChunkPayloadData) → x ≡ get_or cs at d = λ d. read.1 ∙ get_or_default cs at x d read.0 in
    let later : c.args.place < at = elim (cases_lt c.args.place at) [
      | inl lt ↦ lt
      | inr ge ↦
          let same : at ≡ c.args.place = (let high = c.loop-end.invariant.closed.high in omega (arith, ge, high)) in
          let own = ap (λ (y : ChunkPayloadData). y.message_id) (is x) ∙ ap (λ k. (get_or cs k x).message_id) same ∙ c.requires.own x in
          omega (arith, c.if-chunk-message.true, own)
    ] in
    sym (other-on cs c.args.message c.requires.beside c.args.place at c.loop-end.invariant.closed read.0 later
    (λ d e. let own = ap (λ (y : ChunkPayloadData). y.message_id) (is d) ∙ e in omega (arith, c.if-chunk-message.true, own)))

pub returns-then-is_open-clause-value : goal.returns-then-is_open-clause-value
returns-then-is_open-clause-value c =
    let cs = c.args.queue.now.inflight.chunks in
    let at = c.loop-end.end in
    let x = c.in-Some.chunk.now in
    let read = read-of cs at x (sym c.in-Some.ensures) in
    let is : (d : ChunkPayloadData) → x ≡ get_or cs at d = λ d. read.1 ∙ get_or_default cs at x d read.0 in
    sym (open-on cs c.args.message c.args.place at c.loop-end.invariant.closed read.0 x is (omega (arith, c.if-chunk-message.false))
    (sym c.is_open.ensures ∙ c.if-is_open.true))

pub loop-end-preserved : goal.loop-end-preserved
loop-end-preserved c =
    let cs = c.args.queue.now.inflight.chunks in
    let at = c.loop-end.end in
    let x = c.in-Some.chunk.now in
    let read = read-of cs at x (sym c.in-Some.ensures) in
    let is : (d : ChunkPayloadData) → x ≡ get_or cs at d = λ d. read.1 ∙ get_or_default cs at x d read.0 in
    let one = one-dropped c.args.message cs at x read.0 (is x) (omega (arith, c.if-chunk-message.false)) in
    let inv = c.loop-end.invariant in
    record {
      closed = farther-on cs c.args.message c.args.place at c.loop-end.invariant.closed x is (omega (arith, c.if-chunk-message.false))
          (sym c.is_open.ensures ∙ c.if-is_open.false);
      not_back = omega (arith, c.tick.ensures, inv.not_back);
      cost = omega (arith, c.tick.ensures, inv.cost, one);
    }

pub returns-clause-value : goal.returns-clause-value
returns-clause-value c =
    let cs = c.args.queue.now.inflight.chunks in
    sym (none-on cs c.args.message c.args.place c.loop-end.end c.loop-end.invariant.closed
    (omega (arith, c.loop-end-test.false, c.loop-end.auto.end-end, c.inflight_len-end-end.ensures)))
