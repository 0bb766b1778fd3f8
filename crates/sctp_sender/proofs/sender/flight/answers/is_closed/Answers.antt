use Rattle.sctp_sender.proofs.Names.{rules, arith, ◌≡◌, false, drop, ap, sym, ◌∙◌, ◌&&◌, ◌||◌, not, list_any, is_half, is_number, messages_of, is_open_of}
use Rattle.sctp_sender.proofs.Counts.{count-split}
use Rattle.sctp_sender.proofs.Opened.{both-sides}
use Rattle.sctp_sender.proofs.sender.flight.answers.is_closed.Goals as goal

pub returns-then-not-is_open_before-clause-value : goal.returns-then-not-is_open_before-clause-value
returns-then-not-is_open_before-clause-value c =
    let cs = c.args.queue.now.inflight.chunks in
    let q = is_open_of c.args.message in
    let nay : is_half c.args.partial c.args.message ≡ false = search rules in
    sym (ap (λ b. not b && not (list_any q cs)) nay ∙ ap not (both-sides q cs c.args.place
    ∙ ap (λ b. b || list_any q (drop c.args.place cs)) (sym c.is_open_before.ensures.value ∙ c.if-not-is_open_before.true) ∙ sym c.is_open_from.ensures.value))

pub returns-else-not-is_open_before-clause-value : goal.returns-else-not-is_open_before-clause-value
returns-else-not-is_open_before-clause-value c =
    let cs = c.args.queue.now.inflight.chunks in
    let q = is_open_of c.args.message in
    let nay : is_half c.args.partial c.args.message ≡ false = search rules in
    ap not c.if-not-is_open_before.false ∙ sym (ap (λ b. not b && not (list_any q cs)) nay ∙ ap not (both-sides q cs c.args.place
    ∙ ap (λ b. b || list_any q (drop c.args.place cs)) (sym c.is_open_before.ensures.value ∙ c.if-not-is_open_before.false)))

pub returns-then-not-is_open_before-clause-cost : goal.returns-then-not-is_open_before-clause-cost
returns-then-not-is_open_before-clause-cost c =
    let all = count-split (is_number c.args.message) (messages_of c.args.queue.now.inflight.chunks) c.args.place in
    omega (arith, c.is_open_before.ensures.cost, c.is_open_from.ensures.cost, all)
