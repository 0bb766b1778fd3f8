use Rattle.std.proofs.Common.{◌≡◌, ◌-◌, ◌<◌, false, sym, ◌∙◌, subst, arith}
use Rattle.sctp_outbound.specs.pending_queue.Whole.{AreWhole, ordered_first, stage_of}
use Rattle.sctp_outbound.proofs.lemmas.pending_queue.Front.{has_end_whole}
use Rattle.sctp_outbound.proofs.lemmas.pending_queue.Order.{at_first, at_unordered, at_last}
use Rattle.sctp_outbound.proofs.pending_queue.PendingQueue.peek_at.Goals as goal

pub returns-in_default : goal.returns-in_default
returns-in_default c =
    let q = c.self.inside in
    let first = subst (λ p. c.args.index < ordered_first p.selected p.ordered) (sym c.self.view_is) c.in_default.ensures.none in
    rw (← c.self.view_is) (c.get.ensures ∙ sym (at_first q.selected q.ordered.chunks q.unordered.chunks c.args.index first))

pub returns-then-behind-len : goal.returns-then-behind-len
returns-then-behind-len c =
    let q = c.self.inside in
    let w = subst (λ p. AreWhole false (stage_of false p.selected) p.ordered) (sym c.self.view_is) c.requires in
    let ended = has_end_whole w.0 q.selected q.ordered.chunks w.1 in
    let first = subst (λ p. c.in-Some.first ≡ ordered_first p.selected p.ordered) (sym c.self.view_is) c.in-Some.ensures.some.0 in
    rw (← c.self.view_is) (c.get-then-behind-len.ensures ∙ sym (at_unordered q.selected q.ordered.chunks q.unordered.chunks c.args.index
    (c.args.index - c.in-Some.first) ended (omega (arith, first, c.in-Some.ensures.some.1)) (omega arith)))

pub returns : goal.returns
returns c =
    let q = c.self.inside in
    let w = subst (λ p. AreWhole false (stage_of false p.selected) p.ordered) (sym c.self.view_is) c.requires in
    let ended = has_end_whole w.0 q.selected q.ordered.chunks w.1 in
    let first = subst (λ p. c.in-Some.first ≡ ordered_first p.selected p.ordered) (sym c.self.view_is) c.in-Some.ensures.some.0 in
    rw (← c.self.view_is) (c.get-2.ensures ∙ sym (at_last q.selected q.ordered.chunks q.unordered.chunks c.args.index (c.args.index - c.len-2.result) ended
    (omega (arith, c.in-Some.ensures.some.1)) (omega (arith, first, c.in-Some.ensures.some.1))))
