use Rattle.sctp_sender.proofs.Names.{sym, subst, IsSendable, Flight, has_tail_at}
use Rattle.sctp_sender.proofs.Lates.{none-left, none-passes}
use Rattle.sctp_sender.proofs.Worn.{listed-more}
use Rattle.sctp_sender.proofs.sender.flight.InFlight.abandon_with_tail.Goals as goal

pub returns-in_default-clause-no_tail : goal.returns-in_default-clause-no_tail
returns-in_default-clause-no_tail c = none-passes (has_tail_at c.args.self.now) c.args.tsns.now (sym c.in_default.ensures)

pub returns-clause-no_tail : goal.returns-clause-no_tail
returns-clause-no_tail c =
    let before = subst (λ (h : Flight). IsSendable h.queue.pending h.queue.inflight.chunks h.queue.next_message_id) c.self.view_is c.are_whole.ensures in
    let after = subst (λ (h : Flight). IsSendable h.queue.pending h.queue.inflight.chunks h.queue.next_message_id) c.self-2.view_is c.are_whole-2.ensures in
    none-left c.args.self.now c.abandon_message.new.self c.in-Some.tsn c.args.tsns.now before after c.in-Some.ensures c.in_ok-one.ensures.ok

pub returns-clause-listed : goal.returns-clause-listed
returns-clause-listed c = λ ts h. c.in_ok-one.ensures.listed ts (listed-more c.in-Some.tsn ts c.args.self.now h)
