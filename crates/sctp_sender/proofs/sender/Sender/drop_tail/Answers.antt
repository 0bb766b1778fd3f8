use Rattle.sctp_sender.proofs.Names.{◌≡◌, List, [], ◌∷◌, ◌++◌, ap, subst, ◌∙◌, IfSome, list_any, expiring_tail, message_of, AbandonedMessage, after_abandon}
use Rattle.sctp_sender.proofs.Names.{falls_on, tells_message_low}
use Rattle.sctp_sender.proofs.Drops.{one-tells}
use Rattle.sctp_sender.proofs.sender.Sender.drop_tail.Goals as goal

pub returns-clause-low : goal.returns-clause-low
returns-clause-low c =
    let old = c.args.self.now in
    let m = message_of (expiring_tail c.args.now old.flight.queue) in
    let a = c.in-Some.tail in
    let is = subst (λ o. IfSome o (λ b. c.expire_tail.new.self ≡ after_abandon m b.stream b.bytes old)) c.in-Some.is c.in_ok-tail.ensures.some in
    let low = subst (λ o. IfSome o (λ b. b.is_low ≡ falls_on b.stream b.bytes old.streams)) c.in-Some.is c.in_ok-tail.ensures.falls in
    let all : c.put.new.items.items ≡ a ∷ [] = c.put.ensures.items
    ∙ ap (λ (gs : List AbandonedMessage). gs ++ a ∷ []) (c.reserve.ensures.items ∙ c.new-gone.ensures.items) in
    λ s. ap (list_any (tells_message_low s)) all ∙ one-tells old c.expire_tail.new.self a m is low s
