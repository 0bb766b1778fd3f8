use Rattle.sctp_association.specs.Most.{FewerWherePut, most_data}
use Rattle.sctp_association.proofs.Fewer.{fewer_same}
use Rattle.std.proofs.Common.{inl, refl, subst, sym}
use Rattle.sctp_association.specs.Packets.{Stands}
use Rattle.sctp_association.specs.Skips.{LeavesSkip}
use Rattle.sctp_association.proofs.Congested.{within_same}
use Rattle.sctp_association.proofs.Others.{at_then}
use Rattle.sctp_association.proofs.Owing.{rto_asks}
use Rattle.sctp_association.proofs.Putting.{nothing}
use Rattle.sctp_association.proofs.association.Association.put_data.Goals as goal
use Rattle.sctp_association.specs.Congested.{LeavesWithin}
use Rattle.sctp_association.specs.declared.association.Association.{Association}
use Rattle.sctp_association.specs.Halves.{PutsSent, receiver_of, sides_of}
use Rattle.sctp_association.proofs.Ordered as ordered
use Rattle.std.proofs.Common.{◌∷◌, [], List, ℕ, ap}
use Rattle.sctp_association.specs.Ordered.{PutsInOrder}

pub returns-then-not-sends_data-clause-made : goal.returns-then-not-sends_data-clause-made
returns-then-not-sends_data-clause-made c = nothing (sides_of c.args.self.now)

pub returns-in_err-put-clause-made : goal.returns-in_err-put-clause-made
returns-in_err-put-clause-made c = c.put.ensures.made (receiver_of c.args.self.now.inbound)

pub returns-clause-made : goal.returns-clause-made
returns-clause-made c = subst (λ (a : Association). PutsSent c.args.self.now a) (sym c.note_use.ensures.rest)
    (c.put.ensures.made (receiver_of c.args.self.now.inbound))

pub returns-then-not-sends_data-clause-within : goal.returns-then-not-sends_data-clause-within
returns-then-not-sends_data-clause-within c = within_same c.args.now c.args.self.now.outbound c.args.self.now.outbound refl

pub returns-clause-within : goal.returns-clause-within
returns-clause-within c =
    subst (λ (a : Association). LeavesWithin c.args.now c.args.self.now.outbound a.outbound) (sym c.note_use.ensures.rest) c.put.ensures.within

pub returns-in_err-put-clause-moments : goal.returns-in_err-put-clause-moments
returns-in_err-put-clause-moments c = rto_asks c.args.now c.args.self.now c.put.new.self c.put.ensures.counted.rto

pub returns-clause-moments : goal.returns-clause-moments
returns-clause-moments c = at_then _ _ _
    (rto_asks c.args.now c.args.self.now c.put.new.self c.put.ensures.counted.rto) c.note_use.ensures.moments

-- ## What can still leave

pub returns-then-not-sends_data-clause-fewer : goal.returns-then-not-sends_data-clause-fewer
returns-then-not-sends_data-clause-fewer c = fewer_same _ _ _ _ refl refl

pub returns-in_err-put-clause-fewer : goal.returns-in_err-put-clause-fewer
returns-in_err-put-clause-fewer c = c.put.ensures.fewer

pub returns-clause-fewer : goal.returns-clause-fewer
returns-clause-fewer c = subst (λ (a : Association).
    FewerWherePut (most_data c.args.self.now.outbound) (most_data a.outbound) c.args.self.now.draft.bytes a.draft.bytes) (sym c.note_use.ensures.rest)
    c.put.ensures.fewer

-- ## Whether a FORWARD-TSN is due

pub returns-then-not-sends_data-clause-skips : goal.returns-then-not-sends_data-clause-skips
returns-then-not-sends_data-clause-skips c _ due = inl due

pub returns-in_err-put-clause-skips : goal.returns-in_err-put-clause-skips
returns-in_err-put-clause-skips c head = c.put.ensures.leaves head

pub returns-clause-skips : goal.returns-clause-skips
returns-clause-skips c head = subst (λ (a : Association). LeavesSkip (Stands c.args.self.now.draft.bytes a.draft.bytes) c.args.self.now.draft.limit
    c.args.self.now.outbound.sender c.args.self.now.outbound.is_skip_due a.outbound.is_skip_due) (sym c.note_use.ensures.rest) (c.put.ensures.leaves head)

-- ## In their order

pub returns-then-not-sends_data-clause-order : goal.returns-then-not-sends_data-clause-order
returns-then-not-sends_data-clause-order c = ordered.order_data (192 ∷ []) _ _ (ordered.order_none (192 ∷ []) _ _ refl)

pub returns-clause-order : goal.returns-clause-order
returns-clause-order c = subst (λ (x : List ℕ). PutsInOrder (192 ∷ []) c.args.self.now.draft.bytes x)
    (sym (ap (λ (a : Association). a.draft.bytes) c.note_use.ensures.rest)) c.put.ensures.order
