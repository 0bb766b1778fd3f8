use Rattle.sctp_receiver.proofs.Names.{◌≡◌, List, ap, sym, ◌∙◌, refl, arith, sum_by, InboundStream, Skip, Unassembled, Incomplete, ℕ, number, numbers_of}
use Rattle.sctp_receiver.proofs.Names.{visit_walk, settle_walk, skip_forwarded, to_visit}
use Rattle.sctp_receiver.proofs.SkipCosts.{visited-within}
use Rattle.sctp_receiver.proofs.Inbounds.{stays-mapped}
use Rattle.sctp_receiver.proofs.receiver.inbound_streams.InboundStreams.forward.Goals as goal

number-stays : (skip : Skip) (tsn : ℕ) (l : InboundStream) → number (skip_forwarded skip tsn l) ≡ number l
number-stays Unassembled tsn l = refl
number-stays Incomplete tsn l = refl

pub invariant_of-self : goal.invariant_of-self
invariant_of-self c = record {
  numbers = c.self.invariant.numbers ∙ sym (ap numbers_of c.forward_each-self-inside.ensures.value
      ∙ stays-mapped number (skip_forwarded c.args.skip c.args.tsn) (number-stays c.args.skip c.args.tsn) c.self.inside.items.items);
  cost = c.forward_each-self-inside.ensures.cost;
  visits = c.forward_each-self-inside.ensures.listing;
  places = c.self.invariant.places;
  none = c.self.invariant.none;
}

pub returns-clause-walk : goal.returns-clause-walk
returns-clause-walk c =
    let weigh = λ (l : InboundStream). settle_walk c.args.skip l.queue.held in
    let visits = λ (ls : List InboundStream). sum_by (λ (l : InboundStream). visit_walk c.args.skip l.queue.held) (to_visit ls) in
    let ls = c.self.inside.items.items in
    let less = visited-within weigh ls in
    let was = ap (sum_by weigh) c.self.view_is in
    let visited = ap visits c.self.view_is in
    omega (arith, c.forward_each-self-inside.ensures.walk, less, was, visited)
