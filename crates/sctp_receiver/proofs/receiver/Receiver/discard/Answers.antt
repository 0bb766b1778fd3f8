use Rattle.sctp_receiver.proofs.Names.{◌≡◌, true, sym, ◌∙◌, subst, Filter, has_come}
use Rattle.sctp_receiver.proofs.Came.{taken-came}
use Rattle.sctp_receiver.proofs.Retracts.{came-behind-room}
use Rattle.sctp_receiver.proofs.receiver.Receiver.discard.Goals as goal

pub returns-clause-came : goal.returns-clause-came
returns-clause-came c = λ _.
    let t = c.args.tsn in
    let o = c.is_opposite.ensures in
    let fresh = sym c.has_come.ensures ∙ c.if-has_come.false in
    let near = sym o.value ∙ c.if-is_opposite.false in
    let came = came-behind-room t c.self.inside.filter c.make_room.new.self c.accept.new.self c.in_ok-make_room.ensures.ok c.accept.ensures.value in
    subst (λ (f : Filter). has_come t f ≡ true) (sym c.settle.ensures) (subst (λ (f : Filter). has_come t f ≡ true) (sym came)
    (taken-came t c.self.inside.filter o.cumulative_fits o.tsn_fits o.rise fresh near))
