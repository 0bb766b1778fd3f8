use Rattle.sctp_receiver.proofs.Names.{arith, ◌≤◌, le-ltb, distance, distance_self, nat_tests}
use Rattle.sctp_receiver.proofs.Spans.{triangle, within-circle}
use Rattle.sctp_receiver.proofs.receiver.spans.TsnSpan.with.Goals as goal

pub returns-clause-here : goal.returns-clause-here
returns-clause-here c =
    let none = distance_self c.args.tsn c.distance-ahead.ensures.to_fits in
    le-ltb c.saturating_add.result (distance c.args.tsn c.args.tsn) (omega (arith, none))

pub returns-clause-wider : goal.returns-clause-wider
returns-clause-wider c = λ t h.
    let inside : distance c.args.self.first t ≤ c.args.self.length = grind (arith, nat_tests, h) in
    let long = triangle c.args.tsn c.args.self.first t c.distance-ahead.ensures.to_fits c.distance-ahead.ensures.from_fits in
    le-ltb c.saturating_add.result (distance c.args.tsn t)
    (omega (arith, long, inside, within-circle c.args.tsn t, c.saturating_add.ensures, c.distance-behind.ensures.value))
