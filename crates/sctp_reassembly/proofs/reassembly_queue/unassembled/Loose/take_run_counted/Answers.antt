use Rattle.std.proofs.Common.{◌≡◌, ◌+◌, ◌++◌, take, drop, sym, ap, ◌∙◌, arith}
use Rattle.sctp_reassembly.specs.reassembly_queue.Loose.{with_chunks}
use Rattle.sctp_reassembly.proofs.reassembly_queue.unassembled.Loose.take_run_counted.Goals as goal

pub take_one-requires : goal.take_one-requires
take_one-requires c = omega (arith, c.requires, c.if-count-eq1.true)

pub returns-then-count-eq1-clause-taken : goal.returns-then-count-eq1-clause-taken
returns-then-count-eq1-clause-taken c =
    let one : c.args.count ≡ 1 = omega (arith, c.if-count-eq1.true) in
    c.one.ensures ∙ c.take_one.ensures.taken ∙ ap (λ k. take k (drop c.args.first c.args.self.now.chunks)) (sym one)

pub returns-then-count-eq1-clause-rest : goal.returns-then-count-eq1-clause-rest
returns-then-count-eq1-clause-rest c =
    let one : c.args.count ≡ 1 = omega (arith, c.if-count-eq1.true) in
    let xs = c.args.self.now.chunks in
    c.take_one.ensures.rest ∙ ap (λ k. with_chunks c.args.self.now (take c.args.first xs ++ drop (c.args.first + k) xs)) (sym one)

pub returns-then-count-eq1-clause-few : goal.returns-then-count-eq1-clause-few
returns-then-count-eq1-clause-few c serial small = omega (arith, c.if-count-eq1.true, c.take_one.ensures.few serial small)

pub returns-then-count-eq1-clause-walk : goal.returns-then-count-eq1-clause-walk
returns-then-count-eq1-clause-walk c = omega (arith, c.if-count-eq1.true, c.take_one.ensures.walk)
