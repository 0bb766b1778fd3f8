use Rattle.std.proofs.Common.{◌≡◌, ℕ, ◌+◌, ◌*◌, List, length, add-one, arith}
use Rattle.sctp_util.proofs.EachAt.{length_each}
use Rattle.sctp_util.specs.Each.{each}
use Rattle.sctp_util.specs.Field.{u16_at}
use Rattle.sctp_c.proofs.Rows.{drop-each, filled-step, filled-done}
use Rattle.sctp_c.proofs.reconfig.fill_shorts.Goals as goal

pub loop-i-preserved : goal.loop-i-preserved
loop-i-preserved c =
    let all : List ℕ = each c.args.count (λ i. u16_at c.args.bytes.now (c.args.at + 2 * i)) in
    let next = drop-each c.loop-i.i c.args.count (λ i. u16_at c.args.bytes.now (c.args.at + 2 * i)) (omega (arith, c.min-filled.ensures)) in
    rw (c.read_u16.ensures, c.loop-i.invariant, add-one) (filled-step c.loop-i.i all c.args.rows.now _ _ next (omega (arith, c.min-filled.ensures)))

pub returns : goal.returns
returns c =
    let all : List ℕ = each c.args.count (λ i. u16_at c.args.bytes.now (c.args.at + 2 * i)) in
    let many : length all ≡ c.args.count = length_each c.args.count (λ i. u16_at c.args.bytes.now (c.args.at + 2 * i)) in
    rw c.loop-i.invariant (filled-done c.loop-i.i all c.args.rows.now (omega (arith, many, c.min-filled.ensures)))
