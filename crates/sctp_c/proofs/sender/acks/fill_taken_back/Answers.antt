use Rattle.std.proofs.Common.{refl, arith}
use Rattle.sctp_c.specs.Rows.{taken_back_row}
use Rattle.sctp_c.proofs.Filling.{fill-next, fill-done}
use Rattle.sctp_c.proofs.sender.acks.fill_taken_back.Goals as goal

pub loop-place-init : goal.loop-place-init
loop-place-init c = record { rows = refl }

pub loop-place-preserved : goal.loop-place-preserved
loop-place-preserved c = record {
  rows = fill-next taken_back_row c.args.answered.now c.args.rows.now c.loop-place.rows c.loop-place.place c.taken_back_row.result _
      (omega (arith, c.loop-place-test.true, c.min-count.ensures)) c.loop-place.invariant.rows c.taken_back_row.ensures;
}

pub returns : goal.returns
returns c = fill-done taken_back_row c.args.answered.now c.args.rows.now c.loop-place.rows c.loop-place.place
    (omega (arith, c.min-count.ensures, c.loop-place.auto.place-end, c.loop-place-test.false)) c.loop-place.invariant.rows
