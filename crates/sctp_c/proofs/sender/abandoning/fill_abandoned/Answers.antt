use Rattle.std.proofs.Common.{refl, arith}
use Rattle.sctp_c.specs.Rows.{abandoned_row}
use Rattle.sctp_c.proofs.Filling.{fill-next, fill-done}
use Rattle.sctp_c.proofs.sender.abandoning.fill_abandoned.Goals as goal

pub loop-place-init : goal.loop-place-init
loop-place-init c = record { rows = refl }

pub loop-place-preserved : goal.loop-place-preserved
loop-place-preserved c = record {
  rows = fill-next abandoned_row c.args.answered.now c.args.rows.now c.loop-place.rows c.loop-place.place c.abandoned_row.result _
      (omega (arith, c.loop-place-test.true, c.min-count.ensures)) c.loop-place.invariant.rows c.abandoned_row.ensures;
}

pub returns : goal.returns
returns c = fill-done abandoned_row c.args.answered.now c.args.rows.now c.loop-place.rows c.loop-place.place
    (omega (arith, c.min-count.ensures, c.loop-place.auto.place-end, c.loop-place-test.false)) c.loop-place.invariant.rows
