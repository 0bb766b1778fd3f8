use Rattle.std.proofs.Common.{refl, arith}
use Rattle.sctp_c.specs.Rows.{acked_row}
use Rattle.sctp_c.proofs.Filling.{fill-next, fill-done}
use Rattle.sctp_c.proofs.sender.acks.fill_acked.Goals as goal

pub loop-place-init : goal.loop-place-init
loop-place-init c = record { rows = refl }

pub loop-place-preserved : goal.loop-place-preserved
loop-place-preserved c = record {
  rows = fill-next acked_row c.args.released.now c.args.rows.now c.loop-place.rows c.loop-place.place c.acked_row.result _
      (omega (arith, c.loop-place-test.true, c.min-count.ensures)) c.loop-place.invariant.rows c.acked_row.ensures;
}

pub returns : goal.returns
returns c = fill-done acked_row c.args.released.now c.args.rows.now c.loop-place.rows c.loop-place.place
    (omega (arith, c.min-count.ensures, c.loop-place.auto.place-end, c.loop-place-test.false)) c.loop-place.invariant.rows
