use Rattle.std.proofs.Common.{◌≡◌, ℕ, ◌+◌, ◌-◌, arith}
use Rattle.sctp_follow.specs.Trips.{rounded}
use Rattle.sctp_follow.proofs.Rounding.{step_short, step_long, fits_long, rounded_end}
use Rattle.sctp_follow.proofs.trips.rounded.Goals as goal
use Rattle.sctp_follow.proofs.trips.rounded.Goals.{then-rest-ge-DIGITS, else-rest-ge-DIGITS}

one_fewer : (digit : ℕ) → 20 - (digit + 1) ≡ 20 - digit - 1
one_fewer digit = omega arith

pub digits-preserved : goal.digits-preserved
digits-preserved c =
    let unit = c.digits.unit in
    let rest = c.digits.rest in
    let left = 20 - c.digits._digit in
    elim c.if-rest-ge-DIGITS.branch [
      | then-rest-ge-DIGITS w ↦ rw (w.unit-is, w.rest-is, one_fewer c.digits._digit) (record {
        fits = fits_long unit rest c.args.number c.digits.invariant.fits;
        same = step_long left unit rest (rounded 20 c.args.number) (omega arith) w.if-rest-ge-DIGITS.true c.digits.invariant.same;
      })
      | else-rest-ge-DIGITS w ↦ rw (w.unit-is, w.rest-is, one_fewer c.digits._digit) (record {
        fits = c.digits.invariant.fits;
        same = step_short left unit rest (rounded 20 c.args.number) w.if-rest-ge-DIGITS.false c.digits.invariant.same;
      })
    ]

pub returns : goal.returns
returns c =
    rounded_end (20 - c.digits._digit) c.digits.unit c.digits.rest (rounded 20 c.args.number) (omega arith) c.digits.invariant.same
