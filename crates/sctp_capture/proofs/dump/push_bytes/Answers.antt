use Rattle.std.proofs.Common.{◌≡◌, false, true, arith}
use Rattle.std.proofs.lemmas.Grind.{common_steps}
use Rattle.sctp_capture.specs.Dump as dumps
use Rattle.sctp_capture.proofs.Dumps.{bytes_end, bytes_go, bytes_full}
use Rattle.sctp_capture.proofs.dump.push_bytes.Goals as goal

pub returns-then-not-is_byte_at : goal.returns-then-not-is_byte_at
returns-then-not-is_byte_at c =
    let none : dumps.is_byte_at c.args.is_joined c.args.line.now c.loop-taken.place ≡ false = grind (arith, common_steps) in
    bytes_end c.args.is_joined c.args.width c.loop-taken.taken c.loop-taken.place c.args.line.now _ c.loop-taken.said.items
    (omega (arith, c.loop-taken-test.true)) none c.loop-taken.invariant.are

pub loop-taken-preserved : goal.loop-taken-preserved
loop-taken-preserved c =
    let some : dumps.is_byte_at c.args.is_joined c.args.line.now c.loop-taken.place ≡ true = grind (arith, common_steps) in
    record {
      near = omega (arith, c.next_at-place.ensures.few, c.loop-taken.invariant.near);
      are = rw (c.next_at-place.ensures.is, c.in_ok-push.ensures.items, c.byte_at.ensures)
          (bytes_go c.args.is_joined c.args.width c.loop-taken.taken c.loop-taken.place c.args.line.now _ c.loop-taken.said.items
          (omega (arith, c.loop-taken-test.true)) some c.loop-taken.invariant.are);
    }

pub returns : goal.returns
returns c = bytes_full c.args.is_joined c.args.width c.loop-taken.taken c.loop-taken.place c.args.line.now _ c.loop-taken.said.items
    (omega (arith, c.loop-taken-test.false)) c.loop-taken.invariant.are
