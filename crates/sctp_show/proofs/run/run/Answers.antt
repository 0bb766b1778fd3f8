use Rattle.std.proofs.Common.{◌≤◌, ◌+◌, ◌^◌, inr, arith}
use Rattle.std.proofs.lemmas.Grind.{common_steps}
use Rattle.sctp_capture.specs.Blocks.{known_of}
use Rattle.sctp_show.proofs.Runs.{so_far_none, so_far_record, so_far_nothing, so_far_sent, so_far_all, at_end, at_stop, opened_input, room_first, room_next, room_full}
use Rattle.sctp_show.proofs.run.run.Goals as goal
use Rattle.sctp_show.proofs.run.run.Goals.{in-Record+in_ok-print-in-Record, in-Nothing}

pub pieces-init : goal.pieces-init
pieces-init g c = record {
  limited = λ h. h;
  so_far = so_far_none c.args.options.now c.in_ok-format.format _ _ _ _;
  room = room_first (known_of c.new-section.result) _;
}

pub pieces-preserved : goal.pieces-preserved
pieces-preserved g c =
    let so = so_far_sent c.args.options.now c.in_ok-format.format (known_of c.new-section.result) _ _ _ _ _ _ _ _
    c.pieces.invariant.so_far c.in_ok-send_off.ensures.keeps in
    elim c.match-branch-5.branch [
      | in-Record+in_ok-print-in-Record w ↦ record {
        limited = rw w.course-is (λ h. omega (arith, w.in_ok-print-in-Record.ensures.few, c.if-course-options.false));
        so_far = rw (w.course-is, w.output-is) (so_far_record c.args.options.now c.in_ok-format.format (known_of c.new-section.result)
            _ _ _ _ _ _ _ _ _ _ _ w.in-Record.record so (rw w.in-Record.is at c.in_ok-record.ensures.takes) w.in_ok-print-in-Record.ensures.prints);
        room = room_next (known_of c.new-section.result) (known_of c.pieces.section) (known_of c.next_piece.new.section) _ _ _ _
            c.pieces.invariant.room (rw w.in-Record.is at c.in_ok-record.ensures.passes);
      }
      | in-Nothing w ↦ record {
        limited = rw w.course-is c.pieces.invariant.limited;
        so_far = rw (w.course-is, w.output-is) (so_far_nothing c.args.options.now c.in_ok-format.format (known_of c.new-section.result)
            _ _ _ _ _ _ _ _ _ so (rw w.in-Nothing.is at c.in_ok-record.ensures.takes));
        room = room_next (known_of c.new-section.result) (known_of c.pieces.section) (known_of c.next_piece.new.section) _ _ _ _
            c.pieces.invariant.room (rw w.in-Nothing.is at c.in_ok-record.ensures.passes);
      }
    ]

pub returns-then-course-options-clause-prints : goal.returns-then-course-options-clause-prints
returns-then-course-options-clause-prints g c =
    so_far_all c.args.options.now c.in_ok-format.format (known_of c.new-section.result) (known_of c.pieces.section) _ _ _ _ _ _ _
    (c.args.options.now.limit ≤ c.pieces.course.counts.shown) c.new-section.ensures
    (opened_input c.in_ok-format.format _ _ _ c.in_ok-window.ensures c.in_ok-format.ensures.opens) c.pieces.invariant.so_far
    (at_stop (known_of c.pieces.section) _ _ c.if-course-options.true)

pub returns-in-End-clause-prints : goal.returns-in-End-clause-prints
returns-in-End-clause-prints g c =
    let so = so_far_sent c.args.options.now c.in_ok-format.format (known_of c.new-section.result) _ _ _ _ _ _ _ _
    c.pieces.invariant.so_far c.in_ok-send_off.ensures.keeps in
    so_far_all c.args.options.now c.in_ok-format.format (known_of c.new-section.result) (known_of c.pieces.section) _ _ _ _ _ _ _
    (c.args.options.now.limit ≤ c.pieces.course.counts.shown) c.new-section.ensures
    (opened_input c.in_ok-format.format _ _ _ c.in_ok-window.ensures c.in_ok-format.ensures.opens) so
    (at_end (known_of c.pieces.section) _ _ (rw c.in-End.is at c.in_ok-record.ensures.takes))

pub returns-clause-fault : goal.returns-clause-fault
returns-clause-fault g c =
    let many : 2 ^ 64 ≤ c.pieces.turn + 1 = grind (arith, common_steps) in
    inr (room_full c.in_ok-format.format (known_of c.new-section.result) (known_of c.pieces.section) _ _ _ c.pieces.turn c.new-section.ensures
    (opened_input c.in_ok-format.format _ _ _ c.in_ok-window.ensures c.in_ok-format.ensures.opens) c.pieces.invariant.room many)
