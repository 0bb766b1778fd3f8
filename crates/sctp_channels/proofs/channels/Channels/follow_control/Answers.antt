use Rattle.std.proofs.Common.{◌≡◌, ◌∙◌, true, arith, inr, rules}
use Rattle.sctp_channels.proofs.Coming.{always_ok, comes_then, comes_begun, comes_known, comes_held, comes_less, comes_more}
use Rattle.sctp_channels.proofs.Following.{data_told, of_more, of_same, of_then}
use Rattle.sctp_channels.proofs.Gaining.{gains_same, gains_then}
use Rattle.sctp_channels.proofs.Polling.{comes_on}
use Rattle.sctp_channels.specs.Reading.{tells_data}
use Rattle.sctp_channels.proofs.channels.Channels.follow_control.Goals as goal

pub returns-in_err-follow_held-clause-comes : goal.returns-in_err-follow_held-clause-comes
returns-in_err-follow_held-clause-comes c = comes_begun _ _ _ c.in_err-follow_held.ensures.err

pub loop-done-init : goal.loop-done-init
loop-done-init c = record {
  side = c.follow_held.ensures.side;
  gains = c.follow_held.ensures.gains;
  control = of_same _ _ _ _ c.follow_held.ensures.inbound;
  due = c.follow_held.ensures.due;
  held = c.in_ok-follow_held.ensures.done;
  comes = comes_held _ _ _ c.in_ok-follow_held.ensures.ok;
}

pub returns-then-is_of_application-clause-control : goal.returns-then-is_of_application-clause-control
returns-then-is_of_application-clause-control c = of_then _ _ _ _ _ c.loop-done.invariant.control c.knows.ensures.inbound

pub returns-then-is_of_application-clause-comes : goal.returns-then-is_of_application-clause-comes
returns-then-is_of_application-clause-comes c =
    let told : tells_data c.next_len-next.result ≡ true = search rules in
    let next = data_told true _ _ c.next_len-next.ensures told in
    let comes = comes_less _ 0 _ _ _ (omega arith) c.loop-done.invariant.comes in
    comes_known _ 0 _ c.knows.result _ _ _ _ _ comes next c.knows.ensures.rest c.knows.ensures.ok c.knows.ensures.err

pub returns-in_err-follow_next-clause-control : goal.returns-in_err-follow_next-clause-control
returns-in_err-follow_next-clause-control c = of_more _ _ _ _ _ c.loop-done.invariant.control c.follow_next.ensures.control

pub returns-in_err-follow_next-clause-comes : goal.returns-in_err-follow_next-clause-comes
returns-in_err-follow_next-clause-comes c = comes_on _ _ _ _ _ _ c.loop-done.invariant.comes c.follow_next.ensures.comes

pub loop-done-preserved : goal.loop-done-preserved
loop-done-preserved c = record {
  side = c.follow_next.ensures.side ∙ c.loop-done.invariant.side;
  gains = gains_then _ _ _ _ _ c.loop-done.invariant.gains c.loop-done.invariant.side c.follow_next.ensures.gains;
  control = of_more _ _ _ _ _ c.loop-done.invariant.control c.follow_next.ensures.control;
  due = record {
    arrived = c.follow_next.ensures.due.arrived ∙ c.loop-done.invariant.due.arrived;
    owed = c.follow_next.ensures.due.owed ∙ c.loop-done.invariant.due.owed;
  };
  held = c.in_ok-follow_next.ensures.done;
  comes = comes_more _ _ _ _ _ _ c.loop-done.invariant.comes c.in_ok-follow_next.ensures.ok;
}

pub returns-clause-gains : goal.returns-clause-gains
returns-clause-gains c =
    gains_then _ _ _ _ _ c.loop-done.invariant.gains c.loop-done.invariant.side (gains_same _ _ _ c.knows_next.ensures.same)

pub returns-clause-control : goal.returns-clause-control
returns-clause-control c = of_then _ _ _ _ _ c.loop-done.invariant.control c.knows_next.ensures.inbound

pub returns-clause-comes : goal.returns-clause-comes
returns-clause-comes c = comes_on _ _ _ _ _ _ c.loop-done.invariant.comes (c.knows_next.ensures.comes c.args.now)

pub returns-clause-ends : goal.returns-clause-ends
returns-clause-ends c =
    let all = comes_then _ _ _ _ _ c.loop-done.invariant.comes (c.knows_next.ensures.comes c.args.now) in
    always_ok _ (inr (comes_less _ 1048576 c.loop-done._done _ _ (omega arith) all))
