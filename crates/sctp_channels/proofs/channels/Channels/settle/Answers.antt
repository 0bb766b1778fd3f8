use Rattle.std.proofs.Common.{◌∙◌}
use Rattle.sctp_channels.proofs.Coming.{comes_begun, comes_held, comes_looked, comes_owed, comes_then}
use Rattle.sctp_channels.proofs.Following.{of_from, some_of}
use Rattle.sctp_channels.proofs.Gaining.{gains_more, gains_same, gains_then}
use Rattle.sctp_channels.proofs.Settling.{looked_or}
use Rattle.sctp_channels.proofs.channels.Channels.settle.Goals as goal

pub returns-in_err-follow_control-clause-gains : goal.returns-in_err-follow_control-clause-gains
returns-in_err-follow_control-clause-gains c =
    let held = gains_then _ _ _ _ _ (gains_same _ _ _ c.ask_reset.ensures.same) c.ask_reset.ensures.side c.follow_held.ensures.gains in
    gains_then _ _ _ _ _ held (c.follow_held.ensures.side ∙ c.ask_reset.ensures.side) c.follow_control.ensures.gains

pub returns-clause-gains : goal.returns-clause-gains
returns-clause-gains c =
    let held = gains_then _ _ _ _ _ (gains_same _ _ _ c.ask_reset.ensures.same) c.ask_reset.ensures.side c.follow_held.ensures.gains in
    let followed = gains_then _ _ _ _ _ held (c.follow_held.ensures.side ∙ c.ask_reset.ensures.side) c.follow_control.ensures.gains in
    gains_more _ _ _ _ followed (gains_same _ _ _ c.look.ensures.same)

pub returns-in_err-follow_control-clause-control : goal.returns-in_err-follow_control-clause-control
returns-in_err-follow_control-clause-control c =
    some_of _ _ _ _ (of_from _ _ _ _ _ (c.follow_held.ensures.inbound ∙ c.ask_reset.ensures.inbound) c.follow_control.ensures.control)

pub returns-clause-control : goal.returns-clause-control
returns-clause-control c =
    some_of _ _ _ _ (of_from _ _ _ _ _ (c.follow_held.ensures.inbound ∙ c.ask_reset.ensures.inbound) c.follow_control.ensures.control)

pub returns-in_err-follow_held-clause-comes : goal.returns-in_err-follow_held-clause-comes
returns-in_err-follow_held-clause-comes c =
    comes_then _ _ _ _ _ (comes_owed _ _ _ c.in_ok-ask_reset.ensures.ok) (comes_begun _ _ _ c.in_err-follow_held.ensures.err)

pub returns-in_default-clause-comes : goal.returns-in_default-clause-comes
returns-in_default-clause-comes c =
    comes_then _ _ _ _ _ (comes_owed _ _ _ c.in_ok-ask_reset.ensures.ok) (comes_held _ _ _ c.in_ok-follow_held.ensures.ok)

pub returns-in_err-follow_control-clause-comes : goal.returns-in_err-follow_control-clause-comes
returns-in_err-follow_control-clause-comes c =
    let held = comes_then _ _ _ _ _ (comes_owed _ _ _ c.in_ok-ask_reset.ensures.ok) (comes_held _ _ _ c.in_ok-follow_held.ensures.ok) in
    comes_then _ _ _ _ _ held c.follow_control.ensures.comes

pub returns-clause-comes : goal.returns-clause-comes
returns-clause-comes c =
    let held = comes_then _ _ _ _ _ (comes_owed _ _ _ c.in_ok-ask_reset.ensures.ok) (comes_held _ _ _ c.in_ok-follow_held.ensures.ok) in
    let followed = comes_then _ _ _ _ _ held c.follow_control.ensures.comes in
    comes_then _ _ _ _ _ followed (comes_looked _ _ _ _ _ c.look.ensures.looked c.look.ensures.stays)

pub returns-clause-looked : goal.returns-clause-looked
returns-clause-looked c =
    let held = comes_then _ _ _ _ _ (comes_owed _ _ _ c.in_ok-ask_reset.ensures.ok) (comes_held _ _ _ c.in_ok-follow_held.ensures.ok) in
    looked_or _ _ _ _ _ _ _ held c.in_ok-follow_control.ensures.ends c.look.ensures.looked c.look.ensures.stays
