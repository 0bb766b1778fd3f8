use Rattle.std.proofs.Common.{ap, ◌∙◌}
use Rattle.std.specs.List.{list_any}
use Rattle.sctp_sender.specs.Thresholds.{tells_low}
use Rattle.transfer_tests.proofs.sending.is_low_after.Goals as goal

pub returns-clause-low : goal.returns-clause-low
returns-clause-low c = c.tell_low.ensures ∙ ap (list_any (tells_low c.args.stream)) c.deref.ensures.value ∙ c.in_ok-released.ensures.low c.args.stream
