use Rattle.sctp_model.specs.LinkRecord.{Setup}
use Rattle.sctp_model.specs.Steps.{History, StandsFor}
use Rattle.link_tests.proofs.callers.give.Given as goal

-- the link stands for a history where it stood for one at first
abbrev pub invariant-loop-event : goal.invariant-loop-event
invariant-loop-event g l =
    (setup : Setup) (before : History) → StandsFor setup l.fn.link.recorded before → (after : History) × StandsFor setup l.link.recorded after
