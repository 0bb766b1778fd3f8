use Rattle.std.proofs.Common.{◌≡◌}
use Rattle.sctp_channels.specs.Channels.{Gains}
use Rattle.sctp_channels.specs.Reading.{TakesControl}
use Rattle.sctp_channels.specs.Steps.{Comes, state_of}
use Rattle.sctp_channels.proofs.channels.Channels.poll.Given as goal

-- no channel goes, no message of the application is taken out, and an event is taken each time
abbrev pub invariant-loop-done : goal.invariant-loop-done
invariant-loop-done l = record {
  side : l.self.side ≡ l.fn.self.side;
  gains : Gains l.fn.self.side l.fn.self.channels.items l.self.channels.items;
  control : TakesControl l.now l.fn.association l.association;
  comes : Comes l.now l._done (state_of l.fn.self l.fn.association) (state_of l.self l.association);
}
