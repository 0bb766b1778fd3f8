use Rattle.std.proofs.Common.{◌≡◌, None}
use Rattle.sctp_channels.specs.Channels.{Gains}
use Rattle.sctp_channels.specs.Reading.{TakesControlOf}
use Rattle.sctp_channels.specs.Rest.{KeepsDue}
use Rattle.sctp_channels.specs.Steps.{Comes, state_of}
use Rattle.sctp_channels.proofs.channels.Channels.follow_control.Given as goal

-- no channel goes, messages of RFC 8832 alone are taken out, and each is followed
abbrev pub invariant-loop-done : goal.invariant-loop-done
invariant-loop-done l = record {
  side : l.self.side ≡ l.fn.self.side;
  gains : Gains l.fn.self.side l.fn.self.channels.items l.self.channels.items;
  control : TakesControlOf l.now l.stream l.fn.association l.association;
  due : KeepsDue l.fn.self l.self;
  held : l.self.held ≡ None;
  comes : Comes l.now l._done (state_of l.fn.self l.fn.association) (state_of l.self l.association);
}
