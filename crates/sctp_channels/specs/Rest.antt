-- What a call leaves beside the list.
use Rattle.std.specs.Prelude.{◌≡◌}
use Rattle.sctp_channels.specs.declared.channels.Channels.{Channels}

-- the side, what a name may have, and what is still to be followed, looked at and reset
pub record Keeps (old new : Channels) : Type 0 where
  pub side : new.side ≡ old.side
  pub most_name : new.most_name ≡ old.most_name
  pub held : new.held ≡ old.held
  pub arrived : new.arrived ≡ old.arrived
  pub owed : new.owed ≡ old.owed

-- what is still to be looked at and reset
pub record KeepsDue (old new : Channels) : Type 0 where
  pub arrived : new.arrived ≡ old.arrived
  pub owed : new.owed ≡ old.owed
