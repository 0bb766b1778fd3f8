-- Arrivals were looked at, or so many messages were followed that they were not.
use Rattle.std.proofs.Common.{◌≡◌, ◌⊎◌, ℕ, ◌^◌, true, false, None, inl, inr}
use Rattle.sctp_association.specs.Reads.{message_in}
use Rattle.sctp_association.specs.declared.association.Association.{Association}
use Rattle.sctp_channels.proofs.Coming.{comes_behind, comes_looked, comes_then}
use Rattle.sctp_channels.specs.Reading.{is_control}
use Rattle.sctp_channels.specs.Steps.{Comes, IsLooked, State, state_of}
use Rattle.sctp_channels.specs.declared.channels.Channels.{Channels}

pub looked_or : (now stream : ℕ) (r s : State) (c d : Channels) (a : Association) → Comes now 0 r s
    → (is_control (message_in stream a.inbound) ≡ false) ⊎ Comes now (2 ^ 20) s (state_of c a)
    → (is_control (message_in stream a.inbound) ≡ false → (d.arrived ≡ None) × IsLooked (state_of c a) (state_of d a))
    → (is_control (message_in stream a.inbound) ≡ true → d ≡ c) → (d.arrived ≡ None) ⊎ Comes now (2 ^ 20) r (state_of d a)
looked_or now stream r s c d a comes (inl followed) seen stays = inl (seen followed).0
looked_or now stream r s c d a comes (inr many) seen stays =
    inr (
    comes_then now (2 ^ 20) r (state_of c a) (state_of d a) (comes_behind now (2 ^ 20) r s (state_of c a) comes many) (comes_looked now stream c d a seen stays)
    )
