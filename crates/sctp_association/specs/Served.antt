-- Streams on which the peer's messages are taken.
use Rattle.std.specs.Prelude.{◌≡◌, ℕ, ◌<◌, nat_lt, Bool, true, false, not, ◌&&◌, All}
use Rattle.sctp_association.specs.declared.inbound.Inbound.{Inbound}
use Rattle.sctp_association.specs.StreamSet.{is_in}
use Rattle.sctp_data.specs.ForwardTsn.{ForwardTsn}
use Rattle.sctp_receiver.specs.Receiver.{is_open}

-- the peer may use it: it is one of those that were agreed on, and no message on it was too long
abbrev pub is_usable : ℕ → Inbound → Bool
is_usable stream i = nat_lt stream i.streams && not (is_in stream i.discarded)

-- it is to be opened by what comes on it: the peer may use it, and it is not open
abbrev pub is_to_open : ℕ → Inbound → Bool
is_to_open stream i = not (is_open stream i.receiver) && is_usable stream i

-- the stream is open, if it is one of those that were agreed on, and no message on it was too long
abbrev pub IsServed : ℕ → Inbound → Type 0
IsServed stream i =
    stream < i.streams → is_in stream i.discarded ≡ false → is_open stream i.receiver ≡ true

-- so is each that a FORWARD-TSN names
abbrev pub AreServed : ForwardTsn → Inbound → Type 0
AreServed f i = All (λ named. IsServed named.identifier i) f.streams
