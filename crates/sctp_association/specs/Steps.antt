-- What became of a chunk, and of a datagram.
use Rattle.std.specs.Prelude.{Bool, true, false}
use Rattle.sctp_association.specs.declared.association.arrivals.Step.{Step}
use Rattle.sctp_association.specs.declared.association.arrivals.Step.TheVariants.{Next, Stop, Cut, Refused}
use Rattle.sctp_association.specs.declared.association.Taken.{Taken}
use Rattle.sctp_association.specs.declared.association.Taken.TheVariants.{Accepted, Partly, Dropped}

-- it is taken, or a part of it is
abbrev pub is_taken : Step → Bool
is_taken Next = true
is_taken Stop = true
is_taken Cut = true
is_taken (Refused r) = false

-- its chunks are taken, or some of them are
abbrev pub is_accepted : Taken → Bool
is_accepted Accepted = true
is_accepted Partly = true
is_accepted (Dropped r) = false
