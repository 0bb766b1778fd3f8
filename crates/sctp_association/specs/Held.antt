-- What an association holds of its peer's messages, in bounds that its config gives.
use Rattle.std.specs.Prelude.{ℕ, ◌+◌, ◌*◌, ◌≤◌, length, Option, Some, None, IfSome}
use Rattle.std.specs.List.{sum_by}
use Rattle.sctp_association.specs.declared.association.Association.{Association}
use Rattle.sctp_association.specs.declared.config.Config.{Config}
use Rattle.sctp_association.specs.declared.inbound.Inbound.{Inbound}
use Rattle.sctp_association.specs.Reached.{most_user_data}
use Rattle.sctp_receiver.specs.Limits.{chunk_cost, cost_of, held_cost}
use Rattle.sctp_receiver.specs.Receiver.{Reception, max_sack_entries}
use Rattle.sctp_receiver.specs.ReceiverRuns.{chunks_held}

-- by the cost of a chunk, the chunks that are held cost no more than the window and one chunk for each TSN within reach
abbrev pub HoldsFewChunks : Config → Reception → Type 0
HoldsFewChunks g r = chunk_cost * chunks_held r ≤ g.window + g.reach * chunk_cost

-- with their bytes, they cost no more than the window and one longest chunk for each TSN within reach
abbrev pub CostsLittle : Config → Reception → Type 0
CostsLittle g r = sum_by cost_of r.streams ≤ g.window + g.reach * (most_user_data + chunk_cost)

-- no more TSNs are kept beyond the cumulative one than there are within reach
abbrev pub KeepsFewTsns : Config → Reception → Type 0
KeepsFewTsns g r = length r.beyond ≤ g.reach

-- no more duplicates are noted than one SACK can report
abbrev pub NotesFewDuplicates : Config → Reception → Type 0
NotesFewDuplicates g r = length r.duplicates ≤ max_sack_entries

-- no more streams are open than are taken of the peer
abbrev pub OpensFewStreams : Config → Reception → Type 0
OpensFewStreams g r = length r.streams ≤ g.inbound_streams

-- P of the config and of the receiver, where there is one
abbrev pub OfReceiver : (Config → Reception → Type 0) → Association → Type 0
OfReceiver P a = IfSome a.inbound (λ i. P a.config i.receiver)

-- so of every association, whatever calls it had
abbrev pub OfEach : (Config → Reception → Type 0) → Type 0
OfEach P = (a : Association) → OfReceiver P a

-- what is held, in bytes, with the cost of each chunk
abbrev pub held_by : Option Inbound → ℕ
held_by None = 0
held_by (Some i) = held_cost i.receiver.streams
