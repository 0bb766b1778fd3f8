use Rattle.std.proofs.Common.{◌≡◌, ◌+◌, [], length, true}
use Rattle.std.specs.List.{AllByRecursion}
use Rattle.sctp_association.proofs.Each.{Owed}
use Rattle.sctp_association.proofs.Ends.{EndedSo}
use Rattle.sctp_association.proofs.Paths.{OwedMove}
use Rattle.sctp_association.proofs.Sacks.{OwedSack}
use Rattle.sctp_association.specs.Beginnings.{ArrivesAsOffered}
use Rattle.sctp_association.specs.Once.{none_seen, seen}
use Rattle.sctp_association.specs.Telling.{Tells}
use Rattle.sctp_association.specs.Coming.{TakesDataOf}
use Rattle.sctp_association.specs.Halves.{halves_of}
use Rattle.sctp_association.specs.Paths.{MovesBehind, all_go_on}
use Rattle.sctp_association.specs.Sacks.{TakesSacksOf}
use Rattle.sctp_association.specs.Parts.{WalksTo}
use Rattle.sctp_association.specs.Walks.{Walks}
use Rattle.sctp_association.specs.declared.association.Association.{Association}
use Rattle.sctp_datagram.specs.Carried.{IsChunkOf}
use Rattle.sctp_association.proofs.association.Association.take_others.Given as goal

-- what is still to come is of the datagram, and what came was
abbrev pub invariant-loop : goal.invariant-loop
invariant-loop l = record {
  bytes : l.chunks.bytes ≡ l.initial.chunks.bytes;
  own : AllByRecursion (IsChunkOf l.datagram) l.chunks.left;
  came : ArrivesAsOffered l.datagram l.initial.self l.self;
  tells : Tells l.initial.self l.self;
  each : TakesDataOf l.tag l.initial.self → Owed l.tag l.datagram l.chunks.left l.self l.initial.chunks.left l.initial.self;
  sacks : (l.first ≡ 3 → ⊥) → TakesSacksOf l.tag l.initial.self
      → OwedSack l.tag l.datagram l.chunks.left l.self l.initial.chunks.left (halves_of l.initial.self) l.once;
  path : TakesSacksOf l.tag l.initial.self → all_go_on l.initial.chunks.left ≡ true
      → OwedMove l.tag l.datagram l.now l.chunks.left l.self l.initial.self.outbound
      (λ z. MovesBehind l.first l.initial.chunks.left l.datagram l.now l.initial.self.outbound z) l.once;
  count : l.counter + length l.chunks.left ≡ length l.initial.chunks.left;
  idle : l.initial.chunks.left ≡ [] → l.self ≡ l.initial.self;
  over : EndedSo l.datagram l.initial.self l.self;
  walks : (last : Association) → Walks l.tag l.datagram l.now l.once l.chunks.left l.self last
      → Walks l.tag l.datagram l.now (seen l.first none_seen) l.initial.chunks.left l.initial.self last;
  in_part : (last : Association) → WalksTo l.tag l.datagram l.now l.once l.chunks.left l.self last
      → WalksTo l.tag l.datagram l.now (seen l.first none_seen) l.initial.chunks.left l.initial.self last;
}
