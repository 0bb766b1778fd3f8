use Rattle.std.proofs.Common.{◌≡◌, ℕ, take}
use Rattle.std.specs.Prelude.{All, Some}
use Rattle.sctp_association.specs.AcksDue.{acks_in}
use Rattle.sctp_association.specs.Telling.{TellsIn}
use Rattle.sctp_association.specs.Brought.{NotesOnly}
use Rattle.sctp_association.specs.Arrivals.{IsOpeningNamed, Received}
use Rattle.sctp_association.specs.Served.{IsServed}
use Rattle.sctp_association.specs.StreamSet.{is_in}
use Rattle.sctp_data.specs.ForwardTsn.{forward_tsn_of}
use Rattle.sctp_association.proofs.inbound.Inbound.open_named.Given as goal

-- the streams before this one are served
abbrev pub invariant-loop-named : goal.invariant-loop-named
invariant-loop-named l = record {
  tells : TellsIn (Some l.initial.self) l.initial.events (Some l.self) l.events;
  received : Received (IsOpeningNamed (forward_tsn_of l.skip)) l.initial.self.receiver l.self.receiver;
  limits : l.self.receiver.limits ≡ l.initial.self.receiver.limits;
  streams : l.self.streams ≡ l.initial.self.streams;
  same : (n : ℕ) → is_in n l.self.discarded ≡ is_in n l.initial.self.discarded;
  place : l.self.receiver.cumulative_tsn ≡ l.initial.self.receiver.cumulative_tsn;
  acks : acks_in l.self ≡ acks_in l.initial.self;
  unknown : l.self.unknown_stream ≡ l.initial.self.unknown_stream;
  notes : NotesOnly (λ s. ⊥) (λ s. ⊥) l.initial.events l.events;
  served : All (λ n. IsServed n.identifier l.self) (take l.named-index l.named-items);
}
