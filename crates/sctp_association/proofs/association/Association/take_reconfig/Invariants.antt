use Rattle.sctp_association.specs.Arrivals.{CallsArrive}
use Rattle.std.specs.Prelude.{◌-◌, drop, false, take}
use Rattle.sctp_association.specs.Partly.{ParamsPart}
use Rattle.sctp_association.specs.Kept.{IsKept, RestStays}
use Rattle.sctp_association.specs.Reconfigs.{FollowsParams, ParamsOn}
use Rattle.sctp_association.specs.declared.association.Association.{Association}
use Rattle.sctp_association.specs.Halves.{halves_of}
use Rattle.sctp_association.specs.Telling.{TellsEnd}
use Rattle.sctp_association.proofs.association.Association.take_reconfig.Given as goal

-- what came was of the datagram, and the machine stays
abbrev pub invariant-loop-done : goal.invariant-loop-done
invariant-loop-done l = record {
  came : CallsArrive l.datagram (halves_of l.initial.self) (halves_of l.self);
  kept : IsKept l.initial.self l.self;
  tells : TellsEnd l.initial.self l.self;
  rest : RestStays l.initial.self l.self;
  made : (new : Association)
      → ParamsOn (2 - l._done) (take l.fn.chunk.length (drop l.fn.chunk.at l.datagram)) l.at l.has_request l.now l.self new
      → FollowsParams (take l.fn.chunk.length (drop l.fn.chunk.at l.datagram)) l.now l.initial.self new;
  part : (new : Association)
      → ParamsPart (2 - l._done) (take l.fn.chunk.length (drop l.fn.chunk.at l.datagram)) l.at l.has_request l.now l.self new
      → ParamsPart 2 (take l.fn.chunk.length (drop l.fn.chunk.at l.datagram)) 4 false l.now l.initial.self new;
}
