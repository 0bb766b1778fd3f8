use Rattle.sctp_association.specs.Arrivals.{Does, Follows, ParamAsks}
use Rattle.sctp_association.specs.Kept.{IsKept, RestStays}
use Rattle.std.specs.Prelude.{drop, true}
use Rattle.sctp_association.specs.Partly.{ResetsPart}
use Rattle.sctp_association.specs.Reconfigs.{ResetsEach}
use Rattle.sctp_association.specs.declared.association.Association.{Association}
use Rattle.sctp_params.specs.declared.param.param_reconfig_response.ReconfigResult.{ReconfigResult}
use Rattle.sctp_params.specs.declared.param.param_reconfig_response.ReconfigResult.TheVariants.{SuccessPerformed}
use Rattle.sctp_association.specs.Halves.{halves_of}
use Rattle.sctp_params.specs.Param.{outgoing_reset_request}
use Rattle.sctp_params.specs.ResetRequest.{reset_request_of}
use Rattle.sctp_association.specs.Telling.{TellsEnd}
use Rattle.sctp_association.proofs.association.Association.perform.Given as goal

-- streams are reset that the request names
abbrev pub invariant-loop-stream : goal.invariant-loop-stream
invariant-loop-stream l = record {
  came : Follows (ParamAsks (outgoing_reset_request (reset_request_of l.request))) Does (halves_of l.initial.self) (halves_of l.self);
  kept : IsKept l.initial.self l.self;
  tells : TellsEnd l.initial.self l.self;
  rest : RestStays l.initial.self l.self;
  each : (outcome : ReconfigResult) (new : Association)
      → ResetsEach l.request.sender_last_tsn true (drop l.stream-index l.stream-items) l.outcome outcome l.self new
      → ResetsEach l.request.sender_last_tsn true l.stream-items SuccessPerformed outcome l.initial.self new;
  part : (new : Association) → ResetsPart l.request.sender_last_tsn true (drop l.stream-index l.stream-items) l.self new
      → ResetsPart l.request.sender_last_tsn true l.stream-items l.initial.self new;
}
