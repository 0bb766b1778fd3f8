use Rattle.std.proofs.Common.{◌≡◌, ℕ, ◌+◌}
use Rattle.std.specs.Prelude.{false}
use Rattle.sctp_association.specs.Partly.{ResetsPart}
use Rattle.sctp_association.specs.Reconfigs.{ResetsEach, numbers_from}
use Rattle.sctp_association.specs.declared.association.Association.{Association}
use Rattle.sctp_params.specs.declared.param.param_reconfig_response.ReconfigResult.{ReconfigResult}
use Rattle.sctp_params.specs.declared.param.param_reconfig_response.ReconfigResult.TheVariants.{SuccessPerformed}
use Rattle.sctp_association.specs.Arrivals.{IsResetAt, ReceivedIn}
use Rattle.sctp_association.specs.Kept.{IsKept, RestStays}
use Rattle.sctp_association.specs.Halves.{receiver_of}
use Rattle.sctp_association.specs.Telling.{TellsEnd}
use Rattle.sctp_association.proofs.association.Association.perform_all.Given as goal

-- streams are reset, and the sender stays as it is
abbrev pub invariant-loop-stream : goal.invariant-loop-stream
invariant-loop-stream l = record {
  outbound : l.self.outbound ≡ l.initial.self.outbound;
  received : ReceivedIn (IsResetAt l.last_tsn) (receiver_of l.initial.self.inbound) (receiver_of l.self.inbound);
  kept : IsKept l.initial.self l.self;
  tells : TellsEnd l.initial.self l.self;
  rest : RestStays l.initial.self l.self;
  each : (left : ℕ) → left + l.stream ≡ l.streams → (outcome : ReconfigResult) (new : Association)
      → ResetsEach l.last_tsn false (numbers_from left l.stream) SuccessPerformed outcome l.self new
      → ResetsEach l.last_tsn false (numbers_from l.streams 0) SuccessPerformed outcome l.initial.self new;
  part : (left : ℕ) → left + l.stream ≡ l.streams → (new : Association) → ResetsPart l.last_tsn false (numbers_from left l.stream) l.self new
      → ResetsPart l.last_tsn false (numbers_from l.streams 0) l.initial.self new;
}
