use Rattle.std.proofs.Common.{arith}
use Rattle.std.proofs.lemmas.Grind.{common_steps}
use Rattle.sctp_params.specs.ResetRequest.{reset_request_value}
use Rattle.sctp_params.proofs.param.param_outgoing_reset_request.ParamOutgoingResetRequestParam.put_value.Goals as goal

pub returns-clause-items : goal.returns-clause-items
unfolding reset_request_value
returns-clause-items c = grind (arith, common_steps)
