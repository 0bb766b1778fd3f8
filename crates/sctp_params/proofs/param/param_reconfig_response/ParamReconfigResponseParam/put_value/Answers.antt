use Rattle.std.proofs.Common.{arith}
use Rattle.std.proofs.lemmas.Grind.{common_steps}
use Rattle.sctp_params.specs.ReconfigResponse.{response_value}
use Rattle.sctp_params.proofs.param.param_reconfig_response.ParamReconfigResponseParam.put_value.Goals as goal

pub returns-in-Some-clause-items : goal.returns-in-Some-clause-items
unfolding response_value
returns-in-Some-clause-items c = grind (arith, common_steps)

pub returns-in_default-clause-items : goal.returns-in_default-clause-items
unfolding response_value
returns-in_default-clause-items c = grind (arith, common_steps)
