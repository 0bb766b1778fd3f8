use Rattle.std.proofs.Common.{arith}
use Rattle.sctp_params.proofs.ParamAgain.{reads_back}
use Rattle.sctp_params.proofs.param.param_forward_tsn_supported.ParamForwardTsnSupportedParam.unmarshal.Goals as goal

pub returns-clause-again : goal.returns-clause-again
returns-clause-again c = reads_back _ _ c.in_ok-open_param.ensures.has_value tt (omega arith)
