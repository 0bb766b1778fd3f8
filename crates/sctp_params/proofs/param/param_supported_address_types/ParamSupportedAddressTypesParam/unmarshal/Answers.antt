use Rattle.std.proofs.Common.{arith, rules}
use Rattle.sctp_params.proofs.ParamAgain.{reads_back}
use Rattle.sctp_params.proofs.param.param_supported_address_types.ParamSupportedAddressTypesParam.unmarshal.Goals as goal

pub returns-clause-found : goal.returns-clause-found
returns-clause-found c = search rules

pub returns-clause-again : goal.returns-clause-again
returns-clause-again c = reads_back _ _ c.in_ok-_header.ensures.has_value (returns-clause-found c).value (omega arith)
