use Rattle.std.proofs.Common.{arith, rules}
use Rattle.sctp_params.proofs.ParamAgain.{reads_back}
use Rattle.sctp_params.proofs.param.param_chunk_list.ParamChunkListParam.unmarshal.Goals as goal

pub returns-clause-again : goal.returns-clause-again
returns-clause-again c = reads_back _ _ c.in_ok-header.ensures.has_value (search rules) (omega arith)
