use Rattle.sctp_chunks.specs.ErrorCause.{cause_value_at}
use Rattle.sctp_params.specs.ParamFraming.{param_value_at}
use Rattle.sctp_datagram.proofs.causes.cause_at.Goals as goal

pub returns-in-Ok-clause-read : goal.returns-in-Ok-clause-read
unfolding cause_value_at param_value_at
returns-in-Ok-clause-read c =
    let read = c.in-Ok.ensures.read in
    record {
      is_cause = record { headed = read.is_param.headed; least = read.is_param.least; within = read.is_param.within };
      code = read.typ;
      value_at = read.value_at;
      value_length = read.value_length;
      value = read.value;
      later = read.later;
    }
