use Rattle.std.proofs.Common.{arith}
use Rattle.std.proofs.lemmas.List.{length-append}
use Rattle.sctp_util.proofs.Fields.{length_be16}
use Rattle.sctp_handshake.proofs.init_value.put_param.Goals as goal

pub returns-then-is_offered-clause-spare : goal.returns-then-is_offered-clause-spare
returns-then-is_offered-clause-spare c = rw c.if-is_offered.true (simp (length-append, length_be16) (omega arith))
