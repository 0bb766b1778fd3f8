use Rattle.std.proofs.Common.{◌≤◌, inl, inr, length, rules}
use Rattle.std.proofs.lemmas.Result.{err_from_is_err_and}
use Rattle.sctp_chunks.specs.Kind.{KindFault}
use Rattle.sctp_c.proofs.Padded.{fault_framed}
use Rattle.sctp_c.proofs.packet.read_next.Goals as goal

pub returns-in_err-check_frame-clause-fault : goal.returns-in_err-check_frame-clause-fault
unfolding KindFault
returns-in_err-check_frame-clause-fault c =
    let p = err_from_is_err_and c.from_residual.result c.from_residual.ensures.1 in
    let headed : 4 ≤ length c.args.rest.now = search rules in
    rw (p.1, p.2) (inr (inr (inr (headed, inl c.in_err-check_frame.ensures.fault))))

pub returns-in_err-length-clause-fault : goal.returns-in_err-length-clause-fault
returns-in_err-length-clause-fault c =
    let p = err_from_is_err_and c.from_residual-in_err-length.result c.from_residual-in_err-length.ensures.1 in
    let headed : 4 ≤ length c.args.rest.now = search rules in
    rw (p.1, p.2) (elim (fault_framed _ c.args.rest.now c.in_ok-check_frame.ensures.framed c.in_err-length.ensures.fault) [
      | inl memory ↦ inl memory
      | inr fault ↦ inr (inr (inr (headed, fault)))
    ])
