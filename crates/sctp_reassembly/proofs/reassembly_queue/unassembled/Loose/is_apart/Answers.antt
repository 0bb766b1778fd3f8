use Rattle.std.proofs.Common.{subst, remove}
use Rattle.std.specs.Prelude.{IfSome}
use Rattle.std.proofs.lemmas.Bool.{eqb-true}
use Rattle.sctp_serial.specs.Runs.{HasNoRun}
use Rattle.sctp_reassembly.proofs.lemmas.reassembly_queue.Unassembled.{same_list}
use Rattle.sctp_reassembly.proofs.reassembly_queue.unassembled.Loose.is_apart.Goals as goal

pub returns-in-Some : goal.returns-in-Some
returns-in-Some c here =
    let xs = c.self.inside.chunks.items in
    let known = subst (λ o. IfSome o (λ p. HasNoRun (remove xs p))) c.in-Some.is c.self.invariant.apart in
    subst (λ ys. HasNoRun (remove ys c.args.place)) (same_list c.self.view_is) (subst (λ p. HasNoRun (remove xs p)) (eqb-true _ _ here) known)
