use Rattle.std.proofs.Common.{sym, ◌∙◌, arith}
use Rattle.std.proofs.lemmas.Bool.{false≢true}
use Rattle.std.proofs.lemmas.Bool.Decides.{nat_tests}
use Rattle.sctp_reassembly.proofs.lemmas.reassembly_queue.SizeBounds.{within_all}
use Rattle.sctp_reassembly.proofs.reassembly_queue.ReassemblyQueue.is_too_large_at.Goals as goal

pub returns-then-fits_beside_all-clause-value : goal.returns-then-fits_beside_all-clause-value
returns-then-fits_beside_all-clause-value c =
    let q = c.args.self.now in
    let (serial, small) = c.fits_beside_all.ensures.yes c.if-fits_beside_all.true in
    let most = within_all c.args.chunk.now q.held.unassembled serial (c.requires.fits c.if-not-chunk.false) in
    rw c.if-not-chunk.false (grind (arith, nat_tests))

pub returns-then-not-chunk-clause-none : goal.returns-then-not-chunk-clause-none
returns-then-not-chunk-clause-none c on serial short = absurd (false≢true (sym c.if-not-chunk.true ∙ on))

pub returns-clause-none : goal.returns-clause-none
returns-clause-none c on serial short = absurd (omega (arith, c.fits_beside_all.ensures.no c.if-fits_beside_all.false serial, short))
