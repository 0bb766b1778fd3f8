use Rattle.std.proofs.Common.{◌≡◌, rules}
use Rattle.sctp_c.specs.Written.{init_type, init_bytes}
use Rattle.sctp_c.proofs.writing.sctpr_write_init.Goals as goal

pub returns-in-Ok-clause-only : goal.returns-in-Ok-clause-only
returns-in-Ok-clause-only c =
    let typ : c.if-init-eq0.typ ≡ init_type c.args.init.now = search rules in
    let value : c.as_slice.result.now ≡ init_bytes c.args.init.now c.args.params.now = search rules in
    rw (typ, value) at c.write_under.ensures.only
