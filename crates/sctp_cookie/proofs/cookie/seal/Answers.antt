use Rattle.std.proofs.Common.{ap, ◌∙◌}
use Rattle.sctp_cookie.specs.Cookie.{be64}
use Rattle.sctp_cookie.proofs.Parts.{sealed-written}
use Rattle.sctp_cookie.proofs.cookie.seal.Goals as goal

pub returns-clause-ok : goal.returns-clause-ok
unfolding be64
returns-clause-ok g c =
    c.in_ok-freeze.ensures.ok
    ∙ sealed-written (g.M.Mac.code_of c.args.mac.now c.args.key.now) c.args.moment c.args.payload.now _ _ _ _ _ _
    c.in_ok-buf.ensures.items c.in_ok-extend_from_slice.ensures.ok c.in_ok-extend_from_slice-2.ensures.ok
    (c.code-code.ensures ∙ ap (g.M.Mac.code_of c.args.mac.now c.args.key.now) c.as_slice.ensures) c.in_ok-extend_from_slice-3.ensures.ok c.to_be_bytes.ensures
