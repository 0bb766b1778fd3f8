use Rattle.std.proofs.Common.{◌-◌, ◌≤◌, length, arith, refl}
use Rattle.sctp_cookie.proofs.Parts.{long-sealed, parts-sealed, sealed-read}
use Rattle.sctp_cookie.proofs.cookie.open.Goals as goal

pub returns-in_err-moment-clause-only : goal.returns-in_err-moment-clause-only
returns-in_err-moment-clause-only g c moment payload fits is =
    let long : 8 ≤ length c.in_ok-content.content.now =
    long-sealed (g.M.Mac.code_of c.args.mac.now c.args.key.now) c.args.cookie.now c.in_ok-content.content.now moment payload
    (g.met.M.Mac.size c.args.mac.now c.args.key.now) is c.in_ok-content.ensures.cases.0 in
    let short = c.in_err-moment.ensures.cases in
    absurd (omega arith)

pub returns-clause-found : goal.returns-clause-found
returns-clause-found g c =
    let front = c.in_ok-content.ensures.cases in
    let parts = c.in_ok-moment.ensures.cases in
    let same = c.if-not-constant_time_eq.ensures in
    sealed-read (g.M.Mac.code_of c.args.mac.now c.args.key.now) c.args.cookie.now c.in_ok-content.content.now c.in_ok-content.code.now
    c.in_ok-moment.moment.now c.in_ok-moment.payload.now c.code.result c.from_be_bytes.result (length c.args.cookie.now - 32)
    (λ i. omega (arith, c.type_inv.cookie i)) front.0 front.1 parts.0 parts.1 parts.2 c.code.ensures (same.0 refl) c.from_be_bytes.ensures

pub returns-clause-only : goal.returns-clause-only
returns-clause-only g c moment payload fits is =
    let front = c.in_ok-content.ensures.cases in
    let parts = c.in_ok-moment.ensures.cases in
    parts-sealed (g.M.Mac.code_of c.args.mac.now c.args.key.now) c.args.cookie.now c.in_ok-content.content.now
    c.in_ok-moment.moment.now c.in_ok-moment.payload.now c.from_be_bytes.result moment payload fits
    (g.met.M.Mac.size c.args.mac.now c.args.key.now) is front.0 parts.0 parts.1 c.from_be_bytes.ensures
