use Rattle.std.proofs.Common.{ap, length-append, subst, sym, ◌∙◌, ℕ, List, length}
use Rattle.std.proofs.lemmas.Bool.{false≢true}
use Rattle.std.specs.Prelude.{Bool, max, option_map}
use Rattle.sctp_association.proofs.PuttingResets.{exact_none, exact_put, exact_room, longer_put, some_mapped}
use Rattle.sctp_association.proofs.Resetting.{puts_nothing}
use Rattle.sctp_association.proofs.association.Association.put_reconfig.Goals as goal
use Rattle.sctp_association.specs.declared.association.Association.{Association}
use Rattle.sctp_association.specs.Packets.{Adds, put_where}
use Rattle.sctp_association.specs.Requesting.{sent_where}
use Rattle.sctp_chunks.specs.Reconfig.{reconfig_of}
use Rattle.sctp_chunks.specs.Wire.{reconfig_chunk}
use Rattle.sctp_params.specs.ResetRequest.{reset_request_of}

pub returns-in_default-clause-puts : goal.returns-in_default-clause-puts
returns-in_default-clause-puts c = puts_nothing _ _ c.args.self.now.draft

-- ## What it says

pub returns-in_default-clause-exact : goal.returns-in_default-clause-exact
returns-in_default-clause-exact c room few = exact_none c.args.now c.args.response (option_map reset_request_of c.args.request) c.args.self.now
    (sym c.in_default.ensures.exact)

pub returns-then-put-clause-exact : goal.returns-then-put-clause-exact
returns-then-put-clause-exact c room few =
    let old = c.args.self.now in
    let p = c.args.response in
    let q = option_map reset_request_of c.args.request in
    let r = reconfig_of c.in-Some.chunk in
    let is = sym c.in-Some.ensures.exact in
    let bytes = ap (λ (x : Association). x.draft.bytes) c.note_sent.ensures.rest in
    exact_put p q r is few old.draft room c.args.now c.put.result old c.note_sent.new.self c.if-put.true
    (subst (λ (x : List ℕ). Adds (put_where c.put.result (reconfig_chunk r)) old.draft.bytes x) (sym bytes) c.put.ensures.added)
    (c.note_sent.ensures.sent ∙ ap (λ (b : Bool). sent_where b c.args.now (max old.outbound.rto.rto 1) old.requests)
    (c.is_some-is_asking.ensures ∙ sym (some_mapped reset_request_of c.args.request)))
    (longer_put p q r is few old.draft room c.note_sent.new.self.draft.bytes
    (ap length (bytes ∙ c.put.ensures.put c.if-put.true) ∙ length-append _ _))

pub returns-clause-exact : goal.returns-clause-exact
returns-clause-exact c room few =
    let p = c.args.response in
    let q = option_map reset_request_of c.args.request in
    absurd (false≢true (sym c.if-put.false
    ∙ exact_room p q (reconfig_of c.in-Some.chunk) (sym c.in-Some.ensures.exact) few c.args.self.now.draft room c.put.result c.put.ensures.fits))
