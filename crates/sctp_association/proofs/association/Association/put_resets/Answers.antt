use Rattle.std.proofs.Common.{ap, arith, inl, inr, refl, subst, sym, ◌∙◌}
use Rattle.sctp_association.proofs.Resetting.{puts_resets, reset_alike, reset_asks, reset_draft, reset_less, reset_most, reset_requests}
use Rattle.sctp_association.proofs.Others.{same_puts}
use Rattle.sctp_association.proofs.Putting.{nothing}
use Rattle.sctp_association.proofs.Resetting.{request_rest, reset_rest, reset_unmoved, response_rest, sent_later}
use Rattle.sctp_association.proofs.association.Association.put_resets.Goals as goal
use Rattle.std.specs.Prelude.{is_some}
use Rattle.sctp_association.specs.declared.association.Association.{Association}
use Rattle.sctp_association.specs.Halves.{sides_of}
use Rattle.sctp_association.specs.Leaving.{PutsReconfig, requests_due}
use Rattle.sctp_packets.specs.Draft.{Draft}
use Rattle.sctp_association.proofs.PuttingResets.{none_of, owes_none, puts_exactly, puts_neither, puts_waiting, some_mapped, with_some}
use Rattle.sctp_association.proofs.association.Association.put_resets.Goals.{then-is_some-via-then-is_some, then-is_some-via-else-is_some+then-is_some-2}
use Rattle.sctp_association.specs.Requesting.{HasRoom}
use Rattle.sctp_params.specs.ResetRequest.{reset_request_of}
use Rattle.std.specs.Prelude.{option_map}
use Rattle.sctp_association.proofs.Requesting.{keeps_same, puts_none}
use Rattle.sctp_association.proofs.Probing as probe

pub returns-then-is_some-clause-halves : goal.returns-then-is_some-clause-halves
returns-then-is_some-clause-halves c = reset_alike c.args.now c.args.self.now c.put_reconfig.new.self
    (reset_rest c.args.self.now c.next_request.new.self c.next_response-response.new.self c.put_reconfig.new.self
    c.next_request.ensures.rest c.next_response-response.ensures.rest c.put_reconfig.ensures.rest)

pub returns-then-is_some-clause-kept : goal.returns-then-is_some-clause-kept
returns-then-is_some-clause-kept c = reset_unmoved c.args.now c.args.self.now c.put_reconfig.new.self
    (reset_rest c.args.self.now c.next_request.new.self c.next_response-response.new.self c.put_reconfig.new.self
    c.next_request.ensures.rest c.next_response-response.ensures.rest c.put_reconfig.ensures.rest)

pub returns-then-is_some-clause-moments : goal.returns-then-is_some-clause-moments
returns-then-is_some-clause-moments c = reset_asks c.args.now c.args.self.now c.put_reconfig.new.self
    (reset_rest c.args.self.now c.next_request.new.self c.next_response-response.new.self c.put_reconfig.new.self
    c.next_request.ensures.rest c.next_response-response.ensures.rest c.put_reconfig.ensures.rest)
    (λ none. c.put_reconfig.ensures.more
    (ap (λ r. requests_due c.args.now r) (reset_requests c.args.self.now c.next_request.new.self c.next_response-response.new.self c.put_reconfig.new.self
    c.next_request.ensures.rest c.next_response-response.ensures.rest c.put_reconfig.ensures.rest)
    ∙ c.next_request.ensures.more none))
    (reset_most c.args.self.now c.next_request.new.self c.next_response-response.new.self c.put_reconfig.new.self
    c.next_request.ensures.rest c.next_response-response.ensures.rest c.put_reconfig.ensures.rest
    c.next_response-response.ensures.fewer)

pub returns-then-is_some-clause-made : goal.returns-then-is_some-clause-made
returns-then-is_some-clause-made c =
    let draft = reset_draft c.args.self.now c.next_request.new.self c.next_response-response.new.self c.put_reconfig.new.self
    c.next_request.ensures.rest c.next_response-response.ensures.rest c.put_reconfig.ensures.rest in
    let requests = reset_requests c.args.self.now c.next_request.new.self c.next_response-response.new.self c.put_reconfig.new.self
    c.next_request.ensures.rest c.next_response-response.ensures.rest c.put_reconfig.ensures.rest in
    let P : Draft → Type 0 = λ d.
    PutsReconfig (is_some c.next_response-response.result) (is_some c.in_ok-request.request) d c.put_reconfig.new.self.draft in
    let puts = subst P draft c.put_reconfig.ensures.puts in
    puts_resets c.args.now c.args.self.now c.put_reconfig.new.self _ _ puts
    (λ some. reset_less c.args.self.now c.next_request.new.self c.next_response-response.new.self c.put_reconfig.new.self
    c.next_request.ensures.rest c.next_response-response.ensures.rest c.put_reconfig.ensures.rest
    (c.next_response-response.ensures.taken some))
    (reset_alike c.args.now c.args.self.now c.put_reconfig.new.self
    (reset_rest c.args.self.now c.next_request.new.self c.next_response-response.new.self c.put_reconfig.new.self
    c.next_request.ensures.rest c.next_response-response.ensures.rest c.put_reconfig.ensures.rest))
    _ refl (λ some. (c.in_ok-request.ensures.due some).0)
    (λ some. sent_later c.args.now c.put_reconfig.new.self _ _
    (c.put_reconfig.ensures.under ∙ ap (λ r. is_some r.under_way) requests ∙ (c.in_ok-request.ensures.due some).1) draft (c.put_reconfig.ensures.once some))

-- ## Nothing is put

pub returns-then-room-lt-MOST_BYTES-clause-made : goal.returns-then-room-lt-MOST_BYTES-clause-made
returns-then-room-lt-MOST_BYTES-clause-made c = nothing (sides_of c.args.self.now)

pub returns-in_err-request-clause-made : goal.returns-in_err-request-clause-made
returns-in_err-request-clause-made c =
    same_puts c.args.self.now c.next_request.new.self (ap (λ (x : Association). x.draft.bytes) c.next_request.ensures.rest)
    (reset_alike c.args.now c.args.self.now c.next_request.new.self (request_rest c.args.self.now c.next_request.new.self c.next_request.ensures.rest))

pub returns-else-is_some-2-clause-made : goal.returns-else-is_some-2-clause-made
returns-else-is_some-2-clause-made c =
    let rest = response_rest c.args.self.now c.next_request.new.self c.next_response-response.new.self c.next_request.ensures.rest
    c.next_response-response.ensures.rest in
    let bytes = ap (λ (x : Association). x.draft.bytes) c.next_response-response.ensures.rest
    ∙ ap (λ (x : Association). x.draft.bytes) c.next_request.ensures.rest in
    same_puts c.args.self.now c.next_response-response.new.self bytes
    (reset_alike c.args.now c.args.self.now c.next_response-response.new.self rest)

-- ## Which RE-CONFIG

pub returns-then-room-lt-MOST_BYTES-clause-resets : goal.returns-then-room-lt-MOST_BYTES-clause-resets
returns-then-room-lt-MOST_BYTES-clause-resets c head = puts_none c.args.now c.args.self.now c.args.self.now
    (keeps_same c.args.self.now c.args.self.now refl refl)

pub returns-in_err-request-clause-resets : goal.returns-in_err-request-clause-resets
returns-in_err-request-clause-resets c head = puts_waiting c.args.now c.args.self.now c.next_request.new.self c.next_request.ensures.rest
    c.in_err-request.ensures.err

pub returns-else-is_some-2-clause-resets : goal.returns-else-is_some-2-clause-resets
returns-else-is_some-2-clause-resets c head = puts_neither c.args.now c.args.self.now c.next_request.new.self c.next_response-response.new.self
    c.next_response-response.new.self c.next_request.ensures.rest c.next_response-response.ensures.rest c.next_response-response.result
    (option_map reset_request_of c.in_ok-request.request) c.in_ok-request.ensures.begun c.in_ok-request.ensures.exact c.next_response-response.ensures.first
    c.next_response-response.ensures.left (none_of _ (sym c.if-is_some-2.ensures)) (ap (option_map reset_request_of) (none_of _ (sym c.if-is_some.ensures)))

pub returns-then-is_some-clause-resets : goal.returns-then-is_some-clause-resets
returns-then-is_some-clause-resets c head =
    let wire = option_map reset_request_of c.in_ok-request.request in
    let draft = reset_draft c.args.self.now c.next_request.new.self c.next_response-response.new.self c.put_reconfig.new.self
    c.next_request.ensures.rest c.next_response-response.ensures.rest c.put_reconfig.ensures.rest in
    let room = subst HasRoom (sym draft) (record { begun = head; room = omega (arith, c.if-room-lt-MOST_BYTES.false, c.room.ensures.value) }) in
    puts_exactly c.args.now c.args.self.now c.next_request.new.self c.next_response-response.new.self c.put_reconfig.new.self c.next_request.ensures.rest
    c.next_response-response.ensures.rest c.next_response-response.result wire c.in_ok-request.ensures.begun c.in_ok-request.ensures.exact
    c.next_response-response.ensures.first c.next_response-response.ensures.left c.put_reconfig.ensures.rest
    (c.put_reconfig.ensures.exact room c.in_ok-request.ensures.few)

-- ## Where none is put

pub returns-then-room-lt-MOST_BYTES-clause-none : goal.returns-then-room-lt-MOST_BYTES-clause-none
returns-then-room-lt-MOST_BYTES-clause-none c head short =
    absurd (omega (arith, c.if-room-lt-MOST_BYTES.true, c.room.ensures.value, c.room.ensures.least, short))

pub returns-else-is_some-2-clause-none : goal.returns-else-is_some-2-clause-none
returns-else-is_some-2-clause-none c head short = owes_none c.args.now c.args.self.now c.next_request.new.self c.next_response-response.new.self
    c.next_response-response.new.self c.next_request.ensures.rest c.next_response-response.ensures.rest c.next_response-response.result
    (option_map reset_request_of c.in_ok-request.request) c.in_ok-request.ensures.begun c.in_ok-request.ensures.exact c.next_response-response.ensures.first
    c.next_response-response.ensures.left (none_of _ (sym c.if-is_some-2.ensures)) (ap (option_map reset_request_of) (none_of _ (sym c.if-is_some.ensures)))

pub returns-then-is_some-clause-none : goal.returns-then-is_some-clause-none
returns-then-is_some-clause-none c head short =
    let draft = reset_draft c.args.self.now c.next_request.new.self c.next_response-response.new.self c.put_reconfig.new.self
    c.next_request.ensures.rest c.next_response-response.ensures.rest c.put_reconfig.ensures.rest in
    let room = subst HasRoom (sym draft) (record { begun = head; room = omega (arith, c.if-room-lt-MOST_BYTES.false, c.room.ensures.value) }) in
    let put = c.put_reconfig.ensures.exact room c.in_ok-request.ensures.few in
    let some = with_some c.next_response-response.result (option_map reset_request_of c.in_ok-request.request) (elim c.then-is_some.branch [
      | then-is_some-via-then-is_some w ↦ inl (some_mapped reset_request_of c.in_ok-request.request ∙ sym c.is_some.ensures ∙ w.if-is_some.true)
      | then-is_some-via-else-is_some+then-is_some-2 w ↦ inr (sym w.is_some-else-is_some.ensures ∙ w.if-is_some-2.true)
    ]) in
    absurd (omega (arith, short, put.longer some))

-- ## No HEARTBEAT

pub returns-then-room-lt-MOST_BYTES-clause-beats : goal.returns-then-room-lt-MOST_BYTES-clause-beats
returns-then-room-lt-MOST_BYTES-clause-beats c = probe.keeps_same c.args.self.now c.args.self.now refl refl

pub returns-in_err-request-clause-beats : goal.returns-in_err-request-clause-beats
returns-in_err-request-clause-beats c = probe.keeps_same c.args.self.now c.next_request.new.self
    (ap (λ (x : Association). x.draft.bytes) c.next_request.ensures.rest) (ap (λ (x : Association). x.heartbeat) c.next_request.ensures.rest)

pub returns-else-is_some-2-clause-beats : goal.returns-else-is_some-2-clause-beats
returns-else-is_some-2-clause-beats c =
    let rest = response_rest c.args.self.now c.next_request.new.self c.next_response-response.new.self c.next_request.ensures.rest
    c.next_response-response.ensures.rest in
    probe.keeps_same c.args.self.now c.next_response-response.new.self
    (ap (λ (x : Association). x.draft.bytes) c.next_response-response.ensures.rest ∙ ap (λ (x : Association). x.draft.bytes) c.next_request.ensures.rest)
    (ap (λ (x : Association). x.heartbeat) rest)

pub returns-then-is_some-clause-beats : goal.returns-then-is_some-clause-beats
returns-then-is_some-clause-beats c =
    let draft = reset_draft c.args.self.now c.next_request.new.self c.next_response-response.new.self c.put_reconfig.new.self
    c.next_request.ensures.rest c.next_response-response.ensures.rest c.put_reconfig.ensures.rest in
    let P : Draft → Type 0 = λ d.
    PutsReconfig (is_some c.next_response-response.result) (is_some c.in_ok-request.request) d c.put_reconfig.new.self.draft in
    let puts = subst P draft c.put_reconfig.ensures.puts in
    probe.keeps_put puts.is_put _ c.args.self.now c.put_reconfig.new.self puts.added refl (
    ap (λ (x : Association). x.heartbeat)
    (reset_rest c.args.self.now c.next_request.new.self c.next_response-response.new.self c.put_reconfig.new.self
    c.next_request.ensures.rest c.next_response-response.ensures.rest c.put_reconfig.ensures.rest)
    )
