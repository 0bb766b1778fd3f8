use Rattle.std.proofs.Common.{Some, ap, refl, subst, sym, true, ◌≡◌, ◌∙◌}
use Rattle.std.proofs.lemmas.Bool.{false≢true}
use Rattle.std.proofs.lemmas.Option.{none-some}
use Rattle.sctp_association.proofs.Kept.{same_machine, same_peer}
use Rattle.sctp_association.proofs.Reconfigs.{awaited, listed_peer, request_answered, request_none, request_performed}
use Rattle.sctp_association.specs.Reconfigs.{Performs, ResetsListed, with_peer}
use Rattle.sctp_association.specs.declared.association.Association.{Association}
use Rattle.sctp_params.specs.ResetRequest.{ResetRequest, reset_request_of}
use Rattle.sctp_params.specs.declared.param.param_reconfig_response.ReconfigResult.{ReconfigResult}
use Rattle.sctp_reset.specs.Peer.{after_answer, after_request, due_for}
use Rattle.sctp_reset.specs.declared.peer_requests.Due.TheVariants.{Perform}
use Rattle.sctp_reset.specs.declared.peer_requests.PeerRequests.{PeerRequests}
use Rattle.sctp_util.proofs.Cases.{some-same}
use Rattle.sctp_association.proofs.Arriving.{follows_same}
use Rattle.sctp_association.proofs.First.{on_err}
use Rattle.sctp_association.proofs.Partly.{part_request}
use Rattle.sctp_association.specs.Partly.{ResetsPartListed}
use Rattle.sctp_association.proofs.association.Association.take_request.Goals as goal

pub returns-in_default-clause-came : goal.returns-in_default-clause-came
returns-in_default-clause-came c = follows_same _ _ _ _ refl

pub returns-in_default-request-clause-came : goal.returns-in_default-request-clause-came
returns-in_default-request-clause-came c = follows_same _ _ _ _ refl

pub returns-in_err-outcome-clause-came : goal.returns-in_err-outcome-clause-came
returns-in_err-outcome-clause-came c = c.perform.ensures.came

pub returns-then-is_awaited-clause-came : goal.returns-then-is_awaited-clause-came
returns-then-is_awaited-clause-came c = c.perform.ensures.came

pub returns-else-is_awaited-clause-came : goal.returns-else-is_awaited-clause-came
returns-else-is_awaited-clause-came c = c.perform.ensures.came

pub returns-in_default-peer_requests-clause-came : goal.returns-in_default-peer_requests-clause-came
returns-in_default-peer_requests-clause-came c = c.perform.ensures.came

pub returns-in_default-clause-made : goal.returns-in_default-clause-made
returns-in_default-clause-made c =
    request_none (reset_request_of c.args.request.now) c.args.self.now _ _ c.in_default.is (same_machine c.args.self.now _ _ refl)

pub returns-in_default-request-clause-made : goal.returns-in_default-request-clause-made
returns-in_default-request-clause-made c =
    request_answered (reset_request_of c.args.request.now) c.args.self.now _ _ c.in-Some.peer c.request.new.self c.in-Some.is c.request.ensures.rest
    c.request.result c.request.ensures.due c.in_default-request.not-Perform (same_peer c.args.self.now _ _)

-- the streams were reset, and the request waits for its answer
module _ (r : ResetRequest) (a b : Association) (p q : PeerRequests) (o : ReconfigResult) (came : q ≡ after_request r.reconfig_request_sequence_number p)
    (due : due_for r.reconfig_request_sequence_number p ≡ Perform)
    (listed : ResetsListed r.sender_last_tsn r.stream_identifiers o (with_peer q a) b) where
  still : b.peer_requests ≡ Some q
  still = listed_peer r.sender_last_tsn r.stream_identifiers o (with_peer q a) b listed

  waits : (k : PeerRequests) → b.peer_requests ≡ Some k → k ≡ q
  waits k is = some-same (sym is ∙ still)

  is-awaited : (k : PeerRequests) → b.peer_requests ≡ Some k → k.is_awaited ≡ true
  is-awaited k is = ap (λ (x : PeerRequests). x.is_awaited) (waits k is ∙ came) ∙ awaited r.reconfig_request_sequence_number p due

  performs : (k n : PeerRequests) → b.peer_requests ≡ Some k → n ≡ after_answer o k → (c : Association) → c ≡ with_peer n b → Performs r q a c
  performs k n is made c same = record {
    outcome = o;
    reset = b;
    listed = listed;
    answered = same ∙ ap (λ x. with_peer x b) (made ∙ ap (after_answer o) (waits k is));
  }

pub returns-then-is_awaited-clause-made : goal.returns-then-is_awaited-clause-made
returns-then-is_awaited-clause-made c =
    let r = reset_request_of c.args.request.now in
    let a = c.args.self.now in
    let q = c.request.new.self in
    let due = sym c.in-Perform.ensures.due in
    let listed = subst (λ x. ResetsListed r.sender_last_tsn r.stream_identifiers c.in_ok-outcome.outcome x c.perform.new.self) (same_peer a (Some q) _)
    c.in_ok-outcome.ensures.listed in
    request_performed r a _ _ c.in-Some.peer q c.in-Some.is c.request.ensures.rest c.request.result c.request.ensures.due c.in-Perform.is
    (performs r a c.perform.new.self c.in-Some.peer q c.in_ok-outcome.outcome c.request.ensures.rest due listed
    c.in-Some-peer_requests.peer c.answered.new.self c.in-Some-peer_requests.is c.answered.ensures _ (same_peer c.perform.new.self _ _))

pub returns-else-is_awaited-clause-made : goal.returns-else-is_awaited-clause-made
returns-else-is_awaited-clause-made c =
    let r = reset_request_of c.args.request.now in
    let a = c.args.self.now in
    let q = c.request.new.self in
    let listed = subst (λ x. ResetsListed r.sender_last_tsn r.stream_identifiers c.in_ok-outcome.outcome x c.perform.new.self) (same_peer a (Some q) _)
    c.in_ok-outcome.ensures.listed in
    let is : c.in-Some-peer_requests.peer.is_awaited ≡ true =
    is-awaited r a c.perform.new.self c.in-Some.peer q c.in_ok-outcome.outcome c.request.ensures.rest (sym c.in-Perform.ensures.due) listed
    c.in-Some-peer_requests.peer c.in-Some-peer_requests.is in
    absurd (false≢true (sym c.if-is_awaited.false ∙ c.is_awaited.ensures ∙ is))

pub returns-in_default-peer_requests-clause-made : goal.returns-in_default-peer_requests-clause-made
returns-in_default-peer_requests-clause-made c =
    let r = reset_request_of c.args.request.now in
    let a = c.args.self.now in
    let q = c.request.new.self in
    let listed = subst (λ x. ResetsListed r.sender_last_tsn r.stream_identifiers c.in_ok-outcome.outcome x c.perform.new.self) (same_peer a (Some q) _)
    c.in_ok-outcome.ensures.listed in
    absurd (none-some q (sym c.in_default-peer_requests.is
    ∙ still r a c.perform.new.self c.in-Some.peer q c.in_ok-outcome.outcome c.request.ensures.rest (sym c.in-Perform.ensures.due) listed))

-- ## Where memory is wanting

pub returns-in_err-outcome-clause-part : goal.returns-in_err-outcome-clause-part
returns-in_err-outcome-clause-part c =
    let r = reset_request_of c.args.request.now in
    let a = c.args.self.now in
    let q = c.request.new.self in
    on_err _ (part_request r _ c.in-Some.peer q a c.perform.new.self c.in-Some.is c.request.ensures.rest (sym c.in-Perform.ensures.due)
    (subst (λ x. ResetsPartListed r.sender_last_tsn r.stream_identifiers x c.perform.new.self) (same_peer a (Some q) _) c.in_err-outcome.ensures.part))
