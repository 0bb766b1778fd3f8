use Rattle.sctp_association.proofs.Telling.{end_then, to_same}
use Rattle.std.proofs.Common.{ℕ, ◌≡◌, ◌+◌, ◌-◌, ap, arith, false, refl, rules, subst, sym, ◌∙◌}
use Rattle.sctp_association.proofs.Reconfigs.{all_step, all_stop}
use Rattle.sctp_association.specs.Reconfigs.{ResetsEach, inbound_agreed, numbers_from}
use Rattle.sctp_handshake.specs.Machines.{agreed}
use Rattle.sctp_handshake.specs.declared.machine.Machine.{Machine}
use Rattle.sctp_params.specs.declared.param.param_reconfig_response.ReconfigResult.TheVariants.{InProgress, SuccessPerformed}
use Rattle.sctp_association.proofs.Arrived.{one_of_all, received_in_of, received_in_same, received_in_then}
use Rattle.sctp_association.proofs.Known.{kept_then, rest_same, rest_then}
use Rattle.sctp_association.proofs.First.{on_err}
use Rattle.sctp_association.proofs.Partly.{part_all, part_last}
use Rattle.sctp_association.specs.Partly.{ResetsPart}
use Rattle.sctp_association.proofs.association.Association.perform_all.Goals as goal
use Rattle.sctp_association.proofs.association.Association.perform_all.Goals.{in-None, in-Some}

pub loop-stream-init : goal.loop-stream-init
loop-stream-init c = record {
  outbound = refl;
  received = received_in_same _ _ _ refl;
  kept = record { config = refl; key = refl; machine = refl; owes = λ t e. e; sending = (λ e. e, λ e. e) };
  tells = to_same;
  rest = rest_same _;
  each = λ left is outcome new h. subst (λ n. ResetsEach c.args.last_tsn false (numbers_from n 0) SuccessPerformed outcome c.args.self.now new)
      (omega (arith, is)) h;
  part = λ left is new h. subst (λ n. ResetsPart c.args.last_tsn false (numbers_from n 0) c.args.self.now new) (omega (arith, is)) h;
}

pub loop-stream-preserved : goal.loop-stream-preserved
loop-stream-preserved c = record {
  outbound = c.perform_one.ensures.outbound ∙ c.loop-stream.invariant.outbound;
  received = received_in_then _ _ _ _ c.loop-stream.invariant.received (received_in_of _ _ (one_of_all _ _) _ _ c.perform_one.ensures.received);
  kept = kept_then _ _ _ c.loop-stream.invariant.kept c.perform_one.ensures.kept;
  tells = end_then c.loop-stream.invariant.tells c.perform_one.ensures.tells;
  rest = rest_then _ _ _ c.loop-stream.invariant.rest c.perform_one.ensures.rest;
  each = λ left is outcome new h. c.loop-stream.invariant.each (left + 1) (omega (arith, is)) outcome new
      (all_step _ _ left _ _ (left + 1) refl _ c.in_ok-perform_one.ensures.one (search rules) outcome new h);
  part = λ left is new h. c.loop-stream.invariant.part (left + 1) (omega (arith, is)) new
      (part_all _ _ left _ _ (left + 1) refl _ c.in_ok-perform_one.ensures.one (search rules) new h);
}

-- the streams that were agreed
abbrev AgreedIn : ℕ → Machine → Type 0
AgreedIn n m = n ≡ inbound_agreed (agreed m)

pub returns-in_err-perform_one-clause-received : goal.returns-in_err-perform_one-clause-received
returns-in_err-perform_one-clause-received c =
    received_in_then _ _ _ _ c.loop-stream.invariant.received (received_in_of _ _ (one_of_all _ _) _ _ c.perform_one.ensures.received)

pub returns-then-eq-clause-received : goal.returns-then-eq-clause-received
returns-then-eq-clause-received c =
    received_in_then _ _ _ _ c.loop-stream.invariant.received (received_in_of _ _ (one_of_all _ _) _ _ c.perform_one.ensures.received)

pub returns-then-eq-clause-each : goal.returns-then-eq-clause-each
returns-then-eq-clause-each c =
    let same : AgreedIn c.match-agreed.streams c.args.self.now.machine = elim c.match-agreed.branch [
      | in-Some w ↦ w.streams-is ∙ sym (ap inbound_agreed (sym c.agreed.ensures ∙ w.in-Some.is))
      | in-None w ↦ w.streams-is ∙ sym (ap inbound_agreed (sym c.agreed.ensures ∙ w.in-None.is))
    ] in
    let stop : c.in_ok-perform_one.field-0 ≡ InProgress = search rules in
    subst (λ n. ResetsEach c.args.last_tsn false (numbers_from n 0) SuccessPerformed InProgress c.args.self.now c.perform_one.new.self) same
    (c.loop-stream.invariant.each (c.match-agreed.streams - c.loop-stream.stream) (omega arith) InProgress c.perform_one.new.self
    (all_stop _ _ (c.match-agreed.streams - (c.loop-stream.stream + 1)) _ _ _ (omega arith) _ c.in_ok-perform_one.ensures.one stop))

pub returns-clause-each : goal.returns-clause-each
returns-clause-each c =
    let same : AgreedIn c.match-agreed.streams c.args.self.now.machine = elim c.match-agreed.branch [
      | in-Some w ↦ w.streams-is ∙ sym (ap inbound_agreed (sym c.agreed.ensures ∙ w.in-Some.is))
      | in-None w ↦ w.streams-is ∙ sym (ap inbound_agreed (sym c.agreed.ensures ∙ w.in-None.is))
    ] in
    subst (λ n. ResetsEach c.args.last_tsn false (numbers_from n 0) SuccessPerformed SuccessPerformed c.args.self.now c.loop-stream.self) same
    (c.loop-stream.invariant.each 0 (omega arith) SuccessPerformed c.loop-stream.self (refl, refl))

pub returns-in_err-perform_one-clause-part : goal.returns-in_err-perform_one-clause-part
returns-in_err-perform_one-clause-part c =
    let same : AgreedIn c.match-agreed.streams c.args.self.now.machine = elim c.match-agreed.branch [
      | in-Some w ↦ w.streams-is ∙ sym (ap inbound_agreed (sym c.agreed.ensures ∙ w.in-Some.is))
      | in-None w ↦ w.streams-is ∙ sym (ap inbound_agreed (sym c.agreed.ensures ∙ w.in-None.is))
    ] in
    on_err _ (subst (λ n. ResetsPart c.args.last_tsn false (numbers_from n 0) c.args.self.now c.perform_one.new.self) same
    (c.loop-stream.invariant.part (c.match-agreed.streams - c.loop-stream.stream) (omega arith) c.perform_one.new.self
    (part_last _ _ (c.match-agreed.streams - (c.loop-stream.stream + 1)) _ c.perform_one.new.self _ (omega arith) c.in_err-perform_one.ensures.cut)))
