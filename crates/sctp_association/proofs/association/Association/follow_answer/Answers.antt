use Rattle.std.proofs.Common.{Some, inl, inr, ap, refl, subst, sym, ◌≡◌, ◌⊎◌, ◌∙◌}
use Rattle.std.specs.Prelude.{◌≢◌, is_some}
use Rattle.sctp_association.proofs.Rows.{follows_told}
use Rattle.sctp_association.specs.AcksDue.{AcksTold, acks_of}
use Rattle.sctp_association.proofs.Telling.{end_same, end_then, tells_due}
use Rattle.sctp_association.proofs.association.Association.follow_answer.Goals as goal
use Rattle.sctp_association.proofs.association.Association.follow_answer.Goals.{else-begins_timer, in-Some, in_default, then-begins_timer}
use Rattle.sctp_association.specs.Rows.{owed_by}
use Rattle.sctp_association.specs.Telling.{PassesOn, TellsEnd, ending_by, passed_on}
use Rattle.sctp_association.specs.Timers.{KeepsTimers, StartsTimers}
use Rattle.sctp_association.specs.declared.association.Association.{Association}
use Rattle.sctp_association.specs.declared.due.Due.{Due}
use Rattle.sctp_association.specs.declared.event.Events.{Events}
use Rattle.sctp_handshake.specs.declared.answer.Reply.TheVariants.{Shutdown}

neither : (A B : Type 0) → A × (B → ⊥) → (A → ⊥) ⊎ B → ⊥
neither A B both (inl other) = other both.0
neither A B both (inr is) = both.1 is

pub returns-in-Some-told-clause-tells : goal.returns-in-Some-told-clause-tells
returns-in-Some-told-clause-tells c =
    let first : TellsEnd c.args.self.now c.if-begins_timer.self = elim c.if-begins_timer.branch [
      | then-begins_timer w ↦ subst (TellsEnd c.args.self.now) (sym w.self-is) w.run_control.ensures.tells
      | else-begins_timer w ↦ end_same _ _ w.self-is
    ] in
    let next : TellsEnd c.if-begins_timer.self c.match-answer.self = elim c.match-answer.branch [
      | in-Some w ↦ subst (TellsEnd c.if-begins_timer.self) (sym w.self-is) (tells_due c.if-begins_timer.self w.owe.new.self _ w.owe.ensures.rest).end
      | in_default w ↦ end_same _ _ w.self-is
    ] in
    let told = c.tell.ensures.tells in
    let how : ending_by c.is_some.result ≡ ending_by (is_some c.args.answer.reply) = ap ending_by c.is_some.ensures in
    let began : c.if-begins_timer.self.events ≡ c.args.self.now.events = elim c.if-begins_timer.branch [
      | then-begins_timer w ↦ ap (λ (x : Association). x.events) (w.self-is ∙ w.run_control.ensures.rest)
      | else-begins_timer w ↦ ap (λ (x : Association). x.events) w.self-is
    ] in
    let owed : c.match-answer.self.events ≡ c.if-begins_timer.self.events = elim c.match-answer.branch [
      | in-Some w ↦ ap (λ (x : Association). x.events) (w.self-is ∙ w.owe.ensures.rest)
      | in_default w ↦ ap (λ (x : Association). x.events) w.self-is
    ] in
    subst (λ t. PassesOn t (ending_by (is_some c.args.answer.reply)) c.args.self.now c.tell.new.self) (sym c.in-Some-told.is) (record {
      end = end_then (end_then first next) told.end;
      told = told.told ∙ ap (λ h. passed_on (Some c.in-Some-told.told) h c.match-answer.self.events) how
          ∙ ap (λ (e : Events). passed_on (Some c.in-Some-told.told) (ending_by (is_some c.args.answer.reply)) e) (owed ∙ began);
    })

pub returns-in-Some-told-clause-answer : goal.returns-in-Some-told-clause-answer
returns-in-Some-told-clause-answer c =
    let old = c.args.self.now in
    let first : c.if-begins_timer.self ≡ record old { control = c.if-begins_timer.self.control; guard = c.if-begins_timer.self.guard } =
    elim c.if-begins_timer.branch [
      | then-begins_timer w ↦ subst (λ (x : Association). x ≡ record old { control = x.control; guard = x.guard }) (sym w.self-is) w.run_control.ensures.rest
      | else-begins_timer w ↦ subst (λ (x : Association). x ≡ record old { control = x.control; guard = x.guard }) (sym w.self-is) refl
    ] in
    let next : c.match-answer.self ≡ record c.if-begins_timer.self { due = owed_by c.args.answer.reply c.args.tag c.if-begins_timer.self.due } =
    elim c.match-answer.branch [
      | in-Some w ↦ w.self-is ∙ w.owe.ensures.rest ∙ ap (λ (d : Due). record c.if-begins_timer.self { due = d }) (
          w.owe.ensures.due ∙ ap (λ o. owed_by o c.args.tag c.if-begins_timer.self.due) (sym w.in-Some.is)
          )
      | in_default w ↦ w.self-is ∙ ap (λ o. record c.if-begins_timer.self { due = owed_by o c.args.tag c.if-begins_timer.self.due }) (sym w.in_default.is)
    ] in
    let start : (c.if-begins_timer.self.machine.state ≢ c.args.before) ⊎ (c.args.answer.reply ≡ Some Shutdown)
    → StartsTimers c.args.now old c.if-begins_timer.self = elim c.if-begins_timer.branch [
      | then-begins_timer w ↦ λ _. subst (λ (x : Association). StartsTimers c.args.now old x) (sym w.self-is) w.run_control.ensures.timers
      | else-begins_timer w ↦ λ begins. absurd (neither _ _ (c.begins_timer.ensures.stays w.if-begins_timer.false) (
          subst (λ (x : Association). (x.machine.state ≢ c.args.before) ⊎ (c.args.answer.reply ≡ Some Shutdown)) w.self-is begins
          ))
    ] in
    let keep : c.if-begins_timer.self.machine.state ≡ c.args.before → c.args.answer.reply ≢ Some Shutdown → KeepsTimers old c.if-begins_timer.self =
    elim c.if-begins_timer.branch [
      | then-begins_timer w ↦ λ same silent. absurd (neither _ _ (ap (λ (x : Association). x.machine.state) (sym first) ∙ same, silent) (
          c.begins_timer.ensures.begins w.if-begins_timer.true
          ))
      | else-begins_timer w ↦ λ _ _. record { control = ap (λ (x : Association). x.control) w.self-is; guard = ap (λ (x : Association). x.guard) w.self-is }
    ] in
    let tell = c.tell.ensures in
    follows_told c.args.answer c.args.tag c.args.before c.args.now old c.if-begins_timer.self c.match-answer.self c.tell.new.self first next start keep
    c.in-Some-told.told c.in-Some-told.is tell.due tell.over
    (tell.tells.told ∙ ap (λ h. passed_on (Some c.in-Some-told.told) h c.match-answer.self.events) (ap ending_by c.is_some.ensures))
    tell.wants tell.kept.machine tell.kept.config tell.stop tell.keep tell.rto

pub returns-in-Some-told-clause-acks : goal.returns-in-Some-told-clause-acks
returns-in-Some-told-clause-acks c =
    let Tells : Association → Type 0 =
    λ x. AcksTold (Some c.in-Some-told.told) x.config.sack_delay (acks_of x.inbound) (acks_of c.tell.new.self.inbound) in
    let next : Tells c.if-begins_timer.self = elim c.match-answer.branch [
      | in-Some w ↦ subst Tells (w.self-is ∙ w.owe.ensures.rest) c.tell.ensures.acks
      | in_default w ↦ subst Tells w.self-is c.tell.ensures.acks
    ] in
    let first : Tells c.args.self.now = elim c.if-begins_timer.branch [
      | then-begins_timer w ↦ subst Tells (w.self-is ∙ w.run_control.ensures.rest) next
      | else-begins_timer w ↦ subst Tells w.self-is next
    ] in
    subst (λ t. AcksTold t c.args.self.now.config.sack_delay (acks_of c.args.self.now.inbound) (acks_of c.tell.new.self.inbound))
    (sym c.in-Some-told.is) first
