use Rattle.sctp_association.specs.Telling.{TellsEnd}
use Rattle.sctp_association.proofs.Telling.{end_same, end_then, to_error}
use Rattle.std.proofs.Common.{inl, rules, subst, sym, ap, ◌∙◌, ◌<◌}
use Rattle.sctp_association.proofs.Known.{fresh_own, keeps_by, keeps_kept, knows_stale, own_stale, owes_same, within_same, within_then}
use Rattle.sctp_association.proofs.Fresh.{fresh_some}
use Rattle.sctp_association.specs.Beginnings.{KeepsPeerButTag}
use Rattle.sctp_handshake.specs.declared.machine.Machine.{Machine}
use Rattle.sctp_association.specs.declared.association.Association.{Association}
use Rattle.std.specs.Prelude.{◌≡◌, Some}
use Rattle.sctp_association.proofs.Brought.{whole_passed}
use Rattle.sctp_association.specs.Events.{whole_from}
use Rattle.sctp_association.specs.declared.event.Events.{Events}
use Rattle.sctp_association.proofs.Rows.{follows_error, follows_from, follows_still, follows_step}
use Rattle.sctp_association.specs.Causes.{cause_in}
use Rattle.sctp_association.specs.Fresh.{fresh_tag}
use Rattle.sctp_association.specs.Rows.{FollowsStep, error_row}
use Rattle.sctp_handshake.specs.Cookies.{on_stale_cookie}
use Rattle.sctp_handshake.specs.Machines.{dropped}
use Rattle.std.proofs.Common.{Bool, false, refl, true}
use Rattle.std.specs.Prelude.{◌==◌, if◌then◌else◌}
use Rattle.sctp_association.proofs.association.Association.take_error.Goals as goal
use Rattle.sctp_association.proofs.association.Association.take_error.Goals.{else-code-eq3, then-code-eq3}

pub returns-clause-peer : goal.returns-clause-peer
returns-clause-peer c =
    let first : KeepsPeerButTag c.args.chunk c.args.datagram.now c.args.self.now c.if-code-eq3.self = elim c.if-code-eq3.branch [
      | then-code-eq3 w ↦ record {
        keeps = keeps_by _ _ _ (knows_stale c.args.self.now.machine w.stale_cookie-answer.new.self _ _ w.stale_cookie-answer.ensures.takes)
            (ap (λ (x : Association). x.config) w.self-is ∙ w.follow.ensures.kept.config)
            (ap (λ (x : Association). x.key) w.self-is ∙ w.follow.ensures.kept.key)
            (ap (λ (x : Association). record x.machine { own = c.args.self.now.machine.own }) w.self-is
            ∙ ap (λ (m : Machine). record m { own = c.args.self.now.machine.own }) w.follow.ensures.kept.machine)
            (λ t e. w.follow.ensures.kept.owes t (owes_same w.follow.new.self c.if-code-eq3.self (ap (λ (x : Association). x.due) w.self-is) t e))
            (within_then c.args.self.now w.follow.new.self c.if-code-eq3.self (λ e. w.follow.ensures.kept.sending.0 e, λ e. w.follow.ensures.kept.sending.1 e)
            (within_same w.follow.new.self c.if-code-eq3.self (ap (λ (x : Association). x.config) w.self-is) (ap (λ (x : Association). x.outbound) w.self-is)));
        own = fresh_own (own_stale c.args.self.now.machine w.stale_cookie-answer.new.self _ _
            (subst (λ n. 0 < n) (sym w.fresh_tag-tag.ensures) (fresh_some c.args.self.now.key c.args.now w.own.result)) w.stale_cookie-answer.ensures.takes)
            (ap (λ (x : Association). x.machine.own) w.self-is ∙ ap (λ (m : Machine). m.own) w.follow.ensures.kept.machine) (search rules);
      }
      | else-code-eq3 w ↦ record {
        keeps = keeps_kept _ _ (record {
          config = ap (λ (x : Association). x.config) w.self-is;
          key = ap (λ (x : Association). x.key) w.self-is;
          machine = ap (λ (x : Association). record x.machine { own = c.args.self.now.machine.own }) w.self-is;
          owes = owes_same c.args.self.now c.if-code-eq3.self (ap (λ (x : Association). x.due) w.self-is);
          sending = within_same c.args.self.now c.if-code-eq3.self (ap (λ (x : Association). x.config) w.self-is)
              (ap (λ (x : Association). x.outbound) w.self-is);
        });
        own = inl (ap (λ (x : Association). x.machine.own) w.self-is);
      }
    ] in
    let k = first.keeps in
    record { keeps = record { config = k.config; key = k.key; machine = k.machine; owes = k.owes; sending = k.sending }; own = first.own }

pub returns-clause-tells : goal.returns-clause-tells
returns-clause-tells c =
    let first : TellsEnd c.args.self.now c.if-code-eq3.self = elim c.if-code-eq3.branch [
      | then-code-eq3 w ↦ end_then w.follow.ensures.tells.end (end_same _ _ w.self-is)
      | else-code-eq3 w ↦ end_same _ _ w.self-is
    ] in
    end_then first (to_error _ _ _ _)

pub returns-clause-events : goal.returns-clause-events
returns-clause-events c =
    let old = c.args.self.now.events in
    let first : c.if-code-eq3.self.events ≡ whole_from old c.if-code-eq3.self.events = elim c.if-code-eq3.branch [
      | then-code-eq3 w ↦
          let e = ap (λ (x : Association). x.events) w.self-is in
          e ∙ whole_passed _ _ _ _ w.follow.ensures.tells ∙ sym (ap (whole_from old) e)
      | else-code-eq3 w ↦
          let e = ap (λ (x : Association). x.events) w.self-is in
          e ∙ sym (ap (whole_from old) e)
    ] in
    ap (λ (e : Events). record e { peer_error = Some c.in-Some.code }) first

-- ## The row of an ERROR

pub returns-clause-row : goal.returns-clause-row
returns-clause-row c =
    let old = c.args.self.now in
    let cause : cause_in c.args.datagram.now c.args.chunk ≡ Some c.in-Some.code = search rules in
    let fresh = fresh_tag old.key c.args.now old.machine.own in
    let first : FollowsStep (error_row (Some c.in-Some.code) fresh old.machine) 0 c.args.now old c.if-code-eq3.self = elim c.if-code-eq3.branch [
      | then-code-eq3 w ↦
          let stale : (c.in-Some.code == 3) ≡ true = search rules in
          let takes = w.stale_cookie-answer.ensures.takes in
          let tag : w.fresh_tag-tag.result ≡ fresh = search rules in
          let follows = follows_step _ 0 c.args.now old w.follow.new.self _ _ takes.machine takes.answer w.follow.ensures.kept.machine (
          follows_from _ 0 old.machine.state _ c.args.now old _ w.follow.new.self w.follow.ensures.answer w.state-before.ensures refl refl refl refl refl refl
          ) in
          subst (λ (b : Bool). FollowsStep (if b then on_stale_cookie fresh old.machine else dropped old.machine) 0 c.args.now old c.if-code-eq3.self)
          (sym stale)
          (subst (λ n. FollowsStep (on_stale_cookie n old.machine) 0 c.args.now old c.if-code-eq3.self) tag
          (subst (λ (x : Association). FollowsStep (on_stale_cookie w.fresh_tag-tag.result old.machine) 0 c.args.now old x) (sym w.self-is) follows))
      | else-code-eq3 w ↦
          let other : (c.in-Some.code == 3) ≡ false = search rules in
          subst (λ (b : Bool). FollowsStep (if b then on_stale_cookie fresh old.machine else dropped old.machine) 0 c.args.now old c.if-code-eq3.self)
          (sym other)
          (subst (λ (x : Association). FollowsStep (dropped old.machine) 0 c.args.now old x) (sym w.self-is)
          (follows_still 0 c.args.now old old refl refl refl refl refl refl refl))
    ] in
    follows_error _ 0 c.args.now old c.if-code-eq3.self (Some c.in-Some.code) _
    (subst (λ o. FollowsStep (error_row o fresh old.machine) 0 c.args.now old c.if-code-eq3.self) (sym cause) first)
