use Rattle.std.proofs.Common.{◌≡◌, ℕ, true, [], refl, sym, subst, ◌∙◌}
use Rattle.std.proofs.lemmas.Bool.{both_ways}
use Rattle.sctp_util.specs.Serial.{at_or_before}
use Rattle.sctp_follow.specs.Lanes.{held_at}
use Rattle.sctp_follow.proofs.Departing.{leaves_none, leaves_then, leaves_lost}
use Rattle.sctp_follow.proofs.Leaving.{left_other}
use Rattle.sctp_follow.proofs.lanes.Lane.lose_each.Goals as goal

pub losing-init : goal.losing-init
losing-init c = record { later = λ n late. refl; next = refl; notes = leaves_none (held_at c.args.self.now) c.args.spots.now }

pub losing-preserved : goal.losing-preserved
losing-preserved c =
    let i = c.losing.invariant in
    let k : ℕ = c.in-Some.number in
    let early = c.in-Some.ensures.up_to in
    record {
      later = λ n late. left_other (held_at c.losing.self) (held_at c.lose.new.self) [] k c.lose.ensures.held n
          (λ same. both_ways _ late (subst (λ (x : ℕ). at_or_before x c.args.name.number ≡ true) (sym same) early)) ∙ i.later n late;
      next = c.lose.ensures.next ∙ i.next;
      notes = leaves_then (held_at c.args.self.now) (held_at c.losing.self) (held_at c.lose.new.self) [] c.args.spots.now c.losing.spots c.lose.new.spots i.notes
          (leaves_lost (held_at c.losing.self) (held_at c.lose.new.self) k c.losing.spots c.lose.new.spots c.lose.ensures.held c.lose.ensures.notes);
    }

pub returns-clause-notes : goal.returns-clause-notes
returns-clause-notes c = c.losing.invariant.notes
