use Rattle.std.proofs.Common.{◌≡◌, ◌<◌, ◌^◌, ◌-◌, ◌∙◌, ℕ, List, [], ap, arith, length, refl, rules, subst, sym}
use Rattle.std.proofs.Math.Seq.{take-length}
use Rattle.std.specs.Prelude.{take}
use Rattle.sctp_association.proofs.Silence.{along, first_more}
use Rattle.sctp_association.specs.Silence.{LastsAt}
use Rattle.sctp_association.proofs.alone.go_on_alone.Goals as goal

pub loop-now-init : goal.loop-now-init
loop-now-init c = ([], refl)

pub loop-now-preserved : goal.loop-now-preserved
loop-now-preserved c =
    let between = c.an_unanswered_association_ends.ensures.between in
    let old = c.loop-now.one in
    let timed = c.handle_timeout.new.self in
    let new = c.lose.new.one in
    first_more c.loop-now.now-index c.args.moments.now c.args.one.now old new c.loop-now-test.true c.loop-now.invariant
    (between _ old timed new c.handle_timeout.ensures.left c.lose.ensures)

pub returns : goal.returns
returns c =
    let ends = c.an_unanswered_association_ends.ensures.ends in
    let few = c.an_association_keeps_its_limits.ensures.few in
    let moments = c.args.moments.now in
    let old = c.args.one.now in
    let new = c.loop-now.one in
    let all : c.loop-now.now-index ≡ length moments = search rules in
    let es = c.loop-now.invariant.0 in
    let lasts : LastsAt moments es old new =
    subst (λ (ms : List ℕ). LastsAt ms es old new) (ap (λ (n : ℕ). take n moments) all ∙ take-length moments) c.loop-now.invariant.1 in
    let run = along moments es old new lasts in
    record {
      expired = es;
      lasts = lasts;
      ends = λ low enough. ends es old new low run enough;
      ends_by = λ config limits low enough.
          let least = few config old limits in
          ends es old new (subst (λ (n : ℕ). n < 2 ^ 32 - 1) (sym limits.failures) low) run (omega (arith, least, enough));
    }
