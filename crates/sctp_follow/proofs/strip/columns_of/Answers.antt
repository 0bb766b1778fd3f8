use Rattle.std.proofs.Common.{◌≡◌, ℕ, ◌==◌, Option, Some, if◌then◌else◌, take, get_or, subst}
use Rattle.std.specs.BTreeMap as trees
use Rattle.std.specs.Ordering.{nat_cmp}
use Rattle.std.proofs.lemmas.List.{take_more}
use Rattle.sctp_follow.specs.Strip.{column_at, column_with}
use Rattle.sctp_follow.specs.declared.band.Level.{Level}
use Rattle.sctp_follow.specs.declared.strip.Column.{Column}
use Rattle.sctp_follow.proofs.Columns.{columns_more}
use Rattle.sctp_follow.proofs.strip.columns_of.Goals as goal

pub loop-level-preserved : goal.loop-level-preserved
loop-level-preserved c k =
    let ls = c.args.levels.now in
    let i = c.loop-level.level-index in
    let d : Level = record { instant = record { number = 0; nanoseconds = 0 }; value = 0 } in
    let frame = c.args.frame.now in
    let l : Level = get_or ls i d in
    let f : ℕ → Option Column = λ n. trees.get nat_cmp c.loop-level.columns n in
    let g : ℕ → Option Column = λ n. trees.get nat_cmp c.add_to.new.columns n in
    let new : (n : ℕ) → g n ≡ (if n == column_at frame l then Some (column_with (f (column_at frame l)) l.value) else f n) =
    subst (λ (a : ℕ). (n : ℕ) → g n ≡ (if n == a then Some (column_with (f a) l.value) else f n)) c.column_at.ensures c.in_ok-add_to.ensures in
    rw (take_more ls i d c.loop-level-test.true) (columns_more frame (take i ls) l f g c.loop-level.invariant new k)
