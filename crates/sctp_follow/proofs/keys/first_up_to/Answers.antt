use Rattle.std.proofs.Common.{◌≡◌, ℕ, ◌<◌, false, sym, ◌∙◌}
use Rattle.sctp_follow.proofs.Nearest.{start_of, late_first, first_before}
use Rattle.sctp_follow.proofs.keys.first_up_to.Goals as goal

pub returns-then-sna32lte-clause-first : goal.returns-then-sna32lte-clause-first
unfolding start_of
returns-then-sna32lte-clause-first g c n fits has early differ =
    let e = c.in_ok-first.ensures in
    first_before c.args.number c.in_ok-first.first n c.ranges.number.fits e.few fits (e.from n has) (e.below n has) early differ

pub returns-else-sna32lte-clause-none : goal.returns-else-sna32lte-clause-none
unfolding start_of
returns-else-sna32lte-clause-none g c n fits has =
    let e = c.in_ok-first.ensures in
    late_first c.args.number c.in_ok-first.first n c.ranges.number.fits e.few fits (e.from n has) (e.below n has) (sym c.sna32lte.ensures.value ∙ c.if-sna32lte.false)
