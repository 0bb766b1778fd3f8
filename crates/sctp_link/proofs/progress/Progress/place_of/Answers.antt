use Rattle.std.proofs.Common.{subst}
use Rattle.std.specs.Prelude.{MatchOption}
use Rattle.sctp_stream.specs.Numbers.{IsAbsent, IsOnlyPlace}
use Rattle.sctp_link.proofs.standings.Kept.{shown}
use Rattle.sctp_link.proofs.progress.Progress.place_of.Goals as goal

pub returns : goal.returns
returns c =
    let h = c.self.inside in
    rw (← c.self.view_is)
    (subst (λ ns. MatchOption c.place_of.result (IsAbsent c.args.stream ns) (IsOnlyPlace c.args.stream ns))
    (shown h.numbers h.streams.items c.self.invariant) c.place_of.ensures)
