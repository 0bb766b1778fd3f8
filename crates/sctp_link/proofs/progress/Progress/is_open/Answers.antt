use Rattle.std.proofs.Common.{◌∙◌}
use Rattle.sctp_link.proofs.standings.Kept.{opens}
use Rattle.sctp_link.proofs.progress.Progress.is_open.Goals as goal

pub returns : goal.returns
returns c =
    let h = c.self.inside in
    rw (← c.self.view_is) (c.is_some.ensures ∙ opens h.numbers h.streams.items c.self.invariant c.args.stream c.place_of.result c.place_of.ensures)
