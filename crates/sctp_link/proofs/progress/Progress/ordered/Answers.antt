use Rattle.std.proofs.Common.{ap, sym, rules}
use Rattle.sctp_link.specs.Progress.{ordered_in}
use Rattle.sctp_link.proofs.standings.Kept.{absent-found, place-inside, found-at}
use Rattle.sctp_link.proofs.progress.Progress.ordered.Goals as goal

pub returns-in_default : goal.returns-in_default
returns-in_default c =
    let h = c.self.inside in
    rw (← c.self.view_is) (ap ordered_in (sym (absent-found h.numbers h.streams.items c.self.invariant c.args.stream c.in_default.ensures)))

pub index-requires : goal.index-requires
index-requires c =
    let h = c.self.inside in
    let lt = place-inside h.numbers h.streams.items c.self.invariant c.args.stream c.in-Some.place c.in-Some.ensures in
    search rules

pub returns : goal.returns
returns c =
    let h = c.self.inside in
    rw (← c.self.view_is) (ap ordered_in
    (sym (found-at h.numbers h.streams.items c.self.invariant c.args.stream c.in-Some.place c.in-Some.ensures c.index.result.now c.index.ensures)))
