use Rattle.std.proofs.Common.{ap, sym, rules}
use Rattle.std.specs.Prelude.{option_map}
use Rattle.sctp_link.specs.Progress.{Standing}
use Rattle.sctp_link.proofs.standings.Kept.{absent-found, place-inside, found-at}
use Rattle.sctp_link.proofs.progress.Progress.next_index.Goals as goal

pub returns-in_default : goal.returns-in_default
returns-in_default c =
    let h = c.self.inside in
    rw (← c.self.view_is)
    (ap (option_map (λ (p : Standing). p.next)) (sym (absent-found h.numbers h.streams.items c.self.invariant c.args.stream c.in_default.ensures)))

pub index-requires : goal.index-requires
index-requires c =
    let h = c.self.inside in
    let lt = place-inside h.numbers h.streams.items c.self.invariant c.args.stream c.in-Some.place c.in-Some.ensures in
    search rules

pub returns : goal.returns
returns c =
    let h = c.self.inside in
    rw (← c.self.view_is) (ap (option_map (λ (p : Standing). p.next))
    (sym (found-at h.numbers h.streams.items c.self.invariant c.args.stream c.in-Some.place c.in-Some.ensures c.index.result.now c.index.ensures)))
