use Rattle.std.proofs.Common.{◌≡◌, ◌<◌, ap, sym, ◌∙◌, length, map, arith, rules}
use Rattle.std.specs.Prelude.{slice_index_or}
use Rattle.std.proofs.lemmas.List.{get_or_default}
use Rattle.sctp_util.proofs.Getting.{length-mapped}
use Rattle.sctp_link.specs.Progress.{Standing, standing_of}
use Rattle.sctp_link.proofs.standings.Kept.{mapped-at}
use Rattle.sctp_link.proofs.progress.Progress.number_at.Goals as goal

pub index-requires : goal.index-requires
index-requires c =
    let h = c.self.inside in
    let lt : c.args.place < length (map standing_of h.streams.items) = rw (← c.self.view_is) at c.requires in
    let inside : c.args.place < length h.streams.items = omega (arith, lt, length-mapped standing_of h.streams.items) in
    search rules

pub returns : goal.returns
returns c = λ d.
    let h = c.self.inside in
    let p = c.index.result.now in
    let lt : c.args.place < length (map standing_of h.streams.items) = rw (← c.self.view_is) at c.requires in
    let at' : standing_of p ≡ slice_index_or (map standing_of h.streams.items) c.args.place (standing_of p) = ap standing_of c.index.ensures
    ∙ sym (mapped-at standing_of h.streams.items c.args.place p) in
    rw (← c.self.view_is) (ap (λ (x : Standing). x.number) (at' ∙ get_or_default (map standing_of h.streams.items) c.args.place (standing_of p) d lt))
