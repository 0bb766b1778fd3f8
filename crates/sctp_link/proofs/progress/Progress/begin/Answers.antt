use Rattle.std.proofs.Common.{◌<◌, ◌+◌, ◌^◌, map, ap, sym, refl, arith, rules}
use Rattle.std.specs.Prelude.{find}
use Rattle.sctp_link.specs.declared.progress.StreamProgress.{StreamProgress}
use Rattle.sctp_link.specs.Progress.{standing_of, has_number, begun_in, with_begun}
use Rattle.sctp_link.proofs.standings.Kept.{absent-found, absent-on, place-inside, numbered, found-at, put-on, same-place}
use Rattle.sctp_link.proofs.progress.Progress.begin.Goals as goal

pub returns-in_default-clause-index : goal.returns-in_default-clause-index
returns-in_default-clause-index c =
    let h = c.self.inside in
    rw (← c.self.view_is) (ap begun_in (sym (absent-found h.numbers h.streams.items c.self.invariant c.args.stream c.in_default.ensures)))

pub returns-in_default-clause-rest : goal.returns-in_default-clause-rest
returns-in_default-clause-rest c =
    let h = c.self.inside in
    rw (← c.self.view_is) (absent-on h.numbers h.streams.items c.self.invariant c.args.stream with_begun c.in_default.ensures)

pub index-requires : goal.index-requires
index-requires c =
    let h = c.self.inside in
    let lt = place-inside h.numbers h.streams.items c.self.invariant c.args.stream c.in-Some.place c.in-Some.ensures in
    search rules

pub overflow_add-index : goal.overflow_add-index
overflow_add-index c =
    let h = c.self.inside in
    let found = found-at h.numbers h.streams.items c.self.invariant c.args.stream c.in-Some.place c.in-Some.ensures c.index.result.now c.index.ensures in
    let few : begun_in (find (has_number c.args.stream) (map standing_of h.streams.items)) + 1 < 2 ^ 64 = rw (← c.self.view_is) at c.requires in
    let lt : c.index.result.now.begun + 1 < 2 ^ 64 = omega (arith, few, ap begun_in found) in
    search rules

pub index_mut-requires : goal.index_mut-requires
index_mut-requires c =
    let h = c.self.inside in
    let lt = place-inside h.numbers h.streams.items c.self.invariant c.args.stream c.in-Some.place c.in-Some.ensures in
    search rules

pub invariant_of-self : goal.invariant_of-self
invariant_of-self c =
    let h = c.self.inside in
    let p : StreamProgress = c.index_mut.result.now in
    numbered h.numbers h.streams.items c.self.invariant c.in-Some.place p (record p { begun = c.index.result.now.begun + 1 }) c.index_mut.ensures.value refl

pub returns-clause-index : goal.returns-clause-index
returns-clause-index c =
    let h = c.self.inside in
    rw (← c.self.view_is) (sym
    (ap begun_in (found-at h.numbers h.streams.items c.self.invariant c.args.stream c.in-Some.place c.in-Some.ensures c.index.result.now c.index.ensures)))

pub returns-clause-rest : goal.returns-clause-rest
returns-clause-rest c =
    let h = c.self.inside in
    let p : StreamProgress = c.index_mut.result.now in
    let q : StreamProgress = record p { begun = c.index.result.now.begun + 1 } in
    let lt = place-inside h.numbers h.streams.items c.self.invariant c.args.stream c.in-Some.place c.in-Some.ensures in
    let same = same-place h.streams.items c.in-Some.place c.index.result.now p lt c.index.ensures c.index_mut.ensures.value in
    rw (← c.self.view_is)
    (put-on h.numbers h.streams.items c.self.invariant c.args.stream c.in-Some.place c.in-Some.ensures p q c.index_mut.ensures.value with_begun
    (ap (λ (x : StreamProgress). let z : StreamProgress = record p { begun = x.begun + 1 } in standing_of z) same))
