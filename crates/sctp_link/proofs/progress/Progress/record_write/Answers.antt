use Rattle.std.proofs.Common.{◌≡◌, ℕ, ◌<◌, ◌+◌, ◌^◌, Bool, true, false, map, ap, ◌∙◌, refl, arith, rules}
use Rattle.std.specs.Prelude.{if◌then◌else◌, find}
use Rattle.sctp_link.specs.declared.progress.StreamProgress.{StreamProgress}
use Rattle.sctp_link.specs.Progress.{standing_of, has_number, ordered_in, with_write}
use Rattle.sctp_link.proofs.standings.Kept.{absent-on, place-inside, numbered, found-at, put-on, same-place}
use Rattle.sctp_link.proofs.progress.Progress.record_write.Goals as goal

one : (b : Bool) (n m : ℕ) → m ≡ (if b then 1 else 0) → n + m ≡ (if b then n + 1 else n)
one true n m e = omega (arith, e)
one false n m e = omega (arith, e)

most : (b : Bool) (m : ℕ) → m ≡ (if b then 1 else 0) → m < 2
most true m e = omega (arith, e)
most false m e = omega (arith, e)

pub returns-in_default : goal.returns-in_default
returns-in_default c =
    let h = c.self.inside in
    rw (← c.self.view_is) (absent-on h.numbers h.streams.items c.self.invariant c.args.stream (with_write c.args.ordered) c.in_default.ensures)

pub index-requires : goal.index-requires
index-requires c =
    let h = c.self.inside in
    let lt = place-inside h.numbers h.streams.items c.self.invariant c.args.stream c.in-Some.place c.in-Some.ensures in
    search rules

pub overflow_add-count : goal.overflow_add-count
overflow_add-count c =
    let h = c.self.inside in
    let found = found-at h.numbers h.streams.items c.self.invariant c.args.stream c.in-Some.place c.in-Some.ensures c.index.result.now c.index.ensures in
    let few : ordered_in (find (has_number c.args.stream) (map standing_of h.streams.items)) + 1 < 2 ^ 64 = rw (← c.self.view_is) at c.requires in
    omega (arith, few, ap ordered_in found, most c.args.ordered c.one_if.result c.one_if.ensures)

pub index_mut-requires : goal.index_mut-requires
index_mut-requires c =
    let h = c.self.inside in
    let lt = place-inside h.numbers h.streams.items c.self.invariant c.args.stream c.in-Some.place c.in-Some.ensures in
    search rules

pub invariant_of-self : goal.invariant_of-self
invariant_of-self c =
    let h = c.self.inside in
    let p : StreamProgress = c.index_mut.result.now in
    numbered h.numbers h.streams.items c.self.invariant c.in-Some.place p
    (record p { ordered = c.index.result.now.ordered + c.one_if.result }) c.index_mut.ensures.value refl

pub returns : goal.returns
returns c =
    let h = c.self.inside in
    let p : StreamProgress = c.index_mut.result.now in
    let q : StreamProgress = record p { ordered = c.index.result.now.ordered + c.one_if.result } in
    let lt = place-inside h.numbers h.streams.items c.self.invariant c.args.stream c.in-Some.place c.in-Some.ensures in
    let same = same-place h.streams.items c.in-Some.place c.index.result.now p lt c.index.ensures c.index_mut.ensures.value in
    let more : c.index.result.now.ordered + c.one_if.result ≡ (if c.args.ordered then p.ordered + 1 else p.ordered) =
    ap (λ (x : StreamProgress). x.ordered + c.one_if.result) same ∙ one c.args.ordered p.ordered c.one_if.result c.one_if.ensures in
    rw (← c.self.view_is)
    (put-on h.numbers h.streams.items c.self.invariant c.args.stream c.in-Some.place c.in-Some.ensures p q c.index_mut.ensures.value (with_write c.args.ordered)
    (ap (λ n. let z : StreamProgress = record p { ordered = n } in standing_of z) more))
