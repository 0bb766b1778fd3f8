use Rattle.std.proofs.Common.{◌≡◌, ℕ, ◌-◌, Bool, true, false, not, ap, ◌∙◌, refl, arith, rules}
use Rattle.std.specs.Prelude.{if◌then◌else◌}
use Rattle.sctp_link.specs.declared.progress.StreamProgress.{StreamProgress}
use Rattle.sctp_link.specs.Progress.{standing_of, with_expiry}
use Rattle.sctp_link.proofs.standings.Kept.{absent-on, place-inside, numbered, put-on, same-place}
use Rattle.sctp_link.proofs.progress.Progress.record_expiry.Goals as goal

less : (b : Bool) (n : ℕ) → n - (if not b then 1 else 0) ≡ (if b then n else n - 1)
less true n = omega arith
less false n = omega arith

pub returns-in_default : goal.returns-in_default
returns-in_default c =
    let h = c.self.inside in
    rw (← c.self.view_is) (absent-on h.numbers h.streams.items c.self.invariant c.args.stream (with_expiry c.args.unordered) c.in_default.ensures)

pub index-requires : goal.index-requires
index-requires c =
    let h = c.self.inside in
    let lt = place-inside h.numbers h.streams.items c.self.invariant c.args.stream c.in-Some.place c.in-Some.ensures in
    search rules

pub index_mut-requires : goal.index_mut-requires
index_mut-requires c =
    let h = c.self.inside in
    let lt = place-inside h.numbers h.streams.items c.self.invariant c.args.stream c.in-Some.place c.in-Some.ensures in
    search rules

pub invariant_of-self : goal.invariant_of-self
invariant_of-self c =
    let h = c.self.inside in
    let p : StreamProgress = c.index_mut.result.now in
    numbered h.numbers h.streams.items c.self.invariant c.in-Some.place p
    (record p { ordered = c.saturating_sub-ordered.result }) c.index_mut.ensures.value refl

pub returns : goal.returns
returns c =
    let h = c.self.inside in
    let p : StreamProgress = c.index_mut.result.now in
    let q : StreamProgress = record p { ordered = c.saturating_sub-ordered.result } in
    let lt = place-inside h.numbers h.streams.items c.self.invariant c.args.stream c.in-Some.place c.in-Some.ensures in
    let same = same-place h.streams.items c.in-Some.place c.index.result.now p lt c.index.ensures c.index_mut.ensures.value in
    let fewer : c.saturating_sub-ordered.result ≡ (if c.args.unordered then p.ordered else p.ordered - 1) =
    c.saturating_sub-ordered.ensures ∙ ap (λ (x : StreamProgress). x.ordered - c.one_if-less.result) same ∙ ap (λ n. p.ordered - n) c.one_if-less.ensures
    ∙ less c.args.unordered p.ordered in
    rw (← c.self.view_is)
    (put-on h.numbers h.streams.items c.self.invariant c.args.stream c.in-Some.place c.in-Some.ensures p q c.index_mut.ensures.value
    (with_expiry c.args.unordered)
    (ap (λ n. let z : StreamProgress = record p { ordered = n } in standing_of z) fewer))
