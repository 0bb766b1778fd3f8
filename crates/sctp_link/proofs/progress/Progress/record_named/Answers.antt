use Rattle.std.proofs.Common.{◌<◌, map, ap, ◌∙◌, refl, arith, length}
use Rattle.std.specs.Prelude.{max}
use Rattle.sctp_util.proofs.Getting.{length-mapped}
use Rattle.sctp_link.specs.declared.progress.StreamProgress.{StreamProgress}
use Rattle.sctp_link.specs.Progress.{standing_of, with_named}
use Rattle.sctp_link.proofs.standings.Kept.{numbered, put-at}
use Rattle.sctp_link.proofs.progress.Progress.record_named.Goals as goal

pub index_mut-progress-requires : goal.index_mut-progress-requires
index_mut-progress-requires c =
    let h = c.self.inside in
    let less : c.args.place < length (map standing_of h.streams.items) = rw (← c.self.view_is) at c.requires in
    omega (arith, less, length-mapped standing_of h.streams.items)

pub invariant_of-self : goal.invariant_of-self
invariant_of-self c =
    let h = c.self.inside in
    let p = c.index_mut-progress.result.now in
    let q : StreamProgress = record p { next = c.max-progress.result; named = c.max-progress-2.result } in
    numbered h.numbers h.streams.items c.self.invariant c.args.place p q c.index_mut-progress.ensures.value refl

pub returns : goal.returns
returns c =
    let h = c.self.inside in
    let p = c.index_mut-progress.result.now in
    let q : StreamProgress = record p { next = c.max-progress.result; named = c.max-progress-2.result } in
    rw (← c.self.view_is)
    (put-at h.numbers h.streams.items c.self.invariant c.args.place p q c.index_mut-progress.ensures.value (with_named c.args.end)
    (ap (λ n. let x : StreamProgress = record p { next = n; named = c.max-progress-2.result } in standing_of x) c.max-progress.ensures
    ∙ ap (λ n. let x : StreamProgress = record p { next = max p.next c.args.end; named = n } in standing_of x) c.max-progress-2.ensures))
