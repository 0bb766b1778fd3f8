use Rattle.std.proofs.Common.{length, map, ap, sym, ◌∙◌}
use Rattle.sctp_link.specs.Progress.{standing_of, numbers_of, after_each}
use Rattle.sctp_link.proofs.standings.Kept.{numbers-shown, numbers-alike}
use Rattle.sctp_link.proofs.standings.Completions.{answered, each-numbers}
use Rattle.sctp_link.proofs.progress.Progress.data_each.Goals as goal

pub invariant_of-self : goal.invariant_of-self
invariant_of-self c = c.self.invariant ∙ sym (numbers-alike c.self.inside.streams.items c.make_room.new.streams.items c.make_room.ensures.kept)

pub invariant_of-self-in_err-arrivals : goal.invariant_of-self-in_err-arrivals
invariant_of-self-in_err-arrivals c = c.self.invariant ∙ sym (numbers-alike c.self.inside.streams.items c.make_room.new.streams.items c.make_room.ensures.kept)

pub record_complete-requires-clause-numbers : goal.record_complete-requires-clause-numbers
record_complete-requires-clause-numbers c = c.self.invariant
    ∙ sym (numbers-alike c.self.inside.streams.items c.make_room.new.streams.items c.make_room.ensures.kept)

pub record_complete-requires-clause-arrivals : goal.record_complete-requires-clause-arrivals
record_complete-requires-clause-arrivals c =
    ap length c.deref.ensures.value
    ∙ answered c.args.chunks.now c.in_ok-arrivals.arrivals.items c.args.receiver.now c.data_each.new.self c.in_ok-arrivals.ensures.ok

pub invariant_of-self-2 : goal.invariant_of-self-2
invariant_of-self-2 c =
    let h = c.self.inside in
    let ps = h.streams.items in
    let qs = c.record_complete.new.streams.items in
    c.self.invariant ∙ numbers-shown ps
    ∙ sym (numbers-shown qs ∙ ap numbers_of c.record_complete.ensures
    ∙ each-numbers c.args.chunks.now c.args.numbers.now c.deref.result.now (map standing_of c.make_room.new.streams.items)
    ∙ ap numbers_of c.make_room.ensures.kept)

pub returns-clause-ok : goal.returns-clause-ok
returns-clause-ok c =
    rw (← c.self.view_is)
    (c.record_complete.ensures
    ∙ ap (λ bs. after_each c.args.chunks.now c.args.numbers.now bs (map standing_of c.make_room.new.streams.items)) c.deref.ensures.value
    ∙ ap (after_each c.args.chunks.now c.args.numbers.now c.in_ok-arrivals.arrivals.items) c.make_room.ensures.kept)
