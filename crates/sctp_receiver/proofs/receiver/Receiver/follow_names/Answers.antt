use Rattle.sctp_receiver.proofs.Names.{◌≡◌, ap, sym, ◌∙◌, false, length, arith, at_or_before, Filter, to_visit, unordered_skips_walk}
use Rattle.sctp_receiver.proofs.Receptions.{after}
use Rattle.sctp_receiver.proofs.Settled.{fewer-named}
use Rattle.sctp_receiver.specs.SkipCosts.{named_walk}
use Rattle.sctp_receiver.proofs.SkipCosts.{none-settled, unordered-after-names}
use Rattle.sctp_receiver.proofs.receiver.Receiver.follow_names.Goals as goal

pub skip_to_counted-requires : goal.skip_to_counted-requires
skip_to_counted-requires c =
    let tsn = c.args.chunk.now.new_cumulative_tsn in
    let near = sym c.is_opposite.ensures.value ∙ c.if-is_opposite.false in
    let late : at_or_before tsn c.self.inside.filter.cumulative_tsn ≡ false = ap (at_or_before tsn) (sym c.cumulative_tsn.ensures)
    ∙ sym c.sna32lte.ensures.value ∙ c.if-sna32lte.false in
    after c.self.inside.filter.cumulative_tsn tsn c.is_opposite.ensures.cumulative_fits c.is_opposite.ensures.tsn_fits near late

pub returns-clause-cost : goal.returns-clause-cost
returns-clause-cost c =
    let few = fewer-named c.deref.result.now c.self.inside.streams in
    let names = ap length c.deref.ensures.value in
    let named = ap (λ ls. length (to_visit ls)) c.forward_named_counted.ensures.value in
    let beyond = ap (λ (f : Filter). length f.beyond) c.settle.ensures in
    rw (← c.self.view_is) (omega (arith, few, named, names, beyond))

pub returns-clause-walk : goal.returns-clause-walk
returns-clause-walk c =
    let ls = c.self.inside.streams in
    let few = unordered-after-names c.deref.result.now ls in
    let names = ap (λ ns. named_walk ns ls) c.deref.ensures.value in
    let named = ap unordered_skips_walk c.forward_named_counted.ensures.value in
    rw (← c.self.view_is) (omega (arith, none-settled c.forward_named_counted.new.self, few, named, names))
