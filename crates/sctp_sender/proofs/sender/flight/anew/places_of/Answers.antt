use Rattle.sctp_sender.proofs.Names.{◌≡◌, ◌<◌, length, get_or, inl, inr, ap, sym, ◌∙◌, arith, cases_lt, get_or_default, PlacedData}
use Rattle.sctp_sender.proofs.sender.flight.anew.places_of.Goals as goal

pub loop-one-preserved : goal.loop-one-preserved
loop-one-preserved c =
    let bs = c.args.chunks.now in
    let i = c.loop-one.one-index in
    let b : PlacedData = c.one-item.result in
    let lt : i < length bs = c.loop-one-test.true in
    let small = c.requires i b lt in
    let is = ap (λ (x : PlacedData). x.place) c.one-item.is in
    record {
      all = λ k d less in'. elim (cases_lt k i) [
        | inl low ↦ let h = c.loop-one.invariant.all k d low in' in omega (arith, h, c.max-places.ensures)
        | inr high ↦
            let same : k ≡ i = omega (arith, less, high) in
            let here = ap (λ j. (get_or bs j d).place) same ∙ ap (λ (x : PlacedData). x.place) (get_or_default bs i d b lt) ∙ sym is in
            omega (arith, here, c.max-places.ensures)
      ];
      top = omega (arith, lt);
      turns = omega (arith, c.tick.ensures, c.loop-one.invariant.turns);
      small = omega (arith, small, is, c.max-places.ensures, c.loop-one.invariant.small);
    }

pub returns-clause-within : goal.returns-clause-within
returns-clause-within c = λ k d lt. c.loop-one.invariant.all k d (omega (arith, lt, c.loop-one-test.false)) lt
