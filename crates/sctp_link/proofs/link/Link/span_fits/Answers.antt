use Rattle.sctp_link.proofs.Names.{◌≡◌, ℕ, ap, sym, ◌∙◌, ◌+◌, Some, refl, arith, slice_get, list_all, take_all, Data, record_in, slot_fits}
use Rattle.sctp_link.proofs.Names.{get_or_from_slice_get, all-more, all-no, data-fits}
use Rattle.sctp_link.proofs.link.Link.span_fits.Goals as goal
use Rattle.sctp_link.proofs.upkeep.Facts.{facts}

pub slot_fits-requires : goal.slot_fits-requires
slot_fits-requires g c =
    let k = c.requires in
    (k.0, c.args.places.now, c.loop-at.at, k.1, c.loop-at-test.true, refl)

pub returns-then-not-slot_fits : goal.returns-then-not-slot_fits
returns-then-not-slot_fits g c =
    let f = slot_fits c.args.self.now.recorded in
    let lies : (k : ℕ) × (slice_get (record_in c.self.inside).network k ≡ Some (Data c.args.places.now)) = rw (← c.self.view_is) at c.requires in
    let all = all-no f c.args.places.now (c.loop-at.at + 1) (all-more f c.args.places.now c.loop-at.at c.slot_fits.result c.loop-at-test.true
    (λ q e. c.slot_fits.ensures ∙ ap f (get_or_from_slice_get c.args.places.now c.loop-at.at q 0 e)) c.loop-at.invariant ∙ c.if-not-slot_fits.true) in
    sym ((rw (← c.self.view_is) (data-fits (facts c.self.invariant.1) lies.0 c.args.places.now lies.1)) ∙ all)

pub loop-at-preserved : goal.loop-at-preserved
loop-at-preserved g c =
    let f = slot_fits c.args.self.now.recorded in
    all-more f c.args.places.now c.loop-at.at c.slot_fits.result c.loop-at-test.true (λ q e. c.slot_fits.ensures
    ∙ ap f (get_or_from_slice_get c.args.places.now c.loop-at.at q 0 e)) c.loop-at.invariant ∙ c.if-not-slot_fits.false

pub returns : goal.returns
returns g c =
    let f = slot_fits c.args.self.now.recorded in
    let lies : (k : ℕ) × (slice_get (record_in c.self.inside).network k ≡ Some (Data c.args.places.now)) = rw (← c.self.view_is) at c.requires in
    let all = ap (list_all f) (sym (take_all c.loop-at.at c.args.places.now (omega (arith, c.loop-at-test.false)))) ∙ c.loop-at.invariant in
    sym ((rw (← c.self.view_is) (data-fits (facts c.self.invariant.1) lies.0 c.args.places.now lies.1)) ∙ all)
