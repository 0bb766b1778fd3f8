use Rattle.sctp_receiver.proofs.Names.{◌≡◌, ◌+◌, ◌∷◌, ◌++◌, take, drop, ap, ◌∙◌, arith, slice_set}
use Rattle.sctp_receiver.proofs.TsnRuns.{set-removed, set-here}
use Rattle.sctp_receiver.proofs.receiver.tsn_filter.runs.put_for.Goals as goal
use Rattle.sctp_receiver.proofs.receiver.tsn_filter.runs.put_for.Goals.{then-from-to-2, else-from-to-2}

pub returns-clause-items : goal.returns-clause-items
returns-clause-items c =
    let rs = c.args.runs.now.items in
    let i = c.args.from in
    let r = c.args.run in
    let q = c.requires in
    let ne = c.if-from-to.false in
    elim c.if-from-to-2.branch [
      | then-from-to-2 w ↦
          let lt = w.if-from-to-2.true in
          let two : i + 2 ≡ c.args.to = omega (arith, lt, q.two) in
          ap (λ us. slice_set us i r) (ap (λ (d : _). d.items) w.runs-is ∙ w.take_out.ensures.items)
          ∙ set-removed rs i r (omega (arith, lt, q.within))
          ∙ ap (λ k. take i rs ++ r ∷ drop k rs) two
      | else-from-to-2 w ↦
          let ge = w.if-from-to-2.false in
          let one : i + 1 ≡ c.args.to = omega (arith, ge, ne, q.order) in
          ap (λ us. slice_set us i r) (ap (λ (d : _). d.items) w.runs-is)
          ∙ set-here rs i r (omega (arith, ne, q.order, q.within))
          ∙ ap (λ k. take i rs ++ r ∷ drop k rs) one
    ]
