use Rattle.sctp_receiver.proofs.Names.{◌≡◌, ◌+◌, ◌++◌, suc, take, drop, ap, sym, ◌∙◌, arith, following_tsn, Run}
use Rattle.sctp_receiver.proofs.TsnRuns.{set-here, no-piece, one-piece}
use Rattle.sctp_receiver.proofs.receiver.tsn_filter.runs.cut.Goals as goal
use Rattle.sctp_receiver.proofs.receiver.tsn_filter.runs.cut.Goals.{then-run-tsn, else-run-tsn}

pub returns-else-run-tsn-2-clause-items : goal.returns-else-run-tsn-2-clause-items
returns-else-run-tsn-2-clause-items c =
    let rs = c.args.runs.now.items in
    let i = c.args.place in
    let r = c.args.run in
    let t = c.args.tsn in
    let first = c.if-run-tsn-2.false in
    let n : suc i ≡ i + 1 = omega arith in
    elim c.if-run-tsn.branch [
      | then-run-tsn w ↦
          ap (λ (d : _). d.items) w.runs-is
          ∙ w.take_out.ensures.items
          ∙ ap (λ k. take i rs ++ drop k rs) n
          ∙ ap (λ ps. take i rs ++ (ps ++ drop (i + 1) rs)) (sym (no-piece r t first w.if-run-tsn.true))
      | else-run-tsn w ↦
          ap (λ (d : _). d.items) w.runs-is
          ∙ set-here rs i (let p : Run = record { first = following_tsn t; last = r.last } in p) c.requires.place
          ∙ ap (λ ps. take i rs ++ (ps ++ drop (i + 1) rs)) (sym (one-piece r t first w.if-run-tsn.false))
    ]
