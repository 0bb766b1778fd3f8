use Rattle.sctp_receiver.proofs.Names.{◌≡◌, ◌+◌, ◌-◌, ◌++◌, suc, take, drop, ap, sym, subst, ◌∙◌, arith, length-append, length-take, length-drop, AreRuns}
use Rattle.sctp_receiver.proofs.Names.{count_of_runs, pieces, tsns_of}
use Rattle.sctp_receiver.proofs.RunBlocks.{run-count}
use Rattle.sctp_receiver.proofs.TsnRuns.{absent, cut-is, cut-runs, got-within, held-before, rest-is}
use Rattle.sctp_receiver.proofs.receiver.tsn_filter.runs.take_tsn.Goals as goal

pub cut-requires-clause-room : goal.cut-requires-clause-room
cut-requires-clause-room c =
    let k = held-before c.args.base c.args.tsn c.args.runs.now.items c.spot_of-spot.result c.in-Some.run' c.spot_of-spot.ensures.spot c.in-Some.is
    (sym c.reaches.ensures.value ∙ c.if-not-reaches.false) in
    let rs = c.args.runs.now.items in
    let n = c.spot_of-spot.result.place - 1 in
    let r = c.in-Some.run' in
    let base = c.args.base in
    let t = c.args.tsn in
    let left = take n rs ++ (pieces r t ++ drop (suc n) rs) in
    let are : AreRuns base 0 left = cut-runs base t rs c.ranges.base.fits c.ranges.tsn.fits c.requires.runs n r k.at k.begun k.reached in
    let same = ap (count_of_runs base) (cut-is base t rs c.ranges.base.fits c.ranges.tsn.fits c.requires.runs n r k.at k.begun k.reached) in
    let count = run-count base left c.ranges.base.fits are in
    let a = length-append (take n rs) (pieces r t ++ drop (suc n) rs) in
    let b = length-append (pieces r t) (drop (suc n) rs) in
    let d = length-take n rs in
    let e = length-drop (suc n) rs in
    let inside = got-within rs n r k.at in
    omega (arith, same, count, a, b, d, e, inside, c.requires.room)

pub returns-then-not-reaches-clause-tsns : goal.returns-then-not-reaches-clause-tsns
returns-then-not-reaches-clause-tsns c =
    let rs = c.args.runs.now.items in
    sym (rest-is c.args.tsn (tsns_of rs) (absent c.args.base c.args.tsn rs c.ranges.base.fits c.ranges.tsn.fits c.requires.runs c.spot_of-spot.result
    c.spot_of-spot.ensures.spot (sym c.reaches.ensures.value ∙ c.if-not-reaches.true)))

pub returns-in-Some-clause-tsns : goal.returns-in-Some-clause-tsns
returns-in-Some-clause-tsns c =
    let k = held-before c.args.base c.args.tsn c.args.runs.now.items c.spot_of-spot.result c.in-Some.run' c.spot_of-spot.ensures.spot c.in-Some.is
    (sym c.reaches.ensures.value ∙ c.if-not-reaches.false) in
    let rs = c.args.runs.now.items in
    let n = c.spot_of-spot.result.place - 1 in
    let r = c.in-Some.run' in
    let t = c.args.tsn in
    let one : n + 1 ≡ suc n = omega arith in
    ap tsns_of c.cut.ensures.items
    ∙ ap (λ j. tsns_of (take n rs ++ (pieces r t ++ drop j rs))) one
    ∙ cut-is c.args.base t rs c.ranges.base.fits c.ranges.tsn.fits c.requires.runs n r k.at k.begun k.reached

pub returns-in-Some-clause-runs : goal.returns-in-Some-clause-runs
returns-in-Some-clause-runs c =
    let k = held-before c.args.base c.args.tsn c.args.runs.now.items c.spot_of-spot.result c.in-Some.run' c.spot_of-spot.ensures.spot c.in-Some.is
    (sym c.reaches.ensures.value ∙ c.if-not-reaches.false) in
    let rs = c.args.runs.now.items in
    let n = c.spot_of-spot.result.place - 1 in
    let r = c.in-Some.run' in
    let t = c.args.tsn in
    let one : n + 1 ≡ suc n = omega arith in
    subst (AreRuns c.args.base 0) (sym (c.cut.ensures.items ∙ ap (λ j. take n rs ++ (pieces r t ++ drop j rs)) one))
    (cut-runs c.args.base t rs c.ranges.base.fits c.ranges.tsn.fits c.requires.runs n r k.at k.begun k.reached)
