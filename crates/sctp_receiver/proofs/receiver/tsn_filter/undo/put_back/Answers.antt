use Rattle.sctp_receiver.proofs.Names.{◌≡◌, length, sym, subst, ap, ◌∙◌, arith, rules, deque_capacity, deque_len, AreRuns, tsns_of}
use Rattle.sctp_receiver.proofs.Retracts.{none-back, back-tsns, back-runs, back-room}
use Rattle.sctp_receiver.proofs.receiver.tsn_filter.undo.put_back.Goals as goal

pub push_front_reserved-requires : goal.push_front_reserved-requires
push_front_reserved-requires c =
    let rs = c.args.runs.now.items in
    let long : deque_len c.args.runs.now ≡ length rs = search rules in
    let test = c.if-distance-gt1.true in
    let room = back-room c.args.cumulative_tsn c.args.last rs c.ranges.cumulative_tsn.fits c.ranges.last.fits c.requires.runs c.requires.rise
    (omega (arith, test, c.distance.ensures.value)) (deque_capacity c.args.runs.now) c.requires.room in
    omega (arith, room, long)

pub returns-then-distance-gt1-clause-tsns : goal.returns-then-distance-gt1-clause-tsns
returns-then-distance-gt1-clause-tsns c =
    let test = c.if-distance-gt1.true in
    ap tsns_of c.push_front_reserved.ensures.items
    ∙ back-tsns c.args.cumulative_tsn c.args.last c.args.runs.now.items c.ranges.cumulative_tsn.fits c.ranges.last.fits c.requires.runs c.requires.rise
    (omega (arith, test, c.distance.ensures.value))

pub returns-then-distance-gt1-clause-runs : goal.returns-then-distance-gt1-clause-runs
returns-then-distance-gt1-clause-runs c =
    let test = c.if-distance-gt1.true in
    subst (AreRuns c.args.cumulative_tsn 0) (sym c.push_front_reserved.ensures.items)
    (back-runs c.args.cumulative_tsn c.args.last c.args.runs.now.items c.ranges.cumulative_tsn.fits c.ranges.last.fits c.requires.runs c.requires.rise
    (omega (arith, test, c.distance.ensures.value)))

pub returns-else-distance-gt1-clause-runs : goal.returns-else-distance-gt1-clause-runs
returns-else-distance-gt1-clause-runs c =
    let test = c.if-distance-gt1.false in
    none-back c.args.cumulative_tsn c.args.last c.args.runs.now.items c.ranges.cumulative_tsn.fits c.ranges.last.fits c.requires.runs c.requires.rise
    (omega (arith, test, c.distance.ensures.value))
