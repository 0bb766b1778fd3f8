use Rattle.sctp_sender.proofs.Names.{◌<◌, ◌≤◌, length, Some, ap, sym, ◌∙◌, arith, length_push}
use Rattle.sctp_sender.proofs.AnewKept.{filled-length, put-filled, with-set}
use Rattle.sctp_sender.proofs.sender.flight.anew.put_at.Goals as goal

pub returns-then-place-len-clause-items : goal.returns-then-place-len-clause-items
returns-then-place-len-clause-items c =
    let q = c.args.kept.now in
    let lt : c.args.place < length q.items = omega (arith, q.ok.0, c.len.ensures, c.if-place-len.true) in
    sym (with-set c.args.place c.args.user_data q.items lt)

pub push_back_reserved-requires : goal.push_back_reserved-requires
push_back_reserved-requires c =
    let q = c.args.kept.now in
    let le : length q.items ≤ c.args.place = omega (arith, q.ok.0, c.len.ensures, c.if-place-len.false) in
    let n = ap length c.fill.ensures.items ∙ filled-length c.args.place q.items le in
    omega (arith, n, c.fill.new.kept.ok.0, c.fill.ensures.capacity, c.requires)

pub returns-clause-items : goal.returns-clause-items
returns-clause-items c =
    let q = c.args.kept.now in
    let le : length q.items ≤ c.args.place = omega (arith, q.ok.0, c.len.ensures, c.if-place-len.false) in
    put-filled c.args.place c.args.user_data q.items c.fill.new.kept.items _ le c.fill.ensures.items c.push_back_reserved.ensures.items

pub returns-clause-cost : goal.returns-clause-cost
returns-clause-cost c =
    let n = ap length c.push_back_reserved.ensures.items ∙ length_push c.fill.new.kept.items (Some c.args.user_data) in
    omega (arith, n, c.fill.ensures.cost, c.tick.ensures)

pub returns-clause-not_back : goal.returns-clause-not_back
returns-clause-not_back c =
    let q = c.args.kept.now in
    let le : length q.items ≤ c.args.place = omega (arith, q.ok.0, c.len.ensures, c.if-place-len.false) in
    let n = ap length c.fill.ensures.items ∙ filled-length c.args.place q.items le in
    omega (arith, n, le, c.fill.ensures.cost, c.tick.ensures)
