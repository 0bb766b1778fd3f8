use Rattle.sctp_receiver.proofs.Names.{◌≡◌, sym, subst, ℕ, false, reaches}
use Rattle.sctp_receiver.proofs.TsnRuns.{not-reached, left-is, right-is, put-is, IsLeftEnd, IsRightEnd, IsPut}
use Rattle.sctp_receiver.proofs.receiver.tsn_filter.runs.put.Goals as goal

is-put : (c : goal.After-put_for) → IsPut c.args.base c.args.tsn c.args.runs.now.items c.ranges.base.fits c.ranges.tsn.fits c.requires.runs c.requires.far
    c.requires.near c.put_for.new.runs.items
is-put c =
    let rs = c.args.runs.now.items in
    let base = c.args.base in
    let t = c.args.tsn in
    let s = c.spot_behind-spot.result in
    let spot = c.spot_behind-spot.ensures.spot in
    let hb = c.ranges.base.fits in
    let ht = c.ranges.tsn.fits in
    let are = c.requires.runs in
    let far = c.requires.far in
    let near = c.requires.near in
    let nay : reaches base t s.before ≡ false = not-reached base t rs hb ht are s spot c.requires.new in
    let left = subst (λ (e : ℕ × ℕ). IsLeftEnd base t rs hb ht are far near s.place e) (sym c.left_end-first.ensures)
    (left-is base t rs hb ht are far near s.before s.place spot.within spot.before nay) in
    let right = subst (λ (e : ℕ × ℕ). IsRightEnd base t rs hb ht are far near s.place e) (sym c.right_end-last.ensures)
    (right-is base t rs hb ht are far near s.after s.place spot.within spot.after spot.ahead) in
    put-is base t rs hb ht are far near s.place c.left_end-first.result c.right_end-last.result c.put_for.new.runs.items left right c.put_for.ensures.items

pub returns-clause-tsns : goal.returns-clause-tsns
returns-clause-tsns c = (is-put c).tsns

pub returns-clause-runs : goal.returns-clause-runs
returns-clause-runs c = (is-put c).runs

pub returns-clause-len : goal.returns-clause-len
returns-clause-len c = (is-put c).len
