use Rattle.sctp_receiver.proofs.Names.{ℕ, zero, suc, ◌+◌, ◌-◌, ◌≤◌, length, ap, arith, distance, comes_before_from}
use Rattle.sctp_receiver.proofs.Names.{following_tsn, after_one, digits, tsns_of}
use Rattle.sctp_receiver.proofs.FilterCalls.{has-room, lies-beyond, next-is, put-beyond}
use Rattle.sctp_receiver.proofs.TsnRuns.{fewer-runs, runs-rise}
use Rattle.sctp_receiver.proofs.PushCosts.{few-digits}
use Rattle.sctp_receiver.proofs.receiver.tsn_filter.TsnFilter.accept.Goals as goal

pub pass-self-inside-requires-clause-after : goal.pass-self-inside-requires-clause-after
pass-self-inside-requires-clause-after c =
    let one = after_one c.self.inside.cumulative_tsn c.self.invariant.in_range in
    let from = c.self.inside.cumulative_tsn in
    rw (c.if-tsn-from.true) (comes_before_from from (following_tsn from) (omega (arith, one)) (omega (arith, one)))

pub returns-then-tsn-from-clause-value : goal.returns-then-tsn-from-clause-value
returns-then-tsn-from-clause-value c =
    let f = c.self.inside in
    let i = c.self.invariant in
    let p = c.pass-self-inside in
    rw (← c.self.view_is) (next-is f.cumulative_tsn c.args.tsn p.result f.room f.room (tsns_of f.runs.items) (tsns_of p.new.runs.items) f.duplicates.items
    i.in_range c.if-tsn-from.true (runs-rise f.cumulative_tsn 0 f.runs.items i.in_range i.runs) p.ensures.moved)

-- at most two turns, and one where no TSN is beyond
few-turns : (n was now left : ℕ) → now + left ≤ was + n + 1 → now ≤ was + 2 → now ≤ was + digits n + 1
few-turns zero was now left all two = omega (arith, all)
few-turns (suc n) was now left all two = let one = few-digits 1 (suc n) 1 (omega arith) (omega arith) in omega (arith, two, one)

pub returns-then-tsn-from-clause-cost : goal.returns-then-tsn-from-clause-cost
returns-then-tsn-from-clause-cost c =
    let f = c.self.inside in
    let p = c.pass-self-inside in
    let one = after_one f.cumulative_tsn c.self.invariant.in_range in
    let same = ap (distance f.cumulative_tsn) c.if-tsn-from.true in
    rw (← c.self.view_is) (few-turns (length (tsns_of f.runs.items)) c.args.turns.now p.new.turns (length (tsns_of p.new.runs.items)) p.ensures.cost
    (p.ensures.next (omega (arith, one, same))))

pub put-requires-clause-far : goal.put-requires-clause-far
put-requires-clause-far c =
    let f = c.self.inside in
    (lies-beyond f.cumulative_tsn c.args.tsn f.room (tsns_of f.runs.items) f.duplicates.items c.args.self.now c.self.view_is c.self.invariant.in_range
    c.ranges.tsn.fits c.requires.new c.requires.near c.if-tsn-from.false).farther

pub put-requires-clause-near : goal.put-requires-clause-near
put-requires-clause-near c =
    let f = c.self.inside in
    (lies-beyond f.cumulative_tsn c.args.tsn f.room (tsns_of f.runs.items) f.duplicates.items c.args.self.now c.self.view_is c.self.invariant.in_range
    c.ranges.tsn.fits c.requires.new c.requires.near c.if-tsn-from.false).near

pub put-requires-clause-room : goal.put-requires-clause-room
put-requires-clause-room c =
    let f = c.self.inside in
    let i = c.self.invariant in
    let h = has-room f.cumulative_tsn c.args.tsn f.room f.runs.items f.duplicates.items c.args.self.now c.self.view_is i.in_range i.runs c.requires.room
    c.if-tsn-from.false in
    omega (arith, h, i.capacity)

pub invariant_of-self-2 : goal.invariant_of-self-2
invariant_of-self-2 c =
    let f = c.self.inside in
    let i = c.self.invariant in
    let h = has-room f.cumulative_tsn c.args.tsn f.room f.runs.items f.duplicates.items c.args.self.now c.self.view_is i.in_range i.runs c.requires.room
    c.if-tsn-from.false in
    record {
      in_range = i.in_range;
      runs = c.put.ensures.runs;
      places = omega (arith, h, c.put.ensures.len);
      capacity = omega (arith, i.capacity, c.put.ensures.capacity);
    }

pub returns-clause-value : goal.returns-clause-value
returns-clause-value c =
    let f = c.self.inside in
    let i = c.self.invariant in
    let p = c.put in
    rw (← c.self.view_is) (put-beyond f.cumulative_tsn c.args.tsn f.room f.room (tsns_of f.runs.items) (tsns_of p.new.runs.items)
    f.duplicates.items i.in_range (runs-rise f.cumulative_tsn 0 p.new.runs.items i.in_range p.ensures.runs) p.ensures.tsns)

pub returns-clause-cost : goal.returns-clause-cost
returns-clause-cost c =
    let f = c.self.inside in
    let few = fewer-runs f.runs.items in
    let looked = few-digits (length f.runs.items) (length (tsns_of f.runs.items)) (c.put.new.turns - c.args.turns.now - 1) few c.put.ensures.cost in
    rw (← c.self.view_is) (omega (arith, looked, c.put.ensures.not_back))
