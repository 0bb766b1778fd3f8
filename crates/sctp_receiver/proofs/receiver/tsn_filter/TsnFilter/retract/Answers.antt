use Rattle.sctp_receiver.proofs.Names.{◌≤◌, ◌++◌, ap, sym, subst, arith, ◌==◌, not, filter, Beyond, Next, Filter, tsns_of, count_of_runs}
use Rattle.sctp_receiver.proofs.Names.{CanRetract, passed}
use Rattle.sctp_receiver.proofs.RunBlocks.{run-count}
use Rattle.sctp_receiver.proofs.receiver.tsn_filter.TsnFilter.retract.Goals as goal

pub invariant_of-self : goal.invariant_of-self
invariant_of-self c =
    let f = c.self.inside in
    let i = c.self.invariant in
    let room = c.in-Beyond.room in
    let p = c.take_tsn in
    let can : CanRetract (Beyond c.in-Beyond.tsn room) c.args.self.now = subst (λ u. CanRetract u c.args.self.now) c.in-Beyond.is c.requires in
    let places : count_of_runs f.cumulative_tsn (filter (λ t. not (t == c.in-Beyond.tsn)) (tsns_of f.runs.items)) ≤ room = subst
    (λ (v : Filter). count_of_runs v.cumulative_tsn (filter (λ t. not (t == c.in-Beyond.tsn)) v.beyond) ≤ room) (sym c.self.view_is) can.places in
    let count = ap (count_of_runs f.cumulative_tsn) p.ensures.tsns in
    let n = run-count f.cumulative_tsn p.new.runs.items i.in_range p.ensures.runs in
    let was = ap (λ (v : Filter). v.room) c.self.view_is in
    let fits = can.room in
    record {
      in_range = i.in_range;
      runs = p.ensures.runs;
      places = omega (arith, places, count, n);
      capacity = omega (arith, fits, was, i.capacity, p.ensures.capacity);
    }

pub invariant_of-self-in-Next : goal.invariant_of-self-in-Next
invariant_of-self-in-Next c =
    let f = c.self.inside in
    let i = c.self.invariant in
    let b = c.in-Next.cumulative_tsn in
    let room = c.in-Next.room in
    let p = c.put_back in
    let can : CanRetract (Next b room) c.args.self.now = subst (λ u. CanRetract u c.args.self.now) c.in-Next.is c.requires in
    let places : count_of_runs b (passed b f.cumulative_tsn ++ tsns_of f.runs.items) ≤ room = subst
    (λ (v : Filter). count_of_runs b (passed b v.cumulative_tsn ++ v.beyond) ≤ room) (sym c.self.view_is) can.places in
    let count = ap (count_of_runs b) p.ensures.tsns in
    let n = run-count b p.new.runs.items can.in_range p.ensures.runs in
    let was = ap (λ (v : Filter). v.room) c.self.view_is in
    let fits = can.room in
    record {
      in_range = can.in_range;
      runs = p.ensures.runs;
      places = omega (arith, places, count, n);
      capacity = omega (arith, fits, was, i.capacity, p.ensures.capacity);
    }
