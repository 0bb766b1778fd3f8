use Rattle.sctp_receiver.proofs.Names.{◌<◌, ap, arith, tsns_of, count_of_runs}
use Rattle.sctp_receiver.proofs.FilterCalls.{filter_in}
use Rattle.sctp_receiver.proofs.RunBlocks.{run-count}
use Rattle.sctp_receiver.proofs.receiver.tsn_filter.TsnFilter.make_room.Goals as goal

pub returns-clause-ok : goal.returns-clause-ok
returns-clause-ok c =
    let f = c.self.inside in
    let i = c.self.invariant in
    let ok = c.in_ok-self-inside.ensures.ok in
    let rs = c.reserve.new.runs.items in
    let room = c.in_ok-self-inside.field-0 in
    let n = run-count f.cumulative_tsn f.runs.items i.in_range i.runs in
    let same = ap tsns_of c.reserve.ensures.items in
    let count : count_of_runs f.cumulative_tsn (tsns_of rs) < room = let k = ap (count_of_runs f.cumulative_tsn) same in omega (arith, n, k, ok) in
    rw (← c.self.view_is) (record {
      same = ap (λ ts. filter_in f.cumulative_tsn ts f.duplicates.items room) same;
      more = omega (arith, ok);
      fits = λ _. count;
    })
