use Rattle.sctp_link.proofs.Names.{◌≡◌, ◌<◌, ◌≤◌, false, sym, ◌∙◌, arith, list_all, nat_tests, skip_counts, cumulative, names_fit, record_in, stale-fits}
use Rattle.sctp_link.proofs.Names.{all-fit, Reception, ap}
use Rattle.sctp_link.proofs.upkeep.Facts.{facts}
use Rattle.sctp_link.proofs.acknowledgement.Reporting.{cumulative-place}
use Rattle.sctp_link.proofs.link.Link.skip_fits.Goals as goal

pub returns-then-cumulative-upto : goal.returns-then-cumulative-upto
returns-then-cumulative-upto g c =
    let w = record_in c.self.inside in
    let past : c.args.upto < cumulative w =
    omega (
      arith,
      c.if-cumulative-upto.true,
      c.count_of-cumulative.ensures,
      c.cumulative_tsn.ensures,
      ap (λ (r : Reception). r.cumulative_tsn) c.receiver.ensures,
      cumulative-place c.self.invariant.1 0,
    ) in
    let stale : skip_counts w c.args.upto ≡ false = grind (arith, nat_tests) in
    rw (← c.self.view_is) (sym (stale-fits w c.args.upto c.args.names.now stale (facts c.self.invariant.1).spans))

pub returns : goal.returns
returns g c =
    let w = record_in c.self.inside in
    let past : cumulative w ≤ c.args.upto =
    omega (
      arith,
      c.if-cumulative-upto.false,
      c.count_of-cumulative.ensures,
      c.cumulative_tsn.ensures,
      ap (λ (r : Reception). r.cumulative_tsn) c.receiver.ensures,
      cumulative-place c.self.invariant.1 0,
    ) in
    let all : c.names_fit.result ≡ list_all (λ r. names_fit w r.stream c.args.names.now) w.streams = rw (← c.self.view_is) at c.names_fit.ensures in
    rw (← c.self.view_is) (all ∙ all-fit (facts c.self.invariant.1) c.args.upto c.args.names.now past)
