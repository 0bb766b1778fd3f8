use Rattle.sctp_link.proofs.Names.{◌≡◌, ℕ, ◌≤◌, true, List, Some, refl, ap, sym, ◌∙◌, arith, slice_get, if◌then◌else◌, nat_tests, Forward, cumulative}
use Rattle.sctp_link.proofs.Names.{skip_counts, after_arrive, arrive_reply, record_in, wire_skip, Reception}
use Rattle.sctp_model.specs.Reply as R
use Rattle.sctp_link.proofs.acknowledgement.Reporting.{cumulative-place}
use Rattle.sctp_link.proofs.skips.SkipComes.{reads-skip}
use Rattle.sctp_link.proofs.link.Link.arrive_skip.Goals as goal

pub read_forward_tsn-requires : goal.read_forward_tsn-requires
read_forward_tsn-requires g c =
    let w = record_in c.self.inside in
    let lies : (names : List ℕ) × (slice_get w.network c.args.k ≡ Some (Forward c.args.upto names)) = rw (← c.self.view_is) at c.requires.lies in (
      wire_skip w c.args.upto lies.0,
      reads-skip c.args.k c.args.upto lies.0 c.self.inside.network.items c.index.result.now c.self.invariant.1 refl refl lies.1 c.index.ensures,
    )

pub follow-requires-clause-says : goal.follow-requires-clause-says
follow-requires-clause-says g c =
    let w = record_in c.self.inside in
    rw (← c.self.view_is) (λ names e. c.in_ok-chunk.ensures.chunk (wire_skip w c.args.upto names)
    (reads-skip c.args.k c.args.upto names c.self.inside.network.items c.index.result.now c.self.invariant.1 refl refl e c.index.ensures))

pub follow-requires-clause-counts : goal.follow-requires-clause-counts
follow-requires-clause-counts g c =
    let w = record_in c.self.inside in
    let past : cumulative w ≤ c.args.upto =
    omega (
      arith,
      c.if-cumulative-upto.false,
      c.count_of-cumulative.ensures,
      c.cumulative_tsn.ensures,
      ap (λ (r : Reception). r.cumulative_tsn) c.receiver.ensures,
      cumulative-place c.self.invariant.1 0,
    ) in
    let counted : skip_counts w c.args.upto ≡ true = grind (arith, nat_tests) in
    rw (← c.self.view_is) counted

pub returns-clause-ok : goal.returns-clause-ok
returns-clause-ok g c =
    let w = record_in c.self.inside in
    let past : cumulative w ≤ c.args.upto =
    omega (
      arith,
      c.if-cumulative-upto.false,
      c.count_of-cumulative.ensures,
      c.cumulative_tsn.ensures,
      ap (λ (r : Reception). r.cumulative_tsn) c.receiver.ensures,
      cumulative-place c.self.invariant.1 0,
    ) in
    let counted : skip_counts w c.args.upto ≡ true = grind (arith, nat_tests) in
    let v = c.args.self.now.recorded in
    let counts : skip_counts v c.args.upto ≡ true = rw (← c.self.view_is) counted in
    let lies = c.requires.lies in
    record {
      right = sym (ap (arrive_reply v) lies.1 ∙ ap (λ b. if b then R.Skipped else R.Stale) counts);
      moves = c.follow.ensures.followed lies.0 lies.1 ∙ sym (ap (after_arrive v) lies.1);
    }
