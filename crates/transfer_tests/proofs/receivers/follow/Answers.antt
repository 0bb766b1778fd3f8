use Rattle.std.proofs.Common.{◌≡◌, ◌+◌, ◌*◌, ◌≤◌, length, arith}
use Rattle.sctp_data.specs.ForwardTsn.{ForwardTsn, forward_tsn_of}
use Rattle.sctp_receiver.specs.Receiver.{Reception}
use Rattle.sctp_receiver.specs.SkipCosts.{SkipsCostByWhatIsHeld, held_fragments, held_messages, skips_walk}
use Rattle.sctp_receiver.specs.Visited.{to_visit}
use Rattle.transfer_tests.proofs.receivers.follow.Goals as goal

-- the law for one message, one fragment and one stream
counted : SkipsCostByWhatIsHeld → (f : ForwardTsn) (r : Reception) → held_messages r.streams ≡ 1 → held_fragments r.streams ≡ 1
    → length (to_visit r.streams) ≡ 1 → skips_walk f r ≤ 2 * length f.streams + 21
counted law f r messages fragments visited = omega (arith, law f r, messages, fragments, visited)

pub returns-in-Known : goal.returns-in-Known
returns-in-Known c = record {
  looks = λ m g v.
      let walk = c.forward_tsn.ensures.walk in
      let few = counted c.a_skip_costs_by_what_is_held.ensures (forward_tsn_of c.args.skip.now) c.args.receiver.now m g v in
      omega (arith, walk, few);
}

pub returns-in-PastClosed : goal.returns-in-PastClosed
returns-in-PastClosed c = record {
  looks = λ m g v.
      let walk = c.forward_tsn-in-PastClosed.ensures.walk in
      let few = counted c.a_skip_costs_by_what_is_held.ensures (forward_tsn_of c.args.skip.now) c.args.receiver.now m g v in
      omega (arith, walk, few);
}

pub returns : goal.returns
returns c = record { looks = λ m g v. omega arith }
