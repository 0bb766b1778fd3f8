use Rattle.sctp_receiver.proofs.Names.{◌≡◌, ◌-◌, ◌≤◌, length, take, subst, rules, arith, IfOk, sack_of, filter_of, max_sack_entries, gap_ack_blocks}
use Rattle.sctp_receiver.specs.Costs.{IsWithinBlocks}
use Rattle.sctp_receiver.specs.Receiver.{sack, sack_of_entries}
use Rattle.sctp_receiver.proofs.receiver.Receiver.sack_within.Goals as goal

entries-are : (c : goal.After-sack_of_entries) → 65532 ≤ c.args.room → c.min-entries.result ≡ max_sack_entries
entries-are c le = omega (arith, le, c.saturating_sub.ensures, c.min-entries.ensures)

pub returns-clause-made : goal.returns-clause-made
returns-clause-made c =
    let r = c.args.self.now in
    let made = c.sack_of_entries.result in
    record {
      sack = search rules;
      all = λ le. subst (λ w. IfOk made (λ s. sack_of s ≡ sack w r)) c.window.ensures
          (subst (λ n. IfOk made (λ s. sack_of s ≡ sack_of_entries c.window.result n r)) (entries-are c le) c.sack_of_entries.ensures.sack);
      fits = search rules;
      fits_chunk = search rules;
      memory = search rules;
    }

pub returns-clause-cost : goal.returns-clause-cost
returns-clause-cost c =
    let r = c.args.self.now in
    record {
      not_back = search rules;
      cost = search rules;
      cost_of_blocks = search rules;
      cost_of_all = λ le.
          subst (λ n. IsWithinBlocks (length (take n (gap_ack_blocks (filter_of r)))) (length r.beyond) (c.sack_of_entries.new.turns - c.args.turns.now))
          (entries-are c le) c.sack_of_entries.ensures.cost_of_blocks;
    }
