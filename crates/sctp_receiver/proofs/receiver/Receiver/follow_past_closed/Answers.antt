use Rattle.sctp_receiver.proofs.Names.{◌≡◌, ap, ◌∙◌, length, rules, arith, Reception, after_forward, has_incomplete, to_visit, incomplete_skips_walk}
use Rattle.sctp_data.specs.ForwardTsn.{forward_tsn_of}
use Rattle.sctp_receiver.proofs.Receptions.{reception_in}
use Rattle.sctp_receiver.proofs.Settled.{fewer-after}
use Rattle.sctp_receiver.proofs.Resetting.{none-incomplete}
use Rattle.sctp_receiver.proofs.SkipCosts.{incomplete-after}
use Rattle.sctp_receiver.proofs.receiver.Receiver.follow_past_closed.Goals as goal

pub returns-in-Skipped : goal.returns-in-Skipped
returns-in-Skipped c =
    let q = c.self.inside in
    let f = forward_tsn_of c.args.chunk.now in
    let is : reception_in q.streams q.filter q.max_message_size q.limits ≡ after_forward f c.args.self.now =
    c.self.view_is ∙ c.in_ok-forwarded.ensures.names.ok in
    let few = fewer-after f c.args.self.now in
    let visited = ap (λ (r : Reception). length (to_visit r.streams)) is in
    let beyond = ap (λ (r : Reception). length r.beyond) c.self.view_is in
    let walked = incomplete-after f c.args.self.now in
    let held = ap (λ (r : Reception). incomplete_skips_walk r.streams) is in
    record {
      follows = record {
        answer = search rules;
        ok = search rules;
        accepted = search rules;
        refused = search rules;
        err = search rules;
        agrees = λ none.
            let here = none-incomplete f.new_cumulative_tsn q.streams (ap (λ (r : Reception). has_incomplete f.new_cumulative_tsn r.streams) is ∙ none) in
            ap (λ ls. reception_in ls q.filter q.max_message_size q.limits) (c.forward.ensures.value ∙ here) ∙ is;
      };
      not_back = search rules;
      cost = omega (arith, few, visited, beyond, c.in_ok-forwarded.ensures.cost, c.forward.ensures.cost);
      skips_not_back = search rules;
      walk = omega (arith, walked, held, c.names_too_far.ensures.walk, c.in_ok-forwarded.ensures.walk, c.forward.ensures.walk);
    }
