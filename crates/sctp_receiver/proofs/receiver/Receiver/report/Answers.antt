use Rattle.sctp_receiver.proofs.Names.{◌≡◌, length, take, drop, ap, ◌∙◌, rules, arith, length-take, Sack, Filter, Reception, sack_entries, duplicates_answered}
use Rattle.std.proofs.lemmas.Grind.{common_steps}
use Rattle.std.proofs.lemmas.List.{drop_min}
use Rattle.sctp_receiver.proofs.Receptions.{reception_in}
use Rattle.sctp_receiver.proofs.receiver.Receiver.report.Goals as goal

pub returns-clause-sacks : goal.returns-clause-sacks
returns-clause-sacks c =
    let q = c.self.inside in
    let now = c.args.self.now in
    let k = duplicates_answered (sack_entries c.args.room) now in
    let noted = ap (λ (s : Sack). length s.duplicate_tsn) c.in_ok-sack.ensures.made.sack in
    let count : c.len.result ≡ length (take k now.duplicates) = omega (arith, c.len.ensures, noted) in
    let same : q.filter.duplicates ≡ now.duplicates = ap (λ (r : Reception). r.duplicates) c.self.view_is in
    let left : drop c.len.result q.filter.duplicates ≡ drop k now.duplicates = ap (λ n. drop n q.filter.duplicates) (count ∙ length-take k now.duplicates)
    ∙ ap (drop _) same ∙ drop_min k now.duplicates in
    record {
      made = search rules;
      rest = ap (λ f. reception_in q.streams f q.max_message_size q.limits) c.forget_duplicates.ensures
          ∙ ap (λ ds. let f : Filter = record q.filter { duplicates = ds } in reception_in q.streams f q.max_message_size q.limits) left
          ∙ ap (λ (r : Reception). let s : Reception = record r { duplicates = drop k now.duplicates } in s) c.self.view_is;
      rest_of_all = grind (arith, common_steps);
      err = search rules;
    }
