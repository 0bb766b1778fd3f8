use Rattle.std.proofs.Common.{◌++◌, ap, sym, ◌∙◌}
use Rattle.std.proofs.lemmas.List.{append-nil}
use Rattle.sctp_reassembly.proofs.lemmas.reassembly_queue.Resets.{old_gone}
use Rattle.sctp_reassembly.proofs.reassembly_queue.resets.end_use_of.Goals as goal

pub returns-then-is_old_message-clause-rest : goal.returns-then-is_old_message-clause-rest
returns-then-is_old_message-clause-rest c =
    let xs = c.args.sets.now.items in
    sym (ap (λ ys. xs ++ ys) (old_gone c.args.last_tsn c.args.set (sym c.is_old_message.ensures ∙ c.if-is_old_message.true)) ∙ append-nil xs)
