use Rattle.std.proofs.Common.{◌∙◌, sym, subst, ap}
use Rattle.sctp_reassembly.specs.reassembly_queue.ReassemblyQueue.{ReassemblyState, IsCounted, complete_sets}
use Rattle.sctp_reassembly.proofs.lemmas.reassembly_queue.ByteCounts.{skip_counted, skip_complete}
use Rattle.sctp_reassembly.proofs.reassembly_queue.ReassemblyQueue.forward_tsn_for_ordered_counted.Goals as goal

pub returns-clause-value : goal.returns-clause-value
returns-clause-value c = c.forward_tsn_for_ordered_noted_counted.ensures.value ∙ c.note_ordered_skip-noted.ensures

pub returns-clause-counted : goal.returns-clause-counted
returns-clause-counted c h = subst IsCounted (sym (returns-clause-value c)) (skip_counted c.args.last_ssn c.args.self.now h)

pub returns-clause-complete : goal.returns-clause-complete
returns-clause-complete c = ap (λ (q : ReassemblyState). complete_sets q.held) (returns-clause-value c) ∙ skip_complete c.args.last_ssn c.args.self.now.held
