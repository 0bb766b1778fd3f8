use Rattle.std.proofs.Common.{◌∙◌, rules}
use Rattle.std.proofs.lemmas.Fn.{filter_same}
use Rattle.sctp_reassembly.proofs.reassembly_queue.fragment_list.keep_in.Goals as goal

pub returns : goal.returns
returns c = c.shrink_to.ensures.items ∙ filter_same _ _ _ (λ x b f' k. search rules) _ _ c.retain.ensures.filtered
