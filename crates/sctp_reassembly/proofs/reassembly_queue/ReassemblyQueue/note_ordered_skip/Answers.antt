use Rattle.std.proofs.Common.{ap, sym, ◌∙◌}
use Rattle.sctp_reassembly.specs.declared.reassembly_queue.ordered_skips.OrderedSkips.{OrderedSkips}
use Rattle.sctp_reassembly.specs.reassembly_queue.OrderedSkips.{is_in, after_noted}
use Rattle.sctp_reassembly.specs.reassembly_queue.ReassemblyQueue.{after_ordered_skip}
use Rattle.sctp_reassembly.proofs.lemmas.reassembly_queue.NotedSkips.{in-one, noted_first, noted_more}
use Rattle.sctp_reassembly.proofs.reassembly_queue.ReassemblyQueue.note_ordered_skip.Goals as goal

pub returns-in-Some : goal.returns-in-Some
returns-in-Some c =
    let q = c.args.self.now in
    let more : OrderedSkips = record { next_ssn = c.ssn_past.result; passed = c.with.result } in
    noted_more more c.in-Some.skips c.args.last_ssn q c.ssn_past.ensures c.with.ensures
    ∙ ap (λ o. after_ordered_skip c.args.last_ssn (after_noted o q)) (sym c.in-Some.is)

pub returns-in-None : goal.returns-in-None
returns-in-None c =
    let first : OrderedSkips = record { next_ssn = c.ssn_past-in-None.result; passed = c.upto.result } in
    rw (c.in-None.is, ← c.self.view_is) (noted_first first c.args.last_ssn _ c.ssn_past-in-None.ensures
    (λ x. ap (λ s. is_in s x) c.upto.ensures ∙ in-one c.args.last_ssn x))
