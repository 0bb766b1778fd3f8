use Rattle.std.proofs.Common.{◌≡◌, ◌-◌, length, ap, ap₂, ◌∙◌, sym, subst, arith}
use Rattle.sctp_reassembly.specs.reassembly_queue.Counts.{set_chunks}
use Rattle.std.specs.List.{filter}
use Rattle.sctp_reassembly.specs.reassembly_queue.ReassemblyQueue.{ReassemblyState, IsCounted, complete_sets, set_bytes}
use Rattle.sctp_reassembly.specs.reassembly_queue.Skips.{cannot_complete, ssn_past_sets}
use Rattle.sctp_reassembly.proofs.lemmas.reassembly_queue.ChunkSets.{state_of}
use Rattle.sctp_reassembly.proofs.lemmas.reassembly_queue.ByteCounts.{incomplete_counted, incomplete_complete, incomplete_agrees}
use Rattle.sctp_reassembly.proofs.reassembly_queue.ReassemblyQueue.forward_tsn_for_incomplete_counted.Goals as goal

pub returns-clause-value : goal.returns-clause-value
returns-clause-value c =
    let q = c.self.inside in
    let t = c.args.new_cumulative_tsn in
    let n = set_bytes (filter (cannot_complete t) q.ordered) in
    rw (← c.self.view_is) (c.release.ensures n c.discard-gone.ensures.bytes
    ∙ ap₂ (λ next sets. state_of q.si next sets q.unordered.items q.unordered_chunks.chunks (q.n_bytes - n) q.max_message_size q.unordered_chunks.places)
    (c.ssn_past_sets-self-inside.ensures.value
    ∙ ap (λ sets. ssn_past_sets q.next_ssn (filter (cannot_complete t) sets)) c.as_deque-sets.ensures) c.discard-gone.ensures.rest)

pub returns-clause-counted : goal.returns-clause-counted
returns-clause-counted c h = subst IsCounted (sym (returns-clause-value c)) (incomplete_counted c.args.new_cumulative_tsn c.args.self.now h)

pub returns-clause-complete : goal.returns-clause-complete
returns-clause-complete c = ap (λ (q : ReassemblyState). complete_sets q.held) (returns-clause-value c)
    ∙ incomplete_complete c.args.new_cumulative_tsn c.args.self.now.held

pub returns-clause-agrees : goal.returns-clause-agrees
returns-clause-agrees c h = returns-clause-value c ∙ incomplete_agrees c.args.new_cumulative_tsn c.args.self.now h

pub returns-clause-walk : goal.returns-clause-walk
returns-clause-walk c =
    let same : c.self.inside.ordered ≡ c.args.self.now.held.ordered = ap (λ (q : ReassemblyState). q.held.ordered) c.self.view_is in
    omega (
      arith,
      ap length same,
      ap set_chunks same,
      ap length c.as_deque-sets.ensures,
      ap set_chunks c.as_deque-sets.ensures,
      c.ssn_past_sets-self-inside.ensures.walk,
      c.discard-gone.ensures.walk,
    )
