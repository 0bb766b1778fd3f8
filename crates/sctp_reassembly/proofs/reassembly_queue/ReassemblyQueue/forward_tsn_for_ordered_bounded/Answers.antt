use Rattle.std.proofs.Common.{◌-◌, ◌^◌, not, min, Some, if◌then◌else◌, ap, ap₂, ◌∙◌, sym, subst}
use Rattle.std.specs.List.{filter}
use Rattle.sctp_util.specs.Serial.{comes_before16}
use Rattle.sctp_data.specs.ChunkSet.{ChunkSet}
use Rattle.sctp_reassembly.specs.reassembly_queue.ReassemblyQueue.{set_bytes}
use Rattle.sctp_reassembly.specs.reassembly_queue.Skips.{is_abandoned, is_discarded, goal_of}
use Rattle.sctp_reassembly.proofs.lemmas.reassembly_queue.ChunkSets.{state_of}
use Rattle.sctp_reassembly.specs.reassembly_queue.ReassemblyQueue.{ReassemblyState, IsCounted, complete_sets}
use Rattle.sctp_reassembly.proofs.lemmas.reassembly_queue.ByteCounts.{bounded_counted, bounded_complete}
use Rattle.sctp_reassembly.proofs.lemmas.reassembly_queue.NotedSkips.{one-abandoned, same-those}
use Rattle.sctp_reassembly.proofs.reassembly_queue.ReassemblyQueue.forward_tsn_for_ordered_bounded.Goals as goal

pub returns-clause-value : goal.returns-clause-value
returns-clause-value c =
    let q = c.self.inside in
    let n = set_bytes (filter (is_abandoned c.args.last_ssn c.args.new_cumulative_tsn) q.ordered) in
    let t = c.args.new_cumulative_tsn in
    let abandoned = is_abandoned c.args.last_ssn t in
    let discarded = is_discarded (Some c.upto.result) (Some t) in
    let same = λ (s : ChunkSet). ap (λ span. is_discarded (Some span) (Some t) s) c.upto.ensures ∙ one-abandoned c.args.last_ssn t s in
    let bytes = c.discard-gone.ensures.bytes ∙ ap (λ sets. min (set_bytes sets) (2 ^ 64 - 1)) (same-those abandoned discarded same q.ordered) in
    let rest = c.discard-gone.ensures.rest ∙ same-those (λ s. not (abandoned s)) (λ s. not (discarded s)) (λ s. ap not (same s)) q.ordered in
    rw (← c.self.view_is) (c.release.ensures n bytes
    ∙ ap₂ (λ next sets. state_of q.si next sets q.unordered.items q.unordered_chunks.chunks (q.n_bytes - n) q.max_message_size q.unordered_chunks.places)
    (c.ssn_upto-self-inside.ensures ∙ ap (λ g. if comes_before16 q.next_ssn g then g else q.next_ssn) (c.goal-goal.ensures
    ∙ ap (goal_of c.args.last_ssn c.args.new_cumulative_tsn) c.as_deque.ensures)) rest)

pub returns-clause-counted : goal.returns-clause-counted
returns-clause-counted c h = subst IsCounted (sym (returns-clause-value c)) (bounded_counted c.args.last_ssn c.args.new_cumulative_tsn c.args.self.now h)

pub returns-clause-complete : goal.returns-clause-complete
returns-clause-complete c = ap (λ (q : ReassemblyState). complete_sets q.held) (returns-clause-value c)
    ∙ bounded_complete c.args.last_ssn c.args.new_cumulative_tsn c.args.self.now.held
