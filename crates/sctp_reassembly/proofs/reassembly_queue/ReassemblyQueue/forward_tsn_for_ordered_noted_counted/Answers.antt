use Rattle.std.proofs.Common.{◌≡◌, ◌-◌, length, refl, ◌∙◌, sym, subst, ap, arith}
use Rattle.sctp_reassembly.specs.reassembly_queue.Counts.{set_chunks}
use Rattle.sctp_reassembly.specs.reassembly_queue.Orders.{IsOrderly}
use Rattle.std.specs.List.{filter}
use Rattle.sctp_reassembly.specs.reassembly_queue.OrderedSkips.{is_skipped}
use Rattle.sctp_reassembly.specs.reassembly_queue.ReassemblyQueue.{set_bytes}
use Rattle.sctp_reassembly.proofs.lemmas.reassembly_queue.ChunkSets.{state_of}
use Rattle.sctp_reassembly.specs.reassembly_queue.ReassemblyQueue.{ReassemblyState, IsCounted, complete_sets}
use Rattle.sctp_reassembly.proofs.lemmas.reassembly_queue.NotedSkips.{noted_counted, noted_complete}
use Rattle.sctp_reassembly.proofs.reassembly_queue.ReassemblyQueue.forward_tsn_for_ordered_noted_counted.Goals as goal

pub returns-clause-value : goal.returns-clause-value
returns-clause-value c =
    let q = c.self.inside in
    let n = set_bytes (filter (is_skipped c.args.noted.passed) q.ordered) in
    rw (← c.self.view_is) (c.release.ensures n c.discard-gone.ensures.bytes
    ∙ ap (λ sets.
    state_of q.si c.args.noted.next_ssn sets q.unordered.items q.unordered_chunks.chunks (q.n_bytes - n) q.max_message_size q.unordered_chunks.places)
    c.discard-gone.ensures.rest)

pub returns-clause-counted : goal.returns-clause-counted
returns-clause-counted c h = subst IsCounted (sym (returns-clause-value c)) (noted_counted c.args.noted c.args.self.now h)

pub returns-clause-complete : goal.returns-clause-complete
returns-clause-complete c = ap (λ (q : ReassemblyState). complete_sets q.held) (returns-clause-value c) ∙ noted_complete c.args.noted c.args.self.now.held

pub returns-clause-few : goal.returns-clause-few
returns-clause-few c o =
    let same : c.self.inside.ordered ≡ c.args.self.now.held.ordered = ap (λ (q : ReassemblyState). q.held.ordered) c.self.view_is in
    omega (arith, ap length same, c.discard-gone.ensures.few refl (subst IsOrderly (sym same) o))

pub returns-clause-walk : goal.returns-clause-walk
returns-clause-walk c =
    let same : c.self.inside.ordered ≡ c.args.self.now.held.ordered = ap (λ (q : ReassemblyState). q.held.ordered) c.self.view_is in
    omega (arith, ap length same, ap set_chunks same, c.discard-gone.ensures.walk)
