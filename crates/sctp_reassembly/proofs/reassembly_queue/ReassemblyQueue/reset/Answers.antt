use Rattle.std.proofs.Common.{◌≡◌, ◌-◌, ◌++◌, length, ap, ap₂, ◌∙◌, sym, subst, rules}
use Rattle.std.specs.List.{filter}
use Rattle.sctp_reassembly.specs.reassembly_queue.ReassemblyQueue.{IsCounted}
use Rattle.sctp_reassembly.specs.reassembly_queue.Resets.{is_old_message, dropped_bytes}
use Rattle.sctp_reassembly.proofs.lemmas.reassembly_queue.ByteCounts.{none_there}
use Rattle.sctp_reassembly.proofs.lemmas.reassembly_queue.ChunkSets.{state_of}
use Rattle.sctp_reassembly.proofs.lemmas.reassembly_queue.Resets.{reset_counted}
use Rattle.sctp_reassembly.proofs.reassembly_queue.ReassemblyQueue.reset.Goals as goal

pub returns-in_err-reserve-clause-no_memory : goal.returns-in_err-reserve-clause-no_memory
returns-in_err-reserve-clause-no_memory c = λ none.
    let p = is_old_message c.args.last_tsn in
    let here = rw (← c.self.view_is) at none in
    let count : c.old_messages-count.result ≡ 0 = c.old_messages-count.ensures ∙ ap (λ xs. length (filter p xs)) c.as_deque.ensures
    ∙ ap length (none_there p c.self.inside.ordered here) in
    let bad = c.in_err-reserve.ensures.none count in
    search rules

pub returns-clause-ok : goal.returns-clause-ok
returns-clause-ok c =
    let q = c.self.inside in
    let last = c.args.last_tsn in
    let n = dropped_bytes last q.ordered in
    rw (← c.self.view_is) (c.release.ensures n c.end_use-gone.ensures.bytes
    ∙ ap₂ (λ ord unord. state_of q.si 0 ord unord q.unordered_chunks.chunks (q.n_bytes - n) q.max_message_size q.unordered_chunks.places)
    c.end_use-gone.ensures.rest (c.end_use-gone.ensures.moved ∙ ap (λ us. us ++ filter (is_old_message last) q.ordered) c.in_ok-reserve.ensures.items))

pub returns-clause-counted : goal.returns-clause-counted
returns-clause-counted c h = subst IsCounted (sym (returns-clause-ok c)) (reset_counted c.args.last_tsn c.args.self.now h)
