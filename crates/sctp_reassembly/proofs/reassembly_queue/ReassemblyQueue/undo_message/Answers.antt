use Rattle.std.proofs.Common.{◌≡◌, ◌+◌, ◌-◌, length, remove, sym, ap, ap₂, subst, ◌∙◌}
use Rattle.sctp_reassembly.specs.reassembly_queue.Loose.{Unassembled}
use Rattle.sctp_reassembly.specs.reassembly_queue.PoolUndo.{CanUndoPut, pool_undone}
use Rattle.sctp_reassembly.specs.reassembly_queue.Undo.{last_chunks}
use Rattle.sctp_reassembly.proofs.lemmas.reassembly_queue.ChunkSets.{state_of}
use Rattle.sctp_reassembly.proofs.lemmas.reassembly_queue.Undone.{last_out, last_there}
use Rattle.sctp_reassembly.proofs.reassembly_queue.ReassemblyQueue.undo_message.Goals as goal

pub undo_put-requires : goal.undo_put-requires
undo_put-requires c =
    let q = c.self.inside in
    let last : last_chunks q.unordered.items ≡ c.into_fragments-run.result =
    ap last_chunks c.pop_back.ensures ∙ last_there c.pop_back.new.self.items c.pop_back.result ∙ sym c.into_fragments-run.ensures in
    let can = rw (← c.self.view_is) at c.requires.put in
    subst (λ ks. CanUndoPut c.args.undo.put ks q.unordered_chunks) last can

pub returns-clause-value : goal.returns-clause-value
returns-clause-value c =
    let q = c.self.inside in
    let last : last_chunks q.unordered.items ≡ c.into_fragments-run.result =
    ap last_chunks c.pop_back.ensures ∙ last_there c.pop_back.new.self.items c.pop_back.result ∙ sym c.into_fragments-run.ensures in
    let left : remove q.unordered.items (length q.unordered.items - 1) ≡ c.pop_back.new.self.items =
    ap (λ us. remove us (length us - 1)) c.pop_back.ensures ∙ last_out c.pop_back.new.self.items c.pop_back.result in
    let back = c.undo_put.ensures.value ∙ ap (λ ks. pool_undone c.args.undo.put ks q.unordered_chunks) (sym last) in
    rw (← c.self.view_is)
    (ap₂ (λ us (p : Unassembled). state_of q.si q.next_ssn q.ordered us p.chunks q.n_bytes q.max_message_size p.places) (sym left) back)

pub returns-clause-turns : goal.returns-clause-turns
returns-clause-turns c =
    let q = c.self.inside in
    let last : last_chunks q.unordered.items ≡ c.into_fragments-run.result =
    ap last_chunks c.pop_back.ensures ∙ last_there c.pop_back.new.self.items c.pop_back.result ∙ sym c.into_fragments-run.ensures in
    rw (← c.self.view_is) (c.undo_put.ensures.turns ∙ ap (λ ks. c.args.turns.now + length ks) (sym last))
