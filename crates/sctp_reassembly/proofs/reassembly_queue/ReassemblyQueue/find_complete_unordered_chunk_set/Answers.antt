use Rattle.std.proofs.Common.{ap, sym, subst, ◌∙◌, arith}
use Rattle.sctp_data.specs.ChunkSet.{ChunkSet}
use Rattle.sctp_reassembly.specs.declared.reassembly_queue.chunks.Chunks.{Chunks}
use Rattle.sctp_serial.specs.DataChunks.{bytes_of}
use Rattle.sctp_reassembly.specs.reassembly_queue.Loose.{Unassembled}
use Rattle.sctp_reassembly.specs.reassembly_queue.ReassemblyQueue.{IsCounted}
use Rattle.sctp_reassembly.proofs.lemmas.reassembly_queue.ByteCounts.{run_bytes, taken_bytes}
use Rattle.sctp_serial.specs.Runs.{HasNoRun}
use Rattle.sctp_reassembly.proofs.lemmas.reassembly_queue.ChunkSets.{state_of}
use Rattle.sctp_reassembly.proofs.lemmas.reassembly_queue.Unassembled.{same_list}
use Rattle.sctp_reassembly.proofs.reassembly_queue.ReassemblyQueue.find_complete_unordered_chunk_set.Goals as goal

pub returns-in_default-clause-ok : goal.returns-in_default-clause-ok
returns-in_default-clause-ok c =
    let q = c.self.inside in
    let h = rw c.in_default.is at c.in_ok-chunks.ensures.ok in
    rw (← c.self.view_is) (
      subst HasNoRun (same_list h.1) h.0,
      ap (λ (p : Unassembled). state_of q.si q.next_ssn q.ordered q.unordered.items p.chunks q.n_bytes q.max_message_size p.places) h.1,
    )

pub returns-clause-counted : goal.returns-clause-counted
returns-clause-counted c counted =
    let taken = rw c.in-Some.is at c.in_ok-chunks.ensures.ok in
    let bytes = taken_bytes c.self.inside.unordered_chunks.chunks c.take_run.new.self.chunks c.in-Some.chunks taken.0 in
    let old = subst IsCounted (sym c.self.view_is) counted in
    let given = ap (λ (x : Chunks). bytes_of x.set.chunks) c.of.ensures ∙ ap (λ (s : ChunkSet). bytes_of s.chunks) c.set_of_run.ensures.value
    ∙ run_bytes c.in-Some.chunks in
    omega (arith, old, bytes, given)
