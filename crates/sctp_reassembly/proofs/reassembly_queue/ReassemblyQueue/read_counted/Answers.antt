use Rattle.std.proofs.Common.{◌-◌, ap, ◌∙◌}
use Rattle.sctp_serial.specs.DataChunks.{bytes_of}
use Rattle.sctp_reassembly.specs.reassembly_queue.ReassemblyQueue.{ReassemblyState, rest_read, bytes_read}
use Rattle.sctp_reassembly.proofs.reassembly_queue.ReassemblyQueue.read_counted.Goals as goal

pub returns-clause-rest : goal.returns-clause-rest
returns-clause-rest c =
    let old = c.args.self.now in
    let n = bytes_of c.in_ok-set.set.chunks in
    c.release.ensures n c.len.ensures
    ∙ ap (λ (q : ReassemblyState). record q { bytes = q.bytes - n }) c.take_message.ensures.rest
    ∙ ap (λ m. record old { held = rest_read old.held; bytes = old.bytes - bytes_read m }) c.in_ok-set.ensures.message
