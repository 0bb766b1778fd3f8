use Rattle.std.proofs.Common.{refl, sym, ap, ◌∙◌, arith}
use Rattle.sctp_serial.specs.DataChunks.{bytes_of}
use Rattle.sctp_outbound.specs.pending_queue.PendingQueue.{is_to_start, with_deadline}
use Rattle.sctp_outbound.proofs.lemmas.pending_queue.Waiting.{bytes_of-change_where}
use Rattle.sctp_outbound.proofs.pending_queue.line.Line.start_latest_messages.Goals as goal

pub invariant_of-self : goal.invariant_of-self
invariant_of-self c =
    let same = ap bytes_of c.start_in.ensures.items
    ∙ bytes_of-change_where (is_to_start c.args.first_message_id) (with_deadline c.args.now) (λ _. refl) c.self.inside.chunks.items in
    record {
      counted = c.self.invariant.counted ∙ sym same;
      fits = omega (arith, c.self.invariant.fits);
    }

pub returns-clause-bytes : goal.returns-clause-bytes
returns-clause-bytes c = rw (← c.self.view_is) (ap bytes_of c.start_in.ensures.items
    ∙ bytes_of-change_where (is_to_start c.args.first_message_id) (with_deadline c.args.now) (λ _. refl) c.self.inside.chunks.items)
