use Rattle.sctp_link.proofs.Names.{List, ap, ◌∙◌, arith, subst, ChunkPayloadData, Payload, Transmission, started-inflight, AreNoted}
use Rattle.sctp_link.proofs.link.fragments.send_fragments.Goals as goal

pub take_fragments-requires-clause-able : goal.take_fragments-requires-clause-able
take_fragments-requires-clause-able c = rw (c.start.ensures, c.start_from.ensures) c.requires.able

pub take_fragments-requires-clause-flight : goal.take_fragments-requires-clause-flight
take_fragments-requires-clause-flight c =
    let q = c.args.sender.now.flight.queue in
    omega (
      arith,
      c.requires.flight,
      ap (λ (t : Transmission). t.flight.queue.inflight.room) c.start.ensures,
      ap (λ (p : Payload). p.room) (started-inflight c.args.now q),
    )

pub returns-clause-leave : goal.returns-clause-leave
returns-clause-leave c = rw (c.start.ensures, c.start_from.ensures) at c.take_fragments.ensures.leave

pub returns-clause-noted : goal.returns-clause-noted
returns-clause-noted c =
    let same = ap (λ (t : Transmission). t.flight.queue.inflight.chunks) c.start.ensures
    ∙ ap (λ (p : Payload). p.chunks) (started-inflight c.args.now c.args.sender.now.flight.queue) in
    subst (λ (cs : List ChunkPayloadData). AreNoted c.args.now c.args.count cs c.take_fragments.new.sender.flight.queue.inflight.chunks) same
    c.take_fragments.ensures.noted

pub returns-clause-rest : goal.returns-clause-rest
returns-clause-rest c =
    let r = c.take_fragments.ensures.rest in
    record {
      acked = r.acked ∙ ap (λ (t : Transmission). t.flight.acked_tsn) c.start.ensures;
      streams = r.streams ∙ ap (λ (t : Transmission). t.streams) c.start.ensures;
      fragment_size = r.fragment_size ∙ ap (λ (t : Transmission). t.fragment_size) c.start.ensures;
      max_message_size = r.max_message_size ∙ ap (λ (t : Transmission). t.max_message_size) c.start.ensures;
      kept = r.kept ∙ ap (λ (t : Transmission). t.kept) c.start.ensures;
    }
