use Rattle.sctp_link.proofs.Names.{◌≡◌, ◌<◌, ap, sym, ◌∙◌, subst, true, Some, None, refl, map, rules, arith, length, is_some, slice_set, length-mapped}
use Rattle.sctp_link.proofs.Names.{next_pending, expired_of, change_where, with_expiry, IsLinked, Sides, IsAligned, sides, expired_unsent, Message, state_from}
use Rattle.sctp_link.proofs.Names.{record_from, sides_in, message_record, progress_of}
use Rattle.sctp_outbound.specs.outbound_queue.OutboundQueue.{expiring}
use Rattle.sctp_link.specs.Progress.{has_number}
use Rattle.sctp_link.proofs.sides.Changes.{some-of, expired-aligned, expired-sides}
use Rattle.sctp_link.proofs.abandonment.Expiring.{linked-expired, moves-expired}
use Rattle.sctp_model.proofs.refinement.abandonment.QueueExpires.{idle-right, none-waits, none-past_deadline, shown-past_deadline, expires, Expires}
use Rattle.sctp_link.proofs.link.Link.expire.Given.{Over}
use Rattle.sctp_link.proofs.link.Link.expire.Goals.{After-record_expiry}
use Rattle.sctp_link.proofs.link.Link.expire.Goals as goal
use Rattle.sctp_link.proofs.upkeep.Facts.{sends}

pub returns-in_default-clause-right : goal.returns-in_default-clause-right
returns-in_default-clause-right g c =
    let none : next_pending c.self.inside.sender.flight.queue.pending ≡ None = search rules in
    rw (← c.self.view_is) (idle-right (sends c.self.invariant.1) c.args.now (none-waits (sends c.self.invariant.1) c.args.now none))

pub invariant_of-self : goal.invariant_of-self
invariant_of-self g c = rw (c.in_default-expire.ensures.idle refl) c.self.invariant

pub returns-in_default-expire-clause-right : goal.returns-in_default-expire-clause-right
returns-in_default-expire-clause-right g c =
    rw (c.in_default-expire.ensures.idle refl, ← c.self.view_is)
    (idle-right (sends c.self.invariant.1) c.args.now (none-past_deadline (sends c.self.invariant.1) c.args.now (sym c.in_default-expire.ensures.none)))

-- What expired is the message that the chunk shown begins, and what became of its stream.
record Gone (g : Over) (c : After-record_expiry g) : Type 0 where
  is : expiring c.args.now c.self.inside.sender.flight.queue ≡ Some c.in-Some.chunk.now
  told : Expires (sends c.self.invariant.1) c.args.now c.in-Some.chunk.now c.in-Some-expire.gone.bytes
  stream : c.in-Some-expire.gone.stream ≡ c.in-Some.chunk.now.stream_identifier
  aligned : IsAligned c.expire.new.sender c.self.inside.receiver c.record_expiry.new.self
  both : sides c.expire.new.sender c.self.inside.receiver c.record_expiry.new.self
      ≡ expired_unsent c.in-Some.chunk.now c.in-Some-expire.gone.bytes (sides_in c.self.inside)
  lt : c.in-Some.chunk.now.message_id < length c.self.inside.messages.items

gone : (g : Over) (c : After-record_expiry g) → Gone g c
gone g c =
    let shown : next_pending c.self.inside.sender.flight.queue.pending ≡ Some c.in-Some.chunk.now = search rules in
    let now = c.args.now in
    let d = c.in-Some.chunk.now in
    let bytes = c.in-Some-expire.gone.bytes in
    let past_deadline : is_some (expiring now c.self.inside.sender.flight.queue) ≡ true = sym c.in-Some-expire.ensures.none in
    let is : expiring now c.self.inside.sender.flight.queue ≡ Some d =
    shown-past_deadline now d (next_pending c.self.inside.sender.flight.queue.pending) shown past_deadline in
    let answered = some-of _ _ d is c.in-Some-expire.ensures.some in
    let then' : Sides = expired_unsent d bytes (sides_in c.self.inside) in
    let left = rw answered.1 at c.in-Some-expire.ensures.released in
    let told = expires (sends c.self.invariant.1) now d bytes then'.flight.queue shown past_deadline left refl in
    let progress = c.record_expiry.ensures ∙ ap (λ s. change_where (has_number s) (with_expiry d.unordered) c.self.inside.progress) answered.0 in
    record {
      is = is;
      told = told;
      stream = answered.0;
      aligned = subst (λ ps. IsAligned c.expire.new.sender c.self.inside.receiver ps) (sym progress)
          (expired-aligned c.self.invariant.0 d bytes now c.expire.new.sender answered.1);
      both = cc (progress, expired-sides c.self.invariant.0 d bytes now c.expire.new.sender answered.1);
      lt = omega (arith, told.made, length-mapped message_record c.self.inside.messages.items);
    }

pub index_mut-requires : goal.index_mut-requires
index_mut-requires g c = omega (arith, (gone g (goal.at.index_mut-requires g c).After-record_expiry).lt, c.self.inside.messages.ok.0)

pub invariant_of-self-2 : goal.invariant_of-self-2
invariant_of-self-2 g c =
    let d = c.in-Some.chunk.now in
    let e = gone g (goal.at.invariant_of-self-2 g c).After-record_expiry in
    let then' : Sides = expired_unsent d c.in-Some-expire.gone.bytes (sides_in c.self.inside) in
    let dead : Message = record c.index_mut.result.now { expired = true } in
    let ms = slice_set c.self.inside.messages.items d.message_id dead in (
      e.aligned,
      subst (λ (y : Sides). IsLinked (g.C.Checksum.sum c.self.inside.checksum) (record (state_from y c.self.inside)
          { recorded = record (record_from y c.self.inside) { messages = map message_record ms }; progress = map progress_of ms })) (sym e.both)
          (linked-expired c.self.invariant.1 c.args.now d.message_id e.told.is d.stream_identifier c.in-Some-expire.gone.bytes d.unordered then'.streams
          then'.flight.queue e.told.stream e.told.kind e.told.held refl (ap (λ o. expired_of o c.self.inside.sender.flight.queue) (sym e.is))
          c.self.inside.messages.items dead c.index_mut.result.now refl refl refl e.lt
          (ap (λ (t : Message). record t { expired = true }) c.index_mut.ensures.value)),
    )

pub returns-clause-right : goal.returns-clause-right
returns-clause-right g c =
    let d = c.in-Some.chunk.now in
    let e = gone g (goal.at.returns-clause-right g c).After-record_expiry in
    let then' : Sides = expired_unsent d c.in-Some-expire.gone.bytes (sides_in c.self.inside) in
    let dead : Message = record c.index_mut.result.now { expired = true } in
    let ms = slice_set c.self.inside.messages.items d.message_id dead in
    rw (e.stream, ← c.self.view_is) (record {
      right = e.told.right;
      moves = ap (λ (y : Sides). record (record_from y c.self.inside) { messages = map message_record ms }) e.both
          ∙ moves-expired c.self.invariant.1 c.args.now d.message_id e.told.is d.stream_identifier c.in-Some-expire.gone.bytes d.unordered then'.streams
          then'.flight.queue e.told.stream e.told.kind e.told.held refl (ap (λ o. expired_of o c.self.inside.sender.flight.queue) (sym e.is))
          c.self.inside.messages.items dead c.index_mut.result.now refl refl refl e.lt
          (ap (λ (t : Message). record t { expired = true }) c.index_mut.ensures.value);
    })
