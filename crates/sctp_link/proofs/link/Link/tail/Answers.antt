use Rattle.sctp_link.proofs.Names.{◌≡◌, ℕ, ◌+◌, ◌<◌, ◌++◌, true, ap, sym, ◌∙◌, Option, Some, None, refl, rules, arith, length, slice_set, is_some}
use Rattle.sctp_link.proofs.Names.{if◌then◌else◌, option_map, option_to_list, sum_by, some-same, ChunkPayloadData, OutOfMemory, TsnsUsedUp, after_abandonment}
use Rattle.sctp_link.proofs.Names.{Transmission, length-mapped, next_pending, expiring_tail, total_bytes, tailing, is_partially_sent, record_in, terminals}
use Rattle.sctp_link.proofs.Names.{message_record, message_at, growth, none-tails, partial-front, complete-idle, early-idle, tails, idle-tail, tail-right}
use Rattle.sctp_link.proofs.Names.{past_deadline, number-is, rest-fits, gives-tail, next-is, on-err}
use Rattle.sctp_sender.specs.declared.sender.flight.late.AbandonedMessage.{AbandonedMessage}
use Rattle.sctp_link.proofs.sides.Changes.{some-of}
use Rattle.sctp_outbound.specs.outbound_queue.OutboundQueue.{message_of}
use Rattle.sctp_model.specs.declared.event.Event.TheVariants as E
use Rattle.sctp_link.proofs.abandonment.Abandoning.{Settled, settled}
use Rattle.sctp_link.proofs.link.Link.tail.Given.{Over}
use Rattle.sctp_link.proofs.link.Link.tail.Goals.{After-make_room, After-settle}
use Rattle.sctp_link.proofs.link.Link.tail.Goals as goal
use Rattle.sctp_link.proofs.upkeep.Facts.{sends}

-- what is answered of the message that is abandoned
record Answered (a : AbandonedMessage) (e : Option ChunkPayloadData) : Type 0 where
  stream : Some a.stream ≡ option_map (λ c. c.stream_identifier) e
  number : message_of e ≡ Some a.number

answered-of : (o : Option AbandonedMessage) (a : AbandonedMessage) (e : Option ChunkPayloadData) → o ≡ Some a
    → option_map {U = ℕ × ℕ} (λ a. (a.stream, a.number)) o ≡ option_map {U = ℕ × ℕ} (λ c. (c.stream_identifier, c.message_id)) e → Answered a e
answered-of None a e is h = absurd (cc)
answered-of (Some b) a None is h = absurd (cc)
answered-of (Some b) a (Some c) is h =
    let same : b ≡ a = some-same is in
    let pair : (b.stream, b.number) ≡ (c.stream_identifier, c.message_id) = some-same h in
    record {
      stream = ap (λ (z : AbandonedMessage). Some z.stream) (sym same) ∙ ap (λ (p : ℕ × ℕ). Some p.0) pair;
      number = ap (λ (p : ℕ × ℕ). Some p.1) (sym pair) ∙ ap (λ (z : AbandonedMessage). Some z.number) same;
    }

never-none : (o : Option AbandonedMessage) (e : Option ChunkPayloadData) → o ≡ None
    → option_map {U = ℕ × ℕ} (λ a. (a.stream, a.number)) o ≡ option_map {U = ℕ × ℕ} (λ c. (c.stream_identifier, c.message_id)) e → is_some e ≡ true → ⊥
never-none None None is h some = cc
never-none None (Some c) is h some = cc
never-none (Some a) e is h some = cc

left-of : (new old : Transmission) (o : Option AbandonedMessage) (a : AbandonedMessage) → o ≡ Some a → total_bytes new.flight.queue + sum_by (λ g. g.bytes)
    (option_to_list o) ≡ total_bytes old.flight.queue → (u : Transmission) → new ≡ u → total_bytes u.flight.queue + a.bytes ≡ total_bytes old.flight.queue
left-of new old None a is h u e = absurd (cc)
left-of new old (Some b) a is h u e =
    omega (arith, h, ap (λ (z : AbandonedMessage). z.bytes) (some-same is), ap (λ (z : Transmission). total_bytes z.flight.queue) e)

pub returns-in_default-clause-ok : goal.returns-in_default-clause-ok
returns-in_default-clause-ok g c =
    let none : next_pending c.self.inside.sender.flight.queue.pending ≡ None = search rules in
    rw (← c.self.view_is) (idle-tail (sends c.self.invariant.1) c.args.now (none-tails (sends c.self.invariant.1) c.args.now none))

pub returns-then-chunk-clause-ok : goal.returns-then-chunk-clause-ok
returns-then-chunk-clause-ok g c =
    let shown : next_pending c.self.inside.sender.flight.queue.pending ≡ Some c.in-Some.chunk.now = search rules in
    rw (← c.self.view_is)
    (idle-tail (sends c.self.invariant.1) c.args.now (complete-idle (sends c.self.invariant.1) c.args.now c.in-Some.chunk.now shown c.if-chunk.true))

pub returns-then-not-is_past-clause-ok : goal.returns-then-not-is_past-clause-ok
returns-then-not-is_past-clause-ok g c =
    let shown : next_pending c.self.inside.sender.flight.queue.pending ≡ Some c.in-Some.chunk.now = search rules in
    rw (← c.self.view_is) (idle-tail (sends c.self.invariant.1) c.args.now
    (early-idle (sends c.self.invariant.1) c.args.now c.in-Some.chunk.now shown (sym c.is_past.ensures ∙ c.if-not-is_past.true)))

-- The front message is late.
late : (g : Over) (c : After-make_room g) → tailing (record_in c.self.inside) c.args.now ≡ Some c.in-Some.chunk.now.message_id
late g c = tails (sends c.self.invariant.1) c.args.now c.in-Some.chunk.now (search rules) c.if-chunk.false (sym c.is_past.ensures ∙ c.if-not-is_past.false)

pub returns-in_err-make_room-clause-wants : goal.returns-in_err-make_room-clause-wants
returns-in_err-make_room-clause-wants g c =
    rw (← c.self.view_is)
    (on-err c.from_residual.result _ (ap is_some (late g (goal.at.returns-in_err-make_room-clause-wants g c).After-make_room)))

pub memory-requires : goal.memory-requires
memory-requires g c =
    let next = rest-fits (sends c.self.invariant.1) c.args.now c.in-Some.chunk.now.message_id (late g (goal.at.memory-requires g c).After-make_room)
    (sym (partial-front (sends c.self.invariant.1) c.args.now c.in-Some.chunk.now (search rules) c.if-chunk.false)) in
    c.in-Err.ensures.refused ∙ ap (λ b. if b then OutOfMemory else TsnsUsedUp) next

pub unreachable-requires : goal.unreachable-requires
unreachable-requires g c =
    never-none c.in-Ok.gone (expiring_tail c.args.now c.self.inside.sender.flight.queue) c.in_default-gone.is c.in-Ok.ensures.answer
    (past_deadline (sends c.self.invariant.1) c.args.now c.in-Some.chunk.now.message_id (late g (goal.at.unreachable-requires g c).After-make_room))

pub returns-in-Err-clause-wants : goal.returns-in-Err-clause-wants
returns-in-Err-clause-wants g c = rw (← c.self.view_is) (ap is_some (late g (goal.at.returns-in-Err-clause-wants g c).After-make_room))

pub index_mut-message-requires : goal.index_mut-message-requires
index_mut-message-requires g c =
    let shown : next_pending c.self.inside.sender.flight.queue.pending ≡ Some c.in-Some.chunk.now = search rules in
    let is-late = late g (goal.at.index_mut-message-requires g c).After-make_room in
    let answered =
    answered-of c.in-Ok.gone c.in-Some-gone.gone (expiring_tail c.args.now c.self.inside.sender.flight.queue) c.in-Some-gone.is c.in-Ok.ensures.answer in
    let number : c.in-Some-gone.gone.number ≡ c.in-Some.chunk.now.message_id =
    number-is (sends c.self.invariant.1) c.args.now c.in-Some.chunk.now.message_id is-late c.in-Some-gone.gone.number answered.number in
    let made = (next-is (sends c.self.invariant.1) c.in-Some.chunk.now shown).made in
    omega (arith, made, number, length-mapped message_record c.self.inside.messages.items, c.self.inside.messages.ok.0)

-- What becomes of its message.
gone : (g : Over) (c : After-settle g) → Settled (g.C.Checksum.sum c.self.inside.checksum) c.self.inside (E.Tail c.args.now) c.in-Some-gone.gone.bytes
    c.expire_tail.new.sender (slice_set c.self.inside.messages.items c.in-Some-gone.gone.number c.settle.new.message) c.settle.new.slots.items
    × (tailing (record_in c.self.inside) c.args.now ≡ Some c.in-Some-gone.gone.number)
    × (c.in-Some-gone.gone.stream ≡ (message_at (record_in c.self.inside) c.in-Some-gone.gone.number).stream)
gone g c =
    let shown : next_pending c.self.inside.sender.flight.queue.pending ≡ Some c.in-Some.chunk.now = search rules in
    let l = c.self.invariant.1 in
    let now = c.args.now in
    let n = c.in-Some-gone.gone.number in
    let o = expiring_tail now c.self.inside.sender.flight.queue in
    let late = tails (sends l) now c.in-Some.chunk.now shown c.if-chunk.false (sym c.is_past.ensures ∙ c.if-not-is_past.false) in
    let answered = answered-of c.in-Ok.gone c.in-Some-gone.gone o c.in-Some-gone.is c.in-Ok.ensures.answer in
    let number : n ≡ c.in-Some.chunk.now.message_id = number-is (sends l) now c.in-Some.chunk.now.message_id late n answered.number in
    let made : n < length (record_in c.self.inside).messages = let m = (next-is (sends l) c.in-Some.chunk.now shown).made in omega (arith, m, number) in
    let due : tailing (record_in c.self.inside) now ≡ Some n = late ∙ ap Some (sym number) in
    let sent = some-of _ c.in-Ok.gone c.in-Some-gone.gone c.in-Some-gone.is c.in-Ok.ensures.some in
    let left = left-of c.expire_tail.new.sender c.self.inside.sender c.in-Ok.gone c.in-Some-gone.gone c.in-Some-gone.is c.in-Ok.ensures.released _ sent in
    let r = gives-tail (sends l) now n due c.in-Some-gone.gone.stream c.in-Some-gone.gone.bytes
    (after_abandonment (message_of o) c.self.inside.sender.flight).queue (after_abandonment (message_of o) c.self.inside.sender.flight).next_tsn
    made answered.stream refl refl left in
    let partial : true ≡ is_partially_sent (record_in c.self.inside) n = partial-front (sends l) now c.in-Some.chunk.now shown c.if-chunk.false
    ∙ ap (is_partially_sent (record_in c.self.inside)) (sym number) in (
      settled c.self.inside c.self.invariant.0 l (E.Tail now) refl (message_of o) r tt tt refl refl c.expire_tail.new.sender sent
          c.index_mut-message.result.now c.settle.new.message c.settle.new.slots.items true c.index_mut-message.ensures.value c.settle.ensures.message partial
          (c.settle.ensures.slots ∙ ap (λ a. a ++ terminals true n c.index_mut-message.result.now.sent) c.make_room.ensures.items),
      due,
      r.stream,
    )

pub invariant_of-self-2 : goal.invariant_of-self-2
invariant_of-self-2 g c = let t = (gone g (goal.at.invariant_of-self-2 g c).After-settle).0 in (t.aligned, t.linked)

pub returns-clause-ok : goal.returns-clause-ok
returns-clause-ok g c =
    let t = gone g (goal.at.returns-clause-ok g c).After-settle in
    rw (← c.self.view_is) (record {
      right = tail-right (sends c.self.invariant.1) c.args.now c.in-Some-gone.gone.number c.in-Some-gone.gone.stream c.in-Some-gone.gone.bytes t.1 t.2
          (t.0.grows ∙ ap (growth (record_in c.self.inside)) t.0.moves);
      moves = t.0.moves;
    })
