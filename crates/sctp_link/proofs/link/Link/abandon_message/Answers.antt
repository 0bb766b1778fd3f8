use Rattle.sctp_link.proofs.Names.{◌≡◌, ◌<◌, ◌^◌, ◌++◌, Bool, true, false, ap, ◌∙◌, Some, None, refl, rules, arith, subst, length-mapped, slice_set}
use Rattle.sctp_link.proofs.Names.{if◌then◌else◌, not, ◌&&◌, TsnsUsedUp, message_to_abandon, after_abandonment, has_tail_at, may_send, message_of, place_of}
use Rattle.sctp_link.proofs.Names.{is_partially_sent, refusal_of, record_in, terminals, message_record, Gives, gives, stream-is, high, held, partial-tail}
use Rattle.sctp_link.proofs.Names.{tail-fits}
use Rattle.sctp_serial.specs.Window.{is_held}
use Rattle.sctp_sender.specs.declared.sender.refusal.SenderRefusal.TheVariants.{NotInFlight}
use Rattle.sctp_sender.specs.Abandonment.{abandon_refusal}
use Rattle.sctp_link.proofs.sides.Changes.{only-memory}
use Rattle.sctp_model.specs.declared.event.Event.TheVariants as E
use Rattle.sctp_link.proofs.abandonment.Abandoning.{Settled, settled}
use Rattle.sctp_link.proofs.upkeep.Observed.{slot-message}
use Rattle.sctp_link.proofs.link.Link.abandon_message.Given.{Over}
use Rattle.sctp_link.proofs.link.Link.abandon_message.Goals.{After-settle}
use Rattle.sctp_link.proofs.link.Link.abandon_message.Goals as goal
use Rattle.sctp_link.proofs.upkeep.Facts.{sends}

must : (b : Bool) → (b ≡ false → false ≡ true) → b ≡ true
must true h = refl
must false h = h refl

no-refusal : (there tail next : Bool) → there ≡ true → (tail ≡ true → next ≡ true)
    → (if not there then Some NotInFlight else (if tail && not next then Some TsnsUsedUp else None)) ≡ None
no-refusal true true true h t = refl
no-refusal true true false h t = let no : false ≡ true = t refl in absurd (cc)
no-refusal true false next h t = refl
no-refusal false tail next h t = absurd (cc)

pub is_partially_sent-partial-requires : goal.is_partially_sent-partial-requires
is_partially_sent-partial-requires g c =
    let ok : refusal_of (record_in c.self.inside) (E.Abandon c.args.tsn) ≡ None = rw (← c.self.view_is) at c.requires in
    let fits : c.args.tsn < 2 ^ 32 = search rules in
    let there = slot-message c.self.inside.slots.items (place_of (record_in c.self.inside) c.args.tsn) c.index.result.now c.self.invariant.1 refl
    (high (sends c.self.invariant.1) c.args.tsn fits ok) c.index.ensures in
    rw (← c.self.view_is) there.1

pub memory-requires : goal.memory-requires
memory-requires g c =
    let ok : refusal_of (record_in c.self.inside) (E.Abandon c.args.tsn) ≡ None = rw (← c.self.view_is) at c.requires in
    let fits : c.args.tsn < 2 ^ 32 = search rules in
    let sum = g.C.Checksum.sum c.self.inside.checksum in
    only-memory c.in-Err.refusal (abandon_refusal c.args.tsn c.self.inside.sender.flight)
    (no-refusal (is_held c.self.inside.sender.flight.queue.inflight.chunks c.args.tsn) (has_tail_at c.self.inside.sender.flight c.args.tsn)
    (may_send c.self.inside.sender.flight) (held (sends c.self.invariant.1) c.args.tsn fits ok)
    (tail-fits (sends c.self.invariant.1) c.args.tsn fits ok)) c.in-Err.ensures.refused

pub returns-in-Err-clause-wants : goal.returns-in-Err-clause-wants
returns-in-Err-clause-wants g c =
    let ok : refusal_of (record_in c.self.inside) (E.Abandon c.args.tsn) ≡ None = rw (← c.self.view_is) at c.requires in
    let fits : c.args.tsn < 2 ^ 32 = search rules in
    rw (← c.self.view_is)
    (must (is_partially_sent (record_in c.self.inside) (message_of (record_in c.self.inside) (place_of (record_in c.self.inside) c.args.tsn)))
    (λ none. c.in-Err.ensures.no_tail (held (sends c.self.invariant.1) c.args.tsn fits ok)
    (partial-tail (sends c.self.invariant.1) c.args.tsn fits ok ∙ none)))

pub index_mut-message-requires : goal.index_mut-message-requires
index_mut-message-requires g c =
    let ok : refusal_of (record_in c.self.inside) (E.Abandon c.args.tsn) ≡ None = rw (← c.self.view_is) at c.requires in
    let fits : c.args.tsn < 2 ^ 32 = search rules in
    let there = slot-message c.self.inside.slots.items (place_of (record_in c.self.inside) c.args.tsn) c.index.result.now c.self.invariant.1 refl
    (high (sends c.self.invariant.1) c.args.tsn fits ok) c.index.ensures in
    omega (arith, there.1, length-mapped message_record c.self.inside.messages.items, c.self.inside.messages.ok.0)

-- What becomes of the message.
gone : (g : Over) (c : After-settle g) → Settled (g.C.Checksum.sum c.self.inside.checksum) c.self.inside (E.Abandon c.args.tsn) c.in-Ok.gone.bytes
    c.abandon.new.self (slice_set c.self.inside.messages.items c.index.result.now.message c.settle.new.message) c.settle.new.slots.items
gone g c =
    let ok : refusal_of (record_in c.self.inside) (E.Abandon c.args.tsn) ≡ None = rw (← c.self.view_is) at c.requires in
    let fits : c.args.tsn < 2 ^ 32 = search rules in
    let l = c.self.invariant.1 in
    let n = c.index.result.now.message in
    let s = c.in-Ok.gone.stream in
    let bytes = c.in-Ok.gone.bytes in
    let o = message_to_abandon c.args.tsn c.self.inside.sender.flight in
    let then' = after_abandonment o c.self.inside.sender.flight in
    let there = slot-message c.self.inside.slots.items (place_of (record_in c.self.inside) c.args.tsn) c.index.result.now l refl
    (high (sends l) c.args.tsn fits ok) c.index.ensures in
    let left = rw c.in-Ok.ensures.ok at c.in-Ok.ensures.released in
    let r = subst (λ k. Gives (record_in c.self.inside) c.self.inside.sender.flight.queue (E.Abandon c.args.tsn) k s bytes then'.queue then'.next_tsn)
    (ap (λ t. t.message) there.0)
    (gives (sends l) c.args.tsn fits ok s bytes then'.queue then'.next_tsn c.in-Ok.ensures.stream refl refl left) in
    let partial : c.is_partially_sent-partial.result ≡ is_partially_sent (record_in c.self.inside) n =
    rw (← c.self.view_is) at c.is_partially_sent-partial.ensures in
    settled c.self.inside c.self.invariant.0 l (E.Abandon c.args.tsn) ok o r tt tt refl refl c.abandon.new.self c.in-Ok.ensures.ok
    c.index_mut-message.result.now c.settle.new.message c.settle.new.slots.items c.is_partially_sent-partial.result c.index_mut-message.ensures.value
    c.settle.ensures.message partial (c.settle.ensures.slots
    ∙ ap (λ a. a ++ terminals c.is_partially_sent-partial.result n c.index_mut-message.result.now.sent) c.make_room.ensures.items)

pub invariant_of-self-2 : goal.invariant_of-self-2
invariant_of-self-2 g c = let t = gone g (goal.at.invariant_of-self-2 g c).After-settle in (t.aligned, t.linked)

pub returns-clause-moves : goal.returns-clause-moves
returns-clause-moves g c = rw (← c.self.view_is) (gone g (goal.at.returns-clause-moves g c).After-settle).moves

pub returns-clause-stream : goal.returns-clause-stream
returns-clause-stream g c =
    let ok : refusal_of (record_in c.self.inside) (E.Abandon c.args.tsn) ≡ None = rw (← c.self.view_is) at c.requires in
    rw (← c.self.view_is) (stream-is (sends c.self.invariant.1) c.args.tsn (search rules) ok c.in-Ok.gone.stream c.in-Ok.ensures.stream)

pub returns-clause-bytes : goal.returns-clause-bytes
returns-clause-bytes g c = rw (← c.self.view_is) (gone g (goal.at.returns-clause-bytes g c).After-settle).grows
