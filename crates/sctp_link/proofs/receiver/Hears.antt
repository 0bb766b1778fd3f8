-- What a link's queues tell of what comes to its receiver.
use Rattle.sctp_link.proofs.Names.{◌≡◌, ℕ, zero, suc, ◌+◌, ◌-◌, ◌<◌, ◌^◌, ◌%◌, true, false, List, [], length, map, Option, Some, None, refl, ap, sym, ◌∙◌}
use Rattle.sctp_link.proofs.Names.{arith, find, min, max, option_map, slice_index_or, subst, not_both, ChunkPayloadData, ChunkSet, LinkRecord, message_at}
use Rattle.sctp_link.proofs.Names.{slot_at, message_of, index_of, sent_of, tsn_of, place_of, no_message, no_slot, is_held, held_on, next_of, least, greatest}
use Rattle.sctp_link.proofs.Names.{set_of, shape, slot-sent, ordered_sets, Carried, Begins, set-begins, set-at, sets-held, ends-none, lowest-front}
use Rattle.sctp_link.proofs.Names.{highest-back, OpenStream, has_number, Message, Slot, State, IsLinked, message_record, slot_record, progress_of}
use Rattle.sctp_link.proofs.Names.{length-mapped, get_or-map, nil_from_length}
use Rattle.sctp_model.proofs.refinement.arriving.Arrival
use Rattle.sctp_model.proofs.refinement.reading.Line
use Rattle.sctp_model.proofs.refinement.reading.Taken
use Rattle.sctp_link.proofs.sender.Beginning.{index_kept}
use Rattle.sctp_link.proofs.upkeep.Facts.{facts}
use Rattle.sctp_link.proofs.upkeep.Apart.{number-found}

-- ## Which message a set is of

-- the TSN leads to a slot of this message
pub record Leads (w : LinkRecord) (n tsn : ℕ) : Type 0 where
  pub made : place_of w tsn < length w.slots
  pub of : message_of w (place_of w tsn) ≡ n

pub leads : (w : LinkRecord) (n : ℕ) (chunks : List ChunkPayloadData) (d : ChunkPayloadData) → Begins w n chunks → Leads w n (slice_index_or chunks 0 d).tsn
leads w n chunks d b =
    let tsn : (slice_index_or chunks 0 d).tsn ≡ tsn_of w b.place = ap (λ cs. (slice_index_or cs 0 d).tsn) b.is in
    let back : place_of w (slice_index_or chunks 0 d).tsn ≡ b.place = ap (place_of w) tsn ∙ b.back in
    record { made = omega (arith, back, b.made); of = ap (message_of w) back ∙ b.of }

module _ {sum : List ℕ → ℕ} {x : State} (l : IsLinked sum x) (slots : List Slot) (messages : List Message)
    (slots_are : x.recorded.slots ≡ map slot_record slots) (messages_are : x.recorded.messages ≡ map message_record messages) where
  pub slots-made : length x.recorded.slots ≡ length slots
  slots-made = ap length slots_are ∙ length-mapped slot_record slots

  pub messages-made : length x.recorded.messages ≡ length messages
  messages-made = ap length messages_are ∙ length-mapped message_record messages

  pub slot-raw : (p : ℕ) (d : Slot) → p < length slots → slot_at x.recorded p ≡ slot_record (slice_index_or slots p d)
  slot-raw p d lt = ap (λ xs. slice_index_or xs p no_slot) slots_are ∙ get_or-map slot_record slots p d no_slot lt

  pub message-raw : (n : ℕ) (d : Message) → n < length messages → message_at x.recorded n ≡ message_record (slice_index_or messages n d)
  message-raw n d lt = ap (λ xs. slice_index_or xs n no_message) messages_are ∙ get_or-map message_record messages n d no_message lt

  pub kept-raw : x.progress ≡ map progress_of messages → (n : ℕ) (d : Message) → n < length messages
      → index_kept x.progress n ≡ (slice_index_or messages n d).index
  kept-raw kept n d lt = ap (λ ps. index_kept ps n) kept ∙ ap (λ p. p.1) (get_or-map progress_of messages n d (0, 0) lt)

  -- the set of a message that is held
  pub held-begins : (s n : ℕ) (set : ChunkSet) (chunks : List ChunkPayloadData) → chunks ≡ set.chunks → is_held x.recorded s n ≡ true
      → set ≡ set_of x.recorded n → Begins x.recorded n chunks
  held-begins s n set chunks shown h e =
      let f = facts l in
      subst (Begins x.recorded n) (sym (shown ∙ ap (λ (y : ChunkSet). y.chunks) e)) (set-begins x.recorded s n f.valid.valid f.setup.first h)

  pub held-ordered : (s n : ℕ) → is_held x.recorded s n ≡ true → (message_at x.recorded n).ordered ≡ true
  held-ordered s n h = Line.on-ordered x.recorded s n (Taken.held x.recorded s n h).on

  pub held-made : (s n : ℕ) → is_held x.recorded s n ≡ true → n < length x.recorded.messages
  held-made s n h = Line.on-made x.recorded s n (Taken.held x.recorded s n h).on

  -- chunks that begin with one of message n lead to it, by its TSN
  module _ (n : ℕ) (chunks : List ChunkPayloadData) (d : ChunkPayloadData) (b : Begins x.recorded n chunks) (made : n < length x.recorded.messages) where
    led : Leads x.recorded n (slice_index_or chunks 0 d).tsn
    led = leads x.recorded n chunks d b

    pub lead-slot : ((slice_index_or chunks 0 d).tsn + (2 ^ 32 - x.recorded.setup.first)) % 2 ^ 32 < length slots
    lead-slot = omega (arith, led.made, slots-made)

    pub lead-number : (y : Slot) → y ≡ slice_index_or slots (((slice_index_or chunks 0 d).tsn + (2 ^ 32 - x.recorded.setup.first)) % 2 ^ 32) y → y.message ≡ n
    lead-number y z = ap (λ (t : Slot). t.message) z ∙ sym (ap (λ t. t.message) (slot-raw (place_of x.recorded (slice_index_or chunks 0 d).tsn) y lead-slot))
        ∙ led.of

    pub lead-message : (y : Slot) → y ≡ slice_index_or slots (((slice_index_or chunks 0 d).tsn + (2 ^ 32 - x.recorded.setup.first)) % 2 ^ 32) y
        → y.message < length messages
    lead-message y z = omega (arith, lead-number y z, made, messages-made)

    pub lead-index : x.progress ≡ map progress_of messages → (message_at x.recorded n).ordered ≡ true → (y : Slot) (m : Message)
        → y ≡ slice_index_or slots (((slice_index_or chunks 0 d).tsn + (2 ^ 32 - x.recorded.setup.first)) % 2 ^ 32) y → m ≡ slice_index_or messages y.message m
        → m.index ≡ index_of x.recorded n
    lead-index kept o y m z t =
        ap (λ (t : Message). t.index) (t ∙ ap (λ k. slice_index_or messages k m) (lead-number y z))
        ∙ sym (kept-raw kept n m (omega (arith, made, messages-made))) ∙ l.indexes n (subst (λ k. 0 < sent_of x.recorded k) led.of
        (slot-sent (shape x.recorded) (place_of x.recorded (slice_index_or chunks 0 d).tsn) (facts l).consistent.sender led.made)) o

-- ## What is told of an open stream

pub none-answered : (o : Option OpenStream) → None ≡ option_map (λ l. l.next) o → o ≡ None
none-answered None e = refl
none-answered (Some l) e = cc

-- ## The ends of what is held

module _ {sum : List ℕ → ℕ} {x : State} (l : IsLinked sum x) (at s : ℕ) (d : OpenStream) (lt : at < length x.open_streams)
    (found : find (has_number s) x.open_streams ≡ Some (slice_index_or x.open_streams at d)) where
  pub stream-number : (slice_index_or x.open_streams at d).state.stream_identifier ≡ s
  stream-number = number-found s x.open_streams (slice_index_or x.open_streams at d) found

  pub stream-ordered : (slice_index_or x.open_streams at d).inbound.queue.held.ordered ≡ ordered_sets x.recorded s
  stream-ordered = ap (λ q. q.ordered) ((l.open_streams at d lt).held) ∙ ap (ordered_sets x.recorded) stream-number

  pub stream-next : (slice_index_or x.open_streams at d).next ≡ next_of x.recorded s
  stream-next = (l.open_streams at d lt).next ∙ ap (next_of x.recorded) stream-number

  -- nothing is held
  pub ends-empty : length (slice_index_or x.open_streams at d).inbound.queue.held.ordered ≡ 0
      → ((slice_index_or x.open_streams at d).next ≡ least (next_of x.recorded s) (map (index_of x.recorded) (held_on x.recorded s)))
      × ((slice_index_or x.open_streams at d).next ≡ greatest (next_of x.recorded s) (map (index_of x.recorded) (held_on x.recorded s)))
  ends-empty e =
      let none : held_on x.recorded s ≡ [] = nil_from_length (held_on x.recorded s) (sym (sets-held x.recorded s) ∙ sym (ap length stream-ordered) ∙ e) in
      let ends = ends-none x.recorded s none in (stream-next ∙ sym ends.0, stream-next ∙ sym ends.1)

  -- a set of the queue is of a message that is held
  pub set-held : (i : ℕ) (e : ChunkSet) → i < length (slice_index_or x.open_streams at d).inbound.queue.held.ordered
      → (is_held x.recorded s (slice_index_or (held_on x.recorded s) i 0) ≡ true)
      × (slice_index_or (slice_index_or x.open_streams at d).inbound.queue.held.ordered i e ≡ set_of x.recorded (slice_index_or (held_on x.recorded s) i 0))
  set-held i e less =
      let f = facts l in
      let o = set-at x.recorded s i 0 e f.valid.valid f.setup.first (omega (arith, less, ap length stream-ordered)) in
      (o.held, ap (λ ss. slice_index_or ss i e) stream-ordered ∙ o.is)

  pub low-front : (i : ℕ) → 0 < length (slice_index_or x.open_streams at d).inbound.queue.held.ordered
      → i ≡ index_of x.recorded (slice_index_or (held_on x.recorded s) 0 0)
      → min (slice_index_or x.open_streams at d).next i ≡ least (next_of x.recorded s) (map (index_of x.recorded) (held_on x.recorded s))
  low-front i some e = cc (e, stream-next, lowest-front x.recorded s 0 (omega (arith, some, ap length stream-ordered, sets-held x.recorded s)))

  pub high-back : (i : ℕ) → 0 < length (slice_index_or x.open_streams at d).inbound.queue.held.ordered
      → i ≡ index_of x.recorded (slice_index_or (held_on x.recorded s) (length (slice_index_or x.open_streams at d).inbound.queue.held.ordered - 1) 0)
      → max (slice_index_or x.open_streams at d).next i ≡ greatest (next_of x.recorded s) (map (index_of x.recorded) (held_on x.recorded s))
  high-back i some e =
      let same : length (slice_index_or x.open_streams at d).inbound.queue.held.ordered ≡ length (held_on x.recorded s) = ap length stream-ordered
      ∙ sets-held x.recorded s in
      cc (e, stream-next, same, highest-back x.recorded s 0 (omega (arith, some, same)))

-- ## The message of a slot that comes

module _ {sum : List ℕ → ℕ} {x : State} (l : IsLinked sum x) {p : ℕ} (c : Carried x.recorded p) where
  abbrev n : ℕ
  n = message_of x.recorded p

  pub come-message : n < length x.recorded.messages
  come-message = (facts l).valid.valid.made n p (Arrival.has-fragment x.recorded p c.fragment)

  pub come-index : (message_at x.recorded n).ordered ≡ true → index_kept x.progress n ≡ index_of x.recorded n
  come-index o = l.indexes n (slot-sent (shape x.recorded) p (facts l).consistent.sender c.made) o

pub none-there : (n : ℕ) → (0 < n → false ≡ true) → n ≡ 0
none-there zero h = refl
none-there (suc n) h = absurd (not_both (h (omega arith)))
