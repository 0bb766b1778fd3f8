-- A message is abandoned: what a link keeps.
use Rattle.sctp_link.proofs.Names.{◌≡◌, ℕ, ◌+◌, ◌-◌, ◌<◌, Bool, true, false, List, [], ◌∷◌, ◌++◌, length, map, Some, None, refl, ap, sym, ◌∙◌, arith}
use Rattle.sctp_link.proofs.Names.{if◌then◌else◌, ◌==◌, slice_get, slice_index_or, slice_set, subst, map-append, change_where, change_at, length-change_where}
use Rattle.sctp_link.proofs.Names.{length-mapped, Outbound, Event, LinkRecord, message_at, ordered_before, sent_of, is_partially_sent, next_of, contents_of}
use Rattle.sctp_link.proofs.Names.{cumulative_tsn, filter_of, in_all, written_bytes, after_abandon, mark_abandoned, IsSetup, StandsFor, refusal_of, after}
use Rattle.sctp_link.proofs.Names.{reply_to, fragments_accepted, Quiet, shape, amount, held_bytes, reassembly_of, counters_on, is_write, is_read, begun_on}
use Rattle.sctp_link.proofs.Names.{Indexed, SendsNone, terminal_of, abandoned-is, count-then, before-then, KeepsNext, counters-same, OpenStream, has_number}
use Rattle.sctp_link.proofs.Names.{less_by, Message, Slot, terminals, State, IsOpenStream, IsLinked, stats_of, message_record, progress_of, slot_record}
use Rattle.sctp_link.proofs.Names.{stream_record, IsDatagram, map-set_same, get_or-map, stands-then, map-set, Inside, Sides, IsAligned, sides, record_from}
use Rattle.sctp_link.proofs.Names.{record_in, state_from, state_in, Transmission, after_abandonment, growth, Option, Gives, next-kept, held-quiet, filter-kept}
use Rattle.sctp_link.proofs.Names.{begun-kept, fragments-same, written-kept}
use Rattle.sctp_link.proofs.sides.Changes.{on-aligned, on-sides}
use Rattle.sctp_sender.specs.Outgoing as Outgoing
use Rattle.sctp_model.specs.LinkRecord as W
use Rattle.sctp_model.proofs.sender.Moves
use Rattle.sctp_model.proofs.refinement.abandonment.AbandonedLate.{sent-then}
use Rattle.sctp_model.proofs.refinement.abandonment.NothingHeld.{amount-abandoned}
use Rattle.sctp_link.proofs.upkeep.StreamPlaces.{apart-changed}
use Rattle.sctp_link.proofs.sender.Beginning.{index_kept}
use Rattle.sctp_link.proofs.upkeep.ChangedStreams.{fields-same, changed-at}
use Rattle.sctp_link.proofs.upkeep.Facts.{facts, told}
use Rattle.sctp_link.proofs.upkeep.Frames.{moved, encodings-same, indexed-kept}

network-same : (w : LinkRecord) (n : ℕ) → (after_abandon w n).network ≡ w.network
network-same w n = ap (λ u. u.network) (abandoned-is w n)

-- an event that abandons a message of which some was sent
module _ {sum : List ℕ → ℕ} {x : State} (l : IsLinked sum x) {e : Event} (ok : refusal_of x.recorded e ≡ None) {n s bytes : ℕ} {q : Outbound} {next : ℕ}
    (r : Gives x.recorded x.outbound e n s bytes q next) (keeps : KeepsNext e) (none : SendsNone e) (no-write : is_write e ≡ false)
    (no-read : is_read e ≡ false) where
  abbrev w : LinkRecord
  w = x.recorded

  abbrev v : LinkRecord
  v = after_abandon x.recorded n

  quiet : Quiet x.recorded (after x.recorded e)
  quiet = subst (Quiet x.recorded) (sym r.is) (Moves.quiet-abandoned x.recorded.setup x.recorded n (facts l).consistent)

  setup-same : v.setup ≡ w.setup
  setup-same = ap (λ u. u.setup) (abandoned-is w n)

  -- the amount falls by what the message held
  stream-by : (y : OpenStream) (bytes : ℕ) → IsOpenStream w y → amount v y.state.stream_identifier + bytes ≡ amount w y.state.stream_identifier
      → IsOpenStream v (less_by bytes y)
  stream-by y bytes i less =
      let t = y.state.stream_identifier in
      record {
        held = i.held ∙ sym (ap (λ u. reassembly_of u t) (sym r.is) ∙ held-quiet (told l) e ok quiet t);
        si = i.si;
        largest = i.largest ∙ ap (λ s. s.largest) (sym setup-same);
        size = i.size ∙ ap (λ s. s.size) (sym setup-same);
        ordered = i.ordered ∙ sym (ap (ordered_before v t) (count-then w n) ∙ before-then w n t (length w.messages));
        number = i.number;
        begun = i.begun ∙ sym (ap (λ u. begun_on u t) (sym r.is) ∙ begun-kept (told l) e ok none t);
        next = i.next ∙ sym (ap (λ u. next_of u t) (sym r.is) ∙ next-kept (told l) e ok keeps t);
        amount = omega (arith, i.amount, less);
        stats = i.stats ∙ ap stats_of (sym (ap (λ u. counters_on u t) (sym r.is) ∙ counters-same w.setup w e t (facts l).consistent no-write no-read));
      }

  stream-given : (y : OpenStream) → IsOpenStream w y
      → IsOpenStream v (if (message_at w n).stream == y.state.stream_identifier then less_by (held_bytes w n) y else y)
  stream-given y i = by ((message_at w n).stream == y.state.stream_identifier) (amount-abandoned w n y.state.stream_identifier r.made)
    where
      same : (y : OpenStream) → less_by 0 y ≡ y
      same y = let z : y.state.buffered_amount - 0 ≡ y.state.buffered_amount = omega arith in
          ap (λ a. record y { state = record y.state { buffered_amount = a } }) z

      by : (b : Bool) → amount v y.state.stream_identifier + (if b then held_bytes w n else 0) ≡ amount w y.state.stream_identifier
          → IsOpenStream v (if b then less_by (held_bytes w n) y else y)
      by true e = stream-by y (held_bytes w n) i e
      by false e = subst (IsOpenStream v) (same y) (stream-by y 0 i e)

  -- the streams then
  abbrev ls : List OpenStream
  ls = change_where (has_number s) (less_by bytes) x.open_streams

  each : (k : ℕ) (d : OpenStream) → k < length ls → IsOpenStream v (slice_index_or ls k d)
  each k d lt =
      let y = slice_index_or x.open_streams k d in
      let inside : k < length x.open_streams = omega (arith, lt, length-change_where (has_number s) (less_by bytes) x.open_streams) in
      subst (IsOpenStream v)
      (sym (
      changed-at (less_by bytes) s x.open_streams k d inside ∙ ap (λ t. if t == y.state.stream_identifier then less_by bytes y else y) r.stream
      ∙ ap (λ b. if (message_at w n).stream == y.state.stream_identifier then less_by b y else y) r.held
      ))
      (stream-given y (l.open_streams k d inside))

  indexed-then : Indexed (shape v) (index_kept x.progress)
  indexed-then = subst (λ u. Indexed (shape u) (index_kept x.progress)) r.is (indexed-kept l e ok none)

  linked-after : IsLinked sum (record x { recorded = v; open_streams = ls; outbound = q; next_tsn = next })
  linked-after = record {
    setup = subst IsSetup (sym setup-same) l.setup;
    history = (e, reply_to w e) ∷ l.history;
    stands = subst (λ t. StandsFor t v ((e, reply_to w e) ∷ l.history)) (sym setup-same)
        (subst (λ u. StandsFor w.setup u ((e, reply_to w e) ∷ l.history)) r.is (stands-then e ok l.stands));
    outbound = r.refines;
    unstarted = l.unstarted ∙ sym r.unstarted;
    filter = l.filter ∙ sym (ap filter_of (sym r.is) ∙ filter-kept (told l) e ok quiet);
    next = r.next_is;
    acked = l.acked ∙ ap (λ u. cumulative_tsn u u.taken) (sym (abandoned-is w n));
    fragments = l.fragments ∙ sym (ap fragments_accepted (sym r.is) ∙ fragments-same (told l) e ok no-write);
    written = l.written ∙ sym (ap (λ u. in_all u (written_bytes u)) (sym r.is) ∙ written-kept (told l) e ok no-write);
    sents = λ k lt. l.sents k (omega (arith, lt, count-then w n)) ∙ sym (sent-then w n k);
    indexes = indexed-then.is;
    low = indexed-then.low;
    open_streams = each;
    apart = apart-changed s (less_by bytes) x.open_streams (λ y. refl) l.apart;
    encodings = λ k d g t. subst (λ u. slice_get u.network k ≡ Some g → IsDatagram sum (contents_of u g) (slice_index_or x.datagrams k d)) r.is
        (λ t'. encodings-same l e ok (ap (λ u. u.network) r.is ∙ network-same w n) k d g t') t;
  }

  -- with the lists that a link then has
  module _ (ms : List Message) (m m' : Message) (ss ss' : List Slot) (partial : Bool) (streams : x.recorded.streams ≡ map stream_record x.open_streams)
      (em : x.recorded.messages ≡ map message_record ms) (ep : x.progress ≡ map progress_of ms) (es : x.recorded.slots ≡ map slot_record ss)
      (here : m ≡ slice_index_or ms n m) (took : m' ≡ record m { abandoned = true }) (partial_is : partial ≡ is_partially_sent x.recorded n)
      (more : ss' ≡ ss ++ terminals partial n m.sent) where
    lt : n < length ms
    lt = omega (arith, r.made, ap length em, length-mapped message_record ms)

    sent-is : m.sent ≡ sent_of w n
    sent-is = ap (λ (t : Message). t.sent) here ∙ sym (ap (λ (p : ℕ × ℕ). p.0) (get_or-map progress_of ms n m (0, 0) lt))
        ∙ ap (λ (ps : List (ℕ × ℕ)). (slice_index_or ps n (0, 0)).0) (sym ep) ∙ l.sents n r.made

    slots-given : map slot_record ss' ≡ w.slots ++ terminal_of w n
    slots-given =
        ap (map slot_record) more ∙ map-append slot_record ss (terminals partial n m.sent)
        ∙ ap (λ a. a ++ map slot_record (terminals partial n m.sent)) (sym es) ∙ ap (λ k. w.slots ++ map slot_record (terminals partial n k)) sent-is
        ∙ ap (λ b. w.slots ++ map slot_record (terminals b n (sent_of w n))) partial_is ∙ ap (λ a. w.slots ++ a) (by (is_partially_sent w n))
      where
        by : (b : Bool) → map slot_record (terminals b n (sent_of w n)) ≡ (if b then (let y : W.Slot =
            record { message = n; fragment = sent_of w n; is_terminal_chunk = true; arrived = false; acknowledged = false } in y) ∷ [] else [])
        by true = refl
        by false = refl

    taken : m' ≡ record (slice_index_or ms n m) { abandoned = true }
    taken = took ∙ ap (λ (t : Message). record t { abandoned = true }) here

    -- the record then, and a link with these parts
    abbrev recorded-then : LinkRecord
    recorded-then = record x.recorded { streams = map stream_record ls; messages = map message_record (slice_set ms n m'); slots = map slot_record ss' }

    abbrev state-then : LinkRecord → List (ℕ × ℕ) → State
    state-then u p = record x { recorded = u; open_streams = ls; progress = p; outbound = q; next_tsn = next }

    recorded-given : recorded-then ≡ after_abandon x.recorded n
    recorded-given =
        ap (λ r. record x.recorded { streams = r; messages = map message_record (slice_set ms n m'); slots = map slot_record ss' })
        (fields-same stream_record (less_by bytes) (λ y. refl) s x.open_streams ∙ sym streams)
        ∙ ap (λ r. record x.recorded { messages = r; slots = map slot_record ss' })
        (map-set message_record mark_abandoned ms n m' m lt (ap message_record taken) ∙ ap (change_at mark_abandoned n) (sym em))
        ∙ ap (λ r. record x.recorded { messages = change_at mark_abandoned n x.recorded.messages; slots = r }) slots-given ∙ sym (abandoned-is x.recorded n)

    linked-given : IsLinked sum (state-then recorded-then (map progress_of (slice_set ms n m')))
    linked-given = subst (λ p. IsLinked sum (state-then recorded-then p)) (sym (map-set_same progress_of ms n m' m (ap progress_of taken) ∙ sym ep))
        (moved sum (state-then recorded-then x.progress) v recorded-given linked-after)

-- ## At a link

-- the record with these messages and slots
abbrev pub with_lists : {C : Type 0} → Inside C → List Message → List Slot → Sides → LinkRecord
with_lists a ms ss y = record (record_from y a) { messages = map message_record ms; slots = map slot_record ss }

-- what a link is whose sender gave a message up, once its message and its slots are settled
pub record Settled {C : Type 0} (sum : List ℕ → ℕ) (a : Inside C) (e : Event) (bytes : ℕ) (t : Transmission) (ms : List Message) (ss : List Slot) : Type 0 where
  pub aligned : IsAligned t a.receiver a.progress
  pub linked : IsLinked sum (record (state_from (sides t a.receiver a.progress) a)
      { recorded = with_lists a ms ss (sides t a.receiver a.progress); progress = map progress_of ms })
  pub moves : with_lists a ms ss (sides t a.receiver a.progress) ≡ after (record_in a) e
  pub grows : bytes ≡ growth (record_in a) (with_lists a ms ss (sides t a.receiver a.progress))

pub settled : {C : Type 0} {sum : List ℕ → ℕ} (a : Inside C) → IsAligned a.sender a.receiver a.progress → IsLinked sum (state_in a) → (e : Event)
    → refusal_of (record_in a) e ≡ None → {n s bytes : ℕ} (o : Option ℕ)
    → Gives (record_in a) a.sender.flight.queue e n s bytes (after_abandonment o a.sender.flight).queue (after_abandonment o a.sender.flight).next_tsn
    → KeepsNext e → SendsNone e → is_write e ≡ false → is_read e ≡ false → (t : Transmission) → t ≡ (let u : Transmission = record a.sender
    { streams = change_where (Outgoing.has_number s) (Outgoing.less_by bytes) a.sender.streams; flight = after_abandonment o a.sender.flight } in u)
    → (m m' : Message) (ss : List Slot) (partial : Bool) → m ≡ slice_index_or a.messages.items n m → m' ≡ record m { abandoned = true }
    → partial ≡ is_partially_sent (record_in a) n → ss ≡ a.slots.items ++ terminals partial n m.sent
    → Settled sum a e bytes t (slice_set a.messages.items n m') ss
settled {sum = sum} a al l e ok {n = n} {s = s} {bytes = bytes} o r keeps none no-write no-read t is m m' ss partial here took partial_is more =
    let ms = slice_set a.messages.items n m' in
    let both = on-sides al s (Outgoing.less_by bytes) (after_abandonment o a.sender.flight) t is in
    let given = ap (with_lists a ms ss) both
    ∙ recorded-given l ok r keeps none no-write no-read a.messages.items m m' a.slots.items ss partial refl refl refl refl here took partial_is more in
    record {
      aligned = on-aligned al s (Outgoing.less_by bytes) (after_abandonment o a.sender.flight) t is (λ z. refl);
      linked = subst (λ (y : Sides). IsLinked sum (record (state_from y a) { recorded = with_lists a ms ss y; progress = map progress_of ms })) (sym both)
          (linked-given l ok r keeps none no-write no-read a.messages.items m m' a.slots.items ss partial refl refl refl refl here took partial_is more);
      moves = given ∙ sym r.is;
      grows = r.grows ∙ ap (growth (record_in a)) (sym given);
    }
