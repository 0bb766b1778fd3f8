-- What a read makes of a link.
use Rattle.sctp_link.proofs.Names.{◌≡◌, ℕ, ◌+◌, ◌<◌, Bool, true, false, List, [], length, map, drop, Some, None, refl, ap, sym, ◌∙◌, arith, ◌-◌, ◌^◌, ◌%◌}
use Rattle.sctp_link.proofs.Names.{◌==◌, ◌&&◌, is_some, if◌then◌else◌, find, unwrap_or, slice_index_or, slice_set, Option, option_map, subst, length-set}
use Rattle.sctp_link.proofs.Names.{get_or-set_same, counted_as, change_at, change_where, same-yes, same-is, ChunkSet, ChunkPayloadData, bytes_of}
use Rattle.sctp_link.proofs.Names.{PayloadProtocolIdentifier, Dcep, String, Binary, StringEmpty, BinaryEmpty, Unknown, message_read, rest_read, state_read}
use Rattle.sctp_link.proofs.Names.{at_start, StreamUnknown, LinkRecord, StreamRecord, message_at, stream_at, stream_of, index_of, sent_of, no_stream, next_of}
use Rattle.sctp_link.proofs.Names.{next_read, read_of, after_reading, mark_read, without_first, filter_of, handed_out, IsSpan, refusal_of, reply_to, after}
use Rattle.sctp_link.proofs.Names.{read_reply, unless, shape, slot-sent, reassembly_of, counters_on, received_more, Begins, counters-read, counters-nothing}
use Rattle.sctp_link.proofs.Names.{OpenStream, both_ways, has_number, on_inbound, read_recorded, stats_in, stream_numbers, Message, count_read, stream_read}
use Rattle.sctp_link.proofs.Names.{DataChannelStats, OutboundStream, State, IsLinked, IsOpenStream, stats_of, message_record, stream_record, progress_of, IsApart}
use Rattle.sctp_link.proofs.Names.{map-set_same, chunk_at, Inside, Slot, record_in, sides_in, state_in, map-set, with_received, set-set, filter-read}
use Rattle.sctp_link.proofs.Names.{joined-length, ppi-handed, HandsOut, hands-out, none-mapped, some-mapped, unless-holds, is_open}
use Rattle.sctp_model.specs.Log.{joined_bytes}
use Rattle.sctp_reassembly.specs.declared.reassembly_queue.chunks.Chunks.{Chunks}
use Rattle.sctp_model.specs.declared.event.Event.TheVariants as E
use Rattle.sctp_model.specs.LinkRecord as W
use Rattle.sctp_model.specs.Reply as R
use Rattle.sctp_model.proofs.sender.Network
use Rattle.sctp_model.proofs.receiver.Shown.{read-joined}
use Rattle.sctp_model.proofs.refinement.reading.NextRead
use Rattle.sctp_model.proofs.refinement.acknowledging.QuietSender
use Rattle.sctp_model.proofs.refinement.reading.ReadOne
use Rattle.sctp_link.proofs.sender.Beginning.{index_kept}
use Rattle.sctp_link.proofs.upkeep.Apart.{differ, each-set, number-found, streams-set}
use Rattle.sctp_link.proofs.upkeep.StreamPlaces.{apart-set, changed-found, placed}
use Rattle.sctp_link.proofs.upkeep.Facts.{facts, over}
use Rattle.sctp_link.proofs.upkeep.StreamsAfter.{stream-then, linked-then}
use Rattle.sctp_link.proofs.upkeep.Lookups.{some-open, open-kept}
use Rattle.sctp_link.proofs.receiver.Hears.{lead-slot, lead-number, messages-made, message-raw, kept-raw}

-- a message read, counted as the record counts it
counted-read : (ppi : PayloadProtocolIdentifier) (len : ℕ) (w : LinkRecord) (t : ℕ)
    → with_received (counted_as ppi len) (stats_of (counters_on w t)) ≡ stats_of (received_more (counted_as ppi len) (counters_on w t))
counted-read Dcep len w t = refl
counted-read String len w t = refl
counted-read Binary len w t = refl
counted-read StringEmpty len w t = refl
counted-read BinaryEmpty len w t = refl
counted-read Unknown len w t = refl

read-both : (o : Option ℕ) (a b : DataChannelStats) → both_ways a (with_received o b) ≡ with_received o (both_ways a b)
read-both None a b = refl
read-both (Some n) a b = refl

module _ {sum : List ℕ → ℕ} {x : State} (l : IsLinked sum x) (s at : ℕ) (d : OpenStream) (streams_are : x.recorded.streams ≡ map stream_record x.open_streams)
    (lt : at < length x.open_streams) (found : (d : OpenStream) → find (has_number s) x.open_streams ≡ Some (slice_index_or x.open_streams at d)) where
  abbrev w : LinkRecord
  w = x.recorded

  abbrev v : LinkRecord
  v = after x.recorded (E.Read s)

  abbrev y : OpenStream
  y = slice_index_or x.open_streams at d

  abbrev r : StreamRecord
  r = stream_record (slice_index_or x.open_streams at d)

  open' : stream_at w s ≡ Some r
  open' = some-open w s x.open_streams y streams_are (found d)

  none : refusal_of w (E.Read s) ≡ None
  none = ap (λ o. unless (is_some o) StreamUnknown None) open'

  frame : Network.Same w v
  frame = Network.same-read w s (next_read w s)

  quiet : QuietSender.SameToSender w v
  quiet = QuietSender.same-read w s (next_read w s)

  id-at : (c : OpenStream) → (slice_index_or x.open_streams at c).state.stream_identifier ≡ s
  id-at c = number-found s x.open_streams (slice_index_or x.open_streams at c) (found c)

  here : y.inbound.queue.held ≡ reassembly_of w s
  here = (l.open_streams at d lt).held ∙ ap (reassembly_of w) (id-at d)

  span : IsSpan w s []
  span = (facts l).valid.near s

  complete-are : (stream_of w s).complete ≡ y.complete
  complete-are = ap (λ o. (unwrap_or o (no_stream s)).complete) open'

  rest : rest_read y.inbound.queue.held ≡ reassembly_of v s
  rest = let f = facts l in ap rest_read here ∙ NextRead.rest-is w s r f.valid.valid f.valid.unassembled span open'

  streams-apart : IsApart (stream_numbers x.open_streams)
  streams-apart = l.apart

  filter-stays : filter_of v ≡ filter_of w
  filter-stays = filter-read w s (next_read w s)

  -- the stream that is read, and the others
  stream-read : (z : OpenStream) → z.state.stream_identifier ≡ y.state.stream_identifier → z.inbound.queue ≡ state_read y.inbound.queue
      → z.state.max_payload_size ≡ y.state.max_payload_size → z.state.sequence_number ≡ y.state.sequence_number → z.state.buffered_amount
      ≡ y.state.buffered_amount → z.ordered ≡ y.ordered → z.begun ≡ y.begun → z.next ≡ next_of v s → stats_in z ≡ stats_of (counters_on v s) → IsOpenStream v z
  stream-read z id queue size number bytes ordered begun next stats =
      stream-then l (E.Read s) none frame refl y z (l.open_streams at d lt) id (ap (λ q. q.held) queue ∙ rest ∙ ap (reassembly_of v) (sym (id-at d)))
      (ap (λ q. q.si) queue) (ap (λ q. q.max_message_size) queue) size ordered number begun (next ∙ ap (next_of v) (sym (id-at d))) bytes (stats
      ∙ ap (λ t. stats_of (counters_on v t)) (sym (id-at d)))

  each-read : (z : OpenStream) → IsOpenStream v z → ((t : ℕ) → (t ≡ s → ⊥) → next_of v t ≡ next_of w t)
      → ((t : ℕ) → (t ≡ s → ⊥) → counters_on v t ≡ counters_on w t) → (j : ℕ) (c : OpenStream) → j < length (slice_set x.open_streams at z)
      → IsOpenStream v (slice_index_or (slice_set x.open_streams at z) j c)
  each-read z new next counters j c less =
      let inside : j < length x.open_streams = omega (arith, less, length-set x.open_streams at z) in
      each-set (IsOpenStream v) x.open_streams at j z c lt new (λ ne. other inside ne)
    where
      other : j < length x.open_streams → (j ≡ at → ⊥) → IsOpenStream v (slice_index_or x.open_streams j c)
      other inside ne =
          let f = facts l in
          let i = l.open_streams j c inside in
          let t = slice_index_or x.open_streams j c in
          let off : t.state.stream_identifier ≡ s → ⊥ = λ h. differ x.open_streams j at c streams-apart inside lt ne (h ∙ sym (id-at c)) in
          stream-then l (E.Read s) none frame refl t t i refl (i.held
          ∙ sym (NextRead.read-others w s r f.valid.valid f.valid.unassembled span open' t.state.stream_identifier off)) refl refl refl refl refl refl
          (i.next ∙ sym (next t.state.stream_identifier off)) refl (i.stats ∙ ap stats_of (sym (counters t.state.stream_identifier off)))

  -- the streams once it is read, and once that is recorded
  abbrev taken : OpenStream
  taken = on_inbound stream_read (slice_index_or x.open_streams at d)

  read-once : change_where (has_number s) (on_inbound stream_read) x.open_streams ≡ slice_set x.open_streams at taken
  read-once = sym (changed-found s x.open_streams l.apart (on_inbound stream_read) at d lt (id-at d))

  read-twice : (ordered : Bool) (index : ℕ) → change_where (has_number s) (read_recorded ordered index)
      (change_where (has_number s) (on_inbound stream_read) x.open_streams) ≡ slice_set x.open_streams at (read_recorded ordered index taken)
  read-twice ordered index =
      let same = get_or-set_same x.open_streams at taken d lt in
      ap (change_where (has_number s) (read_recorded ordered index)) read-once
      ∙ sym (changed-found s (slice_set x.open_streams at taken) (apart-set x.open_streams at taken d l.apart refl) (read_recorded ordered index) at d
      (omega (arith, lt, length-set x.open_streams at taken))
      (ap (λ (t : OpenStream). t.state.stream_identifier) same ∙ id-at d))
      ∙ ap (λ (t : OpenStream). slice_set (slice_set x.open_streams at taken) at (read_recorded ordered index t)) same
      ∙ set-set x.open_streams at taken (read_recorded ordered index taken)

  -- ## Nothing to read

  module _ (e : message_read (slice_index_or x.open_streams at d).inbound.queue.held ≡ None) where
    nothing : next_read w s ≡ None
    nothing = let f = facts l in ReadOne.none-due w s r f.valid.valid f.valid.unassembled span open' (ap message_read (sym here) ∙ e)

    still : v ≡ w
    still = ReadOne.nothing-read w s nothing

    pub reply-nothing : R.Nothing ≡ reply_to w (E.Read s)
    reply-nothing = sym (ap (read_reply w) nothing)

    recorded-same : record w { streams = map stream_record (slice_set x.open_streams at taken) } ≡ v
    recorded-same = ap {B = LinkRecord} (λ rs. record w { streams = rs }) (map-set_same stream_record x.open_streams at taken d refl ∙ sym streams_are)
        ∙ sym still

    linked-same : IsLinked sum
        (record x { recorded = record w { streams = map stream_record (slice_set x.open_streams at taken) }; open_streams = slice_set x.open_streams at taken })
    linked-same =
        let i = l.open_streams at d lt in
        linked-then l (E.Read s) none frame x.progress (slice_set x.open_streams at taken) x.filter
        (record w { streams = map stream_record (slice_set x.open_streams at taken) }) refl (l.filter ∙ sym filter-stays)
        (each-read taken (stream-read taken refl refl refl refl refl refl refl (i.next ∙ ap (next_of w) (id-at d) ∙ ap (λ u. next_of u s) (sym still))
        (ap (λ o. both_ways y.state.stats (count_read o y.inbound.stats)) e ∙ i.stats ∙ ap (λ t. stats_of (counters_on w t)) (id-at d)
        ∙ ap stats_of (sym (counters-nothing w s s nothing)))) (λ t ne. ap (λ u. next_of u t) still) (λ t ne. counters-nothing w s t nothing))
        (apart-set x.open_streams at taken d l.apart refl) quiet recorded-same

    pub recorded-nothing : record w { streams = map stream_record (change_where (has_number s) (on_inbound stream_read) x.open_streams) } ≡ v
    recorded-nothing = ap {B = LinkRecord} (λ ls. record w { streams = map stream_record ls }) read-once ∙ recorded-same

    pub linked-nothing : IsLinked sum (record x {
      recorded = record w { streams = map stream_record (change_where (has_number s) (on_inbound stream_read) x.open_streams) };
      open_streams = change_where (has_number s) (on_inbound stream_read) x.open_streams;
    })
    linked-nothing =
        subst (λ ls. IsLinked sum (record x { recorded = record w { streams = map stream_record ls }; open_streams = ls })) (sym read-once) linked-same

  -- ## A message is read

  module _ (set : ChunkSet) (e : message_read (slice_index_or x.open_streams at d).inbound.queue.held ≡ Some set) where
    pub read-is : (n : ℕ) × (next_read w s ≡ Some n) × (set ≡ handed_out w n)
    read-is = let f = facts l in ReadOne.some-read w s r f.valid.valid f.valid.unassembled span open' set (ap message_read (sym here) ∙ e)

    abbrev n : ℕ
    n = read-is.0

    pub hands : HandsOut w s read-is.0
    hands = let f = facts l in hands-out f s read-is.0 (ReadOne.reads-one w s r f.valid.valid f.valid.unassembled span open' read-is.0 read-is.1)

    pub hands-begins : Begins w read-is.0 set.chunks
    hands-begins = subst (λ (c : ChunkSet). Begins w read-is.0 c.chunks) (sym read-is.2) hands.begins

    -- it has the bytes of its message
    bytes-read : bytes_of set.chunks ≡ length (message_at w read-is.0).bytes
    bytes-read =
        ap (λ (c : ChunkSet). bytes_of c.chunks) read-is.2 ∙ sym (joined-length (handed_out w read-is.0).chunks)
        ∙ ap length (over (λ (u : LinkRecord). next_read u s ≡ Some read-is.0 → joined_bytes (handed_out u read-is.0).chunks
        ≡ (message_at u read-is.0).bytes) l (λ h. read-joined w.setup l.history l.setup l.stands.run s read-is.0 h) read-is.1)

    pub low : index_kept x.progress read-is.0 < length w.messages
    low = omega (arith, l.low read-is.0, hands.made)

    -- it has its index, as some of it was sent
    sent-some : 0 < sent_of w read-is.0
    sent-some = subst (λ n. 0 < sent_of w n) hands-begins.of (slot-sent (shape w) hands-begins.place (facts l).consistent.sender hands-begins.made)

    pub reply-read : R.Message s (message_at w read-is.0).ppi set ≡ reply_to w (E.Read s)
    reply-read = ap (λ c. R.Message s (message_at w read-is.0).ppi c) read-is.2
        ∙ ap (λ t. R.Message t (message_at w read-is.0).ppi (handed_out w read-is.0)) (sym hands.stream) ∙ sym (ap (read_reply w) read-is.1)

    -- with the message m, whose number is n
    module _ (m : Message) (messages : List W.Message) (m_is : message_at x.recorded read-is.0 ≡ message_record m)
        (messages_are : messages ≡ change_at mark_read read-is.0 x.recorded.messages) (index : m.index ≡ index_kept x.progress read-is.0) where
      abbrev z : OpenStream
      z = read_recorded m.ordered m.index taken

      abbrev recorded : List OpenStream
      recorded = change_where (has_number s) (read_recorded m.ordered m.index) (change_where (has_number s) (on_inbound stream_read) x.open_streams)

      next-is : z.next ≡ next_of v s
      next-is =
          let kind : (message_at w read-is.0).ordered ≡ m.ordered = ap (λ t. t.ordered) m_is in
          indexed m.ordered m.index (index_of w read-is.0) (λ o. index ∙ l.indexes read-is.0 sent-some (kind ∙ o))
          ∙ ap (λ b. if b && (index_of w read-is.0 == y.next) then index_of w read-is.0 + 1 else y.next) (ap (λ t. t.ordered) (sym m_is))
          ∙ ap (λ t. if (message_at w read-is.0).ordered && (index_of w read-is.0 == t) then index_of w read-is.0 + 1 else t)
          ((l.open_streams at d lt).next ∙ ap (next_of w) (id-at d)) ∙ sym hands.next
        where
          indexed : (o : Bool) (a b : ℕ) → (o ≡ true → a ≡ b) → (if o && (a == y.next) then a + 1 else y.next) ≡ (if o && (b == y.next) then b + 1 else y.next)
          indexed true a b e = ap (λ c. if true && (c == y.next) then c + 1 else y.next) (e refl)
          indexed false a b e = refl

      counters-at : (t : ℕ) → counters_on v t ≡ (if t == s
          then received_more (counted_as (message_at w read-is.0).ppi (length (message_at w read-is.0).bytes)) (counters_on w t) else counters_on w t)
      counters-at t =
          over (λ (u : LinkRecord). next_read u s ≡ Some read-is.0 → counters_on (after_reading u s) t ≡ (if t == s
          then received_more (counted_as (message_at u read-is.0).ppi (length (message_at u read-is.0).bytes)) (counters_on u t) else counters_on u t)) l
          (λ h. counters-read w.setup l.history l.setup l.stands.run s t read-is.0 h) read-is.1

      counters-other : (t : ℕ) → (t ≡ s → ⊥) → counters_on v t ≡ counters_on w t
      counters-other t ne = counters-at t ∙ by (t == s) refl
        where
          by : (b : Bool) → (t == s) ≡ b
              → (if b then received_more (counted_as (message_at w read-is.0).ppi (length (message_at w read-is.0).bytes)) (counters_on w t)
              else counters_on w t) ≡ counters_on w t
          by true h = absurd (ne (same-is t s h))
          by false h = refl

      stats-are : stats_in z ≡ stats_of (counters_on v s)
      stats-are =
          let ppi = (message_at w read-is.0).ppi in
          let len = length (message_at w read-is.0).bytes in
          let sent = y.state.stats in
          let read = y.inbound.stats in
          ap (λ o. both_ways sent (count_read o read)) e
          ∙ ap (λ p. both_ways sent (with_received (counted_as p (bytes_of set.chunks)) read)) (ap (λ (c : ChunkSet). c.ppi) read-is.2 ∙ ppi-handed w read-is.0)
          ∙ ap (λ k. both_ways sent (with_received (counted_as ppi k) read)) bytes-read ∙ read-both (counted_as ppi len) sent read
          ∙ ap (with_received (counted_as ppi len)) ((l.open_streams at d lt).stats ∙ ap (λ t. stats_of (counters_on w t)) (id-at d)) ∙ counted-read ppi len w s
          ∙ ap stats_of (sym (counters-at s ∙ ap (λ b. if b then received_more (counted_as (message_at w read-is.0).ppi (length (message_at w read-is.0).bytes))
          (counters_on w s) else counters_on w s) (same-yes s)))

      open_stream-is : IsOpenStream v z
      open_stream-is = stream-read z refl refl refl refl refl refl refl next-is stats-are

      abbrev shown : ℕ → OutboundStream → List ℕ → StreamRecord
      shown named t complete = record {
        stream = t.stream_identifier;
        unordered = t.unordered;
        reliability = t.reliability_type;
        value = t.reliability_value;
        named = named;
        complete = complete;
      }

      complete-is : z.complete ≡ drop 1 y.complete
      complete-is =
          ap (λ b. if b then y.complete else drop 1 y.complete) (ap (λ t. t.ordered) (sym m_is))
          ∙ ap (λ l. if (message_at w read-is.0).ordered then l else drop 1 l) (sym complete-are) ∙ hands.complete ∙ ap (drop 1) complete-are

      streams-are : map stream_record (slice_set x.open_streams at z) ≡ map (λ (t : StreamRecord). if t.stream == s then without_first t else t) w.streams
      streams-are =
          streams-set x.open_streams at z d without_first streams-apart lt (ap (shown y.named y.state) complete-is)
          ∙ ap (λ i. map (λ (t : StreamRecord). if t.stream == i then without_first t else t) (map stream_record x.open_streams)) (id-at d)
          ∙ ap (map (λ (t : StreamRecord). if t.stream == s then without_first t else t)) (sym streams_are)

      recorded-read : record w { streams = map stream_record (slice_set x.open_streams at z); messages = messages } ≡ v
      recorded-read =
          ap (λ rs. record w { streams = rs; messages = messages }) streams-are
          ∙ ap (λ ms. record w { streams = map (λ (t : StreamRecord). if t.stream == s then without_first t else t) w.streams; messages = ms }) messages_are
          ∙ sym (ap (read_of w s) read-is.1)

      linked-read : (progress : List (ℕ × ℕ)) → progress ≡ x.progress → IsLinked sum (record x {
        recorded = record w { streams = map stream_record (slice_set x.open_streams at z); messages = messages };
        progress = progress;
        open_streams = slice_set x.open_streams at z;
      })
      linked-read progress same =
          linked-then l (E.Read s) none frame progress (slice_set x.open_streams at z) x.filter
          (record w { streams = map stream_record (slice_set x.open_streams at z); messages = messages }) same (l.filter ∙ sym filter-stays)
          (each-read z open_stream-is hands.other counters-other) (apart-set x.open_streams at z d l.apart refl) quiet recorded-read

      -- so the progress records it
      pub recorded-recorded : record w { streams = map stream_record recorded; messages = messages } ≡ v
      recorded-recorded = ap {B = LinkRecord} (λ ls. record w { streams = map stream_record ls; messages = messages }) (read-twice m.ordered m.index)
          ∙ recorded-read

      pub linked-recorded : (progress : List (ℕ × ℕ)) → progress ≡ x.progress → IsLinked sum
          (record x { recorded = record w { streams = map stream_record recorded; messages = messages }; progress = progress; open_streams = recorded })
      linked-recorded progress same =
          subst (λ ls.
          IsLinked sum (record x { recorded = record w { streams = map stream_record ls; messages = messages }; progress = progress; open_streams = ls }))
          (sym (read-twice m.ordered m.index))
          (linked-read progress same)

-- ## The message that a link is handed

-- a stream stands at a place of the open ones
pub record IsPlaced (s : ℕ) (ls : List OpenStream) : Type 0 where
  pub at : ℕ
  pub d : OpenStream
  pub lt : at < length ls
  pub is : find (has_number s) ls ≡ Some d
  pub here : slice_index_or ls at d ≡ d
  pub found : (e : OpenStream) → find (has_number s) ls ≡ Some (slice_index_or ls at e)

abbrev pub marked : Message → Message
marked m = record m { read = true }

-- the message n, which the slot y is of, is kept as m, and marked as read
pub record IsHanded {C : Type 0} (a : Inside C) (n : ℕ) (y : Slot) (m : Message) : Type 0 where
  pub message : message_at (record_in a) n ≡ message_record m
  pub index : m.index ≡ index_kept (state_in a).progress n
  pub reads : map message_record (slice_set a.messages.items y.message (marked m)) ≡ change_at mark_read n (record_in a).messages
  pub progress : map progress_of (slice_set a.messages.items y.message (marked m)) ≡ map progress_of a.messages.items

module _ {C : Type 0} {sum : List ℕ → ℕ} (a : Inside C) (l : IsLinked sum (state_in a)) (s : ℕ) where
  pub placed-at : refusal_of (record_in a) (E.Read s) ≡ None → IsPlaced s (sides_in a).streams
  placed-at ok =
      let t = open-kept (record_in a) s (sides_in a).streams refl (unless-holds (is_open (record_in a) s) StreamUnknown None ok).0 in
      let place = placed s (sides_in a).streams t.0 t.1 in
      record { at = place.0; d = t.0; lt = place.1.0; is = t.1; here = place.1.1 t.0; found = λ e. t.1 ∙ ap (λ l. Some l) (sym (place.1.1 e)) }

  module _ (p : IsPlaced s (sides_in a).streams) where
    pub none-handed : None ≡ option_map at_start (message_read p.d.inbound.queue.held)
        → message_read (slice_index_or (sides_in a).streams p.at p.d).inbound.queue.held ≡ None
    none-handed answered = ap (λ (y : OpenStream). message_read y.inbound.queue.held) p.here ∙ none-mapped (message_read p.d.inbound.queue.held) answered

    pub some-handed : (r : Chunks) → Some r ≡ option_map at_start (message_read p.d.inbound.queue.held)
        → message_read (slice_index_or (sides_in a).streams p.at p.d).inbound.queue.held ≡ Some r.set
    some-handed r answered = ap (λ (y : OpenStream). message_read y.inbound.queue.held) p.here ∙ some-mapped (message_read p.d.inbound.queue.held) r answered

    module _ (r : Chunks) (e : message_read (slice_index_or (sides_in a).streams p.at p.d).inbound.queue.held ≡ Some r.set) where
      abbrev pub handed : ℕ
      handed = (read-is l s p.at p.d refl p.lt p.found r.set e).0

      pub slot-handed : (d : ChunkPayloadData) → ((slice_index_or r.set.chunks 0 d).tsn + (2 ^ 32 - a.first_tsn)) % 2 ^ 32 < length a.slots.items
      slot-handed d =
          lead-slot l a.slots.items a.messages.items refl refl handed r.set.chunks d (hands-begins l s p.at p.d refl p.lt p.found r.set e)
          (hands l s p.at p.d refl p.lt p.found r.set e).made

      pub handed-made : handed < length a.messages.items
      handed-made = omega (arith, (hands l s p.at p.d refl p.lt p.found r.set e).made, messages-made l a.slots.items a.messages.items refl refl)

      -- the slot y is that of the first TSN
      module _ (first : ℕ) (first_is : (d : ChunkPayloadData) → first ≡ (slice_index_or r.set.chunks 0 d).tsn) (y : Slot)
          (y_is : y ≡ slice_index_or a.slots.items ((first + (2 ^ 32 - a.first_tsn)) % 2 ^ 32) y) where
        pub number-handed : y.message ≡ handed
        number-handed =
            let d = chunk_at (record_in a) 0 in
            lead-number l a.slots.items a.messages.items refl refl handed r.set.chunks d (hands-begins l s p.at p.d refl p.lt p.found r.set e)
            (hands l s p.at p.d refl p.lt p.found r.set e).made y (y_is
            ∙ ap (λ t. slice_index_or a.slots.items ((t + (2 ^ 32 - a.first_tsn)) % 2 ^ 32) y) (first_is d))

        pub message-handed : (m : Message) → m ≡ slice_index_or a.messages.items y.message m → IsHanded a handed y m
        message-handed m is =
            let here : m ≡ slice_index_or a.messages.items handed m = is ∙ ap (λ i. slice_index_or a.messages.items i m) number-handed in
            record {
              message = message-raw l a.slots.items a.messages.items refl refl handed m handed-made ∙ ap message_record (sym here);
              index = ap (λ (t : Message). t.index) here ∙ sym (kept-raw l a.slots.items a.messages.items refl refl refl handed m handed-made);
              reads = ap (λ i. map message_record (slice_set a.messages.items i (marked m))) number-handed
                  ∙ map-set message_record mark_read a.messages.items handed (marked m) m handed-made (ap (λ (t : Message). message_record (marked t)) here);
              progress = map-set_same progress_of a.messages.items y.message (marked m) m (ap progress_of is);
            }
