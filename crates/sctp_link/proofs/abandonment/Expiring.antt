-- A message expires: what a link keeps.
use Rattle.sctp_link.proofs.Names.{◌≡◌, ℕ, ◌+◌, ◌-◌, ◌<◌, ◌%◌, ◌^◌, Bool, true, false, List, ◌∷◌, length, map, Option, Some, None, refl, ap, sym, ◌∙◌, arith}
use Rattle.sctp_link.proofs.Names.{if◌then◌else◌, ◌==◌, ◌&&◌, not, slice_index_or, slice_set, subst, change_where, change_at, length-change_where}
use Rattle.sctp_link.proofs.Names.{length-changed, Outbound, expired_of, LinkRecord, cumulative_tsn, message_at, ordered_before, sent_of, tsn_of, next_of}
use Rattle.sctp_link.proofs.Names.{after_expire, expiring, mark_expired, message_changed, IsSetup, StandsFor, after, reply_to, amount, held_bytes}
use Rattle.sctp_link.proofs.Names.{reassembly_of, counters_on, begun_on, counters-same, OpenStream, expired_on, has_number, stats_in, stream_numbers, Message}
use Rattle.sctp_link.proofs.Names.{IsApart, State, IsOpenStream, IsLinked, stats_of, message_record, progress_of, stream_record, map-set_same, stands-then}
use Rattle.sctp_link.proofs.Names.{map-set, next-kept, filter-kept, begun-kept, fragments-same, written-kept, quiet, outbound-expired, unstarted-expired}
use Rattle.sctp_link.proofs.Names.{held-quiet}
use Rattle.sctp_model.proofs.refinement.abandonment.Released.{amount-expire}
use Rattle.sctp_outbound.specs.outbound_queue.OutboundQueue as outbound
use Rattle.sctp_model.specs.declared.event.Event.TheVariants as E
use Rattle.sctp_model.proofs.refinement.abandonment.ExpiredReply.{count-expire, number-lower}
use Rattle.sctp_link.proofs.upkeep.ChangedStreams.{fields-same, changed-at}
use Rattle.sctp_link.proofs.upkeep.StreamPlaces.{apart-changed}
use Rattle.sctp_link.proofs.upkeep.Facts.{facts, told, sends}
use Rattle.sctp_link.proofs.upkeep.Frames.{moved, encodings-same, indexed-kept}

module _ {sum : List ℕ → ℕ} {x : State} (l : IsLinked sum x) (now : ℕ) where
  abbrev v : LinkRecord
  v = after x.recorded (E.Expire now)

  -- ## A message expires

  module _ (n : ℕ) (e : expiring x.recorded now ≡ Some n) where
    -- a stream, by its amount and its count
    stream-by : (y z : OpenStream) → IsOpenStream x.recorded y → (s : ℕ) → y.state.stream_identifier ≡ s → z.inbound.queue ≡ y.inbound.queue
        → z.state.stream_identifier ≡ s → z.state.max_payload_size ≡ y.state.max_payload_size → stats_in z ≡ stats_in y → z.begun ≡ y.begun → z.next ≡ y.next
        → z.ordered ≡ ordered_before v s (length v.messages) → z.state.sequence_number ≡ z.ordered % 2 ^ 16 → z.state.buffered_amount ≡ amount v s
        → IsOpenStream v z
    stream-by y z i s id queue id' payload stats begun next ordered number bytes =
        let f = facts l in
        record {
          held = ap (λ q. q.held) queue ∙ i.held ∙ ap (reassembly_of x.recorded) id ∙ sym (held-quiet (told l) (E.Expire now) refl (quiet (sends l) now) s)
              ∙ sym (ap (reassembly_of v) id');
          si = ap (λ q. q.si) queue ∙ i.si ∙ id ∙ sym id';
          largest = ap (λ q. q.max_message_size) queue ∙ i.largest ∙ ap (λ t. t.largest) (sym (quiet (sends l) now).setup);
          size = payload ∙ i.size ∙ ap (λ t. t.size) (sym (quiet (sends l) now).setup);
          ordered = ordered ∙ sym (ap (λ t. ordered_before v t (length v.messages)) id');
          number = number;
          begun = begun ∙ i.begun ∙ ap (begun_on x.recorded) id ∙ sym (begun-kept (told l) (E.Expire now) refl tt s) ∙ sym (ap (begun_on v) id');
          next = next ∙ i.next ∙ ap (next_of x.recorded) id ∙ sym (next-kept (told l) (E.Expire now) refl tt s) ∙ sym (ap (next_of v) id');
          amount = bytes ∙ sym (ap (amount v) id');
          stats = stats ∙ i.stats ∙ ap (λ t. stats_of (counters_on x.recorded t)) id
              ∙ ap stats_of (sym (counters-same x.recorded.setup x.recorded (E.Expire now) s f.consistent refl refl))
              ∙ sym (ap (λ t. stats_of (counters_on v t)) id');
        }

    stream-expired : (y : OpenStream) → IsOpenStream x.recorded y → IsOpenStream v (if (message_at x.recorded n).stream == y.state.stream_identifier
        then expired_on (not (message_at x.recorded n).ordered) (held_bytes x.recorded n) y else y)
    stream-expired y i = by ((message_at x.recorded n).stream == y.state.stream_identifier) (message_at x.recorded n).ordered count bytes
      where
        left : ℕ
        left = ordered_before v y.state.stream_identifier (length v.messages)

        count : left + (if ((message_at x.recorded n).stream == y.state.stream_identifier) && (message_at x.recorded n).ordered then 1 else 0) ≡ y.ordered
        count = count-expire x.recorded.setup x.recorded now n (facts l).going e y.state.stream_identifier ∙ sym i.ordered

        bytes : amount v y.state.stream_identifier + (if (message_at x.recorded n).stream == y.state.stream_identifier then held_bytes x.recorded n else 0)
            ≡ y.state.buffered_amount
        bytes = amount-expire x.recorded.setup x.recorded now n (facts l).consistent e y.state.stream_identifier ∙ sym i.amount

        by : (a o : Bool) → left + (if a && o then 1 else 0) ≡ y.ordered → amount v y.state.stream_identifier + (if a then held_bytes x.recorded n else 0)
            ≡ y.state.buffered_amount → IsOpenStream v (if a then expired_on (not o) (held_bytes x.recorded n) y else y)
        by true true c b = stream-by y (expired_on false (held_bytes x.recorded n) y) i y.state.stream_identifier refl refl refl refl refl refl refl
            (omega (arith, c)) (number-lower y.state.sequence_number y.ordered (y.ordered - 1) i.number (omega (arith, c))) (omega (arith, b))
        by true false c b = stream-by y (expired_on true (held_bytes x.recorded n) y) i y.state.stream_identifier refl refl refl refl refl refl refl
            (omega (arith, c)) i.number (omega (arith, b))
        by false o c b = stream-by y y i y.state.stream_identifier refl refl refl refl refl refl refl (omega (arith, c)) i.number (omega (arith, b))

    is : v ≡ message_changed x.recorded n mark_expired
    is = ap (after_expire x.recorded) e

    number-kept : (o : Bool) (b : ℕ) (y : OpenStream) → (expired_on o b y).state.stream_identifier ≡ y.state.stream_identifier
    number-kept true b y = refl
    number-kept false b y = refl

    record-kept : (o : Bool) (b : ℕ) (y : OpenStream) → stream_record (expired_on o b y) ≡ stream_record y
    record-kept true b y = refl
    record-kept false b y = refl

    module _ (s bytes : ℕ) (unordered : Bool) (ls : List OpenStream) (q : Outbound) (s_is : s ≡ (message_at x.recorded n).stream)
        (kind : unordered ≡ not (message_at x.recorded n).ordered) (bytes_is : bytes ≡ held_bytes x.recorded n) (ls_is : ls
        ≡ change_where (has_number s) (expired_on unordered bytes) x.open_streams) (moves : q ≡ expired_of (outbound.expiring now x.outbound) x.outbound) where
      each : (k : ℕ) (d : OpenStream) → k < length ls → IsOpenStream v (slice_index_or ls k d)
      each k d lt =
          let y = slice_index_or x.open_streams k d in
          let inside : k < length x.open_streams =
          omega (arith, lt, ap length ls_is, length-change_where (has_number s) (expired_on unordered bytes) x.open_streams) in
          subst (IsOpenStream v)
          (sym (
          ap (λ a. slice_index_or a k d) ls_is ∙ changed-at (expired_on unordered bytes) s x.open_streams k d inside
          ∙ ap (λ t. if t == y.state.stream_identifier then expired_on unordered bytes y else y) s_is
          ∙ ap (λ o. if (message_at x.recorded n).stream == y.state.stream_identifier then expired_on o bytes y else y) kind
          ∙ ap (λ b. if (message_at x.recorded n).stream == y.state.stream_identifier then expired_on (not (message_at x.recorded n).ordered) b y
          else y) bytes_is
          ))
          (stream-expired y (l.open_streams k d inside))

      sents-same : (o : Option ℕ) (k : ℕ) → sent_of (after_expire x.recorded o) k ≡ sent_of x.recorded k
      sents-same None k = refl
      sents-same (Some j) k = refl

      count-same : (o : Option ℕ) → length (after_expire x.recorded o).messages ≡ length x.recorded.messages
      count-same None = refl
      count-same (Some j) = length-changed mark_expired j x.recorded.messages

      next-same : (o : Option ℕ) → tsn_of x.recorded (length x.recorded.slots) ≡ tsn_of (after_expire x.recorded o) (length (after_expire x.recorded o).slots)
      next-same None = refl
      next-same (Some j) = refl

      limit-same : (o : Option ℕ) → (after_expire x.recorded o).setup ≡ x.recorded.setup
      limit-same None = refl
      limit-same (Some j) = refl

      linked-after : IsLinked sum (record x { recorded = message_changed x.recorded n mark_expired; open_streams = ls; outbound = q })
      linked-after = subst (λ u. IsLinked sum (record x { recorded = u; open_streams = ls; outbound = q })) is (record {
        setup = subst (λ t. IsSetup t) (sym (limit-same (expiring x.recorded now))) l.setup;
        history = (E.Expire now, reply_to x.recorded (E.Expire now)) ∷ l.history;
        stands = subst (λ t. StandsFor t v ((E.Expire now, reply_to x.recorded (E.Expire now)) ∷ l.history)) (sym (limit-same (expiring x.recorded now)))
            (stands-then (E.Expire now) refl l.stands);
        outbound = outbound-expired (sends l) now q moves;
        unstarted = l.unstarted ∙ unstarted-expired (sends l) now q moves;
        filter = l.filter ∙ sym (filter-kept (told l) (E.Expire now) refl (quiet (sends l) now));
        next = l.next ∙ next-same (expiring x.recorded now);
        acked = l.acked ∙ ap (λ u. cumulative_tsn u u.taken) (sym is);
        fragments = l.fragments ∙ sym (fragments-same (told l) (E.Expire now) refl refl);
        written = l.written ∙ sym (written-kept (told l) (E.Expire now) refl refl);
        sents = λ k lt. l.sents k (omega (arith, lt, count-same (expiring x.recorded now))) ∙ sym (sents-same (expiring x.recorded now) k);
        indexes = (indexed-kept l (E.Expire now) refl tt).is;
        low = l.low;
        open_streams = each;
        apart = subst (λ ys. IsApart (stream_numbers ys)) (sym ls_is)
            (apart-changed s (expired_on unordered bytes) x.open_streams (number-kept unordered bytes) l.apart);
        encodings = encodings-same l (E.Expire now) refl (ap (λ u. u.network) is);
      })

      module _ (ms : List Message) (m' d : Message) (streams : x.recorded.streams ≡ map stream_record x.open_streams)
          (em : x.recorded.messages ≡ map message_record ms) (ep : x.progress ≡ map progress_of ms) (lt : n < length ms)
          (took : m' ≡ record (slice_index_or ms n d) { expired = true }) where
        -- the record then, and a link with these parts
        abbrev recorded-then : LinkRecord
        recorded-then = record x.recorded { streams = map stream_record ls; messages = map message_record (slice_set ms n m') }

        abbrev state-then : LinkRecord → List (ℕ × ℕ) → State
        state-then u p = record x { recorded = u; open_streams = ls; progress = p; outbound = q }

        recorded-expired : recorded-then ≡ message_changed x.recorded n mark_expired
        recorded-expired =
            ap (λ r. record x.recorded { streams = r; messages = map message_record (slice_set ms n m') }) (ap (map stream_record) ls_is
            ∙ fields-same stream_record (expired_on unordered bytes) (record-kept unordered bytes) s x.open_streams ∙ sym streams)
            ∙ ap (λ r. record x.recorded { messages = r })
            (map-set message_record mark_expired ms n m' d lt (ap message_record took) ∙ ap (change_at mark_expired n) (sym em))

        pub linked-expired : IsLinked sum (state-then recorded-then (map progress_of (slice_set ms n m')))
        linked-expired = subst (λ p. IsLinked sum (state-then recorded-then p)) (sym (map-set_same progress_of ms n m' d (ap progress_of took) ∙ sym ep))
            (moved sum (state-then recorded-then x.progress) (message_changed x.recorded n mark_expired) recorded-expired linked-after)

        pub moves-expired : recorded-then ≡ v
        moves-expired = recorded-expired ∙ sym is
