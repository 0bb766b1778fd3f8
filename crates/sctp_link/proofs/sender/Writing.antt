-- A write is taken.
use Rattle.sctp_link.proofs.Names.{◌≡◌, ℕ, ◌+◌, ◌<◌, ◌%◌, ◌^◌, Bool, true, false, List, [], ◌∷◌, ◌++◌, length, map, drop, Option, Some, None, refl, ap, sym}
use Rattle.sctp_link.proofs.Names.{◌∙◌, arith, length-append, ◌==◌, ◌&&◌, not, if◌then◌else◌, nat_lt, slice_index_or, find, unwrap_or, subst, map-append}
use Rattle.sctp_link.proofs.Names.{nat_tests, counted_as, is_ordered, numbers_from, pieces, by_last, same-yes, same-is, fails, ChunkPayloadData}
use Rattle.sctp_link.proofs.Names.{PayloadProtocolIdentifier, Dcep, String, Binary, StringEmpty, BinaryEmpty, Unknown, Outbound, with_message, LinkRecord}
use Rattle.sctp_link.proofs.Names.{StreamRecord, stream_of, no_stream, sent_of, ordered_before, next_of, in_all, written_bytes, after_write, message_on}
use Rattle.sctp_link.proofs.Names.{refusal_of, reply_to, fragments_accepted, fragments_in, shape, Consistent, consistent-after, Indexed, RefinesOutbound}
use Rattle.sctp_link.proofs.Names.{amount, counters_on, sent_more, amount-wrote, written-wrote, counters-wrote, change_where, fragments_with_mode}
use Rattle.sctp_link.proofs.Names.{with_reliability, OpenStream, both_ways, has_number, written_of, wrote_to, Message, stream_record, message_record}
use Rattle.sctp_link.proofs.Names.{message_written, State, IsOpenStream, IsLinked, stats_of, DataChannelStats, stands-then, Facts, written-few, progress-more}
use Rattle.sctp_link.proofs.Names.{with_sent, begun-kept, held-quiet, next-kept}
use Rattle.sctp_model.proofs.refinement.amounts.MessageSums.{sum-written}
use Rattle.std.specs.Option.{option_map}
use Rattle.sctp_model.specs.declared.event.Event.TheVariants as E
use Rattle.sctp_model.specs.LinkRecord as W
use Rattle.sctp_model.proofs.sender.Moves
use Rattle.sctp_model.proofs.refinement.sending.Written
use Rattle.sctp_model.proofs.refinement.sending.InLine
use Rattle.sctp_stream.specs.Stream as stream
use Rattle.sctp_link.proofs.upkeep.Facts.{facts, told}
use Rattle.sctp_link.proofs.upkeep.Frames.{stream-same, indexed-kept, encodings-same}
use Rattle.sctp_link.proofs.sender.Beginning.{index_kept}
use Rattle.sctp_link.proofs.upkeep.Bounds.{amount-few}
use Rattle.sctp_link.proofs.sender.Fragmented.{all-wait}
use Rattle.sctp_link.proofs.upkeep.ChangedStreams.{fields-same, each-changed}
use Rattle.sctp_link.proofs.upkeep.StreamPlaces.{placed, only-found, apart-changed}
use Rattle.sctp_link.proofs.upkeep.Apart.{stream-found, number-found}

-- ## Numbers

number-next : (c : Bool) (b : ℕ) (bs : List ℕ) (seq ordered : ℕ) → seq ≡ ordered % 2 ^ 16
    → (if c && nat_lt 0 (length (b ∷ bs)) then (seq + 1) % 2 ^ 16 else seq) ≡ (if c then ordered + 1 else ordered) % 2 ^ 16
number-next true b bs seq ordered e =
    let some : nat_lt 0 (length (b ∷ bs)) ≡ true = grind (arith, nat_tests) in
    ap (λ t. if t then (seq + 1) % 2 ^ 16 else seq) some ∙ omega (arith, e)
number-next false b bs seq ordered e = e

sent-both : (o : Option ℕ) (a b : DataChannelStats) → both_ways (with_sent o a) b ≡ with_sent o (both_ways a b)
sent-both None a b = refl
sent-both (Some n) a b = refl

stats-next : (ppi : PayloadProtocolIdentifier) (len : ℕ) (w : LinkRecord) (t : ℕ)
    → with_sent (counted_as ppi len) (stats_of (counters_on w t)) ≡ stats_of (sent_more (counted_as ppi len) (counters_on w t))
stats-next Dcep len w t = refl
stats-next String len w t = refl
stats-next Binary len w t = refl
stats-next StringEmpty len w t = refl
stats-next BinaryEmpty len w t = refl
stats-next Unknown len w t = refl

-- ## The event

module _ {sum : List ℕ → ℕ} {x : State} (l : IsLinked sum x) (s : ℕ) (ppi : PayloadProtocolIdentifier) (b : ℕ) (bs : List ℕ)
    (ok : refusal_of x.recorded (E.Write s ppi (b ∷ bs)) ≡ None) (streams : x.recorded.streams ≡ map stream_record x.open_streams) where
  abbrev w : LinkRecord
  w = x.recorded

  abbrev bytes : List ℕ
  bytes = b ∷ bs

  abbrev v : LinkRecord
  v = after_write x.recorded s ppi (b ∷ bs)

  f : Facts x.recorded
  f = facts l

  consistent-new : Consistent x.recorded.setup v
  consistent-new = consistent-after x.recorded.setup x.recorded (E.Write s ppi bytes) ok f.consistent

  pub few : in_all w (written_bytes w) + length bytes < 2 ^ 47
  few = omega (arith, written-few x.recorded.setup v l.setup consistent-new, written-wrote w s ppi bytes)

  module _ (m : OpenStream) (here : find (has_number s) x.open_streams ≡ Some m) where
    i : IsOpenStream w m
    i = let p = placed s x.open_streams m here in subst (IsOpenStream w) (p.1.1 m) (l.open_streams p.0 m p.1.0)

    own : m.state.stream_identifier ≡ s
    own = number-found s x.open_streams m here

    stream-is : stream_of w s ≡ stream_record m
    stream-is =
        ap (λ rs. unwrap_or (find (λ r. r.stream == s) rs) (no_stream s)) streams ∙ ap (λ o. unwrap_or o (no_stream s)) (stream-found s x.open_streams)
        ∙ ap (λ o. unwrap_or (option_map stream_record o) (no_stream s)) here

    abbrev msg : W.Message
    msg = message_on w (stream_of w s) ppi bytes

    -- what is kept of it
    abbrev pub kept : Message
    kept = message_written s (written_of m ppi) ppi bytes

    message-is : message_record kept ≡ msg
    message-is =
        ap (λ t. message_record (message_written t (written_of m ppi) ppi bytes)) (sym own)
        ∙ ap (λ k. record (message_on w (stream_record m) ppi bytes) { before = k }) i.ordered ∙ ap (λ r. message_on w r ppi bytes) (sym stream-is)

    pub messages-wrote : (ms more : List Message) → w.messages ≡ map message_record ms → more ≡ ms ++ kept ∷ [] → map message_record more ≡ v.messages
    messages-wrote ms more em e =
        ap (map message_record) e ∙ map-append message_record ms (kept ∷ []) ∙ ap (λ a. a ++ message_record kept ∷ []) (sym em)
        ∙ ap (λ a. w.messages ++ a ∷ []) message-is

    -- ## The streams

    before-wrote : (t : ℕ)
        → ordered_before v t (length v.messages) ≡ ordered_before w t (length w.messages) + (if (s == t) && is_ordered m.state.unordered ppi then 1 else 0)
    before-wrote t =
        InLine.before-more w msg t refl
        ∙ ap (λ r. ordered_before w t (length w.messages) + (if (r.stream == t) && is_ordered r.unordered ppi then 1 else 0)) stream-is
        ∙ ap (λ k. ordered_before w t (length w.messages) + (if (k == t) && is_ordered m.state.unordered ppi then 1 else 0)) own

    next-same : (t : ℕ) → next_of v t ≡ next_of w t
    next-same t = next-kept (told l) (E.Write s ppi bytes) ok tt t

    other : (t : OpenStream) → (t.state.stream_identifier ≡ s → ⊥) → IsOpenStream w t → IsOpenStream v t
    other t ne j =
        let n = t.state.stream_identifier in
        let off : (n == s) ≡ false = fails (n == s) (λ e. ne (same-is n s e)) in
        let off' : (s == n) ≡ false = fails (s == n) (λ e. ne (sym (same-is s n e))) in
        stream-same t (record {
          setup = refl;
          held = held-quiet (told l) (E.Write s ppi bytes) ok (Moves.quiet-written w.setup w s ppi bytes f.consistent) n;
          ordered = before-wrote n ∙ ap (λ c. ordered_before w n (length w.messages) + (if c && is_ordered m.state.unordered ppi then 1 else 0)) off'
              ∙ plus-none (ordered_before w n (length w.messages));
          next = next-same n;
          amount = amount-wrote w.setup w s n ppi bytes l.setup f.consistent ok ∙ ap (λ c. amount w n + (if c then length bytes else 0)) off
              ∙ plus-none (amount w n);
          counters = counters-wrote w s n ppi bytes ok
              ∙ ap (λ c. if c && not (length bytes == 0) then sent_more (counted_as ppi (length bytes)) (counters_on w n) else counters_on w n) off;
        }) (begun-kept (told l) (E.Write s ppi bytes) ok tt n) j
      where
        plus-none : (a : ℕ) → a + 0 ≡ a
        plus-none a = omega arith

    some : not (length bytes == 0) ≡ true
    some = grind (arith, nat_tests)

    written-stream : IsOpenStream v (wrote_to ppi bytes m)
    written-stream =
        let n = m.state.stream_identifier in
        let on : (s == n) ≡ true = ap (λ k. s == k) own ∙ same-yes s in
        let on' : (n == s) ≡ true = ap (λ k. k == s) own ∙ same-yes s in
        let grown : amount v n ≡ amount w n + length bytes = amount-wrote w.setup w s n ppi bytes l.setup f.consistent ok
        ∙ ap (λ c. amount w n + (if c then length bytes else 0)) on' in
        let short = amount-few n l in
        record {
          held = i.held ∙ sym (held-quiet (told l) (E.Write s ppi bytes) ok (Moves.quiet-written w.setup w s ppi bytes f.consistent) n);
          si = i.si;
          largest = i.largest;
          size = i.size;
          ordered = adds (is_ordered m.state.unordered ppi) m.ordered (ordered_before w n (length w.messages)) i.ordered
              ∙ sym (before-wrote n ∙ ap (λ c. ordered_before w n (length w.messages) + (if c && is_ordered m.state.unordered ppi then 1 else 0)) on);
          number = number-next (is_ordered m.state.unordered ppi) b bs m.state.sequence_number m.ordered i.number;
          begun = i.begun ∙ sym (begun-kept (told l) (E.Write s ppi bytes) ok tt n);
          next = i.next ∙ sym (next-same n);
          amount = omega (arith, i.amount, grown, short, few);
          stats = sent-both (counted_as ppi (length bytes)) m.state.stats m.inbound.stats ∙ ap (with_sent (counted_as ppi (length bytes))) i.stats
              ∙ stats-next ppi (length bytes) w n ∙ sym (ap stats_of (counters-wrote w s n ppi bytes ok
              ∙ ap (λ c. if c && not (length bytes == 0) then sent_more (counted_as ppi (length bytes)) (counters_on w n) else counters_on w n) on'
              ∙ ap (λ c. if c then sent_more (counted_as ppi (length bytes)) (counters_on w n) else counters_on w n) some));
        }
      where
        adds : (c : Bool) (a e : ℕ) → a ≡ e → (if c then a + 1 else a) ≡ e + (if true && c then 1 else 0)
        adds true a e z = ap (λ k. k + 1) z
        adds false a e z = omega (arith, z)

    -- the streams then
    abbrev pub streams_then : List OpenStream
    streams_then = change_where (has_number s) (wrote_to ppi bytes) x.open_streams

    pub streams-wrote : map stream_record streams_then ≡ w.streams
    streams-wrote = fields-same stream_record (wrote_to ppi bytes) (λ t. refl) s x.open_streams ∙ sym streams

    -- ## The queue

    abbrev frags : List ChunkPayloadData
    frags = fragments_with_mode m.state ppi bytes

    outbound-wrote : {q : Outbound} → RefinesOutbound w q → RefinesOutbound v (with_message frags q)
    outbound-wrote {q} t =
        let mode : ChunkPayloadData → ChunkPayloadData = with_reliability m.state.reliability_type m.state.reliability_value in
        let known = f.consistent.sender.made in
        let r = stream_of w s in
        let waits = all-wait w m.state r ppi bytes (ap (λ (r : StreamRecord). r.stream) stream-is) (ap (λ (r : StreamRecord). r.unordered) stream-is)
        (ap (λ (r : StreamRecord). r.reliability) stream-is) (ap (λ (r : StreamRecord). r.value) stream-is) i.size
        (i.number ∙ ap (λ k. k % 2 ^ 16) (i.ordered ∙ ap (λ (r : StreamRecord). ordered_before w r.stream (length w.messages)) (sym stream-is))) known in
        Written.refines-written w msg known q (mode (stream.fragment_at m.state ppi bytes 0)) (map mode (map (stream.fragment_at m.state ppi bytes)
        (numbers_from 1 (length (pieces (length bs) m.state.max_payload_size (drop m.state.max_payload_size bytes)))))) refl refl refl
        (ap not (ap (λ (r : StreamRecord). is_ordered r.unordered ppi) (sym stream-is))) waits t

    -- ## The counts

    sents-wrote : (progress : List (ℕ × ℕ)) → length x.progress ≡ length w.messages → progress ≡ x.progress ++ (0, 0) ∷ [] → (k : ℕ) → k < length v.messages
        → (slice_index_or progress k (0, 0)).0 ≡ sent_of v k
    sents-wrote progress count e k less =
        ap (λ (a : List (ℕ × ℕ)). (slice_index_or a k (0, 0)).0) e ∙ ap (λ (p : ℕ × ℕ). p.0) (progress-more x.progress k)
        ∙ by_last {P = (slice_index_or x.progress k (0, 0)).0 ≡ sent_of v k} k (length w.messages) (omega (arith, less, length-append w.messages (msg ∷ [])))
        (λ old. l.sents k old ∙ sym (sent-kept k))
        (λ z. ap (λ j. (slice_index_or x.progress j (0, 0)).0) (z ∙ sym count) ∙ ap (λ (p : ℕ × ℕ). p.0) (past-last x.progress)
        ∙ sym (ap (sent_of v) z ∙ Written.unsent w msg f.consistent.sender.made))
      where
        sent-kept : (k : ℕ) → sent_of v k ≡ sent_of w k
        sent-kept k = refl

        past-last : (ps : List (ℕ × ℕ)) → slice_index_or ps (length ps) (0, 0) ≡ (0, 0)
        past-last [] = refl
        past-last (p ∷ ps) = past-last ps

    fragments-wrote : fragments_accepted v ≡ fragments_accepted w + fragments_in w bytes
    fragments-wrote = sum-written w msg (λ m. true) (λ m. length (pieces (length m.bytes) w.setup.size m.bytes))

    indexes-wrote : (progress : List (ℕ × ℕ)) → progress ≡ x.progress ++ (0, 0) ∷ [] → Indexed (shape v) (index_kept progress)
    indexes-wrote progress e =
        let i = indexed-kept l (E.Write s ppi bytes) ok tt in
        let same : (k : ℕ)
        → index_kept progress k ≡ index_kept x.progress k = λ k. ap (λ a. index_kept a k) e ∙ ap (λ (p : ℕ × ℕ). p.1) (progress-more x.progress k) in
        record { is = λ k pos o. same k ∙ i.is k pos o; low = λ k. omega (arith, same k, i.low k) }

    pub linked-write : (progress : List (ℕ × ℕ)) (fragments written count : ℕ) → length x.progress ≡ length w.messages → progress ≡ x.progress ++ (0, 0) ∷ []
        → fragments ≡ x.fragments + count → count ≡ fragments_in w bytes → written ≡ x.written + length bytes → IsLinked sum (record x
        { recorded = v; open_streams = streams_then; progress = progress; outbound = with_message frags x.outbound; fragments = fragments; written = written })
    linked-write progress fragments written count each es ef ec ew = record {
      setup = l.setup;
      history = (E.Write s ppi bytes, reply_to w (E.Write s ppi bytes)) ∷ l.history;
      stands = stands-then (E.Write s ppi bytes) ok l.stands;
      outbound = outbound-wrote l.outbound;
      unstarted = l.unstarted;
      filter = l.filter;
      next = l.next;
      acked = l.acked;
      fragments = omega (arith, ef, ec, l.fragments, fragments-wrote);
      written = omega (arith, ew, l.written, written-wrote w s ppi bytes);
      sents = sents-wrote progress each es;
      indexes = (indexes-wrote progress es).is;
      low = (indexes-wrote progress es).low;
      open_streams = each-changed (IsOpenStream v) (wrote_to ppi bytes) s x.open_streams
          (λ k d lt e. subst (λ t. IsOpenStream v (wrote_to ppi bytes t)) (sym (alone k d lt e)) written-stream)
          (λ k d lt ne. other (slice_index_or x.open_streams k d) ne (l.open_streams k d lt));
      apart = apart-changed s (wrote_to ppi bytes) x.open_streams (λ t. refl) l.apart;
      encodings = encodings-same l (E.Write s ppi bytes) ok refl;
    }
      where
        alone : (k : ℕ) (d : OpenStream) → k < length x.open_streams → (slice_index_or x.open_streams k d).state.stream_identifier ≡ s
            → slice_index_or x.open_streams k d ≡ m
        alone k d lt e = only-found s x.open_streams m l.apart here k d lt e
