-- Between two fragments of a Send: what the sender's side of a link holds is what the record says then.
use Rattle.sctp_link.proofs.Names.{◌≡◌, ℕ, zero, suc, ◌+◌, ◌<◌, ◌≤◌, ◌^◌, Bool, true, false, List, [], ◌∷◌, ◌++◌, length, map, get_or, Option, Some, None}
use Rattle.sctp_link.proofs.Names.{refl, ap, sym, ◌∙◌, arith, length-append, ◌==◌, ◌&&◌, if◌then◌else◌, find, is_some, slice_index_or, slice_set, subst}
use Rattle.sctp_link.proofs.Names.{map-append, change_at, length-mapped, length-kept-le, changed-same, changed-other, not_both, by_same, same-yes, some-same}
use Rattle.sctp_link.proofs.Names.{ChunkPayloadData, next_pending, Outbound, all_started, sent_peeked, sent_next, LinkRecord, front, message_at, no_message}
use Rattle.sctp_link.proofs.Names.{tsn_of, after_start, start_lifetime, with_slot, send_fragment, send_fragment_of, shape, slotted, front-takes, sent-slotted}
use Rattle.sctp_link.proofs.Names.{waiting_at, RefinesOutbound, begun_on, is_begun_on, Indexed, indexed-taken, after_fragments, after-next, next-tsn, shown}
use Rattle.sctp_link.proofs.Names.{all-begun, refines-fragment, going-started, refines-started, OutboundStream, InboundStream, OpenStream, join_each, has_number}
use Rattle.sctp_link.proofs.Names.{stream_numbers, Message, State, IsLinked, start_from, fragment_slot, begins, begun_of, with_fragment, message_record}
use Rattle.sctp_link.proofs.Names.{progress_of, slot_record, stream_record, Outgoing, CanSend, Leaves, Leave, map-set_same, following_tsn, get_or-map}
use Rattle.sctp_link.proofs.Names.{messages-few, map-set, none-start, next-unstarted, one-more-fits}
use Rattle.sctp_model.proofs.refinement.sending.KindsRun.{Going, going-takes}
use Rattle.sctp_model.specs.LinkRecord as W
use Rattle.sctp_model.specs.Messages as M
use Rattle.sctp_model.proofs.sender.Shape.{sent as sent_by}
use Rattle.sctp_model.proofs.sender.Shapes
use Rattle.sctp_model.proofs.sender.Few
use Rattle.sctp_model.proofs.sender.SenderSteps.{Takes}
use Rattle.sctp_model.proofs.refinement.sending.Begun
use Rattle.sctp_link.proofs.upkeep.Apart.{number-found}
use Rattle.sctp_link.proofs.upkeep.Facts.{facts}
use Rattle.sctp_link.proofs.upkeep.Lookups.{none-open}
use Rattle.sctp_link.proofs.sides.Joined.{Alike}
use Rattle.sctp_link.proofs.sender.Beginning.{index_kept, begun_with, indexed-of, begun_in, begun-joined, begun-streams, begun-alike, plus_begun}
use Rattle.sctp_link.proofs.sender.Beginning.{numbers-begun, records-begun, length-begun, begun-at, found-one}
use Rattle.sctp_link.proofs.sender.Starting.{starts-records, start-progress}

-- a message with one fragment more sent, which takes this index where it is begun
abbrev pub took : Bool → ℕ → ℕ × ℕ → ℕ × ℕ
took go i p = (p.0 + 1, if go then i else p.1)

-- a stream that has begun so many messages
abbrev pub counted : ℕ → OpenStream → OpenStream
counted n l = record l { begun = n }

-- the sender's side of a link x, once lifetimes have started and the slots of v are given out
pub record Between (states : List OutboundStream) (inbounds : List InboundStream) (x : State) (now : ℕ) (v : LinkRecord) (s : Outgoing) : Type 0 where
  pub alike : Alike states inbounds s.progress
  pub going : Going x.recorded.setup v
  pub only : v ≡ record (after_start x.recorded now) { slots = v.slots }
  pub taken : v.taken ≤ length v.slots
  pub outbound : RefinesOutbound v s.outbound
  pub begun : s.outbound.next_unstarted ≡ length x.recorded.messages
  pub messages : map message_record s.messages ≡ (after_start x.recorded now).messages
  pub sents : (k : ℕ) → k < length x.recorded.messages → (slice_index_or (map progress_of s.messages) k (0, 0)).0 ≡ M.sent_of v k
  pub indexed : Indexed (shape v) (index_kept (map progress_of s.messages))
  pub records : map stream_record (join_each states inbounds s.progress) ≡ x.recorded.streams
  pub numbers : stream_numbers (join_each states inbounds s.progress) ≡ stream_numbers x.open_streams
  pub streams : (k : ℕ) (d : OpenStream) → k < length (join_each states inbounds s.progress) → slice_index_or (join_each states inbounds s.progress) k d
      ≡ counted (begun_on v (slice_index_or x.open_streams k d).state.stream_identifier) (slice_index_or x.open_streams k d)
  pub slots : map slot_record s.slots ≡ v.slots
  pub next : s.next_tsn ≡ tsn_of v (length v.slots)

-- ## Before the first one

module _ (states : List OutboundStream) (inbounds : List InboundStream) {sum : List ℕ → ℕ} {x : State} (l : IsLinked sum x) (now : ℕ) (ms : List Message)
    (em : x.recorded.messages ≡ map message_record ms) (es : x.progress ≡ map progress_of ms) where
  pub between-none : (s : Outgoing) {q : Outbound} → RefinesOutbound x.recorded q → s.outbound ≡ all_started now q → s.messages ≡ start_from x.unstarted now ms
      → Alike states inbounds s.progress → (join_each states inbounds s.progress) ≡ x.open_streams → x.recorded.streams ≡ map stream_record x.open_streams
      → x.recorded.slots ≡ map slot_record s.slots → s.next_tsn ≡ x.next_tsn → Between states inbounds x now (after_start x.recorded now) s
  between-none s {q} t out is same streams rs ew next = record {
    alike = same;
    going = going-started x.recorded.setup x.recorded now (facts l).going;
    only = refl;
    taken = (facts l).taken;
    outbound = subst (RefinesOutbound (after_start x.recorded now)) (sym out) (refines-started x.recorded now q t);
    begun = ap (λ (r : Outbound). r.next_unstarted) out ∙ all-begun x.recorded now q t;
    messages = ap (map message_record) is ∙ starts-records l now ms em;
    sents = λ k lt. ap (λ (ps : List (ℕ × ℕ)). (slice_index_or ps k (0, 0)).0) progress ∙ l.sents k lt;
    indexed = subst (λ ps. Indexed (shape (after_start x.recorded now)) (index_kept ps)) (sym progress)
        (subst (λ y. Indexed y (index_kept x.progress)) (sym (Shapes.shape-started x.recorded now)) (indexed-of l));
    records = ap (map stream_record) streams ∙ sym rs;
    numbers = ap stream_numbers streams;
    streams = λ k d lt. ap (λ ls. slice_index_or ls k d) streams
        ∙ ap (λ n. counted n (slice_index_or x.open_streams k d)) ((l.open_streams k d (omega (arith, lt, ap length streams))).begun
        ∙ sym (ap (λ y. Begun.begun y (slice_index_or x.open_streams k d).state.stream_identifier) (Shapes.shape-started x.recorded now)));
    slots = sym ew;
    next = next ∙ l.next;
  }
    where
      progress : map progress_of s.messages ≡ x.progress
      progress = ap (map progress_of) is ∙ start-progress now x.unstarted ms ∙ sym es

-- ## One more

module _ (states : List OutboundStream) (inbounds : List InboundStream) (x : State) (now : ℕ) (v : LinkRecord) (s : Outgoing)
    (b : Between states inbounds x now v s) where
  few : length v.slots < 2 ^ 31
  few = Few.few x.recorded.setup v b.going.consistent

  count-same : length v.messages ≡ length x.recorded.messages
  count-same = ap (λ (z : LinkRecord). length z.messages) b.only ∙ length-mapped (start_lifetime now) x.recorded.messages

  count-kept : length s.messages ≡ length x.recorded.messages
  count-kept = sym (length-mapped message_record s.messages) ∙ ap length b.messages ∙ length-mapped (start_lifetime now) x.recorded.messages

  sent-few : (n : ℕ) → M.sent_of v n < 2 ^ 31
  sent-few n = omega (arith, few, length-kept-le (M.has_fragment v n) 0 (length v.slots))

  -- what a message keeps of the record
  module _ (n : ℕ) (made : n < length x.recorded.messages) (m : Message) (at : m ≡ get_or s.messages n m) where
    within : n < length s.messages
    within = omega (arith, made, count-kept)

    pub sent-is : m.sent ≡ M.sent_of v n
    sent-is = ap (λ (m : Message). m.sent) at ∙ sym (ap (λ (p : ℕ × ℕ). p.0) (get_or-map progress_of s.messages n m (0, 0) within)) ∙ b.sents n made

    record-is : message_record m ≡ message_at v n
    record-is = ap message_record at ∙ sym (get_or-map message_record s.messages n m no_message within)
        ∙ ap (λ l. get_or l n no_message) (b.messages ∙ sym (ap (λ (z : LinkRecord). z.messages) b.only))

    kind-is : m.ordered ≡ (message_at v n).ordered
    kind-is = ap (λ m. m.ordered) record-is

    stream-is : m.stream ≡ (message_at v n).stream
    stream-is = ap (λ m. m.stream) record-is

    begins-is : begins m ≡ ((message_at v n).ordered && (M.sent_of v n == 0))
    begins-is = ap (λ b. b && (m.sent == 0)) kind-is ∙ ap (λ k. (message_at v n).ordered && (k == 0)) sent-is

  -- the count of a stream that is found
  found-begun : (t : ℕ) (y : OpenStream) → find (has_number t) (join_each states inbounds s.progress) ≡ Some y → y.begun ≡ begun_on v y.state.stream_identifier
  found-begun t y e = found-one (λ y. y.begun ≡ begun_on v y.state.stream_identifier) t (join_each states inbounds s.progress) each y e
    where
      each : (k : ℕ) (d : OpenStream) → k < length (join_each states inbounds s.progress) → (slice_index_or (join_each states inbounds s.progress) k d).begun
          ≡ begun_on v (slice_index_or (join_each states inbounds s.progress) k d).state.stream_identifier
      each k d lt = let is = b.streams k d lt in ap (λ (y : OpenStream). y.begun) is ∙ ap (λ (y : OpenStream). begun_on v y.state.stream_identifier) (sym is)

  begun-low : (t : ℕ) → begun_of t s.progress + 1 < 2 ^ 64
  begun-low t = subst (λ n. n + 1 < 2 ^ 64) (sym (begun-joined states inbounds s.progress b.alike t))
      (by (find (has_number t) (join_each states inbounds s.progress)) refl)
    where
      by : (o : Option OpenStream) → find (has_number t) (join_each states inbounds s.progress) ≡ o → begun_in o + 1 < 2 ^ 64
      by None e = omega arith
      by (Some y) e = omega (
        arith,
        found-begun t y e,
        length-kept-le (is_begun_on v y.state.stream_identifier) 0 (length v.messages),
        messages-few x.recorded.setup v b.going.consistent,
      )

  -- ## It can leave

  module _ (n : ℕ) (fr : front v ≡ Some n) where
    takes : Takes (shape v) n
    takes = front-takes (shape v) n b.going.consistent.sender fr

    made-of : n < length x.recorded.messages
    made-of = let t = takes.made in omega (arith, t, count-same)

    next-shown : next_pending s.outbound.pending ≡ Some (waiting_at v n (M.sent_of v n))
    next-shown = shown x.recorded.setup v n s.outbound b.going fr b.outbound

    pub can-send : CanSend s
    can-send = record {
      chunk = waiting_at v n (M.sent_of v n);
      shown = next-shown;
      made = omega (arith, made-of, count-kept);
      fits = λ m at. omega (arith, sent-is n made-of m at, sent-few n);
      few = λ m at. begun-low m.stream;
      room =
          let then' : Going x.recorded.setup (with_slot v n false) =
          subst (λ o. Going x.recorded.setup (send_fragment_of v o)) fr (going-takes x.recorded.setup v b.going) in
          one-more-fits x.recorded.setup v (with_slot v n false) s.outbound then' (length-append v.slots _) b.outbound;
    }

    -- ## It leaves

    module _ (t : Outgoing) (f : Leaves now s t) where
      abbrev c : ChunkPayloadData
      c = f.chunk

      abbrev m : Message
      m = f.message

      own : f.chunk.message_id ≡ n
      own = ap (λ (d : ChunkPayloadData). d.message_id) (some-same (sym f.shown ∙ next-shown))

      at : f.message ≡ get_or s.messages n f.message
      at = f.is ∙ ap (λ k. get_or s.messages k f.message) own

      abbrev z : LinkRecord
      z = with_slot v n false

      abbrev go : Bool
      go = begins f.message

      abbrev i : ℕ
      i = begun_of f.message.stream s.progress

      abbrev new : W.Slot
      new = record { message = n; fragment = M.sent_of v n; is_terminal_chunk = false; arrived = false; acknowledged = false }

      progress : map progress_of t.messages ≡ change_at (took (begins f.message) (begun_of f.message.stream s.progress)) n (map progress_of s.messages)
      progress =
          ap (map progress_of) (f.messages ∙ ap (λ k. slice_set s.messages k (with_fragment s.progress f.message)) own)
          ∙ map-set progress_of (took (begins f.message) (begun_of f.message.stream s.progress)) s.messages n (with_fragment s.progress f.message) f.message
          (within n made-of f.message at) (ap (λ (m' : Message). took (begins f.message) (begun_of f.message.stream s.progress) (progress_of m')) at)

      long : length (map progress_of s.messages) ≡ length x.recorded.messages
      long = length-mapped progress_of s.messages ∙ count-kept

      shape-then : shape (with_slot v n false) ≡ slotted (shape v) n false
      shape-then = Shapes.shape-slot v n false

      sent-more : (k : ℕ) → M.sent_of (with_slot v n false) k ≡ M.sent_of v k + (if (n == k) && true then 1 else 0)
      sent-more k = ap (λ y. sent_by y k) shape-then ∙ sent-slotted (shape v) n k false

      sents-then : (k : ℕ) → k < length x.recorded.messages
          → (slice_index_or (change_at (took (begins f.message) (begun_of f.message.stream s.progress)) n (map progress_of s.messages)) k (0, 0)).0
          ≡ M.sent_of (with_slot v n false) k
      sents-then k lt =
          let g = took (begins f.message) (begun_of f.message.stream s.progress) in
          let ps = map progress_of s.messages in
          by_same {P = (slice_index_or (change_at g n ps) k (0, 0)).0 ≡ M.sent_of (with_slot v n false) k} n k
          (λ e. ap (λ j. (slice_index_or (change_at g n ps) j (0, 0)).0) (sym e) ∙ ap (λ p. p.0) (changed-same g n ps (0, 0) (omega (arith, made-of, long)))
          ∙ ap (λ c. c + 1) (b.sents n made-of)
          ∙ sym (ap (M.sent_of (with_slot v n false)) (sym e) ∙ sent-more n ∙ ap (λ b. M.sent_of v n + (if b && true then 1 else 0)) (same-yes n)))
          (λ ne no'. ap (λ p. p.0) (changed-other g n k ps (0, 0) (λ z. ne (sym z))) ∙ b.sents k lt ∙ plus-none (M.sent_of v k)
          ∙ sym (sent-more k ∙ ap (λ b. M.sent_of v k + (if b && true then 1 else 0)) no'))
        where
          plus-none : (a : ℕ) → a ≡ a + 0
          plus-none a = omega arith

      left-streams : join_each states inbounds t.progress ≡ begun_with (begins f.message) f.message.stream (join_each states inbounds s.progress)
      left-streams = ap (join_each states inbounds) f.progress ∙ begun-streams states inbounds s.progress b.alike f.message

      -- the stream of the message is open, and its count is the record's
      opened : M.is_open v f.message.stream ≡ true
      opened = ap (M.is_open v) (stream-is n made-of f.message at) ∙ b.going.consistent.known n takes.made

      begun-is : begun_of f.message.stream s.progress ≡ begun_on v f.message.stream
      begun-is = begun-joined states inbounds s.progress b.alike f.message.stream
          ∙ by (find (has_number f.message.stream) (join_each states inbounds s.progress)) refl
        where
          by : (o : Option OpenStream) → find (has_number f.message.stream) (join_each states inbounds s.progress) ≡ o
              → begun_in o ≡ begun_on v f.message.stream
          by None e = absurd (not_both (sym
              (none-open v f.message.stream (join_each states inbounds s.progress) (ap (λ (z : LinkRecord). z.streams) b.only ∙ sym b.records) e) ∙ opened))
          by (Some y) e = found-begun f.message.stream y e ∙ ap (begun_on v) (number-found f.message.stream (join_each states inbounds s.progress) y e)

      indexed-then : Indexed (shape (with_slot v n false))
          (index_kept (change_at (took (begins f.message) (begun_of f.message.stream s.progress)) n (map progress_of s.messages)))
      indexed-then =
          let g = took (begins f.message) (begun_of f.message.stream s.progress) in
          let ps = map progress_of s.messages in
          subst (λ y. Indexed y (index_kept (change_at g n ps))) (sym shape-then)
          (indexed-taken (shape v) n (index_kept ps) (index_kept (change_at g n ps)) b.going.consistent.sender takes
          (λ k ne. ap (λ p. p.1) (changed-other g n k ps (0, 0) ne))
          (ap (λ p. p.1) (changed-same g n ps (0, 0) (omega (arith, made-of, long)))
          ∙ ap (λ b. if b then begun_of f.message.stream s.progress else index_kept ps n) (begins-is n made-of f.message at)
          ∙ ap (λ j. if (message_at v n).ordered && (M.sent_of v n == 0) then j else index_kept ps n) (begun-is
          ∙ ap (begun_on v) (stream-is n made-of f.message at)))
          b.indexed)

      begun-then : (t' : ℕ) → begun_on (with_slot v n false) t' ≡ begun_on v t' + (if (f.message.stream == t') && begins f.message then 1 else 0)
      begun-then t' =
          ap (λ y. Begun.begun y t') shape-then ∙ Begun.begun-taken (shape v) n t' takes.made
          ∙ ap (λ b. begun_on v t' + (if ((message_at v n).stream == t') && b then 1 else 0)) (sym (begins-is n made-of f.message at))
          ∙ ap (λ j. begun_on v t' + (if (j == t') && begins f.message then 1 else 0)) (sym (stream-is n made-of f.message at))

      streams-then : (k : ℕ) (d : OpenStream) → k < length (join_each states inbounds t.progress) → slice_index_or (join_each states inbounds t.progress) k d
          ≡ counted (begun_on (with_slot v n false) (slice_index_or x.open_streams k d).state.stream_identifier) (slice_index_or x.open_streams k d)
      streams-then k d lt =
          let go = begins f.message in
          let from = f.message.stream in
          let y = slice_index_or x.open_streams k d in
          let inside : k < length (join_each states inbounds s.progress) =
          omega (arith, lt, ap length left-streams ∙ length-begun go from (join_each states inbounds s.progress)) in
          ap (λ ls. slice_index_or ls k d) left-streams ∙ begun-at go from (join_each states inbounds s.progress) k d inside
          ∙ ap (λ l. plus_begun (if (from == l.state.stream_identifier) && go then 1 else 0) l) (b.streams k d inside)
          ∙ ap (λ n. counted n y) (sym (begun-then y.state.stream_identifier))

      outbound-then : RefinesOutbound (with_slot v n false) t.outbound
      outbound-then =
          let all : s.outbound.next_unstarted ≡ length v.messages = b.begun ∙ sym count-same in
          let a : RefinesOutbound (send_fragment v) (sent_peeked s.outbound (tsn_of v (length v.slots)) now) =
          refines-fragment x.recorded.setup v n now s.outbound b.going fr b.taken all b.outbound in
          let q : sent_peeked s.outbound (tsn_of v (length v.slots)) now ≡ t.outbound = ap (λ r. sent_peeked r (tsn_of v (length v.slots)) now)
          (sym (none-start s.outbound now (all ∙ sym b.outbound.next))) ∙ ap (λ k. sent_next s.outbound k now) (sym b.next) ∙ sym f.outbound in
          subst (RefinesOutbound (with_slot v n false)) q
          (subst (λ o. RefinesOutbound (send_fragment_of v o) (sent_peeked s.outbound (tsn_of v (length v.slots)) now)) fr a)

      started-then : t.outbound.next_unstarted ≡ length x.recorded.messages
      started-then =
          ap (λ (r : Outbound). r.next_unstarted) f.outbound
          ∙ next-unstarted (all_started now s.outbound) s.next_tsn now (next_pending (all_started now s.outbound).pending)
          ∙ ap (λ (r : Outbound). r.next_unstarted) (none-start s.outbound now (b.begun ∙ sym count-same ∙ sym b.outbound.next)) ∙ b.begun

      slots-then : map slot_record t.slots ≡ (with_slot v n false).slots
      slots-then =
          ap (map slot_record) f.slots ∙ map-append slot_record s.slots (fragment_slot f.chunk.message_id f.message.sent ∷ [])
          ∙ ap (λ a. a ++ slot_record (fragment_slot f.chunk.message_id f.message.sent) ∷ []) b.slots
          ∙ ap (λ k. v.slots ++ slot_record (fragment_slot k f.message.sent) ∷ []) own
          ∙ ap (λ k. v.slots ++ slot_record (fragment_slot n k) ∷ []) (sent-is n made-of f.message at)

      pub between-one : Between states inbounds x now (with_slot v n false) t
      between-one = record {
        alike = subst (Alike states inbounds) (sym f.progress) (begun-alike states inbounds s.progress b.alike f.message);
        going = subst (λ o. Going x.recorded.setup (send_fragment_of v o)) fr (going-takes x.recorded.setup v b.going);
        only = ap (λ (u : LinkRecord). record u { slots = (with_slot v n false).slots }) b.only;
        taken = let le : (with_slot v n false).taken ≤ length v.slots = b.taken in omega (arith, le, length-append v.slots (new ∷ []));
        outbound = outbound-then;
        begun = started-then;
        messages =
            ap (map message_record) (f.messages ∙ ap (λ k. slice_set s.messages k (with_fragment s.progress f.message)) own)
            ∙ map-set_same message_record s.messages n (with_fragment s.progress f.message) f.message (ap message_record at) ∙ b.messages;
        sents = λ k lt. ap (λ (ps : List (ℕ × ℕ)). (slice_index_or ps k (0, 0)).0) progress ∙ sents-then k lt;
        indexed = subst (λ ps. Indexed (shape (with_slot v n false)) (index_kept ps)) (sym progress) indexed-then;
        records = ap (map stream_record) left-streams ∙ records-begun (begins f.message) f.message.stream (join_each states inbounds s.progress) ∙ b.records;
        numbers = ap stream_numbers left-streams ∙ numbers-begun (begins f.message) f.message.stream (join_each states inbounds s.progress) ∙ b.numbers;
        streams = streams-then;
        slots = slots-then;
        next = f.next_tsn ∙ ap following_tsn b.next ∙ next-tsn v n;
      }

-- where there is a next fragment, and it leaves
pub between-more : (states : List OutboundStream) (inbounds : List InboundStream) (x : State) (now : ℕ) (v : LinkRecord) (s t : Outgoing)
    → Between states inbounds x now v s → is_some (front v) ≡ true → Leaves now s t → Between states inbounds x now (send_fragment v) t
between-more states inbounds x now v s t b some f = by (front v) refl some
  where
    by : (o : Option ℕ) → front v ≡ o → is_some o ≡ true → Between states inbounds x now (send_fragment_of v o) t
    by None e h = cc
    by (Some n) e h = between-one states inbounds x now v s b n e t f

pub between-can : (states : List OutboundStream) (inbounds : List InboundStream) (x : State) (now : ℕ) (v : LinkRecord) (s : Outgoing)
    → Between states inbounds x now v s → is_some (front v) ≡ true → CanSend s
between-can states inbounds x now v s b some = by (front v) refl some
  where
    by : (o : Option ℕ) → front v ≡ o → is_some o ≡ true → CanSend s
    by None e h = cc
    by (Some n) e h = can-send states inbounds x now v s b n e

-- ## So many

pub between-after : (states : List OutboundStream) (inbounds : List InboundStream) (x : State) (now : ℕ) (u : LinkRecord) (s : Outgoing)
    → Between states inbounds x now u s → (count : ℕ) → ((i : ℕ) → i < count → is_some (front (after_fragments i u)) ≡ true) → (i : ℕ) → i ≤ count
    → (t : Outgoing) → Leave now i s t → Between states inbounds x now (after_fragments i u) t
between-after states inbounds x now u s b count some zero le t f = subst (Between states inbounds x now u) (sym f) b
between-after states inbounds x now u s b count some (suc i) le t f =
    subst (λ z. Between states inbounds x now z t) (sym (after-next i u))
    (between-more states inbounds x now (after_fragments i u) f.0 t (between-after states inbounds x now u s b count some i (omega (arith, le)) f.0 f.1.0)
    (some i (omega (arith, le))) f.1.1)

pub each-can : (states : List OutboundStream) (inbounds : List InboundStream) (x : State) (now : ℕ) (u : LinkRecord) (s : Outgoing)
    → Between states inbounds x now u s → (count : ℕ) → ((i : ℕ) → i < count → is_some (front (after_fragments i u)) ≡ true) → (i : ℕ) (t : Outgoing)
    → i < count → Leave now i s t → CanSend t
each-can states inbounds x now u s b count some i t lt f =
    between-can states inbounds x now (after_fragments i u) t (between-after states inbounds x now u s b count some i (omega (arith, lt)) t f) (some i lt)
