-- A SACK is taken: what a link keeps then is what the record says.
use Rattle.sctp_link.proofs.Names.{◌≡◌, ℕ, ◌+◌, ◌-◌, ◌<◌, ◌≤◌, ◌%◌, ◌^◌, Bool, true, false, List, [], ◌∷◌, length, get_or, map, Some, None, refl, ap, sym, ◌∙◌}
use Rattle.sctp_link.proofs.Names.{inl, inr, arith, if◌then◌else◌, ◌&&◌, ◌||◌, nat_le, nat_lt, max, slice_get, slice_index_or, list_any, list_all, filter}
use Rattle.sctp_link.proofs.Names.{subst, cases_lt, lt-ltb, le-ltb, le-leb, get_or-map, change_where, comes_before, length-mapped, length-numbered}
use Rattle.sctp_link.proofs.Names.{numbered-at, map-at, GapAckBlock, ChunkPayloadData, sack_chunk, ReadsPacket, as_acknowledged, is_in_blocks, past, Outbound}
use Rattle.sctp_link.proofs.Names.{with_inflight, InflightQueueTsnPop, TsnRequestNotExist, Flight, reports_anew, is_within, sack_refusal, take_sack}
use Rattle.sctp_link.proofs.Names.{after_sack, is_whole, released_of, released_by, bytes_of, LinkRecord, Report, slot_at, no_slot, message_at, message_of}
use Rattle.sctp_link.proofs.Names.{tsn_of, growth, is_expired_or_abandoned, slot_bytes, pending_bytes, contents_of, cumulative_tsn, after_acked}
use Rattle.sctp_link.proofs.Names.{acknowledged_by, StandsFor, refusal_of, reply_to, after, shape, sent, Sender, bytes_but_for, unacked_on, bytes_at}
use Rattle.sctp_link.proofs.Names.{acknowledged_at, acknowledged_then, IsInFlight, Indexed, OpenStream, after_releases, stream_numbers, Slot, Datagram}
use Rattle.sctp_link.proofs.Names.{slot_record, datagram_record, stream_record, State, IsLinked, IsOpenStream, IsApart, IsDatagram, block_of, packet_with}
use Rattle.sctp_link.proofs.Names.{Acks, IsMarking, amount_with, and_run, and_blocks, in_block, fragment_slot, list_any_at, and, or-right, ext_get_or}
use Rattle.sctp_link.proofs.Names.{new_open_stream, stands-then, says-still, count-made, piece-short, between, up-to-date, all-from, chunk-on, bytes-unacked}
use Rattle.sctp_link.proofs.Names.{taken-acknowledged, then-below, Reported, reported-run, distance, flying}
use Rattle.sctp_data.specs.SelectiveAck
use Rattle.sctp_model.specs.declared.event.Event.TheVariants as E
use Rattle.sctp_model.specs.LinkRecord.{Sack}
use Rattle.sctp_model.specs.Amounts.{on_stream}
use Rattle.sctp_model.proofs.sender.Shapes
use Rattle.sctp_model.proofs.refinement.acknowledging.Acked.{in-flight-first, in-flight-same, refines-taken}
use Rattle.sctp_model.proofs.refinement.acknowledging.Unacked.{amount-is, amount-acked, growth-acked}
use Rattle.sctp_model.proofs.refinement.sending.Begun
use Rattle.sctp_link.proofs.upkeep.Facts.{facts, over}
use Rattle.sctp_link.proofs.acknowledgement.AckLoops.{marking-same}
use Rattle.sctp_link.proofs.acknowledgement.FlightAcked.{answered, covered-at, marked-all, front-leaves}
use Rattle.sctp_link.proofs.acknowledgement.StreamsLess.{with_amount, released_on, chunks_on, length-released, released-at, answered-on, on-unacked}
use Rattle.sctp_link.proofs.sender.Beginning.{index_kept, indexed-of}
use Rattle.sctp_model.proofs.refinement.acknowledging.SackFrames.{reassembly-taken, filter-taken}
use Rattle.sctp_link.proofs.upkeep.Observed.{encoded}

-- ## The SACK that is there

-- what it says
abbrev pub wire_sack : LinkRecord → Report → SelectiveAck.Sack
wire_sack w r = record {
  cumulative_tsn_ack = cumulative_tsn w r.cumulative;
  advertised_receiver_window_credit = r.credit;
  gap_ack_blocks = map block_of r.blocks;
  duplicate_tsn = map (tsn_of w) r.duplicates;
}

-- and its bytes read so
pub reads-sack : {sum : List ℕ → ℕ} {x : State} (ds : List Datagram) (k : ℕ) (d : Datagram) (r : Report) → IsLinked sum x
    → x.recorded.network ≡ map datagram_record ds → x.datagrams ≡ map (λ d. d.bytes) ds → d ≡ slice_index_or ds k d
    → slice_get x.recorded.network k ≡ Some (Sack r) → ReadsPacket sum d.bytes (packet_with (sack_chunk (wire_sack x.recorded r) ∷ []))
reads-sack ds k d r l network bytes is there = (encoded ds k d (Sack r) l network bytes there is).reads

-- the count that a cumulative TSN tells
pub count-is : (first count t : ℕ) → first < 2 ^ 32 → count < 2 ^ 31 → t ≡ (first + (2 ^ 32 - 1) + count) % 2 ^ 32
    → ((t + (2 ^ 32 - first)) % 2 ^ 32 + 1) % 2 ^ 32 ≡ count
count-is first count t fits short e = omega (arith, fits, short, e)

pub reported : {sum : List ℕ → ℕ} {x : State} (l : IsLinked sum x) → Reported x.recorded
reported {x} l = over Reported l (reported-run x.recorded.setup l.history l.setup l.stands.run)

any-mapped : (cumulative k : ℕ) (bs : List (ℕ × ℕ))
    → list_any (in_block cumulative k) (map block_of bs) ≡ list_any (λ b. nat_le (cumulative + b.0) (k + 1) && nat_le (k + 1) (cumulative + b.1)) bs
any-mapped cumulative k [] = refl
any-mapped cumulative k (b ∷ bs) = ap (λ t. (nat_le (cumulative + b.0) (k + 1) && nat_le (k + 1) (cumulative + b.1)) || t) (any-mapped cumulative k bs)

-- what gap blocks report is there
pub blocks-made : (w : LinkRecord) (k : ℕ) (r : Report) → Reported w → slice_get w.network k ≡ Some (Sack r) → (p : ℕ)
    → list_any (in_block r.cumulative p) (map block_of r.blocks) ≡ true → p < length w.slots
blocks-made w k r made there p e = made k r there p (or-right (nat_lt p r.cumulative) _ (sym (any-mapped r.cumulative p r.blocks) ∙ e))

-- ## Before the first slot

bytes-short : (w : LinkRecord) (p : ℕ) → w.setup.size ≤ 65519 → bytes_at w p < 2 ^ 31
bytes-short w p le = part (slot_at w p).is_terminal_chunk (is_expired_or_abandoned w (message_of w p))
    (piece-short (length (message_at w (message_of w p)).bytes) w.setup.size (message_at w (message_of w p)).bytes (slot_at w p).fragment)
  where
    part : (a b : Bool) → slot_bytes w (message_of w p) p ≤ w.setup.size → (if a || b then 0 else slot_bytes w (message_of w p) p) < 2 ^ 31
    part true b short = omega arith
    part false true short = omega arith
    part false false short = omega (arith, short, le)

pub acks : {sum : List ℕ → ℕ} {x : State} (l : IsLinked sum x) → Acks x.recorded.setup.first x.recorded
acks {x} l =
    let f = facts l in
    record {
      first_is = refl;
      in_range = l.setup.first;
      few = f.few;
      taken = f.taken;
      short = λ p lt. bytes-short x.recorded p l.setup.size;
      shares = λ p t b c lt says. chunk-on x.recorded b p t c f.consistent.sender lt says;
    }

pub marking-first : {sum : List ℕ → ℕ} {x : State} (xs : List Slot) → IsLinked sum x → x.recorded.slots ≡ map slot_record xs
    → IsMarking x.recorded (acknowledged_at x.recorded) xs
marking-first xs l slots = record {
  count = sym (ap length slots ∙ length-mapped slot_record xs);
  slots = λ k d lt. sym (ap (λ ys. slice_index_or ys k no_slot) slots ∙ get_or-map slot_record xs k d no_slot lt);
}

-- ## After the last

-- the slots are those of the record
pub slots-then : {w : LinkRecord} (r : Report) {xs : List Slot} → IsMarking w (acknowledged_then w r) xs
    → map slot_record xs ≡ (after_acked w (Some (Sack r))).slots
slots-then {w} r {xs} i =
    ext_get_or no_slot (map slot_record xs)
    (after_acked w (Some (Sack r))).slots (length-mapped slot_record xs ∙ i.count ∙ sym (length-numbered (acknowledged_by r) 0 w.slots)) (λ k lt.
    let here : k < length xs = omega (arith, lt, length-mapped slot_record xs) in
    let made : k < length w.slots = omega (arith, here, i.count) in
    get_or-map slot_record xs k none no_slot here ∙ i.slots k none here ∙ ap (λ j. acknowledged_by r j (slot_at w k)) (let z : k ≡ 0 + k = omega arith in z)
    ∙ sym (numbered-at (acknowledged_by r) 0 k w.slots no_slot made))
  where
    none : Slot
    none = fragment_slot 0 0

-- each stream has the amount of its number
abbrev as_left : LinkRecord → Report → OpenStream → OpenStream
as_left w r l = with_amount (amount_with w (acknowledged_then w r) l.state.stream_identifier) l

streams-then : (w : LinkRecord) (r : Report) (first now : List OpenStream) → length now ≡ length first
    → ((k : ℕ) (d : OpenStream) → k < length first → slice_index_or now k d ≡ as_left w r (slice_index_or first k d)) → now ≡ map (as_left w r) first
streams-then w r first now count each = ext_get_or (new_open_stream 0 0 0) now (map (as_left w r) first) (count ∙ sym (length-mapped (as_left w r) first))
    (λ k lt. each k _ (omega (arith, lt, count)) ∙ sym (map-at (as_left w r) k first _ (omega (arith, lt, count))))

numbers-left : (w : LinkRecord) (r : Report) (ls : List OpenStream) → stream_numbers (map (as_left w r) ls) ≡ stream_numbers ls
numbers-left w r [] = refl
numbers-left w r (l ∷ ls) = ap (λ ks. l.state.stream_identifier ∷ ks) (numbers-left w r ls)

-- ## What a link keeps

stream-left : (w : LinkRecord) (r : Report) (l : OpenStream) → Sender (shape w) → IsOpenStream w l
    → IsOpenStream (after_acked w (Some (Sack r))) (as_left w r l)
stream-left w r l sender i = record {
  held = i.held ∙ sym (reassembly-taken w r l.state.stream_identifier);
  si = i.si;
  largest = i.largest;
  size = i.size;
  ordered = i.ordered;
  number = i.number;
  begun = i.begun ∙ sym (ap (λ y. Begun.begun y l.state.stream_identifier) (Shapes.shape-acknowledged w r (max w.taken r.cumulative)));
  next = i.next;
  amount = sym (amount-acked w r l.state.stream_identifier sender);
  stats = i.stats;
}

abbrev taken_state : State → Report → List OpenStream → Outbound → ℕ → State
taken_state x r open_streams outbound acked =
    record x { recorded = after_acked x.recorded (Some (Sack r)); open_streams = open_streams; outbound = outbound; acked_tsn = acked }

linked-taken : {sum : List ℕ → ℕ} {x : State} (k : ℕ) (r : Report) (cs : List ChunkPayloadData) (acked : ℕ) (l : IsLinked sum x)
    → acked ≡ cumulative_tsn x.recorded (max x.recorded.taken r.cumulative) → refusal_of x.recorded (E.Acked k) ≡ None
    → slice_get x.recorded.network k ≡ Some (Sack r) → IsInFlight x.recorded (acknowledged_then x.recorded r) (max x.recorded.taken r.cumulative)
    (length x.recorded.slots - max x.recorded.taken r.cumulative) cs
    → IsLinked sum (taken_state x r (map (as_left x.recorded r) x.open_streams) (with_inflight x.outbound cs) acked)
linked-taken {sum} {x} k r cs acked l acked_is none there e =
    let f = facts l in
    record {
      setup = l.setup;
      history = (E.Acked k, reply_to x.recorded (E.Acked k)) ∷ l.history;
      stands = subst (λ o. StandsFor x.recorded.setup (after_acked x.recorded o) ((E.Acked k, reply_to x.recorded (E.Acked k)) ∷ l.history)) there
          (stands-then (E.Acked k) none l.stands);
      outbound = refines-taken x.recorded r x.outbound cs l.outbound e;
      unstarted = l.unstarted;
      filter = l.filter ∙ sym (filter-taken x.recorded r);
      next = l.next ∙ sym (ap (tsn_of x.recorded) (length-numbered (acknowledged_by r) 0 x.recorded.slots));
      acked = acked_is;
      fragments = l.fragments;
      written = l.written;
      sents = λ n lt. l.sents n lt ∙ sym (ap (λ y. sent y n) (Shapes.shape-acknowledged x.recorded r (max x.recorded.taken r.cumulative)));
      indexes =
          (subst (λ y. Indexed y (index_kept x.progress)) (sym (Shapes.shape-acknowledged x.recorded r (max x.recorded.taken r.cumulative))) (indexed-of l)).is;
      low = l.low;
      open_streams = λ j d lt. let here : j < length x.open_streams = omega (arith, lt, length-mapped (as_left x.recorded r) x.open_streams) in
          subst (IsOpenStream (after_acked x.recorded (Some (Sack r)))) (sym (map-at (as_left x.recorded r) j x.open_streams d here))
          (stream-left x.recorded r (slice_index_or x.open_streams j d) f.consistent.sender (l.open_streams j d here));
      apart = subst IsApart (sym (numbers-left x.recorded r x.open_streams)) l.apart;
      encodings = λ j d g there'.
          let says = says-still f (E.Acked k) none j g g there' (subst (λ o. slice_get (after_acked x.recorded o).network j ≡ Some g) (sym there) there') in
          subst (λ c. IsDatagram sum c (slice_index_or x.datagrams j d))
          (sym (subst (λ o. contents_of (after_acked x.recorded o) g ≡ contents_of x.recorded g) there says)) (l.encodings j d g there');
    }

streams-left : (w : LinkRecord) (r : Report) (ls : List OpenStream) → map stream_record (map (as_left w r) ls) ≡ map stream_record ls
streams-left w r [] = refl
streams-left w r (l ∷ ls) = ap (λ rs. stream_record l ∷ rs) (streams-left w r ls)

-- the record of what is kept
abbrev pub record_taken : LinkRecord → List OpenStream → List Slot → ℕ → LinkRecord
record_taken w open_streams slots take_sack = record w { streams = map stream_record open_streams; slots = map slot_record slots; taken = take_sack }

-- a SACK was taken: what is kept then, and the bytes that left
pub record Taken (sum : List ℕ → ℕ) (x : State) (k : ℕ) (now : List OpenStream) (xs : List Slot) (g : Flight) (top : ℕ) : Type 0 where
  pub linked : IsLinked sum
      (record x { recorded = record_taken x.recorded now xs top; open_streams = now; outbound = g.queue; next_tsn = g.next_tsn; acked_tsn = g.acked_tsn })
  pub moves : record_taken x.recorded now xs top ≡ after x.recorded (E.Acked k)
  pub bytes : bytes_of x.outbound.inflight.chunks - bytes_of g.queue.inflight.chunks ≡ growth x.recorded (after x.recorded (E.Acked k))

-- what is in flight, and up to where
abbrev pub flight_in : State → Flight
flight_in x = record { queue = x.outbound; next_tsn = x.next_tsn; acked_tsn = x.acked_tsn }

module _ {sum : List ℕ → ℕ} {x : State} (k : ℕ) (r : Report) (l : IsLinked sum x) (none : refusal_of x.recorded (E.Acked k) ≡ None)
    (there : slice_get x.recorded.network k ≡ Some (Sack r)) where
  below-first : (p : ℕ) → p < x.recorded.taken → acknowledged_at x.recorded p ≡ true
  below-first = over (λ w. (p : ℕ) → p < w.taken → acknowledged_at w p ≡ true) l (taken-acknowledged x.recorded.setup l.history l.setup l.stands.run)

  enough : r.cumulative ≤ length x.recorded.slots
  enough = count-made x.recorded k r (reported l) there

  -- ## The SACK, told from the last cumulative TSN

  module _ (s : SelectiveAck.Sack) (top : ℕ) (top_is : top ≡ max x.recorded.taken r.cumulative) (cum : s.cumulative_tsn_ack ≡ cumulative_tsn x.recorded top)
      (covers : (n : ℕ) → 0 < n → is_in_blocks s.gap_ack_blocks n ≡ is_in_blocks (map block_of r.blocks) (n + (top - r.cumulative)))
      (begin : (i : ℕ) (d : GapAckBlock) → i < length s.gap_ack_blocks → 0 < (slice_index_or s.gap_ack_blocks i d).start) where
    top-made : top ≤ length x.recorded.slots
    top-made = let t = (facts l).taken in omega (arith, top_is, t, enough)

    top-short : top < 2 ^ 31
    top-short = let f = (facts l).few in omega (arith, f, top-made)

    first-fits : x.recorded.setup.first < 2 ^ 32
    first-fits = l.setup.first

    -- beyond it both report the same
    beyond : (j : ℕ) → top ≤ j → list_any (in_block top j) s.gap_ack_blocks ≡ list_any (in_block r.cumulative j) (map block_of r.blocks)
    beyond j le =
        sym (covered-at top j s.gap_ack_blocks le) ∙ covers (j + 1 - top) (omega (arith, le))
        ∙ ap (is_in_blocks (map block_of r.blocks)) (let z : j + 1 - top + (top - r.cumulative) ≡ j + 1 - r.cumulative = omega (arith, le, top_is) in z)
        ∙ covered-at r.cumulative j (map block_of r.blocks) (omega (arith, le, top_is))

    answered-is : (j : ℕ) → (acknowledged_at x.recorded j || answered top s.gap_ack_blocks j) ≡ acknowledged_then x.recorded r j
    answered-is j = elim (cases_lt j x.recorded.taken) [
      | inl old ↦ known (acknowledged_at x.recorded j) _ _ (below-first j old)
      | inr new ↦ elim (cases_lt j top) [
        | inl low ↦
            let same : nat_lt j r.cumulative ≡ true = lt-ltb j r.cumulative (omega (arith, low, new, top_is)) in
            front (acknowledged_at x.recorded j) (nat_lt j top) (nat_lt j r.cumulative) _ _ (lt-ltb j top low) same
        | inr high ↦
            let same : nat_lt j r.cumulative ≡ false = le-ltb j r.cumulative (omega (arith, high, top_is)) in
            ap (λ b. acknowledged_at x.recorded j || (b || list_any (in_block top j) s.gap_ack_blocks)) (le-ltb j top high ∙ sym same)
            ∙ ap (λ b. acknowledged_at x.recorded j || (nat_lt j r.cumulative || b)) (beyond j high ∙ any-mapped r.cumulative j r.blocks)
      ]
    ]
      where
        known : (a b c : Bool) → a ≡ true → (a || b) ≡ (a || c)
        known a b c e = rw e refl

        front : (a b c d e : Bool) → b ≡ true → c ≡ true → (a || (b || d)) ≡ (a || (c || e))
        front a b c d e f g = rw (f, g) refl

    -- what both loops acknowledge
    loops-answered : (j : ℕ) → and_blocks (and_run (acknowledged_at x.recorded) x.recorded.taken top) top s.gap_ack_blocks j ≡ acknowledged_then x.recorded r j
    loops-answered j = by ∙ answered-is j
      where
        old : (a b c d : Bool) → a ≡ true → ((a || (b && c)) || d) ≡ (a || (c || d))
        old a b c d e = rw e refl

        new : (a b c d : Bool) → b ≡ true → ((a || (b && c)) || d) ≡ (a || (c || d))
        new true b c d e = refl
        new false true c d e = refl
        new false false c d e = cc

        by : and_blocks (and_run (acknowledged_at x.recorded) x.recorded.taken top) top s.gap_ack_blocks j
            ≡ (acknowledged_at x.recorded j || answered top s.gap_ack_blocks j)
        by = elim (cases_lt j x.recorded.taken) [
          | inl low ↦ old (acknowledged_at x.recorded j) (nat_le x.recorded.taken j) (nat_lt j top) _ (below-first j low)
          | inr high ↦ new (acknowledged_at x.recorded j) (nat_le x.recorded.taken j) (nat_lt j top) _ (le-leb x.recorded.taken j high)
        ]

    -- ## It reports only what was given out

    pub within-run : x.recorded.taken < top → top ≤ length x.recorded.slots
    within-run lt = top-made

    pub within-blocks : (j : ℕ) → list_any (in_block top j) s.gap_ack_blocks ≡ true → j < length x.recorded.slots
    within-blocks j any = elim (cases_lt j top) [
      | inl low ↦ omega (arith, low, top-made)
      | inr high ↦ blocks-made x.recorded k r (reported l) there j (sym (beyond j high) ∙ any)
    ]

    flying-count : length x.outbound.inflight.chunks ≡ length x.recorded.slots - x.recorded.taken
    flying-count = flying x.recorded x.outbound l.outbound

    count-acked : distance x.acked_tsn s.cumulative_tsn_ack ≡ top - x.recorded.taken
    count-acked = ap (λ a. distance a s.cumulative_tsn_ack) l.acked ∙ ap (distance (cumulative_tsn x.recorded x.recorded.taken)) cum
        ∙ between x.recorded x.recorded.taken top first-fits (omega (arith, top_is)) top-short

    current : comes_before s.cumulative_tsn_ack x.acked_tsn ≡ false
    current = ap (comes_before s.cumulative_tsn_ack) l.acked ∙ ap (λ a. comes_before a (cumulative_tsn x.recorded x.recorded.taken)) cum
        ∙ up-to-date x.recorded x.recorded.taken top first-fits (omega (arith, top_is)) top-short

    -- each block reports what is in flight beyond the cumulative TSN
    block-within : (i : ℕ) (d : GapAckBlock) → i < length s.gap_ack_blocks
        → is_within (length x.outbound.inflight.chunks - (top - x.recorded.taken)) (get_or s.gap_ack_blocks i d) ≡ true
    block-within i d lt = by (get_or s.gap_ack_blocks i d) refl (begin i d lt)
      where
        by : (b : GapAckBlock) → get_or s.gap_ack_blocks i d ≡ b → 0 < b.start
            → is_within (length x.outbound.inflight.chunks - (top - x.recorded.taken)) b ≡ true
        by b is pos = elim (cases_lt b.end b.start) [
          | inl none ↦
              ap (λ t. t || (nat_lt 0 b.start && nat_le b.end (length x.outbound.inflight.chunks - (top - x.recorded.taken)))) (lt-ltb b.end b.start none)
          | inr some ↦
              let last : list_any (in_block top (top + b.end - 1)) s.gap_ack_blocks ≡ true =
              list_any_at (in_block top (top + b.end - 1)) s.gap_ack_blocks i d lt (ap (in_block top (top + b.end - 1)) is ∙ holds b pos some) in
              let made = within-blocks (top + b.end - 1) last in
              second (nat_lt b.end b.start) (nat_lt 0 b.start) (nat_le b.end (length x.outbound.inflight.chunks - (top - x.recorded.taken)))
              (lt-ltb 0 b.start pos)
              (le-leb b.end (length x.outbound.inflight.chunks - (top - x.recorded.taken)) (omega (arith, made, pos, some, flying-count, top_is)))
        ]
          where
            holds : (b : GapAckBlock) → 0 < b.start → b.start ≤ b.end → in_block top (top + b.end - 1) b ≡ true
            holds b pos some = and (nat_le (top + b.start) (top + b.end - 1 + 1)) (nat_le (top + b.end - 1 + 1) (top + b.end))
                (le-leb _ _ (omega (arith, pos, some))) (le-leb _ _ (omega (arith, pos, some)))

            second : (p q t : Bool) → q ≡ true → t ≡ true → (p || (q && t)) ≡ true
            second true q t e f = refl
            second false q t e f = rw (e, f) refl

    -- so it is not refused
    pub not-refused : sack_refusal s (flight_in x) ≡ None
    not-refused =
        let n : ℕ = length x.outbound.inflight.chunks in
        let enough' : nat_lt (length x.outbound.inflight.chunks)
        (distance x.acked_tsn s.cumulative_tsn_ack) ≡ false = le-ltb _ _ (omega (arith, count-acked, flying-count, top-made)) in
        let each : list_all (is_within (length x.outbound.inflight.chunks - distance x.acked_tsn s.cumulative_tsn_ack)) s.gap_ack_blocks ≡ true =
        ap (λ c. list_all (is_within (length x.outbound.inflight.chunks - c)) s.gap_ack_blocks) count-acked
        ∙ all-from (is_within (length x.outbound.inflight.chunks - (top - x.recorded.taken))) s.gap_ack_blocks block-within in
        decide (comes_before s.cumulative_tsn_ack x.acked_tsn)
        (nat_lt (length x.outbound.inflight.chunks) (distance x.acked_tsn s.cumulative_tsn_ack)) _ current enough' each
      where
        decide : (a b c : Bool) → a ≡ false → b ≡ false → c ≡ true
            → (if a then None else (if b then Some InflightQueueTsnPop else (if c then None else Some TsnRequestNotExist))) ≡ None
        decide a b c e f g = rw (e, f, g) refl

    -- ## What it makes of all

    abbrev left-chunks : List ChunkPayloadData
    left-chunks = past s.cumulative_tsn_ack (change_where (reports_anew s) as_acknowledged x.outbound.inflight.chunks)

    after-is : after_sack s (flight_in x) ≡ take_sack s (flight_in x)
    after-is = ap (λ b. if b then flight_in x else take_sack s (flight_in x)) current

    answered-those : released_by s (flight_in x) ≡ map (released_of (is_whole s (flight_in x))) (filter (reports_anew s) x.outbound.inflight.chunks)
    answered-those = ap (λ b. if b then [] else map (released_of (is_whole s (flight_in x))) (filter (reports_anew s) x.outbound.inflight.chunks)) current

    marked : IsInFlight x.recorded (acknowledged_then x.recorded r) x.recorded.taken (length x.recorded.slots - x.recorded.taken)
        (change_where (reports_anew s) as_acknowledged x.outbound.inflight.chunks)
    marked =
        let f = facts l in
        let few = f.few in
        in-flight-same x.recorded (λ j. acknowledged_at x.recorded j || answered top s.gap_ack_blocks j) (acknowledged_then x.recorded r) x.recorded.taken
        (length x.recorded.slots - x.recorded.taken) (change_where (reports_anew s) as_acknowledged x.outbound.inflight.chunks) (λ j a b. answered-is j)
        (marked-all x.recorded s top first-fits top-short cum (acknowledged_at x.recorded) x.outbound.inflight.chunks x.recorded.taken
        (length x.recorded.slots - x.recorded.taken) (let t = f.taken in omega (arith, few, t)) (in-flight-first x.recorded x.outbound l.outbound))

    left : IsInFlight x.recorded (acknowledged_then x.recorded r) (max x.recorded.taken r.cumulative)
        (length x.recorded.slots - max x.recorded.taken r.cumulative) left-chunks
    left =
        let f = facts l in
        let few = f.few in
        let t = f.taken in
        let all : x.recorded.taken + (length x.recorded.slots - x.recorded.taken) ≡ length x.recorded.slots = omega (arith, t) in
        let same : max x.recorded.taken top ≡ max x.recorded.taken r.cumulative = omega (arith, top_is) in
        subst (λ c. IsInFlight x.recorded (acknowledged_then x.recorded r) (max x.recorded.taken r.cumulative) (length x.recorded.slots
        - max x.recorded.taken r.cumulative) (past c (change_where (reports_anew s) as_acknowledged x.outbound.inflight.chunks))) (sym cum)
        (subst (λ m. IsInFlight x.recorded (acknowledged_then x.recorded r) m (length x.recorded.slots - m)
        (past (cumulative_tsn x.recorded top) (change_where (reports_anew s) as_acknowledged x.outbound.inflight.chunks))) same
        (subst (λ n. IsInFlight x.recorded (acknowledged_then x.recorded r) (max x.recorded.taken top) (n - max x.recorded.taken top)
        (past (cumulative_tsn x.recorded top) (change_where (reports_anew s) as_acknowledged x.outbound.inflight.chunks))) all
        (front-leaves x.recorded s top first-fits top-short cum (acknowledged_then x.recorded r) (change_where (reports_anew s) as_acknowledged
        x.outbound.inflight.chunks) x.recorded.taken (length x.recorded.slots - x.recorded.taken) (omega (arith, few, t)) marked)))

    amounts : (j : ℕ) (d : OpenStream) → j < length x.open_streams
        → slice_index_or (after_releases (map (released_of (is_whole s (flight_in x))) (filter (reports_anew s) x.outbound.inflight.chunks)) x.open_streams) j d
        ≡ as_left x.recorded r (slice_index_or x.open_streams j d)
    amounts j d lt =
        let f = facts l in
        let le = f.taken in
        let t : ℕ = (slice_index_or x.open_streams j d).state.stream_identifier in
        let a = acks l in
        let old = on-unacked a (acknowledged_at x.recorded) t x.outbound.inflight.chunks x.recorded.taken le below-first
        (in-flight-first x.recorded x.outbound l.outbound) in
        let new = on-unacked a (acknowledged_then x.recorded r) t (change_where (reports_anew s) as_acknowledged x.outbound.inflight.chunks) x.recorded.taken le
        (λ p lt. then-below x.recorded r p below-first (omega (arith, lt))) marked in
        let less = answered-on (is_whole s (flight_in x)) (reports_anew s) t x.outbound.inflight.chunks in
        let had = (l.open_streams j d lt).amount ∙ amount-is x.recorded t f.consistent.sender in
        released-at (map (released_of (is_whole s (flight_in x))) (filter (reports_anew s) x.outbound.inflight.chunks)) x.open_streams j d lt
        ∙ ap (λ m. with_amount m (slice_index_or x.open_streams j d)) (fewer (slice_index_or x.open_streams j d).state.buffered_amount
        (released_on t (map (released_of (is_whole s (flight_in x))) (filter (reports_anew s) x.outbound.inflight.chunks))) (on_stream x.recorded t
        (pending_bytes x.recorded)) (unacked_on x.recorded (acknowledged_at x.recorded) t) (unacked_on x.recorded (acknowledged_then x.recorded r) t)
        (chunks_on t x.outbound.inflight.chunks) (chunks_on t (change_where (reports_anew s) as_acknowledged x.outbound.inflight.chunks)) had less old new)
      where
        fewer : (a rel pend u v c d : ℕ) → a ≡ pend + u → rel + d ≡ c → c ≡ u → d ≡ v → a - rel ≡ pend + v
        fewer a rel pend u v c d e f g h = omega (arith, e, f, g, h)

    bytes-left : bytes_of x.outbound.inflight.chunks - bytes_of left-chunks ≡ growth x.recorded (after_acked x.recorded (Some (Sack r)))
    bytes-left =
        let f = facts l in
        let sender = f.consistent.sender in
        let first = bytes-unacked x.recorded (acknowledged_at x.recorded) x.outbound.inflight.chunks x.recorded.taken sender f.taken below-first
        (in-flight-first x.recorded x.outbound l.outbound) in
        let last = bytes-unacked x.recorded (acknowledged_then x.recorded r) left-chunks (max x.recorded.taken r.cumulative) sender
        (omega (arith, f.taken, enough)) (λ p lt. then-below x.recorded r p below-first lt) left in
        ap (λ n. n - bytes_of left-chunks) first ∙ ap (λ n. bytes_but_for x.recorded (acknowledged_at x.recorded) - n) last
        ∙ sym (growth-acked x.recorded r sender)

    then-is : after_acked x.recorded (Some (Sack r)) ≡ after x.recorded (E.Acked k)
    then-is = ap (after_acked x.recorded) (sym there)

    pub taken-all : (now : List OpenStream) {xs : List Slot} (g : Flight) → x.recorded.streams ≡ map stream_record x.open_streams
        → now ≡ after_releases (released_by s (flight_in x)) x.open_streams → g ≡ after_sack s (flight_in x)
        → IsMarking x.recorded (and_blocks (and_run (acknowledged_at x.recorded) x.recorded.taken top) top s.gap_ack_blocks) xs → Taken sum x k now xs g top
    taken-all now {xs} g streams items moved marks =
        let items' : now ≡ after_releases (map (released_of (is_whole s (flight_in x))) (filter (reports_anew s) x.outbound.inflight.chunks)) x.open_streams =
        items ∙ ap (λ t. after_releases t x.open_streams) answered-those in
        let ls : now ≡ map (as_left x.recorded r) x.open_streams =
        items' ∙ streams-then x.recorded r x.open_streams
        (after_releases (map (released_of (is_whole s (flight_in x))) (filter (reports_anew s) x.outbound.inflight.chunks)) x.open_streams)
        (length-released (map (released_of (is_whole s (flight_in x))) (filter (reports_anew s) x.outbound.inflight.chunks)) x.open_streams) amounts in
        let slots = slots-then r (marking-same (acknowledged_then x.recorded r) loops-answered marks) in
        let recorded : record_taken x.recorded now xs top ≡ after_acked x.recorded (Some (Sack r)) =
        ap (λ ys. record_taken x.recorded ys xs top) ls
        ∙ ap (λ rs. let v : LinkRecord = record x.recorded { streams = rs; slots = map slot_record xs; taken = top } in v)
        (streams-left x.recorded r x.open_streams ∙ sym streams) ∙ ap (λ ys. let v : LinkRecord = record x.recorded { slots = ys; taken = top } in v) slots
        ∙ ap (λ t. let v : LinkRecord = record (after_acked x.recorded (Some (Sack r))) { taken = t } in v) top_is in
        let complete : g ≡ take_sack s (flight_in x) = moved ∙ after-is in
        record {
          linked =
              subst (λ u. IsLinked sum (record x { recorded = u; open_streams = now; outbound = g.queue; next_tsn = g.next_tsn; acked_tsn = g.acked_tsn }))
              (sym recorded)
              (subst (λ (h : Flight). IsLinked sum (record x {
                recorded = after_acked x.recorded (Some (Sack r));
                open_streams = now;
                outbound = h.queue;
                next_tsn = h.next_tsn;
                acked_tsn = h.acked_tsn;
              })) (sym complete) (subst (λ ys. IsLinked sum (taken_state x r ys (with_inflight x.outbound left-chunks) s.cumulative_tsn_ack)) (sym ls)
              (linked-taken k r left-chunks s.cumulative_tsn_ack l (cum ∙ ap (cumulative_tsn x.recorded) top_is) none there left)));
          moves = recorded ∙ then-is;
          bytes = ap (λ (h : Flight). bytes_of x.outbound.inflight.chunks - bytes_of h.queue.inflight.chunks) complete ∙ bytes-left
              ∙ ap (growth x.recorded) then-is;
        }
