-- A slot of a datagram comes: what the receiver of a link has then.
use Rattle.sctp_link.proofs.Names.{◌≡◌, ℕ, suc, ◌<◌, Bool, true, false, List, [], ◌∷◌, ◌++◌, length, map, Option, Some, None, refl, ap, sym, ◌∙◌, arith, ◌==◌}
use Rattle.sctp_link.proofs.Names.{◌&&◌, not, nat_le, if◌then◌else◌, find, option_map, is_some, slice_index_or, slice_set, list_all, subst, length-set}
use Rattle.sctp_link.proofs.Names.{change_at, change_where, insert_before, and-none, and-true, ChunkPayloadData, chunk_before, Reassembly, ReassemblyState}
use Rattle.sctp_link.proofs.Names.{is_too_large, held_after_ordered_push, BecomesComplete, LinkRecord, StreamRecord, message_at, message_of, slots_of}
use Rattle.sctp_link.proofs.Names.{index_of, tsn_of, is_new, has_arrived, receive_slot, becomes_complete, with_complete, note_completion, stream_changed}
use Rattle.sctp_link.proofs.Names.{mark_arrived, chunk_at, IsSpan, reassembly_of, with_arrived, OutboundStream, Arrival, New, Repeat, ReceiverRefusal}
use Rattle.sctp_link.proofs.Names.{TsnOpposite, MessageTooLarge, stream_refusal, data_refusal, arrival_of, Filter, has_come, is_opposite, with_tsn}
use Rattle.sctp_link.proofs.Names.{with_duplicate, Keeps, OpenStream, has_number, stream_numbers, Sides, reception_of, with_filter_of, on_stream, Accepts}
use Rattle.sctp_link.proofs.Names.{Takes, repeat_tsn, stream_record, HoldsQueue, IsReceiver, Comes, is_first, IsApart, map-set_same}
use Rattle.sctp_model.proofs.refinement.arriving.SlotArrives.{Enters, ordered-slot, unordered-slot}
use Rattle.sctp_model.proofs.sender.Network
use Rattle.sctp_model.proofs.refinement.arriving.RunsOnce.{becomes-same}
use Rattle.sctp_model.proofs.refinement.arriving.SlotArrives
use Rattle.sctp_model.proofs.refinement.reading.Keeps
use Rattle.sctp_receiver.specs.Inbound as Inbound
use Rattle.sctp_receiver.specs.Receiver.{filter_of as held_filter, stream_of as inbound_of}
use Rattle.sctp_link.specs.Sides.{is_open}
use Rattle.sctp_link.proofs.upkeep.Apart.{differ, each-set, number-found, stream-found, streams-set}
use Rattle.sctp_link.proofs.upkeep.StreamPlaces.{placed, changed-found, apart-set}
use Rattle.sctp_link.proofs.receiver.Came.{come-is, near-is, filter-new, filter-again}

-- a stream with these complete messages
abbrev pub shown : ℕ → OutboundStream → List ℕ → StreamRecord
shown named s complete = record {
  stream = s.stream_identifier;
  unordered = s.unordered;
  reliability = s.reliability_type;
  value = s.reliability_value;
  named = named;
  complete = complete;
}

-- what no chunk changes of a stream: all but what came on it and which messages are complete
abbrev pub core : OpenStream → OpenStream
core l = record l {
  inbound = record l.inbound {
    queue = record { si = 0; held = record { next_ssn = 0; ordered = []; unordered = []; unassembled = [] }; bytes = 0; max_message_size = 0; places = 0 };
  };
  complete = [];
}

-- what came on the stream with a number
inbound-found : (s : ℕ) (ls : List OpenStream)
    → ((k : ℕ) (d : OpenStream) → k < length ls → (slice_index_or ls k d).inbound.queue.si ≡ (slice_index_or ls k d).state.stream_identifier)
    → find (Inbound.has_number s) (map (λ l. l.inbound) ls) ≡ option_map (λ l. l.inbound) (find (has_number s) ls)
inbound-found s [] all = refl
inbound-found s (l ∷ ls) all =
    ap (λ i. if i == s then Some l.inbound else find (Inbound.has_number s) (map (λ l. l.inbound) ls)) (all 0 l (omega arith))
    ∙ step (l.state.stream_identifier == s) (inbound-found s ls (λ k d lt. all (suc k) d (omega (arith, lt))))
  where
    step : (b : Bool) → find (Inbound.has_number s) (map (λ l. l.inbound) ls) ≡ option_map (λ l. l.inbound) (find (has_number s) ls) → (if b then Some l.inbound
        else find (Inbound.has_number s) (map (λ l. l.inbound) ls)) ≡ option_map (λ (l : OpenStream). l.inbound) (if b then Some l else find (has_number s) ls)
    step true ih = refl
    step false ih = ih

mapped-some : (o : Option OpenStream) (r : StreamRecord) → option_map stream_record o ≡ Some r → (l : OpenStream) × (o ≡ Some l)
mapped-some None r e = cc
mapped-some (Some l) r e = (l, refl)

-- what one slot makes
pub record One (w : LinkRecord) (x : Sides) (p : ℕ) (a : Arrival) (y : Sides) : Type 0 where
  pub receiver : IsReceiver (receive_slot w p) y
  pub cores : map core y.streams ≡ map core x.streams
  pub rest : y ≡ record x { streams = y.streams; cumulative_tsn = y.cumulative_tsn; beyond = y.beyond; duplicates = y.duplicates }
  pub answer : is_first a ≡ is_new w p
  pub slots : (receive_slot w p).slots ≡ (if is_first a then change_at mark_arrived p w.slots else w.slots)
  pub duplicates : (receive_slot w p).duplicates ≡ (if is_first a then w.duplicates else w.duplicates ++ p ∷ [])

module _ {w : LinkRecord} {x : Sides} (r : IsReceiver w x) (p : ℕ) (c : ChunkPayloadData) (m : Comes w p c) where
  abbrev n : ℕ
  n = message_of w p

  abbrev s : ℕ
  s = (message_at w (message_of w p)).stream

  abbrev f : Filter
  f = held_filter (reception_of x)

  tsn-is : c.tsn ≡ tsn_of w p
  tsn-is = ap (λ (y : ChunkPayloadData). y.tsn) m.chunk

  id-is : c.stream_identifier ≡ s
  id-is = ap (λ (y : ChunkPayloadData). y.stream_identifier) m.chunk

  -- whether its TSN came, as the record says
  answered : has_come c.tsn f ≡ not (is_new w p)
  answered = ap (λ t. has_come t f) tsn-is ∙ come-is w f m.valid.valid.skipped_made m.valid.valid.few r.filter_is p m.valid.made

  -- its stream is open
  there : (l : OpenStream) × (find (has_number c.stream_identifier) x.streams ≡ Some l)
  there =
      mapped-some (find (has_number c.stream_identifier) x.streams) m.known.0
      (sym (stream-found c.stream_identifier x.streams) ∙ ap (find (λ (q : StreamRecord). q.stream == c.stream_identifier)) (sym r.streams_are)
      ∙ ap (λ t. find (λ (q : StreamRecord). q.stream == t) w.streams) id-is ∙ m.known.1)

  pub opened : is_open c.stream_identifier x ≡ true
  opened = ap is_some there.1

  -- ## It came before

  module _ (old : is_new w p ≡ false) where
    again : (y : Sides) → y ≡ repeat_tsn c.tsn x → IsReceiver (receive_slot w p) y
    again y e =
        let is = SlotArrives.repeated w p old in
        subst (IsReceiver (receive_slot w p)) (sym e) (record {
          streams_are = ap (λ v. v.streams) is ∙ r.streams_are;
          filter_is = filter-again w p f (with_duplicate c.tsn f) old r.filter_is (ap (λ t. with_duplicate t f) tsn-is);
          queues = λ k d lt. let q = r.queues k d lt in record {
            held = q.held ∙ sym (SlotArrives.repeated-reassembly w p (slice_index_or x.streams k d).state.stream_identifier old);
            si = q.si;
            largest = q.largest ∙ sym (ap (λ t. t.largest) (Network.same-slot w p).setup);
          };
          apart = r.apart;
        })

    one-again : (y : Sides) → y ≡ repeat_tsn c.tsn x → One w x p Repeat y
    one-again y e = let is = SlotArrives.repeated w p old in record {
      receiver = again y e;
      cores = ap (λ (z : Sides). map core z.streams) e;
      rest = subst (λ (z : Sides). z ≡ record x { streams = z.streams; cumulative_tsn = z.cumulative_tsn; beyond = z.beyond; duplicates = z.duplicates })
          (sym e) refl;
      answer = sym old;
      slots = ap (λ v. v.slots) is;
      duplicates = ap (λ v. v.duplicates) is;
    }

  -- ## It is new

  module _ (new : is_new w p ≡ true) where
    enter : Enters w s p
    enter = record { made = m.valid.made; new = new; fragment = m.valid.fragment; stream = refl; alive = m.alive }

    span-here : (message_at w n).ordered ≡ true → IsSpan w s (index_of w n ∷ [])
    span-here o = m.valid.near s (SlotArrives.ordered-on w s p enter o) new

    elsewhere : (t : ℕ) → (t ≡ s → ⊥) → reassembly_of (receive_slot w p) t ≡ reassembly_of w t
    elsewhere t ne = by (message_at w n).ordered refl
      where
        by : (b : Bool) → (message_at w n).ordered ≡ b → reassembly_of (receive_slot w p) t ≡ reassembly_of w t
        by true o = SlotArrives.slot-elsewhere w s p t m.valid.valid enter (span-here o) ne
        by false o = Keeps.unordered-elsewhere w s p t (SlotArrives.arrives-unassembled w s p enter o) ne

    noted-is : receive_slot w p ≡ note_completion (with_arrived w p) n
    noted-is = ap (λ b. if b then note_completion (with_arrived w p) n else record w { duplicates = w.duplicates ++ p ∷ [] }) new

    fresh : has_come c.tsn f ≡ false
    fresh = answered ∙ ap not new

    near : is_opposite c.tsn f ≡ false
    near = ap (λ t. is_opposite t f) tsn-is ∙ near-is w f m.valid.valid.skipped_made m.valid.valid.few r.filter_is p m.valid.made new

    slots-noted : (b : Bool) → (if b then stream_changed (with_arrived w p) s (with_complete n) else with_arrived w p).slots ≡ change_at mark_arrived p w.slots
    slots-noted true = refl
    slots-noted false = refl

    duplicates-noted : (b : Bool) → (if b then stream_changed (with_arrived w p) s (with_complete n) else with_arrived w p).duplicates ≡ w.duplicates
    duplicates-noted true = refl
    duplicates-noted false = refl

    module _ (at : ℕ) (lt : at < length x.streams)
        (number-is : (d : OpenStream) → (slice_index_or x.streams at d).state.stream_identifier ≡ c.stream_identifier) (d : OpenStream) where
      abbrev y : OpenStream
      y = slice_index_or x.streams at d

      id-at : (d : OpenStream) → (slice_index_or x.streams at d).state.stream_identifier ≡ s
      id-at d = number-is d ∙ id-is

      here : y.inbound.queue.held ≡ reassembly_of w s
      here = (r.queues at d lt).held ∙ ap (reassembly_of w) (id-at d)

      -- what the stream's queue asks of the chunk
      small : is_too_large c y.inbound.queue ≡ false
      small = m.small new y.inbound.queue here (r.queues at d lt).largest

      module _ (z : OpenStream) (number : ℕ) (number_is : number ≡ message_of w p) (keeps' : Keeps c number (slice_index_or x.streams at d) z) where
        keeps : Keeps (chunk_at w p) number (slice_index_or x.streams at d) z
        keeps = subst (λ k. Keeps k number (slice_index_or x.streams at d) z) m.chunk keeps'

        state-is : z.state ≡ y.state
        state-is = ap (λ (l : OpenStream). l.state) keeps.rest

        record Holds : Type 0 where
          queue : z.inbound.queue.held ≡ reassembly_of (receive_slot w p) s
          noted : (keeps.complete && (chunk_at w p).unordered) ≡ becomes_complete (with_arrived w p) n
          si : z.inbound.queue.si ≡ y.inbound.queue.si
          largest : z.inbound.queue.max_message_size ≡ y.inbound.queue.max_message_size

        holds-by : (b : Bool) → (message_at w n).ordered ≡ b → Holds
        holds-by true o =
            let q = keeps.ordered_queue (ap not o) in
            record {
              queue = ap (λ (q : ReassemblyState). q.held) q ∙ ap (held_after_ordered_push (chunk_at w p)) here
                  ∙ sym (ordered-slot w s p enter m.valid.valid o (span-here o));
              noted = ap (λ b. keeps.complete && not b) o ∙ and-none keeps.complete
                  ∙ sym (ap (λ b. not b && (has_arrived (with_arrived w p) n && list_all (λ i. nat_le w.skipped i) (slots_of (with_arrived w p) n))) o);
              si = ap (λ (q : ReassemblyState). q.si) q;
              largest = ap (λ (q : ReassemblyState). q.max_message_size) q;
            }
        holds-by false o =
            let q = keeps.unordered_queue (ap not o) in
            let pushed = subst (λ (h : Reassembly).
            BecomesComplete (insert_before chunk_before (chunk_at w p) h.unassembled) h z.inbound.queue.held keeps.complete) here q.0 in
            let same = becomes-same (insert_before chunk_before (chunk_at w p) (reassembly_of w s).unassembled)
            (reassembly_of w s) z.inbound.queue.held (reassembly_of (receive_slot w p) s) keeps.complete (becomes_complete (with_arrived w p) n) pushed
            (unordered-slot w s p m.known.0 m.valid.valid m.valid.unassembled enter o m.known.1) in
            record {
              queue = same.0;
              noted = ap (λ b. keeps.complete && not b) o ∙ and-true keeps.complete ∙ same.1;
              si = ap (λ (q : ReassemblyState). q.si) q.1;
              largest = ap (λ (q : ReassemblyState). q.max_message_size) q.1;
            }

        holds : Holds
        holds = holds-by (message_at w n).ordered refl

        same-id : z.state.stream_identifier ≡ y.state.stream_identifier
        same-id = ap (λ (t : OutboundStream). t.stream_identifier) state-is

        streams-apart : IsApart (stream_numbers x.streams)
        streams-apart = r.apart

        shown-is : (b : Bool) → becomes_complete (with_arrived w p) n ≡ b
            → stream_record z ≡ shown y.named y.state (if b then y.complete ++ n ∷ [] else y.complete)
        shown-is b h =
            ap (λ (t : OutboundStream). shown z.named t z.complete) state-is ∙ ap (λ n. shown n y.state z.complete) (ap (λ (l : OpenStream). l.named) keeps.rest)
            ∙ ap (shown y.named y.state) (ap (λ (l : OpenStream). l.complete) keeps.rest ∙ ap (λ c. if c then y.complete ++ number ∷ []
            else y.complete) (holds.noted ∙ h) ∙ ap (λ i. if b then y.complete ++ i ∷ [] else y.complete) number_is)

        streams-are : (b : Bool) → becomes_complete (with_arrived w p) n ≡ b
            → (if b then stream_changed (with_arrived w p) s (with_complete n) else with_arrived w p).streams ≡ map stream_record (slice_set x.streams at z)
        streams-are true h = sym (
            streams-set x.streams at z d (with_complete n) streams-apart lt (shown-is true h)
            ∙ ap (λ t. map (λ (q : StreamRecord). if q.stream == t then with_complete n q else q) (map stream_record x.streams)) (id-at d)
            ∙ ap (map (λ (q : StreamRecord). if q.stream == s then with_complete n q else q)) (sym r.streams_are))
        streams-are false h = sym (map-set_same stream_record x.streams at z d (shown-is false h) ∙ sym r.streams_are)

        rest-is : (b : Bool) → (if b then stream_changed (with_arrived w p) s (with_complete n) else with_arrived w p)
            ≡ record (with_arrived w p) { streams = (if b then stream_changed (with_arrived w p) s (with_complete n) else with_arrived w p).streams }
        rest-is true = refl
        rest-is false = refl

        all-is : receive_slot w p ≡ record (with_arrived w p) { streams = map stream_record (slice_set x.streams at z) }
        all-is =
            let b = becomes_complete (with_arrived w p) n in
            noted-is ∙ rest-is b ∙ ap (λ rs. record (with_arrived w p) { streams = rs }) (streams-are b refl)

        queue-then : (k : ℕ) (e : OpenStream) → k < length (slice_set x.streams at z)
            → HoldsQueue (receive_slot w p) (slice_index_or (slice_set x.streams at z) k e)
        queue-then k e less =
            let inside : k < length x.streams = omega (arith, less, length-set x.streams at z) in
            let same = ap (λ t. t.largest) (Network.same-slot w p).setup in
            each-set (HoldsQueue (receive_slot w p)) x.streams at k z e lt
            (record {
              held = holds.queue ∙ ap (reassembly_of (receive_slot w p)) (sym (same-id ∙ id-at d));
              si = holds.si ∙ (r.queues at d lt).si ∙ sym same-id;
              largest = holds.largest ∙ (r.queues at d lt).largest ∙ sym same;
            })
            (λ ne. let q = r.queues k e inside in record {
              held = q.held ∙ sym (elsewhere (slice_index_or x.streams k e).state.stream_identifier
                  (λ h. differ x.streams k at e streams-apart inside lt ne (h ∙ sym (id-at e))));
              si = q.si;
              largest = q.largest ∙ sym same;
            })

        kept : IsReceiver (receive_slot w p) (with_filter_of (with_tsn c.tsn f) (record x { streams = slice_set x.streams at z }))
        kept = record {
          streams_are = ap (λ v. v.streams) all-is;
          filter_is = filter-new p f (with_tsn c.tsn f) m.valid.valid m.valid.made new r.filter_is (ap (λ t. with_tsn t f) tsn-is);
          queues = queue-then;
          apart = apart-set x.streams at z d r.apart same-id;
        }

        set-is : slice_set x.streams at z ≡ change_where (has_number c.stream_identifier) (λ _. z) x.streams
        set-is = changed-found c.stream_identifier x.streams streams-apart (λ _. z) at d lt (number-is d)

        core-is : core z ≡ core y
        core-is = ap core keeps.rest

        one-kept : (complete : Bool) (u : Sides) → u ≡ with_filter_of (with_tsn c.tsn f) (on_stream c.stream_identifier (λ _. z) x) → One w x p (New complete) u
        one-kept complete u e =
            let b = becomes_complete (with_arrived w p) n in
            let is : u ≡ with_filter_of (with_tsn c.tsn f) (record x { streams = slice_set x.streams at z }) = e
            ∙ ap (λ ls. with_filter_of (with_tsn c.tsn f) (record x { streams = ls })) (sym set-is) in
            record {
              receiver = subst (IsReceiver (receive_slot w p)) (sym is) kept;
              cores = ap (λ (v : Sides). map core v.streams) is ∙ map-set_same core x.streams at z d core-is;
              rest = subst (λ (v : Sides). v
                  ≡ record x { streams = v.streams; cumulative_tsn = v.cumulative_tsn; beyond = v.beyond; duplicates = v.duplicates }) (sym is) refl;
              answer = sym new;
              slots = ap (λ v. v.slots) noted-is ∙ slots-noted b;
              duplicates = ap (λ v. v.duplicates) noted-is ∙ duplicates-noted b;
            }

    number-at : (l : OpenStream) (k : ℕ) → find (has_number c.stream_identifier) x.streams ≡ Some l → ((d : OpenStream) → slice_index_or x.streams k d ≡ l)
        → (d : OpenStream) → (slice_index_or x.streams k d).state.stream_identifier ≡ c.stream_identifier
    number-at l k found is d = ap (λ (q : OpenStream). q.state.stream_identifier) (is d) ∙ number-found c.stream_identifier x.streams l found

    one-new : (complete : Bool) (number : ℕ) (u : Sides) → number ≡ message_of w p → Accepts c number x u → One w x p (New complete) u
    one-new complete number u number_is a =
        let k = placed c.stream_identifier x.streams a.stream a.found in
        one-kept k.0 k.1.0 (number-at a.stream k.0 a.found k.1.1) a.stream a.kept number number_is
        (subst (λ l. Keeps c number l a.kept) (sym (k.1.1 a.stream)) a.keeps) complete u a.after

    small-there : is_too_large c there.0.inbound.queue ≡ false
    small-there =
        let k = placed c.stream_identifier x.streams there.0 there.1 in
        subst (λ (l : OpenStream). is_too_large c l.inbound.queue ≡ false) (k.1.1 there.0) (small k.0 k.1.0 (number-at there.0 k.0 there.1 k.1.1) there.0)

  -- ## Whether it is

  -- the receiver refuses no such chunk
  pub accepted : data_refusal c (reception_of x) ≡ None
  accepted = by (is_new w p) refl
    where
      rest-refusal : Option ReceiverRefusal
      rest-refusal = stream_refusal c (inbound_of c.stream_identifier (reception_of x))

      by : (b : Bool) → is_new w p ≡ b → data_refusal c (reception_of x) ≡ None
      by false old = ap (λ b. if b then None else (if is_opposite c.tsn f then Some TsnOpposite else rest-refusal)) (answered ∙ ap not old)
      by true new =
          ap (λ b. if b then None else (if is_opposite c.tsn f then Some TsnOpposite else rest-refusal)) (fresh new)
          ∙ ap (λ b. if b then Some TsnOpposite else rest-refusal) (near new)
          ∙ ap (stream_refusal c) (inbound-found c.stream_identifier x.streams (λ k d lt. (r.queues k d lt).si)
          ∙ ap (option_map (λ (l : OpenStream). l.inbound)) there.1) ∙ ap (λ b. if b then Some MessageTooLarge else None) (small-there new)

  -- and takes it as the record does
  pub one : (number : ℕ) (complete : Bool) (a : Arrival) (u : Sides) → number ≡ message_of w p → a ≡ arrival_of c.tsn complete (reception_of x)
      → Takes c number a x u → One w x p a u
  one number complete a u number_is e t = by a e t (is_new w p) refl
    where
      answered-is : (b : Bool) → is_new w p ≡ b → arrival_of c.tsn complete (reception_of x) ≡ (if not b then Repeat else New complete)
      answered-is b h = ap (λ b. if b then Repeat else New complete) (answered ∙ ap not h)

      by : (a : Arrival) → a ≡ arrival_of c.tsn complete (reception_of x) → Takes c number a x u → (b : Bool) → is_new w p ≡ b → One w x p a u
      by (New said) e t true h = one-new h said number u number_is t
      by (New said) e t false h = let z : New said ≡ Repeat = e ∙ answered-is false h in cc
      by Repeat e t true h = let z : Repeat ≡ New complete = e ∙ answered-is true h in cc
      by Repeat e t false h = one-again h u t
