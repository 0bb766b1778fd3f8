-- What a link is after the slots of a datagram have come.
use Rattle.sctp_link.proofs.Names.{◌≡◌, ℕ, ◌<◌, Bool, List, [], ◌∷◌, length, map, Some, None, refl, ap, sym, ◌∙◌, arith, if◌then◌else◌, fold, slice_get}
use Rattle.sctp_link.proofs.Names.{slice_index_or, list_any, subst, LinkRecord, Data, is_new, next_of, receive_slot, after_arrive, filter_of, refusal_of}
use Rattle.sctp_link.proofs.Names.{after, IsRight, arrive_reply, reassembly_of, counters_on, counters-same, SameToSender, next-arrive, OpenStream, stats_in}
use Rattle.sctp_link.proofs.Names.{stream_numbers, Sides, reception_of, Slot, State, IsLinked, IsOpenStream, stats_of, filter_shown, slot_record}
use Rattle.sctp_link.proofs.Names.{stream_record, IsReceiver, IsApart, length-mapped, get_or-map, rest-all, quiet-slots}
use Rattle.sctp_model.specs.declared.event.Event.TheVariants as E
use Rattle.sctp_model.specs.Reply as R
use Rattle.sctp_model.proofs.sender.Network
use Rattle.sctp_receiver.specs.Receiver.{filter_of as held_filter}
use Rattle.sctp_link.proofs.upkeep.Facts.{facts, over}
use Rattle.sctp_link.proofs.upkeep.StreamsAfter.{stream-then, linked-then}
use Rattle.sctp_link.proofs.receiver.Slots.{core}

-- what the sides of a link have for it
pub receiver-of : {sum : List ℕ → ℕ} {x : State} (l : IsLinked sum x) (h : Sides) → x.recorded.streams ≡ map stream_record h.streams
    → x.open_streams ≡ h.streams → x.filter ≡ held_filter (reception_of h) → IsReceiver x.recorded h
receiver-of {x} l h a b c = record {
  streams_are = a;
  filter_is = ap filter_shown (sym c) ∙ l.filter;
  queues = λ k d lt. let i = subst (λ ls. IsOpenStream x.recorded (slice_index_or ls k d)) b (l.open_streams k d (omega (arith, lt, ap length b))) in
      record { held = i.held; si = i.si; largest = i.largest };
  apart = subst (λ ls. IsApart (stream_numbers ls)) b l.apart;
}

module _ {sum : List ℕ → ℕ} {x : State} (l : IsLinked sum x) (k : ℕ) (ps : List ℕ) (none : refusal_of x.recorded (E.Arrive k) ≡ None)
    (e : slice_get x.recorded.network k ≡ Some (Data ps)) where
  abbrev here : LinkRecord
  here = x.recorded

  abbrev then' : LinkRecord
  then' = after x.recorded (E.Arrive k)

  after-is : then' ≡ fold receive_slot here ps
  after-is = ap (after_arrive here) e

  frame : Network.Same here then'
  frame = Network.same-received here (slice_get here.network k)

  quiet : SameToSender here then'
  quiet = subst (SameToSender here) (sym after-is)
      (quiet-slots here here ps (record { setup = refl; count = refl; message = λ n. refl; slots = refl; slot = λ p. refl; taken = refl }))

  next-stays : (t : ℕ) → next_of then' t ≡ next_of here t
  next-stays t =
      over (λ (u : LinkRecord). slice_get u.network k ≡ Some (Data ps)
      → next_of (after u (E.Arrive k)) t ≡ next_of u t) l (λ i. next-arrive x.recorded.setup l.history k t ps i) e

  counters-stay : (t : ℕ) → counters_on then' t ≡ counters_on here t
  counters-stay t = let f = facts l in counters-same here.setup here (E.Arrive k) t f.consistent refl refl

  module _ {y : Sides} (slots : List Slot) (dups : List ℕ) (r : IsReceiver (fold receive_slot x.recorded ps) y)
      (cores : map core y.streams ≡ map core x.open_streams) (slots_are : (fold receive_slot x.recorded ps).slots ≡ map slot_record slots)
      (dups_are : (fold receive_slot x.recorded ps).duplicates ≡ dups) where
    recorded-received : record x.recorded { streams = map stream_record y.streams; slots = map slot_record slots; duplicates = dups }
        ≡ fold receive_slot x.recorded ps
    recorded-received =
        let v = fold receive_slot x.recorded ps in
        ap (λ a. record x.recorded { streams = a; slots = map slot_record slots; duplicates = dups }) (sym r.streams_are)
        ∙ ap (λ a. record x.recorded { streams = v.streams; slots = a; duplicates = dups }) (sym slots_are)
        ∙ ap (λ a. record x.recorded { streams = v.streams; slots = v.slots; duplicates = a }) (sym dups_are) ∙ sym (rest-all x.recorded x.recorded ps refl)

    many : length y.streams ≡ length x.open_streams
    many = sym (length-mapped core y.streams) ∙ ap length cores ∙ length-mapped core x.open_streams

    core-at : (j : ℕ) (d : OpenStream) → j < length y.streams → core (slice_index_or y.streams j d) ≡ core (slice_index_or x.open_streams j d)
    core-at j d lt =
        sym (get_or-map core y.streams j d (core d) lt) ∙ ap (λ ls. slice_index_or ls j (core d)) cores
        ∙ get_or-map core x.open_streams j d (core d) (omega (arith, lt, many))

    stream-received : (j : ℕ) (d : OpenStream) → j < length y.streams → IsOpenStream then' (slice_index_or y.streams j d)
    stream-received j d lt =
        let o = slice_index_or x.open_streams j d in
        let z = slice_index_or y.streams j d in
        let i = l.open_streams j d (omega (arith, lt, many)) in
        let c = core-at j d lt in
        let q = r.queues j d lt in
        let id = ap (λ (t : OpenStream). t.state.stream_identifier) c in
        stream-then l (E.Arrive k) none frame refl o z i id (q.held ∙ ap (reassembly_of (fold receive_slot here ps)) id
        ∙ ap (λ u. reassembly_of u o.state.stream_identifier) (sym after-is)) (q.si ∙ id ∙ sym i.si)
        (q.largest ∙ ap (λ s. s.largest) (Network.same-slots here ps).setup ∙ sym i.largest) (ap (λ (t : OpenStream). t.state.max_payload_size) c)
        (ap (λ (t : OpenStream). t.ordered) c) (ap (λ (t : OpenStream). t.state.sequence_number) c) (ap (λ (t : OpenStream). t.begun) c)
        (ap (λ (t : OpenStream). t.next) c ∙ i.next ∙ sym (next-stays o.state.stream_identifier)) (ap (λ (t : OpenStream). t.state.buffered_amount) c)
        (ap stats_in c ∙ i.stats ∙ ap stats_of (sym (counters-stay o.state.stream_identifier)))

    numbers-same : stream_numbers y.streams ≡ stream_numbers x.open_streams
    numbers-same = numbers-core y.streams ∙ ap (map (λ (t : OpenStream). t.state.stream_identifier)) cores ∙ sym (numbers-core x.open_streams)
      where
        numbers-core : (ls : List OpenStream) → stream_numbers ls ≡ map (λ (t : OpenStream). t.state.stream_identifier) (map core ls)
        numbers-core [] = refl
        numbers-core (t ∷ ls) = ap (λ ns. t.state.stream_identifier ∷ ns) (numbers-core ls)

    pub linked-received : IsLinked sum (record x {
      recorded = record x.recorded { streams = map stream_record y.streams; slots = map slot_record slots; duplicates = dups };
      open_streams = y.streams;
      filter = held_filter (reception_of y);
    })
    linked-received =
        linked-then l (E.Arrive k) none frame x.progress y.streams (held_filter (reception_of y))
        (record x.recorded { streams = map stream_record y.streams; slots = map slot_record slots; duplicates = dups }) refl (r.filter_is
        ∙ ap filter_of (sym after-is)) stream-received (subst IsApart (sym numbers-same) l.apart) quiet (recorded-received ∙ sym after-is)

    pub right-received : (new : Bool) (reply : R.Reply) → new ≡ list_any (is_new x.recorded) ps → reply ≡ (if new then R.New else R.Repeat)
        → IsRight x.recorded (E.Arrive k) reply (record x.recorded { streams = map stream_record y.streams; slots = map slot_record slots; duplicates = dups })
    right-received new reply a b = record {
      right = b ∙ ap (λ c. if c then R.New else R.Repeat) a ∙ sym (ap (arrive_reply here) e);
      moves = recorded-received ∙ sym after-is;
    }
