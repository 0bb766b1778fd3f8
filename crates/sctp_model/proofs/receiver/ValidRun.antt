-- The record of every history is valid.
use Rattle.sctp_model.proofs.Names.{◌≡◌, ℕ, zero, suc, ◌+◌, ◌-◌, ◌<◌, ◌≤◌, Bool, true, false, List, [], ◌∷◌, ◌++◌, length, map, get_or, Option, Some, None}
use Rattle.sctp_model.proofs.Names.{refl, ap, sym, ◌∙◌, inl, inr, arith, zero-add, ◌⊎◌, if◌then◌else◌, ◌==◌, ◌&&◌, ◌||◌, not, nat_le, fold, slice_get, find}
use Rattle.sctp_model.proofs.Names.{is_some, list_any, filter, subst, cases_lt, nat_tests, numbers_where, always, length-kept-lt, not_both, both, same-yes}
use Rattle.sctp_model.proofs.Names.{negated, or-right, or-split, kept-get, get-beyond, IsRow, total-at, length-numbers, Setup, StreamRecord, Datagram, Forward}
use Rattle.sctp_model.proofs.Names.{LinkRecord, record_of, refusal_of, adds_to_span, LogEntry, OnEveryRun, IsLaid, IsSpan, Valid, ValidUnassembled}
use Rattle.sctp_model.proofs.Names.{AllFragments}
use Rattle.sctp_model.specs.declared.event.Event.TheVariants as E
use Rattle.sctp_model.specs.LinkRecord as W
use Rattle.sctp_model.specs.Messages
use Rattle.sctp_model.specs.Receiver
use Rattle.sctp_model.specs.Changes
use Rattle.sctp_model.specs.Log
use Rattle.sctp_model.specs.Valid.{InOrder, AllNamable, RecordIsValid, SlotsComeValid, SkipsComeValid}
use Rattle.sctp_model.proofs.sender.SenderEnds.{sent-none}
use Rattle.sctp_model.proofs.sender.Shape.{Shape, shape, has, parts, on, index}
use Rattle.sctp_model.proofs.sender.Sender.{Sender}
use Rattle.sctp_model.proofs.sender.SenderSteps.{of-has}
use Rattle.sctp_model.proofs.sender.Slots.{slots-row, beyond-slots}
use Rattle.sctp_model.proofs.sender.Few.{few}
use Rattle.sctp_model.proofs.sender.SenderRun.{Consistent, consistent-run, consistent-received, found, open-mapped}
use Rattle.sctp_model.proofs.sender.Network
use Rattle.sctp_model.proofs.sender.Network.{SlotsFit, NamesFit, fit-at, fit-run}
use Rattle.sctp_model.proofs.receiver.View
use Rattle.sctp_model.proofs.receiver.View.{View, view, come_count, all_come, complete_at, held, next}
use Rattle.sctp_model.proofs.receiver.Arrivals.{new-unseen}
use Rattle.sctp_model.proofs.receiver.Indexes.{on-ordered, on-stream}
use Rattle.sctp_model.proofs.receiver.CompleteMessages
use Rattle.sctp_model.proofs.receiver.CompleteMessages.{some-kept}
use Rattle.sctp_model.proofs.receiver.Known
use Rattle.sctp_model.proofs.receiver.Ordered
use Rattle.sctp_model.proofs.receiver.Received.{Received, received-keeps, received-run}
use Rattle.sctp_model.proofs.receiver.Spans
use Rattle.sctp_model.proofs.receiver.Spans.{AllNear, near-run}

-- ## Numbers of messages and places of slots

slot-made : (w : LinkRecord) (n p : ℕ) → Messages.has_fragment w n p ≡ true → p < length w.slots
slot-made w n p h = elim (cases_lt p (length w.slots)) [ inl l ↦ l | inr g ↦ absurd (not_both (sym (beyond-slots w n p g) ∙ h)) ]

message-made : (w : LinkRecord) (n : ℕ) → (Messages.message_at w n).ordered ≡ true → n < length w.messages
message-made w n o = grind (arith, nat_tests, get-beyond)

-- the fragments of a message lie side by side
laid-of : (w : LinkRecord) (n : ℕ) → Sender (shape w) → (base : ℕ) × IsLaid w n base
laid-of w n s =
    let r = slots-row w n s in
    (r.from, record { at = λ p h. at r p h; within = λ p h. within p h })
  where
    nth : (from many j : ℕ) → j < many → get_or (numbers_where always from many) j 0 ≡ from + j
    nth from zero j lt = absurd (omega arith)
    nth from (suc many) zero lt = omega arith
    nth from (suc many) (suc j) lt = let z = nth (from + 1) many j (omega arith) in omega (arith, z)

    count : (p : ℕ) → Messages.has_fragment w n p ≡ true → (Messages.slot_at w p).fragment ≡ length (numbers_where (has (shape w) n) 0 p)
    count p h = s.number p (slot-made w n p h) ∙ ap (λ m. length (numbers_where (has (shape w) m) 0 p)) (of-has (shape w) n p h).0

    at : (r : IsRow (has (shape w) n) (length w.slots)) → (p : ℕ) → Messages.has_fragment w n p ≡ true → p ≡ r.from + (Messages.slot_at w p).fragment
    at r p h =
        let lt = slot-made w n p h in
        let j = length (numbers_where (has (shape w) n) 0 p) in
        let here : get_or (numbers_where (has (shape w) n) 0 (length w.slots)) j 0 ≡ p =
        kept-get (has (shape w) n) 0 (length w.slots) p p 0 (omega arith) lt h in
        let low : j < length (numbers_where (has (shape w) n) 0 (length w.slots)) = length-kept-lt (has (shape w) n) 0 p (length w.slots)
        (ap (has (shape w) n) (zero-add p) ∙ h) lt in
        let many : length (numbers_where (has (shape w) n) 0 (length w.slots)) ≡ r.many = ap length r.is ∙ length-numbers r.from r.many in
        sym here ∙ ap (λ l. get_or l j 0) r.is ∙ nth r.from r.many j (omega (arith, low, many)) ∙ ap (λ i. r.from + i) (sym (count p h))

    within : (p : ℕ) → Messages.has_fragment w n p ≡ true → (Messages.slot_at w p).fragment < Messages.fragment_count w n
    within p h =
        let lt = slot-made w n p h in
        let low = length-kept-lt (has (shape w) n) 0 p (length w.slots) (ap (has (shape w) n) (zero-add p) ∙ h) lt in
        let made : n < length w.messages = subst (λ m. m < length w.messages) (of-has (shape w) n p h).0 (s.made p lt) in
        omega (arith, count p h, low, s.within n made)

-- ## The record that a history leads to, and those between

pub valid-of : (setup : Setup) (w : LinkRecord) (log : List LogEntry) → Consistent setup w → Received w log → Valid w
valid-of setup w log g r =
    let s = g.sender in
    let o = r.ordered in
    record {
      few = few setup w g;
      some = s.some;
      short = λ n lt. let l = total-at (parts (shape w)) n 0 (length w.messages) (omega arith) (omega arith) in omega (arith, l, g.accepted);
      laid = λ n. laid-of w n s;
      made = λ n p h. subst (λ m. m < length w.messages) (of-has (shape w) n p h).0 (s.made p (slot-made w n p h));
      read_complete = λ t n on' red. let k = on-ordered (shape w) t n on' in o.read_complete n (message-made w n k) k red;
      read_past = λ t n on' red. o.read_past t n (message-made w n (on-ordered (shape w) t n on')) on' red;
      named_skipped = λ t n p on' lt h. Ordered.named-skipped (view w) s o t n p on' lt (slot-made w n p h) h;
      named_made = λ t. Ordered.named-made (view w) s o t;
      skipped_made = r.known.arrivals.short;
    }

pub unassembled-of : (setup : Setup) (w : LinkRecord) (log : List LogEntry) → Consistent setup w → Received w log → ValidUnassembled w
unassembled-of setup w log g r =
    let s = g.sender in
    let h = r.known.complete in
    record {
      prefix = grind (arith, nat_tests, slot-made) steps 150000;
      terminals = r.ordered.terminals;
      complete_arrived = λ n kind e. complete n kind e (cases_lt n (length w.messages));
      arrived_complete = λ n e. arrived n e (cases_lt n (length w.messages));
      waits = λ t n e. let i = h.ready t n e in record { made = i.made; stream = i.stream; unordered = i.kind; unread = i.unread };
    }
  where
    beyond : (n : ℕ) → length w.messages ≤ n → Messages.message_at w n ≡ Messages.no_message
    beyond n ge = get-beyond w.messages n Messages.no_message ge

    none : (n : ℕ) → length w.messages ≤ n → come_count (view w) n ≡ 0
    none n ge = omega (arith, Known.come-sent (view w) n, sent-none (shape w) n g.sender ge)

    complete : (n : ℕ) → (Messages.message_at w n).ordered ≡ false → Receiver.is_complete_message w n ≡ true → (n < length w.messages) ⊎ (length w.messages ≤ n)
        → Receiver.has_arrived w n ≡ true
    complete n kind e (inl lt) =
        CompleteMessages.complete-come (view w) log n r.known.arrivals.arrived (g.sender.within n lt) (sym (r.known.complete.agrees n lt) ∙ e)
    complete n kind e (inr ge) = cc (none n ge, beyond n ge)

    arrived : (n : ℕ) → Changes.becomes_complete w n ≡ true → (n < length w.messages) ⊎ (length w.messages ≤ n) → Receiver.is_complete_message w n ≡ true
    arrived n e (inl lt) =
        let a = both (not (Messages.message_at w n).ordered) (CompleteMessages.due (view w) n) e in
        r.known.complete.agrees n lt ∙ CompleteMessages.due-complete (view w) log n (Known.hears w log r.known.arrivals) (g.sender.within n lt)
        (g.sender.some n lt) (negated (Messages.message_at w n).ordered a.0) a.1
    arrived n e (inr ge) = cc (beyond n ge)

pub order-of : (setup : Setup) (w : LinkRecord) → Consistent setup w → InOrder w
order-of setup w g = record {
  ascend = λ s j k p q a b lt hp hq. g.sender.ascend s j k p q lt a b (slot-made w j p hp) (slot-made w k q hq) hp hq;
  known = λ n lt. at n (find (λ r. r.stream == (Messages.message_at w n).stream) w.streams) refl (g.known n lt);
}
  where
    at : (n : ℕ) (o : Option StreamRecord) → find (λ r. r.stream == (Messages.message_at w n).stream) w.streams ≡ o → is_some o ≡ true
        → (r : StreamRecord) × (find (λ r. r.stream == (Messages.message_at w n).stream) w.streams ≡ Some r)
    at n o h1 h2 = grind (arith, nat_tests)

all-fragments : (w : LinkRecord) (ps : List ℕ) → SlotsFit (shape w) ps → AllFragments w ps
all-fragments w [] f = tt
all-fragments w (p ∷ ps) f = (f.0, f.1, all-fragments w ps f.2)

all-namable : (w : LinkRecord) (upto : ℕ) (ns : List ℕ) → NamesFit (shape w) upto ns → AllNamable w upto ns
all-namable w upto [] f = tt
all-namable w upto (n ∷ ns) f = grind (arith, nat_tests, some-kept, slot-made, (all-namable w upto ns f.1))

near-span : (w : LinkRecord) → AllNear (view w) → (s : ℕ) → IsSpan w s []
near-span w near s =
    let n = near s in
    record {
      low = n.low;
      high = n.high;
      short = n.short;
      next = (n.above, n.below);
      held = λ k lt h. (n.held_above k lt h, n.held_below k lt h);
      others = λ y e. cc;
    }

pub record_is_valid : OnEveryRun RecordIsValid
record_is_valid setup h is run =
    let w = record_of setup h in
    let g = consistent-run setup h run in
    let r = received-run setup h is run in
    let fits = fit-run setup h run in
    record {
      valid = valid-of setup w (Log.log_of setup h) g r;
      unassembled = unassembled-of setup w (Log.log_of setup h) g r;
      order = order-of setup w g;
      network = record {
        carried = λ k slots e. all-fragments w slots (fit-at (shape w) w.network k (W.Data slots) fits e);
        named = λ k upto names e. let f = fit-at (shape w) w.network k (Forward upto names) fits e in (f.0, all-namable w upto names f.1);
      };
      near = near-span w (near-run setup h is run);
    }

-- ## The slots of a datagram, one after another

-- what the span test tells
pub span-fits : (w : LinkRecord) (s : ℕ) (more : List ℕ) → Receiver.fits w more s ≡ true → IsSpan w s more
span-fits w s more e =
    let n = Receiver.next_of w s in
    let held' = map (Messages.index_of w) (Receiver.held_on w s) in
    let near = Spans.near-fits w s more e in
    (grind (arith, nat_tests, Spans.near-others))

-- one message more than those that fit
pub span-open : (w : LinkRecord) (s : ℕ) (messages : List ℕ) → Receiver.spans_fit w messages ≡ true → Messages.is_open w s ≡ true
    → IsSpan w s (map (Messages.index_of w) (filter (Messages.is_ordered_on w s) messages))
span-open w s messages e o = by (Messages.stream_at w s) refl o
  where
    by : (f : Option StreamRecord) → Messages.stream_at w s ≡ f → is_some f ≡ true
        → IsSpan w s (map (Messages.index_of w) (filter (Messages.is_ordered_on w s) messages))
    by None f g = cc
    by (Some r) f g =
        let x = Spans.all-streams (λ t. Receiver.fits w (map (Messages.index_of w) (filter (Messages.is_ordered_on w t) messages)) t) w.streams s r e f in
        let z = found s w.streams r f in
        span-fits w s (map (Messages.index_of w) (filter (Messages.is_ordered_on w s) messages))
        (ap (λ t. Receiver.fits w (map (Messages.index_of w) (filter (Messages.is_ordered_on w t) messages)) t) (sym z) ∙ x)

-- the span of a later state serves an earlier one whose held messages are among the later ones
span-among : (w v : LinkRecord) (s : ℕ) (more fewer : List ℕ) → length w.messages ≤ length v.messages → Receiver.next_of w s ≡ Receiver.next_of v s → ((k : ℕ)
    → Messages.index_of w k ≡ Messages.index_of v k) → ((k : ℕ) → k < length w.messages → Receiver.is_held w s k ≡ true → Receiver.is_held v s k ≡ true)
    → ((y : ℕ) → list_any (λ z. z == y) fewer ≡ true → list_any (λ z. z == y) more ≡ true) → IsSpan v s more → IsSpan w s fewer
span-among w v s more fewer le next' index' held' others sp = grind (arith, nat_tests)

-- what the arrivals of slots leave, and what they add to
record Later (u v : View) : Type 0 where
  shapes : v.x ≡ u.x
  reads : v.read ≡ u.read
  names : v.named ≡ u.named
  skips : v.skipped ≡ u.skipped
  come : (n : ℕ) → come_count u n ≤ come_count v n
  arrived : (p : ℕ) → u.arrived p ≡ true → v.arrived p ≡ true

later-none : (v : View) → Later v v
later-none v = record { shapes = refl; reads = refl; names = refl; skips = refl; come = λ n. omega arith; arrived = λ p e. e }

later-then : (u v z : View) → Later u v → Later v z → Later u z
later-then u v z f g = grind (arith, nat_tests)

later-as : (u v z : View) → z ≡ v → Later u v → Later u z
later-as u v z e l = subst (Later u) (sym e) l

kept-more : (p q : ℕ → Bool) (from count : ℕ) → ((k : ℕ) → p k ≡ true → q k ≡ true) → length (numbers_where p from count) ≤ length (numbers_where q from count)
kept-more p q from zero h = omega arith
kept-more p q from (suc count) h = grind (arith, nat_tests, not_both, (kept-more p q (from + 1) count h))

later-slot : (setup : Setup) (w : LinkRecord) (p : ℕ) → Consistent setup w → p < length w.slots → Later (view w) (view (Changes.receive_slot w p))
later-slot setup w p g lt = by (Receiver.is_new w p) refl
  where
    first : Later (view w) (View.arrived_in (view w) p)
    first = grind (arith, nat_tests, kept-more)

    noted : (b : Bool) → Later (View.arrived_in (view w) p) (if b then View.noted_in (View.arrived_in (view w) p)
        (Messages.message_at w (Messages.message_of w p)).stream (Messages.message_of w p) else View.arrived_in (view w) p)
    noted true = record { shapes = refl; reads = refl; names = refl; skips = refl; come = λ n. omega arith; arrived = λ k e. e }
    noted false = later-none (View.arrived_in (view w) p)

    by : (b : Bool) → Receiver.is_new w p ≡ b → Later (view w) (view (Changes.receive_slot w p))
    by true e = later-as (view w) (Known.noting (View.arrived_in (view w) p) (Messages.message_of w p)) (view (Changes.receive_slot w p))
        (Known.view-received setup w p g lt e)
        (later-then (view w) (View.arrived_in (view w) p) (Known.noting (View.arrived_in (view w) p) (Messages.message_of w p)) first (noted
        (not (Messages.message_at w (Messages.message_of w p)).ordered && CompleteMessages.due (View.arrived_in (view w) p) (Messages.message_of w p))))
    by false e = grind (arith, nat_tests)

-- a state on the way
record Between (setup : Setup) (w : LinkRecord) : Type 0 where
  consistent : Consistent setup w
  log : List LogEntry
  received : Received w log

between-slot : (setup : Setup) (w : LinkRecord) (p : ℕ) → p < length w.slots → (Messages.slot_at w p).is_terminal_chunk ≡ false → Between setup w
    → Between setup (Changes.receive_slot w p)
between-slot setup w p lt terminal b = record {
  consistent = consistent-received setup w p b.consistent;
  log = Log.SlotReceived p ∷ b.log;
  received = (received-keeps setup).slot w b.log p b.consistent lt terminal b.received;
}

-- after these slots
between-slots : (setup : Setup) (ps : List ℕ) (w : LinkRecord) → SlotsFit (shape w) ps → Between setup w
    → Between setup (fold Changes.receive_slot w ps) × Later (view w) (view (fold Changes.receive_slot w ps))
between-slots setup [] w f b = (b, later-none (view w))
between-slots setup (p ∷ ps) w f b =
    let r = between-slots setup ps (Changes.receive_slot w p) (subst (λ x. SlotsFit x ps) (sym (Network.same-slot w p).shape_is) f.2)
    (between-slot setup w p f.0 f.1 b) in (
      r.0,
      later-then (view w) (view (Changes.receive_slot w p)) (view (fold Changes.receive_slot (Changes.receive_slot w p) ps))
          (later-slot setup w p b.consistent f.0) r.1,
    )

fold-append : {A B : Type 0} (f : B → A → B) (x : B) (xs ys : List A) → fold f x (xs ++ ys) ≡ fold f (fold f x xs) ys
fold-append f x [] ys = refl
fold-append f x (y ∷ xs) ys = fold-append f (f x y) xs ys

fits-front : (x : Shape) (ps qs : List ℕ) → SlotsFit x (ps ++ qs) → SlotsFit x ps × SlotsFit x qs
fits-front x [] qs f = (tt, f)
fits-front x (p ∷ ps) qs f = let r = fits-front x ps qs f.2 in ((f.0, f.1, r.0), r.1)

-- what was held before is held later
held-later : (u v : View) → Sender u.x → Later u v → (s k : ℕ) → k < u.x.count → held u s k ≡ true → held v s k ≡ true
held-later u v a l s k lt e =
    let h = Spans.held-of u s k e in
    let kind = on-ordered u.x s k h.on_it in
    Spans.is-held v s k (record {
      on_it = ap (λ x. on x s k) l.shapes ∙ h.on_it;
      unread = ap (λ r. r k) l.reads ∙ h.unread;
      some = let c = l.come k in omega (arith, c, h.some);
      kept_for = either (or-split (complete_at u k) (nat_le (u.named s) (index u.x k)) h.kept_for) kind;
    })
  where
    all : all_come u k ≡ true → all_come v k ≡ true
    all e = grind (arith, nat_tests, Known.come-sent)

    either : (complete_at u k ≡ true) ⊎ (nat_le (u.named s) (index u.x k) ≡ true) → (u.x.message k).ordered ≡ true
        → (complete_at v k || nat_le (v.named s) (index v.x k)) ≡ true
    either (inl w) o =
        let y : complete_at v k ≡ true = Ordered.ordered-at v k (ap (λ x. (x.message k).ordered) l.shapes ∙ o) ∙ all (sym (Ordered.ordered-at u k o) ∙ w) in
        ap (λ b. b || nat_le (v.named s) (index v.x k)) y
    either (inr n) o = grind (arith, nat_tests)

next-later : (u v : View) → Later u v → (s : ℕ) → next v s ≡ next u s
next-later u v l s = cc (l.names, l.reads, l.shapes)

-- what is new later was new before
new-later : (w v : LinkRecord) (p : ℕ) → Later (view w) (view v) → Receiver.is_new v p ≡ true → Receiver.is_new w p ≡ true
new-later w v p l e = grind (arith, nat_tests, new-unseen)

-- the index of a new slot's message is among those that the datagram adds
adds-it : (w : LinkRecord) (t : ℕ → Bool) (ps : List ℕ) (p : ℕ) (qs : List ℕ) → Receiver.is_new w p ≡ true → t (Messages.message_of w p) ≡ true
    → list_any (λ z. z == Messages.index_of w (Messages.message_of w p))
    (map (Messages.index_of w) (filter t (map (Messages.message_of w) (filter (Receiver.is_new w) (ps ++ p ∷ qs))))) ≡ true
adds-it w t [] p qs new on' = cc (new, on', same-yes (Messages.index_of w (Messages.message_of w p)))
adds-it w t (q ∷ ps) p qs new on' = grind (arith, nat_tests, or-right, (adds-it w t ps p qs new on'))

fits-after : (w : LinkRecord) (k : ℕ) (d : Datagram) → refusal_of w (E.Arrive k) ≡ None → slice_get w.network k ≡ Some d
    → (Receiver.spans_fit w (adds_to_span w (Some d)) ≡ true) × (Receiver.spans_fit (Changes.after_arrive w (Some d)) (adds_to_span w (Some d)) ≡ true)
fits-after w k d ok e = grind (arith, nat_tests)

pub slots_come_valid : OnEveryRun SlotsComeValid
slots_come_valid setup h is run k ps p qs ok e =
    record {
      made = there.0;
      fragment = there.1;
      valid = valid-of setup v b.log b.consistent b.received;
      unassembled = unassembled-of setup v b.log b.consistent b.received;
      order = order-of setup v b.consistent;
      near = λ s on' new. near s on' new;
    }
  where
    w : LinkRecord
    w = record_of setup h

    v : LinkRecord
    v = fold Changes.receive_slot w ps

    z : LinkRecord
    z = fold Changes.receive_slot w (ps ++ p ∷ qs)

    fit : SlotsFit (shape w) (ps ++ p ∷ qs)
    fit = fit-at (shape w) w.network k (W.Data (ps ++ p ∷ qs)) (fit-run setup h run) e

    parts' : SlotsFit (shape w) ps × SlotsFit (shape w) (p ∷ qs)
    parts' = fits-front (shape w) ps (p ∷ qs) fit

    start' : Between setup w
    start' = record { consistent = consistent-run setup h run; log = Log.log_of setup h; received = received-run setup h is run }

    first : Between setup v × Later (view w) (view v)
    first = between-slots setup ps w parts'.0 start'

    b : Between setup v
    b = first.0

    there : SlotsFit (shape v) (p ∷ qs)
    there = subst (λ x. SlotsFit x (p ∷ qs)) (sym first.1.shapes) parts'.1

    second : Between setup (fold Changes.receive_slot v (p ∷ qs)) × Later (view v) (view (fold Changes.receive_slot v (p ∷ qs)))
    second = between-slots setup (p ∷ qs) v there b

    complete-fold : z ≡ fold Changes.receive_slot v (p ∷ qs)
    complete-fold = fold-append Changes.receive_slot w ps (p ∷ qs)

    near : (s : ℕ) → Messages.is_ordered_on v s (Messages.message_of v p) ≡ true → Receiver.is_new v p ≡ true
        → IsSpan v s (Messages.index_of v (Messages.message_of v p) ∷ [])
    near s on' new =
        let l : Later (view v) (view z) = subst (λ y. Later (view v) (view y)) (sym complete-fold) second.1 in
        let all = later-then (view w) (view v) (view z) first.1 l in
        let m = Messages.message_of w p in
        let same : Messages.message_of v p ≡ m = ap (λ x. (x.slot p).message) first.1.shapes in
        let on-w : Messages.is_ordered_on w s m ≡ true = sym (ap (λ x. on x s m) first.1.shapes) ∙ ap (Messages.is_ordered_on v s) (sym same) ∙ on' in
        let index-v : (k : ℕ) → Messages.index_of v k ≡ Messages.index_of w k = λ k. ap (λ x. index x k) first.1.shapes in
        let index-z : (k : ℕ) → Messages.index_of z k ≡ Messages.index_of w k = λ k. ap (λ x. index x k) all.shapes in
        let after' = (fits-after w k (W.Data (ps ++ p ∷ qs)) ok e).1 in
        let opens : Messages.is_open z s ≡ true = subst (λ y. Messages.is_open y s ≡ true) (sym complete-fold)
        (ap (Messages.is_open (fold Changes.receive_slot v (p ∷ qs))) (sym (on-stream (shape w) s m on-w)
        ∙ ap (λ x. (x.message m).stream) (sym (second.1.shapes ∙ first.1.shapes)))
        ∙ second.0.consistent.known m
        (subst (λ x. m < x.count) (sym (second.1.shapes ∙ first.1.shapes)) ((consistent-run setup h run).sender.made p parts'.1.0))) in
        let span = span-open z s (adds_to_span w (Some (W.Data (ps ++ p ∷ qs)))) after' opens in
        span-among v z s (map (Messages.index_of z) (filter (Messages.is_ordered_on z s) (adds_to_span w (Some (W.Data (ps ++ p ∷ qs))))))
        (Messages.index_of v (Messages.message_of v p) ∷ [])
        (omega (arith, ap (λ x. x.count) l.shapes)) (sym (next-later (view v) (view z) l s)) (λ k. index-v k ∙ sym (index-z k))
        (λ k lt g. held-later (view v) (view z) b.consistent.sender l s k lt g)
        (λ y g. one y m same index-v index-z all.shapes (adds-it w (Messages.is_ordered_on w s) ps p qs (new-later w v p first.1 new) on-w) g) span
      where
        one : (y m : ℕ) → Messages.message_of v p ≡ m → ((k : ℕ) → Messages.index_of v k ≡ Messages.index_of w k)
            → ((k : ℕ) → Messages.index_of z k ≡ Messages.index_of w k) → shape z ≡ shape w → list_any (λ z. z == Messages.index_of w (Messages.message_of w p))
            (map (Messages.index_of w) (filter (Messages.is_ordered_on w s) (map (Messages.message_of w) (filter (Receiver.is_new w) (ps ++ p ∷ qs))))) ≡ true
            → ((Messages.index_of v (Messages.message_of v p) == y) || false) ≡ true → list_any (λ z. z == y)
            (map (Messages.index_of z) (filter (Messages.is_ordered_on z s) (map (Messages.message_of w) (filter (Receiver.is_new w) (ps ++ p ∷ qs))))) ≡ true
        one y m same iv iz shapes a g =
            let e' : Messages.index_of v (Messages.message_of v p) ≡ y = grind (arith, nat_tests) in
            let y' : Messages.index_of w (Messages.message_of w p) ≡ y =
            sym (iv (Messages.message_of v p) ∙ ap (Messages.index_of w) (ap (λ x. (x.slot p).message) first.1.shapes)) ∙ e' in
            ap (λ x. list_any (λ z. z == y) (map (index x) (filter (on x s) (map (Messages.message_of w) (filter (Receiver.is_new w) (ps ++ p ∷ qs)))))) shapes
            ∙ ap (λ i. list_any (λ z. z == i) (map (Messages.index_of w)
            (filter (Messages.is_ordered_on w s) (map (Messages.message_of w) (filter (Receiver.is_new w) (ps ++ p ∷ qs)))))) (sym y') ∙ a

pub skips_come_valid : OnEveryRun SkipsComeValid
skips_come_valid setup h is run k upto names ok e counts s opens = (
  span-open w s names (ap (Receiver.spans_fit w) (sym adds) ∙ two.0) opens,
  subst (λ x. IsSpan v s (map (index x) (filter (on x s) names)))
      (Network.same-received w (Some (Forward upto names))).shape_is (span-open v s names (ap (Receiver.spans_fit v) (sym adds) ∙ two.1) still-open),
)
  where
    w : LinkRecord
    w = record_of setup h

    v : LinkRecord
    v = Changes.after_arrive w (Some (Forward upto names))

    two : (Receiver.spans_fit w (adds_to_span w (Some (Forward upto names))) ≡ true)
        × (Receiver.spans_fit v (adds_to_span w (Some (Forward upto names))) ≡ true)
    two = fits-after w k (Forward upto names) ok e

    counted : Changes.skip_counts w upto ≡ true
    counted = grind (arith, nat_tests)

    adds : adds_to_span w (Some (Forward upto names)) ≡ names
    adds = ap (λ b. if b then names else []) counted

    still-open : Messages.is_open v s ≡ true
    still-open = grind (arith, nat_tests, open-mapped)
