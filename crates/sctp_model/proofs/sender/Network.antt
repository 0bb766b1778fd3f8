use Rattle.sctp_model.proofs.Names.{◌≡◌, ℕ, zero, suc, ◌+◌, ◌-◌, ◌<◌, ◌≤◌, ◌%◌, ◌^◌, Bool, true, false, List, [], ◌∷◌, ◌++◌, length, map, Option, Some, None}
use Rattle.sctp_model.proofs.Names.{refl, ap, sym, ◌∙◌, arith, append-nil, zero-add, if◌then◌else◌, ◌==◌, ◌&&◌, ◌||◌, not, nat_le, nat_lt, fold, slice_get}
use Rattle.sctp_model.proofs.Names.{slice_index_or, max, list_any, list_all, subst, cases_lt, nat_tests, numbers_where, always, numbers_from, change_at, pieces}
use Rattle.sctp_model.proofs.Names.{length-kept-lt, length-kept-mono, kept-same, fails, not_both, both, fresh, Event, Setup, Datagram, Forward, Sack}
use Rattle.sctp_model.proofs.Names.{LinkRecord, report_of, chunk_at, name_of, contents_of, contents_in, History, record_of, IsRun, refusal_of, after, can_name}
use Rattle.sctp_model.proofs.Names.{is_ended, can_resend, OnEveryRun, NoTerminalChunkIsSent, DatagramsStay, by_last, negated, slice-front, all-out}
use Rattle.sctp_model.proofs.Names.{common_steps}
use Rattle.sctp_data.specs.PayloadData.{Data}
use Rattle.sctp_model.specs.declared.event.Event.TheVariants as E
use Rattle.sctp_model.specs.LinkRecord as W
use Rattle.sctp_model.specs.Messages
use Rattle.sctp_model.specs.Receiver
use Rattle.sctp_model.specs.Changes
use Rattle.sctp_model.proofs.sender.Shape.{Shape, MessagePart, shape, has, sent, parts, index, slotted}
use Rattle.sctp_model.proofs.sender.Sender.{Sender, slot-old, slot-new}
use Rattle.sctp_model.proofs.sender.Slots.{sent-made}
use Rattle.sctp_model.proofs.sender.Shapes
use Rattle.sctp_model.proofs.sender.SenderRun.{Consistent, consistent-run, consistent-started, filled-keeps, fold-keeps}
use Rattle.sctp_model.proofs.sender.Grows.{Grows, IsEnded, as_written, grows-same, parts-grown}
use Rattle.sctp_model.proofs.sender.Moves
use Rattle.sctp_model.proofs.sender.Fronts.{slot-sent, mark-abandoned}

-- What lies in the network stays true as the record grows.

-- ## Each event extends the record

pub record Extends (w v : LinkRecord) : Type 0 where
  pub setup : v.setup ≡ w.setup
  pub network : (rest : List Datagram) × (v.network ≡ w.network ++ rest)
  pub grows : Grows (shape w) (shape v)

of-quiet : (w v : LinkRecord) → Moves.Quiet w v → Extends w v
of-quiet w v q = record { setup = q.setup; network = q.network; grows = q.grows }

-- the receiver's events leave messages and slots
pub record Same (w v : LinkRecord) : Type 0 where
  pub setup : v.setup ≡ w.setup
  pub network : v.network ≡ w.network
  pub shape_is : shape v ≡ shape w

extends-same : (w v : LinkRecord) → Same w v → Extends w v
extends-same w v s = record { setup = s.setup; network = ([], s.network ∙ sym (append-nil w.network)); grows = grows-same (shape w) (shape v) s.shape_is }

same-noted : (v : LinkRecord) (n : ℕ) → Same v (Changes.note_completion v n)
same-noted v n = grind (arith, nat_tests)

same-then : (w v u : LinkRecord) → Same w v → Same v u → Same w u
same-then w v u f g = record { setup = g.setup ∙ f.setup; network = g.network ∙ f.network; shape_is = g.shape_is ∙ f.shape_is }

pub same-slot : (w : LinkRecord) (p : ℕ) → Same w (Changes.receive_slot w p)
same-slot w p = step (Receiver.is_new w p)
  where
    step : (b : Bool) → Same w (if b then Changes.note_completion (record w { slots = change_at Changes.mark_arrived p w.slots }) (Messages.message_of w p)
        else record w { duplicates = w.duplicates ++ p ∷ [] })
    step true =
        let v : LinkRecord = record w { slots = change_at Changes.mark_arrived p w.slots } in
        same-then w v (Changes.note_completion v (Messages.message_of w p)) (record { setup = refl; network = refl; shape_is = Shapes.shape-arrived w p })
        (same-noted v (Messages.message_of w p))
    step false = record { setup = refl; network = refl; shape_is = refl }

pub same-slots : (w : LinkRecord) (ps : List ℕ) → Same w (fold Changes.receive_slot w ps)
same-slots w ps = fold-keeps (Same w) Changes.receive_slot (λ v p s. same-then w v (Changes.receive_slot v p) s (same-slot v p)) ps w
    (record { setup = refl; network = refl; shape_is = refl })

pub same-received : (w : LinkRecord) (o : Option Datagram) → Same w (Changes.after_arrive w o)
same-received w o = grind (arith, nat_tests, same-slots)

pub same-taken : (w : LinkRecord) (o : Option Datagram) → Same w (Changes.after_acked w o)
same-taken w None = record { setup = refl; network = refl; shape_is = refl }
same-taken w (Some (W.Data ps)) = record { setup = refl; network = refl; shape_is = refl }
same-taken w (Some (Forward upto names)) = record { setup = refl; network = refl; shape_is = refl }
same-taken w (Some (Sack r)) = record { setup = refl; network = refl; shape_is = Shapes.shape-acknowledged w r (max w.taken r.cumulative) }

pub same-read : (w : LinkRecord) (s : ℕ) (o : Option ℕ) → Same w (Changes.read_of w s o)
same-read w s None = record { setup = refl; network = refl; shape_is = refl }
same-read w s (Some n) = record { setup = refl; network = refl; shape_is = Shapes.shape-read w n }

-- it changes neither which messages there are nor which of their fragments were sent
abbrev pub leaves_shape : Event → Bool
leaves_shape (E.Write s ppi (b ∷ bs)) = false
leaves_shape (E.Send now) = false
leaves_shape (E.Expire now) = false
leaves_shape (E.Tail now) = false
leaves_shape (E.Late now) = false
leaves_shape (E.Abandon tsn) = false
leaves_shape event = true

pub shape-after : (w : LinkRecord) (e : Event) → leaves_shape e ≡ true → shape (after w e) ≡ shape w
shape-after w e h1 = grind (arith, nat_tests, Shapes.shape-started, same-received, same-taken, same-read)

one-datagram : (w v : LinkRecord) (d : Datagram) → v.setup ≡ w.setup → v.network ≡ w.network ++ d ∷ [] → shape v ≡ shape w → Extends w v
one-datagram w v d a b c = record { setup = a; network = (d ∷ [], b); grows = grows-same (shape w) (shape v) c }

pub extends-after : (setup : Setup) (w : LinkRecord) (e : Event) → refusal_of w e ≡ None → Consistent setup w → Extends w (after w e)
extends-after setup w (E.Open s) ok g = extends-same w (Changes.after_open w s) (record { setup = refl; network = refl; shape_is = refl })
extends-after setup w (E.Mode s unordered reliability value) ok g = grind (arith, nat_tests, extends-same)
extends-after setup w (E.Ack credit) ok g = one-datagram w (Changes.after_ack w credit) (Sack (report_of w credit)) refl refl refl
extends-after setup w (E.Arrive k) ok g = extends-same w (Changes.after_arrive w (slice_get w.network k)) (same-received w (slice_get w.network k))
extends-after setup w (E.Acked k) ok g = extends-same w (Changes.after_acked w (slice_get w.network k)) (same-taken w (slice_get w.network k))
extends-after setup w (E.Read s) ok g = extends-same w (Changes.after_reading w s) (same-read w s (Receiver.next_read w s))
extends-after setup w event ok g = of-quiet w (after w event) (Moves.quiet-after setup w event refl g)

-- ## What lies in the network

abbrev pub SlotsFit : Shape → List ℕ → Type 0
SlotsFit x [] = Unit {0}
SlotsFit x (p ∷ ps) = (p < x.slots) × ((x.slot p).is_terminal_chunk ≡ false) × SlotsFit x ps

-- a message that a skip names
pub record IsNamable (x : Shape) (upto n : ℕ) : Type 0 where
  pub ordered : (x.message n).ordered ≡ true
  pub some : 0 < sent x n
  pub ended : IsEnded x n
  pub within : (q : ℕ) → q < x.slots → has x n q ≡ true → q ≤ upto

abbrev pub NamesFit : Shape → ℕ → List ℕ → Type 0
NamesFit x upto [] = Unit {0}
NamesFit x upto (n ∷ ns) = IsNamable x upto n × NamesFit x upto ns

abbrev pub Fits : Shape → Datagram → Type 0
Fits x (W.Data ps) = SlotsFit x ps
Fits x (Forward upto names) = (upto < x.slots) × NamesFit x upto names
Fits x (Sack r) = Unit {0}

abbrev pub AllFit : Shape → List Datagram → Type 0
AllFit x [] = Unit {0}
AllFit x (d ∷ ds) = Fits x d × AllFit x ds

slots-grown : (x y : Shape) → Grows x y → (ps : List ℕ) → SlotsFit x ps → SlotsFit y ps
slots-grown x y g [] f = tt
slots-grown x y g (p ∷ ps) f = (omega (arith, f.0, g.slots), ap (λ s. s.is_terminal_chunk) (g.slot p f.0) ∙ f.1, slots-grown x y g ps f.2)

-- an ended message has no slot past those it had
no-later : (x y : Shape) → Grows x y → (n q : ℕ) → 0 < sent x n → IsEnded x n → x.slots ≤ q → q < y.slots → has y n q ≡ true → ⊥
no-later x y g n q pos e a b h =
    let old : length (numbers_where (has y n) 0 x.slots) ≡ sent x n = grind (arith, nat_tests, kept-same) in
    absurd
    (omega (arith, g.ended n pos e, old, length-kept-mono (has y n) 0 x.slots q a, length-kept-lt (has y n) 0 q y.slots (ap (has y n) (zero-add q) ∙ h) b))

pub namable-grown : (x y : Shape) → Sender x → Grows x y → (upto n : ℕ) → IsNamable x upto n → IsNamable y upto n
namable-grown x y s g upto n f = grind (arith, nat_tests, parts-grown, cases_lt, sent-made, no-later)

pub names-grown : (x y : Shape) → Sender x → Grows x y → (upto : ℕ) (ns : List ℕ) → NamesFit x upto ns → NamesFit y upto ns
names-grown x y s g upto [] f = tt
names-grown x y s g upto (n ∷ ns) f = (namable-grown x y s g upto n f.0, names-grown x y s g upto ns f.1)

pub fits-grown : (x y : Shape) → Sender x → Grows x y → (d : Datagram) → Fits x d → Fits y d
fits-grown x y h1 h2 d h3 = grind (arith, nat_tests, slots-grown, names-grown)

all-grown : (x y : Shape) → Sender x → Grows x y → (ds : List Datagram) → AllFit x ds → AllFit y ds
all-grown x y s g [] f = tt
all-grown x y s g (d ∷ ds) f = (fits-grown x y s g d f.0, all-grown x y s g ds f.1)

all-fit-append : (x : Shape) (ds es : List Datagram) → AllFit x ds → AllFit x es → AllFit x (ds ++ es)
all-fit-append x [] es a b = b
all-fit-append x (d ∷ ds) es a b = (a.0, all-fit-append x ds es a.1 b)

pub fit-at : (x : Shape) (ds : List Datagram) (k : ℕ) (d : Datagram) → AllFit x ds → slice_get ds k ≡ Some d → Fits x d
fit-at x [] k d a e = cc
fit-at x (c ∷ ds) zero d a e = let z : c ≡ d = cc in subst (Fits x) z a.0
fit-at x (c ∷ ds) (suc k) d a e = fit-at x ds k d a.1 e

-- what no datagram of its own adds
fit-kept : (w v : LinkRecord) → Sender (shape w) → Grows (shape w) (shape v) → v.network ≡ w.network → AllFit (shape w) w.network → AllFit (shape v) v.network
fit-kept w v s g e a = subst (AllFit (shape v)) (sym e) (all-grown (shape w) (shape v) s g w.network a)

-- ## What a send adds

-- the slots that a send adds have fragments
record Adds (setup : Setup) (w v : LinkRecord) : Type 0 where
  reached : Moves.Reached setup w v
  fragments : (p : ℕ) → length w.slots ≤ p → p < length v.slots → (Messages.slot_at v p).is_terminal_chunk ≡ false

adds-more : (setup : Setup) (w : LinkRecord) → Consistent setup w → (v : LinkRecord) → Adds setup w v → Adds setup w (Changes.send_fragment v)
adds-more setup w g v a = record { reached = Moves.reached-more setup w g v a.reached; fragments = step (Messages.front v) }
  where
    step : (o : Option ℕ) → (p : ℕ) → length w.slots ≤ p → p < length (Changes.send_fragment_of v o).slots
        → (Messages.slot_at (Changes.send_fragment_of v o) p).is_terminal_chunk ≡ false
    step None p low high = a.fragments p low high
    step (Some n) p low high = by_last {P = ((shape (Changes.with_slot v n false)).slot p).is_terminal_chunk ≡ false} p (length v.slots)
        (omega (arith, high, ap (λ y. y.slots) (Shapes.shape-slot v n false)))
        (λ o. ap (λ y. (y.slot p).is_terminal_chunk) (Shapes.shape-slot v n false) ∙ ap (λ y. y.is_terminal_chunk) (slot-old (shape v) n p false o)
        ∙ a.fragments p low o)
        (λ e. ap (λ y. (y.slot p).is_terminal_chunk) (Shapes.shape-slot v n false) ∙ ap (λ q. ((slotted (shape v) n false).slot q).is_terminal_chunk) e
        ∙ ap (λ y. y.is_terminal_chunk) (slot-new (shape v) n false))

adds-sent : (setup : Setup) (w : LinkRecord) (now : ℕ) → Consistent setup w → Adds setup w (Changes.send_fragments (Changes.after_start w now))
adds-sent setup w now g =
    let u = Changes.after_start w now in
    let base : Adds setup w u =
    record {
      reached = record { consistent = consistent-started setup w now g; quiet = Moves.quiet-started w now };
      fragments = λ p a b. absurd (omega arith);
    } in
    filled-keeps (Adds setup w) (adds-more setup w g) u.setup.limit (Changes.plus 12 (Changes.next_length u)) (Changes.send_fragment u)
    (adds-more setup w g u base)

pub slots-fit : (x : Shape) (from count : ℕ) → ((p : ℕ) → from ≤ p → p < from + count → (p < x.slots) × ((x.slot p).is_terminal_chunk ≡ false))
    → SlotsFit x (numbers_where always from count)
slots-fit x from zero h = tt
slots-fit x from (suc count) h = let a = h from (omega arith) (omega arith) in
    (a.0, a.1, slots-fit x (from + 1) count (λ p i j. h p (omega arith) (omega arith)))

pub network-more : (v : LinkRecord) → (Changes.send_fragment v).network ≡ v.network
network-more v = elim (Messages.front v) as (λ o. (Changes.send_fragment_of v o).network ≡ v.network) [ None ↦ refl | Some n ↦ refl ]

pub same-network : (u : LinkRecord) → (Changes.send_fragments u).network ≡ u.network
same-network u = filled-keeps (λ v. v.network ≡ u.network) (λ v e. network-more v ∙ e) u.setup.limit (Changes.plus 12 (Changes.next_length u))
    (Changes.send_fragment u) (network-more u)

fit-sent : (setup : Setup) (w : LinkRecord) (now : ℕ) (o : Option ℕ) → Consistent setup w → AllFit (shape w) w.network
    → AllFit (shape (Changes.send_from (Changes.after_start w now) o)) (Changes.send_from (Changes.after_start w now) o).network
fit-sent setup w now None g a = fit-kept w (Changes.after_start w now) g.sender (Moves.quiet-started w now).grows refl a
fit-sent setup w now (Some n) g a =
    let u = Changes.after_start w now in
    let v = Changes.send_fragments u in
    let d = adds-sent setup w now g in
    all-fit-append (shape v) v.network (W.Data (numbers_from (length u.slots) (length v.slots - length u.slots)) ∷ [])
    (all-of d.reached.quiet) (
      slots-fit (shape v) (length u.slots) (length v.slots - length u.slots)
          (λ p i j. (omega (arith, d.reached.quiet.grows.slots), d.fragments p (omega arith) (omega (arith, d.reached.quiet.grows.slots)))),
      tt,
    )
  where
    -- no datagram is made before the slots are
    all-of : Moves.Quiet w (Changes.send_fragments (Changes.after_start w now))
        → AllFit (shape (Changes.send_fragments (Changes.after_start w now))) (Changes.send_fragments (Changes.after_start w now)).network
    all-of q = fit-kept w (Changes.send_fragments (Changes.after_start w now)) g.sender q.grows (same-network (Changes.after_start w now)) a

pub namable : (w : LinkRecord) (upto n : ℕ) → Sender (shape w) → can_name w upto n ≡ true → IsNamable (shape w) upto n
namable w upto n s e =
    let a = both (nat_lt n (length w.messages)) ((Messages.message_at w n).ordered && (is_ended w n
    && (not (Messages.message_at w n).expired && list_all (λ place. nat_le place upto) (Messages.slots_where w (Messages.belongs_to w n))))) e in
    let b = both (Messages.message_at w n).ordered (is_ended w n
    && (not (Messages.message_at w n).expired && list_all (λ place. nat_le place upto) (Messages.slots_where w (Messages.belongs_to w n)))) a.1 in
    let c = both (is_ended w n)
    (not (Messages.message_at w n).expired && list_all (λ place. nat_le place upto) (Messages.slots_where w (Messages.belongs_to w n))) b.1 in
    let d = both (not (Messages.message_at w n).expired) (list_all (λ place. nat_le place upto) (Messages.slots_where w (Messages.belongs_to w n))) c.1 in
    let low = a.0 in
    let lt : n < length w.messages = grind (arith, nat_tests) in
    record {
      ordered = b.0;
      some = some lt (ended (sent (shape w) n == parts (shape w) n) refl c.0);
      ended = ended (sent (shape w) n == parts (shape w) n) refl c.0;
      within = λ q l h. let t : nat_le q upto ≡ true = all-out (λ place. nat_le place upto) (Messages.belongs_to w n) q 0 (length w.slots) d.1 (omega arith)
          (omega arith) (both (Messages.belongs_to w n q) (not (Messages.slot_at w q).is_terminal_chunk) h).0 in grind (arith, nat_tests);
    }
  where
    ended : (t : Bool) → (sent (shape w) n == parts (shape w) n) ≡ t → (t || (Messages.message_at w n).abandoned) ≡ true → IsEnded (shape w) n
    ended t h1 h2 = grind (arith, nat_tests)

    some : n < length w.messages → IsEnded (shape w) n → 0 < sent (shape w) n
    some h1 h2 = grind (arith, nat_tests)

pub names-fit : (w : LinkRecord) (upto : ℕ) (ns : List ℕ) → Sender (shape w) → list_all (can_name w upto) ns ≡ true → NamesFit (shape w) upto ns
names-fit w upto [] s e = tt
names-fit w upto (n ∷ ns) s e = let a = both (can_name w upto n) (list_all (can_name w upto) ns) e in (namable w upto n s a.0, names-fit w upto ns s a.1)

-- ## In every history

pub network-abandoned : (w : LinkRecord) (n : ℕ) → (Changes.after_abandon w n).network ≡ w.network
network-abandoned w n = grind (arith, nat_tests)

pub network-late : (ns : List ℕ) (w : LinkRecord) → (fold Changes.after_abandon w ns).network ≡ w.network
network-late [] w = refl
network-late (n ∷ ns) w = network-late ns (Changes.after_abandon w n) ∙ network-abandoned w n

pub network-tail : (w : LinkRecord) (o : Option ℕ) → (Changes.after_tail w o).network ≡ w.network
network-tail w o = grind (arith, nat_tests)

pub network-expired : (w : LinkRecord) (o : Option ℕ) → (Changes.after_expire w o).network ≡ w.network
network-expired w o = grind (arith, nat_tests)

-- it makes no datagram
abbrev pub makes_none : Event → Bool
makes_none (E.Send now) = false
makes_none (E.Resend tsn) = false
makes_none (E.Skip upto names) = false
makes_none (E.Ack credit) = false
makes_none event = true

pub network-after : (w : LinkRecord) (e : Event) → makes_none e ≡ true → (after w e).network ≡ w.network
network-after w e h1 =
    grind (arith, nat_tests, network-expired, network-tail, network-late, same-received)

resend-ok : (w : LinkRecord) (p : ℕ) → Sender (shape w) → can_resend w p ≡ true → SlotsFit (shape w) (p ∷ [])
resend-ok w p s e =
    let a = both (Messages.is_in_flight w p) (not (Messages.slot_at w p).acknowledged && not (Messages.message_at w (Messages.message_of w p)).abandoned) e in
    let b = both (not (Messages.slot_at w p).acknowledged) (not (Messages.message_at w (Messages.message_of w p)).abandoned) a.1 in
    let low = (both (nat_le w.taken p) (nat_lt p (length w.slots)) a.0).1 in
    let lt : p < length w.slots = grind (arith, nat_tests) in (
      lt,
      fails (Messages.slot_at w p).is_terminal_chunk
          (λ m. not_both (sym (negated (Messages.message_at w (Messages.message_of w p)).abandoned b.1) ∙ mark-abandoned (shape w) p s lt m)),
      tt,
    )

pub fit-after : (setup : Setup) (w : LinkRecord) (e : Event) → refusal_of w e ≡ None → Consistent setup w → AllFit (shape w) w.network
    → AllFit (shape (after w e)) (after w e).network
fit-after setup w (E.Send now) ok g a = fit-sent setup w now (Messages.front w) g a
fit-after setup w (E.Resend tsn) ok g a = grind (arith, nat_tests, all-fit-append, resend-ok)
fit-after setup w (E.Skip upto names) ok g a = grind (arith, nat_tests, all-fit-append, names-fit)
fit-after setup w (E.Ack credit) ok g a = all-fit-append (shape w) w.network (Sack (report_of w credit) ∷ []) a (tt, tt)
fit-after setup w event ok g a = fit-kept w (after w event) g.sender (extends-after setup w event ok g).grows (network-after w event refl) a

pub fit-run : (setup : Setup) (h : History) → IsRun setup h → AllFit (shape (record_of setup h)) (record_of setup h).network
fit-run setup [] run = tt
fit-run setup (entry ∷ older) run = fit-after setup (record_of setup older) entry.0 run.0 (consistent-run setup older run.1.1) (fit-run setup older run.1.1)

-- ## The laws

pub no_terminal_chunk_is_sent : OnEveryRun NoTerminalChunkIsSent
no_terminal_chunk_is_sent setup h is run k slots e =
    none slots (fit-at (shape (record_of setup h)) (record_of setup h).network k (W.Data slots) (fit-run setup h run) e)
  where
    none : (ps : List ℕ) → SlotsFit (shape (record_of setup h)) ps → list_any (λ p. (Messages.slot_at (record_of setup h) p).is_terminal_chunk) ps ≡ false
    none [] f = refl
    none (p ∷ ps) f = ap (λ b. b || list_any (λ p. (Messages.slot_at (record_of setup h) p).is_terminal_chunk) ps) f.1 ∙ none ps f.2

-- what a chunk says, by what was written and sent
abbrev said : MessagePart → ℕ → ℕ → ℕ → ℕ → Data
said m size place i tsn =
    record {
      unordered = not m.ordered;
      beginning_fragment = i == 0;
      ending_fragment = i + 1 == length (pieces (length m.bytes) size m.bytes);
      immediate_sack = false;
      tsn = tsn;
      stream_identifier = m.stream;
      stream_sequence_number = (if m.ordered then place else m.before) % 2 ^ 16;
      payload_type = m.ppi;
      user_data = slice_index_or (pieces (length m.bytes) size m.bytes) i [];
    }

-- the number of a message in its stream
place-stays : (x y : Shape) → Grows x y → (n : ℕ) → 0 < sent x n → (m : MessagePart) (size i tsn : ℕ) → m.ordered ≡ (x.message n).ordered
    → said m size (index y n) i tsn ≡ said m size (index x n) i tsn
place-stays x y g n pos m size i tsn e = grind (arith, nat_tests)

pub chunk-stays : (w v : LinkRecord) (p : ℕ) → Sender (shape w) → Extends w v → p < length w.slots → chunk_at v p ≡ chunk_at w p
chunk-stays w v p s x lt =
    let n = Messages.message_of w p in
    let g = x.grows in
    let made = s.made p lt in
    let pos = slot-sent (shape w) p s lt in
    let first : v.setup.first ≡ w.setup.first = ap (λ t. t.first) x.setup in
    ap (λ f. fresh (said (as_written ((shape v).message ((shape v).slot p).message)) (shape v).size (index (shape v) ((shape v).slot p).message)
    ((shape v).slot p).fragment ((f + p) % 2 ^ 32))) first
    ∙ ap (λ z. fresh (said (as_written ((shape v).message z.message)) (shape v).size (index (shape v) z.message) z.fragment (Messages.tsn_of w p)))
    (g.slot p lt) ∙ ap (λ m. fresh (said m (shape v).size (index (shape v) n) ((shape w).slot p).fragment (Messages.tsn_of w p))) (g.message n made)
    ∙ ap (λ c. fresh (said (as_written ((shape w).message n)) c (index (shape v) n) ((shape w).slot p).fragment (Messages.tsn_of w p))) g.size ∙ ap fresh
    (place-stays (shape w) (shape v) g n pos (as_written ((shape w).message n)) (shape w).size ((shape w).slot p).fragment (Messages.tsn_of w p) refl)

chunks-stay : (w v : LinkRecord) → Sender (shape w) → Extends w v → (ps : List ℕ) → SlotsFit (shape w) ps → map (chunk_at v) ps ≡ map (chunk_at w) ps
chunks-stay w v s x [] f = refl
chunks-stay w v s x (p ∷ ps) f = ap (λ c. c ∷ map (chunk_at v) ps) (chunk-stays w v p s x f.0) ∙ ap (λ l. chunk_at w p ∷ l) (chunks-stay w v s x ps f.2)

name-stays : (w v : LinkRecord) (upto n : ℕ) → Sender (shape w) → Extends w v → IsNamable (shape w) upto n → name_of v n ≡ name_of w n
name-stays w v upto n s x f = grind (arith, nat_tests, common_steps)

names-stay : (w v : LinkRecord) (upto : ℕ) → Sender (shape w) → Extends w v → (ns : List ℕ) → NamesFit (shape w) upto ns
    → map (name_of v) ns ≡ map (name_of w) ns
names-stay w v upto s x [] f = refl
names-stay w v upto s x (n ∷ ns) f = cc (name-stays w v upto n s x f.0, names-stay w v upto s x ns f.1)

pub contents-stay : (w v : LinkRecord) (d : Datagram) → Sender (shape w) → Extends w v → Fits (shape w) d → contents_of v d ≡ contents_of w d
contents-stay w v d h1 h2 h3 = grind (arith, nat_tests, chunks-stay, names-stay)

pub datagrams_stay : OnEveryRun DatagramsStay
datagrams_stay setup h is run event k ok lt =
    let w = record_of setup h in
    let g = consistent-run setup h run in
    let x = extends-after setup w event ok g in
    ap (λ ds. contents_in (after w event) (slice_get ds k)) x.network.1
    ∙ ap (contents_in (after w event)) (slice-front w.network x.network.0 k lt)
    ∙ at (slice_get w.network k) refl x g.sender
  where
    at : (o : Option Datagram) → slice_get (record_of setup h).network k ≡ o → Extends (record_of setup h) (after (record_of setup h) event)
        → Sender (shape (record_of setup h)) → contents_in (after (record_of setup h) event) o ≡ contents_in (record_of setup h) o
    at None e x s = refl
    at (Some d) e x s = ap Some (contents-stay (record_of setup h) (after (record_of setup h) event) d s x
        (fit-at (shape (record_of setup h)) (record_of setup h).network k d (fit-run setup h run) e))
