-- In every history the sender's slots are valid.
use Rattle.sctp_model.proofs.Names.{◌≡◌, ℕ, zero, suc, ◌+◌, ◌<◌, ◌^◌, Bool, true, false, List, [], ◌∷◌, ◌++◌, length, map, Option, Some, None, refl, ap, sym}
use Rattle.sctp_model.proofs.Names.{◌∙◌, arith, add-one, if◌then◌else◌, ◌==◌, ◌&&◌, nat_lt, find, is_some, slice_get, fold, nat_le, unwrap_or, subst, nat_tests}
use Rattle.sctp_model.proofs.Names.{filter, numbers_where, always, numbers_from, total_over, change_at, kept-snoc_in, both, Event, LinkRefusal, StreamUnknown}
use Rattle.sctp_model.proofs.Names.{MessageTooLarge, TsnsUsedUp, NotInFlight, PayloadProtocolIdentifier, Setup, StreamRecord, Message, Datagram, Data, Forward}
use Rattle.sctp_model.proofs.Names.{Sack, LinkRecord, start, History, record_of, IsRun, refusal_of, after, unless, fragments_accepted, fragments_in, by_last}
use Rattle.sctp_model.proofs.Names.{total-append, total-kept_same}
use Rattle.sctp_model.specs.declared.event.Event.TheVariants as E
use Rattle.sctp_model.specs.Messages
use Rattle.sctp_model.specs.Receiver
use Rattle.sctp_model.specs.Changes
use Rattle.sctp_model.proofs.sender.Shape.{Shape, MessagePart, shape, message_part, sent, parts, slotted, written, abandoned_at, expired_at}
use Rattle.sctp_model.proofs.sender.Sender.{Sender}
use Rattle.sctp_model.proofs.sender.SenderSteps.{sender-takes, of-partial, sent-grows}
use Rattle.sctp_model.proofs.sender.SenderEnds.{sender-marked, sender-abandoned, sender-expired, sender-written, message-old, message-new, parts-old}
use Rattle.sctp_model.proofs.sender.Shapes
use Rattle.sctp_model.proofs.sender.Fronts.{front-takes, slot-sent, of-unsent}

-- ## The invariant

abbrev pub accepted_of : Shape → ℕ
accepted_of x = total_over (parts x) (numbers_from 0 x.count)

abbrev pub open_in : List StreamRecord → ℕ → Bool
open_in rs s = is_some (find (λ r. r.stream == s) rs)

pub record ConsistentIn (setup own : Setup) (x : Shape) (rs : List StreamRecord) : Type 0 where
  pub setup_is : own ≡ setup
  pub sender : Sender x
  pub accepted : accepted_of x < 2 ^ 31
  -- each message's stream is open
  pub known : (n : ℕ) → n < x.count → open_in rs (x.message n).stream ≡ true

abbrev pub Consistent : Setup → LinkRecord → Type 0
Consistent setup w = ConsistentIn setup w.setup (shape w) w.streams

pub consistent-shape : (setup own : Setup) (x y : Shape) (rs : List StreamRecord) → y ≡ x → ConsistentIn setup own x rs → ConsistentIn setup own y rs
consistent-shape setup own x y rs e g = subst (λ z. ConsistentIn setup own z rs) (sym e) g

-- ## Streams

pub open-mapped : (f : StreamRecord → StreamRecord) (s : ℕ) (rs : List StreamRecord) → ((r : StreamRecord) → (f r).stream ≡ r.stream)
    → open_in (map f rs) s ≡ open_in rs s
open-mapped f s [] keeps = refl
open-mapped f s (r ∷ rs) keeps = grind (arith, nat_tests, (open-mapped f s rs keeps))

open-more : (r : StreamRecord) (s : ℕ) (rs : List StreamRecord) → open_in rs s ≡ true → open_in (rs ++ r ∷ []) s ≡ true
open-more r s [] e = cc
open-more r s (q ∷ rs) e = step (q.stream == s) e (λ h. open-more r s rs h)
  where
    step : (a : Bool) → is_some (if a then Some q else find (λ r. r.stream == s) rs) ≡ true → (open_in rs s ≡ true → open_in (rs ++ r ∷ []) s ≡ true)
        → is_some (if a then Some q else find (λ r. r.stream == s) (rs ++ r ∷ [])) ≡ true
    step a h1 h2 = grind (arith, nat_tests)

pub consistent-streams : (setup own : Setup) (x : Shape) (rs ss : List StreamRecord) → ((s : ℕ) → open_in rs s ≡ true → open_in ss s ≡ true)
    → ConsistentIn setup own x rs → ConsistentIn setup own x ss
consistent-streams setup own x rs ss more g = grind (arith, nat_tests)

pub consistent-mapped : (setup own : Setup) (x : Shape) (rs : List StreamRecord) (f : StreamRecord → StreamRecord)
    → ((r : StreamRecord) → (f r).stream ≡ r.stream) → ConsistentIn setup own x rs → ConsistentIn setup own x (map f rs)
consistent-mapped setup own x rs f keeps g = consistent-streams setup own x rs (map f rs) (λ s e. open-mapped f s rs keeps ∙ e) g

pub stream-where : (s : ℕ) (f : StreamRecord → StreamRecord) → ((r : StreamRecord) → (f r).stream ≡ r.stream) → (r : StreamRecord)
    → (if r.stream == s then f r else r).stream ≡ r.stream
stream-where s f keeps r = elim (r.stream == s) as (λ b. (if b then f r else r).stream ≡ r.stream) [ true ↦ keeps r | false ↦ refl ]

pub consistent-changed : (setup : Setup) (w : LinkRecord) (s : ℕ) (f : StreamRecord → StreamRecord) → ((r : StreamRecord) → (f r).stream ≡ r.stream)
    → Consistent setup w → Consistent setup (Changes.stream_changed w s f)
consistent-changed setup w s f keeps g = consistent-mapped setup w.setup (shape w) w.streams (λ r. if r.stream == s then f r else r) (stream-where s f keeps) g

-- ## Folds

pub fold-keeps : {A : Type 0} (P : LinkRecord → Type 0) (f : LinkRecord → A → LinkRecord) → ((v : LinkRecord) (a : A) → P v → P (f v a))
    → (xs : List A) (w : LinkRecord) → P w → P (fold f w xs)
fold-keeps P f keeps [] w p = p
fold-keeps P f keeps (x ∷ xs) w p = fold-keeps P f keeps xs (f w x) (keeps w x p)

pub filled-keeps : (P : LinkRecord → Type 0) → ((v : LinkRecord) → P v → P (Changes.send_fragment v)) → (most used : ℕ) (w : LinkRecord) → P w
    → P (Changes.fill_datagram most used w)
filled-keeps P keeps zero used w p = p
filled-keeps P keeps (suc most) used w p =
    grind (arith, nat_tests, (filled-keeps P keeps most (Changes.plus used (Changes.next_length w)) (Changes.send_fragment w) (keeps w p)))

pub sends-keep : (P : LinkRecord → Type 0) → ((v : LinkRecord) → P v → P (Changes.send_fragment v)) → (w : LinkRecord) → P w → P (Changes.send_fragments w)
sends-keep P keeps w p = filled-keeps P keeps w.setup.limit (Changes.plus 12 (Changes.next_length w)) (Changes.send_fragment w) (keeps w p)

-- ## Each change keeps it

pub consistent-takes : (setup : Setup) (w : LinkRecord) → Consistent setup w → Consistent setup (Changes.send_fragment w)
consistent-takes setup w g = step (Messages.front w) refl
  where
    step : (o : Option ℕ) → Messages.front w ≡ o → Consistent setup (Changes.send_fragment_of w o)
    step None e = g
    step (Some n) e = consistent-shape setup w.setup (slotted (shape w) n false) (shape (Changes.with_slot w n false)) w.streams (Shapes.shape-slot w n false)
        (record {
          setup_is = g.setup_is;
          sender = sender-takes (shape w) n g.sender (front-takes (shape w) n g.sender e);
          accepted = g.accepted;
          known = g.known;
        })

pub consistent-abandoned : (setup : Setup) (w : LinkRecord) (n : ℕ) → Consistent setup w → 0 < sent (shape w) n → Consistent setup (Changes.after_abandon w n)
consistent-abandoned setup w n g pos = step (Messages.is_partially_sent w n) refl
  where
    step : (b : Bool) → Messages.is_partially_sent w n ≡ b
        → Consistent setup (Changes.message_changed (if b then Changes.with_slot w n true else w) n Changes.mark_abandoned)
    step true e =
        consistent-shape setup w.setup (abandoned_at (slotted (shape w) n true) n)
        (shape (Changes.message_changed (Changes.with_slot w n true) n Changes.mark_abandoned)) w.streams
        (Shapes.shape-abandoned (Changes.with_slot w n true) n ∙ ap (λ y. abandoned_at y n) (Shapes.shape-slot w n true))
        (record { setup_is = g.setup_is; sender = sender-marked (shape w) n g.sender e; accepted = g.accepted; known = g.known })
    step false e =
        consistent-shape setup w.setup (abandoned_at (shape w) n)
        (shape (Changes.message_changed w n Changes.mark_abandoned)) w.streams (Shapes.shape-abandoned w n)
        (record { setup_is = g.setup_is; sender = sender-abandoned (shape w) n g.sender e pos; accepted = g.accepted; known = g.known })

-- what was sent stays sent
pub sent-abandoned : (w : LinkRecord) (n k : ℕ) → 0 < sent (shape w) k → 0 < sent (shape (Changes.after_abandon w n)) k
sent-abandoned w n k pos = step (Messages.is_partially_sent w n)
  where
    step : (b : Bool) → 0 < sent (shape (Changes.message_changed (if b then Changes.with_slot w n true else w) n Changes.mark_abandoned)) k
    step true = omega (arith, pos, ap (λ y. sent y k) (Shapes.shape-slot w n true), sent-grows (shape w) n true k)
    step false = pos

abbrev pub AllSent : LinkRecord → List ℕ → Type 0
AllSent w [] = Unit {0}
AllSent w (n ∷ ns) = (0 < sent (shape w) n) × AllSent w ns

pub sent-all : (w : LinkRecord) (n : ℕ) (ns : List ℕ) → AllSent w ns → AllSent (Changes.after_abandon w n) ns
sent-all w n [] a = tt
sent-all w n (k ∷ ns) a = (sent-abandoned w n k a.0, sent-all w n ns a.1)

consistent-late : (setup : Setup) (ns : List ℕ) (w : LinkRecord) → Consistent setup w → AllSent w ns → Consistent setup (fold Changes.after_abandon w ns)
consistent-late setup [] w g a = g
consistent-late setup (n ∷ ns) w g a = consistent-late setup ns (Changes.after_abandon w n) (consistent-abandoned setup w n g a.0) (sent-all w n ns a.1)

all-kept : (w : LinkRecord) (p : ℕ → Bool) (from count : ℕ) → ((k : ℕ) → p k ≡ true → 0 < sent (shape w) (Messages.message_of w k))
    → AllSent w (map (Messages.message_of w) (numbers_where p from count))
all-kept w p from zero h = tt
all-kept w p from (suc count) h = grind (arith, nat_tests, (all-kept w p (from + 1) count h))

all-passing : (w : LinkRecord) (q : ℕ → Bool) (ns : List ℕ) → AllSent w ns → AllSent w (filter q ns)
all-passing w q [] a = tt
all-passing w q (n ∷ ns) a = grind (arith, nat_tests, (all-passing w q ns a.1))

all-append : (w : LinkRecord) (ms ns : List ℕ) → AllSent w ms → AllSent w ns → AllSent w (ms ++ ns)
all-append w [] ns a b = b
all-append w (m ∷ ms) ns a b = (a.0, all-append w ms ns a.1 b)

pub in-flight-sent : (setup : Setup) (w : LinkRecord) (p : ℕ) → Consistent setup w → Messages.is_in_flight w p ≡ true
    → 0 < sent (shape w) (Messages.message_of w p)
in-flight-sent setup w p g h = let lt = (both _ (nat_lt p (length w.slots)) h).1 in slot-sent (shape w) p g.sender (grind (arith, nat_tests))

pub late-sent : (setup : Setup) (w : LinkRecord) (now : ℕ) → Consistent setup w → AllSent w (Changes.late_messages w now)
late-sent setup w now g =
    let all = all-kept w (Changes.is_late w now) 0 (length w.slots) (λ k e. in-flight-sent setup w k g (both (Messages.is_in_flight w k) _ e).0) in
    all-append w (filter (Messages.is_partially_sent w) (map (Messages.message_of w) (Changes.late_slots w now)))
    (map (Messages.message_of w) (Changes.late_slots w now))
    (all-passing w (Messages.is_partially_sent w) (map (Messages.message_of w) (Changes.late_slots w now)) all) all

-- a slot comes
consistent-noted : (setup : Setup) (v : LinkRecord) (n : ℕ) → Consistent setup v → Consistent setup (Changes.note_completion v n)
consistent-noted setup v n g = step (Changes.becomes_complete v n)
  where
    step : (b : Bool) → Consistent setup (if b then Changes.stream_changed v (Messages.message_at v n).stream (Changes.with_complete n) else v)
    step true = consistent-changed setup v (Messages.message_at v n).stream (Changes.with_complete n) (λ r. refl) g
    step false = g

pub consistent-received : (setup : Setup) (w : LinkRecord) (p : ℕ) → Consistent setup w → Consistent setup (Changes.receive_slot w p)
consistent-received setup w p g = step (Receiver.is_new w p)
  where
    step : (b : Bool)
        → Consistent setup (if b then Changes.note_completion (record w { slots = change_at Changes.mark_arrived p w.slots }) (Messages.message_of w p)
        else record w { duplicates = w.duplicates ++ p ∷ [] })
    step true = consistent-noted setup (record w { slots = change_at Changes.mark_arrived p w.slots }) (Messages.message_of w p)
        (consistent-shape setup w.setup (shape w) (shape (record w { slots = change_at Changes.mark_arrived p w.slots })) w.streams
        (Shapes.shape-arrived w p) g)
    step false = g

consistent-datagram : (setup : Setup) (w : LinkRecord) (o : Option Datagram) → Consistent setup w → Consistent setup (Changes.after_arrive w o)
consistent-datagram setup w None g = g
consistent-datagram setup w (Some (Data slots)) g = fold-keeps (Consistent setup) Changes.receive_slot (consistent-received setup) slots w g
consistent-datagram setup w (Some (Forward upto names)) g = step (Changes.skip_counts w upto)
  where
    step : (b : Bool) → Consistent setup (if b then record w { skipped = upto + 1; streams = map (Changes.named_by w names) w.streams } else w)
    step true = consistent-mapped setup w.setup (shape w) w.streams (Changes.named_by w names) (λ r. refl) g
    step false = g
consistent-datagram setup w (Some (Sack r)) g = g

consistent-taken : (setup : Setup) (w : LinkRecord) (o : Option Datagram) → Consistent setup w → Consistent setup (Changes.after_acked w o)
consistent-taken setup w (Some (Sack r)) g = search (arith, nat_tests, consistent-shape, Shapes.shape-acknowledged)
consistent-taken setup w (Some (Data slots)) g = g
consistent-taken setup w (Some (Forward upto names)) g = g
consistent-taken setup w None g = g

consistent-read : (setup : Setup) (w : LinkRecord) (s : ℕ) (o : Option ℕ) → Consistent setup w → Consistent setup (Changes.read_of w s o)
consistent-read setup w s None g = g
consistent-read setup w s (Some n) g = consistent-changed setup (Changes.message_changed w n Changes.mark_read) s Changes.without_first (λ r. refl)
    (consistent-shape setup w.setup (shape w) (shape (Changes.message_changed w n Changes.mark_read)) w.streams (Shapes.shape-read w n) g)

-- ## Writes

pub found : (s : ℕ) (rs : List StreamRecord) (r : StreamRecord) → find (λ r. r.stream == s) rs ≡ Some r → r.stream ≡ s
found s [] r e = cc
found s (q ∷ rs) r e = step (q.stream == s) refl e (λ h. found s rs r h)
  where
    step : (b : Bool) → (q.stream == s) ≡ b → (if b then Some q else find (λ r. r.stream == s) rs) ≡ Some r
        → (find (λ r. r.stream == s) rs ≡ Some r → r.stream ≡ s) → r.stream ≡ s
    step b h1 h2 h3 = grind (arith, nat_tests)

pub accepted-written : (x : Shape) (m : MessagePart) → accepted_of (written x m) ≡ accepted_of x + parts (written x m) x.count
accepted-written x m =
    ap (λ c. total_over (parts (written x m)) (numbers_where always 0 c)) (add-one x.count)
    ∙ ap (total_over (parts (written x m))) (kept-snoc_in always 0 x.count x.count (omega arith) refl)
    ∙ total-append (parts (written x m)) (numbers_where always 0 x.count) (x.count ∷ [])
    ∙ (let e = total-kept_same (parts (written x m)) (parts x) always 0 x.count (λ k a b. parts-old x m k (omega arith)) in omega (arith, e))

pub unless-holds : (b : Bool) (r : LinkRefusal) (others : Option LinkRefusal) → unless b r others ≡ None → (b ≡ true) × (others ≡ None)
unless-holds b r others h1 = grind (arith, nat_tests)

abbrev pub written_as : LinkRecord → ℕ → PayloadProtocolIdentifier → List ℕ → Message
written_as w s ppi bytes = Changes.message_on w (Messages.stream_of w s) ppi bytes

consistent-written : (setup : Setup) (w : LinkRecord) (s : ℕ) (ppi : PayloadProtocolIdentifier) (bytes : List ℕ) → Messages.is_open w s ≡ true
    → fragments_accepted w + fragments_in w bytes < 2 ^ 31 → Consistent setup w → Consistent setup (Changes.after_write w s ppi bytes)
consistent-written setup w s ppi [] open' fits g = g
consistent-written setup w s ppi (b ∷ bs) open' fits g =
    let new : parts (written (shape w) (message_part (written_as w s ppi (b ∷ bs))))
    (length w.messages) ≡ fragments_in w (b ∷ bs) = grind (arith, nat_tests) in
    let total = accepted-written (shape w) (message_part (written_as w s ppi (b ∷ bs))) in
    consistent-shape setup w.setup (written (shape w) (message_part (written_as w s ppi (b ∷ bs))))
    (shape (Changes.after_write w s ppi (b ∷ bs))) w.streams (Shapes.shape-written w (written_as w s ppi (b ∷ bs)))
    (record {
      setup_is = g.setup_is;
      sender = sender-written (shape w) (message_part (written_as w s ppi (b ∷ bs))) g.sender refl refl (omega (arith, new));
      accepted = omega (arith, total, new, fits);
      known = λ n lt.
          by_last {P = open_in w.streams ((written (shape w) (message_part (written_as w s ppi (b ∷ bs)))).message n).stream ≡ true} n (length w.messages) lt
          (λ o. ap (λ y. open_in w.streams y.stream) (message-old (shape w) (message_part (written_as w s ppi (b ∷ bs))) n o) ∙ g.known n o)
          (λ e. ap (λ j. open_in w.streams ((written (shape w) (message_part (written_as w s ppi (b ∷ bs)))).message j).stream) e
          ∙ ap (λ y. open_in w.streams y.stream) (message-new (shape w) (message_part (written_as w s ppi (b ∷ bs))))
          ∙ named (find (λ r. r.stream == s) w.streams) refl open');
    })
  where
    named : (o : Option StreamRecord) → find (λ r. r.stream == s) w.streams ≡ o → is_some o ≡ true
        → open_in w.streams (unwrap_or o (Messages.no_stream s)).stream ≡ true
    named o h1 h2 = grind (arith, nat_tests, found)

-- ## Each accepted event keeps it

consistent-expired : (setup : Setup) (w : LinkRecord) (now : ℕ) (o : Option ℕ) → Consistent setup w
    → Consistent setup (Changes.after_expire w (Changes.front_if w (λ n. Messages.is_unsent w n && Messages.is_past_deadline w now n) o))
consistent-expired setup w now None g = g
consistent-expired setup w now (Some n) g = step (Messages.is_unsent w n) (Messages.is_past_deadline w now n) refl
  where
    step : (b c : Bool) → Messages.is_unsent w n ≡ b → Consistent setup (Changes.after_expire w (if b && c then Some n else None))
    step true true e =
        consistent-shape setup w.setup (expired_at (shape w) n) (shape (Changes.message_changed w n Changes.mark_expired)) w.streams (Shapes.shape-expired w n)
        (record { setup_is = g.setup_is; sender = sender-expired (shape w) n g.sender (of-unsent (shape w) n e).none; accepted = g.accepted; known = g.known })
    step true false e = g
    step false c e = g

consistent-tail : (setup : Setup) (w : LinkRecord) (now : ℕ) (o : Option ℕ) → Consistent setup w
    → Consistent setup (Changes.after_tail w (Changes.front_if w (λ n. Messages.is_partially_sent w n && Messages.is_past_deadline w now n) o))
consistent-tail setup w now None g = g
consistent-tail setup w now (Some n) g = step (Messages.is_partially_sent w n) (Messages.is_past_deadline w now n) refl
  where
    step : (b c : Bool) → Messages.is_partially_sent w n ≡ b → Consistent setup (Changes.after_tail w (if b && c then Some n else None))
    step true true e = consistent-abandoned setup w n g (of-partial (shape w) n e).some
    step true false e = g
    step false c e = g

pub consistent-started : (setup : Setup) (w : LinkRecord) (now : ℕ) → Consistent setup w → Consistent setup (Changes.after_start w now)
consistent-started setup w now g = consistent-shape setup w.setup (shape w) (shape (Changes.after_start w now)) w.streams (Shapes.shape-started w now) g

consistent-sent : (setup : Setup) (w : LinkRecord) (now : ℕ) (o : Option ℕ) → Consistent setup w
    → Consistent setup (Changes.send_from (Changes.after_start w now) o)
consistent-sent setup w now None g = consistent-started setup w now g
consistent-sent setup w now (Some n) g =
    sends-keep (Consistent setup) (λ v h. consistent-takes setup v h) (Changes.after_start w now) (consistent-started setup w now g)

pub consistent-after : (setup : Setup) (w : LinkRecord) (e : Event) → refusal_of w e ≡ None → Consistent setup w → Consistent setup (after w e)
consistent-after setup w (E.Open s) ok g = grind (arith, nat_tests, open-more)
consistent-after setup w (E.Mode s unordered reliability value) ok g =
    consistent-changed setup w s (Changes.with_mode unordered reliability value) (λ r. refl) g
consistent-after setup w (E.Write s ppi bytes) ok g =
    let first = unless-holds (Messages.is_open w s) StreamUnknown (unless (nat_le (length bytes) w.setup.largest) MessageTooLarge
    (unless (nat_lt (fragments_accepted w + fragments_in w bytes) (2 ^ 31)) TsnsUsedUp None)) ok in
    let second = unless-holds (nat_le (length bytes) w.setup.largest) MessageTooLarge
    (unless (nat_lt (fragments_accepted w + fragments_in w bytes) (2 ^ 31)) TsnsUsedUp None) first.1 in
    let third = unless-holds (nat_lt (fragments_accepted w + fragments_in w bytes) (2 ^ 31)) TsnsUsedUp None second.1 in
    let t = third.0 in
    consistent-written setup w s ppi bytes first.0 (grind (arith, nat_tests)) g
consistent-after setup w (E.Start now) ok g = consistent-started setup w now g
consistent-after setup w (E.Send now) ok g = consistent-sent setup w now (Messages.front w) g
consistent-after setup w (E.Expire now) ok g = consistent-expired setup w now (Messages.front w) g
consistent-after setup w (E.Tail now) ok g = consistent-tail setup w now (Messages.front w) g
consistent-after setup w (E.Late now) ok g = consistent-late setup (Changes.late_messages w now) w g (late-sent setup w now g)
consistent-after setup w (E.Abandon tsn) ok g = consistent-abandoned setup w (Messages.message_of w (Messages.place_of w tsn)) g
    (in-flight-sent setup w (Messages.place_of w tsn) g (unless-holds (Messages.is_in_flight w (Messages.place_of w tsn)) NotInFlight None ok).0)
consistent-after setup w (E.Arrive k) ok g = consistent-datagram setup w (slice_get w.network k) g
consistent-after setup w (E.Acked k) ok g = consistent-taken setup w (slice_get w.network k) g
consistent-after setup w (E.Read s) ok g = consistent-read setup w s (Receiver.next_read w s) g
consistent-after setup w event ok g = g

consistent-start : (setup : Setup) → Consistent setup (start setup)
consistent-start setup = grind (arith, nat_tests)

-- in every history
pub consistent-run : (setup : Setup) (h : History) → IsRun setup h → Consistent setup (record_of setup h)
consistent-run setup [] run = consistent-start setup
consistent-run setup (entry ∷ older) run = consistent-after setup (record_of setup older) entry.0 run.0 (consistent-run setup older run.1.1)
