-- What each change of the record keeps is so in every history.
use Rattle.sctp_model.proofs.Names.{◌≡◌, ℕ, zero, suc, ◌<◌, Bool, true, false, List, [], ◌∷◌, length, map, Option, Some, None, refl, ap, sym, ◌∙◌, fold}
use Rattle.sctp_model.proofs.Names.{slice_get, subst, ReliabilityType, Event, Reply, Setup, Datagram, Forward, Sack, Report, LinkRecord, start, History}
use Rattle.sctp_model.proofs.Names.{record_of, IsRun, refusal_of, after, LogEntry, SlotReceived, SkipReceived, SackMade, Made, made_in, datagram_comes}
use Rattle.sctp_model.proofs.Names.{slots_come, log_of, IsSetup, kind_of, arith, nat_tests}
use Rattle.sctp_model.specs.declared.event.Event.TheVariants as E
use Rattle.sctp_model.specs.LinkRecord as W
use Rattle.sctp_model.specs.Messages
use Rattle.sctp_model.specs.Receiver
use Rattle.sctp_model.specs.Changes
use Rattle.sctp_model.proofs.sender.Shape.{shape}
use Rattle.sctp_model.proofs.sender.SenderRun.{Consistent, consistent-run, consistent-after, consistent-received, unless-holds}
use Rattle.sctp_model.proofs.sender.Moves.{Quiet, quiet-after}
use Rattle.sctp_model.proofs.sender.Network.{SlotsFit, NamesFit, Fits, fit-at, fit-run, same-slot}
use Rattle.sctp_model.proofs.sender.Made.{made-run}

-- each change keeps P, which speaks of the record and of what came
pub record Keeps (setup : Setup) (P : LinkRecord → List LogEntry → Type 0) : Type 0 where
  pub begins : P (start setup) []
  pub quiet : (w v : LinkRecord) (log : List LogEntry) → Consistent setup w → Consistent setup v → Quiet w v → P w log → P v log
  pub opened : (w : LinkRecord) (log : List LogEntry) (s : ℕ) → Consistent setup w → Messages.is_open w s ≡ false → P w log → P (Changes.after_open w s) log
  pub moded : (w : LinkRecord) (log : List LogEntry) (s : ℕ) (unordered : Bool) (reliability : ReliabilityType) (value : ℕ) → Consistent setup w → P w log
      → P (Changes.after_mode w s unordered reliability value) log
  pub slot : (w : LinkRecord) (log : List LogEntry) (p : ℕ) → Consistent setup w → p < length w.slots → (Messages.slot_at w p).is_terminal_chunk ≡ false
      → P w log → P (Changes.receive_slot w p) (SlotReceived p ∷ log)
  pub skip : (w : LinkRecord) (log : List LogEntry) (upto : ℕ) (names : List ℕ) → Consistent setup w → upto < length w.slots → NamesFit (shape w) upto names
      → P w log → P (Changes.receive_skip w upto names) (SkipReceived upto names ∷ log)
  pub reported : (w : LinkRecord) (log : List LogEntry) (credit : ℕ) → Consistent setup w → P w log → P (Changes.after_ack w credit) (SackMade ∷ log)
  pub taken : (w : LinkRecord) (log : List LogEntry) (r : Report) → Consistent setup w → P w log → P (Changes.after_acked w (Some (Sack r))) log
  pub read : (w : LinkRecord) (log : List LogEntry) (s n : ℕ) → Consistent setup w → Messages.is_open w s ≡ true → Receiver.next_read w s ≡ Some n → P w log
      → P (Changes.read_of w s (Some n)) log

-- what each change but a read keeps
pub record Moving (setup : Setup) (P : LinkRecord → List LogEntry → Type 0) : Type 0 where
  pub quiet : (w v : LinkRecord) (log : List LogEntry) → Consistent setup w → Consistent setup v → Quiet w v → P w log → P v log
  pub opened : (w : LinkRecord) (log : List LogEntry) (s : ℕ) → Consistent setup w → Messages.is_open w s ≡ false → P w log → P (Changes.after_open w s) log
  pub moded : (w : LinkRecord) (log : List LogEntry) (s : ℕ) (unordered : Bool) (reliability : ReliabilityType) (value : ℕ) → Consistent setup w → P w log
      → P (Changes.after_mode w s unordered reliability value) log
  pub slot : (w : LinkRecord) (log : List LogEntry) (p : ℕ) → Consistent setup w → p < length w.slots → (Messages.slot_at w p).is_terminal_chunk ≡ false
      → P w log → P (Changes.receive_slot w p) (SlotReceived p ∷ log)
  pub skip : (w : LinkRecord) (log : List LogEntry) (upto : ℕ) (names : List ℕ) → Consistent setup w → upto < length w.slots → NamesFit (shape w) upto names
      → P w log → P (Changes.receive_skip w upto names) (SkipReceived upto names ∷ log)
  pub reported : (w : LinkRecord) (log : List LogEntry) (credit : ℕ) → Consistent setup w → P w log → P (Changes.after_ack w credit) (SackMade ∷ log)
  pub taken : (w : LinkRecord) (log : List LogEntry) (r : Report) → Consistent setup w → P w log → P (Changes.after_acked w (Some (Sack r))) log

pub moving-of : (setup : Setup) (P : LinkRecord → List LogEntry → Type 0) → Keeps setup P → Moving setup P
moving-of setup P k = record { quiet = k.quiet; opened = k.opened; moded = k.moded; slot = k.slot; skip = k.skip; reported = k.reported; taken = k.taken }

module _ (setup : Setup) (P : LinkRecord → List LogEntry → Type 0) (keeps : Moving setup P) where
  slots-keep : (ps : List ℕ) (w : LinkRecord) (log : List LogEntry) → Consistent setup w → SlotsFit (shape w) ps → P w log
      → P (fold Changes.receive_slot w ps) (slots_come ps log)
  slots-keep [] w log g f p = p
  slots-keep (q ∷ ps) w log g f p =
      slots-keep ps (Changes.receive_slot w q) (SlotReceived q ∷ log) (consistent-received setup w q g)
      (subst (λ x. SlotsFit x ps) (sym (same-slot w q).shape_is) f.2) (keeps.slot w log q g f.0 f.1 p)

  arrive-keeps : (w : LinkRecord) (log : List LogEntry) (o : Option Datagram) (m : Option Made) → Consistent setup w → ((d : Datagram) → o ≡ Some d
      → (Fits (shape w) d) × (m ≡ Some (kind_of d))) → (o ≡ None → m ≡ None) → P w log → P (Changes.after_arrive w o) (datagram_comes m log)
  arrive-keeps w log None m g f none p = subst (λ x. P w (datagram_comes x log)) (sym (none refl)) p
  arrive-keeps w log (Some (W.Data ps)) m g f none p = let a = f (W.Data ps) refl in
      subst (λ x. P (fold Changes.receive_slot w ps) (datagram_comes x log)) (sym a.1) (slots-keep ps w log g a.0 p)
  arrive-keeps w log (Some (Forward upto names)) m g f none p = let a = f (Forward upto names) refl in
      subst (λ x. P (Changes.receive_skip w upto names) (datagram_comes x log)) (sym a.1) (keeps.skip w log upto names g a.0.0 a.0.1 p)
  arrive-keeps w log (Some (Sack r)) m g f none p = let a = f (Sack r) refl in subst (λ x. P w (datagram_comes x log)) (sym a.1) p

  taken-keeps : (w : LinkRecord) (log : List LogEntry) (o : Option Datagram) → Consistent setup w → P w log → P (Changes.after_acked w o) log
  taken-keeps w log o h1 h2 = grind (arith, nat_tests)

pub get-map_some : {A B : Type 0} (f : A → B) (xs : List A) (k : ℕ) (x : A) → slice_get xs k ≡ Some x → slice_get (map f xs) k ≡ Some (f x)
get-map_some f [] k x e = cc
get-map_some f (y ∷ xs) zero x e = let z : y ≡ x = cc in ap (λ u. Some (f u)) z
get-map_some f (y ∷ xs) (suc k) x e = get-map_some f xs k x e

pub get-map_none : {A B : Type 0} (f : A → B) (xs : List A) (k : ℕ) → slice_get xs k ≡ None → slice_get (map f xs) k ≡ None
get-map_none f [] k e = refl
get-map_none f (y ∷ xs) zero e = cc
get-map_none f (y ∷ xs) (suc k) e = get-map_none f xs k e

-- the event is a read
abbrev pub is_read : Event → Bool
is_read (E.Read s) = true
is_read event = false

-- an event that is no read
pub step-moves : (setup : Setup) (P : LinkRecord → List LogEntry → Type 0) → Moving setup P → (older : History) → IsSetup setup → IsRun setup older
    → (e : Event) (r : Reply) → is_read e ≡ false → refusal_of (record_of setup older) e ≡ None → P (record_of setup older) (log_of setup older)
    → P (after (record_of setup older) e) (log_of setup ((e, r) ∷ older))
step-moves setup P keeps older is run e r no' ok p =
    by e r no' (consistent-run setup older run) ok (consistent-after setup (record_of setup older) e ok (consistent-run setup older run)) p
  where
    by : (e : Event) (r : Reply) → is_read e ≡ false → Consistent setup (record_of setup older) → refusal_of (record_of setup older) e ≡ None
        → Consistent setup (after (record_of setup older) e) → P (record_of setup older) (log_of setup older)
        → P (after (record_of setup older) e) (log_of setup ((e, r) ∷ older))
    by (E.Open s) r no' g ok a p = grind (arith, nat_tests)
    by (E.Mode s unordered reliability value) r no' g ok a p = keeps.moded (record_of setup older) (log_of setup older) s unordered reliability value g p
    by (E.Ack credit) r no' g ok a p = keeps.reported (record_of setup older) (log_of setup older) credit g p
    by (E.Arrive k) r no' g ok a p =
        let made = made-run setup older is run in
        arrive-keeps setup P keeps (record_of setup older) (log_of setup older) (slice_get (record_of setup older).network k)
        (slice_get (made_in setup older) k) g
        (λ d e. (
          fit-at (shape (record_of setup older)) (record_of setup older).network k d (fit-run setup older run) e,
          ap (λ l. slice_get l k) (sym made) ∙ get-map_some kind_of (record_of setup older).network k d e,
        ))
        (λ e. ap (λ l. slice_get l k) (sym made) ∙ get-map_none kind_of (record_of setup older).network k e) p
    by (E.Acked k) r no' g ok a p = taken-keeps setup P keeps (record_of setup older) (log_of setup older) (slice_get (record_of setup older).network k) g p
    by (E.Read s) r no' g ok a p = cc
    by event r no' g ok a p = keeps.quiet (record_of setup older) (after (record_of setup older) event) (log_of setup older) g a
        (quiet-after setup (record_of setup older) event refl g) p

-- in every history
pub run-keeps : (setup : Setup) (P : LinkRecord → List LogEntry → Type 0) → Keeps setup P → (h : History) → IsSetup setup → IsRun setup h
    → P (record_of setup h) (log_of setup h)
run-keeps setup P keeps [] is run = keeps.begins
run-keeps setup P keeps ((E.Read s, r) ∷ older) is run = grind (arith, nat_tests, consistent-run, unless-holds, (run-keeps setup P keeps older is run.1.1))
run-keeps setup P keeps ((event, r) ∷ older) is run =
    step-moves setup P (moving-of setup P keeps) older is run.1.1 event r refl run.0 (run-keeps setup P keeps older is run.1.1)
