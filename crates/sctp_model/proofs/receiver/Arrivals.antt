use Rattle.sctp_model.proofs.Names.{◌≡◌, ℕ, zero, suc, ◌+◌, ◌-◌, ◌<◌, ◌≤◌, Bool, true, false, List, [], ◌∷◌, ◌++◌, length, Some, refl, ap, sym, ◌∙◌, inl, inr}
use Rattle.sctp_model.proofs.Names.{arith, append-nil, ◌⊎◌, if◌then◌else◌, ◌&&◌, ◌||◌, not, nat_lt, nat_le, list_any, eq-or-lt_of_le, cases_lt, nat_tests}
use Rattle.sctp_model.proofs.Names.{numbers_where, always, numbers_from, unbroken, change_at, unbroken-same, unbroken-le, unbroken-passes, unbroken-stops}
use Rattle.sctp_model.proofs.Names.{unbroken-on, not_both, length-changed, changed-same, changed-other, Setup, Sack, LinkRecord, arrived_at, cumulative, is_new}
use Rattle.sctp_model.proofs.Names.{History, record_of, IsRun, LogEntry, SlotReceived, SkipReceived, IsSetup, OnEveryRun, ArrivedIsNew, CumulativeIsSeen}
use Rattle.sctp_model.proofs.Names.{ArrivalsAnswered, get-beyond, get-numbered, length-numbered, or-right, or-none}
use Rattle.sctp_model.specs.Messages
use Rattle.sctp_model.specs.Changes
use Rattle.sctp_model.specs.Log
use Rattle.sctp_model.proofs.receiver.Events.{Keeps, run-keeps}

-- What arrived in the record is what the order of arrivals says.

-- ## By the record alone

-- a slot was seen: it arrived, or a skip covered it
abbrev pub seen_by : LinkRecord → ℕ → Bool
seen_by w p = nat_lt p w.skipped || arrived_at w p

-- what arrives new at this place
abbrev pub with_arrived : LinkRecord → ℕ → LinkRecord
with_arrived w p = record w { slots = change_at Changes.mark_arrived p w.slots }

pub arrived-beyond : (w : LinkRecord) (p : ℕ) → length w.slots ≤ p → arrived_at w p ≡ false
arrived-beyond w p le = ap (λ x. x.arrived) (get-beyond w.slots p Messages.no_slot le)

pub skipped-le : (w : LinkRecord) → w.skipped ≤ cumulative w
skipped-le w = omega arith

pub cumulative-le : (w : LinkRecord) → w.skipped ≤ length w.slots → cumulative w ≤ length w.slots
cumulative-le w short = omega (arith, unbroken-le (arrived_at w) w.skipped (length w.slots - w.skipped), short)

pub seen-below : (w : LinkRecord) (p : ℕ) → p < cumulative w → seen_by w p ≡ true
seen-below w p lt = step (cases_lt p w.skipped)
  where
    step : (p < w.skipped) ⊎ (w.skipped ≤ p) → seen_by w p ≡ true
    step (inl l) = let e : nat_lt p w.skipped ≡ true = grind (arith, nat_tests) in ap (λ b. b || arrived_at w p) e
    step (inr g) = or-right (nat_lt p w.skipped) (arrived_at w p) (unbroken-passes (arrived_at w) w.skipped (length w.slots - w.skipped) p g lt)

pub seen-at : (w : LinkRecord) → w.skipped ≤ length w.slots → seen_by w (cumulative w) ≡ false
seen-at w short = grind (arith, nat_tests, unbroken-stops, arrived-beyond)

-- a slot is new exactly where it was not seen
pub new-unseen : (w : LinkRecord) (p : ℕ) → is_new w p ≡ not (seen_by w p)
new-unseen w p = step (arrived_at w p) refl (cases_lt p w.skipped) (cases_lt p (cumulative w))
  where
    ands : (b : Bool) → (b && false) ≡ false
    ands b = grind (arith, nat_tests)

    step : (a : Bool) → arrived_at w p ≡ a → (p < w.skipped) ⊎ (w.skipped ≤ p) → (p < cumulative w) ⊎ (cumulative w ≤ p)
        → (nat_le (cumulative w) p && not a) ≡ not (nat_lt p w.skipped || a)
    step true e s c = ands (nat_le (cumulative w) p) ∙ ap not (sym (or-right (nat_lt p w.skipped) true refl))
    step false e (inl l) c = grind (arith, nat_tests)
    step false e (inr g) (inr c) = grind (arith, nat_tests)
    step false e (inr g) (inl c) = absurd (not_both (sym e ∙ unbroken-passes (arrived_at w) w.skipped (length w.slots - w.skipped) p g c))

-- the cumulative count is how many were seen from the first on
pub cumulative-seen : (w : LinkRecord) → w.skipped ≤ length w.slots → cumulative w ≡ unbroken (seen_by w) 0 (length w.slots)
cumulative-seen w short =
    ap (λ c. w.skipped + c) (unbroken-same (arrived_at w) (seen_by w) w.skipped (length w.slots - w.skipped) (λ k a b. let e : nat_lt k w.skipped ≡ false =
    grind (arith, nat_tests) in sym (ap (λ x. x || arrived_at w k) e)))
    ∙ sym (unbroken-on (seen_by w) 0 w.skipped (length w.slots - w.skipped) (length w.slots) w.skipped (omega (arith, short)) (omega arith)
    (λ k a b. let e : nat_lt k w.skipped ≡ true = grind (arith, nat_tests) in ap (λ x. x || arrived_at w k) e))

pub any-hit : (q : ℕ → Bool) (k from count : ℕ) → from ≤ k → k < from + count → q k ≡ true → list_any q (numbers_where always from count) ≡ true
any-hit q k from zero a b e = absurd (omega arith)
any-hit q k from (suc count) a b e = step (eq-or-lt_of_le a) (λ l. any-hit q k (from + 1) count l (omega arith) e)
  where
    step : (from ≡ k) ⊎ (from < k) → (from + 1 ≤ k → list_any q (numbers_where always (from + 1) count) ≡ true)
        → (q from || list_any q (numbers_where always (from + 1) count)) ≡ true
    step h1 h2 = grind (arith, nat_tests)

pub any-none : (q : ℕ → Bool) (from count : ℕ) → ((k : ℕ) → from ≤ k → k < from + count → q k ≡ false) → list_any q (numbers_where always from count) ≡ false
any-none q from zero none = refl
any-none q from (suc count) none = cc (none from (omega arith) (omega arith), any-none q (from + 1) count (λ k a b. none k (omega arith) (omega arith)))

-- ## By what came

pub record Arrivals (w : LinkRecord) (log : List LogEntry) : Type 0 where
  pub arrived : (p : ℕ) → arrived_at w p ≡ Log.arrived_new log p
  pub seen : (p : ℕ) → Log.is_seen log p ≡ seen_by w p
  pub covered : (p : ℕ) → Log.is_skipped log p ≡ nat_lt p w.skipped
  pub short : w.skipped ≤ length w.slots
  pub duplicates : w.duplicates ≡ Log.duplicates_in log

-- a skip counts exactly where some slot up to it was not seen
pub counts-arrivals : (w : LinkRecord) (log : List LogEntry) (upto : ℕ) → Arrivals w log → Log.counts log upto ≡ Changes.skip_counts w upto
counts-arrivals w log upto h = step (cases_lt upto (cumulative w))
  where
    step : (upto < cumulative w) ⊎ (cumulative w ≤ upto) → list_any (λ p. not (Log.is_seen log p)) (numbers_from 0 (upto + 1)) ≡ nat_le (cumulative w) upto
    step (inl l) = grind (arith, nat_tests, any-none, seen-below)
    step (inr g) = let e : nat_le (cumulative w) upto ≡ true = grind (arith, nat_tests) in
        any-hit (λ p. not (Log.is_seen log p)) (cumulative w) 0 (upto + 1) (omega arith) (omega arith) (ap not (h.seen (cumulative w) ∙ seen-at w h.short))
        ∙ sym e

-- ## Each change

arrivals-as : (w v : LinkRecord) (log : List LogEntry) → ((p : ℕ) → arrived_at v p ≡ arrived_at w p) → v.skipped ≡ w.skipped → v.duplicates ≡ w.duplicates
    → length w.slots ≤ length v.slots → Arrivals w log → Arrivals v log
arrivals-as w v log a s d l h = grind (arith, nat_tests)

pub arrivals-noted : (v : LinkRecord) (n : ℕ) (log : List LogEntry) → Arrivals v log → Arrivals (Changes.note_completion v n) log
arrivals-noted v n log h = grind (arith, nat_tests)

pub arrivals-new : (w : LinkRecord) (log : List LogEntry) (p : ℕ) → p < length w.slots → is_new w p ≡ true → Arrivals w log
    → Arrivals (with_arrived w p) (SlotReceived p ∷ log)
arrivals-new w log p lt new h =
    grind (arith, nat_tests, length-changed, append-nil, changed-same, changed-other)

arrivals-again : (w : LinkRecord) (log : List LogEntry) (p : ℕ) → is_new w p ≡ false → Arrivals w log
    → Arrivals (record w { duplicates = w.duplicates ++ p ∷ [] }) (SlotReceived p ∷ log)
arrivals-again w log p old h = grind (arith, nat_tests, or-none, new-unseen)

arrivals-slot : (w : LinkRecord) (log : List LogEntry) (p : ℕ) → p < length w.slots → Arrivals w log
    → Arrivals (Changes.receive_slot w p) (SlotReceived p ∷ log)
arrivals-slot w log p lt h = step (is_new w p) refl
  where
    step : (b : Bool) → is_new w p ≡ b → Arrivals (if b then Changes.note_completion (with_arrived w p) (Messages.message_of w p)
        else record w { duplicates = w.duplicates ++ p ∷ [] }) (SlotReceived p ∷ log)
    step true e = arrivals-noted (with_arrived w p) (Messages.message_of w p) (SlotReceived p ∷ log) (arrivals-new w log p lt e h)
    step false e = arrivals-again w log p e h

arrivals-skip : (w : LinkRecord) (log : List LogEntry) (upto : ℕ) (names : List ℕ) → upto < length w.slots → Arrivals w log
    → Arrivals (Changes.receive_skip w upto names) (SkipReceived upto names ∷ log)
arrivals-skip w log upto names lt h = grind (arith, nat_tests, counts-arrivals, seen-below)

pub arrivals-keeps : (setup : Setup) → Keeps setup Arrivals
arrivals-keeps setup = record {
  begins = record { arrived = λ p. refl; seen = λ p. empty p; covered = λ p. none p; short = omega arith; duplicates = refl };
  quiet = λ w v log g a q h. arrivals-as w v log q.arrived q.skipped q.duplicates q.grows.slots h;
  opened = λ w log s g o h. arrivals-as w (Changes.after_open w s) log (λ p. refl) refl refl (omega arith) h;
  moded = λ w log s u r n g h. arrivals-as w (Changes.after_mode w s u r n) log (λ p. refl) refl refl (omega arith) h;
  slot = λ w log p g lt m h. arrivals-slot w log p lt h;
  skip = λ w log upto names g lt f h. arrivals-skip w log upto names lt h;
  reported = λ w log credit g h. record { arrived = h.arrived; seen = h.seen; covered = h.covered; short = h.short; duplicates = refl };
  taken = λ w log r g h. arrivals-as w (Changes.after_acked w (Some (Sack r))) log (λ p. get-numbered (Changes.acknowledged_by r) (λ x. x.arrived)
      (λ i x. refl) 0 p w.slots Messages.no_slot) refl refl (omega (arith, length-numbered (Changes.acknowledged_by r) 0 w.slots)) h;
  read = λ w log s n g o e h. arrivals-as w (Changes.read_of w s (Some n)) log (λ p. refl) refl refl (omega arith) h;
}
  where
    none : (p : ℕ) → false ≡ nat_lt p 0
    none p = grind (arith, nat_tests)

    empty : (p : ℕ) → false ≡ (nat_lt p 0 || false)
    empty p = ap (λ b. b || false) (none p)

pub arrivals-run : (setup : Setup) (h : History) → IsSetup setup → IsRun setup h → Arrivals (record_of setup h) (Log.log_of setup h)
arrivals-run setup h is run = run-keeps setup Arrivals (arrivals-keeps setup) h is run

-- ## The laws

pub arrived_is_new : OnEveryRun ArrivedIsNew
arrived_is_new setup h is run place lt = (arrivals-run setup h is run).arrived place

pub cumulative_is_seen : OnEveryRun CumulativeIsSeen
cumulative_is_seen setup h is run = grind (arith, nat_tests, arrivals-run, cumulative-seen)

pub arrivals_answered : OnEveryRun ArrivalsAnswered
arrivals_answered setup h is run = grind (arith, nat_tests, arrivals-run, new-unseen, counts-arrivals)
