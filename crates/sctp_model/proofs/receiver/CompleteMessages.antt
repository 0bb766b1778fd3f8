use Rattle.sctp_model.proofs.Names.{◌≡◌, ℕ, zero, suc, ◌+◌, ◌-◌, ◌<◌, ◌≤◌, Bool, true, false, List, [], ◌∷◌, ◌++◌, length, refl, ap, sym, ◌∙◌, inl, inr, arith}
use Rattle.sctp_model.proofs.Names.{append-nil, length-append, ◌⊎◌, if◌then◌else◌, ◌==◌, ◌&&◌, ◌||◌, not, nat_le, nat_lt, list_all, cases_lt, nat_tests}
use Rattle.sctp_model.proofs.Names.{numbers_where, kept-same, fails, both, and, LogEntry, SlotReceived, SkipReceived, SackMade, same-yes, same-is, or-right}
use Rattle.sctp_model.proofs.Names.{or-split, all-more}
use Rattle.sctp_util.proofs.Alls
use Rattle.sctp_model.specs.Log
use Rattle.sctp_model.proofs.sender.Shape.{Shape, has, sent, parts}
use Rattle.sctp_model.proofs.sender.Sender.{Sender}
use Rattle.sctp_model.proofs.sender.Grows.{Grows, parts-grown}
use Rattle.sctp_model.proofs.receiver.View.{View, come_count, all_come, complete_at}

-- A message is complete in the record exactly where the order of arrivals makes it complete.

-- ## By the order of arrivals

abbrev pub slots_in : Shape → ℕ → List ℕ
slots_in x n = numbers_where (has x n) 0 x.slots

abbrev pub complete_in : Shape → List LogEntry → ℕ → Bool
complete_in x log n =
    (sent x n == parts x n) && (if (x.message n).ordered then list_all (Log.arrived_new log) (slots_in x n) else Log.were_complete (slots_in x n) log)

-- all of these slots have arrived, and no skip covered one
abbrev pub all_now : List LogEntry → List ℕ → Bool
all_now log places = list_all (λ p. Log.arrived_new log p && not (Log.is_skipped log p)) places

-- the slots that came have fragments
abbrev pub SlotsReceived : Shape → List LogEntry → Type 0
SlotsReceived x [] = Unit {0}
SlotsReceived x (SlotReceived p ∷ log) = (p < x.slots) × SlotsReceived x log
SlotsReceived x (SkipReceived upto names ∷ log) = SlotsReceived x log
SlotsReceived x (SackMade ∷ log) = SlotsReceived x log

pub received-later : (x y : Shape) → x.slots ≤ y.slots → (log : List LogEntry) → SlotsReceived x log → SlotsReceived y log
received-later x y le [] f = tt
received-later x y le (SlotReceived p ∷ log) f = (omega (arith, f.0, le), received-later x y le log f.1)
received-later x y le (SkipReceived upto names ∷ log) f = received-later x y le log f
received-later x y le (SackMade ∷ log) f = received-later x y le log f

-- what arrived new came
pub new-received : (x : Shape) (log : List LogEntry) (p : ℕ) → SlotsReceived x log → Log.arrived_new log p ≡ true → p < x.slots
new-received x [] p f e = cc
new-received x (SlotReceived q ∷ log) p f e = by (Log.arrived_new log p) refl e (λ h. new-received x log p f.1 h)
  where
    by : (b : Bool) → Log.arrived_new log p ≡ b → (b || ((q == p) && not (Log.is_seen log p))) ≡ true → (Log.arrived_new log p ≡ true → p < x.slots)
        → p < x.slots
    by b h1 h2 h3 = grind (arith, nat_tests)
new-received x (SkipReceived upto names ∷ log) p f e = new-received x log p f e
new-received x (SackMade ∷ log) p f e = new-received x log p f e

-- where they were complete, each of them arrived new
pub were-new : (places : List ℕ) (log : List LogEntry) → Log.were_complete places log ≡ true → list_all (Log.arrived_new log) places ≡ true
were-new places [] e = cc
were-new places (coming ∷ log) e = step (or-split (Log.were_complete places log) (all_now (coming ∷ log) places) e) (λ h. were-new places log h)
  where
    step : (Log.were_complete places log ≡ true) ⊎ (all_now (coming ∷ log) places ≡ true)
        → (Log.were_complete places log ≡ true → list_all (Log.arrived_new log) places ≡ true) → list_all (Log.arrived_new (coming ∷ log)) places ≡ true
    step h1 h2 = grind (arith, nat_tests, all-more)

-- what is complete now, was
pub now-were : (p : ℕ) (places : List ℕ) (log : List LogEntry) → all_now log (p ∷ places) ≡ true → Log.were_complete (p ∷ places) log ≡ true
now-were p places [] e = cc
now-were p places (coming ∷ log) e = or-right (Log.were_complete (p ∷ places) log) (all_now (coming ∷ log) (p ∷ places)) e

now-were_some : (places : List ℕ) (log : List LogEntry) → 0 < length places → all_now log places ≡ true → Log.were_complete places log ≡ true
now-were_some [] log some e = absurd (omega arith)
now-were_some (p ∷ ps) log some e = now-were p ps log e

-- ## Later slots and messages

-- the slots of a message that got no further one
slots-same : (x y : Shape) → Grows x y → (n : ℕ) → sent y n ≡ sent x n → slots_in y n ≡ slots_in x n
slots-same x y g n e =
    let more = y.slots - x.slots in
    let total : y.slots ≡ x.slots + more = omega (arith, g.slots) in
    let front : numbers_where (has y n) 0 x.slots ≡ slots_in x n = grind (arith, nat_tests, kept-same) in
    let split : slots_in y n ≡ slots_in x n ++ numbers_where (has y n) (0 + x.slots) more = grind (arith, nat_tests, Alls.kept-split) in
    split ∙ ap (λ l. slots_in x n ++ l) (nothing (numbers_where (has y n) (0 + x.slots) more) (let l = ap length split in
    omega (arith, e, l, length-append (slots_in x n) (numbers_where (has y n) (0 + x.slots) more)))) ∙ append-nil (slots_in x n)
  where
    nothing : (l : List ℕ) → length l ≡ 0 → l ≡ []
    nothing [] e = refl
    nothing (x ∷ xs) e = absurd (omega arith)

-- one of the kept numbers
pub some-kept : (t : ℕ → Bool) (from count : ℕ) → 0 < length (numbers_where t from count) → (q : ℕ) × (from ≤ q) × (q < from + count) × (t q ≡ true)
some-kept t from zero pos = absurd (omega arith)
some-kept t from (suc count) pos = step (t from) refl pos (λ h. some-kept t (from + 1) count h)
  where
    step : (b : Bool) → t from ≡ b → 0 < length (if b then from ∷ numbers_where t (from + 1) count else numbers_where t (from + 1) count)
        → (0 < length (numbers_where t (from + 1) count) → (q : ℕ) × (from + 1 ≤ q) × (q < from + 1 + count) × (t q ≡ true))
        → (q : ℕ) × (from ≤ q) × (q < from + suc count) × (t q ≡ true)
    step b h1 h2 h3 = grind (arith, nat_tests)

-- one that got a further one has a slot that never came
slots-new : (x y : Shape) → Grows x y → (n : ℕ) → sent x n < sent y n → (q : ℕ) × (x.slots ≤ q) × (q < y.slots) × (has y n q ≡ true)
slots-new x y g n lt =
    let more = y.slots - x.slots in
    let total : y.slots ≡ x.slots + more = omega (arith, g.slots) in
    let front : numbers_where (has y n) 0 x.slots ≡ slots_in x n = grind (arith, nat_tests, kept-same) in
    let split : slots_in y n ≡ slots_in x n ++ numbers_where (has y n) (0 + x.slots) more = grind (arith, nat_tests, Alls.kept-split) in
    let r = some-kept (has y n)
    (0 + x.slots) more (let l = ap length split in omega (arith, lt, l, length-append (slots_in x n) (numbers_where (has y n) (0 + x.slots) more))) in
    (r.0, omega (arith, r.1), omega (arith, r.2, g.slots), r.3)

pub complete-later : (x y : Shape) → Sender x → Sender y → Grows x y → (log : List LogEntry) → SlotsReceived x log → (n : ℕ) → n < x.count
    → complete_in y log n ≡ complete_in x log n
complete-later x y a b g log f n lt = elim (cases_lt (sent x n) (sent y n)) [
  | inl more ↦
      let out : complete_in y log n ≡ false = fails (complete_in y log n) (λ e. new-none (y.message n).ordered more (both (sent y n == parts y n)
      (if (y.message n).ordered then list_all (Log.arrived_new log) (slots_in y n) else Log.were_complete (slots_in y n) log) e).1) in
      let not-all : (sent x n == parts x n) ≡ false = grind (arith, nat_tests) in
      cc
  | inr le ↦ let same : slots_in y n ≡ slots_in x n = slots-same x y g n (omega (arith, le, g.sent_more n)) in cc (same, parts-grown x y g n lt, ordered-is)
]
  where
    ordered-is : (y.message n).ordered ≡ (x.message n).ordered
    ordered-is = ap (λ m. m.ordered) (g.message n lt)

    new-none : (o : Bool) → sent x n < sent y n → (if o then list_all (Log.arrived_new log) (slots_in y n) else Log.were_complete (slots_in y n) log) ≡ true → ⊥
    new-none o more e =
        let q = slots-new x y g n more in
        let all : list_all (Log.arrived_new log) (slots_in y n) ≡ true = either o e in
        absurd (omega
        (arith, q.1, new-received x log q.0 f (Alls.all-at (Log.arrived_new log) (has y n) q.0 0 y.slots (omega arith) (omega (arith, q.2)) q.3 all)))
      where
        either : (o : Bool) → (if o then list_all (Log.arrived_new log) (slots_in y n) else Log.were_complete (slots_in y n) log) ≡ true
            → list_all (Log.arrived_new log) (slots_in y n) ≡ true
        either o h1 = grind (arith, nat_tests, were-new)

-- ## By the record

-- each of its slots arrived, and no skip reached one
abbrev pub due : View → ℕ → Bool
due v n = all_come v n && list_all (λ p. nat_le v.skipped p) (slots_in v.x n)

pub record Hears (v : View) (log : List LogEntry) : Type 0 where
  pub arrived : (p : ℕ) → v.arrived p ≡ Log.arrived_new log p
  pub covered : (p : ℕ) → Log.is_skipped log p ≡ nat_lt p v.skipped

pub all-come : (v : View) (n : ℕ) → sent v.x n ≤ parts v.x n → all_come v n ≡ ((sent v.x n == parts v.x n) && list_all v.arrived (slots_in v.x n))
all-come v n le = ands (cases_lt (come_count v n) (sent v.x n))
    ∙ ap (λ b. (sent v.x n == parts v.x n) && b) (sym (Alls.all-count (has v.x n) v.arrived 0 v.x.slots))
  where
    most : come_count v n ≤ sent v.x n
    most = less 0 v.x.slots
      where
        less : (from count : ℕ) → length (numbers_where (λ k. has v.x n k && v.arrived k) from count) ≤ length (numbers_where (has v.x n) from count)
        less from zero = omega arith
        less from (suc count) = step (has v.x n from) (v.arrived from) (less (from + 1) count)
          where
            step : (c d : Bool)
                → length (numbers_where (λ k. has v.x n k && v.arrived k) (from + 1) count) ≤ length (numbers_where (has v.x n) (from + 1) count)
                → length (if c && d then from ∷ numbers_where (λ k. has v.x n k && v.arrived k) (from + 1) count
                else numbers_where (λ k. has v.x n k && v.arrived k) (from + 1) count)
                ≤ length (if c then from ∷ numbers_where (has v.x n) (from + 1) count else numbers_where (has v.x n) (from + 1) count)
            step c d h1 = grind (arith, nat_tests)

    ands : (come_count v n < sent v.x n) ⊎ (sent v.x n ≤ come_count v n) → all_come v n ≡ ((sent v.x n == parts v.x n) && (come_count v n == sent v.x n))
    ands (inl l) = grind (arith, nat_tests)
    ands (inr g) =
        let z : come_count v n ≡ sent v.x n = omega (arith, g, most) in
        ap (λ k. k == parts v.x n) z ∙ sym (ap (λ k. (sent v.x n == parts v.x n) && (k == sent v.x n)) z
        ∙ ap (λ c. (sent v.x n == parts v.x n) && c) (same-yes (sent v.x n)) ∙ id (sent v.x n == parts v.x n))
      where
        id : (b : Bool) → (b && true) ≡ b
        id b = grind (arith, nat_tests)

-- what is due is what is complete now
pub due-now : (v : View) (log : List LogEntry) (n : ℕ) → Hears v log → sent v.x n ≤ parts v.x n
    → due v n ≡ ((sent v.x n == parts v.x n) && all_now log (slots_in v.x n))
due-now v log n h le =
    ap (λ b. b && list_all (λ p. nat_le v.skipped p) (slots_in v.x n)) (all-come v n le)
    ∙ assoc (sent v.x n == parts v.x n) (list_all v.arrived (slots_in v.x n)) (list_all (λ p. nat_le v.skipped p) (slots_in v.x n))
    ∙ ap (λ b. (sent v.x n == parts v.x n) && b) (sym (Alls.all-both v.arrived (λ p. nat_le v.skipped p) (slots_in v.x n))
    ∙ Alls.all-same (λ p. v.arrived p && nat_le v.skipped p) (λ p. Log.arrived_new log p && not (Log.is_skipped log p)) (has v.x n) 0 v.x.slots (λ k a b e.
    ap (λ b. b && nat_le v.skipped k) (h.arrived k) ∙ ap (λ b. Log.arrived_new log k && b) (past k (cases_lt k v.skipped) ∙ ap not (sym (h.covered k)))))
  where
    assoc : (a b c : Bool) → ((a && b) && c) ≡ (a && (b && c))
    assoc a b c = grind (arith, nat_tests)

    past : (k : ℕ) → (k < v.skipped) ⊎ (v.skipped ≤ k) → nat_le v.skipped k ≡ not (nat_lt k v.skipped)
    past k h1 = grind (arith, nat_tests)

-- an unordered message after one thing more came
pub one-more : (v : View) (coming : LogEntry) (log : List LogEntry) (n : ℕ) → Hears v (coming ∷ log) → sent v.x n ≤ parts v.x n
    → (v.x.message n).ordered ≡ false → complete_in v.x (coming ∷ log) n ≡ (complete_in v.x log n || due v n)
one-more v coming log n h le o =
    ap (λ b. (sent v.x n == parts v.x n) && (if b then list_all (Log.arrived_new (coming ∷ log)) (slots_in v.x n)
    else Log.were_complete (slots_in v.x n) (coming ∷ log))) o ∙ dist (sent v.x n == parts v.x n) (Log.were_complete (slots_in v.x n) log)
    (all_now (coming ∷ log) (slots_in v.x n)) ∙ ap (λ b. b || ((sent v.x n == parts v.x n) && all_now (coming ∷ log) (slots_in v.x n))) (sym
    (ap (λ b. (sent v.x n == parts v.x n) && (if b then list_all (Log.arrived_new log) (slots_in v.x n) else Log.were_complete (slots_in v.x n) log)) o))
    ∙ ap (λ b. complete_in v.x log n || b) (sym (due-now v (coming ∷ log) n h le))
  where
    dist : (a b c : Bool) → (a && (b || c)) ≡ ((a && b) || (a && c))
    dist a b c = grind (arith, nat_tests)

-- what is due was complete
pub due-complete : (v : View) (log : List LogEntry) (n : ℕ) → Hears v log → sent v.x n ≤ parts v.x n → 0 < parts v.x n → (v.x.message n).ordered ≡ false
    → due v n ≡ true → complete_in v.x log n ≡ true
due-complete v log n h le some o e =
    let a = both (sent v.x n == parts v.x n) (all_now log (slots_in v.x n)) (sym (due-now v log n h le) ∙ e) in
    let z = same-is (sent v.x n) (parts v.x n) a.0 in
    and (sent v.x n == parts v.x n)
    (if (v.x.message n).ordered then list_all (Log.arrived_new log) (slots_in v.x n) else Log.were_complete (slots_in v.x n) log) a.0
    (ap (λ b. if b then list_all (Log.arrived_new log) (slots_in v.x n) else Log.were_complete (slots_in v.x n) log) o
    ∙ now-were_some (slots_in v.x n) log (omega (arith, z, some)) a.1)

-- an unordered message that is complete by the order of arrivals has arrived
pub complete-come : (v : View) (log : List LogEntry) (n : ℕ) → ((p : ℕ) → v.arrived p ≡ Log.arrived_new log p) → sent v.x n ≤ parts v.x n
    → complete_in v.x log n ≡ true → all_come v n ≡ true
complete-come v log n arrived le e = grind (arith, nat_tests, all-come, were-new)

-- an ordered one is complete exactly where it has arrived
pub ordered-complete : (v : View) (log : List LogEntry) (n : ℕ) → ((p : ℕ) → v.arrived p ≡ Log.arrived_new log p) → sent v.x n ≤ parts v.x n
    → (v.x.message n).ordered ≡ true → complete_at v n ≡ complete_in v.x log n
ordered-complete v log n arrived le o = cc (o, all-come v n le, Alls.all-same v.arrived (Log.arrived_new log) (has v.x n) 0 v.x.slots (λ k x y z. arrived k))
