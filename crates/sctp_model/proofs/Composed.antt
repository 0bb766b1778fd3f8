-- Without loss what is read in the end is settled by what was written and by what of it arrived.
use Rattle.sctp_model.proofs.Names.{◌≡◌, ℕ, zero, suc, ◌+◌, ◌-◌, ◌<◌, ◌≤◌, Bool, true, false, List, [], ◌∷◌, ◌++◌, length, map, get_or, take, drop, refl, ap}
use Rattle.sctp_model.proofs.Names.{sym, ◌∙◌, inl, inr, arith, ◌⊎◌, if◌then◌else◌, ◌==◌, ◌&&◌, ◌||◌, not, nat_lt, list_any, list_all, filter, eq-or-lt_of_le}
use Rattle.sctp_model.proofs.Names.{cases_lt, nat_tests, numbers_where, always, leading, kept-same, kept-none, map-kept-same, length-kept-lt, fails, not_both}
use Rattle.sctp_model.proofs.Names.{both, and, Setup, LinkRecord, LogEntry, arrived_new, is_skipped, were_complete, is_complete_by, run_by, complete_by}
use Rattle.sctp_model.proofs.Names.{named_by, log_of, Shown, Mode, written_on, writes_on, writes_in, modes_in, History, record_of, IsRun, OnEveryRun, IsSetup}
use Rattle.sctp_model.proofs.Names.{IsReadWholly, ReadsAreSettled, ReadsByArrivals, NoneIsLost, messages_on, fragment_arrived, arrived_wholly, arrivals_on}
use Rattle.sctp_model.proofs.Names.{is_passed_over, was_lost, has_loss_on, has_expired, loses_nothing, ordered_run, complete_unordered, ordered_shown}
use Rattle.sctp_model.proofs.Names.{unordered_shown, ordered_reads, unordered_reads, is_ordered, mode_of, shown_of, same-yes, same-is, negated, or-split}
use Rattle.sctp_model.proofs.Names.{length-mapped, numbered, all-kept, all-same, any-out, any-in, all-out, all-more, among-kept, any-append}
use Rattle.sctp_model.specs.Messages
use Rattle.sctp_model.proofs.sender.Shape.{Shape, shape, has, sent}
use Rattle.sctp_model.proofs.sender.Sender.{Sender}
use Rattle.sctp_model.proofs.sender.SenderSteps.{of-has}
use Rattle.sctp_model.proofs.sender.SenderRun.{consistent-run}
use Rattle.sctp_model.proofs.receiver.Due.{take-kept}
use Rattle.sctp_model.proofs.receiver.ReadLaws.{nothing_where_read, passing-kept}
use Rattle.sctp_model.proofs.sender.Written.{messages_are_writes}
use Rattle.sctp_model.proofs.sender.Modes.{modes_are_kept}
use Rattle.sctp_model.proofs.Lossless.{alive-run, is_skip, no-skips, none-named, none-skipped}

-- ## Complete messages

were-arrived : (places : List ℕ) (log : List LogEntry) → were_complete places log ≡ true → list_all (arrived_new log) places ≡ true
were-arrived places [] e = cc
were-arrived places (c ∷ log) e = side (or-split (were_complete places log) (list_all (λ p. arrived_new (c ∷ log) p && not (is_skipped (c ∷ log) p)) places) e)
    (λ h. were-arrived places log h)
  where
    side : (were_complete places log ≡ true) ⊎ (list_all (λ p. arrived_new (c ∷ log) p && not (is_skipped (c ∷ log) p)) places ≡ true)
        → (were_complete places log ≡ true → list_all (arrived_new log) places ≡ true) → list_all (arrived_new (c ∷ log)) places ≡ true
    side h1 h2 = grind (arith, nat_tests, all-more)

arrived-were : (places : List ℕ) (log : List LogEntry) → list_any is_skip log ≡ false → 0 < length places → list_all (arrived_new log) places ≡ true
    → were_complete places log ≡ true
arrived-were [] log n some e = absurd (omega arith)
arrived-were (p ∷ ps) [] n some e = cc
arrived-were (p ∷ ps) (c ∷ log) n some e = grind (arith, nat_tests, none-skipped)

module _ (w : LinkRecord) (log : List LogEntry) (n : ℕ) (s : Sender (shape w)) (lt : n < length w.messages) where
  abbrev x : Shape
  x = shape w

  abbrev arrived_as : ℕ → ℕ → Bool
  arrived_as i p = has (shape w) n p && (((Messages.slot_at w p).fragment == i) && arrived_new log p)

  number : (p : ℕ) → p < length w.slots → has x n p ≡ true → (Messages.slot_at w p).fragment ≡ length (numbers_where (has x n) 0 p)
  number p l h = s.number p l ∙ ap (λ m. length (numbers_where (has x m) 0 p)) (of-has x n p h).0

  -- a fragment has one slot
  one-slot : (p q : ℕ) → p < length w.slots → q < length w.slots → has x n p ≡ true → has x n q ≡ true
      → (Messages.slot_at w p).fragment ≡ (Messages.slot_at w q).fragment → p ≡ q
  one-slot p q lp lq hp hq e = step (cases_lt p q) (cases_lt q p)
    where
      step : (p < q) ⊎ (q ≤ p) → (q < p) ⊎ (p ≤ q) → p ≡ q
      step (inl l) t =
          absurd (omega (arith, number p lp hp, number q lq hq, e, length-kept-lt (has x n) 0 p q (ap (has x n) (let z : 0 + p ≡ p = omega arith in z) ∙ hp) l))
      step (inr g) (inl l) =
          absurd (omega (arith, number p lp hp, number q lq hq, e, length-kept-lt (has x n) 0 q p (ap (has x n) (let z : 0 + q ≡ q = omega arith in z) ∙ hq) l))
      step (inr g) (inr h) = omega arith

  -- a fragment with a slot is among the first ones
  below : (p : ℕ) → p < length w.slots → has x n p ≡ true → (Messages.slot_at w p).fragment < sent x n
  below p l h = omega (arith, number p l h, length-kept-lt (has x n) 0 p (length w.slots) (ap (has x n) (let z : 0 + p ≡ p = omega arith in z) ∙ h) l)

  -- each of the first ones has a slot
  slot-for : (i : ℕ) → i < sent x n → (p : ℕ) × (p < length w.slots) × (has x n p ≡ true) × ((Messages.slot_at w p).fragment ≡ i)
  slot-for i l =
      let f : ℕ → ℕ = λ p. (Messages.slot_at w p).fragment in
      let rows = numbered f (has x n) (length w.slots) number in
      let there : list_any (λ k. k == i) (numbers_where always 0 (sent x n)) ≡ true = any-in (λ k. k == i) always i 0 (sent x n) (omega arith)
      (omega arith) refl (same-yes i) in
      let r = any-out (λ p. f p == i) (has x n) 0 (length w.slots)
      (sym (mapped f (numbers_where (has x n) 0 (length w.slots))) ∙ ap (list_any (λ k. k == i)) rows ∙ there) in
      (r.0, omega (arith, r.2), r.3, same-is (f r.0) i r.4)
    where
      mapped : (f : ℕ → ℕ) (ps : List ℕ) → list_any (λ k. k == i) (map f ps) ≡ list_any (λ p. f p == i) ps
      mapped f [] = refl
      mapped f (p ∷ ps) = ap (λ b. (f p == i) || b) (mapped f ps)

  all-arrived : is_complete_by w log n ≡ true → list_all (arrived_new log) (Messages.slots_of w n) ≡ true
  all-arrived e = grind (arith, nat_tests, were-arrived)

  place : (i : ℕ) → fragment_arrived w log n i ≡ true
      → (p : ℕ) × (p < length w.slots) × (has x n p ≡ true) × ((Messages.slot_at w p).fragment ≡ i) × (arrived_new log p ≡ true)
  place i e = grind (arith, nat_tests, any-out)

  -- where each fragment arrived, all of the message was sent, and each of its slots arrived
  pub wholly-sent : arrived_wholly w log n ≡ true
      → (Messages.sent_of w n ≡ Messages.fragment_count w n) × (list_all (arrived_new log) (Messages.slots_of w n) ≡ true)
  wholly-sent e =
      let each : (i : ℕ) → i < Messages.fragment_count w n → fragment_arrived w log n i ≡ true =
      λ i l. all-out (fragment_arrived w log n) always i 0 (Messages.fragment_count w n) e (omega arith) (omega arith) refl in
      let top = last (Messages.fragment_count w n) (s.some n lt) in
      let r = place top.0 (each top.0 (omega (arith, top.1))) in
      let high : top.0 < sent x n = omega (arith, below r.0 r.1 r.2, r.3) in
      let count : Messages.sent_of w n ≡ Messages.fragment_count w n = omega (arith, high, top.1, s.within n lt) in (
        count,
        all-kept (arrived_new log) (has x n) 0 (length w.slots) (λ p a b h.
            let q = place (Messages.slot_at w p).fragment (each (Messages.slot_at w p).fragment (omega (arith, below p (omega arith) h, count))) in
            ap (arrived_new log) (one-slot p q.0 (omega arith) q.1 h q.2 (sym q.3)) ∙ q.4),
      )
    where
      last : (c : ℕ) → 0 < c → (i : ℕ) × (c ≡ i + 1)
      last zero l = absurd (omega arith)
      last (suc c) l = (c, omega arith)

  complete-arrived : is_complete_by w log n ≡ true → arrived_wholly w log n ≡ true
  complete-arrived e =
      let count = same-is (Messages.sent_of w n) (Messages.fragment_count w n) (both (Messages.sent_of w n == Messages.fragment_count w n)
      (if (Messages.message_at w n).ordered then list_all (arrived_new log) (Messages.slots_of w n) else were_complete (Messages.slots_of w n) log) e).0 in
      all-kept (fragment_arrived w log n) always 0 (Messages.fragment_count w n) (λ i a b f.
      let r = slot-for i (omega (arith, count)) in
      let came = all-out (arrived_new log) (has x n) r.0 0 (length w.slots) (all-arrived e) (omega arith) (omega (arith, r.1)) r.2 in
      any-in (arrived_as i) always r.0 0 (length w.slots) (omega arith) (omega (arith, r.1)) refl
      (and (has x n r.0) (((Messages.slot_at w r.0).fragment == i) && arrived_new log r.0) r.2
      (and ((Messages.slot_at w r.0).fragment == i) (arrived_new log r.0) (ap (λ k. k == i) r.3 ∙ same-yes i) came)))

  -- a message is complete exactly where it arrived wholly, an unordered one before a skip covered a fragment
  pub complete-settled : ((Messages.message_at w n).ordered ≡ false → arrived_wholly w log n ≡ true → were_complete (Messages.slots_of w n) log ≡ true)
      → is_complete_by w log n ≡ arrived_wholly w log n
  complete-settled early = grind (arith, nat_tests, complete-arrived, wholly-sent)

  -- without skips an unordered message is complete where it arrived wholly
  pub early-enough : list_any is_skip log ≡ false → arrived_wholly w log n ≡ true → were_complete (Messages.slots_of w n) log ≡ true
  early-enough none e = let a = wholly-sent e in arrived-were (Messages.slots_of w n) log none (omega (arith, a.0, s.some n lt)) a.1

-- ## What was lost

-- none of a stream's messages was lost
record Unlost (w : LinkRecord) (log : List LogEntry) (s n : ℕ) : Type 0 where
  unexpired : (Messages.message_at w n).ordered ≡ true → (Messages.message_at w n).expired ≡ false
  near : (Messages.message_at w n).ordered ≡ true → nat_lt (Messages.ordered_before w s n) (named_by w s log) ≡ true → arrived_wholly w log n ≡ true
  early : (Messages.message_at w n).ordered ≡ false → arrived_wholly w log n ≡ true → were_complete (Messages.slots_of w n) log ≡ true

unlost-parts : (w : LinkRecord) (log : List LogEntry) (s n : ℕ) → (Messages.message_at w n).stream ≡ s → was_lost w log n ≡ false → Unlost w log s n
unlost-parts w log s n at e = grind (arith, nat_tests)

-- where none has a property, this one has not
none-has : (t p : ℕ → Bool) (count : ℕ) → list_any t (numbers_where p 0 count) ≡ false → (n : ℕ) → n < count → p n ≡ true → t n ≡ false
none-has t p count e n lt h = fails (t n) (λ y. not_both (sym e ∙ any-in t p n 0 count (omega arith) (omega arith) h y))

-- none has it where each has not
has-none : (t p : ℕ → Bool) (from count : ℕ) → ((n : ℕ) → from ≤ n → n < from + count → p n ≡ true → t n ≡ false)
    → list_any t (numbers_where p from count) ≡ false
has-none t p from zero h = refl
has-none t p from (suc count) h = grind (arith, nat_tests, (has-none t p (from + 1) count (λ n a b e. h n (omega arith) (omega arith) e)))

-- without losing events nothing is lost
module _ (setup : Setup) (h : History) (run : IsRun setup h) (lossless : list_all (λ entry. loses_nothing entry.0) h ≡ true) where
  abbrev v : LinkRecord
  v = record_of setup h

  abbrev came : List LogEntry
  came = log_of setup h

  none : list_any is_skip came ≡ false
  none = no-skips setup h lossless

  late : (n : ℕ) → n < length v.messages → (a : Bool) → arrived_wholly v came n ≡ a → (a && not (were_complete (Messages.slots_of v n) came)) ≡ false
  late n h1 a h2 = grind (arith, nat_tests, early-enough, consistent-run, none)

  not-lost : (n : ℕ) → n < length v.messages → (o : Bool) → (if o then has_expired v n || (is_passed_over v came n && not (arrived_wholly v came n))
      else arrived_wholly v came n && not (were_complete (Messages.slots_of v n) came)) ≡ false
  not-lost n h1 o = grind (arith, nat_tests, none-named, none, alive-run, late)

  none-lost : (s : ℕ) → has_loss_on setup h s ≡ false
  none-lost s = grind (arith, nat_tests, has-none, not-lost)

pub none_is_lost : OnEveryRun NoneIsLost
none_is_lost setup h is run s lossless = none-lost setup h run lossless s

-- ## What is read

-- the unordered messages that became complete are those that are complete
complete-among : (w : LinkRecord) (s n : ℕ) (log : List LogEntry)
    → list_any (λ k. k == n) (complete_by w log s) ≡ (nat_lt n (length w.messages) && (Messages.is_unordered_on w s n && is_complete_by w log n))
complete-among w s n [] = grind (arith, nat_tests)
complete-among w s n (c ∷ log) = grind (arith, nat_tests, any-append, among-kept, both, not_both, (complete-among w s n log))

-- the run, where each of those passed over is complete
run-passed : (t : ℕ → Bool) (i : ℕ) (xs : List ℕ) → filter (λ n. not (t n)) (take i xs) ≡ [] → filter t (take i xs) ++ leading t (drop i xs) ≡ leading t xs
run-passed t zero [] e = refl
run-passed t zero (x ∷ xs) e = refl
run-passed t (suc i) [] e = refl
run-passed t (suc i) (x ∷ xs) e = step (t x) e (run-passed t i xs)
  where
    step : (b : Bool) → (if not b then x ∷ filter (λ n. not (t n)) (take i xs) else filter (λ n. not (t n)) (take i xs)) ≡ []
        → (filter (λ n. not (t n)) (take i xs) ≡ [] → filter t (take i xs) ++ leading t (drop i xs) ≡ leading t xs)
        → (if b then x ∷ filter t (take i xs) else filter t (take i xs)) ++ leading t (drop i xs) ≡ (if b then x ∷ leading t xs else [])
    step b h1 h2 = grind (arith, nat_tests)

-- the ordered ones in the lead, by what was written and what arrived
leading-as : (f : ℕ → Shown) (o t : ℕ → Bool) (ns : List ℕ) → map f (leading t (filter o ns)) ≡ ordered_run (map (λ n. (f n, not (o n))) ns) (map t ns)
leading-as f o t [] = refl
leading-as f o t (n ∷ ns) = grind (arith, nat_tests, (leading-as f o t ns))

-- the unordered complete ones, by what was written and what arrived
complete_ones-as : (f : ℕ → Shown) (o t : ℕ → Bool) (ns : List ℕ)
    → map (λ n. not (o n) && t n) ns ≡ complete_unordered (map (λ n. (f n, not (o n))) ns) (map t ns)
complete_ones-as f o t [] = refl
complete_ones-as f o t (n ∷ ns) = ap (λ l. (not (o n) && t n) ∷ l) (complete_ones-as f o t ns)

-- the writes on a stream, by number
written-as : (s : ℕ) (f : ℕ → Shown) (g : ℕ → Mode) (from count : ℕ) → written_on s (map f (numbers_where always from count))
    (map g (numbers_where always from count)) ≡ map (λ n. (f n, (g n).unordered)) (numbers_where (λ n. (f n).0 == s) from count)
written-as s f g from zero = refl
written-as s f g from (suc count) = grind (arith, nat_tests, (written-as s f g (from + 1) count))

-- a list by its places
moved-up : {A : Type 0} (h : ℕ → A) (from count : ℕ) → map h (numbers_where always (from + 1) count) ≡ map (λ n. h (n + 1)) (numbers_where always from count)
moved-up h from zero = refl
moved-up h from (suc count) = ap (λ l. h (from + 1) ∷ l) (moved-up h (from + 1) count)

by-place : {A B : Type 0} (f : A → B) (d : A) (xs : List A) → map f xs ≡ map (λ n. f (get_or xs n d)) (numbers_where always 0 (length xs))
by-place f d [] = refl
by-place f d (x ∷ xs) =
    ap (λ l. f x ∷ l) (by-place f d xs
    ∙ map-kept-same (λ n. f (get_or xs n d)) (λ n. f (get_or (x ∷ xs) (n + 1) d)) always always 0 (length xs) (λ k a b. refl)
    (λ k a b e. ap (λ j. f (get_or (x ∷ xs) j d)) (let z : suc k ≡ k + 1 = omega arith in z)) ∙ sym (moved-up (λ n. f (get_or (x ∷ xs) n d)) 0 (length xs)))

-- ## One history

module _ (setup : Setup) (h : History) (s : ℕ) (is : IsSetup setup) (run : IsRun setup h) (unlost : has_loss_on setup h s ≡ false) where
  abbrev w : LinkRecord
  w = record_of setup h

  abbrev log : List LogEntry
  log = log_of setup h

  abbrev here : ℕ → Bool
  here n = (Messages.message_at w n).stream == s

  parts : (n : ℕ) → n < length w.messages → here n ≡ true → Unlost w log s n
  parts n lt at = unlost-parts w log s n (same-is (Messages.message_at w n).stream s at) (none-has (was_lost w log) here (length w.messages) unlost n lt at)

  complete-here : (n : ℕ) → n < length w.messages → here n ≡ true → is_complete_by w log n ≡ arrived_wholly w log n
  complete-here n lt at = complete-settled w log n (consistent-run setup h run).sender lt (parts n lt at).early

  complete_ones-are : map (is_complete_by w log) (messages_on w s) ≡ arrivals_on setup h s
  complete_ones-are = grind (arith, nat_tests, map-kept-same, complete-here)

  writes-are : writes_on h s ≡ map (λ n. (shown_of w n, not (is_ordered w n))) (messages_on w s)
  writes-are =
      ap (λ xs. written_on s xs (modes_in h)) (sym (messages_are_writes setup h is run))
      ∙ ap (written_on s (map (shown_of w) (numbers_where always 0 (length w.messages)))) (sym (modes_are_kept setup h is run)
      ∙ by-place mode_of Messages.no_message w.messages) ∙ written-as s (shown_of w) (λ n. mode_of (Messages.message_at w n)) 0 (length w.messages)

  line-is : Messages.ordered_on w s ≡ filter (is_ordered w) (messages_on w s)
  line-is =
      kept-same (Messages.is_ordered_on w s) (λ n. here n && is_ordered w n) 0 (length w.messages)
      (λ n a b. step n (omega arith) (here n) refl (is_ordered w n) refl) ∙ sym (passing-kept (is_ordered w) here 0 (length w.messages))
    where
      step : (n : ℕ) → n < length w.messages → (b : Bool) → here n ≡ b → (o : Bool) → is_ordered w n ≡ o
          → (b && (o && not (Messages.message_at w n).expired)) ≡ (b && o)
      step n lt true at true o = ap not ((parts n lt at).unexpired o)
      step n lt true at false o = refl
      step n lt false at t o = refl

  placed : (k : ℕ) → Messages.ordered_before w s k ≡ 0 + length (numbers_where (Messages.is_ordered_on w s) 0 (k - 0))
  placed k = grind (arith, nat_tests)

  -- each of those passed over is complete
  none-passed : filter (λ n. not (is_complete_by w log n)) (take (named_by w s log) (Messages.ordered_on w s)) ≡ []
  none-passed =
      take-kept (Messages.is_ordered_on w s) (λ n. not (is_complete_by w log n)) (Messages.ordered_before w s) 0 (length w.messages)
      (named_by w s log) 0 (named_by w s log) (omega arith) (λ k a b e. placed k) ∙ kept-none (λ n. Messages.is_ordered_on w s n
      && (not (is_complete_by w log n) && nat_lt (Messages.ordered_before w s n) (named_by w s log))) 0 (length w.messages)
      (λ n a b. fails (Messages.is_ordered_on w s n && (not (is_complete_by w log n) && nat_lt (Messages.ordered_before w s n) (named_by w s log))) (λ e.
      let c = both (Messages.is_ordered_on w s n) (not (is_complete_by w log n) && nat_lt (Messages.ordered_before w s n) (named_by w s log)) e in
      let d = both (here n) (is_ordered w n && not (Messages.message_at w n).expired) c.0 in
      let o = both (is_ordered w n) (not (Messages.message_at w n).expired) d.1 in
      let f = both (not (is_complete_by w log n)) (nat_lt (Messages.ordered_before w s n) (named_by w s log)) c.1 in
      not_both (sym (negated (is_complete_by w log n) f.0) ∙ complete-here n (omega arith) d.0 ∙ (parts n (omega arith) d.0).near o.0 f.1)))

  run-is : run_by w log s ≡ leading (is_complete_by w log) (filter (is_ordered w) (messages_on w s))
  run-is = run-passed (is_complete_by w log) (named_by w s log) (Messages.ordered_on w s) none-passed ∙ ap (leading (is_complete_by w log)) line-is

  pub ordered-settled : ordered_reads setup h s ≡ run_by w log s → ordered_shown setup h s ≡ ordered_run (writes_on h s) (arrivals_on setup h s)
  ordered-settled e = cc (e, run-is, leading-as (shown_of w) (is_ordered w) (is_complete_by w log) (messages_on w s), writes-are, complete_ones-are)

  pub unordered-settled : unordered_reads setup h s ≡ complete_by w log s
      → unordered_shown setup h s ≡ complete_unordered (writes_on h s) (arrivals_on setup h s)
  unordered-settled e =
      map-kept-same (λ n. list_any (λ m. m == n) (unordered_reads setup h s)) (λ n. not (is_ordered w n) && is_complete_by w log n) here here 0
      (length w.messages) (λ k a b. refl) (λ n a b at. ap (list_any (λ m. m == n)) e ∙ complete-among w s n log
      ∙ step n (nat_lt n (length w.messages)) (let lt : n < length w.messages = omega arith in grind (arith, nat_tests)) (here n) at)
      ∙ complete_ones-as (shown_of w) (is_ordered w) (is_complete_by w log) (messages_on w s)
      ∙ ap (λ xs. complete_unordered xs (map (is_complete_by w log) (messages_on w s))) (sym writes-are)
      ∙ ap (complete_unordered (writes_on h s)) complete_ones-are
    where
      step : (n : ℕ) (l : Bool) → l ≡ true → (b : Bool) → b ≡ true
          → (l && ((b && not (is_ordered w n)) && is_complete_by w log n)) ≡ (not (is_ordered w n) && is_complete_by w log n)
      step n l h1 b h2 = grind (arith, nat_tests)

pub reads_by_arrivals : OnEveryRun ReadsByArrivals
reads_by_arrivals setup h is run s unlost exhausted = grind (arith, nat_tests, nothing_where_read, ordered-settled, unordered-settled)

-- ## Two histories

pub reads_are_settled : ReadsAreSettled
reads_are_settled a b g h s x y writes arrivals =
    let p = reads_by_arrivals a g x.is x.run s x.unlost x.exhausted in
    let q = reads_by_arrivals b h y.is y.run s y.unlost y.exhausted in
    let one = ap (λ xs. ordered_run xs (arrivals_on a g s)) writes ∙ ap (ordered_run (writes_on h s)) arrivals in
    let two = ap (λ xs. complete_unordered xs (arrivals_on a g s)) writes ∙ ap (complete_unordered (writes_on h s)) arrivals in
    (p.0 ∙ one ∙ sym q.0, p.1 ∙ two ∙ sym q.1)

-- ## The form that asks more

-- two histories of one link have the same writes, the same of them unordered, and on stream s the same fragments arrived
pub record SameFragments (setup : Setup) (g h : History) (s : ℕ) : Type 0 where
  pub writes : writes_in g ≡ writes_in h
  pub kinds : map (λ m. m.unordered) (modes_in g) ≡ map (λ m. m.unordered) (modes_in h)
  pub fragments : (n i : ℕ) → (Messages.message_at (record_of setup h) n).stream ≡ s
      → fragment_arrived (record_of setup g) (log_of setup g) n i ≡ fragment_arrived (record_of setup h) (log_of setup h) n i

-- values that agree one after another agree at each number
same-at : {A : Type 0} (f g : ℕ → A) (p : ℕ → Bool) (from count n : ℕ) → map f (numbers_where p from count) ≡ map g (numbers_where p from count) → from ≤ n
    → n < from + count → p n ≡ true → f n ≡ g n
same-at f g p from zero n e a b h = absurd (omega arith)
same-at {A} f g p from (suc count) n e a b h = step (p from) refl e (eq-or-lt_of_le a) (λ t l. same-at f g p (from + 1) count n t l (omega arith) h)
  where
    step : (b : Bool) → p from ≡ b → map f (if b then from ∷ numbers_where p (from + 1) count else numbers_where p (from + 1) count)
        ≡ map g (if b then from ∷ numbers_where p (from + 1) count else numbers_where p (from + 1) count) → (from ≡ n) ⊎ (from < n)
        → (map f (numbers_where p (from + 1) count) ≡ map g (numbers_where p (from + 1) count) → from + 1 ≤ n → f n ≡ g n) → f n ≡ g n
    step b h1 h2 h3 h4 = grind (arith, nat_tests)

module _ (setup : Setup) (g h : History) (s : ℕ) (a : IsReadWholly setup g s) (b : IsReadWholly setup h s) (same : SameFragments setup g h s) where
  abbrev old : LinkRecord
  old = record_of setup g

  abbrev new : LinkRecord
  new = record_of setup h

  abbrev there : ℕ → Bool
  there n = (Messages.message_at new n).stream == s

  counts : length old.messages ≡ length new.messages
  counts =
      sym (length-mapped (shown_of old) (numbers_where always 0 (length old.messages)) ∙ length-always 0 (length old.messages))
      ∙ ap length (messages_are_writes setup g a.is a.run ∙ same.writes ∙ sym (messages_are_writes setup h b.is b.run))
      ∙ (length-mapped (shown_of new) (numbers_where always 0 (length new.messages)) ∙ length-always 0 (length new.messages))
    where
      length-always : (from count : ℕ) → length (numbers_where always from count) ≡ count
      length-always from zero = refl
      length-always from (suc count) = ap suc (length-always (from + 1) count)

  each : (n : ℕ) → n < length new.messages → shown_of old n ≡ shown_of new n
  each n lt =
      same-at (shown_of old) (shown_of new) always 0 (length new.messages) n
      (ap (λ c. map (shown_of old) (numbers_where always 0 c)) (sym counts) ∙ messages_are_writes setup g a.is a.run ∙ same.writes
      ∙ sym (messages_are_writes setup h b.is b.run)) (omega arith) (omega arith) refl

  line : messages_on old s ≡ messages_on new s
  line = grind (arith, nat_tests, counts, kept-same, each)

  parts-same : (n : ℕ) → n < length new.messages → Messages.fragment_count old n ≡ Messages.fragment_count new n
  parts-same n lt = grind (arith, nat_tests, each, consistent-run)

  arrivals : arrivals_on setup g s ≡ arrivals_on setup h s
  arrivals = search (arith, nat_tests, line, map-kept-same, parts-same, all-same, same-is)
