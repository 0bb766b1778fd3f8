use Rattle.sctp_model.proofs.Names.{◌≡◌, ℕ, ◌<◌, ◌≤◌, Bool, true, false, List, [], ◌∷◌, length, map, Option, Some, None, refl, ap, sym, ◌∙◌, arith, ◌⊎◌}
use Rattle.sctp_model.proofs.Names.{if◌then◌else◌, ◌==◌, ◌||◌, nat_lt, fold, slice_get, slice_index_or, list_any, filter, cases_lt, nat_tests, or_else}
use Rattle.sctp_model.proofs.Names.{changed-keeps, length-changed, same_test, Event, Reply, Setup, Datagram, Data, Forward, Sack, LinkRecord, next_read}
use Rattle.sctp_model.proofs.Names.{writes_in, started_in, moment_of, History, record_of, IsRun, refusal_of, after, IsSetup, OnEveryRun, StartsOnce}
use Rattle.sctp_model.proofs.Names.{LateAbandonsListed, get-snoc_old, length-mapped, map-at, any-append, length-numbers, common_steps, is_write}
use Rattle.sctp_model.specs.declared.event.Event.TheVariants as E
use Rattle.sctp_model.specs.Messages
use Rattle.sctp_model.specs.Changes
use Rattle.sctp_model.proofs.sender.Shapes
use Rattle.sctp_model.proofs.sender.SenderRun.{fold-keeps, consistent-run}
use Rattle.sctp_model.proofs.sender.Network.{extends-after}
use Rattle.sctp_model.proofs.sender.Written.{messages_are_writes}
use Rattle.sctp_model.proofs.acknowledgement.BytesAnswered.{messages-sent, count-abandoned, count-late}

-- When lifetimes start, and what Late abandons.

-- ## Lifetimes

started-now : (w : LinkRecord) (now n : ℕ) → n < length w.messages
    → (Messages.message_at (Changes.after_start w now) n).started ≡ or_else (Messages.message_at w n).started (Some now)
started-now w now n lt = grind (arith, nat_tests, map-at)

started-sent : (w : LinkRecord) (now n : ℕ) (o : Option ℕ) → n < length w.messages
    → (Messages.message_at (Changes.send_from (Changes.after_start w now) o) n).started ≡ or_else (Messages.message_at w n).started (Some now)
started-sent w now n None lt = started-now w now n lt
started-sent w now n (Some m) lt = cc (messages-sent (Changes.after_start w now), started-now w now n lt)

started-abandoned : (w : LinkRecord) (m n : ℕ) → (Messages.message_at (Changes.after_abandon w m) n).started ≡ (Messages.message_at w n).started
started-abandoned w m n = step (Messages.is_partially_sent w m)
  where
    step : (b : Bool) → (Messages.message_at (Changes.message_changed (if b then Changes.with_slot w m true else w) m Changes.mark_abandoned) n).started
        ≡ (Messages.message_at w n).started
    step true = changed-keeps Changes.mark_abandoned (λ y. y.started) (λ y. refl) m n w.messages Messages.no_message
    step false = changed-keeps Changes.mark_abandoned (λ y. y.started) (λ y. refl) m n w.messages Messages.no_message

started-tail : (w : LinkRecord) (n : ℕ) (o : Option ℕ) → (Messages.message_at (Changes.after_tail w o) n).started ≡ (Messages.message_at w n).started
started-tail w n o = grind (arith, nat_tests, started-abandoned)

started-expired : (w : LinkRecord) (n : ℕ) (o : Option ℕ) → (Messages.message_at (Changes.after_expire w o) n).started ≡ (Messages.message_at w n).started
started-expired w n None = refl
started-expired w n (Some m) = changed-keeps Changes.mark_expired (λ y. y.started) (λ y. refl) m n w.messages Messages.no_message

started-read : (w : LinkRecord) (s n : ℕ) (o : Option ℕ) → (Messages.message_at (Changes.read_of w s o) n).started ≡ (Messages.message_at w n).started
started-read w s n None = refl
started-read w s n (Some m) = changed-keeps Changes.mark_read (λ y. y.started) (λ y. refl) m n w.messages Messages.no_message

-- what comes leaves the messages
pub messages-slot : (w : LinkRecord) (p : ℕ) → (Changes.receive_slot w p).messages ≡ w.messages
messages-slot w p = grind (arith, nat_tests)

pub messages-received : (w : LinkRecord) (o : Option Datagram) → (Changes.after_arrive w o).messages ≡ w.messages
messages-received w None = refl
messages-received w (Some (Data ps)) = fold-keeps (λ v. v.messages ≡ w.messages) Changes.receive_slot (λ v p e. messages-slot v p ∙ e) ps w refl
messages-received w (Some (Forward upto names)) = grind (arith, nat_tests)
messages-received w (Some (Sack r)) = refl

pub messages-taken : (w : LinkRecord) (o : Option Datagram) → (Changes.after_acked w o).messages ≡ w.messages
messages-taken w o = grind (arith, nat_tests)

pub count-sent : (w : LinkRecord) (now : ℕ) (o : Option ℕ) → length (Changes.send_from (Changes.after_start w now) o).messages ≡ length w.messages
count-sent w now None = length-mapped (Changes.start_lifetime now) w.messages
count-sent w now (Some k) = ap length (messages-sent (Changes.after_start w now)) ∙ length-mapped (Changes.start_lifetime now) w.messages

count-expired : (w : LinkRecord) (o : Option ℕ) → length (Changes.after_expire w o).messages ≡ length w.messages
count-expired w o = grind (arith, nat_tests, length-changed)

count-tail : (w : LinkRecord) (o : Option ℕ) → length (Changes.after_tail w o).messages ≡ length w.messages
count-tail w o = grind (arith, nat_tests, count-abandoned)

count-read : (w : LinkRecord) (s : ℕ) (o : Option ℕ) → length (Changes.read_of w s o).messages ≡ length w.messages
count-read w s o = grind (arith, nat_tests, length-changed)

-- only a write makes a message
pub count-after : (w : LinkRecord) (e : Event) → is_write e ≡ false → length (after w e).messages ≡ length w.messages
count-after w e h1 =
    grind (arith, nat_tests, length-mapped, count-sent, count-expired, count-tail, count-late, count-abandoned, messages-received, count-read)

-- one event: a message that there was
started-after : (w : LinkRecord) (e : Event) (n : ℕ) → n < length w.messages
    → (Messages.message_at (after w e) n).started ≡ or_else (Messages.message_at w n).started (moment_of e)
started-after w e n lt = by_event e
  where
    none : (o : Option ℕ) → o ≡ or_else o None
    none o = grind (arith, nat_tests)

    same : (v : LinkRecord) → (Messages.message_at v n).started ≡ (Messages.message_at w n).started
        → (Messages.message_at v n).started ≡ or_else (Messages.message_at w n).started None
    same v e = e ∙ none (Messages.message_at w n).started

    by_event : (e : Event) → (Messages.message_at (after w e) n).started ≡ or_else (Messages.message_at w n).started (moment_of e)
    by_event (E.Write s ppi []) = same w refl
    by_event (E.Write s ppi (b ∷ bs)) = grind (arith, nat_tests, get-snoc_old)
    by_event (E.Start now) = started-now w now n lt
    by_event (E.Send now) = started-sent w now n (Messages.front w) lt
    by_event (E.Expire now) = same (after w (E.Expire now)) (started-expired w n (Changes.expiring w now))
    by_event (E.Tail now) = same (after w (E.Tail now)) (started-tail w n (Changes.tailing w now))
    by_event (E.Late now) = same (after w (E.Late now)) (fold-keeps (λ v. (Messages.message_at v n).started
        ≡ (Messages.message_at w n).started) Changes.after_abandon (λ v m e. started-abandoned v m n ∙ e) (Changes.late_messages w now) w refl)
    by_event (E.Abandon tsn) = same (after w (E.Abandon tsn)) (started-abandoned w (Messages.message_of w (Messages.place_of w tsn)) n)
    by_event (E.Arrive k) = grind (arith, nat_tests, messages-received)
    by_event (E.Acked k) = same (after w (E.Acked k)) (ap (λ ms. (slice_index_or ms n Messages.no_message).started) (messages-taken w (slice_get w.network k)))
    by_event (E.Read s) = same (after w (E.Read s)) (started-read w s n (next_read w s))
    by_event event = same (after w event) refl

-- a message that an event makes
started-new : (w : LinkRecord) (e : Event) (n : ℕ) → length w.messages ≤ n → n < length (after w e).messages
    → (Messages.message_at (after w e) n).started ≡ None
started-new w e n h1 h2 = grind (arith, nat_tests, common_steps, count-after)

record Begins (setup : Setup) (h : History) (w : LinkRecord) : Type 0 where
  each : (n : ℕ) → n < length w.messages → (Messages.message_at w n).started ≡ started_in h n
  past : (n : ℕ) → length w.messages ≤ n → started_in h n ≡ None

pub writes-count : (setup : Setup) (h : History) → IsSetup setup → IsRun setup h → length (writes_in h) ≡ length (record_of setup h).messages
writes-count setup h is run = grind (arith, nat_tests, messages_are_writes, length-mapped, length-numbers)

begins-step : (setup : Setup) (older : History) (e : Event) (r : Reply) → IsSetup setup → IsRun setup older → refusal_of (record_of setup older) e ≡ None
    → Begins setup older (record_of setup older) → Begins setup ((e, r) ∷ older) (after (record_of setup older) e)
begins-step setup older e r is run ok b = record {
  each = λ n lt. at n lt (cases_lt n (length (record_of setup older).messages));
  past = λ n le. beyond n (omega (arith, le, (extends-after setup (record_of setup older) e ok (consistent-run setup older run)).grows.count));
}
  where
    beyond : (n : ℕ) → length (record_of setup older).messages ≤ n
        → or_else (started_in older n) (if nat_lt n (length (writes_in older)) then moment_of e else None) ≡ None
    beyond n le = grind (arith, nat_tests, writes-count)

    at : (n : ℕ) → n < length (after (record_of setup older) e).messages → (n < length (record_of setup older).messages)
        ⊎ (length (record_of setup older).messages ≤ n) → (Messages.message_at (after (record_of setup older) e) n).started ≡ or_else (started_in older n)
        (if nat_lt n (length (writes_in older)) then moment_of e else None)
    at n h1 h2 = grind (arith, nat_tests, writes-count, started-after, started-new)

begins-run : (setup : Setup) (h : History) → IsSetup setup → IsRun setup h → Begins setup h (record_of setup h)
begins-run setup [] is run = record { each = λ n lt. absurd (omega arith); past = λ n le. refl }
begins-run setup (entry ∷ older) is run = begins-step setup older entry.0 entry.1 is run.1.1 run.0 (begins-run setup older is run.1.1)

pub starts_once : OnEveryRun StartsOnce
starts_once setup h is run = (begins-run setup h is run).each

-- ## Late

pub swap : (m n : ℕ) → (n == m) ≡ (m == n)
swap m n = same_test (n == m) (m == n) (λ e. grind (arith, nat_tests)) (λ e. grind (arith, nat_tests))

pub abandoned-by : (w : LinkRecord) (m n : ℕ)
    → (Messages.message_at (Changes.after_abandon w m) n).abandoned ≡ ((n == m) || (Messages.message_at w n).abandoned)
abandoned-by w m n = step (Messages.is_partially_sent w m)
  where
    step : (b : Bool) → (Messages.message_at (Changes.message_changed (if b then Changes.with_slot w m true else w) m Changes.mark_abandoned) n).abandoned
        ≡ ((n == m) || (Messages.message_at w n).abandoned)
    step true = ap (λ x. (x.message n).abandoned) (Shapes.shape-abandoned (Changes.with_slot w m true) m)
    step false = ap (λ x. (x.message n).abandoned) (Shapes.shape-abandoned w m)

abandoned-all : (ms : List ℕ) (w : LinkRecord) (n : ℕ)
    → (Messages.message_at (fold Changes.after_abandon w ms) n).abandoned ≡ ((Messages.message_at w n).abandoned || list_any (λ m. m == n) ms)
abandoned-all [] w n = sym ((elim (Messages.message_at w n).abandoned as (λ b. (b || false) ≡ b) [ true ↦ refl | false ↦ refl ]))
abandoned-all (m ∷ ms) w n = grind (arith, nat_tests, abandoned-by, swap, (abandoned-all ms (Changes.after_abandon w m) n))

any-passing : (t q : ℕ → Bool) (xs : List ℕ) → list_any t (filter q xs) ≡ true → list_any t xs ≡ true
any-passing t q [] e = e
any-passing t q (x ∷ xs) e = step (q x) e (λ h. any-passing t q xs h)
  where
    step : (b : Bool) → list_any t (if b then x ∷ filter q xs else filter q xs) ≡ true → (list_any t (filter q xs) ≡ true → list_any t xs ≡ true)
        → (t x || list_any t xs) ≡ true
    step b h1 h2 = grind (arith, nat_tests)

any-mapped : (t : ℕ → Bool) (g : ℕ → ℕ) (xs : List ℕ) → list_any t (map g xs) ≡ list_any (λ x. t (g x)) xs
any-mapped t g [] = refl
any-mapped t g (x ∷ xs) = ap (λ b. t (g x) || b) (any-mapped t g xs)

pub late_abandons_listed : OnEveryRun LateAbandonsListed
late_abandons_listed setup h is run now n lt = grind (arith, nat_tests, abandoned-all, any-append, any-passing, any-mapped)
