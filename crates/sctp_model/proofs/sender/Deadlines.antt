use Rattle.sctp_model.proofs.Names.{◌≡◌, ℕ, zero, suc, ◌+◌, ◌<◌, ◌≤◌, Bool, true, false, List, [], ◌∷◌, length, map, Option, Some, None, refl, ap, sym, ◌∙◌}
use Rattle.sctp_model.proofs.Names.{inl, inr, arith, ◌⊎◌, if◌then◌else◌, ◌==◌, ◌&&◌, ◌||◌, not, nat_lt, nat_le, slice_get, slice_index_or, option_to_list}
use Rattle.sctp_model.proofs.Names.{filter, cases_lt, nat_tests, numbers_where, always, first_of, or-none, get-beyond, kept-same, ReliabilityType}
use Rattle.sctp_model.proofs.Names.{PayloadProtocolIdentifier, Setup, LinkRecord, growth, has_lifetime, is_over, is_past_deadline_by_events, writes_in}
use Rattle.sctp_model.proofs.Names.{modes_in, taken_in, is_acknowledged_in, History, record_of, IsRun, after, expired_reply, tail_reply, OnEveryRun}
use Rattle.sctp_model.proofs.Names.{DeadlinesByEvents, ExpiresPastDeadline, TailAbandonsPastDeadline, LateListsPastDeadline, answered_of, is_this}
use Rattle.sctp_model.proofs.Names.{unsent_past_deadline, partially_sent_past_deadline, is_late_in, late_slots_by_events, shown_of, mode_of, is_past, is_timed}
use Rattle.sctp_model.proofs.Names.{is_dcep}
use Rattle.sctp_model.specs.declared.event.Event.TheVariants as E
use Rattle.sctp_model.specs.Reply as R
use Rattle.sctp_model.specs.Messages
use Rattle.sctp_model.specs.Changes
use Rattle.sctp_model.proofs.sender.Shape.{shape, sent}
use Rattle.sctp_model.proofs.sender.Shapes
use Rattle.sctp_model.proofs.sender.Fronts.{front-takes, slot-sent}
use Rattle.sctp_model.proofs.sender.SenderRun.{consistent-run}
use Rattle.sctp_model.proofs.sender.Written.{messages_are_writes}
use Rattle.sctp_model.proofs.sender.Modes.{modes_are_kept}
use Rattle.sctp_model.proofs.acknowledgement.Acknowledged.{acknowledged_is_reported}
use Rattle.sctp_model.proofs.sender.Lifetimes.{starts_once, writes-count, late_abandons_listed, abandoned-by}

-- Which messages are past their deadlines, by the events alone, and that Expire, Tail and Late go by it.

-- ## The record's lifetimes are those of the events

got-mapped : {A B : Type 0} (f : A → B) (xs : List A) (n : ℕ) (d : A) → n < length xs → slice_get (map f xs) n ≡ Some (f (slice_index_or xs n d))
got-mapped f [] n d lt = absurd (omega arith)
got-mapped f (x ∷ xs) zero d lt = refl
got-mapped f (x ∷ xs) (suc n) d lt = got-mapped f xs n d (omega arith)

got-number : {B : Type 0} (f : ℕ → B) (from count n : ℕ) → n < count → slice_get (map f (numbers_where always from count)) n ≡ Some (f (from + n))
got-number f from zero n lt = absurd (omega arith)
got-number f from (suc count) zero lt = let z : from ≡ from + 0 = omega arith in ap (λ k. Some (f k)) z
got-number f from (suc count) (suc n) lt = grind (arith, nat_tests, (got-number f (from + 1) count n (omega arith)))

got-none : {A : Type 0} (xs : List A) (n : ℕ) → length xs ≤ n → slice_get xs n ≡ None
got-none [] n le = refl
got-none (x ∷ xs) zero le = absurd (omega arith)
got-none (x ∷ xs) (suc n) le = got-none xs n (omega arith)

lapses : (now value : ℕ) (ppi : PayloadProtocolIdentifier) (r : ReliabilityType) (o : Option ℕ)
    → is_past now (if is_timed r && not (is_dcep ppi) then Messages.deadline_from value o else None) ≡ (has_lifetime r ppi && is_over now value o)
lapses now value ppi r o = grind (arith, nat_tests)

pub deadlines_by_events : OnEveryRun DeadlinesByEvents
deadlines_by_events setup h is run now n = step (cases_lt n (length (record_of setup h).messages))
  where
    w : LinkRecord
    w = record_of setup h

    step : (n < length w.messages) ⊎ (length w.messages ≤ n) → Messages.is_past_deadline w now n ≡ is_past_deadline_by_events h now n
    step (inl lt) =
        let m = Messages.message_at w n in
        let write : Some (shown_of w n) ≡ slice_get (writes_in h) n =
        (let z : 0 + n ≡ n = omega arith in sym (ap (λ k. Some (shown_of w k)) z)) ∙ sym (got-number (shown_of w) 0 (length w.messages) n lt)
        ∙ ap (λ xs. slice_get xs n) (messages_are_writes setup h is run) in
        let mode : Some (mode_of m) ≡ slice_get (modes_in h) n = sym (got-mapped mode_of w.messages n Messages.no_message lt)
        ∙ ap (λ xs. slice_get xs n) (modes_are_kept setup h is run) in
        cc (lapses now m.value m.ppi m.reliability m.started, starts_once setup h is run n lt, write, mode)
    step (inr le) = grind (arith, nat_tests, get-beyond, got-none, writes-count)

-- ## Expire and Tail

-- the front, where a test holds of it, as the record and as the law have it
front-where : (w : LinkRecord) (p q : ℕ → Bool) (o : Option ℕ) → ((n : ℕ) → o ≡ Some n → p n ≡ q n)
    → Changes.front_if w p o ≡ first_of (filter q (option_to_list o))
front-where w p q o h1 = grind (arith, nat_tests)

expiring-is : (setup : Setup) (h : History) → Rattle.sctp_model.specs.Laws.IsSetup setup → IsRun setup h → (now : ℕ)
    → Changes.expiring (record_of setup h) now ≡ unsent_past_deadline h (record_of setup h) now
expiring-is setup h is run now = front-where w (λ n. Messages.is_unsent w n && Messages.is_past_deadline w now n)
    (λ n. is_past_deadline_by_events h now n && (Messages.sent_of w n == 0)) (Messages.front w) same
  where
    w : LinkRecord
    w = record_of setup h

    mixed : (a b c d : Bool) → b ≡ false → c ≡ d → ((a && not b) && c) ≡ (d && a)
    mixed a b c d h1 h2 = grind (arith, nat_tests)

    same : (n : ℕ) → Messages.front w ≡ Some n
        → (Messages.is_unsent w n && Messages.is_past_deadline w now n) ≡ (is_past_deadline_by_events h now n && (Messages.sent_of w n == 0))
    same n e = mixed (Messages.sent_of w n == 0) (Messages.message_at w n).expired (Messages.is_past_deadline w now n) (is_past_deadline_by_events h now n)
        (front-takes (shape w) n (consistent-run setup h run).sender e).kept (deadlines_by_events setup h is run now n)

tailing-is : (setup : Setup) (h : History) → Rattle.sctp_model.specs.Laws.IsSetup setup → IsRun setup h → (now : ℕ)
    → Changes.tailing (record_of setup h) now ≡ partially_sent_past_deadline h (record_of setup h) now
tailing-is setup h is run now = front-where w (λ n. Messages.is_partially_sent w n && Messages.is_past_deadline w now n)
    (λ n. is_past_deadline_by_events h now n && nat_lt 0 (Messages.sent_of w n)) (Messages.front w) same
  where
    w : LinkRecord
    w = record_of setup h

    mixed : (a m b c d : Bool) → m ≡ true → b ≡ false → c ≡ d → ((a && (m && not b)) && c) ≡ (d && a)
    mixed a m b c d h1 h2 h3 = grind (arith, nat_tests)

    same : (n : ℕ) → Messages.front w ≡ Some n
        → (Messages.is_partially_sent w n && Messages.is_past_deadline w now n) ≡ (is_past_deadline_by_events h now n && nat_lt 0 (Messages.sent_of w n))
    same n e =
        let t = front-takes (shape w) n (consistent-run setup h run).sender e in
        let some = t.more in
        let more : nat_lt (Messages.sent_of w n) (Messages.fragment_count w n) ≡ true = grind (arith, nat_tests) in
        mixed (nat_lt 0 (Messages.sent_of w n)) (nat_lt (Messages.sent_of w n) (Messages.fragment_count w n)) (Messages.message_at w n).abandoned
        (Messages.is_past_deadline w now n) (is_past_deadline_by_events h now n) more t.alive (deadlines_by_events setup h is run now n)

-- message n, or what was so before
marked : (n m : ℕ) (b : Bool) → ((n == m) || b) ≡ (b || ((m == n) || false))
marked n m b = grind (arith, nat_tests)

pub expires_past_deadline : OnEveryRun ExpiresPastDeadline
expires_past_deadline setup h is run now = (
  ap (λ o. expired_reply w (after w (E.Expire now)) o) (expiring-is setup h is run now) ∙ answered (unsent_past_deadline h w now),
  λ n lt. ap (λ o. (Messages.message_at (Changes.after_expire w o) n).expired) (expiring-is setup h is run now) ∙ gone n (unsent_past_deadline h w now),
)
  where
    w : LinkRecord
    w = record_of setup h

    answered : (o : Option ℕ)
        → expired_reply w (after w (E.Expire now)) o ≡ answered_of (λ n. R.Expired (Messages.message_at w n).stream (growth w (after w (E.Expire now)))) o
    answered o = grind (arith, nat_tests)

    gone : (n : ℕ) (o : Option ℕ) → (Messages.message_at (Changes.after_expire w o) n).expired ≡ ((Messages.message_at w n).expired || is_this o n)
    gone n None = sym (or-none (Messages.message_at w n).expired)
    gone n (Some m) = ap (λ x. (x.message n).expired) (Shapes.shape-expired w m) ∙ marked n m (Messages.message_at w n).expired

pub tail_abandons_past_deadline : OnEveryRun TailAbandonsPastDeadline
tail_abandons_past_deadline setup h is run now = (
  ap (λ o. tail_reply w (after w (E.Tail now)) o) (tailing-is setup h is run now) ∙ answered (partially_sent_past_deadline h w now),
  λ n lt. ap (λ o. (Messages.message_at (Changes.after_tail w o) n).abandoned) (tailing-is setup h is run now) ∙ gone n (partially_sent_past_deadline h w now),
)
  where
    w : LinkRecord
    w = record_of setup h

    answered : (o : Option ℕ)
        → tail_reply w (after w (E.Tail now)) o ≡ answered_of (λ n. R.Released (Messages.message_at w n).stream (growth w (after w (E.Tail now)))) o
    answered o = grind (arith, nat_tests)

    gone : (n : ℕ) (o : Option ℕ) → (Messages.message_at (Changes.after_tail w o) n).abandoned ≡ ((Messages.message_at w n).abandoned || is_this o n)
    gone n o = grind (arith, nat_tests, abandoned-by)

-- ## Late

slots-are : (setup : Setup) (h : History) → Rattle.sctp_model.specs.Laws.IsSetup setup → IsRun setup h → (now : ℕ)
    → Changes.late_slots (record_of setup h) now ≡ late_slots_by_events setup h (record_of setup h) now
slots-are setup h is run now =
    kept-same (Changes.is_late w now) (λ p. is_late_in setup h w now (Messages.message_of w p) p) 0 (length w.slots) (λ p a b. same p (omega arith))
  where
    w : LinkRecord
    w = record_of setup h

    mixed : (f f' i l l' g a a' s m : Bool) → f ≡ f' → i ≡ true → l ≡ l' → a ≡ a' → s ≡ true
        → ((f && i) && (l && (not g && (not a || (s && (m && not g)))))) ≡ (f' && (l' && (not g && (not a' || m))))
    mixed f f' i l l' g a a' s m h1 h2 h3 h4 h5 = grind (arith, nat_tests)

    same : (p : ℕ) → p < length w.slots → Changes.is_late w now p ≡ is_late_in setup h w now (Messages.message_of w p) p
    same p lt =
        let n = Messages.message_of w p in
        let r = acknowledged_is_reported setup h is run in
        let some : 0 < sent (shape w) n = slot-sent (shape w) p (consistent-run setup h run).sender lt in
        let there : nat_lt p (length w.slots) ≡ true = grind (arith, nat_tests) in
        let begun : nat_lt 0 (Messages.sent_of w n) ≡ true = grind (arith, nat_tests) in
        mixed (nat_le w.taken p) (nat_le (taken_in setup h) p) (nat_lt p (length w.slots)) (Messages.is_past_deadline w now n)
        (is_past_deadline_by_events h now n) (Messages.message_at w n).abandoned (Messages.slot_at w p).acknowledged (is_acknowledged_in setup h p)
        (nat_lt 0 (Messages.sent_of w n)) (nat_lt (Messages.sent_of w n) (Messages.fragment_count w n))
        (ap (λ t. nat_le t p) r.1) there (deadlines_by_events setup h is run now n) (r.0 p lt) begun

pub late_lists_past_deadline : OnEveryRun LateListsPastDeadline
late_lists_past_deadline setup h is run now = grind (arith, nat_tests, slots-are, late_abandons_listed)
