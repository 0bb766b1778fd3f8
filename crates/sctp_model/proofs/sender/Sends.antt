use Rattle.sctp_model.proofs.Names.{◌≡◌, ℕ, ◌+◌, ◌-◌, ◌<◌, ◌≤◌, Bool, true, false, [], ◌∷◌, ◌++◌, length, Option, Some, None, refl, ap, sym, ◌∙◌, inl, inr}
use Rattle.sctp_model.proofs.Names.{arith, length-append, ◌⊎◌, if◌then◌else◌, ◌&&◌, ◌||◌, not, ◌↔◌, slice_get, Result, Ok, cases_lt, flat_map, numbers_where}
use Rattle.sctp_model.proofs.Names.{always, numbers_from, total_over, not_both, LinkRefusal, Reply, Setup, Data, LinkRecord, is_expired_or_abandoned}
use Rattle.sctp_model.proofs.Names.{pending_fragments, pending_at, record_of, after, reply_to, sent_reply, Answers, OnEveryRun, pending_count}
use Rattle.sctp_model.proofs.Names.{EmitsWherePending, TakesPending, IdleIsAnswered, length-mapped, get-last, length-numbers, length-gathered, total-plus}
use Rattle.sctp_model.proofs.Names.{total-none, total-at, total-one, nat_tests}
use Rattle.sctp_model.specs.declared.event.Event.TheVariants as E
use Rattle.sctp_model.specs.Reply as R
use Rattle.sctp_model.specs.Messages
use Rattle.sctp_model.specs.Changes
use Rattle.sctp_model.proofs.sender.Shape.{Shape, shape, sent, parts, slotted, front_of}
use Rattle.sctp_model.proofs.sender.SenderSteps.{Takes, is-partial, sent-other, sent-here}
use Rattle.sctp_model.proofs.sender.Fronts.{front-takes, front-none, is-unsent}
use Rattle.sctp_model.proofs.sender.SenderRun.{Consistent, consistent-run, consistent-takes, consistent-started, filled-keeps}
use Rattle.sctp_model.proofs.sender.Shapes

-- Each send takes fragments that wait.

-- how many fragments of message n wait
abbrev pub waiting_of : Shape → ℕ → ℕ
waiting_of x n = if (x.message n).expired || (x.message n).abandoned then 0 else parts x n - sent x n

abbrev pub waiting : Shape → ℕ
waiting x = total_over (waiting_of x) (numbers_from 0 x.count)

count-pending : (w : LinkRecord) → pending_count w ≡ waiting (shape w)
count-pending w =
    let o : ℕ → Bool = λ n. (Messages.message_at w n).ordered && not (is_expired_or_abandoned w n) in
    let u : ℕ → Bool = λ n. not (Messages.message_at w n).ordered && not (is_expired_or_abandoned w n) in
    length-append (flat_map (pending_fragments w) (Messages.messages_where w o)) (flat_map (pending_fragments w) (Messages.messages_where w u))
    ∙ ap (λ c. c + length (flat_map (pending_fragments w) (Messages.messages_where w u))) (length-gathered (pending_fragments w) o 0 (length w.messages))
    ∙ ap (λ c. total_over (λ n. if o n then length (pending_fragments w n) else 0) (numbers_where always 0 (length w.messages)) + c)
    (length-gathered (pending_fragments w) u 0 (length w.messages)) ∙ total-plus (λ n. if o n then length (pending_fragments w n) else 0)
    (λ n. if u n then length (pending_fragments w n) else 0) (waiting_of (shape w)) always 0 (length w.messages)
    (λ n a b. each (Messages.message_at w n).ordered (is_expired_or_abandoned w n) (length (pending_fragments w n)) (parts (shape w) n - sent (shape w) n)
    (length-mapped (pending_at w n) (numbers_from (sent (shape w) n) (parts (shape w) n - sent (shape w) n))
    ∙ length-numbers (sent (shape w) n) (parts (shape w) n - sent (shape w) n)))
  where
    each : (b g : Bool) (l c : ℕ) → l ≡ c → (if b && not g then l else 0) + (if not b && not g then l else 0) ≡ (if g then 0 else c)
    each b g l c h1 = grind (arith, nat_tests)

-- nothing waits where there is no front
none-waits : (x : Shape) → front_of x ≡ None → waiting x ≡ 0
none-waits x e = total-none (waiting_of x) 0 x.count (λ n a b. each n (omega arith) (x.message n).expired refl (x.message n).abandoned refl)
  where
    left : (n : ℕ) → n < x.count → (x.message n).expired ≡ false → (x.message n).abandoned ≡ false → (sent x n < parts x n) ⊎ (parts x n ≤ sent x n)
        → (0 < sent x n) ⊎ (sent x n ≤ 0) → parts x n - sent x n ≡ 0
    left n lt a b (inr g) s = omega arith
    left n lt a b (inl l) (inl pos) = absurd (not_both (sym (front-none x e n lt).0 ∙ is-partial x n pos l b))
    left n lt a b (inl l) (inr z) = absurd (not_both (sym (front-none x e n lt).1 ∙ is-unsent x n (omega arith) a))

    each : (n : ℕ) → n < x.count → (a : Bool) → (x.message n).expired ≡ a → (b : Bool) → (x.message n).abandoned ≡ b → waiting_of x n ≡ 0
    each n lt true p b q = rw p refl
    each n lt false p true q = rw (p, q) refl
    each n lt false p false q = rw (p, q) (left n lt p q (cases_lt (sent x n) (parts x n)) (cases_lt 0 (sent x n)))

waits-of : (x : Shape) (n : ℕ) → Takes x n → waiting_of x n ≡ parts x n - sent x n
waits-of x n t = rw (t.kept, t.alive) refl

-- something waits where there is one
some-waits : (x : Shape) (n : ℕ) → Takes x n → 0 < waiting x
some-waits x n t = omega (arith, total-at (waiting_of x) n 0 x.count (omega arith) (omega (arith, t.made)), waits-of x n t, t.more)

-- a fragment that takes a slot waits no more
taken-waits : (x : Shape) (n : ℕ) → Takes x n → waiting (slotted x n false) + 1 ≡ waiting x
taken-waits x n t =
    total-one (waiting_of (slotted x n false)) (waiting_of x) n 1 0 x.count (omega arith) (omega (arith, t.made))
    (λ k ne. ap (λ c. if (x.message k).expired || (x.message k).abandoned then 0 else parts x k - c) (sent-other x n false k (λ e. ne (sym e))))
    (ap (λ c. (if (x.message n).expired || (x.message n).abandoned then 0 else parts x n - c) + 1) (sent-here x n) ∙ here ∙ sym (waits-of x n t))
  where
    here : (if (x.message n).expired || (x.message n).abandoned then 0 else parts x n - (sent x n + 1)) + 1 ≡ parts x n - sent x n
    here = rw (t.kept, t.alive) (omega (arith, t.more))

-- ## The law

pub emits_where_pending : OnEveryRun EmitsWherePending
emits_where_pending setup h is run now = step (Messages.front (record_of setup h)) refl
  where
    step : (o : Option ℕ) → Messages.front (record_of setup h) ≡ o
        → (sent_reply (record_of setup h) (after (record_of setup h) (E.Send now)) o ≡ R.Idle) ↔ (pending_count (record_of setup h) ≡ 0)
    step None e = (λ i. count-pending (record_of setup h) ∙ none-waits (shape (record_of setup h)) e, λ z. refl)
    step (Some n) e = (
      λ i. cc,
      λ z. absurd (omega (
        arith,
        z,
        count-pending (record_of setup h),
        some-waits (shape (record_of setup h)) n (front-takes (shape (record_of setup h)) n (consistent-run setup h run).sender e),
      )),
    )

-- what a record of which some fragments took slots keeps
record Sending (setup : Setup) (w v : LinkRecord) : Type 0 where
  consistent : Consistent setup v
  more : length w.slots < length v.slots
  balance : waiting (shape v) + length v.slots ≡ waiting (shape w) + length w.slots
  network : v.network ≡ w.network

sending-more : (setup : Setup) (w v : LinkRecord) → Sending setup w v → Sending setup w (Changes.send_fragment v)
sending-more setup w v s = record { consistent = consistent-takes setup v s.consistent; more = r.0; balance = r.1; network = r.2 }
  where
    step : (o : Option ℕ) → Messages.front v ≡ o → (length w.slots < length (Changes.send_fragment_of v o).slots)
        × (waiting (shape (Changes.send_fragment_of v o)) + length (Changes.send_fragment_of v o).slots ≡ waiting (shape w) + length w.slots)
        × ((Changes.send_fragment_of v o).network ≡ w.network)
    step None e = (s.more, s.balance, s.network)
    step (Some n) e =
        let t = front-takes (shape v) n s.consistent.sender e in
        let i = Shapes.shape-slot v n false in
        let l = ap (λ y. y.slots) i in
        (omega (arith, l, s.more), omega (arith, l, ap waiting i, taken-waits (shape v) n t, s.balance), s.network)

    r : (length w.slots < length (Changes.send_fragment v).slots)
        × (waiting (shape (Changes.send_fragment v)) + length (Changes.send_fragment v).slots ≡ waiting (shape w) + length w.slots)
        × ((Changes.send_fragment v).network ≡ w.network)
    r = step (Messages.front v) refl

sending-first : (setup : Setup) (w : LinkRecord) (now n : ℕ) → Consistent setup w → Messages.front w ≡ Some n
    → Sending setup w (Changes.send_fragment (Changes.after_start w now))
sending-first setup w now n g e = rw f (record {
  consistent = rw f at (consistent-takes setup (Changes.after_start w now) (consistent-started setup w now g));
  more = omega (arith, l, slots);
  balance = omega (arith, l, slots, ap waiting i, ap (λ y. waiting (slotted y n false)) same, taken-waits (shape w) n (front-takes (shape w) n g.sender e));
  network = refl;
})
  where
    same : shape (Changes.after_start w now) ≡ shape w
    same = Shapes.shape-started w now

    f : Messages.front (Changes.after_start w now) ≡ Some n
    f = ap front_of same ∙ e

    i : shape (Changes.with_slot (Changes.after_start w now) n false) ≡ slotted (shape (Changes.after_start w now)) n false
    i = Shapes.shape-slot (Changes.after_start w now) n false

    l : length (Changes.with_slot (Changes.after_start w now) n false).slots ≡ length w.slots + 1
    l = ap (λ y. y.slots) i

    slots : length (Changes.after_start w now).slots ≡ length w.slots
    slots = refl

pub takes_pending : OnEveryRun TakesPending
takes_pending setup h is run now d tsn ssn count e = step (Messages.front (record_of setup h)) refl e
  where
    step : (o : Option ℕ) → Messages.front (record_of setup h) ≡ o
        → sent_reply (record_of setup h) (Changes.send_from (Changes.after_start (record_of setup h) now) o) o ≡ R.Sent d tsn ssn count
        → (0 < count) × ((pending_count (Changes.send_from (Changes.after_start (record_of setup h) now) o) + count ≡ pending_count (record_of setup h))
        × (slice_get (Changes.send_from (Changes.after_start (record_of setup h) now) o).network d
        ≡ Some (Data (numbers_from (length (record_of setup h).slots) count))))
    step None f i = cc
    step (Some n) f i =
        let u = Changes.after_start (record_of setup h) now in
        let v = Changes.send_fragments u in
        let s : Sending setup (record_of setup h) v = filled-keeps (Sending setup (record_of setup h))
        (λ v q. sending-more setup (record_of setup h) v q) u.setup.limit (Changes.plus 12 (Changes.next_length u)) (Changes.send_fragment u)
        (sending-first setup (record_of setup h) now n (consistent-run setup h run) f) in
        let c : length v.slots - length (record_of setup h).slots ≡ count = cc in
        let dd : length (record_of setup h).network ≡ d = cc in (
          omega (arith, s.more, c),
          (
            omega (arith, s.more, c, s.balance, count-pending (record_of setup h), count-pending (Changes.with_data u v)),
            ap (λ k. slice_get (v.network ++ Data (numbers_from (length (record_of setup h).slots) (length v.slots - length (record_of setup h).slots)) ∷ []) k)
                (sym dd ∙ ap length (sym s.network))
                ∙ get-last v.network (Data (numbers_from (length (record_of setup h).slots) (length v.slots - length (record_of setup h).slots)))
                ∙ ap (λ k. Some (Data (numbers_from (length (record_of setup h).slots) k))) c,
          ),
        )

-- an idle Send wants no memory
pub idle_is_answered : OnEveryRun IdleIsAnswered
idle_is_answered setup h is run now result new a = (answered result a, λ z. idle result a ((emits_where_pending setup h is run now).1 z))
  where
    w : LinkRecord
    w = record_of setup h

    answered : (result : Result Reply LinkRefusal) → Answers w (E.Send now) result new → result ≡ Ok R.Idle → pending_count w ≡ 0
    answered result h1 h2 = grind (arith, nat_tests, emits_where_pending)

    idle : (result : Result Reply LinkRefusal) → Answers w (E.Send now) result new → reply_to w (E.Send now) ≡ R.Idle → result ≡ Ok R.Idle
    idle result h1 h2 = grind (arith, nat_tests)
