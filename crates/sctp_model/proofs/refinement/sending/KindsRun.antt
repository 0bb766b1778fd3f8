-- In every history messages of a kind are sent in turn, and no more slots are acknowledged than there are.
use Rattle.sctp_model.proofs.Names.{◌≡◌, ℕ, ◌-◌, ◌<◌, ◌≤◌, Bool, true, false, List, [], ◌∷◌, length, Option, Some, None, refl, ap, sym, ◌∙◌, inl, inr, arith}
use Rattle.sctp_model.proofs.Names.{◌⊎◌, if◌then◌else◌, ◌==◌, ◌&&◌, ◌||◌, not, nat_lt, slice_get, max, subst, cases_lt, nat_tests, by_same, or-left, Event}
use Rattle.sctp_model.proofs.Names.{Setup, Datagram, Sack, LinkRecord, front, reports, History, record_of, IsRun, refusal_of, after, log_of, IsSetup, pieces}
use Rattle.sctp_model.proofs.Names.{length-numbered}
use Rattle.sctp_model.specs.declared.event.Event.TheVariants as E
use Rattle.sctp_model.specs.LinkRecord as W
use Rattle.sctp_model.specs.Messages
use Rattle.sctp_model.specs.Receiver
use Rattle.sctp_model.specs.Changes
use Rattle.sctp_model.proofs.sender.Shape.{Shape, MessagePart, shape, sent, partial, unsent, slotted, written, abandoned_at, expired_at, message_part}
use Rattle.sctp_model.proofs.sender.Sender.{Sender, sent-slotted}
use Rattle.sctp_model.proofs.sender.SenderSteps.{of-partial, is-partial, sent-other}
use Rattle.sctp_model.proofs.sender.SenderEnds.{sent-none}
use Rattle.sctp_model.proofs.sender.SenderRun.{Consistent, consistent-run, consistent-takes, consistent-started, sends-keep, fold-keeps}
use Rattle.sctp_model.proofs.sender.Shapes
use Rattle.sctp_model.proofs.sender.Moves
use Rattle.sctp_model.proofs.sender.Network.{extends-after, shape-after}
use Rattle.sctp_model.proofs.acknowledgement.Acknowledged
use Rattle.sctp_model.proofs.receiver.Received.{received-run}
use Rattle.sctp_model.proofs.refinement.sending.Sent.{KindsInTurn, FrontIs, front_is}

-- ## Kinds in turn

abbrev pub Turns : Shape → Type 0
Turns x = (n k : ℕ) → partial x n ≡ true → k < n → (x.message k).ordered ≡ (x.message n).ordered → unsent x k ≡ false

pub turns-as : (x y : Shape) → y ≡ x → Turns x → Turns y
turns-as x y e t = subst Turns (sym e) t

turns-written : (x : Shape) (m : MessagePart) → Sender x → Turns x → Turns (written x m)
turns-written x m s t n k h lt ord = by (cases_lt n x.count)
  where
    old : (j : ℕ) → j < x.count → (j == x.count) ≡ false
    old j l = grind (arith, nat_tests)

    by : (n < x.count) ⊎ (x.count ≤ n) → unsent (written x m) k ≡ false
    by (inl l) =
        let a = old n l in
        let b = old k (omega arith) in
        let h' : partial x n ≡ true = sym (ap (λ c. partial_by (if c then m else x.message n)) a) ∙ h in
        let o' : (x.message k).ordered ≡ (x.message n).ordered = sym (ap (λ c. (if c then m else x.message k).ordered) b) ∙ ord
        ∙ ap (λ c. (if c then m else x.message n).ordered) a in
        ap (λ c. (sent x k == 0) && not (if c then m else x.message k).expired) b ∙ t n k h' lt o'
      where
        partial_by : MessagePart → Bool
        partial_by p = nat_lt 0 (sent x n) && (nat_lt (sent x n) (length (pieces (length p.bytes) x.size p.bytes)) && not p.abandoned)
    by (inr g) = absurd (omega (arith, (of-partial (written x m) n h).some, sent-none x n s g))

turns-abandoned : (x : Shape) (n' : ℕ) → Turns x → Turns (abandoned_at x n')
turns-abandoned x n' t n k h lt ord =
    let i = of-partial (abandoned_at x n') n h in
    t n k (is-partial x n i.some i.more (no-or (n == n') (x.message n).abandoned i.alive)) lt ord
  where
    no-or : (a b : Bool) → (a || b) ≡ false → b ≡ false
    no-or true b e = cc
    no-or false b e = e

turns-expired : (x : Shape) (n' : ℕ) → Turns x → Turns (expired_at x n')
turns-expired x n' t n k h lt ord = more (sent x k == 0) (k == n') (x.message k).expired (t n k h lt ord)
  where
    more : (a b c : Bool) → (a && not c) ≡ false → (a && not (b || c)) ≡ false
    more o b c e = grind (arith, nat_tests)

-- a terminal chunk is no fragment
turns-marked : (x : Shape) (n' : ℕ) → Turns x → Turns (slotted x n' true)
turns-marked x n' t n k h lt ord = grind (arith, nat_tests, of-partial, is-partial, sent, sent-slotted)

turns-takes : (w : LinkRecord) (n' : ℕ) → FrontIs w n' → Turns (shape w) → Turns (slotted (shape w) n' false)
turns-takes w n' f t n k h lt ord =
    by_same {P = unsent (slotted (shape w) n' false) k ≡ false} n' n (λ e. here e) (λ ne x. absurd (ne (sym (f.takes.alone n (other ne)))))
  where
    other : (n' ≡ n → ⊥) → partial (shape w) n ≡ true
    other ne = cc (sent-other (shape w) n' false n ne, h)

    here : n' ≡ n → unsent (slotted (shape w) n' false) k ≡ false
    here e =
        ap (λ c. (c == 0) && not (Messages.message_at w k).expired) (sent-other (shape w) n' false k (λ z. omega (arith, e, z, lt)))
        ∙ (f.before k (omega (arith, lt, e)) (ord ∙ ap (λ j. (Messages.message_at w j).ordered) (sym e))).1

pub record Going (setup : Setup) (w : LinkRecord) : Type 0 where
  pub consistent : Consistent setup w
  pub turns : Turns (shape w)

pub going-takes : (setup : Setup) (w : LinkRecord) → Going setup w → Going setup (Changes.send_fragment w)
going-takes setup w g = record { consistent = consistent-takes setup w g.consistent; turns = by (front w) refl }
  where
    by : (o : Option ℕ) → front w ≡ o → Turns (shape (Changes.send_fragment_of w o))
    by None e = g.turns
    by (Some n) e = turns-as (slotted (shape w) n false) (shape (Changes.with_slot w n false)) (Shapes.shape-slot w n false)
        (turns-takes w n (front_is w g.consistent.sender g.turns n e) g.turns)

turns-gone : (w : LinkRecord) (n : ℕ) → Turns (shape w) → Turns (shape (Changes.after_abandon w n))
turns-gone w n t = by (Messages.is_partially_sent w n)
  where
    by : (b : Bool) → Turns (shape (Changes.message_changed (if b then Changes.with_slot w n true else w) n Changes.mark_abandoned))
    by true = turns-as (abandoned_at (slotted (shape w) n true) n) (shape (Changes.message_changed (Changes.with_slot w n true) n Changes.mark_abandoned))
        (Shapes.shape-abandoned (Changes.with_slot w n true) n ∙ ap (λ y. abandoned_at y n) (Shapes.shape-slot w n true))
        (turns-abandoned (slotted (shape w) n true) n (turns-marked (shape w) n t))
    by false = turns-as (abandoned_at (shape w) n) (shape (Changes.message_changed w n Changes.mark_abandoned)) (Shapes.shape-abandoned w n)
        (turns-abandoned (shape w) n t)

turns-expire : (w : LinkRecord) (p : ℕ → Bool) (o : Option ℕ) → Turns (shape w) → Turns (shape (Changes.after_expire w (Changes.front_if w p o)))
turns-expire w p None t = t
turns-expire w p (Some n) t = by (p n)
  where
    by : (b : Bool) → Turns (shape (Changes.after_expire w (if b then Some n else None)))
    by true =
        turns-as (expired_at (shape w) n) (shape (Changes.message_changed w n Changes.mark_expired)) (Shapes.shape-expired w n) (turns-expired (shape w) n t)
    by false = t

turns-tail : (w : LinkRecord) (p : ℕ → Bool) (o : Option ℕ) → Turns (shape w) → Turns (shape (Changes.after_tail w (Changes.front_if w p o)))
turns-tail w p None t = t
turns-tail w p (Some n) t = by (p n)
  where
    by : (b : Bool) → Turns (shape (Changes.after_tail w (if b then Some n else None)))
    by true = turns-gone w n t
    by false = t

turns-wrote : (setup : Setup) (w : LinkRecord) (s : ℕ) (ppi : _) (bytes : List ℕ) → Consistent setup w → Turns (shape w)
    → Turns (shape (Changes.after_write w s ppi bytes))
turns-wrote setup w s ppi [] g t = t
turns-wrote setup w s ppi (b ∷ bs) g t =
    let m = Changes.message_on w (Messages.stream_of w s) ppi (b ∷ bs) in
    turns-as (written (shape w) (message_part m)) (shape (Changes.after_write w s ppi (b ∷ bs))) (Shapes.shape-written w m)
    (turns-written (shape w) (message_part m) g.sender t)

turns-sent : (setup : Setup) (w : LinkRecord) (now : ℕ) (o : Option ℕ) → Consistent setup w → Turns (shape w)
    → Turns (shape (Changes.send_from (Changes.after_start w now) o))
turns-sent setup w now None g t = turns-as (shape w) (shape (Changes.after_start w now)) (Shapes.shape-started w now) t
turns-sent setup w now (Some n) g t =
    Going.turns (sends-keep (Going setup) (λ v h. going-takes setup v h) (Changes.after_start w now)
    (record { consistent = consistent-started setup w now g; turns = turns-as (shape w) (shape (Changes.after_start w now)) (Shapes.shape-started w now) t }))

turns-after : (setup : Setup) (w : LinkRecord) (e : Event) → Consistent setup w → Turns (shape w) → Turns (shape (after w e))
turns-after setup w (E.Write s ppi bytes) g t = turns-wrote setup w s ppi bytes g t
turns-after setup w (E.Send now) g t = turns-sent setup w now (front w) g t
turns-after setup w (E.Expire now) g t = turns-expire w (λ n. Messages.is_unsent w n && Messages.is_past_deadline w now n) (front w) t
turns-after setup w (E.Tail now) g t = turns-tail w (λ n. Messages.is_partially_sent w n && Messages.is_past_deadline w now n) (front w) t
turns-after setup w (E.Late now) g t = fold-keeps (λ v. Turns (shape v)) Changes.after_abandon (λ v n h. turns-gone v n h) (Changes.late_messages w now) w t
turns-after setup w (E.Abandon tsn) g t = turns-gone w (Messages.message_of w (Messages.place_of w tsn)) t
turns-after setup w event g t = turns-as (shape w) (shape (after w event)) (shape-after w event refl) t

pub turns-run : (setup : Setup) (h : History) → IsRun setup h → KindsInTurn (record_of setup h)
turns-run setup [] run = λ n k h lt ord. cc
turns-run setup (entry ∷ older) run = turns-after setup (record_of setup older) entry.0 (consistent-run setup older run.1.1) (turns-run setup older run.1.1)

-- ## No more slots are acknowledged than there are

taken-sack : (w : LinkRecord) (r : W.Report) → w.taken ≤ length w.slots → ((p : ℕ) → reports r p ≡ true → p < length w.slots)
    → max w.taken r.cumulative ≤ length w.slots
taken-sack w r le inside = by (cases_lt 0 r.cumulative)
  where
    by : (0 < r.cumulative) ⊎ (r.cumulative ≤ 0) → max w.taken r.cumulative ≤ length w.slots
    by (inr z) = omega (arith, le)
    by (inl pos) =
        let p : ℕ = r.cumulative - 1 in
        let low : nat_lt (r.cumulative - 1) r.cumulative ≡ true = grind (arith, nat_tests) in
        let lt = inside (r.cumulative - 1) (or-left (nat_lt (r.cumulative - 1) r.cumulative) _ low) in
        omega (arith, le, lt)

module _ (setup : Setup) (older : History) (is : IsSetup setup) (run : IsRun setup older) where
  abbrev w : LinkRecord
  w = record_of setup older

  seen-in : (r : W.Report) (k : ℕ) → slice_get w.network k ≡ Some (Sack r) → (p : ℕ) → reports r p ≡ true → p < length w.slots
  seen-in r k e p h = Acknowledged.seen-made w (log_of setup older) p (received-run setup older is run).known.arrivals
      (Acknowledged.sack-at (log_of setup older) w.network k (Sack r) (Acknowledged.sacks-run setup older is run) e p h)

  taken-after : (e : Event) → refusal_of w e ≡ None → w.taken ≤ length w.slots → (after w e).taken ≤ length (after w e).slots
  taken-after e ok le = by e (extends-after setup w e ok (consistent-run setup older run)).grows.slots
    where
      same : (v : LinkRecord) → length w.slots ≤ length v.slots → v.taken ≡ w.taken → v.taken ≤ length v.slots
      same v g t = omega (arith, g, t, le)

      acked : (k : ℕ) (o : Option Datagram) → slice_get w.network k ≡ o → (Changes.after_acked w o).taken ≤ length (Changes.after_acked w o).slots
      acked k b x = grind (arith, nat_tests, taken-sack, seen-in, length-numbered)

      by : (e : Event) → length w.slots ≤ length (after w e).slots → (after w e).taken ≤ length (after w e).slots
      by (E.Arrive k) g = same (after w (E.Arrive k)) g (Acknowledged.as-datagram w (slice_get w.network k)).taken
      by (E.Acked k) g = acked k (slice_get w.network k) refl
      by (E.Read s) g = same (after w (E.Read s)) g (Acknowledged.as-read w s (Receiver.next_read w s)).taken
      by (E.Open s) g = same (after w (E.Open s)) g refl
      by (E.Mode s u v x) g = same (after w (E.Mode s u v x)) g refl
      by (E.Ack credit) g = same (after w (E.Ack credit)) g refl
      by event g = same (after w event) g (Moves.quiet-after setup w event refl (consistent-run setup older run)).taken

pub taken-run : (setup : Setup) (h : History) → IsSetup setup → IsRun setup h → (record_of setup h).taken ≤ length (record_of setup h).slots
taken-run setup [] is run = omega arith
taken-run setup (entry ∷ older) is run = taken-after setup older is run.1.1 entry.0 run.0 (taken-run setup older is run.1.1)
