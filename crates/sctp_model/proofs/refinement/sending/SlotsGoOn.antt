-- In every history the slot after a fragment that does not end its message is of the same message.
use Rattle.sctp_model.proofs.Names.{◌≡◌, ℕ, ◌+◌, ◌<◌, Bool, true, false, List, [], ◌∷◌, length, Option, Some, None, refl, ap, sym, ◌∙◌, arith, add-one}
use Rattle.sctp_model.proofs.Names.{length-append, if◌then◌else◌, ◌==◌, not, fold, subst, numbers_where, kept-snoc_in, not_both, and, same-yes, Event, Setup}
use Rattle.sctp_model.proofs.Names.{LinkRecord, History, record_of, IsRun, after, nat_tests}
use Rattle.sctp_model.specs.declared.event.Event.TheVariants as E
use Rattle.sctp_model.specs.Messages
use Rattle.sctp_model.specs.Changes
use Rattle.sctp_model.proofs.sender.Shape.{Shape, MessagePart, shape, message_part, has, sent, parts, partial, slotted, written, abandoned_at, expired_at}
use Rattle.sctp_model.proofs.sender.Shapes
use Rattle.sctp_model.proofs.sender.Sender.{Sender, slot-old, slot-new}
use Rattle.sctp_model.proofs.sender.SenderSteps.{is-partial, partial-one}
use Rattle.sctp_model.proofs.sender.SenderEnds.{message-old, parts-old}
use Rattle.sctp_model.proofs.sender.SenderRun.{Consistent, consistent-run, consistent-takes, consistent-started, consistent-abandoned, sends-keep, written_as}
use Rattle.sctp_model.proofs.sender.SenderRun.{AllSent, sent-all, late-sent}
use Rattle.sctp_model.proofs.sender.Fronts.{front-takes}
use Rattle.sctp_model.proofs.sender.Network.{shape-after}

-- after a fragment that does not end its message: the next slot is of this message, and where there is none it is not abandoned
pub record GoesOn (x : Shape) (p : ℕ) : Type 0 where
  pub same : p + 1 < x.slots → (x.slot (p + 1)).message ≡ (x.slot p).message
  pub alive : p + 1 ≡ x.slots → (x.message (x.slot p).message).abandoned ≡ false

abbrev pub AllGoOn : Shape → Type 0
AllGoOn x = (p : ℕ) → p < x.slots → (x.slot p).is_terminal_chunk ≡ false → (x.slot p).fragment + 1 < parts x (x.slot p).message → GoesOn x p

-- the message of the last slot is partially sent, where that does not end it
partial-last : (x : Shape) (p : ℕ) → Sender x → p + 1 ≡ x.slots → (x.slot p).is_terminal_chunk ≡ false → (x.slot p).fragment + 1 < parts x (x.slot p).message
    → (x.message (x.slot p).message).abandoned ≡ false → partial x (x.slot p).message ≡ true
partial-last x p s e terminal lt alive =
    let n = (x.slot p).message in
    let has-it : has x n p ≡ true = and (n == n) (not (x.slot p).is_terminal_chunk) (same-yes n) (ap not terminal) in
    let all : sent x n ≡ length (numbers_where (has x n) 0 p) + 1 =
    ap (λ c. length (numbers_where (has x n) 0 c)) (sym e ∙ add-one p) ∙ ap length (kept-snoc_in (has x n) 0 p p (omega arith) has-it)
    ∙ length-append (numbers_where (has x n) 0 p) (p ∷ []) in
    let number = s.number p (omega (arith, e)) in
    is-partial x n (omega (arith, all)) (omega (arith, all, number, lt)) alive

-- ## Each change keeps it

-- one more slot, of the only message that may be partially sent
goes-slotted : (x : Shape) (n : ℕ) (m : Bool) → Sender x → ((k : ℕ) → partial x k ≡ true → k ≡ n) → (m ≡ false → (x.message n).abandoned ≡ false) → AllGoOn x
    → AllGoOn (slotted x n m)
goes-slotted x n m s alone alive g p lt terminal short = grind (arith, nat_tests, slot-old, parts, slot-new, partial-last, sent)

-- a message is abandoned, whose fragment does not stand last with more to come
goes-abandoned : (x : Shape) (n : ℕ) → ((p : ℕ) → p + 1 ≡ x.slots → (x.slot p).is_terminal_chunk ≡ false → (x.slot p).fragment + 1 < parts x (x.slot p).message
    → (x.message (x.slot p).message).abandoned ≡ false → (x.slot p).message ≡ n → ⊥) → AllGoOn x → AllGoOn (abandoned_at x n)
goes-abandoned x n last g p lt terminal short = grind (arith, nat_tests)

goes-written : (x : Shape) (m : MessagePart) → Sender x → AllGoOn x → AllGoOn (written x m)
goes-written x m s g p lt terminal short = grind (arith, nat_tests, parts-old, message-old)

goes-expired : (x : Shape) (n : ℕ) → AllGoOn x → AllGoOn (expired_at x n)
goes-expired x n g p lt terminal short = let o = g p lt terminal short in record { same = o.same; alive = o.alive }

-- ## Each event keeps it

goes-as : (x y : Shape) → y ≡ x → AllGoOn x → AllGoOn y
goes-as x y e g = subst AllGoOn (sym e) g

-- what a Send keeps
record Sends (setup : Setup) (w : LinkRecord) : Type 0 where
  consistent : Consistent setup w
  on : AllGoOn (shape w)

goes-takes : (setup : Setup) (w : LinkRecord) → Sends setup w → Sends setup (Changes.send_fragment w)
goes-takes setup w g = record { consistent = consistent-takes setup w g.consistent; on = step (Messages.front w) refl }
  where
    step : (o : Option ℕ) → Messages.front w ≡ o → AllGoOn (shape (Changes.send_fragment_of w o))
    step None e = g.on
    step (Some n) e =
        let t = front-takes (shape w) n g.consistent.sender e in
        goes-as (slotted (shape w) n false) (shape (Changes.with_slot w n false)) (Shapes.shape-slot w n false)
        (goes-slotted (shape w) n false g.consistent.sender t.alone (λ z. t.alive) g.on)

goes-sent : (setup : Setup) (w : LinkRecord) (now : ℕ) (o : Option ℕ) → Consistent setup w → AllGoOn (shape w)
    → AllGoOn (shape (Changes.send_from (Changes.after_start w now) o))
goes-sent setup w now None s g = goes-as (shape w) (shape (Changes.after_start w now)) (Shapes.shape-started w now) g
goes-sent setup w now (Some n) s g =
    let r = sends-keep (Sends setup) (λ v h. goes-takes setup v h) (Changes.after_start w now)
    (record { consistent = consistent-started setup w now s; on = goes-as (shape w) (shape (Changes.after_start w now)) (Shapes.shape-started w now) g }) in
    r.on

goes-gone : (setup : Setup) (w : LinkRecord) (n : ℕ) → Consistent setup w → AllGoOn (shape w) → AllGoOn (shape (Changes.after_abandon w n))
goes-gone setup w n s g = step (Messages.is_partially_sent w n) refl
  where
    last : (m : Bool) → m ≡ true → (p : ℕ) → p + 1 ≡ (slotted (shape w) n m).slots → ((slotted (shape w) n m).slot p).is_terminal_chunk ≡ false → ⊥
    last m t p e terminal = grind (arith, nat_tests, slot-new)

    step : (b : Bool) → Messages.is_partially_sent w n ≡ b
        → AllGoOn (shape (Changes.message_changed (if b then Changes.with_slot w n true else w) n Changes.mark_abandoned))
    step true e =
        goes-as (abandoned_at (slotted (shape w) n true) n) (shape (Changes.message_changed (Changes.with_slot w n true) n Changes.mark_abandoned))
        (Shapes.shape-abandoned (Changes.with_slot w n true) n ∙ ap (λ y. abandoned_at y n) (Shapes.shape-slot w n true))
        (goes-abandoned (slotted (shape w) n true) n (λ p a terminal c d z. last true refl p a terminal)
        (goes-slotted (shape w) n true s.sender (λ k h. partial-one (shape w) k n s.sender h e) (λ z. cc) g))
    step false e =
        goes-as (abandoned_at (shape w) n) (shape (Changes.message_changed w n Changes.mark_abandoned)) (Shapes.shape-abandoned w n)
        (goes-abandoned (shape w) n
        (λ p a terminal c d z. not_both (sym e ∙ ap (partial (shape w)) (sym z) ∙ partial-last (shape w) p s.sender a terminal c d)) g)

goes-late : (setup : Setup) (ns : List ℕ) (w : LinkRecord) → Consistent setup w → AllSent w ns → AllGoOn (shape w)
    → AllGoOn (shape (fold Changes.after_abandon w ns))
goes-late setup [] w s a g = g
goes-late setup (n ∷ ns) w s a g =
    goes-late setup ns (Changes.after_abandon w n) (consistent-abandoned setup w n s a.0) (sent-all w n ns a.1) (goes-gone setup w n s g)

goes-tail : (setup : Setup) (w : LinkRecord) (o : Option ℕ) → Consistent setup w → AllGoOn (shape w) → AllGoOn (shape (Changes.after_tail w o))
goes-tail setup w None s g = g
goes-tail setup w (Some n) s g = goes-gone setup w n s g

goes-expiring : (w : LinkRecord) (o : Option ℕ) → AllGoOn (shape w) → AllGoOn (shape (Changes.after_expire w o))
goes-expiring w None g = g
goes-expiring w (Some n) g =
    goes-as (expired_at (shape w) n) (shape (Changes.message_changed w n Changes.mark_expired)) (Shapes.shape-expired w n) (goes-expired (shape w) n g)

goes-after : (setup : Setup) (w : LinkRecord) (e : Event) → Consistent setup w → AllGoOn (shape w) → AllGoOn (shape (after w e))
goes-after setup w (E.Write s ppi (b ∷ bs)) a g =
    let m = written_as w s ppi (b ∷ bs) in
    goes-as (written (shape w) (message_part m)) (shape (Changes.after_write w s ppi (b ∷ bs))) (Shapes.shape-written w m)
    (goes-written (shape w) (message_part m) a.sender g)
goes-after setup w (E.Send now) a g = goes-sent setup w now (Messages.front w) a g
goes-after setup w (E.Expire now) a g = goes-expiring w (Changes.expiring w now) g
goes-after setup w (E.Tail now) a g = goes-tail setup w (Changes.tailing w now) a g
goes-after setup w (E.Late now) a g = goes-late setup (Changes.late_messages w now) w a (late-sent setup w now a) g
goes-after setup w (E.Abandon tsn) a g = goes-gone setup w (Messages.message_of w (Messages.place_of w tsn)) a g
goes-after setup w event a g = goes-as (shape w) (shape (after w event)) (shape-after w event refl) g

-- in every history
pub goes-run : (setup : Setup) (h : History) → IsRun setup h → AllGoOn (shape (record_of setup h))
goes-run setup [] run = λ p lt terminal short. absurd (omega arith)
goes-run setup (entry ∷ older) run = goes-after setup (record_of setup older) entry.0 (consistent-run setup older run.1.1) (goes-run setup older run.1.1)
