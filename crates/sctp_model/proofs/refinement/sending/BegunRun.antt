-- Indexes as they are given out, at each event.
use Rattle.sctp_model.proofs.Names.{◌≡◌, ℕ, Bool, true, false, List, [], ◌∷◌, Option, Some, None, refl, ap, sym, ◌∙◌, arith, length, if◌then◌else◌, fold, ◌==◌}
use Rattle.sctp_model.proofs.Names.{◌&&◌, nat_lt, Event, Setup, LinkRecord, refusal_of, after, kept-none, nat_tests, fails, not_both, both, same-is}
use Rattle.sctp_model.specs.declared.event.Event.TheVariants as E
use Rattle.sctp_model.specs.Messages
use Rattle.sctp_model.specs.Changes
use Rattle.sctp_model.proofs.sender.Shape.{Shape, shape, message_part, sent, slotted, abandoned_at, expired_at, written}
use Rattle.sctp_model.proofs.sender.Shapes
use Rattle.sctp_model.proofs.sender.Sender.{sent-slotted}
use Rattle.sctp_model.proofs.sender.SenderRun.{Consistent}
use Rattle.sctp_model.proofs.sender.Network.{extends-after, shape-after}
use Rattle.sctp_model.proofs.refinement.sending.Begun.{begun, begun-written, begun-marked, Indexed, indexed-grown, begins_on}

-- no fragment is sent
pub record NoneSent (x y : Shape) : Type 0 where
  pub sent : (n : ℕ) → sent y n ≡ sent x n
  pub begun : (s : ℕ) → begun y s ≡ begun x s

none-same : (x y : Shape) → y ≡ x → NoneSent x y
none-same x y e = record { sent = λ n. ap (λ z. sent z n) e; begun = λ s. ap (λ z. begun z s) e }

none-then : (x y z : Shape) → NoneSent x y → NoneSent y z → NoneSent x z
none-then x y z a b = record { sent = λ n. b.sent n ∙ a.sent n; begun = λ s. b.begun s ∙ a.begun s }

none-marked : (x : Shape) (n : ℕ) → NoneSent x (slotted x n true)
none-marked x n = grind (arith, nat_tests, sent, sent-slotted, begun, begun-marked)

none-gone : (w : LinkRecord) (n : ℕ) → NoneSent (shape w) (shape (Changes.after_abandon w n))
none-gone w n = by (Messages.is_partially_sent w n)
  where
    flag : (u : LinkRecord) → NoneSent (shape u) (shape (Changes.message_changed u n Changes.mark_abandoned))
    flag u = none-then (shape u) (abandoned_at (shape u) n) (shape (Changes.message_changed u n Changes.mark_abandoned))
        (record { sent = λ k. refl; begun = λ s. refl })
        (none-same (abandoned_at (shape u) n) (shape (Changes.message_changed u n Changes.mark_abandoned)) (Shapes.shape-abandoned u n))

    by : (b : Bool) → NoneSent (shape w) (shape (Changes.message_changed (if b then Changes.with_slot w n true else w) n Changes.mark_abandoned))
    by true =
        none-then (shape w) (shape (Changes.with_slot w n true)) (shape (Changes.message_changed (Changes.with_slot w n true) n Changes.mark_abandoned))
        (none-then (shape w) (slotted (shape w) n true) (shape (Changes.with_slot w n true)) (none-marked (shape w) n)
        (none-same (slotted (shape w) n true) (shape (Changes.with_slot w n true)) (Shapes.shape-slot w n true)))
        (flag (Changes.with_slot w n true))
    by false = flag w

none-fold : (ns : List ℕ) (w : LinkRecord) → NoneSent (shape w) (shape (fold Changes.after_abandon w ns))
none-fold [] w = none-same (shape w) (shape w) refl
none-fold (n ∷ ns) w = none-then (shape w) (shape (Changes.after_abandon w n)) (shape (fold Changes.after_abandon (Changes.after_abandon w n) ns))
    (none-gone w n) (none-fold ns (Changes.after_abandon w n))

none-expired : (w : LinkRecord) (o : Option ℕ) → NoneSent (shape w) (shape (Changes.after_expire w o))
none-expired w None = none-same (shape w) (shape w) refl
none-expired w (Some n) =
    none-then (shape w) (expired_at (shape w) n) (shape (Changes.message_changed w n Changes.mark_expired)) (record { sent = λ k. refl; begun = λ s. refl })
    (none-same (expired_at (shape w) n) (shape (Changes.message_changed w n Changes.mark_expired)) (Shapes.shape-expired w n))

none-tail : (w : LinkRecord) (o : Option ℕ) → NoneSent (shape w) (shape (Changes.after_tail w o))
none-tail w None = none-same (shape w) (shape w) refl
none-tail w (Some n) = none-gone w n

none-wrote : (setup : Setup) (w : LinkRecord) (s : ℕ) (ppi : _) (bytes : List ℕ) → Consistent setup w
    → NoneSent (shape w) (shape (Changes.after_write w s ppi bytes))
none-wrote setup w s ppi [] g = none-same (shape w) (shape w) refl
none-wrote setup w s ppi (b ∷ bs) g =
    let m = Changes.message_on w (Messages.stream_of w s) ppi (b ∷ bs) in
    none-then (shape w) (written (shape w) (message_part m)) (shape (Changes.after_write w s ppi (b ∷ bs)))
    (record { sent = λ k. refl; begun = λ t. begun-written (shape w) (message_part m) t g.sender })
    (none-same (written (shape w) (message_part m)) (shape (Changes.after_write w s ppi (b ∷ bs))) (Shapes.shape-written w m))

-- any event but a Send
abbrev pub SendsNone : Event → Type 0
SendsNone (E.Send now) = ⊥
SendsNone e = Unit {0}

pub none-after : (setup : Setup) (w : LinkRecord) (e : Event) → Consistent setup w → SendsNone e → NoneSent (shape w) (shape (after w e))
none-after setup w (E.Write s ppi bytes) g no' = none-wrote setup w s ppi bytes g
none-after setup w (E.Send now) g no' = absurd no'
none-after setup w (E.Expire now) g no' = none-expired w (Changes.expiring w now)
none-after setup w (E.Tail now) g no' = none-tail w (Changes.tailing w now)
none-after setup w (E.Late now) g no' = none-fold (Changes.late_messages w now) w
none-after setup w (E.Abandon tsn) g no' = none-gone w (Messages.message_of w (Messages.place_of w tsn))
none-after setup w event g no' = none-same (shape w) (shape (after w event)) (shape-after w event refl)

-- ## What a link keeps: an index for each message, and for each stream how many of its ordered messages were begun

pub record Counted (w : LinkRecord) (f : ℕ → ℕ) (b : ℕ → ℕ) : Type 0 where
  pub indexed : Indexed (shape w) f
  pub begun : (s : ℕ) → b s ≡ begun (shape w) s

-- every event but a Send keeps it, an Expire too
pub counted-after : (setup : Setup) (w : LinkRecord) (e : Event) (f b : ℕ → ℕ) → refusal_of w e ≡ None → Consistent setup w → SendsNone e → Counted w f b
    → Counted (after w e) f b
counted-after setup w e f b ok g no' c =
    let k = none-after setup w e g no' in
    record {
      indexed = indexed-grown (shape w) (shape (after w e)) f g.sender (extends-after setup w e ok g).grows (λ n pos. omega (arith, pos, k.sent n)) c.indexed;
      begun = λ s. c.begun s ∙ sym (k.begun s);
    }

-- ## By stream

-- a stream that is not open has begun nothing
pub begun-closed : (setup : Setup) (w : LinkRecord) (s : ℕ) → Consistent setup w → Messages.is_open w s ≡ false → begun (shape w) s ≡ 0
begun-closed setup w s g e =
    ap length (kept-none (begins_on (shape w) s) 0 (length w.messages) (λ k a b. fails (begins_on (shape w) s k) (λ h.
    let z = same-is (Messages.message_at w k).stream s
    (both ((Messages.message_at w k).stream == s) ((Messages.message_at w k).ordered && nat_lt 0 (Messages.sent_of w k)) h).0 in
    not_both (sym e ∙ ap (Messages.is_open w) (sym z) ∙ g.known k (omega arith)))))
