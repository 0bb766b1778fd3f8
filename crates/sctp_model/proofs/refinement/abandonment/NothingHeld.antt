-- What expiring or abandoning a message releases.
use Rattle.sctp_model.proofs.Names.{◌≡◌, ℕ, ◌+◌, ◌-◌, ◌<◌, Bool, true, false, [], ◌∷◌, length, get_or, refl, ap, ◌∙◌, arith, add-one, length-append}
use Rattle.sctp_model.proofs.Names.{if◌then◌else◌, ◌==◌, ◌&&◌, ◌||◌, not, numbers_where, numbers_from, total_over, pieces, and-none, get-snoc_old, get-snoc_new}
use Rattle.sctp_model.proofs.Names.{kept-same, kept-snoc_out, length-changed, changed-same, changed-other, total-one, total-plus, total-where, total-kept_same}
use Rattle.sctp_model.proofs.Names.{Message, Slot, LinkRecord, message_at, slot_at, messages_where, has_fragment, sent_of, no_message, no_slot}
use Rattle.sctp_model.proofs.Names.{is_partially_sent, is_expired_or_abandoned, in_all, pending_bytes, in_flight_bytes, with_slot, message_changed}
use Rattle.sctp_model.proofs.Names.{mark_abandoned, mark_expired, after_abandon, amount, held_bytes}
use Rattle.sctp_util.proofs.Cases.{or-true}
use Rattle.sctp_model.specs.Messages
use Rattle.sctp_model.proofs.sender.Shape.{shape, sent}
use Rattle.sctp_model.proofs.sender.Sender.{sent-slotted}
use Rattle.sctp_model.proofs.sender.Shapes

-- the bytes held, of the messages that pass
abbrev held_where : LinkRecord → (Message → Bool) → ℕ
held_where w q = total_over (held_bytes w) (messages_where w (λ n. q (message_at w n)))

held-split : (w : LinkRecord) (q : Message → Bool) → total_over (pending_bytes w) (messages_where w (λ n. q (message_at w n))) + total_over (in_flight_bytes w)
    (messages_where w (λ n. q (message_at w n))) ≡ held_where w q
held-split w q = total-plus (pending_bytes w) (in_flight_bytes w) (held_bytes w) (λ n. q (message_at w n)) 0 (length w.messages) (λ n a b. refl)

-- ## A terminal chunk holds nothing

module _ (w : LinkRecord) (n : ℕ) where
  abbrev v : LinkRecord
  v = with_slot w n true

  abbrev terminal : Slot
  terminal = record { message = n; fragment = sent_of w n; is_terminal_chunk = true; arrived = false; acknowledged = false }

  slot-old : (p : ℕ) → p < length w.slots → slot_at v p ≡ slot_at w p
  slot-old p lt = get-snoc_old w.slots terminal p no_slot (λ e. absurd (omega arith))

  pub sent-same : (k : ℕ) → sent_of v k ≡ sent_of w k
  sent-same k = ap (λ x. sent x k) (Shapes.shape-slot w n true) ∙ sent-slotted (shape w) n k true ∙ none (n == k)
    where
      none : (b : Bool) → sent_of w k + (if b && false then 1 else 0) ≡ sent_of w k
      none true = omega arith
      none false = omega arith

  pending-same : (k : ℕ) → pending_bytes v k ≡ pending_bytes w k
  pending-same k = cc (sent-same k)

  in_flight-same : (k : ℕ) → in_flight_bytes v k ≡ in_flight_bytes w k
  in_flight-same k = ap (λ c. if is_expired_or_abandoned w k then 0 else c) slots
    where
      f : LinkRecord → ℕ → ℕ
      f u p = length (Messages.fragment_at w k (slot_at u p).fragment)

      t : LinkRecord → ℕ → Bool
      t u p = has_fragment u k p && not (slot_at u p).acknowledged

      last : t v (length w.slots) ≡ false
      last = ap (λ x. ((x.message == k) && not x.is_terminal_chunk) && not x.acknowledged) (get-snoc_new w.slots terminal no_slot)
          ∙ ap (λ b. b && true) (and-none (n == k))

      slots : total_over (f v) (numbers_where (t v) 0 (length v.slots)) ≡ total_over (f w) (numbers_where (t w) 0 (length w.slots))
      slots =
          ap (λ c. total_over (f v) (numbers_where (t v) 0 c)) (length-append w.slots (terminal ∷ []) ∙ add-one (length w.slots))
          ∙ ap (total_over (f v)) (kept-snoc_out (t v) 0 (length w.slots) (length w.slots) (omega arith) last)
          ∙ total-kept_same (f v) (f w) (t v) 0 (length w.slots) (λ p a b. ap (λ x. length (Messages.fragment_at w k x.fragment)) (slot-old p (omega arith)))
          ∙ ap (total_over (f w)) (kept-same (t v) (t w) 0 (length w.slots)
          (λ p a b. ap (λ x. ((x.message == k) && not x.is_terminal_chunk) && not x.acknowledged) (slot-old p (omega arith))))

  held-marked : (q : Message → Bool) → held_where v q ≡ held_where w q
  held-marked q = total-kept_same (held_bytes v) (held_bytes w) (λ k. q (message_at w k)) 0 (length w.messages)
      (λ k a b. ap (λ c. c + in_flight_bytes v k) (pending-same k) ∙ ap (λ c. pending_bytes w k + c) (in_flight-same k))

-- ## A message that expired or was abandoned holds nothing

-- the bytes that message k would hold as this one, whether it expired or was abandoned, or not
abbrev held_if : LinkRecord → ℕ → Bool → Message → ℕ
held_if w k gone m =
    (if gone then 0 else total_over (λ i. length (get_or (pieces (length m.bytes) w.setup.size m.bytes) i []))
    (numbers_from (sent_of w k) (length (pieces (length m.bytes) w.setup.size m.bytes) - sent_of w k)))
    + (if gone then 0 else total_over (λ p. length (get_or (pieces (length m.bytes) w.setup.size m.bytes) (slot_at w p).fragment []))
    (numbers_where (λ p. has_fragment w k p && not (slot_at w p).acknowledged) 0 (length w.slots)))

abbrev held_as : LinkRecord → ℕ → Message → ℕ
held_as w k m = held_if w k (m.expired || m.abandoned) m

held-changed : (w : LinkRecord) (n : ℕ) (f : Message → Message) (q : Message → Bool) → ((m : Message) → q (f m) ≡ q m)
    → ((m : Message) → ((f m).expired || (f m).abandoned) ≡ true) → n < length w.messages
    → held_where (message_changed w n f) q + (if q (message_at w n) then held_bytes w n else 0) ≡ held_where w q
held-changed w n f q same gone lt =
    let v = message_changed w n f in
    let a = ap (λ c. total_over (held_bytes v) (numbers_where (λ k. q (message_at v k)) 0 c)) (length-changed f n w.messages)
    ∙ total-where (held_bytes v) (λ k. q (message_at v k)) 0 (length w.messages) in
    let b = total-where (held_bytes w) (λ k. q (message_at w k)) 0 (length w.messages) in
    let one = total-one (λ k. if q (message_at v k) then held_bytes v k else 0) (λ k. if q (message_at w k) then held_bytes w k else 0) n (if q (message_at w n)
    then held_bytes w n else 0) 0 (length w.messages) (omega arith) (omega arith)
    (λ k ne. ap (λ m. if q m then held_as w k m else 0) (changed-other f n k w.messages no_message ne))
    (ap (λ m. (if q m then held_as w n m else 0) + (if q (message_at w n) then held_bytes w n else 0)) (changed-same f n w.messages no_message lt)
    ∙ ap (λ b. (if q (f (message_at w n)) then held_if w n b (f (message_at w n)) else 0) + (if q (message_at w n) then held_bytes w n else 0))
    (gone (message_at w n)) ∙ none (q (f (message_at w n))) (if q (message_at w n) then held_bytes w n else 0)) in
    omega (arith, a, b, one)
  where
    none : (c : Bool) (k : ℕ) → (if c then 0 + 0 else 0) + k ≡ k
    none true k = omega arith
    none false k = omega arith

held-abandoned : (w : LinkRecord) (n : ℕ) (q : Message → Bool) → ((m : Message) → q (mark_abandoned m) ≡ q m) → n < length w.messages
    → held_where (after_abandon w n) q + (if q (message_at w n) then held_bytes w n else 0) ≡ held_where w q
held-abandoned w n q same lt = by (is_partially_sent w n)
  where
    gone : (m : Message) → ((mark_abandoned m).expired || (mark_abandoned m).abandoned) ≡ true
    gone m = or-true m.expired

    by : (b : Bool) → held_where (message_changed (if b then with_slot w n true else w) n mark_abandoned) q + (if q (message_at w n) then held_bytes w n else 0)
        ≡ held_where w q
    by true =
        let v = with_slot w n true in
        let here : held_bytes v n ≡ held_bytes w n = ap (λ c. c + in_flight_bytes v n) (pending-same w n n)
        ∙ ap (λ c. pending_bytes w n + c) (in_flight-same w n n) in
        cc (here, held-changed v n mark_abandoned q same gone lt, held-marked w n q)
    by false = held-changed w n mark_abandoned q same gone lt

-- ## Of a stream, and in all

-- an abandoned message leaves its stream
pub amount-abandoned : (w : LinkRecord) (n t : ℕ) → n < length w.messages
    → amount (after_abandon w n) t + (if (message_at w n).stream == t then held_bytes w n else 0) ≡ amount w t
amount-abandoned w n t lt = let q : Message → Bool = λ m. m.stream == t in
    omega (arith, held-split w q, held-split (after_abandon w n) q, held-abandoned w n q (λ m. refl) lt)

-- so does one that expired
pub amount-expired : (w : LinkRecord) (n t : ℕ) → n < length w.messages
    → amount (message_changed w n mark_expired) t + (if (message_at w n).stream == t then held_bytes w n else 0) ≡ amount w t
amount-expired w n t lt = let q : Message → Bool = λ m. m.stream == t in
    omega (arith, held-split w q, held-split (message_changed w n mark_expired) q, held-changed w n mark_expired q (λ m. refl) (λ m. refl) lt)

-- and all that is held shrinks by as much
pub held-in-abandoned : (w : LinkRecord) (n : ℕ) → n < length w.messages
    → in_all (after_abandon w n) (held_bytes (after_abandon w n)) + held_bytes w n ≡ in_all w (held_bytes w)
held-in-abandoned w n lt = held-abandoned w n (λ m. true) (λ m. refl) lt

pub held-in-expired : (w : LinkRecord) (n : ℕ) → n < length w.messages
    → in_all (message_changed w n mark_expired) (held_bytes (message_changed w n mark_expired)) + held_bytes w n ≡ in_all w (held_bytes w)
held-in-expired w n lt = held-changed w n mark_expired (λ m. true) (λ m. refl) (λ m. refl) lt
