-- The bytes in flight, by message and by slot.
use Rattle.sctp_model.proofs.Names.{◌≡◌, ℕ, ◌+◌, ◌-◌, ◌<◌, Bool, true, false, [], length, get_or, Some, refl, ap, sym, ◌∙◌, arith, zero-add, zero, suc, ◌≤◌}
use Rattle.sctp_model.proofs.Names.{subst, if◌then◌else◌, ◌==◌, ◌&&◌, ◌||◌, not, max, numbers_where, always, numbers_from, total_over, pieces, kept-same}
use Rattle.sctp_model.proofs.Names.{and-true, same-yes, same-is, numbered-at, total-none, total-plus, total-split, total-where, total-kept_same, total-one}
use Rattle.sctp_model.proofs.Names.{LinkRecord, Report, Sack, message_at, slot_at, message_of, messages_where, slots_where, has_fragment, no_slot}
use Rattle.sctp_model.proofs.Names.{is_expired_or_abandoned, in_all, written_bytes, pending_bytes, in_flight_bytes, released_bytes, growth, after_acked}
use Rattle.sctp_model.proofs.Names.{acknowledged_by, amount, stream_of_slot, bytes_at, bytes_but_for, acknowledged_at, acknowledged_then, nat_tests, fails}
use Rattle.sctp_model.specs.Amounts.{slot_bytes, on_stream}
use Rattle.sctp_model.proofs.sender.Shape.{Shape, shape, sent, parts}
use Rattle.sctp_model.proofs.sender.Sender.{Sender}
use Rattle.sctp_model.specs.refinement.Amount.{unacked_on}
use Rattle.sctp_model.proofs.sender.Shapes

-- ## Sums over things of which each has one owner

-- the sum over the owners of what is theirs is the sum over all
pub total-owned : (owner : ℕ → ℕ) (f : ℕ → ℕ → ℕ) (owners from count : ℕ) → ((p : ℕ) → from ≤ p → p < from + count → owner p < owners)
    → total_over (λ n. total_over (λ p. if owner p == n then f n p else 0) (numbers_where always from count))
    (numbers_where always 0 owners) ≡ total_over (λ p. f (owner p) p) (numbers_where always from count)
total-owned owner f owners from zero below = total-none (λ n. 0) 0 owners (λ k a b. refl)
total-owned owner f owners from (suc count) below =
    let here : ℕ → ℕ = λ n. if owner from == n then f n from else 0 in
    let later : ℕ → ℕ = λ n. total_over (λ p. if owner p == n then f n p else 0) (numbers_where always (from + 1) count) in
    let rest = total-owned owner f owners (from + 1) count (λ p a b. below p (omega arith) (omega arith)) in
    let one = total-one (λ n. 0) here (owner from) (f (owner from) from) 0 owners (omega arith) (omega (arith, below from (omega arith) (omega arith)))
    (λ k ne. ap (λ b. if b then f k from else 0) (sym (fails (owner from == k) (λ e. ne (sym (same-is (owner from) k e))))))
    (zero-add (f (owner from) from) ∙ ap (λ b. if b then f (owner from) from else 0) (sym (same-yes (owner from)))) in
    let none = total-none (λ n. 0) 0 owners (λ k a b. refl) in
    let both = total-plus here later (λ n. here n + later n) always 0 owners (λ k a b. refl) in
    omega (arith, rest, one, none, both)

-- ## Bytes by message and by slot

-- the bytes of message n in the slots that pass, none where it expired or was abandoned
abbrev pub bytes_where : LinkRecord → (ℕ → Bool) → ℕ → ℕ
bytes_where w c n = if is_expired_or_abandoned w n then 0 else total_over (slot_bytes w n) (slots_where w (λ p. has_fragment w n p && c p))

-- the bytes in the slots that pass, of the messages that pass
pub bytes-by_slot : (w : LinkRecord) (q c : ℕ → Bool) → Sender (shape w)
    → total_over (bytes_where w c) (messages_where w q) ≡ total_over (bytes_at w) (slots_where w (λ p. c p && q (message_of w p)))
bytes-by_slot w q c s =
    total-where (bytes_where w c) q 0 (length w.messages)
    ∙ total-kept_same (λ n. if q n then bytes_where w c n else 0)
    (λ n. total_over (λ p. if message_of w p == n then part n p else 0) (numbers_where always 0 (length w.slots))) always 0 (length w.messages)
    (λ n a b. each n (q n) (is_expired_or_abandoned w n))
    ∙ total-owned (message_of w) part (length w.messages) 0 (length w.slots) (λ p a b. s.made p (omega arith))
    ∙ total-kept_same (λ p. part (message_of w p) p) (λ p. if c p && q (message_of w p) then bytes_at w p else 0) always 0 (length w.slots) (λ p a b.
    turned (q (message_of w p)) (is_expired_or_abandoned w (message_of w p)) (slot_at w p).is_terminal_chunk (c p) (slot_bytes w (message_of w p) p))
    ∙ sym (total-where (bytes_at w) (λ p. c p && q (message_of w p)) 0 (length w.slots))
  where
    part : ℕ → ℕ → ℕ
    part n p = if q n && (not (is_expired_or_abandoned w n) && (not (slot_at w p).is_terminal_chunk && c p)) then slot_bytes w n p else 0

    zero' : (b : Bool) → ◌≡◌ {A = ℕ} (if b then 0 else 0) 0
    zero' true = refl
    zero' false = refl

    each : (n : ℕ) (b g : Bool) → (if b then (if g then 0 else total_over (slot_bytes w n) (slots_where w (λ p. has_fragment w n p && c p))) else 0)
        ≡ total_over (λ p. if message_of w p == n then (if b && (not g && (not (slot_at w p).is_terminal_chunk && c p)) then slot_bytes w n p else 0) else 0)
        (numbers_where always 0 (length w.slots))
    each n true false = grind (arith, nat_tests, total-where, total-kept_same)
    each n true true = sym (total-none (λ p. if message_of w p == n then 0 else 0) 0 (length w.slots) (λ p a b. zero' (message_of w p == n)))
    each n false g = sym (total-none (λ p. if message_of w p == n then 0 else 0) 0 (length w.slots) (λ p a b. zero' (message_of w p == n)))

    turned : (b g m d : Bool) (k : ℕ) → (if b && (not g && (not m && d)) then k else 0) ≡ (if d && b then (if m || g then 0 else k) else 0)
    turned b g m c k = grind (arith, nat_tests)

-- what is in flight on a stream is what its slots hold that are not acknowledged
pub in-flight-on : (w : LinkRecord) (t : ℕ) → Sender (shape w) → on_stream w t (in_flight_bytes w) ≡ unacked_on w (acknowledged_at w) t
in-flight-on w t s = bytes-by_slot w (λ n. (message_at w n).stream == t) (λ p. not (acknowledged_at w p)) s

-- and in all
pub in-flight-in : (w : LinkRecord) → Sender (shape w) → in_all w (in_flight_bytes w) ≡ bytes_but_for w (acknowledged_at w)
in-flight-in w s =
    bytes-by_slot w always (λ p. not (acknowledged_at w p)) s
    ∙ ap (total_over (bytes_at w))
    (kept-same (λ p. not (acknowledged_at w p) && true) (λ p. not (acknowledged_at w p)) 0 (length w.slots) (λ k a b. and-true (not (acknowledged_at w k))))

-- a stream still has what is pending on it and what its slots hold that are not acknowledged
pub amount-is : (w : LinkRecord) (t : ℕ) → Sender (shape w) → amount w t ≡ on_stream w t (pending_bytes w) + unacked_on w (acknowledged_at w) t
amount-is w t s = ap (λ k. on_stream w t (pending_bytes w) + k) (in-flight-on w t s)

-- ## Marks

-- what is acknowledged may be told by another test that agrees
pub unacked-same : (w : LinkRecord) (a b : ℕ → Bool) → ((k : ℕ) → k < length w.slots → a k ≡ b k) → bytes_but_for w a ≡ bytes_but_for w b
unacked-same w a b e = ap (total_over (bytes_at w)) (kept-same (λ k. not (a k)) (λ k. not (b k)) 0 (length w.slots) (λ k i j. ap not (e k (omega arith))))

pub unacked_on-same : (w : LinkRecord) (a b : ℕ → Bool) (t : ℕ) → ((k : ℕ) → k < length w.slots → a k ≡ b k) → unacked_on w a t ≡ unacked_on w b t
unacked_on-same w a b t e = ap (total_over (bytes_at w)) (kept-same (λ k. not (a k) && (stream_of_slot w k == t))
    (λ k. not (b k) && (stream_of_slot w k == t)) 0 (length w.slots) (λ k i j. ap (λ c. not c && (stream_of_slot w k == t)) (e k (omega arith))))

-- ## A SACK is taken

-- the words of the record, over its shape
abbrev bytes_by : Shape → ℕ → ℕ
bytes_by x p =
    if (x.slot p).is_terminal_chunk || ((x.message (x.slot p).message).expired || (x.message (x.slot p).message).abandoned) then 0
    else length (get_or (pieces (length (x.message (x.slot p).message).bytes) x.size (x.message (x.slot p).message).bytes) (x.slot p).fragment [])

abbrev unacked_by : Shape → (ℕ → Bool) → ℕ
unacked_by x a = total_over (bytes_by x) (numbers_where (λ p. not (a p)) 0 x.slots)

abbrev unacked_on_by : Shape → (ℕ → Bool) → ℕ → ℕ
unacked_on_by x a t = total_over (bytes_by x) (numbers_where (λ p. not (a p) && ((x.message (x.slot p).message).stream == t)) 0 x.slots)

abbrev pub pending_by : Shape → ℕ → ℕ
pending_by x n = if (x.message n).expired || (x.message n).abandoned then 0 else total_over
    (λ i. length (get_or (pieces (length (x.message n).bytes) x.size (x.message n).bytes) i [])) (numbers_from (sent x n) (parts x n - sent x n))

abbrev pub pending_on_by : Shape → ℕ → ℕ
pending_on_by x t = total_over (pending_by x) (numbers_where (λ n. (x.message n).stream == t) 0 x.count)

-- all that the slots hold, with what was written of messages that expired or were abandoned
abbrev lost_or_sent_by : Shape → ℕ
lost_or_sent_by x = total_over (λ n. if (x.message n).expired || (x.message n).abandoned then length (x.message n).bytes else 0)
    (numbers_from 0 x.count) + total_over (bytes_by x) (numbers_from 0 x.slots)

released-is : (w : LinkRecord) → Sender (shape w) → in_all w (released_bytes w) + bytes_but_for w (acknowledged_at w) ≡ lost_or_sent_by (shape w)
released-is w s =
    let lost : ℕ → ℕ = λ n. if is_expired_or_abandoned w n then written_bytes w n else 0 in
    let a = total-plus lost (bytes_where w (acknowledged_at w)) (released_bytes w) always 0 (length w.messages) (λ n i j. each (is_expired_or_abandoned w n)
    (written_bytes w n) (total_over (slot_bytes w n) (slots_where w (λ p. has_fragment w n p && acknowledged_at w p)))) in
    let b = bytes-by_slot w always (acknowledged_at w) s ∙ ap (total_over (bytes_at w))
    (kept-same (λ p. acknowledged_at w p && true) (acknowledged_at w) 0 (length w.slots) (λ k i j. and-true (acknowledged_at w k))) in
    let c = total-split (bytes_at w) always (acknowledged_at w) 0 (length w.slots) in
    omega (arith, a, b, c)
  where
    each : (g : Bool) (l k : ℕ) → (if g then l else 0) + (if g then 0 else k) ≡ (if g then l else k)
    each true l k = omega arith
    each false l k = omega arith

module _ (w : LinkRecord) (r : Report) where
  abbrev v : LinkRecord
  v = after_acked w (Some (Sack r))

  same-shape : shape v ≡ shape w
  same-shape = Shapes.shape-acknowledged w r (max w.taken r.cumulative)

  acknowledged-now : (k : ℕ) → k < length w.slots → acknowledged_at v k ≡ acknowledged_then w r k
  acknowledged-now k lt = cc (numbered-at (acknowledged_by r) 0 k w.slots no_slot lt, zero-add k)

  -- the slots that it reports hold nothing then
  pub unacked-acked : bytes_but_for v (acknowledged_at v) ≡ bytes_but_for w (acknowledged_then w r)
  unacked-acked = ap (λ x. unacked_by x (acknowledged_at v)) same-shape ∙ unacked-same w (acknowledged_at v) (acknowledged_then w r) acknowledged-now

  pub unacked_on-acked : (t : ℕ) → unacked_on v (acknowledged_at v) t ≡ unacked_on w (acknowledged_then w r) t
  unacked_on-acked t = ap (λ x. unacked_on_by x (acknowledged_at v) t) same-shape
      ∙ unacked_on-same w (acknowledged_at v) (acknowledged_then w r) t acknowledged-now

  -- what is pending stays
  pub pending_on-acked : (t : ℕ) → on_stream v t (pending_bytes v) ≡ on_stream w t (pending_bytes w)
  pending_on-acked t = ap (λ x. pending_on_by x t) same-shape

  sender-acked : Sender (shape w) → Sender (shape v)
  sender-acked s = subst Sender (sym same-shape) s

  -- a stream then still has what is pending on it and what its slots hold that are not acknowledged then
  pub amount-acked : (t : ℕ) → Sender (shape w) → amount v t ≡ on_stream w t (pending_bytes w) + unacked_on w (acknowledged_then w r) t
  amount-acked t s = cc (amount-is v t (sender-acked s), pending_on-acked t, unacked_on-acked t)

  -- what the slots no longer hold was released
  pub released-acked : Sender (shape w)
      → in_all v (released_bytes v) + bytes_but_for w (acknowledged_then w r) ≡ in_all w (released_bytes w) + bytes_but_for w (acknowledged_at w)
  released-acked s = cc (unacked-acked, released-is v (sender-acked s), same-shape, released-is w s)

  -- that much the released bytes grow
  pub growth-acked : Sender (shape w) → growth w v ≡ bytes_but_for w (acknowledged_at w) - bytes_but_for w (acknowledged_then w r)
  growth-acked s = omega (arith, released-acked s)
