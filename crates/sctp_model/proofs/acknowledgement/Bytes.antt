use Rattle.sctp_model.proofs.Names.{◌≡◌, ℕ, ◌+◌, ◌-◌, ◌<◌, Bool, true, false, length, refl, ap, ◌∙◌, arith, if◌then◌else◌, numbers_where, always, numbers_from}
use Rattle.sctp_model.proofs.Names.{total_over, LinkRecord, IsSetup, OnEveryRun, Balances, numbered, total-plus, total-append, total-split, total-map}
use Rattle.sctp_model.proofs.Names.{numbers-append, nat_tests}
use Rattle.sctp_model.specs.Messages
use Rattle.sctp_model.specs.Amounts
use Rattle.sctp_model.proofs.sender.Shape.{shape, has}
use Rattle.sctp_model.proofs.sender.Sender.{Sender}
use Rattle.sctp_model.proofs.sender.SenderSteps.{of-has}
use Rattle.sctp_model.proofs.sender.SenderRun.{Consistent, consistent-run}
use Rattle.sctp_util.proofs.Pieces.{lengths-pieces, total-lengths}

-- Each written byte is pending, in flight or released.

-- ## Pieces

-- ## A message

-- the bytes in its slots are those of its first fragments
pub slots-bytes : (w : LinkRecord) (n : ℕ) → Sender (shape w) → total_over (Amounts.slot_bytes w n)
    (Messages.slots_of w n) ≡ total_over (λ i. length (Messages.fragment_at w n i)) (numbers_from 0 (Messages.sent_of w n))
slots-bytes w n s =
    total-map (λ i. length (Messages.fragment_at w n i)) (λ p. (Messages.slot_at w p).fragment) (Messages.slots_of w n)
    ∙ ap (total_over (λ i. length (Messages.fragment_at w n i))) (numbered (λ p. (Messages.slot_at w p).fragment) (has (shape w) n) (length w.slots)
    (λ k l e. s.number k l ∙ ap (λ m. length (numbers_where (has (shape w) m) 0 k)) (of-has (shape w) n k e).0))

pub fragments-bytes : (w : LinkRecord) (n : ℕ) → 0 < w.setup.size
    → total_over (λ i. length (Messages.fragment_at w n i)) (numbers_from 0 (Messages.fragment_count w n)) ≡ Amounts.written_bytes w n
fragments-bytes w n pos = grind (arith, nat_tests, total-lengths, lengths-pieces)

pub balance : (w : LinkRecord) (n : ℕ) → Sender (shape w) → 0 < w.setup.size → n < length w.messages
    → Amounts.pending_bytes w n + Amounts.in_flight_bytes w n + Amounts.released_bytes w n ≡ Amounts.written_bytes w n
balance w n s pos lt = step (Amounts.is_expired_or_abandoned w n)
  where
    alive : Amounts.unsent_bytes w n + Amounts.unacknowledged_bytes w n + Amounts.acknowledged_bytes w n ≡ Amounts.written_bytes w n
    alive =
        let f : ℕ → ℕ = λ i. length (Messages.fragment_at w n i) in
        let a = Messages.sent_of w n in
        let all : a + (Messages.fragment_count w n - a) ≡ Messages.fragment_count w n = omega (arith, s.within n lt) in
        let split = total-split (Amounts.slot_bytes w n) (has (shape w) n) (λ p. (Messages.slot_at w p).acknowledged) 0 (length w.slots) in
        let rows = total-append f (numbers_where always 0 a) (numbers_where always a (Messages.fragment_count w n - a)) in
        let complete = ap (total_over f) (numbers-append a (Messages.fragment_count w n - a) ∙ ap (numbers_where always 0) all) in
        omega (arith, split, rows, complete, slots-bytes w n s, fragments-bytes w n pos)

    step : (b : Bool) → (if b then 0 else Amounts.unsent_bytes w n) + (if b then 0 else Amounts.unacknowledged_bytes w n)
        + (if b then Amounts.written_bytes w n else Amounts.acknowledged_bytes w n) ≡ Amounts.written_bytes w n
    step true = omega arith
    step false = alive

-- ## The law

pub size-some : (setup : Rattle.sctp_model.specs.LinkRecord.Setup) (w : LinkRecord) → IsSetup setup → Consistent setup w → 0 < w.setup.size
size-some setup w is g = omega (arith, is.some, ap (λ t. t.size) g.setup_is)

sums : (w : LinkRecord) (p : ℕ → Bool) → Sender (shape w) → 0 < w.setup.size → total_over (Amounts.written_bytes w) (numbers_where p 0 (length w.messages))
    ≡ total_over (Amounts.pending_bytes w) (numbers_where p 0 (length w.messages)) + total_over (Amounts.in_flight_bytes w)
    (numbers_where p 0 (length w.messages)) + total_over (Amounts.released_bytes w) (numbers_where p 0 (length w.messages))
sums w p s pos =
    let both : ℕ → ℕ = λ n. Amounts.pending_bytes w n + Amounts.in_flight_bytes w n in
    let a = total-plus (Amounts.pending_bytes w) (Amounts.in_flight_bytes w) both p 0 (length w.messages) (λ k x y. refl) in
    let b = total-plus both (Amounts.released_bytes w) (Amounts.written_bytes w) p 0 (length w.messages) (λ k x y. balance w k s pos (omega arith)) in
    omega (arith, a, b)

pub balances : OnEveryRun Balances
balances setup h is run = grind (arith, nat_tests, consistent-run, sums)
