use Rattle.sctp_model.proofs.Names.{◌≡◌, ℕ, ◌<◌, ◌≤◌, true, false, length, Some, ap, sym, ◌∙◌, inl, inr, arith, ◌==◌, ◌&&◌, nat_lt, cases_lt, nat_tests}
use Rattle.sctp_model.proofs.Names.{numbers_where, always, first_of, kept-same, fails, and, LinkRecord, record_of, OnEveryRun, SlotsInOrder, SlotsFollow}
use Rattle.sctp_model.proofs.Names.{OnePartiallySent, SentInTurn, IndexesLeaveNoGap, get-beyond, numbered, IsRow, row, at-most-one, length-numbers}
use Rattle.sctp_model.specs.Messages
use Rattle.sctp_model.proofs.sender.Shape.{Shape, shape, has, sent, partial, on}
use Rattle.sctp_model.proofs.sender.Sender.{Sender}
use Rattle.sctp_model.proofs.sender.SenderSteps.{of-has, partial-one}
use Rattle.sctp_model.proofs.sender.SenderEnds.{sent-none}
use Rattle.sctp_model.proofs.sender.SenderRun.{consistent-run}

-- The slots of a message, in words of their own.

-- ## Lists

-- ## Slots

pub beyond-slots : (w : LinkRecord) (n p : ℕ) → length w.slots ≤ p → has (shape w) n p ≡ false
beyond-slots w n p le = grind (arith, nat_tests, get-beyond)

pub slots-row : (w : LinkRecord) (n : ℕ) → Sender (shape w) → IsRow (has (shape w) n) (length w.slots)
slots-row w n s = row (has (shape w) n) (length w.slots) (λ k lt e pos.
    let o = of-has (shape w) n k e in
    let f : (Messages.slot_at w k).fragment ≡ length (numbers_where (has (shape w) n) 0 k) = grind (arith, nat_tests) in
    let b = s.beside k lt o.1 (omega (arith, f, pos)) in
    (b.0, b.1, ap (λ m. has (shape w) m b.0) (sym o.0) ∙ b.2)) (λ k le. beyond-slots w n k le)

pub slots_in_order : OnEveryRun SlotsInOrder
slots_in_order setup h is run n lt =
    let s = (consistent-run setup h run).sender in (
      numbered (λ p. (Messages.slot_at (record_of setup h) p).fragment) (has (shape (record_of setup h)) n) (length (record_of setup h).slots)
          (λ k l e. s.number k l ∙ ap (λ m. length (numbers_where (has (shape (record_of setup h)) m) 0 k)) (of-has (shape (record_of setup h)) n k e).0),
      (s.within n lt, s.terminals n lt),
    )

pub slots_follow : OnEveryRun SlotsFollow
slots_follow setup h is run n place e =
    let r = slots-row (record_of setup h) n (consistent-run setup h run).sender in
    r.is ∙ ap (λ l. numbers_where always l r.many) (first r.from r.many (sym (ap first_of r.is) ∙ e))
    ∙ ap (numbers_where always place) (sym (length-numbers r.from r.many) ∙ ap length (sym r.is))
  where
    first : (from many : ℕ) → first_of (numbers_where always from many) ≡ Some place → from ≡ place
    first from many h1 = grind (arith, nat_tests)

pub one_partially_sent : OnEveryRun OnePartiallySent
one_partially_sent setup h is run = let s = (consistent-run setup h run).sender in
    at-most-one (partial (shape (record_of setup h))) 0 (length (record_of setup h).messages) (λ j k a b. partial-one (shape (record_of setup h)) j k s a b)

pub sent-made : (x : Shape) (n : ℕ) → Sender x → 0 < sent x n → n < x.count
sent-made x n s pos = elim (cases_lt n x.count) [ inl l ↦ l | inr g ↦ absurd (omega (arith, sent-none x n s g)) ]

pub sent_in_turn : OnEveryRun SentInTurn
sent_in_turn setup h is run s m n lt a b pos = let g = (consistent-run setup h run).sender in
    g.turn s m n lt (sent-made (shape (record_of setup h)) n g pos) a b pos

-- a message that was sent did not expire
pub sent-alive : (x : Shape) (n : ℕ) → Sender x → 0 < sent x n → (x.message n).expired ≡ false
sent-alive x n s pos = fails (x.message n).expired (λ e. absurd (omega (arith, s.expired_unsent n (sent-made x n s pos) e)))

-- among those before a sent one, those that did not expire are those that were sent
indexed : (x : Shape) (m n : ℕ) → Sender x → m < n → (x.message n).ordered ≡ true → 0 < sent x n
    → on x (x.message n).stream m ≡ (((x.message m).stream == (x.message n).stream) && ((x.message m).ordered && nat_lt 0 (sent x m)))
indexed x m n s lt ord pos = grind (arith, nat_tests, sent-made, and, sent-alive) steps 150000

pub indexes_leave_no_gap : OnEveryRun IndexesLeaveNoGap
indexes_leave_no_gap setup h is run n ord pos =
    let x = shape (record_of setup h) in
    let s = (consistent-run setup h run).sender in
    ap length (kept-same (on x (x.message n).stream) (λ m. ((x.message m).stream == (x.message n).stream) && ((x.message m).ordered && nat_lt 0 (sent x m))) 0 n
    (λ m a b. indexed x m n s (omega arith) ord pos))
