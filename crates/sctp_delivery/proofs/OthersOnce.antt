-- In the end each write is read exactly once, but for those whose messages were abandoned; in a reliable session none was.
use Rattle.sctp_delivery.proofs.Names.{common_steps, nat_tests, length, arith, ◌≡◌, ◌<◌, true, both, stream_of, abandoned_in, AfterEachReliableSession}
use Rattle.sctp_delivery.proofs.Names.{is_all_acknowledged, reads_nothing, WhileFewTsns, was_passed, at_start, RunsTo, Session, Call, Limits, Option, List, []}
use Rattle.sctp_delivery.proofs.Names.{ℕ, ◌^◌}
use Rattle.sctp_delivery.specs.Abandoned.{AfterEachSessionOfMessages, AreOfWrites, IsEachOtherReadInTheEnd, IsHeldReadOrPassed, OnlyTheirsAreMarked}
use Rattle.sctp_delivery.specs.Complete.{IsAllReadInTheEnd}
use Rattle.sctp_delivery.specs.Modes.{AreFewInFlight}
use Rattle.sctp_delivery.proofs.AbandonedMessages.{AreBelow, AreMarkedGone, IsMarkedGone}
use Rattle.sctp_delivery.proofs.Cases.{all_streams}
use Rattle.sctp_delivery.proofs.KeptSessions.{idle-of, others-once, kept-in}
use Rattle.sctp_delivery.proofs.Every.{all-of-every, every-of}
use Rattle.sctp_delivery.proofs.HeldInTheEnd.{taken-read}
use Rattle.sctp_delivery.proofs.InTheEnd.{none-selected}
use Rattle.sctp_delivery.proofs.Kept.{held-weighs}
use Rattle.sctp_delivery.proofs.KeptOrGone.{IsPassedBy}
use Rattle.sctp_delivery.proofs.NoneAbandoned.{each-of-others, none-in}
use Rattle.sctp_delivery.proofs.Reached.{lasted-first, lasts-gone}

pub others-read : AfterEachSessionOfMessages (λ size gone s. 0 < size → IsEachOtherReadInTheEnd gone s)
others-read first size max most limits cs s run small few some exhausted =
    let b = both (is_all_acknowledged s.sending.sender) (reads_nothing s.receiving.receiver) exhausted in
    let h = kept-in first size max most limits cs s small some run few in
    let idle = idle-of s b.0 in
    others-once first size max most limits cs s run small few _ h.numbered h.sent h.kept.unwrapped.spread h.kept.passed idle
    (taken-read first size max most limits cs s run _ few _ h.numbered h.sent h.kept idle.inflight
    (none-selected all_streams h.numbered first _ s.sending.sender.flight.queue.pending h.sent h.kept.unwrapped.spread.holds.held.stands.queued idle.ordered
    idle.unordered) b.1)

-- what is taken is held, was read, or is passed
pub held-read-or-passed : WhileFewTsns IsHeldReadOrPassed
held-read-or-passed first size max most limits cs s small some run few st =
    let h = kept-in first size max most limits cs s small some run few in
    let k = h.kept.kept st in
    let gone = abandoned_in (at_start first size max most limits) cs s run in (
      k.lost,
      all-of-every (λ c. was_passed c.tsn s ≡ true) k.lost
          (every-of (IsPassedBy gone h.sent s.made) (λ c. was_passed c.tsn s ≡ true) (λ c g. g.1) k.lost k.of-gone),
      λ w.
          omega (arith, k.weighs w, held-weighs w (stream_of st s.receiving.receiver)),
    )

-- where no message was abandoned, each
pub all-read : AfterEachReliableSession (λ size s. 0 < size → IsAllReadInTheEnd s)
all-read first size max most limits cs s run small few all some exhausted = grind (arith, nat_tests, common_steps, each-of-others, none-in, others-read)

-- ## What is abandoned

module _ (first size max most : ℕ) (limits : Option Limits) (cs : List Call) (s : Session) (small : first < 2 ^ 32) (some : 0 < size)
    (run : RunsTo (at_start first size max most limits) cs s) (few : AreFewInFlight (at_start first size max most limits) cs s run) where
  abbrev gone : List ℕ
  gone = abandoned_in (at_start first size max most limits) cs s run

  lasts : AreBelow (length s.written) gone × AreMarkedGone gone s.sending.sender.flight.queue.inflight.chunks
  lasts = lasts-gone first cs (at_start first size max most limits) s run few (lasted-first first size max most limits small some) [] tt tt

  pub of-writes : AreOfWrites gone s
  of-writes = all-of-every (λ m. m < length s.written) gone lasts.0

  pub theirs-marked : OnlyTheirsAreMarked gone s
  theirs-marked = all-of-every (IsMarkedGone gone) s.sending.sender.flight.queue.inflight.chunks lasts.1
