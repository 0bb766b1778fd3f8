-- What is released as messages are abandoned, by the record and by what the queues hold.
use Rattle.sctp_model.proofs.Names.{◌≡◌, ℕ, ◌+◌, ◌-◌, ◌<◌, Bool, true, false, ◌∷◌, length, Option, Some, None, refl, ap, ◌∙◌, arith, if◌then◌else◌, ◌==◌, ◌&&◌}
use Rattle.sctp_model.proofs.Names.{always, both, total-plus, Outbound, total_bytes, Event, NotInFlight, Setup, LinkRecord, message_at, message_of, place_of}
use Rattle.sctp_model.proofs.Names.{front, is_unsent, is_partially_sent, is_in_flight, is_past_deadline, in_all, written_bytes, released_bytes, growth}
use Rattle.sctp_model.proofs.Names.{after_abandon, after_expire, expiring, front_if, tailing, after_tail, History, record_of, IsRun, refusal_of, reply_to}
use Rattle.sctp_model.proofs.Names.{after, IsSetup, amount, held_bytes, is_write, RefinesOutbound, nat_tests}
use Rattle.sctp_model.specs.declared.event.Event.TheVariants as E
use Rattle.sctp_model.proofs.sender.Shape.{shape, sent}
use Rattle.sctp_model.proofs.sender.SenderSteps.{of-partial}
use Rattle.sctp_model.proofs.sender.SenderRun.{Consistent, consistent-run, consistent-after, consistent-abandoned, in-flight-sent, unless-holds}
use Rattle.sctp_model.proofs.sender.Slots.{sent-made}
use Rattle.sctp_model.proofs.sender.Fronts.{front-takes}
use Rattle.sctp_model.proofs.sender.Moves
use Rattle.sctp_model.proofs.acknowledgement.Bytes.{balance, balances, size-some}
use Rattle.sctp_model.proofs.acknowledgement.BytesAnswered.{count-abandoned}
use Rattle.sctp_model.proofs.refinement.abandonment.NothingHeld.{amount-expired, held-in-abandoned, held-in-expired}
use Rattle.sctp_model.proofs.refinement.amounts.InFlightBytes.{in-flight-bytes}
use Rattle.sctp_model.proofs.refinement.amounts.MessageSums.{sum-same}
use Rattle.sctp_model.proofs.refinement.amounts.PendingBytes.{pending-bytes}
use Rattle.sctp_model.proofs.refinement.amounts.StreamCounters.{written-same}
use Rattle.sctp_model.proofs.refinement.amounts.AnsweredSums.{AsAnswered, answered-after, read-quiet}

-- ## By what the queues hold

-- but for writes, the released bytes grow by what the outbound queue holds less
pub growth-by_queues : (setup : Setup) (h : History) → IsSetup setup → IsRun setup h → (e : Event) → refusal_of (record_of setup h) e ≡ None
    → is_write e ≡ false → (q r : Outbound) → RefinesOutbound (record_of setup h) q → RefinesOutbound (after (record_of setup h) e) r
    → growth (record_of setup h) (after (record_of setup h) e) ≡ total_bytes q - total_bytes r
growth-by_queues setup h is run e ok a q r t u =
    let w = record_of setup h in
    let longer : History = (e, reply_to w e) ∷ h in
    let more : IsRun setup longer = (ok, (refl, run)) in
    omega (
      arith,
      (balances setup h is run).0,
      (balances setup longer is more).0,
      written-same setup w e (consistent-run setup h run) a,
      pending-bytes w q.pending t.pending,
      in-flight-bytes setup h is run q t,
      pending-bytes (after w e) r.pending u.pending,
      in-flight-bytes setup longer is more r u,
    )

-- ## By the record

pub balance-in : (setup : Setup) (w : LinkRecord) → IsSetup setup → Consistent setup w
    → in_all w (held_bytes w) + in_all w (released_bytes w) ≡ in_all w (written_bytes w)
balance-in setup w is g = total-plus (held_bytes w) (released_bytes w) (written_bytes w) always 0 (length w.messages)
    (λ n a b. balance w n g.sender (size-some setup w is g) (omega arith))

written-as : (w v : LinkRecord) → AsAnswered w v → in_all v (written_bytes v) ≡ in_all w (written_bytes w)
written-as w v t = sum-same w v (λ m. true) (λ m. length m.bytes) t.count (λ n lt. refl) (λ n lt. ap length (t.bytes n lt))

-- abandoning a message releases what it holds
pub released-abandoned : (setup : Setup) (w : LinkRecord) (n : ℕ) → IsSetup setup → Consistent setup w → 0 < sent (shape w) n
    → in_all (after_abandon w n) (released_bytes (after_abandon w n)) ≡ in_all w (released_bytes w) + held_bytes w n
released-abandoned setup w n is g pos =
    let v = after_abandon w n in
    let answered = (read-quiet w v (count-abandoned w n) (Moves.quiet-abandoned setup w n g)).answered in
    omega (
      arith,
      balance-in setup w is g,
      balance-in setup v is (consistent-abandoned setup w n g pos),
      written-as w v answered,
      held-in-abandoned w n (sent-made (shape w) n g.sender pos),
    )

-- the front, where a test chose it
chosen : (w : LinkRecord) (p : ℕ → Bool) (o : Option ℕ) (n : ℕ) → front_if w p o ≡ Some n → (o ≡ Some n) × (p n ≡ true)
chosen w p b n e = grind (arith, nat_tests)

-- ## Each event

made-front : (setup : Setup) (w : LinkRecord) (p : ℕ → Bool) (n : ℕ) → Consistent setup w → front_if w p (front w) ≡ Some n → n < length w.messages
made-front setup w p n g e = (front-takes (shape w) n g.sender (chosen w p (front w) n e).0).made

module _ (setup : Setup) (w : LinkRecord) (now n : ℕ) (g : Consistent setup w) where
  -- an Expire takes what the front holds from its stream
  pub amount-expire : expiring w now ≡ Some n → (t : ℕ)
      → amount (after w (E.Expire now)) t + (if (message_at w n).stream == t then held_bytes w n else 0) ≡ amount w t
  amount-expire e t = cc (e, amount-expired w n t (made-front setup w (λ n. is_unsent w n && is_past_deadline w now n) n g e))

  pub growth-expire : IsSetup setup → expiring w now ≡ Some n → growth w (after w (E.Expire now)) ≡ held_bytes w n
  growth-expire is e =
      let v = after w (E.Expire now) in
      let held : in_all v (held_bytes v) + held_bytes w n ≡ in_all w (held_bytes w) =
      ap (λ o. in_all (after_expire w o) (held_bytes (after_expire w o)) + held_bytes w n) e
      ∙ held-in-expired w n (made-front setup w (λ n. is_unsent w n && is_past_deadline w now n) n g e) in
      omega (
        arith,
        balance-in setup w is g,
        balance-in setup v is (consistent-after setup w (E.Expire now) refl g),
        written-as w v (answered-after setup w (E.Expire now) g refl),
        held,
      )

  pub growth-tail : IsSetup setup → tailing w now ≡ Some n → growth w (after w (E.Tail now)) ≡ held_bytes w n
  growth-tail is e =
      let c = (chosen w (λ n. is_partially_sent w n && is_past_deadline w now n) (front w) n e).1 in
      let partial = (both (is_partially_sent w n) (is_past_deadline w now n) c).0 in
      let r = released-abandoned setup w n is g (of-partial (shape w) n partial).some in
      let z : growth w (after_abandon w n) ≡ held_bytes w n = omega (arith, r) in
      ap (λ o. growth w (after_tail w o)) e ∙ z

-- an Abandon takes what the message of the TSN holds
module _ (setup : Setup) (w : LinkRecord) (tsn : ℕ) (g : Consistent setup w) (ok : refusal_of w (E.Abandon tsn) ≡ None) where
  abbrev gone : ℕ
  gone = message_of w (place_of w tsn)

  sent-gone : 0 < sent (shape w) gone
  sent-gone = in-flight-sent setup w (place_of w tsn) g (unless-holds (is_in_flight w (place_of w tsn)) NotInFlight None ok).0

  pub growth-abandon : IsSetup setup → growth w (after w (E.Abandon tsn)) ≡ held_bytes w gone
  growth-abandon is = omega (arith, released-abandoned setup w gone is g sent-gone)
