-- What an Expire answers, and what it leaves of the counts of streams.
use Rattle.sctp_model.proofs.Names.{◌≡◌, ℕ, ◌+◌, ◌-◌, ◌<◌, ◌%◌, ◌^◌, Bool, length, Option, Some, None, refl, ap, sym, ◌∙◌, arith, if◌then◌else◌, ◌==◌, ◌&&◌}
use Rattle.sctp_model.proofs.Names.{not, subst, both, same-is, next_pending, Outbound, expired_of, total_bytes, Reply, LinkRecord, Setup, message_at}
use Rattle.sctp_model.proofs.Names.{ordered_before, sent_of, growth, expiring, History, record_of, IsRun, reply_to, after, expired_reply, IsSetup, waiting_at}
use Rattle.sctp_model.proofs.Names.{RefinesOutbound, held_bytes, nat_tests}
use Rattle.std.specs.Option.{option_map}
use Rattle.sctp_outbound.specs.outbound_queue.OutboundQueue as outbound
use Rattle.sctp_outbound.specs.outbound_queue.OutboundQueue.{expired_bytes}
use Rattle.sctp_model.specs.declared.event.Event.TheVariants as E
use Rattle.sctp_model.specs.Reply as R
use Rattle.sctp_model.proofs.acknowledgement.Bytes.{size-some}
use Rattle.sctp_model.proofs.refinement.sending.KindsRun.{Going}
use Rattle.sctp_model.proofs.refinement.sending.Fragments.{going-run, shown}
use Rattle.sctp_model.proofs.refinement.abandonment.Released.{growth-by_queues, growth-expire}
use Rattle.sctp_model.proofs.refinement.abandonment.Expired.{lower}
use Rattle.sctp_model.proofs.refinement.abandonment.Expired.{expiring-is, expiring-front, refines-expire, before-all}

-- ## The answer

-- what the call answers, as a reply
abbrev pub reply_of : Option (ℕ × Bool × ℕ) → Reply
reply_of None = R.Idle
reply_of (Some a) = R.Expired a.0 a.2

-- the message that expired, with its stream and its kind, where the call answers something
pub record Tells (w : LinkRecord) (now : ℕ) (s : ℕ) (unordered : Bool) : Type 0 where
  pub number : ℕ
  pub is : expiring w now ≡ Some number
  pub stream : (message_at w number).stream ≡ s
  pub kind : not (message_at w number).ordered ≡ unordered

abbrev pub TellsOf : LinkRecord → ℕ → Option (ℕ × Bool × ℕ) → Type 0
TellsOf w now None = expiring w now ≡ None
TellsOf w now (Some a) = Tells w now a.0 a.1

pub tells : (setup : Setup) (w : LinkRecord) (now : ℕ) (q : Outbound) (a : Option (ℕ × Bool × ℕ)) → 0 < w.setup.size → Going setup w → RefinesOutbound w q
    → option_map {U = ℕ × Bool} (λ a. (a.0, a.1)) a ≡ option_map {U = ℕ × Bool} (λ c. (c.stream_identifier, c.unordered)) (outbound.expiring now q)
    → TellsOf w now a
tells setup w now q a size g t e =
    by a (expiring w now) refl (e ∙ ap (option_map {U = ℕ × Bool} (λ c. (c.stream_identifier, c.unordered))) (expiring-is setup w now q size g t))
  where
    by : (a : Option (ℕ × Bool × ℕ)) (o : Option ℕ) → expiring w now ≡ o → option_map {U = ℕ × Bool} (λ a. (a.0, a.1)) a
        ≡ option_map {U = ℕ × Bool} (λ c. (c.stream_identifier, c.unordered)) (option_map (λ n. waiting_at w n 0) o) → TellsOf w now a
    by b c h z = grind (arith, nat_tests)

-- it is the right reply
pub reply-expire : (setup : Setup) (h : History) → IsSetup setup → IsRun setup h → (now : ℕ) (q r : Outbound) (a : Option (ℕ × Bool × ℕ))
    → RefinesOutbound (record_of setup h) q → r ≡ expired_of (outbound.expiring now q) q
    → option_map {U = ℕ × Bool} (λ a. (a.0, a.1)) a ≡ option_map {U = ℕ × Bool} (λ c. (c.stream_identifier, c.unordered)) (outbound.expiring now q)
    → total_bytes r + expired_bytes a ≡ total_bytes q → reply_of a ≡ reply_to (record_of setup h) (E.Expire now)
reply-expire setup h is run now q r a t moved answer bytes = by a (tells setup w now q a size g t answer) released
  where
    w : LinkRecord
    w = record_of setup h

    g : Going setup (record_of setup h)
    g = going-run setup h run

    size : 0 < (record_of setup h).setup.size
    size = size-some setup (record_of setup h) is g.consistent

    u : RefinesOutbound (after (record_of setup h) (E.Expire now)) r
    u = subst (RefinesOutbound (after (record_of setup h) (E.Expire now))) (sym moved) (refines-expire setup (record_of setup h) now q size g t)

    released : growth (record_of setup h) (after (record_of setup h) (E.Expire now)) ≡ expired_bytes a
    released = omega (arith, growth-by_queues setup h is run (E.Expire now) refl refl q r t u, bytes)

    by : (a : Option (ℕ × Bool × ℕ)) → TellsOf (record_of setup h) now a → growth (record_of setup h) (after (record_of setup h) (E.Expire now))
        ≡ expired_bytes a → reply_of a ≡ expired_reply (record_of setup h) (after (record_of setup h) (E.Expire now)) (expiring (record_of setup h) now)
    by None c e = ap (expired_reply (record_of setup h) (after (record_of setup h) (E.Expire now))) (sym c)
    by (Some a) c e = cc (e, c.stream, c.is)

-- ## The streams

-- the count of ordered messages that a later write of a stream takes
pub count-expire : (setup : Setup) (w : LinkRecord) (now n : ℕ) → Going setup w → expiring w now ≡ Some n → (s : ℕ)
    → ordered_before (after w (E.Expire now)) s (length (after w (E.Expire now)).messages)
    + (if ((message_at w n).stream == s) && (message_at w n).ordered then 1 else 0) ≡ ordered_before w s (length w.messages)
count-expire setup w now n g e s =
    let p = expiring-front w now n e in
    cc (e, before-all setup w n g p.0 p.1 s)

-- the sequence number that a stream keeps, one lower
pub number-lower : (number old new : ℕ) → number ≡ old % 2 ^ 16 → old ≡ new + 1 → (number + (2 ^ 16 - 1)) % 2 ^ 16 ≡ new % 2 ^ 16
number-lower number old new e f = ap (λ k. (k + (2 ^ 16 - 1)) % 2 ^ 16) e ∙ lower new old f

-- the chunk in front tells the number, before the call: the call does not
pub peeked-is : (setup : Setup) (w : LinkRecord) (now n : ℕ) (q : Outbound) → Going setup w → RefinesOutbound w q → expiring w now ≡ Some n
    → next_pending q.pending ≡ Some (waiting_at w n 0)
peeked-is setup w now n q g t e =
    let p = expiring-front w now n e in
    shown setup w n q g p.0 t ∙ ap (λ i. Some (waiting_at w n i)) (same-is (sent_of w n) 0 (both (sent_of w n == 0) (not (message_at w n).expired) p.1).0)

-- the bytes that the call answers are those that the message held
pub bytes-expire : (setup : Setup) (h : History) → IsSetup setup → IsRun setup h → (now n : ℕ) (q r : Outbound) (a : Option (ℕ × Bool × ℕ))
    → RefinesOutbound (record_of setup h) q → r ≡ expired_of (outbound.expiring now q) q → total_bytes r + expired_bytes a ≡ total_bytes q
    → expiring (record_of setup h) now ≡ Some n → expired_bytes a ≡ held_bytes (record_of setup h) n
bytes-expire setup h is run now n q r a t moved bytes e =
    let w = record_of setup h in
    let g = going-run setup h run in
    let u : RefinesOutbound (after w (E.Expire now)) r = subst (RefinesOutbound (after w (E.Expire now))) (sym moved)
    (refines-expire setup w now q (size-some setup w is g.consistent) g t) in
    omega (arith, growth-by_queues setup h is run (E.Expire now) refl refl q r t u, bytes, growth-expire setup w now n g.consistent is e)
