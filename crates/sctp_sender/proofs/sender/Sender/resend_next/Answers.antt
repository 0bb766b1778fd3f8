use Rattle.sctp_sender.proofs.Names.{◌≡◌, ℕ, Some, sym, ap, ◌∙◌, find, option_map, ChunkPayloadData, has_tsn, resent_at, Transmission, with_flight}
use Rattle.sctp_sender.specs.Resending.{next_within}
use Rattle.sctp_sender.proofs.Resends.{any-marked, next-answer, next-tsn, same-tsn}
use Rattle.sctp_sender.proofs.sender.Sender.resend_next.Goals.{In-Some}
use Rattle.sctp_sender.proofs.sender.Sender.resend_next.Goals as goal

-- The TSN is that of the chunk that is sent again next, of a sender that is as it was.
record IsNext (t same : Transmission) (room tsn : ℕ) : Type 0 where
  is : Some tsn ≡ option_map (λ c. c.tsn) (next_within room t.flight)
  own : (c : ChunkPayloadData) → next_within room t.flight ≡ Some c → find (has_tsn c.tsn) t.flight.queue.inflight.chunks ≡ Some c
  here : (c : ChunkPayloadData) → find (has_tsn tsn) t.flight.queue.inflight.chunks ≡ Some c
      → find (has_tsn tsn) same.flight.queue.inflight.chunks ≡ Some c

next : (c : In-Some) → IsNext c.args.self.now c.tsn_to_resend.new.self c.args.room c.in-Some.tsn
next c =
    let h = c.tsn_to_resend.ensures in
    record {
      is = sym c.in-Some.is ∙ h.tsn;
      own = h.own;
      here = λ d e. ap (λ (t : Transmission). find (has_tsn c.in-Some.tsn) t.flight.queue.inflight.chunks) h.same ∙ e;
    }

pub returns-clause-answer : goal.returns-clause-answer
returns-clause-answer c =
    let h = next (goal.at.returns-clause-answer c).In-Some in
    let t : Transmission = c.args.self.now in
    next-answer t.flight.queue.inflight.chunks (next_within c.args.room t.flight) c.in-Some.tsn c.args.now h.is h.own c.in_ok-again.again
    (λ d e. c.in_ok-again.ensures.answer d (h.here d e))

pub returns-clause-noted : goal.returns-clause-noted
returns-clause-noted c =
    let h = next (goal.at.returns-clause-noted c).In-Some in
    let t : Transmission = c.args.self.now in
    let same = next-tsn t.flight.queue.inflight.chunks (next_within c.args.room t.flight) c.in-Some.tsn c.args.now h.is h.own c.in_ok-again.again
    (λ d e. c.in_ok-again.ensures.answer d (h.here d e)) in
    ap (λ (n : ℕ). find (has_tsn n) c.resend.new.self.flight.queue.inflight.chunks) same ∙ c.in_ok-again.ensures.noted

pub returns-clause-ok : goal.returns-clause-ok
returns-clause-ok c =
    let h = next (goal.at.returns-clause-ok c).In-Some in
    let t : Transmission = c.args.self.now in
    λ d e. let same = same-tsn t.flight.queue.inflight.chunks (next_within c.args.room t.flight) c.in-Some.tsn c.args.now h.is h.own d e in
    rw same (c.in_ok-again.ensures.ok d (h.here d (rw (← same) (h.own d e)))
    ∙ ap (λ (u : Transmission). with_flight (resent_at c.in-Some.tsn c.args.now d u.flight) u) c.tsn_to_resend.ensures.same)

pub returns-clause-none : goal.returns-clause-none
returns-clause-none c =
    let h = next (goal.at.returns-clause-none c).In-Some in
    let t : Transmission = c.args.self.now in
    λ e. absurd (any-marked t.flight.queue.inflight.chunks (next_within c.args.room t.flight) c.in-Some.tsn c.args.now h.is h.own e)

pub returns-in_err-again-clause-idle : goal.returns-in_err-again-clause-idle
returns-in_err-again-clause-idle c =
    let h = next (goal.at.returns-in_err-again-clause-idle c).In-Some in
    let t : Transmission = c.args.self.now in
    λ e. absurd (any-marked t.flight.queue.inflight.chunks (next_within c.args.room t.flight) c.in-Some.tsn c.args.now h.is h.own e)
