use Rattle.sctp_sender.proofs.Names.{◌≡◌, true, ap, ◌∙◌, arith, is_some, expiring, total_bytes, Transmission}
use Rattle.sctp_sender.specs.Drops.{is_begun_due}
use Rattle.sctp_sender.proofs.Amounts.{started-bytes}
use Rattle.sctp_sender.proofs.Drops.{at-first, front-expires}
use Rattle.sctp_sender.proofs.sender.Sender.drop_expired.Goals.{In-Some}
use Rattle.sctp_sender.proofs.sender.Sender.drop_expired.Goals as goal

front : (c : In-Some) → true ≡ is_some (expiring c.args.now c.args.self.now.flight.queue)
front c =
    let h = c.in-Some.ensures in
    front-expires _ _ c.args.now _ c.args.self.now.flight.queue h.any h.of_one

pub returns-in-Some-clause-front : goal.returns-in-Some-clause-front
returns-in-Some-clause-front c = front (goal.at.returns-in-Some-clause-front c).In-Some

pub returns-in-Some-clause-due : goal.returns-in-Some-clause-due
returns-in-Some-clause-due c =
    let f = c.args.self.now.flight in
    at-first (is_some (expiring c.args.now f.queue)) (is_begun_due c.args.now f) (front (goal.at.returns-in-Some-clause-due c).In-Some)

pub returns-in_default-2-clause-released : goal.returns-in_default-2-clause-released
returns-in_default-2-clause-released c =
    let same = c.in_ok-gone.ensures.none c.in_default-2.is ∙ c.in_default.ensures.none.1 in
    let bytes = ap (λ (t : Transmission). total_bytes t.flight.queue) c.start.ensures ∙ started-bytes c.args.now c.drop_begun.new.self.flight.queue
    ∙ ap (λ (t : Transmission). total_bytes t.flight.queue) same in
    omega (arith, bytes)
