use Rattle.sctp_link.proofs.Names.{◌≡◌, true, false, refl, ap, sym, ◌∙◌, arith, drop, find, slice_index_or, list_all, place_of, is_in_flight}
use Rattle.sctp_link.proofs.Names.{is_partially_sent, message_of_tsn, each-of, record_in, found-step, found-none, ◌<◌, Bool, length, slot_at, slot_record}
use Rattle.sctp_model.proofs.refinement.sending.FlyingTsn.{place-made}
use Rattle.sctp_link.proofs.upkeep.Observed.{slot-message}
use Rattle.sctp_link.proofs.link.Link.first_partially_sent.Given.{Over}
use Rattle.sctp_link.proofs.link.Link.first_partially_sent.Goals.{After-index, After-is_partially_sent}
use Rattle.sctp_link.proofs.link.Link.first_partially_sent.Goals as goal

-- The slot of the TSN is one of the message in question.
there : (g : Over) (c : After-index g) → (slot_at (record_in c.self.inside) (place_of (record_in c.self.inside) (slice_index_or c.args.tsns.now c.loop-at.at 0))
    ≡ slot_record c.index.result.now) × (c.index.result.now.message < length (record_in c.self.inside).messages)
there g c =
    let w = record_in c.self.inside in
    let t = slice_index_or c.args.tsns.now c.loop-at.at 0 in
    let all : list_all (λ t. is_in_flight w (place_of w t)) c.args.tsns.now ≡ true = rw (← c.self.view_is) at c.requires in
    let high = place-made w t (each-of (λ t. is_in_flight w (place_of w t)) c.args.tsns.now c.loop-at.at 0 all c.loop-at-test.true) in
    slot-message c.self.inside.slots.items (place_of w t) c.index.result.now c.self.invariant.1 refl high c.index.ensures

pub is_partially_sent-requires : goal.is_partially_sent-requires
is_partially_sent-requires g c = rw (← c.self.view_is) (there g (goal.at.is_partially_sent-requires g c).After-index).1

-- Whether its message is partially sent.
step : (g : Over) (c : After-is_partially_sent g) → (b : Bool) → c.is_partially_sent.result ≡ b
    → slot_at (record_in c.self.inside) (place_of (record_in c.self.inside) (slice_index_or c.args.tsns.now c.loop-at.at 0)) ≡ slot_record c.index.result.now
    → is_partially_sent (record_in c.self.inside) (message_of_tsn (record_in c.self.inside) (slice_index_or c.args.tsns.now c.loop-at.at 0)) ≡ b
step g c b e same =
    let w = record_in c.self.inside in
    let answered : c.is_partially_sent.result ≡ is_partially_sent w c.index.result.now.message = rw (← c.self.view_is) at c.is_partially_sent.ensures in
    ap (λ s. is_partially_sent w s.message) same ∙ sym answered ∙ e

pub returns-then-is_partially_sent : goal.returns-then-is_partially_sent
returns-then-is_partially_sent g c =
    let w = record_in c.self.inside in
    let p = goal.at.returns-then-is_partially_sent g c in
    let so-far : find (λ t. is_partially_sent w (message_of_tsn w t)) c.args.tsns.now ≡ find (λ t. is_partially_sent w (message_of_tsn w t))
    (drop c.loop-at.at c.args.tsns.now) = rw (← c.self.view_is) at c.loop-at.invariant in
    rw (← c.self.view_is) (sym (found-step (λ t. is_partially_sent w (message_of_tsn w t)) c.args.tsns.now c.loop-at.at true c.loop-at-test.true
    (step g p.After-is_partially_sent true c.if-is_partially_sent.true (there g p.After-index).0) so-far))

pub loop-at-preserved : goal.loop-at-preserved
loop-at-preserved g c =
    let w = record_in c.self.inside in
    let p = goal.at.loop-at-preserved g c in
    let so-far : find (λ t. is_partially_sent w (message_of_tsn w t)) c.args.tsns.now ≡ find (λ t. is_partially_sent w (message_of_tsn w t))
    (drop c.loop-at.at c.args.tsns.now) = rw (← c.self.view_is) at c.loop-at.invariant in
    rw (← c.self.view_is) (found-step (λ t. is_partially_sent w (message_of_tsn w t)) c.args.tsns.now c.loop-at.at false c.loop-at-test.true
    (step g p.After-is_partially_sent false c.if-is_partially_sent.false (there g p.After-index).0) so-far)

pub returns : goal.returns
returns g c = found-none (λ t. is_partially_sent c.args.self.now.recorded (message_of_tsn c.args.self.now.recorded t)) c.args.tsns.now c.loop-at.at
    (omega (arith, c.loop-at-test.false)) c.loop-at.invariant
