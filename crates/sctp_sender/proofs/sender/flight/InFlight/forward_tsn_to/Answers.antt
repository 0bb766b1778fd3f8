use Rattle.sctp_sender.proofs.Names.{◌≡◌, ℕ, ◌≤◌, ◌<◌, ◌^◌, true, length, ap, sym, subst, ◌∙◌, arith, none-some, distance, Flight, IsLastEnd, ahead}
use Rattle.sctp_sender.proofs.Names.{advanced_ack_point, can_skip_to}
use Rattle.sctp_sender.proofs.Ends.{ends-at, none-ends}
use Rattle.sctp_sender.proofs.Points.{point-within}
use Rattle.sctp_sender.proofs.Runs.{any_chunk}
use Rattle.sctp_sender.proofs.Skips.{can-go, names}
use Rattle.sctp_sender.proofs.Seen.{flight_in}
use Rattle.sctp_sender.proofs.sender.flight.InFlight.forward_tsn_to.Goals.{After-up_to_end-count}
use Rattle.sctp_sender.proofs.sender.flight.InFlight.forward_tsn_to.Goals as goal

-- A FORWARD-TSN up to there may be sent, and its last end is found.
record Goes (f : Flight) (tsn end : ℕ) : Type 0 where
  can : can_skip_to tsn f ≡ true
  near : ahead f tsn ≤ length f.queue.inflight.chunks
  last : IsLastEnd end (ahead f tsn) f.queue.inflight.chunks

goes : (c : After-up_to_end-count) → Goes (flight_in c.self.inside) c.args.tsn c.up_to_end-count.result
goes c =
    let f : Flight = flight_in c.self.inside in
    let point : c.distance.result ≡ ahead f (advanced_ack_point f) = c.distance.ensures.value
    ∙ ap (distance f.acked_tsn) (rw (← c.self.view_is) at c.advanced_ack_point.ensures) in
    let far : c.distance-ahead.result ≡ ahead f c.args.tsn = c.distance-ahead.ensures.value in
    record {
      can = can-go f c.args.tsn (omega (arith, far, c.if-ahead-eq0.false)) (omega (arith, far, point, c.if-ahead-distance.false));
      near = omega (arith, far, point, point-within f c.self.invariant.contiguous, c.if-ahead-distance.false);
      last = rw (← far) c.up_to_end-count.ensures;
    }

pub up_to_end-count-requires : goal.up_to_end-count-requires
up_to_end-count-requires c =
    let f : Flight = flight_in c.self.inside in
    let point : c.distance.result ≡ ahead f (advanced_ack_point f) = c.distance.ensures.value
    ∙ ap (distance f.acked_tsn) (rw (← c.self.view_is) at c.advanced_ack_point.ensures) in
    omega (arith, c.if-ahead-distance.false, point, point-within f c.self.invariant.contiguous)

pub returns-then-count-eq0-clause-tsn : goal.returns-then-count-eq0-clause-tsn
returns-then-count-eq0-clause-tsn c =
    let f : Flight = flight_in c.self.inside in
    let t = goes (goal.at.returns-then-count-eq0-clause-tsn c).After-up_to_end-count in
    rw (← c.self.view_is) (none-ends f c.self.invariant.contiguous c.args.tsn t.can t.near any_chunk
    (subst (λ n. IsLastEnd n (ahead f c.args.tsn) f.queue.inflight.chunks) c.if-count-eq0.true t.last))

pub pairs_of-requires : goal.pairs_of-requires
pairs_of-requires c =
    let f : Flight = flight_in c.self.inside in
    let t = goes (goal.at.pairs_of-requires c).After-up_to_end-count in
    omega (arith, t.near, t.last.within)

pub returns-clause-tsn : goal.returns-clause-tsn
returns-clause-tsn c =
    let f : Flight = flight_in c.self.inside in
    let t = goes (goal.at.returns-clause-tsn c).After-up_to_end-count in
    rw (← c.self.view_is)
    (ends-at f c.self.invariant.contiguous c.args.tsn t.can t.near any_chunk c.up_to_end-count.result t.last (omega (arith, c.if-count-eq0.false)))

pub returns-clause-names : goal.returns-clause-names
returns-clause-names c =
    let f : Flight = flight_in c.self.inside in
    let t = goes (goal.at.returns-clause-names c).After-up_to_end-count in
    let few : c.up_to_end-count.result < 2 ^ 31 = omega (arith, t.near, t.last.within, c.self.invariant.contiguous.few) in
    rw (← c.self.view_is) (names f c.self.invariant.contiguous.in_range c.up_to_end-count.result few c.in_ok-streams.streams.items c.in_ok-streams.ensures.ok)

pub returns-in_err-streams-clause-idle : goal.returns-in_err-streams-clause-idle
returns-in_err-streams-clause-idle c =
    let f : Flight = flight_in c.self.inside in
    let t = goes (goal.at.returns-in_err-streams-clause-idle c).After-up_to_end-count in
    rw (← c.self.view_is) (λ none. absurd (none-some _ (sym none
    ∙ sym (ends-at f c.self.invariant.contiguous c.args.tsn t.can t.near any_chunk c.up_to_end-count.result t.last (omega (arith, c.if-count-eq0.false))))))
