use Rattle.sctp_sender.proofs.Names.{◌≡◌, ℕ, ◌-◌, ◌/◌, ◌<◌, ◌≤◌, ◌%◌, ◌+◌, ◌^◌, Some, inl, inr, length, refl, ap, sym, ◌∙◌, arith, cases_lt, false≢true}
use Rattle.sctp_sender.proofs.Names.{none-some, distance, Flight, IsLastEnd, ahead, advanced_ack_point}
use Rattle.sctp_sender.proofs.Ends.{all-long, all-there, farther, is-end-at, later-long, none-fit, nowhere, short-of, somewhere}
use Rattle.sctp_sender.proofs.Points.{point-within}
use Rattle.sctp_sender.proofs.Runs.{any_chunk}
use Rattle.sctp_sender.proofs.Skips.{far, names, past}
use Rattle.sctp_sender.proofs.Seen.{flight_in}
use Rattle.sctp_sender.proofs.sender.flight.InFlight.forward_tsn_within.Goals.{After-distance-far, After-up_to_end-most, In_ok-count}
use Rattle.sctp_sender.proofs.sender.flight.InFlight.forward_tsn_within.Goals as goal

-- How far the advanced point is.
record Points (f : Flight) (far : ℕ) : Type 0 where
  point : far ≡ ahead f (advanced_ack_point f)
  near : far ≤ length f.queue.inflight.chunks

points : (c : After-distance-far) → Points (flight_in c.self.inside) c.distance-far.result
points c =
    let f : Flight = flight_in c.self.inside in
    let point : c.distance-far.result ≡ ahead f (advanced_ack_point f)
    = c.distance-far.ensures.value ∙ ap (distance f.acked_tsn) (rw (← c.self.view_is) at c.advanced_ack_point.ensures) in
    record {
      point = point;
      near = omega (arith, point, point-within f c.self.invariant.contiguous);
    }

-- Up to there the last end is found.
last : (c : After-up_to_end-most) → IsLastEnd c.up_to_end-most.result c.distance-far.result (flight_in c.self.inside).queue.inflight.chunks
last c = c.up_to_end-most.ensures

-- How far it goes.
record Goes (f : Flight) (count : ℕ) : Type 0 where
  near : count ≤ ahead f (advanced_ack_point f)
  within : count ≤ length f.queue.inflight.chunks
  few : count < 2 ^ 31

goes : (c : In_ok-count) → Goes (flight_in c.self.inside) c.in_ok-count.count
goes c =
    let f : Flight = flight_in c.self.inside in
    let point : c.distance-far.result ≡ ahead f (advanced_ack_point f)
    = c.distance-far.ensures.value ∙ ap (distance f.acked_tsn) (rw (← c.self.view_is) at c.advanced_ack_point.ensures) in
    let near = point-within f c.self.invariant.contiguous in
    let h = c.up_to_end-most.ensures in
    record {
      near = omega (arith, point, h.within, c.in_ok-count.ensures.count);
      within = omega (arith, point, near, h.within, c.in_ok-count.ensures.count);
      few = omega (arith, point, near, h.within, c.self.invariant.contiguous.few, c.in_ok-count.ensures.count);
    }

pub returns-then-bytes-lt8-clause-none : goal.returns-then-bytes-lt8-clause-none
returns-then-bytes-lt8-clause-none c =
    let f : Flight = flight_in c.self.inside in
    rw (← c.self.view_is) (λ _. short-of f c.self.invariant.contiguous c.args.bytes c.if-bytes-lt8.true)

pub returns-then-bytes-lt8-clause-whole : goal.returns-then-bytes-lt8-clause-whole
returns-then-bytes-lt8-clause-whole c =
    let f : Flight = flight_in c.self.inside in
    let t = points (goal.at.returns-then-bytes-lt8-clause-whole c).After-distance-far in
    rw (← c.self.view_is) (λ fit. absurd (none-fit f c.distance-far.result c.args.bytes t.point t.near c.if-bytes-lt8.true fit))

pub up_to_end-most-requires : goal.up_to_end-most-requires
up_to_end-most-requires c = (points (goal.at.up_to_end-most-requires c).After-distance-far).near

pub pairs_to_end-requires : goal.pairs_to_end-requires
pairs_to_end-requires c =
    let t = points (goal.at.pairs_to_end-requires c).After-distance-far in
    let h = last (goal.at.pairs_to_end-requires c).After-up_to_end-most in
    omega (arith, t.near, h.within)

pub returns-then-count-eq0-clause-none : goal.returns-then-count-eq0-clause-none
returns-then-count-eq0-clause-none c =
    let f : Flight = flight_in c.self.inside in
    let t = points (goal.at.returns-then-count-eq0-clause-none c).After-distance-far in
    let h = last (goal.at.returns-then-count-eq0-clause-none c).After-up_to_end-most in
    let more = farther f c.self.invariant.contiguous c.distance-far.result c.up_to_end-most.result t.point t.near h c.args.bytes ((c.args.bytes - 8) / 4)
    c.in_ok-count.count c.if-bytes-lt8.false refl c.in_ok-count.ensures.furthest in
    rw (← c.self.view_is) (λ _. all-long f c.self.invariant.contiguous c.args.bytes ((c.args.bytes - 8) / 4) c.in_ok-count.count c.distance-far.result
    c.if-bytes-lt8.false refl t.point c.if-count-eq0.true (later-long f c.self.invariant.contiguous c.args.bytes
    ((c.args.bytes - 8) / 4) c.in_ok-count.count c.distance-far.result c.if-bytes-lt8.false refl t.point more))

pub returns-then-count-eq0-clause-whole : goal.returns-then-count-eq0-clause-whole
returns-then-count-eq0-clause-whole c =
    let f : Flight = flight_in c.self.inside in
    let t = points (goal.at.returns-then-count-eq0-clause-whole c).After-distance-far in
    let h = last (goal.at.returns-then-count-eq0-clause-whole c).After-up_to_end-most in
    rw (← c.self.view_is) (λ fit. nowhere f c.self.invariant.contiguous c.distance-far.result c.up_to_end-most.result t.point t.near h
    (sym (all-there f c.self.invariant.contiguous c.distance-far.result c.up_to_end-most.result t.point t.near h c.args.bytes ((c.args.bytes - 8) / 4)
    c.in_ok-count.count c.if-bytes-lt8.false refl c.in_ok-count.ensures.furthest fit c.in_ok-count.ensures.count) ∙ c.if-count-eq0.true))

pub returns-clause-whole : goal.returns-clause-whole
returns-clause-whole c =
    let f : Flight = flight_in c.self.inside in
    let t = points (goal.at.returns-clause-whole c).After-distance-far in
    let h = last (goal.at.returns-clause-whole c).After-up_to_end-most in
    rw (← c.self.view_is) (λ fit.
    let same = all-there f c.self.invariant.contiguous c.distance-far.result c.up_to_end-most.result t.point t.near h c.args.bytes ((c.args.bytes - 8) / 4)
    c.in_ok-count.count c.if-bytes-lt8.false refl c.in_ok-count.ensures.furthest fit c.in_ok-count.ensures.count in
    ap (λ n. Some ((f.acked_tsn + n) % 2 ^ 32)) same
    ∙ somewhere f c.self.invariant.contiguous c.distance-far.result c.up_to_end-most.result t.point t.near h (omega (arith, same, c.if-count-eq0.false)))

pub returns-clause-past : goal.returns-clause-past
returns-clause-past c =
    let f : Flight = flight_in c.self.inside in
    let t = goes (goal.at.returns-clause-past c).In_ok-count in
    rw (← c.self.view_is)
    (past f c.self.invariant.contiguous.in_range c.in_ok-count.count t.few t.near
    (omega (arith, c.if-count-eq0.false)))

pub returns-clause-ended : goal.returns-clause-ended
returns-clause-ended c =
    let f : Flight = flight_in c.self.inside in
    let t = goes (goal.at.returns-clause-ended c).In_ok-count in
    let some : 0 < c.in_ok-count.count = omega (arith, c.if-count-eq0.false) in
    let can = past f c.self.invariant.contiguous.in_range c.in_ok-count.count t.few t.near some in
    rw (← c.self.view_is)
    (is-end-at f c.self.invariant.contiguous c.in_ok-count.count any_chunk can some t.within
    (c.in_ok-count.ensures.ended some any_chunk))

pub returns-clause-names : goal.returns-clause-names
returns-clause-names c =
    let f : Flight = flight_in c.self.inside in
    let t = goes (goal.at.returns-clause-names c).In_ok-count in
    rw (← c.self.view_is) (names f c.self.invariant.contiguous.in_range c.in_ok-count.count t.few c.in_ok-count.streams.items c.in_ok-count.ensures.names)

pub returns-clause-furthest : goal.returns-clause-furthest
returns-clause-furthest c =
    let f : Flight = flight_in c.self.inside in
    let t = points (goal.at.returns-clause-furthest c).After-distance-far in
    let h = last (goal.at.returns-clause-furthest c).After-up_to_end-most in
    let g = goes (goal.at.returns-clause-furthest c).In_ok-count in
    let there = far f c.self.invariant.contiguous.in_range c.in_ok-count.count g.few in
    let more = farther f c.self.invariant.contiguous c.distance-far.result c.up_to_end-most.result t.point t.near h c.args.bytes ((c.args.bytes - 8) / 4)
    c.in_ok-count.count c.if-bytes-lt8.false refl c.in_ok-count.ensures.furthest in
    rw (← c.self.view_is, there) (later-long f c.self.invariant.contiguous c.args.bytes
    ((c.args.bytes - 8) / 4) c.in_ok-count.count c.distance-far.result c.if-bytes-lt8.false refl t.point more)

pub returns-in_err-count-clause-idle : goal.returns-in_err-count-clause-idle
returns-in_err-count-clause-idle c =
    let t = points (goal.at.returns-in_err-count-clause-idle c).After-distance-far in
    let h = last (goal.at.returns-in_err-count-clause-idle c).After-up_to_end-most in
    rw (← c.self.view_is) (λ none. absurd (false≢true (c.in_err-count.ensures.idle (omega (arith, none, t.point, h.within)))))

pub returns-in_err-count-clause-no_end : goal.returns-in_err-count-clause-no_end
returns-in_err-count-clause-no_end c =
    let f : Flight = flight_in c.self.inside in
    let t = points (goal.at.returns-in_err-count-clause-no_end c).After-distance-far in
    let h = last (goal.at.returns-in_err-count-clause-no_end c).After-up_to_end-most in
    rw (← c.self.view_is) (λ none. elim (cases_lt 0 c.up_to_end-most.result) [
      | inl some ↦
          absurd (none-some _ (sym none ∙ sym (somewhere f c.self.invariant.contiguous c.distance-far.result c.up_to_end-most.result t.point t.near h some)))
      | inr zero ↦ absurd (false≢true (c.in_err-count.ensures.idle (omega (arith, zero))))
    ])
