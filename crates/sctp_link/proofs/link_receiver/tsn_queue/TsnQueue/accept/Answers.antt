use Rattle.std.proofs.Common.{◌≡◌, ap, arith}
use Rattle.std.proofs.lemmas.Bool.{ne_eqb}
use Rattle.sctp_outbound.specs.payload_queue.PayloadQueue.{push_chunk}
use Rattle.sctp_receiver.specs.TsnFilter.{placeholder}
use Rattle.sctp_link.specs.Tsns.{Kept}
use Rattle.sctp_link.proofs.tsns.QueueCalls.{after-next, put-window, put-new, after-put, few-bytes, put-in, put-places}
use Rattle.sctp_link.proofs.link_receiver.tsn_queue.TsnQueue.accept.Goals.{In_ok-push}
use Rattle.sctp_link.proofs.link_receiver.tsn_queue.TsnQueue.accept.Goals as goal

pub invariant_of-self : goal.invariant_of-self
invariant_of-self c =
    let i = c.self.invariant in
    let a = after-next c.self.inside.cumulative_tsn c.self.inside.queue c.advance-self-inside.new.queue c.advance-self-inside.result c.args.self.now.filter
    (ap (λ (k : Kept). k.filter) c.self.view_is) i.in_range i.placeholders i.rise c.args.tsn c.if-tsn-self.true c.advance-self-inside.ensures.moved
    c.advance-self-inside.ensures.rest in
    record { in_range = a.0.small; placeholders = c.advance-self-inside.ensures.placeholders i.placeholders; rise = a.0.rise }

pub returns-then-tsn-self-clause-ok : goal.returns-then-tsn-self-clause-ok
returns-then-tsn-self-clause-ok c =
    let i = c.self.invariant in
    (after-next c.self.inside.cumulative_tsn c.self.inside.queue c.advance-self-inside.new.queue c.advance-self-inside.result c.args.self.now.filter
    (ap (λ (k : Kept). k.filter) c.self.view_is) i.in_range i.placeholders i.rise c.args.tsn c.if-tsn-self.true c.advance-self-inside.ensures.moved
    c.advance-self-inside.ensures.rest).1

pub returns-then-tsn-self-clause-places : goal.returns-then-tsn-self-clause-places
returns-then-tsn-self-clause-places c = omega (arith, ap (λ (k : Kept). k.places) c.self.view_is, c.advance-self-inside.ensures.places)

pub push-requires-clause-window : goal.push-requires-clause-window
push-requires-clause-window c =
    let i = c.self.invariant in
    rw (c.placeholder.ensures) (λ new. put-window c.self.inside.cumulative_tsn c.args.tsn c.self.inside.queue c.self.inside.queue c.args.self.now.filter
    (ap (λ (k : Kept). k.filter) c.self.view_is) i.in_range c.ranges.tsn.fits i.placeholders i.rise c.requires.new c.requires.near
    (ne_eqb _ _ c.if-tsn-self.false))

pub push-requires-clause-bytes : goal.push-requires-clause-bytes
push-requires-clause-bytes c = rw (c.placeholder.ensures) (λ new. few-bytes c.self.inside.queue.chunks c.self.invariant.placeholders)

is-pushed : (c : In_ok-push) → c.push.new.self ≡ push_chunk c.self.inside.queue (placeholder c.args.tsn)
is-pushed c =
    let i = c.self.invariant in
    let is = rw (c.placeholder.ensures) at c.in_ok-push.ensures.ok in
    let answer = rw (c.placeholder.ensures) at c.in_ok-push.ensures.answer in
    put-in c.self.inside.queue c.push.new.self (placeholder c.args.tsn) c.in_ok-push.field-0 _ answer is
    (put-new c.self.inside.cumulative_tsn c.args.tsn c.self.inside.queue c.self.inside.queue c.args.self.now.filter
    (ap (λ (k : Kept). k.filter) c.self.view_is) i.in_range c.ranges.tsn.fits i.placeholders i.rise c.requires.new c.requires.near
    (ne_eqb _ _ c.if-tsn-self.false))

pub invariant_of-self-2 : goal.invariant_of-self-2
invariant_of-self-2 c =
    let i = c.self.invariant in
    let a = after-put c.self.inside.cumulative_tsn c.args.tsn c.self.inside.queue c.push.new.self c.args.self.now.filter
    (ap (λ (k : Kept). k.filter) c.self.view_is) i.in_range c.ranges.tsn.fits i.placeholders i.rise c.requires.new c.requires.near
    (ne_eqb _ _ c.if-tsn-self.false) (is-pushed c) in
    record { in_range = i.in_range; placeholders = a.as-placeholders; rise = a.rises }

pub returns-clause-ok : goal.returns-clause-ok
returns-clause-ok c =
    let i = c.self.invariant in
    (after-put c.self.inside.cumulative_tsn c.args.tsn c.self.inside.queue c.push.new.self c.args.self.now.filter
    (ap (λ (k : Kept). k.filter) c.self.view_is) i.in_range c.ranges.tsn.fits i.placeholders i.rise c.requires.new c.requires.near
    (ne_eqb _ _ c.if-tsn-self.false) (is-pushed c)).is

pub returns-clause-places : goal.returns-clause-places
returns-clause-places c =
    omega (
      arith,
      ap (λ (k : Kept). k.places) c.self.view_is,
      put-places c.self.inside.queue c.push.new.self (placeholder c.args.tsn) (is-pushed c),
    )
