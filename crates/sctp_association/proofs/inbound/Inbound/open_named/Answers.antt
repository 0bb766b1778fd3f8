use Rattle.sctp_association.proofs.Noting.{tells_after, tells_same}
use Rattle.std.proofs.Common.{◌<◌, ◌≤◌, length, refl, rules, subst, take, ◌∙◌}
use Rattle.std.proofs.lemmas.List.{take_all}
use Rattle.std.proofs.lemmas.List.Elements.{All-more, All-nil, All-weaker}
use Rattle.std.specs.Prelude.{All}
use Rattle.sctp_association.proofs.Arriving.{received_same, received_then}
use Rattle.sctp_association.proofs.Brought.{notes_none, notes_then}
use Rattle.sctp_association.proofs.inbound.Inbound.open_named.Goals as goal
use Rattle.sctp_association.proofs.Named.{named_at, named_opened, served_still}
use Rattle.sctp_association.specs.Served.{IsServed}
use Rattle.sctp_data.specs.ForwardTsn.{forward_tsn_of}

pub returns-then-not-sna32lt-clause-received : goal.returns-then-not-sna32lt-clause-received
returns-then-not-sna32lt-clause-received c = received_same _ _ _ refl

pub loop-named-init : goal.loop-named-init
loop-named-init c =
    record {
      tells = tells_same _ _;
      received = received_same _ _ _ refl;
      limits = refl;
      streams = refl;
      same = λ n. refl;
      place = refl;
      acks = refl;
      unknown = refl;
      served = All-nil _;
      notes = notes_none _ _ _ _ refl;
    }

pub returns-in_err-open-clause-received : goal.returns-in_err-open-clause-received
returns-in_err-open-clause-received c =
    let xs = c.deref-named-items.result.now in
    let at = c.loop-named.named-index in
    let lt : at < length xs = search rules in
    let f = forward_tsn_of c.args.skip.now in
    received_then _ _ _ _ c.loop-named.invariant.received
    (named_opened f _ (named_at f xs at _ c.deref-named-items.ensures.value lt) _ _ c.in_err-open.ensures.received)

pub returns-in_err-open-clause-limits : goal.returns-in_err-open-clause-limits
returns-in_err-open-clause-limits c =
    let i = c.loop-named.invariant in
    let e = c.in_err-open.ensures.limits in
    (e.0 ∙ i.limits, e.1 ∙ i.streams)

pub returns-in_err-open-clause-place : goal.returns-in_err-open-clause-place
returns-in_err-open-clause-place c = c.in_err-open.ensures.place ∙ c.loop-named.invariant.place

pub returns-in_err-open-clause-same : goal.returns-in_err-open-clause-same
returns-in_err-open-clause-same c = λ n. c.in_err-open.ensures.same n ∙ c.loop-named.invariant.same n

pub loop-named-preserved : goal.loop-named-preserved
loop-named-preserved c =
    let xs = c.deref-named-items.result.now in
    let at = c.loop-named.named-index in
    let lt : at < length xs = search rules in
    let f = forward_tsn_of c.args.skip.now in
    let i = c.loop-named.invariant in
    let e = c.in_ok-open.ensures in
    record {
      tells = tells_after _ _ _ _ _ _ i.tells e.tells;
      notes = notes_then _ _ _ _ _ i.notes e.notes;
      received = received_then _ _ _ _ i.received (named_opened f _ (named_at f xs at _ c.deref-named-items.ensures.value lt) _ _ e.received);
      limits = e.limits.0 ∙ i.limits;
      streams = e.limits.1 ∙ i.streams;
      same = λ n. e.same n ∙ i.same n;
      place = e.place ∙ i.place;
      acks = e.acks ∙ i.acks;
      unknown = e.unknown ∙ i.unknown;
      served = All-more (λ n. IsServed n.identifier c.open.new.self) xs at _ lt
          (All-weaker (λ n. IsServed n.identifier c.loop-named.self) (λ n. IsServed n.identifier c.open.new.self)
          (λ n. served_still c.loop-named.self c.open.new.self e.limits.1 e.same e.still n.identifier) (take at xs) i.served)
          (e.served refl);
    }

pub returns-clause-received : goal.returns-clause-received
returns-clause-received c = c.loop-named.invariant.received

pub returns-clause-limits : goal.returns-clause-limits
returns-clause-limits c = (c.loop-named.invariant.limits, c.loop-named.invariant.streams)

pub returns-clause-place : goal.returns-clause-place
returns-clause-place c = c.loop-named.invariant.place

pub returns-in_err-open-clause-acks : goal.returns-in_err-open-clause-acks
returns-in_err-open-clause-acks c = c.in_err-open.ensures.acks ∙ c.loop-named.invariant.acks

pub returns-clause-acks : goal.returns-clause-acks
returns-clause-acks c = c.loop-named.invariant.acks

pub returns-clause-same : goal.returns-clause-same
returns-clause-same c = c.loop-named.invariant.same

pub returns-clause-served : goal.returns-clause-served
returns-clause-served c =
    let xs = c.deref-named-items.result.now in
    let at = c.loop-named.named-index in
    let past : length xs ≤ at = search rules in
    λ ok ahead. subst (All (λ n. IsServed n.identifier c.loop-named.self)) (take_all at xs past ∙ c.deref-named-items.ensures.value)
    c.loop-named.invariant.served

pub returns-in_err-open-clause-tells : goal.returns-in_err-open-clause-tells
returns-in_err-open-clause-tells c = tells_after _ _ _ _ _ _ c.loop-named.invariant.tells c.in_err-open.ensures.tells

pub returns-clause-tells : goal.returns-clause-tells
returns-clause-tells c = c.loop-named.invariant.tells

pub returns-then-not-sna32lt-clause-notes : goal.returns-then-not-sna32lt-clause-notes
returns-then-not-sna32lt-clause-notes c = notes_none _ _ _ _ refl

pub returns-in_err-open-clause-notes : goal.returns-in_err-open-clause-notes
returns-in_err-open-clause-notes c = notes_then _ _ _ _ _ c.loop-named.invariant.notes c.in_err-open.ensures.notes

pub returns-clause-notes : goal.returns-clause-notes
returns-clause-notes c = c.loop-named.invariant.notes

pub returns-in_err-open-clause-unknown : goal.returns-in_err-open-clause-unknown
returns-in_err-open-clause-unknown c = c.in_err-open.ensures.unknown ∙ c.loop-named.invariant.unknown

pub returns-clause-unknown : goal.returns-clause-unknown
returns-clause-unknown c = c.loop-named.invariant.unknown
