use Rattle.sctp_receiver.proofs.Names.{◌≡◌, ◌<◌, length, Some, inl, inr, ap, sym, ◌∙◌, arith, slice_get, slice_get_within, by_same, after_noted}
use Rattle.sctp_receiver.proofs.Names.{after_ordered_skip, number, ssn_forwarded, each_made}
use Rattle.sctp_receiver.proofs.NotedNames.{made-numbers, noted-name}
use Rattle.sctp_receiver.proofs.VisitOrders.{read-at, set-there}
use Rattle.sctp_stream.proofs.StreamPlaces.{absent-change}
use Rattle.sctp_receiver.proofs.receiver.names.note.Goals as goal

pub returns-in_default-clause-value : goal.returns-in_default-clause-value
returns-in_default-clause-value c =
    let ns = c.args.noted.now.items in
    let ls = c.args.streams.now in
    absent-change number (each_made ns ls) c.args.numbers.now (c.requires.numbers
    ∙ sym (made-numbers ns ls)) c.args.stream (ssn_forwarded c.args.ssn) c.in_default.ensures

pub returns-clause-value : goal.returns-clause-value
returns-clause-value c =
    let ns = c.args.noted.now.items in
    let ls = c.args.streams.now in
    let k = c.in-Some.place in
    let m = c.index-before.result.now in
    let x = c.index-streams-place.result in
    let n = c.note_ordered_skip.result in
    let lt : k < length ns = omega (arith, slice_get_within c.args.numbers.now k c.args.stream c.in-Some.ensures.here, c.requires.places) in
    let e1 = c.index-streams-place.is in
    let e2 = c.index-before.ensures in
    let e3 = c.note_ordered_skip.ensures in
    let next : after_noted (Some n) x.queue ≡ after_ordered_skip c.args.ssn (after_noted m x.queue) = cc in
    noted-name ns ls c.args.numbers.now c.requires.numbers c.args.stream c.args.ssn k c.in-Some.ensures m n x lt (read-at ns k m lt e2) e1 next

pub returns-clause-named : goal.returns-clause-named
returns-clause-named c = λ p skips e. by_same p c.in-Some.place
    (λ z. inl (ap (slice_get c.args.numbers.now) z ∙ c.in-Some.ensures.here))
    (λ ne t. inr (sym (set-there c.args.noted.now.items c.in-Some.place p _ ne) ∙ e))
