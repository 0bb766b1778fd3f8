use Rattle.std.proofs.Common.{◌≡◌, ◌∙◌, Some, None, sym, rules}
use Rattle.std.specs.Prelude.{slice_get}
use Rattle.std.proofs.lemmas.Option.{none-some}
use Rattle.sctp_util.proofs.Cases.{some-same}
use Rattle.sctp_stream.proofs.NumberPlaces.{no-entry, astray, only-place}
use Rattle.sctp_stream.proofs.stream_numbers.StreamNumbers.place_of.Goals as goal

pub returns-in_err-place : goal.returns-in_err-place
returns-in_err-place c =
    let none : slice_get c.self.inside.places.items c.args.stream ≡ None = sym c.in_err-place.ensures in
    rw (c.from_residual.ensures) (rw (← c.self.view_is)
    (no-entry c.self.inside.places.items c.self.inside.numbers.items c.self.invariant.placed c.args.stream none))

pub returns-in_err-number : goal.returns-in_err-number
returns-in_err-number c =
    let ns = c.self.inside.numbers.items in
    let p = c.in_ok-place.field-0 in
    let entry : slice_get c.self.inside.places.items c.args.stream ≡ Some p = sym c.in_ok-place.ensures in
    let past : slice_get ns p ≡ None = sym c.in_err-number.ensures in
    rw (c.from_residual-in_err-number.ensures) (rw (← c.self.view_is)
    (astray c.self.inside.places.items ns c.self.invariant.placed c.args.stream p entry (λ e. none-some c.args.stream (sym past ∙ e))))

pub returns-then-number-stream : goal.returns-then-number-stream
returns-then-number-stream c =
    let ns = c.self.inside.numbers.items in
    let p = c.in_ok-place.field-0 in
    let entry : slice_get c.self.inside.places.items c.args.stream ≡ Some p = sym c.in_ok-place.ensures in
    let other : slice_get ns p ≡ Some c.in_ok-number.number = sym c.in_ok-number.ensures in
    rw (← c.self.view_is) (astray c.self.inside.places.items ns c.self.invariant.placed c.args.stream p entry
    (λ e. let same = some-same (sym other ∙ e) in search rules))

pub returns : goal.returns
returns c =
    let ns = c.self.inside.numbers.items in
    let here : slice_get ns c.in_ok-place.field-0 ≡ Some c.args.stream = search rules in
    rw (← c.self.view_is) (only-place c.self.inside.places.items ns c.self.invariant.placed c.args.stream c.in_ok-place.field-0 here)
