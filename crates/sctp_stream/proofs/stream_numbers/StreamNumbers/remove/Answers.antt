use Rattle.std.proofs.Common.{◌≡◌, ◌<◌, length, Some, ◌∙◌, arith, rules}
use Rattle.std.specs.Prelude.{slice_get}
use Rattle.std.proofs.lemmas.List.{length-set}
use Rattle.std.proofs.lemmas.Option.{slice_get_within, slice_get_read}
use Rattle.sctp_stream.specs.Numbers.{IsOnlyPlace}
use Rattle.sctp_stream.proofs.NumberPlaces.{no-more}
use Rattle.sctp_stream.proofs.Removals.{absent-number, number-out, placed-front, placed-moved, entry-inside}
use Rattle.sctp_stream.proofs.stream_numbers.StreamNumbers.remove.Goals as goal

pub returns-in_default : goal.returns-in_default
returns-in_default c = absent-number c.args.self.now c.args.stream c.in_default.ensures

pub swap_remove-requires : goal.swap_remove-requires
swap_remove-requires c =
    let ns = c.self.inside.numbers.items in
    let place : IsOnlyPlace c.args.stream ns c.in-Some.place = rw c.self.view_is c.in-Some.ensures in
    let lt : c.in-Some.place < length ns = slice_get_within ns c.in-Some.place c.args.stream place.here in
    search rules

pub overflow_cast-place : goal.overflow_cast-place
overflow_cast-place c =
    let most = no-more c.self.inside.places.items c.self.inside.numbers.items c.self.invariant.placed in
    omega (arith, most, c.self.invariant.short, c.if-place-len.true, c.len.ensures, c.swap_remove.ensures.len)

pub index_mut-requires : goal.index_mut-requires
index_mut-requires c =
    let ns = c.self.inside.numbers.items in
    let new = c.swap_remove.new.self.items in
    let p = c.in-Some.place in
    let place : IsOnlyPlace c.args.stream ns p = rw c.self.view_is c.in-Some.ensures in
    let end : c.len.result ≡ length new = search rules in
    let here : slice_get new p ≡ Some c.index.result.now = slice_get_read new c.len.result p c.index.result.now end c.if-place-len.true c.index.ensures in
    let lt = entry-inside c.self.inside.places.items ns new p c.swap_remove.result c.self.invariant.placed
    (slice_get_within ns p c.args.stream place.here) c.swap_remove.ensures.items c.index.result.now here in
    search rules

pub invariant_of-self : goal.invariant_of-self
invariant_of-self c =
    let ns = c.self.inside.numbers.items in
    let new = c.swap_remove.new.self.items in
    let p = c.in-Some.place in
    let place : IsOnlyPlace c.args.stream ns p = rw c.self.view_is c.in-Some.ensures in
    let end : c.len.result ≡ length new = search rules in
    let here : slice_get new p ≡ Some c.index.result.now = slice_get_read new c.len.result p c.index.result.now end c.if-place-len.true c.index.ensures in
    record {
      placed = placed-moved c.self.inside.places.items ns new p c.swap_remove.result c.self.invariant.placed
          (slice_get_within ns p c.args.stream place.here) c.swap_remove.ensures.items c.index.result.now here;
      short = omega (arith, c.self.invariant.short, length-set c.self.inside.places.items c.index.result.now p);
    }

pub invariant_of-self-else-place-len : goal.invariant_of-self-else-place-len
invariant_of-self-else-place-len c =
    let ns = c.self.inside.numbers.items in
    let new = c.swap_remove.new.self.items in
    let p = c.in-Some.place in
    let place : IsOnlyPlace c.args.stream ns p = rw c.self.view_is c.in-Some.ensures in
    let end : c.len.result ≡ length new = search rules in
    record {
      placed = placed-front c.self.inside.places.items ns new p c.swap_remove.result c.self.invariant.placed
          (slice_get_within ns p c.args.stream place.here) c.swap_remove.ensures.items (omega (arith, c.if-place-len.false, end));
      short = c.self.invariant.short;
    }

pub returns-then-place-len : goal.returns-then-place-len
returns-then-place-len c =
    let place : IsOnlyPlace c.args.stream c.self.inside.numbers.items c.in-Some.place = rw c.self.view_is c.in-Some.ensures in
    rw (← c.self.view_is) (c.swap_remove.ensures.items ∙ number-out c.self.inside.numbers.items c.args.stream c.in-Some.place c.swap_remove.result place)

pub returns-else-place-len : goal.returns-else-place-len
returns-else-place-len c =
    let place : IsOnlyPlace c.args.stream c.self.inside.numbers.items c.in-Some.place = rw c.self.view_is c.in-Some.ensures in
    rw (← c.self.view_is) (c.swap_remove.ensures.items ∙ number-out c.self.inside.numbers.items c.args.stream c.in-Some.place c.swap_remove.result place)
