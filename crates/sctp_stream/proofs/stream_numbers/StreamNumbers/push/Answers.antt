use Rattle.std.proofs.Common.{◌≡◌, ◌++◌, ◌∷◌, [], ◌∙◌, ◌<◌, ap, sym, subst, length, arith, rules}
use Rattle.std.specs.Prelude.{slice_get, slice_set}
use Rattle.std.proofs.lemmas.List.{length-set}
use Rattle.sctp_stream.specs.Numbers.{IsAbsent, IsPlaced}
use Rattle.sctp_stream.proofs.NumberPlaces.{fewer, more}
use Rattle.sctp_stream.proofs.stream_numbers.StreamNumbers.push.Goals as goal

pub invariant_of-self-in_err-lengthen : goal.invariant_of-self-in_err-lengthen
invariant_of-self-in_err-lengthen c = record {
  placed = λ s k e. c.lengthen.ensures.kept s k (c.self.invariant.placed s k (ap (λ ns. slice_get ns k) (sym c.reserve.ensures.items) ∙ e));
  short = c.lengthen.ensures.short;
}

pub overflow_cast-place : goal.overflow_cast-place
overflow_cast-place c =
    let ns = c.self.inside.numbers.items in
    let absent : IsAbsent c.args.stream ns = rw (← c.self.view_is) at c.requires in
    let lt : length ns < 65536 = fewer c.self.inside.places.items ns c.self.invariant.placed c.args.stream absent 65536 c.self.invariant.short (search rules) in
    let count : c.len-place.result ≡ length ns = search rules in
    search rules

pub invariant_of-self-2 : goal.invariant_of-self-2
invariant_of-self-2 c =
    let ns = c.self.inside.numbers.items in
    let places = c.lengthen.new.places.items in
    let absent : IsAbsent c.args.stream ns = rw (← c.self.view_is) at c.requires in
    let count : length ns ≡ c.len-place.result = search rules in
    let kept : IsPlaced places ns = λ s k e. c.lengthen.ensures.kept s k (c.self.invariant.placed s k e) in
    let now : ns ++ c.args.stream ∷ [] ≡ c.put.new.items.items
    = ap (λ ls. ls ++ c.args.stream ∷ []) (sym c.reserve.ensures.items) ∙ sym c.put.ensures.items in
    record {
      placed = subst (IsPlaced (slice_set places c.args.stream c.len-place.result)) now
          (subst (λ k. IsPlaced (slice_set places c.args.stream k) (ns ++ c.args.stream ∷ [])) count
          (more places ns kept c.args.stream absent (search rules)));
      short = omega (arith, c.lengthen.ensures.short, length-set places c.args.stream c.len-place.result);
    }
