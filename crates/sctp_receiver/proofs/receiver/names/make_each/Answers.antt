use Rattle.sctp_receiver.proofs.Names.{rules, ◌+◌, ◌<◌, length, length-set, drop, drop-cons, get_or, add-one, refl, ap, ap₂, sym, subst, ◌∙◌, None, Some, arith}
use Rattle.sctp_receiver.proofs.Names.{slice_index_or, ChunkForwardTsnStream, number, numbers_of, new_stream, each_made, noted_made, AreNamed, inside}
use Rattle.sctp_receiver.proofs.Names.{map-set_same}
use Rattle.std.proofs.lemmas.List.{at_drop_all}
use Rattle.sctp_receiver.proofs.NotedNames.{made-now, made-number, taken-named, other-named, none-made, none-named, pending, pending-less, pending-named}
use Rattle.sctp_receiver.proofs.receiver.names.make_each.Goals as goal

pub make_at-cost-requires-clause-place : goal.make_at-cost-requires-clause-place
make_at-cost-requires-clause-place c =
    inside number c.loop-place.streams.items c.args.numbers.now c.loop-place.invariant.numbers _ c.in-Some.there c.in-Some.ensures.1.1

pub loop-place-preserved : goal.loop-place-preserved
loop-place-preserved c =
    let names = c.args.names.now in
    let k = c.loop-place.place in
    let inv = c.loop-place.invariant in
    let numbers = c.args.numbers.now in
    let ns = c.loop-place.noted.items in
    let ls = c.loop-place.streams.items in
    let lt : k < length names = search rules in
    let none : ChunkForwardTsnStream = record { identifier = 0; sequence = 0 } in
    let n = get_or names k none in
    let p = c.in-Some.there in
    let taken = c.in-Some.ensures in
    let b : p < length ls = inside number ls numbers inv.numbers n.identifier p taken.1.1 in
    let d = new_stream 0 0 in
    let x = slice_index_or ls p d in
    let y = noted_made (Some c.in-Some.made) x in
    let here = c.make_at-cost.ensures in
    let named = subst (λ xs. AreNamed xs ns numbers) (drop-cons names k none lt) inv.named in
    record {
      so_far = ap₂ each_made taken.0 (here.value d) ∙ made-now ns ls p (Some c.in-Some.made) d taken.1.0 b ∙ inv.so_far;
      same = ap length taken.0 ∙ length-set ns p None ∙ inv.same;
      numbers = inv.numbers ∙ sym (ap numbers_of (here.value d) ∙ map-set_same number ls p y d (made-number (Some c.in-Some.made) x));
      named = subst (λ xs. AreNamed (drop (k + 1) names) xs numbers) (sym taken.0) (rw add-one (taken-named n _ ns numbers p named taken.1.1));
      cost = here.cost;
      listing = here.listing;
      not_back = omega (arith, inv.not_back, here.not_back, c.tick.ensures);
      walk = omega (arith, inv.walk, here.walk d, c.tick.ensures, pending-less ns ls p c.in-Some.made y d taken.1.0 b, ap₂ pending taken.0 (here.value d));
    }

pub loop-place-preserved-in_default : goal.loop-place-preserved-in_default
loop-place-preserved-in_default c =
    let names = c.args.names.now in
    let k = c.loop-place.place in
    let inv = c.loop-place.invariant in
    let numbers = c.args.numbers.now in
    let ns = c.loop-place.noted.items in
    let ls = c.loop-place.streams.items in
    let lt : k < length names = search rules in
    let none : ChunkForwardTsnStream = record { identifier = 0; sequence = 0 } in
    let taken = c.in_default.ensures in
    let named = subst (λ xs. AreNamed xs ns numbers) (drop-cons names k none lt) inv.named in
    record {
      so_far = ap (λ xs. each_made xs ls) taken.0 ∙ inv.so_far;
      same = ap length taken.0 ∙ inv.same;
      numbers = inv.numbers;
      named = subst (λ xs. AreNamed (drop (k + 1) names) xs numbers) (sym taken.0) (rw add-one (other-named (get_or names k none) _ ns numbers named taken.1));
      cost = inv.cost;
      listing = inv.listing;
      not_back = omega (arith, inv.not_back, c.tick.ensures);
      walk = omega (arith, inv.walk, c.tick.ensures, ap (λ xs. pending xs ls) taken.0);
    }

pub loop-place-init : goal.loop-place-init
loop-place-init c = record {
  so_far = refl;
  same = refl;
  numbers = c.requires.numbers;
  named = c.requires.named;
  cost = c.requires.cost;
  listing = c.requires.listing;
  not_back = omega arith;
  walk = omega arith;
}

pub returns-clause-none : goal.returns-clause-none
returns-clause-none c =
    let ns = c.loop-place.noted.items in
    let numbers = c.args.numbers.now in
    none-named ns numbers
    (subst (λ xs. AreNamed xs ns numbers) (at_drop_all (λ xs. xs) c.args.names.now c.loop-place.place (omega arith)) c.loop-place.invariant.named)

pub returns-clause-value : goal.returns-clause-value
returns-clause-value c = sym (none-made c.loop-place.noted.items c.loop-place.streams.items (returns-clause-none c)) ∙ c.loop-place.invariant.so_far

pub returns-clause-walk : goal.returns-clause-walk
returns-clause-walk c =
    let names = c.args.names.now in
    let ns = c.args.noted.now.items in
    let h = pending-named names ns c.args.streams.now.items (subst (AreNamed names ns) c.requires.numbers c.requires.named) in
    omega (arith, h, c.loop-place.invariant.walk)
