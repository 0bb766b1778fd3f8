use Rattle.sctp_sender.proofs.Names.{rules, ◌≡◌, ℕ, List, [], ◌∷◌, ◌++◌, ◌<◌, ◌≤◌, true, false, length, get_or, ap, ◌∙◌, inl, inr, arith, ◌&&◌, ◌||◌, nat_le}
use Rattle.sctp_sender.proofs.Names.{nat_lt, cases_eq, nat_tests, length_push, GapAckBlock, is_in_blocks, ascends_from}
use Rattle.sctp_sender.proofs.Anew.{in-more, one-more-block}
use Rattle.sctp_sender.proofs.sender.flight.order.one_by_one.Goals as goal

pub loop-offset-preserved : goal.loop-offset-preserved
loop-offset-preserved c =
    let i = c.loop-offset.offset in
    let ms = c.args.marks.now in
    let bs = c.loop-offset.blocks.items in
    let b : GapAckBlock = record { start = i; end = i } in
    let put = c.put.ensures.items in
    let inv = c.loop-offset.invariant in
    let pos : 0 < i = c.loop-offset.auto.offset in
    let none : (n : ℕ) → i ≤ n → is_in_blocks bs n ≡ false = λ n le.
    (let late : nat_lt n i ≡ false = grind (arith, nat_tests, le) in inv.same n (omega (arith, le, pos)) ∙ ap (λ k. k && get_or ms n false) late) in
    record {
      ascend = ap (ascends_from 0) put ∙ one-more-block bs 0 i i inv.ascend pos (omega arith) none;
      same = λ n some.
          (let yes : get_or ms i false ≡ true = search rules in
          ap (λ zs. is_in_blocks zs n) put ∙ in-more bs b n ∙ ap (λ k. k || (nat_le i n && nat_le n i)) (inv.same n some)
          ∙ elim (cases_eq n i) [
            | inl same ↦ (let m : get_or ms n false ≡ true = ap (λ k. get_or ms k false) same ∙ yes in grind (arith, nat_tests, same, m))
            | inr other ↦ grind (arith, nat_tests, other)
          ]);
      few = (let n = length_push bs b in let m = ap length put in let few = inv.few in omega (arith, n, m, few));
      top = omega (arith, c.loop-offset-test.true);
      turns = omega (arith, c.tick.ensures, inv.turns);
      room = omega (arith, c.put.ensures.capacity, inv.room);
    }

pub returns-clause-few : goal.returns-clause-few
returns-clause-few c = let inv = c.loop-offset.invariant in let few = inv.few in let top = inv.top in omega (arith, few, top)

pub returns-clause-cost : goal.returns-clause-cost
returns-clause-cost c = let inv = c.loop-offset.invariant in let turns = inv.turns in let top = inv.top in omega (arith, turns, top)
