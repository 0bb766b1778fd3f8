use Rattle.sctp_sender.proofs.Names.{length, ◌≡◌, ℕ, suc, ◌+◌, ◌-◌, ◌*◌, ◌≤◌, ◌++◌, Bool, List, [], Option, take, get_or, Some, None, inl, inr, refl, ap, sym}
use Rattle.sctp_sender.proofs.Names.{subst, ◌∙◌, arith, count_by, cases_lt, ChunkPayloadData, GapAckBlock, is_in_blocks, PlacedData, PicksLeftOut, placed}
use Rattle.sctp_sender.proofs.Names.{return_at}
use Rattle.std.specs.Prelude.{false}
use Rattle.sctp_sender.proofs.Counts.{count-in}
use Rattle.sctp_sender.proofs.Placed.{one, placed-end, placed-more, placed-same, placed-some}
use Rattle.sctp_sender.proofs.Tells.{untold-on}
use Rattle.sctp_sender.proofs.Returns.{none-at, none-below, some-at, untold-at}
use Rattle.sctp_sender.proofs.sender.flight.returns.returning.Goals.{After-next_return, In-Some}
use Rattle.sctp_sender.proofs.sender.flight.returns.returning.Goals as goal

pub loop-at-init : goal.loop-at-init
loop-at-init c = record {
  from = omega arith;
  passed = λ n lt. refl;
  reported = λ n lt. refl;
  backs = λ bs is. c.new-backs.ensures.items ∙ sym (placed-same 0 0 c.args.count bs (omega arith)
      (λ k low high. is k ∙ none-below c.args.count c.args.blocks.now c.args.queue.now.inflight.chunks c.args.kept.now.user_data.items k high));
  inside = omega arith;
  within = omega arith;
  not_back = omega arith;
  cost = λ q picks. omega arith;
}

pub loop-at-preserved-in_default : goal.loop-at-preserved-in_default
loop-at-preserved-in_default c =
    let p = c.next_return.new.at.place in
    let i = c.next_return.new.at.listed in
    let j = c.next_return.new.at.block in
    let e = c.next_return.ensures in
    let on = e.on in
    let inv = c.loop-at.invariant in
    let empty : get_or c.args.kept.now.user_data.items p None ≡ None = sym c.in_default.ensures in
    record {
      from = let f = c.loop-at.invariant.from in omega (arith, f, on);
      passed = λ n lt. subst (λ (xs : List GapAckBlock). is_in_blocks (take i xs) n ≡ false) c.deref.ensures.value (e.passed n (omega (arith, lt)));
      reported = λ n lt. e.reported n (omega (arith, lt));
      backs = λ bs is. c.loop-at.invariant.backs bs is ∙ sym (placed-same 0 c.loop-at.at.place (p + 1) bs (omega (arith, on)) (λ k low high.
          is k ∙ elim (cases_lt k p) [
            | inl lt ↦ none-at c.args.count c.args.blocks.now c.args.queue.now.inflight.chunks c.args.kept.now.user_data.items k (e.before k low lt)
            | inr ge ↦
                let same : k ≡ p = omega (arith, ge, high) in
                ap (return_at c.args.count c.args.blocks.now c.args.queue.now.inflight.chunks c.args.kept.now.user_data.items) same
                ∙ some-at c.args.count c.args.blocks.now c.args.queue.now.inflight.chunks c.args.kept.now.user_data.items p (e.found c.loop-at-test.true)
                (sym c.tell_of.ensures ∙ c.if-not-tell_of.false) ∙ empty
          ]));
      inside = (let n = ap length c.deref.ensures.value in let h = inv.inside in let g = e.inside (omega (arith, n, h)) in omega (arith, n, g));
      within = e.within inv.within;
      not_back = (let h = inv.not_back in omega (arith, h, e.not_back));
      cost = λ q picks. (
          let there = subst (λ (xs : List GapAckBlock). PicksLeftOut q c.args.count xs c.args.blocks.now c.args.queue.now.inflight.chunks)
          (sym c.deref.ensures.value) picks in
          let h = inv.cost q picks in
          let g = e.cost q there in
          let one = e.picked q there c.loop-at-test.true in omega (arith, h, g, one)
          );
    }

pub loop-at-preserved : goal.loop-at-preserved
loop-at-preserved c =
    let p = c.next_return.new.at.place in
    let i = c.next_return.new.at.listed in
    let j = c.next_return.new.at.block in
    let e = c.next_return.ensures in
    let on = e.on in
    let inv = c.loop-at.invariant in
    let bytes = c.in_ok-user_data.user_data in
    let full : get_or c.args.kept.now.user_data.items p None ≡ Some bytes = sym c.in-Some.ensures ∙ ap Some (sym c.in_ok-user_data.ensures.ok) in
    record {
      from = let f = c.loop-at.invariant.from in omega (arith, f, on);
      passed = λ n lt. subst (λ (xs : List GapAckBlock). is_in_blocks (take i xs) n ≡ false) c.deref.ensures.value (e.passed n (omega (arith, lt)));
      reported = λ n lt. e.reported n (omega (arith, lt));
      backs = λ bs is. c.put.ensures.items ∙ ap (λ (xs : List PlacedData). xs ++ one p bytes) (c.reserve.ensures.items ∙ c.loop-at.invariant.backs bs is
          ∙ sym (placed-same 0 c.loop-at.at.place p bs (omega (arith, on)) (λ k low high. is k
          ∙ none-at c.args.count c.args.blocks.now c.args.queue.now.inflight.chunks c.args.kept.now.user_data.items k (e.before k low high))))
          ∙ sym (placed-more 0 p p bs bytes (is p ∙ some-at c.args.count c.args.blocks.now c.args.queue.now.inflight.chunks c.args.kept.now.user_data.items
          p (e.found c.loop-at-test.true) (sym c.tell_of.ensures ∙ c.if-not-tell_of.false) ∙ full) (omega arith));
      inside = (let n = ap length c.deref.ensures.value in let h = inv.inside in let g = e.inside (omega (arith, n, h)) in omega (arith, n, g));
      within = e.within inv.within;
      not_back = (let h = inv.not_back in omega (arith, h, e.not_back));
      cost = λ q picks. (
          let there = subst (λ (xs : List GapAckBlock). PicksLeftOut q c.args.count xs c.args.blocks.now c.args.queue.now.inflight.chunks)
          (sym c.deref.ensures.value) picks in
          let h = inv.cost q picks in
          let g = e.cost q there in
          let one = e.picked q there c.loop-at-test.true in omega (arith, h, g, one)
          );
    }

pub returns-clause-ok : goal.returns-clause-ok
returns-clause-ok c = λ bs is.
    c.loop-at.invariant.backs bs is
    ∙ sym (placed-end 0 c.loop-at.at.place bs (λ k low. is k ∙ none-at c.args.count c.args.blocks.now c.args.queue.now.inflight.chunks
    c.args.kept.now.user_data.items k (c.next_return.ensures.none c.loop-at-test.false k low)))

-- Of what lies farther the blocks tell nothing either.
pub returns-then-not-tell_of-clause-ok : goal.returns-then-not-tell_of-clause-ok
returns-then-not-tell_of-clause-ok c = λ bs is.
    let p = c.next_return.new.at.place in
    c.loop-at.invariant.backs bs is
    ∙ sym (placed-end 0 c.loop-at.at.place bs (λ k low. is k ∙ elim (cases_lt k p) [
      | inl lt ↦ none-at c.args.count c.args.blocks.now c.args.queue.now.inflight.chunks c.args.kept.now.user_data.items k
          (c.next_return.ensures.before k low lt)
      | inr ge ↦ untold-at c.args.count c.args.blocks.now c.args.queue.now.inflight.chunks c.args.kept.now.user_data.items k
          (untold-on c.args.blocks.now (suc p - c.args.count) (suc k - c.args.count) (omega (arith, ge)) (sym c.tell_of.ensures ∙ c.if-not-tell_of.true))
    ]))

-- Memory is taken only where something comes back.
comes : (c : In-Some) {A : Type 0} (bs : List (Option (List ℕ))) → ((k : ℕ) → get_or bs k None
    ≡ return_at c.args.count c.args.blocks.now c.args.queue.now.inflight.chunks c.args.kept.now.user_data.items k) → placed 0 bs ≡ [] → A
comes c bs is none =
    let p = c.next_return.new.at.place in
    let full = is p ∙ some-at c.args.count c.args.blocks.now c.args.queue.now.inflight.chunks c.args.kept.now.user_data.items p
    (c.next_return.ensures.found c.loop-at-test.true) (sym c.tell_of.ensures ∙ c.if-not-tell_of.false) ∙ sym c.in-Some.ensures in
    let some = placed-some 0 p bs c.in-Some.bytes.now full in
    let n = ap length none in
    absurd (omega (arith, some, n))

pub returns-in_err-user_data-clause-idle : goal.returns-in_err-user_data-clause-idle
returns-in_err-user_data-clause-idle c = comes (goal.at.returns-in_err-user_data-clause-idle c).In-Some

pub returns-then-is_err-clause-idle : goal.returns-then-is_err-clause-idle
returns-then-is_err-clause-idle c = comes (goal.at.returns-then-is_err-clause-idle c).In-Some

-- What it costs, once all is walked over that is.
walked : (c : After-next_return) (q : ChunkPayloadData → Bool)
    → PicksLeftOut q c.args.count c.args.kept.now.reported.items c.args.blocks.now c.args.queue.now.inflight.chunks
    → c.next_return.new.turns ≤ c.args.turns.now + length c.args.kept.now.reported.items + 2 * length c.args.blocks.now
    + count_by q c.args.queue.now.inflight.chunks + 1
walked c q picks =
    let cs = c.args.queue.now.inflight.chunks in
    let e = c.next_return.ensures in
    let inv = c.loop-at.invariant in
    let n = ap length c.deref.ensures.value in
    let there = subst (λ (xs : List GapAckBlock). PicksLeftOut q c.args.count xs c.args.blocks.now cs) (sym c.deref.ensures.value) picks in
    omega (arith, inv.cost q picks, e.cost q there, e.inside (omega (arith, n, inv.inside)), n, e.within inv.within, count-in q cs c.next_return.new.at.place)

pub returns-in_err-user_data-clause-cost : goal.returns-in_err-user_data-clause-cost
returns-in_err-user_data-clause-cost c = walked (goal.at.returns-in_err-user_data-clause-cost c).After-next_return

pub returns-then-is_err-clause-cost : goal.returns-then-is_err-clause-cost
returns-then-is_err-clause-cost c = walked (goal.at.returns-then-is_err-clause-cost c).After-next_return

pub returns-then-not-tell_of-clause-cost : goal.returns-then-not-tell_of-clause-cost
returns-then-not-tell_of-clause-cost c = walked (goal.at.returns-then-not-tell_of-clause-cost c).After-next_return

pub returns-clause-cost : goal.returns-clause-cost
returns-clause-cost c = walked (goal.at.returns-clause-cost c).After-next_return

pub returns-in_err-user_data-clause-not_back : goal.returns-in_err-user_data-clause-not_back
returns-in_err-user_data-clause-not_back c = let h = c.loop-at.invariant.not_back in omega (arith, h, c.next_return.ensures.not_back)

pub returns-then-is_err-clause-not_back : goal.returns-then-is_err-clause-not_back
returns-then-is_err-clause-not_back c = let h = c.loop-at.invariant.not_back in omega (arith, h, c.next_return.ensures.not_back)

pub returns-then-not-tell_of-clause-not_back : goal.returns-then-not-tell_of-clause-not_back
returns-then-not-tell_of-clause-not_back c = let h = c.loop-at.invariant.not_back in omega (arith, h, c.next_return.ensures.not_back)

pub returns-clause-not_back : goal.returns-clause-not_back
returns-clause-not_back c = let h = c.loop-at.invariant.not_back in omega (arith, h, c.next_return.ensures.not_back)
