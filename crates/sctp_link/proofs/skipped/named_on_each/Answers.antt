use Rattle.sctp_link.proofs.Names.{◌≡◌, ℕ, List, ◌+◌, ◌<◌, ◌∙◌, length, drop, refl, ap, sym, inl, inr, arith, drop_all, named_from, Named, HasNames}
use Rattle.sctp_link.proofs.Names.{IsFullOrEmpty, subst, drop_more}
use Rattle.sctp_link.proofs.skipped.named_on_each.Goals as goal

pub loop-number-init : goal.loop-number-init
loop-number-init c = record {
  names = λ k p d lt inside at' is. ap (λ x. named_from c.args.messages.now p.number x c.args.names.now) (c.none_named-table.ensures.none k d lt is);
  count = refl;
}

pub loop-number-preserved : goal.loop-number-preserved
loop-number-preserved c =
    let i = c.loop-number.number-index in
    let names = c.args.names.now in
    let lt : i < length names = c.loop-number-test.true in
    record {
      names = c.put_name.ensures.names names (drop (i + 1) names)
          (subst (λ further. HasNames c.args.messages.now names further c.args.progress.now c.loop-number.table.items)
          (drop_more names i 0 lt) c.loop-number.invariant.names);
      count = c.put_name.ensures.count ∙ c.loop-number.invariant.count;
    }

pub returns-clause-names : goal.returns-clause-names
returns-clause-names c =
    subst (λ further. HasNames c.args.messages.now c.args.names.now further c.args.progress.now c.loop-number.table.items)
    (drop_all c.loop-number.number-index c.args.names.now c.loop-number-test.false) c.loop-number.invariant.names

-- As many places as at first.
counted : (n m : ℕ) (t u : List Named) → m ≡ n → length u ≡ length t → IsFullOrEmpty n t → IsFullOrEmpty m u
counted n m t u e f (inl full) = inl (omega (arith, e, f, full))
counted n m t u e f (inr none) = inr (omega (arith, f, none))

pub returns-clause-count : goal.returns-clause-count
returns-clause-count c = counted c.len.result (length c.args.progress.now) c.none_named-table.result.items c.loop-number.table.items (sym c.len.ensures)
    c.loop-number.invariant.count c.none_named-table.ensures.count
