use Rattle.std.proofs.Common.{◌≡◌, ℕ, ◌≤◌, inl, inr, refl, true, length, arith, sym, ap, subst, ◌∙◌, get_or}
use Rattle.std.specs.BTreeMap.{values}
use Rattle.std.proofs.lemmas.Bool.{cases_lt}
use Rattle.std.proofs.lemmas.List.{length-map, length-drop}
use Rattle.sctp_follow.proofs.Walk.{head_of}
use Rattle.sctp_follow.specs.Interleave.{fits}
use Rattle.sctp_follow.specs.declared.interleave.Fragment.{Fragment}
use Rattle.sctp_follow.proofs.lanes.Part.fits_each.Goals as goal

pub loop-fragment-preserved : goal.loop-fragment-preserved
loop-fragment-preserved c =
    let vs = values c.args.self.now.fragments in
    let place = c.loop-fragment.place in
    let h = head_of vs place c.in-Some.fragment.now c.next.new.self (sym c.in-Some.ensures.steps ∙ c.loop-fragment.invariant.rest) in
    record {
      within = omega (arith, h.0);
      rest = h.2;
      fit = λ k d lt. elim (cases_lt k place) [
        | inl low ↦ c.loop-fragment.invariant.fit k d low
        | inr high ↦
            let same : place ≡ k = omega arith in
            subst (λ (n : ℕ). fits (get_or vs n d) n c.len-count.result ≡ true) same
            (ap (λ (f : Fragment). fits f place c.len-count.result) (h.1 d) ∙ sym c.if-not-fits.ensures)
      ];
    }

pub returns-then-not-fits : goal.returns-then-not-fits
returns-then-not-fits c =
    let vs = values c.args.self.now.fragments in
    let place = c.loop-fragment.place in
    let h = head_of vs place c.in-Some.fragment.now c.next.new.self (sym c.in-Some.ensures.steps ∙ c.loop-fragment.invariant.rest) in
    let n : c.len-count.result ≡ length vs = c.len-count.ensures.len ∙ sym (length-map c.args.self.now.fragments.entries _) in (
      λ t. cc,
      λ f.
          c.if-not-fits.ensures ∙ ap (λ (m : ℕ). fits c.in-Some.fragment.now place m) n
          ∙ sym (ap (λ (x : Fragment). fits x place (length vs)) (h.1 c.in-Some.fragment.now)) ∙ f place c.in-Some.fragment.now h.0,
    )

pub returns : goal.returns
returns c =
    let vs = values c.args.self.now.fragments in
    let n : c.len-count.result ≡ length vs = c.len-count.ensures.len ∙ sym (length-map c.args.self.now.fragments.entries _) in
    let all : length vs ≤ c.loop-fragment.place =
    omega (arith, ap length (sym c.in-None.ensures.steps.0 ∙ c.loop-fragment.invariant.rest) ∙ length-drop c.loop-fragment.place vs) in
    (λ t k d lt. subst (λ (m : ℕ). fits (get_or vs k d) k m ≡ true) n (c.loop-fragment.invariant.fit k d (omega arith)), λ f. refl)
