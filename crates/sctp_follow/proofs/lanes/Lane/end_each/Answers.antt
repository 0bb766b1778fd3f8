use Rattle.std.proofs.Common.{◌≡◌, ℕ, ◌<◌, ◌==◌, ◌⊎◌, true, if◌then◌else◌, List, [], ◌∷◌, length, map, get_or, inl, inr, None, IsSome, Option, sym, ◌∙◌, ap, subst, arith}
use Rattle.std.specs.BTreeMap.{values}
use Rattle.std.proofs.lemmas.Bool.{cases_eq, both_ways}
use Rattle.std.proofs.lemmas.List.{length-map}
use Rattle.std.proofs.lemmas.List.Elements.{All-push}
use Rattle.std.proofs.lemmas.List.Quantifiers.{Any-push, all_pairs_push}
use Rattle.sctp_util.specs.Serial.{at_or_before, comes_before}
use Rattle.sctp_follow.specs.Forgetting.{Leaves, has_tsn}
use Rattle.sctp_follow.specs.Interleave.{IsMessage}
use Rattle.sctp_follow.specs.Lanes.{held_at, came, ordered, IsRead}
use Rattle.sctp_follow.specs.Passing.{IsEnded}
use Rattle.sctp_follow.specs.Spots.{at}
use Rattle.sctp_follow.specs.declared.interleave.Fragment.{Fragment}
use Rattle.sctp_follow.specs.declared.interleave.Name.{Name}
use Rattle.sctp_follow.specs.declared.interleave.Whole.{Whole}
use Rattle.sctp_follow.specs.declared.spots.Spots.{Spots}
use Rattle.sctp_follow.proofs.Departing.{leaves_more, leaves_then, leaves_lost, leaves_read}
use Rattle.sctp_follow.proofs.Leaving.{left_at, left_other, other_held, still_held, held_some, any_more}
use Rattle.sctp_follow.proofs.lanes.Lane.end_each.Goals as goal

pub ending-preserved-in-Continue-1 : goal.ending-preserved-in-Continue-1
ending-preserved-in-Continue-1 c =
    let i = c.ending.invariant in
    let p = c.in-Some.ensures in
    let k : ℕ = c.in-Some.number in
    let m : Whole = c.in-Some-end.message in
    let s = c.args.stream in
    let old = c.args.self.now in
    let f0 : ℕ → List (ℕ × Fragment) = held_at c.args.self.now in
    let f : ℕ → List (ℕ × Fragment) = held_at c.ending.self in
    let g : ℕ → List (ℕ × Fragment) = held_at c.end.new.self in
    let r : IsRead (ordered s k) m c.ending.self c.end.new.self = subst (λ (n : Name). IsRead n m c.ending.self c.end.new.self) c.ordered.ensures c.in-Some-end.ensures.read in
    let num : m.name.number ≡ k = ap (λ (n : Name). n.number) r.called in
    let some : 0 < length (f k) = subst (λ (xs : List (ℕ × Fragment)). 0 < length xs) r.fragments
    (let h : 0 < length (values m.fragments) = m.message.some in omega (arith, h, length-map m.fragments.entries (λ (e : ℕ × Fragment). e.1))) in
    let was : f k ≡ held_at old k = elim (i.still k) [ inl e ↦ e | inr e ↦ absurd (let z : length (f k) ≡ 0 = ap length e in omega (arith, z, some)) ] in
    record {
      only = rw c.in_ok-push.ensures.items (All-push (IsEnded s c.args.last old) _ m i.only (
        r.called ∙ ap (ordered s) (sym num),
        subst (λ (n : ℕ). at_or_before n c.args.last ≡ true) (sym num) p.up_to,
        r.fragments ∙ was ∙ ap (held_at old) (sym num),
      ));
      all = λ n fits early is. rw c.in_ok-push.ensures.items (elim (i.all n fits early is) [
        | inl h ↦ inl (any_more (λ (x : Whole). x.name.number ≡ n) c.ending.messages.items m h)
        | inr h ↦ elim (cases_eq n k) [
          | inl same ↦ inl (Any-push (λ (x : Whole). x.name.number ≡ n) c.ending.messages.items m (num ∙ sym same))
          | inr other ↦ inr (left_other f g [] k r.left n other ∙ h)
        ]
      ]);
      still = λ n. elim (cases_eq n k) [
        | inl same ↦ inr (left_at f g [] k r.left n same)
        | inr other ↦ elim (i.still n) [ inl e ↦ inl (left_other f g [] k r.left n other ∙ e) | inr e ↦ inr (left_other f g [] k r.left n other ∙ e) ]
      ];
      stay = λ n late. left_other f g [] k r.left n (λ same. both_ways _ late (subst (λ (x : ℕ). at_or_before x c.args.last ≡ true) (sym same) p.up_to)) ∙ i.stay n late;
      order = rw c.in_ok-push.ensures.items (all_pairs_push (λ (x y : Whole). comes_before x.name.number y.name.number ≡ true) _ m i.order
          (λ j d lt. subst (λ (x : ℕ). comes_before (get_or c.ending.messages.items j d).name.number x ≡ true) (sym num) (i.later j d lt k p.few some p.up_to)));
      later = rw c.in_ok-push.ensures.items (All-push (λ (x : Whole). (n : ℕ) → n < 4294967296 → 0 < length (g n) → at_or_before n c.args.last ≡ true → comes_before x.name.number n ≡ true)
          c.ending.messages.items m
          (λ j d lt n fits has early. i.later j d lt n fits (still_held f g k r.left n has) early)
          (λ n fits has early. subst (λ (x : ℕ). comes_before x n ≡ true) (sym num)
          (p.first n fits (held_some _ (still_held f g k r.left n has)) early (other_held f g k r.left n has))));
      next = c.end.ensures.next ∙ i.next;
      notes = rw c.in_ok-push.ensures.items
          (leaves_more f0 f g c.ending.messages.items (m ∷ []) c.args.spots.now c.ending.spots c.end.new.spots i.notes
          (subst (λ (x : Spots). Leaves f g (m ∷ []) c.ending.spots x) (sym c.in-Some-end.ensures.noted)
          (leaves_read (ordered s k) m c.ending.self c.end.new.self c.ending.spots r)));
    }

pub returns-clause-notes : goal.returns-clause-notes
returns-clause-notes c = c.ending.invariant.notes

pub ending-preserved : goal.ending-preserved
ending-preserved c =
    let i = c.ending.invariant in
    let p = c.in-Some.ensures in
    let k : ℕ = c.in-Some.number in
    let f0 : ℕ → List (ℕ × Fragment) = held_at c.args.self.now in
    let f : ℕ → List (ℕ × Fragment) = held_at c.ending.self in
    let g : ℕ → List (ℕ × Fragment) = held_at c.end.new.self in
    let num : c.ordered.result.number ≡ k = ap (λ (n : Name). n.number) c.ordered.ensures in
    let left : (n : ℕ) → g n ≡ (if n == k then [] else f n) = subst (λ (x : ℕ). (n : ℕ) → g n ≡ (if n == x then [] else f n)) num c.end.ensures.held in
    let lost : IsMessage (came c.ending.self k) → ⊥ = subst (λ (x : ℕ). IsMessage (came c.ending.self x) → ⊥) num c.in_default-end.ensures.lost in
    let forgotten : (t : ℕ) → at c.end.new.spots t ≡ (if has_tsn (f k) t then None else at c.ending.spots t) =
    subst (λ (x : ℕ). (t : ℕ) → at c.end.new.spots t ≡ (if has_tsn (f x) t then None else at c.ending.spots t)) num c.in_default-end.ensures.forgotten in
    record {
      only = i.only;
      all = λ n fits early is. elim (i.all n fits early is) [
        | inl h ↦ inl h
        | inr h ↦ elim (cases_eq n k) [
          | inl same ↦ absurd (lost (subst (λ (xs : List (ℕ × Fragment)). IsMessage (map (λ (e : ℕ × Fragment). e.1) xs)) (sym h ∙ ap f same) is))
          | inr other ↦ inr (left_other f g [] k left n other ∙ h)
        ]
      ];
      still = λ n. elim (cases_eq n k) [
        | inl same ↦ inr (left_at f g [] k left n same)
        | inr other ↦ elim (i.still n) [ inl e ↦ inl (left_other f g [] k left n other ∙ e) | inr e ↦ inr (left_other f g [] k left n other ∙ e) ]
      ];
      stay = λ n late. left_other f g [] k left n (λ same. both_ways _ late (subst (λ (x : ℕ). at_or_before x c.args.last ≡ true) (sym same) p.up_to)) ∙ i.stay n late;
      order = i.order;
      later = λ j d lt n fits has early. i.later j d lt n fits (still_held f g k left n has) early;
      next = c.end.ensures.next ∙ i.next;
      notes = leaves_then f0 f g c.ending.messages.items c.args.spots.now c.ending.spots c.end.new.spots i.notes
          (leaves_lost f g k c.ending.spots c.end.new.spots left forgotten);
    }
