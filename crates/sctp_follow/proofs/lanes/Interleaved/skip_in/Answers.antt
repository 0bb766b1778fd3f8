use Rattle.std.proofs.Common.{◌≡◌, ℕ, false, List, Option, Some, None, nat_eq, ap, ◌∙◌, arith, rules}
use Rattle.std.specs.BTreeMap as trees
use Rattle.std.specs.Ordering.{nat_cmp}
use Rattle.std.proofs.lemmas.Grind.{common_steps}
use Rattle.std.proofs.lemmas.Result.{IfOk-weaker}
use Rattle.sctp_follow.specs.Forgetting.{Leaves, held_in, held_of}
use Rattle.sctp_follow.specs.Lanes.{held_at, key_of}
use Rattle.sctp_follow.specs.declared.lanes.Lane.{Lane}
use Rattle.sctp_follow.specs.declared.lanes.Passing.{Passing}
use Rattle.sctp_follow.proofs.Departing.{leaves_lanes, none_held}
use Rattle.sctp_follow.proofs.lanes.Interleaved.skip_in.Goals as goal

pub returns-in-Some-clause-notes : goal.returns-in-Some-clause-notes
returns-in-Some-clause-notes c =
    let old = c.args.self.now.lanes in
    let new = c.get_mut.follows.lender c.skip.new.self in
    let key : ℕ = key_of c.args.name in
    let was : trees.get nat_cmp old key ≡ Some c.in-Some.lane.now = grind (arith, common_steps) in
    let is : trees.get nat_cmp new key ≡ Some c.skip.new.self = grind (arith, common_steps) in
    let others : (k : ℕ) → nat_eq k key ≡ false → trees.get nat_cmp new k ≡ trees.get nat_cmp old k = λ k differ. grind (arith, common_steps, differ) in
    IfOk-weaker c.skip.result (λ (p : Passing). Leaves (held_at c.in-Some.lane.now) (held_at c.skip.new.self) p.messages.items c.args.self.now.spots c.skip.new.spots)
    (λ (p : Passing). Leaves (held_of old) (held_of new) p.messages.items c.args.self.now.spots c.skip.new.spots)
    (λ p l. leaves_lanes key old new c.in-Some.lane.now c.skip.new.self (λ n. ap (λ (o : Option Lane). held_in o n) was) (λ n. ap (λ (o : Option Lane). held_in o n) is) others
    p.messages.items c.args.self.now.spots c.skip.new.spots l) c.skip.ensures.notes

pub returns-in-Ok-clause-notes : goal.returns-in-Ok-clause-notes
returns-in-Ok-clause-notes c =
    let old = c.args.self.now.lanes in
    let new = c.insert.new.self in
    let key : ℕ = key_of c.args.name in
    let was : trees.get nat_cmp old key ≡ None = grind (arith, common_steps) in
    let empty : (n : ℕ) → trees.get nat_cmp c.new-opened.result.parts n ≡ None = λ n. search rules in
    let is : trees.get nat_cmp new key ≡ Some c.skip-2.new.self = grind (arith, common_steps) in
    let others : (k : ℕ) → nat_eq k key ≡ false → trees.get nat_cmp new k ≡ trees.get nat_cmp old k = λ k differ. grind (arith, common_steps, differ) in
    leaves_lanes key old new c.new-opened.result c.skip-2.new.self
    (λ n. ap (λ (o : Option Lane). held_in o n) was ∙ none_held c.new-opened.result n (empty n))
    (λ n. ap (λ (o : Option Lane). held_in o n) is) others c.in_ok-passing.passing.messages.items c.args.self.now.spots c.skip-2.new.spots c.in_ok-passing.ensures.notes
