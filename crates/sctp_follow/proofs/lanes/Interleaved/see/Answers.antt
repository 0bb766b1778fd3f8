use Rattle.std.proofs.Common.{◌≡◌, ℕ, false, Option, Some, nat_eq, ap, arith}
use Rattle.std.specs.BTreeMap as trees
use Rattle.std.specs.Ordering.{nat_cmp}
use Rattle.std.proofs.lemmas.Grind.{common_steps}
use Rattle.std.proofs.lemmas.Result.{IfOk-weaker}
use Rattle.sctp_follow.specs.Forgetting.{Leaves, held_in, held_of}
use Rattle.sctp_follow.specs.Lanes.{held_at, key_of}
use Rattle.sctp_follow.specs.declared.lanes.Lane.{Lane}
use Rattle.sctp_follow.specs.declared.lanes.Seen.{Seen}
use Rattle.sctp_follow.proofs.Departing.{leaves_lanes}
use Rattle.sctp_follow.proofs.lanes.Interleaved.see.Goals as goal

pub returns-in-Some-clause-notes : goal.returns-in-Some-clause-notes
returns-in-Some-clause-notes c =
    let old = c.args.self.now.lanes in
    let new = c.get_mut.follows.lender c.see.new.self in
    let key : ℕ = key_of c.args.spot.now.name in
    let was : trees.get nat_cmp old key ≡ Some c.in-Some.lane.now = grind (arith, common_steps) in
    let is : trees.get nat_cmp new key ≡ Some c.see.new.self = grind (arith, common_steps) in
    let others : (k : ℕ) → nat_eq k key ≡ false → trees.get nat_cmp new k ≡ trees.get nat_cmp old k = λ k differ. grind (arith, common_steps, differ) in
    IfOk-weaker c.see.result (λ (p : Seen). Leaves (held_at c.in-Some.lane.now) (held_at c.see.new.self) p.messages.items c.args.self.now.spots c.see.new.spots)
    (λ (p : Seen). Leaves (held_of old) (held_of new) p.messages.items c.args.self.now.spots c.see.new.spots)
    (λ p l. leaves_lanes key old new c.in-Some.lane.now c.see.new.self (λ n. ap (λ (o : Option Lane). held_in o n) was) (λ n. ap (λ (o : Option Lane). held_in o n) is) others
    p.messages.items c.args.self.now.spots c.see.new.spots l) c.see.ensures.notes
