-- Steps follow one another.
use Rattle.std.proofs.Common.{◌≡◌, ◌⊎◌, ℕ, ◌+◌, ◌≤◌, List, [], ◌∷◌, ◌++◌, None, inl, inr, refl, ap, ◌∙◌, subst, arith}
use Rattle.sctp_association.specs.declared.association.Association.{Association}
use Rattle.std.specs.Prelude.{Result, Ok, Err, OnOk, OnErr, Bool, true, false}
use Rattle.sctp_association.specs.Reads.{message_in}
use Rattle.sctp_channels.specs.Dcep.{Knows}
use Rattle.sctp_channels.specs.Reading.{is_control, is_data}
use Rattle.sctp_channels.specs.Rest.{Keeps}
use Rattle.sctp_channels.specs.Steps.{AreSteps, AsksOwed, Comes, FollowsHeld, IsBegun, IsStep, State, Step, held_of, state_of, taken_by, takes_one}
use Rattle.sctp_channels.specs.Steps.{IsLooked, asks, begins, follows, learns, looks}
use Rattle.sctp_channels.specs.declared.channel.Channel.{Channel}
use Rattle.sctp_channels.specs.declared.channels.Channels.{Channels}

-- ## Chains

steps_to : (now : ℕ) (xs : List Step) (s t u : State) → AreSteps now xs s t → u ≡ t → AreSteps now xs s u
steps_to now [] s t u are same = same ∙ are
steps_to now (x ∷ xs) s t u (mid, first, rest) same = (mid, first, steps_to now xs mid t u rest same)

steps_from : (now : ℕ) (xs : List Step) (r s t : State) → s ≡ r → AreSteps now xs s t → AreSteps now xs r t
steps_from now xs r s t same are = subst (λ (z : State). AreSteps now xs z t) same are

steps_more : (now : ℕ) (xs ys : List Step) (s t u : State) → AreSteps now xs s t → AreSteps now ys t u → AreSteps now (xs ++ ys) s u
steps_more now [] ys s t u are next = steps_from now ys s t u are next
steps_more now (x ∷ xs) ys s t u (mid, first, rest) next = (mid, first, steps_more now xs ys mid t u rest next)

taken_more : (xs ys : List Step) → taken_by (xs ++ ys) ≡ taken_by xs + taken_by ys
taken_more [] ys = omega arith
taken_more (x ∷ xs) ys = let rest = taken_more xs ys in omega arith

-- ## What comes

pub comes_none : (now : ℕ) (s t : State) → t ≡ s → Comes now 0 s t
comes_none now s t same = record { steps = []; are = same; many = omega arith }

pub comes_by : (now : ℕ) (x : Step) (s t : State) → IsStep now x s t → Comes now (takes_one x) s t
comes_by now x s t is = record { steps = x ∷ []; are = (t, is, refl); many = omega arith }

pub comes_more : (now m n : ℕ) (s t u : State) → Comes now m s t → Comes now n t u → Comes now (m + n) s u
comes_more now m n s t u a b = record {
  steps = a.steps ++ b.steps;
  are = steps_more now a.steps b.steps s t u a.are b.are;
  many = let sum = taken_more a.steps b.steps in let first = a.many in let next = b.many in omega arith;
}

pub comes_less : (now m n : ℕ) (s t : State) → m ≤ n → Comes now n s t → Comes now m s t
comes_less now m n s t less a = record { steps = a.steps; are = a.are; many = let many = a.many in omega arith }

pub comes_to : (now n : ℕ) (s t u : State) → Comes now n s t → u ≡ t → Comes now n s u
comes_to now n s t u a same = record { steps = a.steps; are = steps_to now a.steps s t u a.are same; many = a.many }

-- what is done behind it, by no further message or event
pub comes_then : (now n : ℕ) (s t u : State) → Comes now n s t → Comes now 0 t u → Comes now n s u
comes_then now n s t u a b = let all = comes_more now n 0 s t u a b in comes_less now n (n + 0) s u (omega arith) all

-- what is done before it
pub comes_behind : (now n : ℕ) (s t u : State) → Comes now 0 s t → Comes now n t u → Comes now n s u
comes_behind now n s t u a b = let all = comes_more now 0 n s t u a b in comes_less now n (0 + n) s u (omega arith) all

pub comes_held : (now : ℕ) (s t : State) → FollowsHeld s.held s t → Comes now 0 s t
comes_held now s t is = comes_by now follows s t is

pub comes_owed : (now : ℕ) (s t : State) → AsksOwed s.owed s t → Comes now 0 s t
comes_owed now s t is = comes_by now asks s t is

pub comes_begun : (now : ℕ) (s t : State) → (t ≡ s) ⊎ IsBegun s t → Comes now 0 s t
comes_begun now s t (inl same) = comes_none now s t same
comes_begun now s t (inr is) = comes_by now begins s t is

-- ## The state of channels

-- where a call leaves all but the list and the association
pub state_kept : (c d : Channels) (a b : Association) → Keeps c d → state_of d b ≡ record (state_of c a) { list = d.channels.items; association = b }
state_kept c d a b keeps = let side = keeps.side in let most = keeps.most_name in let held = ap held_of keeps.held in
    let arrived = keeps.arrived in let owed = keeps.owed in cc

-- and where it leaves the list and the association, too
pub state_same : (c d : Channels) (a b : Association) → Keeps c d → d.channels.items ≡ c.channels.items → b ≡ a → state_of d b ≡ state_of c a
state_same c d a b keeps list same = state_kept c d a b keeps ∙ ap (λ (l : List Channel). record (state_of c a) { list = l; association = b }) list
    ∙ ap (λ (z : Association). record (state_of c a) { association = z }) same

-- ## Behind a call

pub always_ok : {T E P : Type 0} (r : Result T E) → P → OnOk r P
always_ok (Ok x) p = p
always_ok (Err e) p = tt

-- a message that was held was followed, or was not
pub comes_followed : {T E : Type 0} (now n : ℕ) (r : Result T E) (s t u : State) → Comes now n s t → OnOk r (FollowsHeld t.held t u)
    → OnErr r ((u ≡ t) ⊎ IsBegun t u) → Comes now n s u
comes_followed now n (Ok x) s t u comes ok err = comes_then now n s t u comes (comes_held now t u ok)
comes_followed now n (Err e) s t u comes ok err = comes_then now n s t u comes (comes_begun now t u err)

-- a message of the application was next
pub comes_known : {T E : Type 0} (now n stream : ℕ) (r : Result T E) (s : State) (c d : Channels) (a b : Association) → Comes now n s (state_of c a)
    → is_data (message_in stream a.inbound) ≡ true → Keeps c d → OnOk r (Knows stream c.channels.items a d.channels.items b)
    → OnErr r ((d.channels.items ≡ c.channels.items) × (b ≡ a)) → Comes now n s (state_of d b)
comes_known now n stream (Ok x) s c d a b comes next keeps ok err =
    comes_then now n s (state_of c a) (state_of d b) comes (
    comes_by now (learns stream) (state_of c a) (state_of d b) (record { application = next; is = state_kept c d a b keeps; knows = ok })
    )
comes_known now n stream (Err e) s c d a b comes next keeps ok (list, same) =
    comes_to now n s (state_of c a) (state_of d b) comes (state_same c d a b keeps list same)

-- arrivals were looked at, or not
pub comes_looked : (now stream : ℕ) (c d : Channels) (a : Association)
    → (is_control (message_in stream a.inbound) ≡ false → (d.arrived ≡ None) × IsLooked (state_of c a) (state_of d a))
    → (is_control (message_in stream a.inbound) ≡ true → d ≡ c) → Comes now 0 (state_of c a) (state_of d a)
comes_looked now stream c d a seen stays = by (is_control (message_in stream a.inbound)) seen stays
  where
    by : (b : Bool) → (b ≡ false → (d.arrived ≡ None) × IsLooked (state_of c a) (state_of d a)) → (b ≡ true → d ≡ c) → Comes now 0 (state_of c a) (state_of d a)
    by true f g = comes_none now (state_of c a) (state_of d a) (ap (λ (z : Channels). state_of z a) (g refl))
    by false f g = comes_by now looks (state_of c a) (state_of d a) (f refl).1
