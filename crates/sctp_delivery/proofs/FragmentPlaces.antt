-- The fragments that a sender gave TSNs to, by their places.
use Rattle.sctp_delivery.proofs.Names.{common_steps, ◌≡◌, ℕ, suc, ◌<◌, ◌≤◌, List, [], ◌∷◌, length, inl, inr, ◌∙◌, arith, ⊤, ◌==◌, if◌then◌else◌, nat_tests}
use Rattle.sctp_delivery.proofs.Names.{same-yes, Data}
use Rattle.sctp_delivery.proofs.Sent.{Entry, IsPart, Numbered, fragment, terminal}

-- ## By places, from 1 on

-- the fragment at a place
abbrev pub at_place : Data → List Entry → ℕ → Data
at_place none [] k = none
at_place none (terminal ∷ xs) k = at_place none xs k
at_place none (fragment d w after ∷ xs) k = if k == suc (length xs) then d else at_place none xs k

-- each fragment stands where f has it
abbrev pub Shows : (ℕ → Data) → List Entry → Type 0
Shows f [] = ⊤
Shows f (terminal ∷ xs) = Shows f xs
Shows f (fragment d w after ∷ xs) = (f (suc (length xs)) ≡ d) × Shows f xs

shows-with : (f g : ℕ → Data) (xs : List Entry) → ((k : ℕ) → 0 < k → k ≤ length xs → g k ≡ f k) → Shows f xs → Shows g xs
shows-with f g [] same a = tt
shows-with f g (terminal ∷ xs) same a = shows-with f g xs (λ k some le. same k some (omega (arith, le))) a
shows-with f g (fragment d w after ∷ xs) same a =
    (same (suc (length xs)) (omega arith) (omega arith) ∙ a.0, shows-with f g xs (λ k some le. same k some (omega (arith, le))) a.1)

pub shown : (none : Data) (xs : List Entry) → Shows (at_place none xs) xs
shown none [] = tt
shown none (terminal ∷ xs) = shown none xs
shown none (fragment d w after ∷ xs) = grind (arith, nat_tests, common_steps, same-yes, shows-with, shown none xs)

-- what got a TSN stands at its place
pub part-place : (f : ℕ → Data) (sent : List Entry) → Shows f sent → (d : Data) (w : Numbered) (after : List ℕ) (xs : List Entry)
    → IsPart (fragment d w after ∷ xs) sent → f (suc (length xs)) ≡ d
part-place f [] a d w after xs p = cc
part-place f (terminal ∷ ys) a d w after xs (inl p) = cc
part-place f (terminal ∷ ys) a d w after xs (inr p) = part-place f ys a d w after xs p
part-place f (fragment e v rest ∷ ys) a d w after xs (inl p) = grind (arith, nat_tests, common_steps)
part-place f (fragment e v rest ∷ ys) a d w after xs (inr p) = part-place f ys a.1 d w after xs p
