-- The place of a write among the writes, from where it stands in their list.
use Rattle.sctp_delivery.proofs.Names.{◌≡◌, ℕ, zero, suc, ◌+◌, ◌<◌, List, [], ◌∷◌, length, ap, arith, ⊤, slice_index_or}
use Rattle.sctp_delivery.proofs.Sent.{Numbered}

-- the writes, the last one first, have the numbers of their places
abbrev pub AreNumbered : List Numbered → Type 0
AreNumbered [] = ⊤
AreNumbered (w ∷ ws) = (w.place ≡ length ws) × AreNumbered ws

pub place-at : (ns : List Numbered) (k : ℕ) (n : Numbered) → AreNumbered ns → k < length ns → slice_index_or ns k n ≡ n → n.place + k + 1 ≡ length ns
place-at [] k n h lt e = absurd (omega (arith, lt))
place-at (w ∷ ws) zero n h lt e = let same = ap (λ (x : Numbered). x.place) e in omega (arith, same)
place-at (w ∷ ws) (suc k) n h lt e = let ih = place-at ws k n h.1 (omega (arith, lt)) e in omega (arith, ih)
