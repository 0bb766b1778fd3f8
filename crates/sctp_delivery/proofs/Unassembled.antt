-- What is unassembled in a queue: what a FORWARD-TSN takes in front, weighed, and that what stays is in order; and after the other calls.
use Rattle.sctp_delivery.proofs.Names.{common_steps, ◌≡◌, ℕ, ◌+◌, ◌<◌, ◌≤◌, ◌^◌, Bool, true, false, not, List, [], ◌∷◌, refl, ◌∙◌, arith, if◌then◌else◌, nat_le}
use Rattle.sctp_delivery.proofs.Names.{sum_by, sum_by-cons, after_leading, at_or_before, and, nat_tests, tsn, ChunkPayloadData, Reassembly, ReassemblyState}
use Rattle.sctp_delivery.proofs.Names.{HasNoRun, Pushes, held_after_ordered_skip, held_after_unordered_skip, is_orderly, rest_read}
use Rattle.sctp_reassembly.specs.reassembly_queue.ReassemblyQueue.{after_ordered_skip, after_unordered_skip}
use Rattle.sctp_reassembly.proofs.lemmas.reassembly_queue.UnassembledRuns.{none_after_drop}
use Rattle.sctp_receiver.proofs.OneMessage.{named-unmixed, unassembled-unmixed}
use Rattle.sctp_delivery.proofs.Cases.{at-if}
use Rattle.sctp_delivery.proofs.Every.{Every, every-inserted, every-joined, every-left, every-of, every-passing, every-taken}
use Rattle.sctp_delivery.proofs.KeptOrGone.{is_upto, upto-place}
use Rattle.sctp_delivery.proofs.KeptSets.{IsUnorderedTidy, IsTidy}
use Rattle.sctp_delivery.proofs.Rising.{Ascend, ascend-from}
use Rattle.sctp_delivery.proofs.TsnPlaces.{past-is}
use Rattle.sctp_delivery.proofs.UnwrappedReads.{leading-each}

-- ## Unassembled fragments

-- those in front that pass the test
abbrev pub leading : (ChunkPayloadData → Bool) → List ChunkPayloadData → List ChunkPayloadData
leading r [] = []
leading r (x ∷ xs) = if r x then x ∷ leading r xs else []

pub leading-split : (r : ChunkPayloadData → Bool) (w : ChunkPayloadData → ℕ) (xs : List ChunkPayloadData)
    → sum_by w (after_leading r xs) + sum_by w (leading r xs) ≡ sum_by w xs
leading-split r w [] = refl
leading-split r w (x ∷ xs) = grind (arith, nat_tests, leading-split r w xs, sum_by-cons w x (leading r xs), sum_by-cons w x xs)

pub each-leading : (P : ChunkPayloadData → Type 0) (r : ChunkPayloadData → Bool) (xs : List ChunkPayloadData) → Every (λ x. r x ≡ true → P x) xs
    → Every P (leading r xs)
each-leading P r [] e = tt
each-leading P r (x ∷ xs) e = at-if (Every P) (r x) (λ h. (e.0 h, each-leading P r xs e.1)) (λ h. tt)

left-none : (r : ChunkPayloadData → Bool) (xs : List ChunkPayloadData) → HasNoRun xs → HasNoRun (after_leading r xs)
left-none r [] h = h
left-none r (x ∷ xs) h = at-if HasNoRun (r x) (λ e. left-none r xs (none_after_drop (x ∷ xs) 1 (omega arith) h)) (λ e. h)

module _ (p n : ℕ) (few : n < 2 ^ 31) where
  left-ascend : (low : ℕ) (r : ChunkPayloadData → Bool) (xs : List ChunkPayloadData) → Ascend p n low xs → Ascend p n low (after_leading r xs)
  left-ascend low r [] a = tt
  left-ascend low r (x ∷ xs) a =
      at-if (Ascend p n low) (r x)
      (λ e. left-ascend low r xs (let le = a.1.0 in ascend-from p n few (a.0 + 1) low xs (omega (arith, le)) a.2))
      (λ e. a)

  pub skipped-tidy : (last : ℕ) (q : Reassembly) → IsTidy p n q → IsTidy p n (held_after_ordered_skip last q)
  skipped-tidy last q t = grind (arith, nat_tests, common_steps, every-passing, not)

  pub left-rest : (tsn : ℕ) (q : Reassembly) → IsUnorderedTidy p n q → IsUnorderedTidy p n (held_after_unordered_skip tsn q)
  left-rest tsn q t = search (left-ascend, leading-each, left-none)

  pub left-tidy : (tsn : ℕ) (q : Reassembly) → IsTidy p n q → IsTidy p n (held_after_unordered_skip tsn q)
  left-tidy tsn q t = record { sets = t.sets; rest = left-rest tsn q t.rest }

  ascend-more : (m low : ℕ) (cs : List ChunkPayloadData) → n ≤ m → Ascend p n low cs → Ascend p m low cs
  ascend-more m low [] le a = tt
  ascend-more m low (c ∷ cs) le a = let h = a.1.1 in (a.0, (a.1.0, omega (arith, h, le), a.1.2), ascend-more m (a.0 + 1) cs le a.2)

  -- more TSNs are given out
  pub rest-more : (m : ℕ) (q : Reassembly) → n ≤ m → IsUnorderedTidy p n q → IsUnorderedTidy p m q
  rest-more m q le t = record { whole = t.whole; unassembled = ascend-more m 0 q.unassembled le t.unassembled; kinds = t.kinds; none = t.none }

  pub tidy-more : (m : ℕ) (q : Reassembly) → n ≤ m → IsTidy p n q → IsTidy p m q
  tidy-more m q le t = grind (arith, nat_tests, common_steps, every-of, ascend-more, rest-more)

pub skipped-orderly : (last : ℕ) (q : ReassemblyState) → is_orderly q ≡ true → is_orderly (after_ordered_skip last q) ≡ true
skipped-orderly last q h = grind (arith, nat_tests, common_steps, and, named-unmixed)

pub left-orderly : (tsn : ℕ) (q : ReassemblyState) → is_orderly q ≡ true → is_orderly (after_unordered_skip tsn q) ≡ true
left-orderly tsn q h = grind (arith, nat_tests, common_steps, and, unassembled-unmixed)

-- ## After each call

-- what is unassembled, after a fragment comes and after a message is read
pub pushed-each : (P : ChunkPayloadData → Type 0) (c : ChunkPayloadData) (said : Bool) (old new : ReassemblyState) → Pushes c said old new → P c
    → Every P old.held.unassembled → Every P new.held.unassembled
pushed-each P c said old new pushes own e = grind (arith, nat_tests, common_steps, every-inserted, every-joined, every-taken, every-left)

pub read-unassembled : (q : Reassembly) → (rest_read q).unassembled ≡ q.unassembled
read-unassembled q = grind (arith, nat_tests, common_steps)

-- those behind the ones in front that stand up to a place stand past it
pub past-left : (p n : ℕ) → n < 2 ^ 31 → (m : ℕ) → m ≤ n → (low : ℕ) (xs : List ChunkPayloadData) → Ascend p n low xs
    → Every (λ c. is_upto p m c.tsn ≡ false) (after_leading (λ x. at_or_before x.tsn (tsn p m)) xs)
past-left p n few m le low [] a = tt
past-left p n few m le low (x ∷ xs) a = at-if (Every (λ c. is_upto p m c.tsn ≡ false)) (at_or_before x.tsn (tsn p m))
    (λ e. past-left p n few m le (a.0 + 1) xs a.2)
    (λ e.
    let within = a.1.1 in
    let lt : m < a.0 = past-is p a.0 m a.1.2 refl (omega (arith, within, few)) (omega (arith, le, few)) e in
    all-past a.0 lt (x ∷ xs) (a.0, (omega arith, a.1.1, a.1.2), a.2))
  where
    all-past : (j : ℕ) → m < j → (ys : List ChunkPayloadData) → Ascend p n j ys → Every (λ c. is_upto p m c.tsn ≡ false) ys
    all-past j over [] b = tt
    all-past j over (y ∷ ys) b =
        let from = b.1.0 in
        let within = b.1.1 in (
          upto-place p m b.0 y.tsn b.1.2 (omega (arith, within, few)) ∙ (let t : nat_le b.0 m ≡ false = grind (arith, nat_tests) in t),
          all-past (b.0 + 1) (omega (arith, over, from)) ys b.2,
        )
