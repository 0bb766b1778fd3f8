-- A number that is far past the first in flight has many chunks before it.
use Rattle.sctp_sender.proofs.Names.{◌≡◌, ℕ, ◌+◌, ◌-◌, ◌<◌, ◌≤◌, ◌%◌, ◌^◌, Bool, true, false, List, [], ◌∷◌, ◌++◌, length, Option, Some, None, inl, inr, refl}
use Rattle.sctp_sender.proofs.Names.{ap, ◌∙◌, arith, if◌then◌else◌, ◌&&◌, nat_le, filter, nat_tests, ChunkPayloadData, is_ordered_on}
use Rattle.std.specs.List.{find}
use Rattle.sctp_sender.specs.Numbers.{NumbersTell, Step, StepFrom, first_ordered, past_number}

step : (n m c far : ℕ) → n < 2 ^ 16 → m ≡ (n + 1) % 2 ^ 16 → (c + (2 ^ 16 - m)) % 2 ^ 16 ≤ far → (c + (2 ^ 16 - n)) % 2 ^ 16 ≤ far + 1
step n m c far small is le = omega arith

-- each chunk takes one step at most
no-further : (n : ℕ) (cs : List ChunkPayloadData) (c : ChunkPayloadData) → n < 2 ^ 16 → StepFrom n (cs ++ c ∷ [])
    → (c.stream_sequence_number + (2 ^ 16 - n)) % 2 ^ 16 ≤ length cs + 1
no-further n [] c small (inl same, h) = omega (arith, same, small)
no-further n [] c small (inr next, h) = omega (arith, next, small)
no-further n (d ∷ ds) c small (inl same, h) = let l = no-further d.stream_sequence_number ds c (omega (arith, same, small)) h in omega (arith, l, same)
no-further n (d ∷ ds) c small (inr next, h) =
    let l = no-further d.stream_sequence_number ds c (omega (arith, next)) h in
    let r = step n d.stream_sequence_number c.stream_sequence_number (length ds + 1) small next l in
    omega (arith, r)

abbrev first : Option ChunkPayloadData → List ChunkPayloadData → Type 0
first None xs = xs ≡ []
first (Some c) xs = (ys : List ChunkPayloadData) × (xs ≡ c ∷ ys)

-- what is found first is the first of those that pass
found-first : (p : ChunkPayloadData → Bool) (xs : List ChunkPayloadData) → first (find p xs) (filter p xs)
found-first p [] = refl
found-first p (x ∷ xs) = by (p x) (found-first p xs)
  where
    by : (b : Bool) → first (find p xs) (filter p xs) → first (if b then Some x else find p xs) (if b then x ∷ filter p xs else filter p xs)
    by true ih = (filter p xs, refl)
    by false ih = ih

fewer : (p : ChunkPayloadData → Bool) (xs : List ChunkPayloadData) → length (filter p xs) ≤ length xs
fewer p [] = omega arith
fewer p (x ∷ xs) = by (p x) (fewer p xs)
  where
    by : (b : Bool) → length (filter p xs) ≤ length xs → length (if b then x ∷ filter p xs else filter p xs) ≤ length (x ∷ xs)
    by true ih = omega (arith, ih)
    by false ih = omega (arith, ih)

past-few : (o : Option ChunkPayloadData) (xs : List ChunkPayloadData) (c : ChunkPayloadData) → first o xs → Step (xs ++ c ∷ []) → past_number o c ≤ length xs
past-few None xs c f s = omega arith
past-few (Some d) xs c f s = by xs f.1 s
  where
    by : (zs : List ChunkPayloadData) → zs ≡ d ∷ f.0 → Step (zs ++ c ∷ []) → past_number (Some d) c ≤ length zs
    by zs e s =
        let t : Step ((d ∷ f.0) ++ c ∷ []) = rw e at s in
        let l = no-further d.stream_sequence_number f.0 c t.0 t.1 in
        let n = ap length e in
        omega (arith, l, n)

drop-first : (n far : ℕ) → far ≤ n → (nat_le (2 ^ 14) n && nat_le (2 ^ 14) far) ≡ nat_le (2 ^ 14) far
drop-first n far le = grind (arith, nat_tests, le)

pub numbers-tell : NumbersTell
numbers-tell f c turn begins =
    let p = is_ordered_on c.stream_identifier in
    let cs = f.queue.inflight.chunks in
    let few = past-few (find p cs) (filter p cs) c (found-first p cs) turn in
    let less = fewer p cs in
    ap (λ b. b && (nat_le (2 ^ 14) (length cs) && nat_le (2 ^ 14) (past_number (first_ordered c.stream_identifier f) c))) begins
    ∙ drop-first (length cs) (past_number (first_ordered c.stream_identifier f) c) (omega (arith, few, less))
