-- What waits: removals and changes in place.
use Rattle.std.proofs.Common.{◌≡◌, ◌+◌, ◌≤◌, Bool, true, false, not, if◌then◌else◌, List, [], ◌∷◌, ◌++◌, length, Option, Some, None, option_to_list, refl, sym}
use Rattle.std.proofs.Common.{ap, ap₂, ◌∙◌, append-nil, arith}
use Rattle.std.specs.Option.{option_or}
use Rattle.std.proofs.lemmas.List.Sums.{sum_by-cons}
use Rattle.std.specs.List.{filter}
use Rattle.sctp_data.specs.declared.chunk.chunk_payload_data.ChunkPayloadData.{ChunkPayloadData}
use Rattle.sctp_util.specs.Lists.{change_where}
use Rattle.sctp_util.proofs.Edits.{sum_by-those_both}
use Rattle.sctp_serial.specs.DataChunks.{bytes_of}
use Rattle.sctp_outbound.specs.pending_queue.PendingQueue.{last_of}

-- what is removed and what is left are all
pub removed_and_left : (p : ChunkPayloadData → Bool) (xs : List ChunkPayloadData) → bytes_of (filter (λ c. not (p c)) xs) + bytes_of (filter p xs) ≡ bytes_of xs
removed_and_left p xs = sum_by-those_both p (λ c. length c.user_data) xs

-- what is removed is no more than all
pub removed_le : (p : ChunkPayloadData → Bool) (xs : List ChunkPayloadData) → bytes_of (filter p xs) ≤ bytes_of xs
removed_le p xs = let both = removed_and_left p xs in omega arith

-- a change that leaves the bytes
pub bytes_of-change_where : (p : ChunkPayloadData → Bool) (f : ChunkPayloadData → ChunkPayloadData)
    → ((c : ChunkPayloadData) → length (f c).user_data ≡ length c.user_data) → (xs : List ChunkPayloadData) → bytes_of (change_where p f xs) ≡ bytes_of xs
bytes_of-change_where p f same [] = refl
bytes_of-change_where p f same (x ∷ xs) =
    sum_by-cons (λ (c : ChunkPayloadData). length c.user_data) (if p x then f x else x) (change_where p f xs)
    ∙ ap₂ (λ a b. a + b) (step (p x)) (bytes_of-change_where p f same xs)
    ∙ sym (sum_by-cons (λ (c : ChunkPayloadData). length c.user_data) x xs)
  where
    step : (b : Bool) → length (if b then f x else x).user_data ≡ length x.user_data
    step true = same x
    step false = refl

-- the last of a list with a chunk before it
pub last_after : (last : Option ChunkPayloadData) (c : ChunkPayloadData) (cs : List ChunkPayloadData)
    → last_of (option_to_list last ++ c ∷ cs) ≡ last_of (c ∷ cs)
last_after None c cs = refl
last_after (Some d) c cs = refl

last_some : (x : ChunkPayloadData) (xs : List ChunkPayloadData) (o : Option ChunkPayloadData) → option_or (last_of (x ∷ xs)) o ≡ last_of (x ∷ xs)
last_some x [] o = refl
last_some x (y ∷ ys) o = last_some y ys o

-- the last of two lists
pub last_of-append : (xs ys : List ChunkPayloadData) → last_of (xs ++ ys) ≡ option_or (last_of ys) (last_of xs)
last_of-append xs [] = ap last_of (append-nil xs)
last_of-append xs (y ∷ ys) = behind xs ∙ sym (last_some y ys (last_of xs))
  where
    behind : (xs : List ChunkPayloadData) → last_of (xs ++ y ∷ ys) ≡ last_of (y ∷ ys)
    behind [] = refl
    behind (x ∷ []) = refl
    behind (x ∷ z ∷ zs) = behind (z ∷ zs)
