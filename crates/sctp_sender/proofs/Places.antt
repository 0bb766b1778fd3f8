-- Where the chunks of a message stand in flight.
use Rattle.sctp_sender.proofs.Names.{◌≡◌, ℕ, zero, suc, ◌+◌, ◌<◌, ◌≤◌, ◌%◌, ◌^◌, Bool, true, false, List, [], ◌∷◌, length, take, drop, get_or, Option, Some, None, refl, ap, inl, inr, slice_get}
use Rattle.sctp_sender.proofs.Names.{sym, ◌∙◌, arith, ◌||◌, find, list_any, ne_eqb, nat_tests, get_or_default, ChunkPayloadData, IsBetween, is_of}
use Rattle.sctp_sender.proofs.Names.{following_tsn, has_tsn, Flight, IsContiguous, IsApartAt}
use Rattle.sctp_util.specs.Serial.{distance}
use Rattle.sctp_sender.proofs.Lates.{found-passes}
use Rattle.sctp_sender.proofs.Points.{found-place}
use Rattle.std.proofs.lemmas.Bool.{cases_lt}
use Rattle.std.proofs.lemmas.Option.{slice_get_past}
use Rattle.sctp_sender.proofs.Names.{slice_get-get_or}
use Rattle.sctp_sender.proofs.Runs.{any_chunk, found-at, tsn-at}

pub away : (acked k : ℕ) → acked < 2 ^ 32 → k < 2 ^ 31 → distance acked ((following_tsn acked + k) % 2 ^ 32) ≡ suc k
unfolding distance
away acked k small few = omega arith

-- the place of a TSN in flight is how far it is past the acknowledged one, less one
pub place-is : (f : Flight) → IsContiguous f → (tsn : ℕ) (c : ChunkPayloadData) → find (has_tsn tsn) f.queue.inflight.chunks ≡ Some c
    → (k : ℕ) × (k < length f.queue.inflight.chunks) × (distance f.acked_tsn tsn ≡ suc k) × (c ≡ get_or f.queue.inflight.chunks k c)
place-is f inv tsn c found =
    let cs = f.queue.inflight.chunks in
    let h = found-place (has_tsn tsn) cs c found in
    let passes : has_tsn tsn c ≡ true = found-passes (has_tsn tsn) cs c found in
    let own : c.tsn ≡ tsn = grind (arith, nat_tests, passes) in
    let at : c.tsn ≡ (following_tsn f.acked_tsn + h.0) % 2 ^ 32 = ap (λ (x : ChunkPayloadData). x.tsn) h.2
    ∙ tsn-at cs (following_tsn f.acked_tsn) h.0 c (omega (arith, inv.in_range)) inv.run h.1 in
    (h.0, h.1, ap (distance f.acked_tsn) (sym own ∙ at) ∙ away f.acked_tsn h.0 inv.in_range (omega (arith, h.1, inv.few)), h.2)

-- a TSN is not in flight that is at no place
pub not-in-flight : (f : Flight) → IsContiguous f → (tsn : ℕ) → ((k : ℕ) → k < length f.queue.inflight.chunks → distance f.acked_tsn tsn ≡ suc k → ⊥)
    → find (has_tsn tsn) f.queue.inflight.chunks ≡ None
not-in-flight f inv tsn never = by (find (has_tsn tsn) f.queue.inflight.chunks) refl
  where
    by : (o : Option ChunkPayloadData) → find (has_tsn tsn) f.queue.inflight.chunks ≡ o → o ≡ None
    by None e = refl
    by (Some c) e = let h = place-is f inv tsn c e in absurd (never h.0 h.1 h.2)

same-tsn : (acked tsn k : ℕ) → acked < 2 ^ 32 → tsn < 2 ^ 32 → k < 2 ^ 31 → distance acked tsn ≡ suc k → (following_tsn acked + k) % 2 ^ 32 ≡ tsn
unfolding distance
same-tsn acked tsn k small fits few e = omega (arith, e)

-- the chunk at the place of a TSN is the one that has it
pub at-place : (f : Flight) → IsContiguous f → (tsn k : ℕ) → tsn < 2 ^ 32 → distance f.acked_tsn tsn ≡ suc k
    → slice_get f.queue.inflight.chunks k ≡ find (has_tsn tsn) f.queue.inflight.chunks
at-place f inv tsn k fits far =
    let cs = f.queue.inflight.chunks in
    let first = following_tsn f.acked_tsn in
    elim (cases_lt k (length cs)) [
      | inl lt ↦ slice_get-get_or cs k any_chunk lt ∙ sym (found-at cs first k any_chunk (omega (arith, inv.in_range)) inv.run inv.few lt)
          ∙ ap (λ t. find (has_tsn t) cs) (same-tsn f.acked_tsn tsn k inv.in_range fits (omega (arith, inv.few, lt)) far)
      | inr ge ↦ slice_get_past cs k ge ∙ sym (not-in-flight f inv tsn (λ j lt e.
          let same : suc j ≡ suc k = sym e ∙ far in absurd (omega (arith, same, lt, ge))))
    ]

pub none-taken : (p : ChunkPayloadData → Bool) (cs : List ChunkPayloadData) (n : ℕ)
    → ((i : ℕ) (d : ChunkPayloadData) → i < n → i < length cs → p (get_or cs i d) ≡ false) → list_any p (take n cs) ≡ false
none-taken p cs zero none = refl
none-taken p [] (suc n) none = refl
none-taken p (c ∷ cs) (suc n) none = ap (λ b. b || list_any p (take n cs)) (none 0 c (omega arith) (omega arith))
    ∙ none-taken p cs n (λ i d lt in'. none (suc i) d (omega (arith, lt)) (omega (arith, in')))

pub none-dropped : (p : ChunkPayloadData → Bool) (cs : List ChunkPayloadData) (n : ℕ)
    → ((j : ℕ) (d : ChunkPayloadData) → n ≤ j → j < length cs → p (get_or cs j d) ≡ false) → list_any p (drop n cs) ≡ false
none-dropped p [] zero none = refl
none-dropped p [] (suc n) none = refl
none-dropped p (c ∷ cs) zero none = ap (λ b. b || list_any p cs) (none 0 c (omega arith) (omega arith))
    ∙ none-dropped p cs zero (λ j d le in'. none (suc j) d (omega arith) (omega (arith, in')))
none-dropped p (c ∷ cs) (suc n) none = none-dropped p cs n (λ j d le in'. none (suc j) d (omega (arith, le)) (omega (arith, in')))

-- between two places where messages part, on both sides of a chunk, stands its message
pub between : (cs : List ChunkPayloadData) (start end k : ℕ) (c : ChunkPayloadData) → start ≤ k → k < end → end ≤ length cs → IsApartAt start cs
    → IsApartAt end cs → c ≡ get_or cs k c → IsBetween c.message_id start end cs
between cs start end k c low high in' before behind here = record {
  order = omega (arith, low, high);
  inside = in';
  before = none-taken (is_of c.message_id) cs start (λ i d lt less. ne_eqb _ _ (λ e. before i k d lt low (omega (arith, high, in')) (e ∙ own d)));
  behind = none-dropped (is_of c.message_id) cs end (λ j d le less. ne_eqb _ _ (λ e. behind k j d high le less (sym (own d) ∙ sym e)));
}
  where
    own : (d : ChunkPayloadData) → c.message_id ≡ (get_or cs k d).message_id
    own d = ap (λ (x : ChunkPayloadData). x.message_id) (here ∙ get_or_default cs k c d (omega (arith, high, in')))
