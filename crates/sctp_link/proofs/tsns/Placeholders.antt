-- TSNs as chunks that say nothing else.
use Rattle.std.proofs.Common.{◌≡◌, ℕ, zero, suc, ◌<◌, ◌^◌, Bool, true, false, List, [], ◌∷◌, length, map, refl, ap, sym, ◌∙◌, arith}
use Rattle.std.specs.Prelude.{if◌then◌else◌, ◌==◌, ◌&&◌, ◌||◌, not}
use Rattle.std.specs.List.{list_any, All, filter}
use Rattle.std.proofs.lemmas.List.Sums.{sum_by-cons}
use Rattle.sctp_util.specs.Lists.{insert_before}
use Rattle.sctp_util.specs.Serial.{distance, comes_before, at_or_before}
use Rattle.sctp_data.specs.declared.chunk.chunk_payload_data.ChunkPayloadData.{ChunkPayloadData}
use Rattle.sctp_serial.specs.DataChunks.{chunk_before, bytes_of, tsns}
use Rattle.sctp_serial.specs.Window
use Rattle.sctp_serial.specs.Window.{IsWithinHalf, IsWindow}
use Rattle.sctp_outbound.specs.payload_queue.PayloadQueue.{past}
use Rattle.sctp_receiver.specs.TsnFilter.{placeholder, rise_beyond}
use Rattle.sctp_receiver.proofs.TsnLists.{step-of, IsStep}
use Rattle.sctp_serial.proofs.lemmas.Serials.{held-any}

pub tsns-placeholder : (ts : List ℕ) → tsns (map placeholder ts) ≡ ts
tsns-placeholder [] = refl
tsns-placeholder (t ∷ ts) = ap (λ us. t ∷ us) (tsns-placeholder ts)

-- what is made of such chunks is such chunks
pub as-placeholders : (cs : List ChunkPayloadData) (ts : List ℕ) → cs ≡ map placeholder ts → cs ≡ map placeholder (tsns cs)
as-placeholders cs ts e = e ∙ ap (map placeholder) (sym (tsns-placeholder ts) ∙ ap tsns (sym e))

pub placeholders-inserted : (x : ℕ) (ts : List ℕ)
    → insert_before chunk_before (placeholder x) (map placeholder ts) ≡ map placeholder (insert_before comes_before x ts)
placeholders-inserted x [] = refl
placeholders-inserted x (t ∷ ts) = step (comes_before x t) (placeholders-inserted x ts)
  where
    step : (b : Bool) → insert_before chunk_before (placeholder x) (map placeholder ts) ≡ map placeholder (insert_before comes_before x ts)
        → (if b then placeholder x ∷ placeholder t ∷ map placeholder ts else placeholder t ∷ insert_before chunk_before (placeholder x) (map placeholder ts))
        ≡ map placeholder (if b then x ∷ t ∷ ts else t ∷ insert_before comes_before x ts)
    step true ih = refl
    step false ih = ap (λ cs. placeholder t ∷ cs) ih

pub placeholders-past : (n : ℕ) (ts : List ℕ) → past n (map placeholder ts) ≡ map placeholder (filter (λ t. not (at_or_before t n)) ts)
placeholders-past n [] = refl
placeholders-past n (t ∷ ts) = step (not (at_or_before t n)) (placeholders-past n ts)
  where
    step : (b : Bool) → past n (map placeholder ts) ≡ map placeholder (filter (λ u. not (at_or_before u n)) ts)
        → (if b then placeholder t ∷ past n (map placeholder ts)
        else past n (map placeholder ts)) ≡ map placeholder (if b then t ∷ filter (λ u. not (at_or_before u n)) ts else filter (λ u. not (at_or_before u n)) ts)
    step true ih = ap (λ cs. placeholder t ∷ cs) ih
    step false ih = ih

pub no-bytes : (ts : List ℕ) → bytes_of (map placeholder ts) ≡ 0
no-bytes [] = refl
no-bytes (t ∷ ts) = let more = sum_by-cons (λ (c : ChunkPayloadData). length c.user_data) (placeholder t) (map placeholder ts) in let rest = no-bytes ts in
    omega arith

-- the queue tells new what did not come
pub new-is : (cs : List ChunkPayloadData) (t c : ℕ) → Window.is_new cs t c ≡ not (at_or_before t c || list_any (λ u. u == t) (tsns cs))
new-is cs t c = ap (λ b. not b && not (at_or_before t c)) (held-any t cs) ∙ both-not (list_any (λ u. u == t) (tsns cs)) (at_or_before t c)
  where
    both-not : (a b : Bool) → (not a && not b) ≡ not (b || a)
    both-not true true = refl
    both-not true false = refl
    both-not false true = refl
    both-not false false = refl

-- ## Windows

pub within : (c far : ℕ) (cs : List ChunkPayloadData) → rise_beyond c far (tsns cs) ≡ true → All (λ x. IsWithinHalf c x.tsn) cs
within c far [] h k d lt = absurd (omega arith)
within c far (x ∷ cs) h zero d lt = let s = step-of c far x.tsn (tsns cs) h in (omega (arith, s.0.farther), omega (arith, s.0.near))
within c far (x ∷ cs) h (suc k) d lt = let s = step-of c far x.tsn (tsns cs) h in within c (distance c x.tsn) cs s.1 k d (omega arith)

pub window : (c t : ℕ) (cs : List ChunkPayloadData) → c < 2 ^ 32 → IsStep c 1 t → rise_beyond c 1 (tsns cs) ≡ true → IsWindow c cs t
window c t cs lt s h = record { base_in_range = lt; number = (omega (arith, s.farther), omega (arith, s.near)); held = within c 1 cs h }
