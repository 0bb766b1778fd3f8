-- Runs of held chunks, told by distances from the cumulative TSN.
use Rattle.std.proofs.Common.{◌≡◌, ◌+◌, ◌-◌, ◌%◌, ◌^◌, ◌<◌, ◌≤◌, ℕ, false, List, length, map, min, get_or, inl, inr, sym, ap, ◌∙◌, subst, arith}
use Rattle.std.proofs.lemmas.Bool.{cases_lt}
use Rattle.std.proofs.lemmas.List.{get_or-map, get_or_default, get_or_past, length-map}
use Rattle.sctp_data.specs.declared.chunk.chunk_payload_data.ChunkPayloadData.{ChunkPayloadData}
use Rattle.sctp_util.specs.Serial.{distance}
use Rattle.sctp_util.proofs.Distances.{distance_cases}
use Rattle.sctp_serial.specs.Runs.{IsRising}
use Rattle.sctp_serial.specs.Window.{IsSerial}
use Rattle.sctp_serial.proofs.lemmas.AscendingEdits.{distance_self}
use Rattle.sctp_outbound.proofs.lemmas.payload_queue.Gaps.{few, next_of, out_from}
use Rattle.sctp_outbound.proofs.lemmas.payload_queue.Marked.{any_chunk}
use Rattle.sctp_outbound.specs.declared.payload_queue.blocks.Run.{Run}
use Rattle.sctp_outbound.specs.payload_queue.Blocks.{AscendsFrom, IsAtOffset, IsRunFrom, IsRunUntil, is_offset, offset_at}

abbrev tsn_of : ChunkPayloadData → ℕ
tsn_of c = c.tsn

-- there are at most half a circle of places
pub place_small : (xs : List ChunkPayloadData) → IsSerial xs → (k : ℕ) → k < length xs → k < 2 ^ 31
place_small xs serial k short =
    elim (cases_lt 0 k) [ inl later ↦ few xs serial 0 any_chunk (omega arith) k later short | inr at ↦ omega arith ]

-- the number behind one at a distance is one farther
farther_by_one : (c x y far : ℕ) → c < 2 ^ 32 → x < 2 ^ 32 → y < 2 ^ 32 → distance c x ≡ far → far < 2 ^ 16 → y ≡ (x + 1) % 2 ^ 32 → distance c y ≡ far + 1
farther_by_one c x y far hc hx hy e small next = elim (distance_cases c x hc hx) [
  | inl p ↦ elim (distance_cases c y hc hy) [ inl q ↦ omega arith | inr q ↦ omega arith ]
  | inr p ↦ elim (distance_cases c y hc hy) [ inl q ↦ omega arith | inr q ↦ omega arith ]
]

-- the number at a distance
number_at : (c x far : ℕ) → c < 2 ^ 32 → x < 2 ^ 32 → distance c x ≡ far → x ≡ (c + far) % 2 ^ 32
number_at c x far hc hx e = elim (distance_cases c x hc hx) [ inl p ↦ omega arith | inr p ↦ omega arith ]

pub offset_is : (cumulative : ℕ) (xs : List ChunkPayloadData) (place tsn : ℕ) → place < length xs → ((d : ChunkPayloadData) → (get_or xs place d).tsn ≡ tsn)
    → offset_at cumulative xs place ≡ distance cumulative tsn
offset_is cumulative xs place tsn short number =
    ap (distance cumulative) (get_or-map tsn_of xs place any_chunk cumulative short ∙ number any_chunk)

pub offset_here : (cumulative : ℕ) (xs : List ChunkPayloadData) (place offset : ℕ) → IsAtOffset cumulative xs place offset → (d : ChunkPayloadData)
    → distance cumulative (get_or xs place d).tsn ≡ offset
offset_here cumulative xs place offset at d = ap (distance cumulative) (sym (get_or-map tsn_of xs place d cumulative at.in_range)) ∙ sym at.here

-- from a place that no block can hold on, none can hold any
pub out_at : (cumulative : ℕ) (xs : List ChunkPayloadData) (place offset : ℕ) → AscendsFrom cumulative xs place → offset ≡ offset_at cumulative xs place
    → is_offset offset ≡ false → (k : ℕ) (d : ChunkPayloadData) → place ≤ k → k < length xs → is_offset (distance cumulative (get_or xs k d).tsn) ≡ false
out_at cumulative xs place offset ascends here out k d le short =
    let x = get_or xs place d in
    let in_range : place < length xs = omega arith in
    out_from cumulative xs place x ascends in_range (get_or_default xs place d x in_range)
    (ap is_offset (ap (distance cumulative) (sym (get_or-map tsn_of xs place d cumulative in_range)) ∙ sym here) ∙ out) k d le short

module _ (cumulative : ℕ) (xs : List ChunkPayloadData) (fits : cumulative < 2 ^ 32) where
  pub offset_past : (place : ℕ) → length xs ≤ place → offset_at cumulative xs place ≡ 0
  offset_past place le =
      ap (distance cumulative) (get_or_past (map tsn_of xs) place cumulative (omega (arith, length-map xs tsn_of))) ∙ distance_self cumulative fits

  -- a place at a distance that a block can hold has a chunk
  pub at_offset : (place offset : ℕ) → offset ≡ offset_at cumulative xs place → 0 < offset → offset < 2 ^ 16 → IsAtOffset cumulative xs place offset
  at_offset place offset here some small = record {
    in_range = elim (cases_lt place (length xs)) [ inl short ↦ short | inr past ↦ absurd (omega (arith, here ∙ offset_past place past)) ];
    positive = some;
    small = small;
    here = here;
  }

  module _ (serial : IsSerial xs) where
    pub number_of : (place offset : ℕ) → IsAtOffset cumulative xs place offset → (d : ChunkPayloadData)
        → (get_or xs place d).tsn ≡ (cumulative + offset) % 2 ^ 32
    number_of place offset at d = number_at cumulative (get_or xs place d).tsn offset fits (serial.in_range place d at.in_range)
        (offset_here cumulative xs place offset at d)

    -- two places next to each other whose distances are
    pub rises_one : (i offset : ℕ) → IsAtOffset cumulative xs i offset → IsAtOffset cumulative xs (i + 1) (offset + 1) → IsRising xs i (i + 1)
    rises_one i offset p q k d le lt =
        subst (λ j. (get_or xs (j + 1) d).tsn ≡ ((get_or xs j d).tsn + 1) % 2 ^ 32) {x = i} (omega arith)
        (next_of cumulative (get_or xs i d).tsn (get_or xs (i + 1) d).tsn fits (serial.in_range i d p.in_range) (serial.in_range (i + 1) d q.in_range)
        (offset_here cumulative xs (i + 1) (offset + 1) q d ∙ ap (λ o. o + 1) (sym (offset_here cumulative xs i offset p d))))

    -- a run that ends where the next distance is not next to its last one, or no block can hold it
    pub run_ended : (place offset last far : ℕ) (run : Run) → IsAtOffset cumulative xs place offset → place ≤ last → far ≡ offset + (last - place)
        → IsRising xs place last → IsAtOffset cumulative xs last far → run.next ≡ last + 1 → run.end ≡ far
        → run.behind ≡ offset_at cumulative xs (last + 1) → (run.behind ≡ far + 1 → run.behind < 2 ^ 16 → ⊥) → IsRunFrom cumulative xs place offset run
    run_ended place offset last far run at le sum rising here next same behind breaks = record {
      some = omega arith;
      rises = subst (IsRunUntil xs (place + min (length xs - place) (2 ^ 16 - offset)) place) {x = last} (omega arith) (record {
        from = le;
        to = omega (arith, at, here);
        rising = rising;
        stops = λ within d up.
            let short : last + 1 < length xs = omega arith in
            let farther : distance cumulative (get_or xs (last + 1) d).tsn ≡ far + 1 =
            farther_by_one cumulative (get_or xs last d).tsn (get_or xs (last + 1) d).tsn far fits (serial.in_range last d here.in_range)
            (serial.in_range (last + 1) d short) (offset_here cumulative xs last far here d) here.small up in
            let told : run.behind ≡ far + 1 = behind ∙ ap (distance cumulative) (get_or-map tsn_of xs (last + 1) d cumulative short) ∙ farther in
            breaks told (omega arith);
      });
      ends = omega arith;
      goes_on = behind ∙ ap (offset_at cumulative xs) (sym next);
    }
