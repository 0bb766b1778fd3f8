-- Sets of fragments.
use Rattle.std.proofs.Common.{◌≡◌, ℕ, Bool, true, false, not, if◌then◌else◌, List, [], ◌∷◌, length, get_or, take, ◌<◌, arith, refl, sym, ap, ◌∙◌}
use Rattle.std.specs.List.{position_or_len, list_any}
use Rattle.sctp_util.specs.Serial.{at_or_before}
use Rattle.sctp_data.specs.declared.chunk.chunk_payload_data.PayloadProtocolIdentifier.{PayloadProtocolIdentifier}
use Rattle.sctp_data.specs.declared.chunk.chunk_payload_data.ChunkPayloadData.{ChunkPayloadData}
use Rattle.sctp_data.specs.ChunkSet.{ChunkSet}
use Rattle.sctp_reassembly.specs.reassembly_queue.ReassemblyQueue.{ReassemblyState, leading_upto}
use Rattle.sctp_serial.proofs.lemmas.ListEdits.{later, here, neither}
use Rattle.sctp_reassembly.specs.reassembly_queue.Fragments.{has_ssn, chunks_of_ssn}

-- two sets that differ in nothing else
pub same_but_chunks : {ssn : ℕ} {ppi : PayloadProtocolIdentifier} {xs ys : List ChunkPayloadData} → xs ≡ ys
    → (let s : ChunkSet = record { ssn = ssn; ppi = ppi; chunks = xs } in s) ≡ record { ssn = ssn; ppi = ppi; chunks = ys }
same_but_chunks {ssn} {ppi} e = ap (λ cs. let s : ChunkSet = record { ssn = ssn; ppi = ppi; chunks = cs } in s) e

-- a reassembly queue of these parts
abbrev pub state_of : ℕ → ℕ → List ChunkSet → List ChunkSet → List ChunkPayloadData → ℕ → ℕ → ℕ → ReassemblyState
state_of si next ordered unordered unassembled bytes max places =
    record {
      si = si;
      held = record { next_ssn = next; ordered = ordered; unordered = unordered; unassembled = unassembled };
      bytes = bytes;
      max_message_size = max;
      places = places;
    }

-- the unassembled fragments up to a TSN stand in front of the first after it
pub leading_upto-position : (t : ℕ) (xs : List ChunkPayloadData) → take (position_or_len (λ x. not (at_or_before x.tsn t)) xs) xs ≡ leading_upto t xs
leading_upto-position t [] = refl
leading_upto-position t (x ∷ xs) = at_head (at_or_before x.tsn t) refl (leading_upto-position t xs)
  where
    at_head : (b : Bool) → at_or_before x.tsn t ≡ b → take (position_or_len (λ y. not (at_or_before y.tsn t)) xs) xs ≡ leading_upto t xs
        → take (position_or_len (λ y. not (at_or_before y.tsn t)) (x ∷ xs)) (x ∷ xs) ≡ (if at_or_before x.tsn t then x ∷ leading_upto t xs else [])
    at_head true e rec = ap (λ i. take i (x ∷ xs)) (later (λ (y : ChunkPayloadData). not (at_or_before y.tsn t)) x xs (ap not e)) ∙ ap (λ ys. x ∷ ys) rec
        ∙ ap (λ b. if b then x ∷ leading_upto t xs else []) (sym e)
    at_head false e rec = ap (λ i. take i (x ∷ xs)) (here (λ (y : ChunkPayloadData). not (at_or_before y.tsn t)) x xs (ap not e))
        ∙ ap (λ b. if b then x ∷ leading_upto t xs else []) (sym e)

module _ (ssn : ℕ) where
  -- the chunks of the first set of a number
  pub chunks_at : (sets : List ChunkSet) (d : ChunkSet) → position_or_len (has_ssn ssn) sets < length sets
      → chunks_of_ssn ssn sets ≡ (get_or sets (position_or_len (has_ssn ssn) sets) d).chunks
  chunks_at [] d lt = absurd (omega arith)
  chunks_at (x ∷ xs) d lt = at_head (has_ssn ssn x) refl (chunks_at xs d)
    where
      at_head : (b : Bool) → has_ssn ssn x ≡ b
          → (position_or_len (has_ssn ssn) xs < length xs → chunks_of_ssn ssn xs ≡ (get_or xs (position_or_len (has_ssn ssn) xs) d).chunks)
          → (if has_ssn ssn x then x.chunks else chunks_of_ssn ssn xs) ≡ (get_or (x ∷ xs) (position_or_len (has_ssn ssn) (x ∷ xs)) d).chunks
      at_head true e rec = ap (λ b. if b then x.chunks else chunks_of_ssn ssn xs) e ∙ ap (λ i. (get_or (x ∷ xs) i d).chunks) (sym (here (has_ssn ssn) x xs e))
      at_head false e rec =
          let more = later (has_ssn ssn) x xs e in
          ap (λ b. if b then x.chunks else chunks_of_ssn ssn xs) e ∙ rec (omega (arith, more, lt)) ∙ ap (λ i. (get_or (x ∷ xs) i d).chunks) (sym more)

  pub chunks_none : (sets : List ChunkSet) → list_any (has_ssn ssn) sets ≡ false → chunks_of_ssn ssn sets ≡ []
  chunks_none [] h = refl
  chunks_none (x ∷ xs) h = let (a, b) = neither (has_ssn ssn x) (list_any (has_ssn ssn) xs) h in rw a (chunks_none xs b)
