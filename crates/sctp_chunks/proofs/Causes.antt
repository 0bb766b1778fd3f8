-- Causes that were read, and causes as they are written.
use Rattle.std.proofs.Common.{◌≡◌, ℕ, zero, suc, ◌+◌, ◌-◌, ◌≤◌, ◌<◌, List, [], ◌∷◌, ◌++◌, length, take, drop, get_or, refl, ap, ◌∙◌, arith, length-append}
use Rattle.std.proofs.Common.{length-take, length-drop}
use Rattle.std.proofs.lemmas.List.{append-nil, take_more}
use Rattle.std.proofs.lemmas.List.Concat.{flat_map-cons, flat_map-append}
use Rattle.sctp_util.proofs.Fields.{length_be16}
use Rattle.sctp_util.specs.Walk.{Walks}
use Rattle.sctp_chunks.specs.declared.chunk.error_cause.ErrorCause.{ErrorCause}
use Rattle.sctp_chunks.specs.ErrorCause.{ReadsCause, ReadsCauses, after_cause, cause_declared_length, cause_value_at, cause_encoding, causes_encoding}

pub length_cause_encoding : (c : ErrorCause) → length (cause_encoding c) ≡ 4 + length c.raw
unfolding cause_encoding
length_cause_encoding c = simp (length-append, length_be16) (omega arith)

-- the causes up to a place and the one there take no more than all of them
pub causes_at : (cs : List ErrorCause) (i : ℕ) (d : ErrorCause) → i < length cs
    → length (causes_encoding (take i cs)) + (4 + length (get_or cs i d).raw) ≤ length (causes_encoding cs)
causes_at [] i d lt = absurd (omega arith)
causes_at (c ∷ cs) zero d lt = rw (flat_map-cons, length-append, length_cause_encoding c) (omega arith)
causes_at (c ∷ cs) (suc i) d lt =
    let more = causes_at cs i d (omega arith) in
    let here : length (causes_encoding (take (suc i) (c ∷ cs))) ≡ length (cause_encoding c) + length (causes_encoding (take i cs)) =
    rw (flat_map-cons, length-append) refl in
    let all : length (causes_encoding (c ∷ cs)) ≡ length (cause_encoding c) + length (causes_encoding cs) = rw (flat_map-cons, length-append) refl in
    omega (arith, more, here, all)

cause_short : (bytes : List ℕ) (c : ErrorCause) → ReadsCause bytes c → length (cause_encoding c) ≤ cause_declared_length bytes
unfolding cause_value_at
cause_short bytes c r = omega (
  arith,
  length_cause_encoding c,
  ap (λ (x : ErrorCause). length x.raw) r.fields,
  length-take (cause_declared_length bytes - 4) (drop 4 bytes),
  r.is_cause.least,
)

walked_short : (bytes : List ℕ) (cs : List ErrorCause) (rest : List ℕ) → Walks ReadsCause after_cause bytes cs rest → length (causes_encoding cs) ≤ length bytes
unfolding Walks after_cause
walked_short bytes [] rest w = omega arith
walked_short bytes (c ∷ cs) rest w =
    let next = walked_short (after_cause bytes) cs rest w.1 in
    let cut = length-drop (cause_declared_length bytes) bytes in
    rw (flat_map-cons, length-append) (omega (arith, next, cut, cause_short bytes c w.0, w.0.is_cause.within))

-- causes that were read are written in no more room
pub causes_short : (bytes : List ℕ) (cs : List ErrorCause) → ReadsCauses bytes cs → length (causes_encoding cs) ≤ length bytes
causes_short bytes cs r = walked_short bytes cs r.rest r.walk

-- one cause more
pub causes_next : (cs : List ErrorCause) (i : ℕ) (d : ErrorCause) → i < length cs
    → causes_encoding (take (i + 1) cs) ≡ causes_encoding (take i cs) ++ cause_encoding (get_or cs i d)
causes_next cs i d lt = rw (take_more cs i d lt, flat_map-append, flat_map-cons, append-nil) refl

pub causes_next_length : (cs : List ErrorCause) (i : ℕ) (d : ErrorCause) → i < length cs
    → length (causes_encoding (take (i + 1) cs)) ≡ length (causes_encoding (take i cs)) + (4 + length (get_or cs i d).raw)
causes_next_length cs i d lt = ap length (causes_next cs i d lt) ∙ rw (length-append, length_cause_encoding) refl
