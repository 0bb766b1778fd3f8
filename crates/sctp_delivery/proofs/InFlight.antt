-- What is outstanding was sent: it is in the line of entries, with the same wire fields. And each chunk stands for the entry with its TSN.
use Rattle.sctp_delivery.proofs.Names.{arith, common_steps, nat_tests, ◌≡◌, ℕ, Bool, true, not, List, ◌∷◌, ◌++◌, take, drop, refl, ap, sym, ◌∙◌, change_where}
use Rattle.sctp_delivery.proofs.Names.{both, not_both, ChunkPayloadData, data_of, as_abandoned, as_acknowledged, is_outstanding}
use Rattle.sctp_delivery.proofs.Sent.{Entry, WasSent, sent-more}
use Rattle.sctp_delivery.proofs.Cases.{all_streams}
use Rattle.sctp_delivery.proofs.SpreadEntries.{IsPlacedOn, placed-more}
use Rattle.sctp_delivery.proofs.Every.{Every, every-changed, every-joined, every-left, every-of, every-taken}

-- with the number of its message on these streams
abbrev pub IsKnownOn : (ℕ → Bool) → ℕ → List Entry → ChunkPayloadData → Type 0
IsKnownOn on first sent c =
    (is_outstanding c ≡ true → WasSent sent (data_of c))
    × IsPlacedOn on first sent c

abbrev pub IsKnown : ℕ → List Entry → ChunkPayloadData → Type 0
IsKnown first sent c = IsKnownOn all_streams first sent c

-- each chunk is so
abbrev pub AreKnownOn : (ℕ → Bool) → ℕ → List Entry → List ChunkPayloadData → Type 0
AreKnownOn on first sent cs = Every (IsKnownOn on first sent) cs

pub known-more : (on : ℕ → Bool) (first : ℕ) (x : Entry) (sent : List Entry) (cs : List ChunkPayloadData) → AreKnownOn on first sent cs
    → AreKnownOn on first (x ∷ sent) cs
known-more on first x sent cs k = grind (arith, nat_tests, common_steps, every-of, sent-more, placed-more)

-- of the same kind, stream, number, TSN and message, and it ends this where the other does
pub record IsAlike (c d : ChunkPayloadData) : Type 0 where
  pub kind : d.unordered ≡ c.unordered
  pub stream : d.stream_identifier ≡ c.stream_identifier
  pub number : d.stream_sequence_number ≡ c.stream_sequence_number
  pub tsn : d.tsn ≡ c.tsn
  pub message : d.message_id ≡ c.message_id
  pub ends : d.ending_fragment ≡ c.ending_fragment

-- so it stands where the other did
pub placed-alike : (on : ℕ → Bool) (first : ℕ) (sent : List Entry) (c d : ChunkPayloadData) → IsAlike c d → IsPlacedOn on first sent c
    → IsPlacedOn on first sent d
placed-alike on first sent c d a i = grind (arith, nat_tests, common_steps)

-- a change after which a chunk is outstanding only where it was, with the same wire fields, and is always alike
abbrev pub KeepsData : (ChunkPayloadData → ChunkPayloadData) → Type 0
KeepsData f =
    (c : ChunkPayloadData)
    → (is_outstanding (f c) ≡ true → (is_outstanding c ≡ true) × (data_of (f c) ≡ data_of c)) × IsAlike c (f c)

pub acknowledged-keeps : KeepsData as_acknowledged
acknowledged-keeps c = (λ o. absurd (not_both o), record { kind = refl; stream = refl; number = refl; tsn = refl; message = refl; ends = refl })

pub abandoned-not : (c : ChunkPayloadData) → c.abandoned ≡ true → is_outstanding c ≡ true → ⊥
abandoned-not c e o = not_both (ap not (sym e) ∙ (both (not c.acked) (not c.abandoned) o).1)

pub abandoned-keeps : KeepsData as_abandoned
abandoned-keeps c =
    (λ o. absurd (abandoned-not (as_abandoned c) refl o), record { kind = refl; stream = refl; number = refl; tsn = refl; message = refl; ends = refl })

known-alike : (on : ℕ → Bool) (first : ℕ) (sent : List Entry) (f : ChunkPayloadData → ChunkPayloadData) → KeepsData f → (c : ChunkPayloadData)
    → IsKnownOn on first sent c → IsKnownOn on first sent (f c)
known-alike on first sent f keeps c k = grind (arith, nat_tests, common_steps)

pub known-changed : (on : ℕ → Bool) (first : ℕ) (sent : List Entry) (p : ChunkPayloadData → Bool) (f : ChunkPayloadData → ChunkPayloadData) → KeepsData f
    → (cs : List ChunkPayloadData) → AreKnownOn on first sent cs → AreKnownOn on first sent (change_where p f cs)
known-changed on first sent p f keeps cs k = every-changed (IsKnownOn on first sent) p f (λ c _ i. known-alike on first sent f keeps c i) cs k

-- only the first so many are changed
pub known-part-changed : (on : ℕ → Bool) (first : ℕ) (sent : List Entry) (p : ChunkPayloadData → Bool) (f : ChunkPayloadData → ChunkPayloadData) → KeepsData f
    → (i : ℕ) (cs : List ChunkPayloadData) → AreKnownOn on first sent cs → AreKnownOn on first sent (change_where p f (take i cs) ++ drop i cs)
known-part-changed on first sent p f keeps i cs k = grind (arith, nat_tests, common_steps, every-joined, known-changed, every-taken, every-left)
