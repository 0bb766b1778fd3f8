-- How long the packet is that is being written.
use Rattle.std.proofs.Common.{◌≡◌, ℕ, ◌<◌, ◌≤◌, List, [], ◌++◌, length, take, drop, arith, ap, ◌∙◌, length-append, inl, inr, Option, Some, subst}
use Rattle.sctp_association.specs.Drafts.{bytes_in, limit_in}
use Rattle.sctp_packets.proofs.Drafts.{length_stored}
use Rattle.sctp_packets.proofs.Sealed.{length_head_encoding}
use Rattle.sctp_packets.specs.declared.packet.CommonHeader.{CommonHeader}
use Rattle.sctp_packets.specs.Draft.{Draft, IsDraft, headed}
use Rattle.sctp_packets.specs.Packet.{head_of}
use Rattle.sctp_util.specs.Field.{le32}
use Rattle.sctp_util.specs.Padding.{four_zeroes}
use Rattle.sctp_sender.proofs.Names.{cases_lt}

-- a header alone
pub headed_length : (h : CommonHeader) (bytes : List ℕ) → IsDraft (headed h) bytes → length bytes ≡ 12
headed_length h bytes draft = omega (
  arith,
  ap length draft.unsealed,
  length-append (head_of (headed h) ++ four_zeroes) [],
  length-append (head_of (headed h)) four_zeroes,
  length_head_encoding h.source_port h.destination_port h.verification_tag,
)

pub headed_within : (h : CommonHeader) (bytes : List ℕ) (limit : ℕ) → IsDraft (headed h) bytes → 512 ≤ limit → length bytes ≤ limit
headed_within h bytes limit draft low = omega (arith, headed_length h bytes draft, low)

-- a checksum takes the place of four bytes, or nothing changes
sealed_within : (n limit : ℕ) (old new : Draft) → (12 ≤ length old.bytes → new.bytes ≡ take 8 old.bytes ++ le32 n ++ drop 12 old.bytes)
    → (length old.bytes < 12 → new ≡ old) → length old.bytes ≤ limit → length new.bytes ≤ limit
sealed_within n limit old new long short low = elim (cases_lt (length old.bytes) 12) [
  | inl lt ↦ omega (arith, ap (λ (d : Draft). length d.bytes) (short lt), low)
  | inr ge ↦ omega (arith, ap length (long ge), length_stored old.bytes n ge, low)
]

-- so the packet that is written keeps to its limit
pub sealed_fits : (n limit : ℕ) (old : Option Draft) (w new : Draft) → old ≡ Some w
    → (12 ≤ length w.bytes → new.bytes ≡ take 8 w.bytes ++ le32 n ++ drop 12 w.bytes) → (length w.bytes < 12 → new ≡ w) → new.limit ≡ w.limit
    → (512 ≤ limit) × (limit ≤ 65535) × (limit_in limit old ≡ limit) × (length (bytes_in old) ≤ limit)
    → (512 ≤ limit) × (limit ≤ 65535) × (limit_in limit (Some new) ≡ limit) × (length (bytes_in (Some new)) ≤ limit)
sealed_fits n limit old w new is long short same fits =
    let F : Option Draft → Type 0 = λ o. (512 ≤ limit) × (limit ≤ 65535) × (limit_in limit o ≡ limit) × (length (bytes_in o) ≤ limit) in
    let own = subst F is fits in
    (own.0, own.1, same ∙ own.2, sealed_within n limit w new long short own.3)
