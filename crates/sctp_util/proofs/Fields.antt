-- Laws of numbers as they stand in a packet.
use Rattle.std.proofs.Common.{◌≡◌, ℕ, ◌^◌, ◌<◌, List, ◌++◌, length, take, refl, ap, ◌∙◌}
use Rattle.std.specs.Int.{w16, w32, to_be_bytes, from_be_bytes, to_le_bytes, from_le_bytes}
use Rattle.std.proofs.lemmas.Nat.{from_be_bytes-to_be_bytes_2, from_be_bytes-to_be_bytes_4, from_le_bytes-to_le_bytes_4}
use Rattle.std.proofs.lemmas.List.{drop_at}
use Rattle.sctp_util.specs.Field.{be16, be32, le32, u16_at, u32_at, u32_le_at}

pub length_be16 : (n : ℕ) → length (be16 n) ≡ 2
unfolding be16
length_be16 n = refl

pub length_be32 : (n : ℕ) → length (be32 n) ≡ 4
unfolding be32
length_be32 n = refl

-- what was written is read again, behind whatever stands before it
pub u16_at_be16 : (front rest : List ℕ) (n at : ℕ) → length front ≡ at → n < 2 ^ 16 → u16_at (front ++ (be16 n ++ rest)) at ≡ n
unfolding u16_at be16
u16_at_be16 front rest n at e fits = ap (λ (x : List ℕ). from_be_bytes w16 (take 2 x)) (drop_at front (to_be_bytes w16 n ++ rest) at e)
    ∙ from_be_bytes-to_be_bytes_2 n fits

pub u32_at_be32 : (front rest : List ℕ) (n at : ℕ) → length front ≡ at → n < 2 ^ 32 → u32_at (front ++ (be32 n ++ rest)) at ≡ n
unfolding u32_at be32
u32_at_be32 front rest n at e fits = ap (λ (x : List ℕ). from_be_bytes w32 (take 4 x)) (drop_at front (to_be_bytes w32 n ++ rest) at e)
    ∙ from_be_bytes-to_be_bytes_4 n fits

pub length_le32 : (n : ℕ) → length (le32 n) ≡ 4
unfolding le32
length_le32 n = refl

pub u32_le_at_le32 : (front rest : List ℕ) (n at : ℕ) → length front ≡ at → n < 2 ^ 32 → u32_le_at (front ++ (le32 n ++ rest)) at ≡ n
unfolding u32_le_at le32
u32_le_at_le32 front rest n at e fits = ap (λ (x : List ℕ). from_le_bytes w32 (take 4 x)) (drop_at front (to_le_bytes w32 n ++ rest) at e)
    ∙ from_le_bytes-to_le_bytes_4 n fits
