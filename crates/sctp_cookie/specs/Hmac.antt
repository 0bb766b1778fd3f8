-- HMAC (RFC 2104) with SHA-256 (FIPS 180-4).
use Rattle.std.specs.Prelude.{◌≡◌, ℕ, ◌-◌, List, ◌++◌, length, map, replicate, bit_xor}
use Rattle.sha2.specs.Sha256.{sha256}
use Rattle.sha2.proofs.Facts256.{length-sha256}

-- the key, filled with zeros to a block of 64 bytes, each byte masked by the pad (RFC 2104 2). A longer key, which the RFC has hashed
-- before, is left out
abbrev pub masked_block : ℕ → List ℕ → List ℕ
masked_block pad key = map (λ byte. bit_xor byte pad) (key ++ replicate (64 - length key) 0)

-- the inner pad is the byte 0x36, the outer one 0x5c (RFC 2104 2)
unfoldable pub hmac_sha256 : List ℕ → List ℕ → List ℕ
hmac_sha256 key message =
    sha256 (masked_block 0x5c key ++ sha256 (masked_block 0x36 key ++ message))

-- a code has 32 bytes
pub length-hmac_sha256 : (key message : List ℕ) → length (hmac_sha256 key message) ≡ 32
unfolding hmac_sha256
length-hmac_sha256 key message = length-sha256 _
