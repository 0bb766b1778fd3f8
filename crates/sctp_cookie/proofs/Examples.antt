-- Worked examples of the definitions.
use Rattle.std.proofs.Common.{◌≡◌, [], ◌∷◌, ◌++◌, codes, length, replicate, refl}
use Rattle.sha2.specs.Sha256.{compress, digest_bytes, first_words, hash_after, rounds, schedule, sha256}
use Rattle.sctp_cookie.specs.Cookie.{be64, sealed}
use Rattle.sctp_cookie.specs.Hmac.{hmac_sha256}

-- the first two test cases of RFC 4231 (4.2, 4.3)
hi_there : hmac_sha256 (replicate 20 0x0b) (codes "Hi There") ≡
    0xb0 ∷ 0x34 ∷ 0x4c ∷ 0x61 ∷ 0xd8 ∷ 0xdb ∷ 0x38 ∷ 0x53 ∷ 0x5c ∷ 0xa8 ∷ 0xaf ∷ 0xce ∷ 0xaf ∷ 0x0b ∷ 0xf1 ∷ 0x2b ∷
    0x88 ∷ 0x1d ∷ 0xc2 ∷ 0x00 ∷ 0xc9 ∷ 0x83 ∷ 0x3d ∷ 0xa7 ∷ 0x26 ∷ 0xe9 ∷ 0x37 ∷ 0x6c ∷ 0x2e ∷ 0x32 ∷ 0xcf ∷ 0xf7 ∷ []
unfolding hmac_sha256 first_words schedule rounds compress hash_after digest_bytes sha256
hi_there = refl

for_nothing : hmac_sha256 (codes "Jefe") (codes "what do ya want for nothing?") ≡
    0x5b ∷ 0xdc ∷ 0xc1 ∷ 0x46 ∷ 0xbf ∷ 0x60 ∷ 0x75 ∷ 0x4e ∷ 0x6a ∷ 0x04 ∷ 0x24 ∷ 0x26 ∷ 0x08 ∷ 0x95 ∷ 0x75 ∷ 0xc7 ∷
    0x5a ∷ 0x00 ∷ 0x3f ∷ 0x08 ∷ 0x9d ∷ 0x27 ∷ 0x39 ∷ 0x83 ∷ 0x9d ∷ 0xec ∷ 0x58 ∷ 0xb9 ∷ 0x64 ∷ 0xec ∷ 0x38 ∷ 0x43 ∷ []
unfolding hmac_sha256 first_words schedule rounds compress hash_after digest_bytes sha256
for_nothing = refl

-- zeros behind a key change nothing, up to a block (RFC 2104 2)
filled_key : hmac_sha256 (codes "Jefe" ++ replicate 28 0) (codes "what do ya want for nothing?")
    ≡ hmac_sha256 (codes "Jefe") (codes "what do ya want for nothing?")
unfolding hmac_sha256
filled_key = refl

-- two bytes sealed at the moment 258, under a code that says how long the message is
two_bytes : sealed (λ message. replicate 32 (length message)) 258 (7 ∷ 9 ∷ []) ≡ 0 ∷ 0 ∷ 0 ∷ 0 ∷ 0 ∷ 0 ∷ 1 ∷ 2 ∷ 7 ∷ 9 ∷ replicate 32 10
unfolding be64
two_bytes = refl
