-- The tag of one INIT (RFC 9260 5.2.2, 5.2.6, 5.3.1). Moments are nanoseconds.
use Rattle.std.specs.Prelude.{ℕ, List, ◌++◌, max}
use Rattle.std.specs.Int.{w32, w64, to_be_bytes}
use Rattle.sctp_cookie.specs.Hmac.{hmac_sha256}
use Rattle.sctp_handshake.specs.declared.offer.Offer.{Offer}
use Rattle.sctp_util.specs.Field.{u32_at}

-- what the code is made of: the moment, and the tag and the first TSN of an offer
abbrev pub fresh_from : (now : ℕ) → Offer → List ℕ
fresh_from now offer =
    to_be_bytes w64 now ++ (to_be_bytes w32 offer.tag ++ to_be_bytes w32 offer.first_tsn)

-- the first four bytes of a code under the key of this side: who has not the key can't guess it. It is not 0
abbrev pub fresh_tag : (key : List ℕ) → (now : ℕ) → Offer → ℕ
fresh_tag key now offer = max (u32_at (hmac_sha256 key (fresh_from now offer)) 0) 1
