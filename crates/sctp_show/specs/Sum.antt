-- The checksum that datagrams are looked at under.
use Rattle.std.specs.Prelude.{ℕ, ◌==◌, ◌&&◌, not, ltb, if◌then◌else◌, Bool, false, List, length, Option, Some, None}
use Rattle.std.specs.List.{list_any}
use Rattle.sctp_util.specs.Field.{u16_at}
use Rattle.sctp_dissect.specs.declared.dissection.Header.{Header}
use Rattle.sctp_dissect.specs.declared.params.ParamItem.{ParamItem}
use Rattle.crc32c.specs.Castagnoli.{crc32c_of}
use Rattle.sctp_show.specs.declared.checksum.Sum.{Sum}
use Rattle.sctp_show.specs.declared.checksum.Sum.TheVariants.{Crc32c, Unchecked}

abbrev pub sum_of : Sum → List ℕ → ℕ
sum_of Crc32c bytes = crc32c_of bytes
sum_of Unchecked bytes = 0

-- that of a datagram of which so many bytes are missing: none, where any are
abbrev pub sum_for : Sum → ℕ → Sum
sum_for sum missing = if missing == 0 then sum else Unchecked

-- The checksum that stands in a packet is not that of its bytes, where that was computed. Zero is not wrong where the receiver said that it
-- accepts it (RFC 9653 5).
abbrev pub is_wrong : Sum → Bool → Option Header → Bool
is_wrong Unchecked accepts_zero h = false
is_wrong Crc32c accepts_zero None = false
is_wrong Crc32c accepts_zero (Some h) =
    not (h.checksum == h.computed) && not (accepts_zero && (h.checksum == 0))

-- the type of a parameter (RFC 9260 3.2.1)
abbrev pub param_type : ParamItem → ℕ
param_type p = if ltb (length p.bytes) 2 then 0 else u16_at p.bytes 0

-- one of the parameters is Zero Checksum Acceptable (RFC 9653 4)
abbrev pub has_zero_param : List ParamItem → Bool
has_zero_param items = list_any (λ p. param_type p == 32769) items
