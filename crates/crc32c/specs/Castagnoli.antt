-- CRC-32C, the Castagnoli checksum (RFC 3309, RFC 4960 Appendix B), bit by bit.
use Rattle.std.specs.Prelude.{◌≡◌, ℕ, zero, suc, ◌/◌, ◌%◌, ◌==◌, List, fold, bit_xor, if◌then◌else◌}
use Rattle.crc32c.specs.declared.Crc.{Crc}

-- the remainder after a further bit: half of it and, where it was odd, the polynomial beside
unfoldable pub shift : ℕ → ℕ
shift r = if r % 2 == 0 then r / 2 else bit_xor (r / 2) 0x82f63b78

-- the remainder after so many further bits
unfoldable pub shift_bits : ℕ → ℕ → ℕ
shift_bits zero r = r
shift_bits (suc bits) r = shift_bits bits (shift r)

-- the remainder after a further byte, its lowest bit first
unfoldable pub byte_step : ℕ → ℕ → ℕ
byte_step r byte = shift_bits 8 (bit_xor r byte)

-- the remainder after so many further zero bytes
unfoldable pub zero_bytes : ℕ → ℕ → ℕ
zero_bytes zero r = r
zero_bytes (suc zeros) r = zero_bytes zeros (shift_bits 8 r)

-- the remainder of some bytes: it begins with 32 ones
abbrev pub remainder_of : List ℕ → ℕ
remainder_of bytes = fold byte_step 0xffffffff bytes

-- CRC-32C of some bytes: each bit of their remainder turned
abbrev pub crc32c_of : List ℕ → ℕ
crc32c_of bytes = bit_xor (remainder_of bytes) 0xffffffff

-- the state stands for these bytes
abbrev pub Holds : Crc → List ℕ → Type 0
Holds state bytes = state.remainder ≡ remainder_of bytes
