-- Worked examples of the definitions.
use Rattle.std.proofs.Common.{◌≡◌, [], codes, replicate, refl}
use Rattle.crc32c.specs.Castagnoli.{shift, shift_bits, byte_step, zero_bytes, crc32c_of}

-- the check value of the catalogues
check_value : crc32c_of (codes "123456789") ≡ 0xe3069283
unfolding shift shift_bits byte_step
check_value = refl

-- of no bytes
of_none : crc32c_of [] ≡ 0
of_none = refl

-- 32 zero bytes, and 32 bytes of ones (RFC 3720 B.4)
of_zeros : crc32c_of (replicate 32 0) ≡ 0x8a9136aa
unfolding shift shift_bits byte_step
of_zeros = refl

of_ones : crc32c_of (replicate 32 255) ≡ 0x62a8ab43
unfolding shift shift_bits byte_step
of_ones = refl

-- an even remainder is halved; of an odd one the polynomial stands beside
halved : shift 6 ≡ 3
unfolding shift
halved = refl

with_polynomial : shift 1 ≡ 0x82f63b78
unfolding shift
with_polynomial = refl

-- the byte 1 with no zero byte after it, and with one
after_none : zero_bytes 1 1 ≡ 0xf26b8303
unfolding shift shift_bits zero_bytes
after_none = refl

after_one : zero_bytes 2 1 ≡ 0x13a29877
unfolding shift shift_bits zero_bytes
after_one = refl

-- and with fifteen, the last row of the tables
after_fifteen : zero_bytes 16 1 ≡ 0xf20c0dfe
unfolding shift shift_bits zero_bytes
after_fifteen = refl
