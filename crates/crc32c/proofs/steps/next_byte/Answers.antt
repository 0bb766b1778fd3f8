use Rattle.std.proofs.Common.{◌/◌, ◌%◌, ◌∙◌, sym, ap, arith}
use Rattle.std.specs.Prelude.{bit_xor}
use Rattle.crc32c.specs.Castagnoli.{zero_bytes}
use Rattle.crc32c.proofs.Shifts.{byte_step-by_table}
use Rattle.crc32c.proofs.steps.next_byte.Goals as goal

pub returns : goal.returns
returns c =
    ap (λ n. bit_xor n (c.args.remainder / 256))
    (c.after_zeros.ensures ∙ (λ i. zero_bytes 1 (bit_xor c.args.remainder (c.from.ensures i) % 256)))
    ∙ sym (byte_step-by_table c.args.remainder c.args.byte (omega arith))
