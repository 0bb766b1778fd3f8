use Rattle.std.proofs.Common.{◌∙◌, ◌+◌}
use Rattle.std.specs.Prelude.{bit_xor}
use Rattle.crc32c.specs.Castagnoli.{zero_bytes}
use Rattle.crc32c.proofs.Fours.{four-zero_bytes}
use Rattle.crc32c.proofs.steps.four_then_zeros.Goals as goal

pub returns : goal.returns
returns c =
    c.word_after_zeros.ensures
    ∙ (λ i. zero_bytes (c.args.zeros + 4) (bit_xor c.args.remainder (c.from_le_bytes.ensures i)))
    ∙ four-zero_bytes c.args.zeros c.args.remainder c.args.four.now c.told-four c.fits-four
