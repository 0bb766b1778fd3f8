use Rattle.std.proofs.Common.{◌∙◌, sym, arith}
use Rattle.std.specs.Prelude.{bit_xor}
use Rattle.crc32c.proofs.Fours.{four_bytes}
use Rattle.crc32c.proofs.steps.word_after_zeros.Goals as goal

pub returns : goal.returns
returns c =
    (λ i. bit_xor (bit_xor (c.after_zeros.ensures i) (c.after_zeros-2.ensures i))
    (bit_xor (c.after_zeros-3.ensures i) (c.after_zeros-4.ensures i)))
    ∙ sym (four_bytes c.args.zeros c.args.word c.requires.some (omega arith))
