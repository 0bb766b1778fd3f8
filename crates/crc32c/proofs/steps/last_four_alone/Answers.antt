use Rattle.std.proofs.Common.{◌≡◌, ◌∙◌, ◌%◌, get_or, sym, ap, arith}
use Rattle.std.specs.Prelude.{bit_xor}
use Rattle.crc32c.specs.Castagnoli.{zero_bytes}
use Rattle.crc32c.proofs.Fours.{fold-beside, each_of_four}
use Rattle.crc32c.proofs.steps.last_four_alone.Goals as goal

pub returns : goal.returns
returns c r =
    let four = c.args.four.now in
    let first : get_or four 0 0 ≡ c.from.result % 256 = omega (arith, c.fits-four 0) in
    let second : get_or four 1 0 ≡ c.from-2.result % 256 = omega (arith, c.fits-four 1) in
    let third : get_or four 2 0 ≡ c.from-3.result % 256 = omega (arith, c.fits-four 2) in
    let fourth : get_or four 3 0 ≡ c.from-4.result % 256 = omega (arith, c.fits-four 3) in
    fold-beside four r 4 c.told-four
    ∙ ap (bit_xor (zero_bytes 4 r)) (each_of_four four c.told-four
    ∙ (λ i. bit_xor (bit_xor (zero_bytes 4 (first i)) (zero_bytes 3 (second i)))
    (bit_xor (zero_bytes 2 (third i)) (zero_bytes 1 (fourth i))))
    ∙ sym (λ i. bit_xor (bit_xor (c.after_zeros.ensures i) (c.after_zeros-2.ensures i))
    (bit_xor (c.after_zeros-3.ensures i) (c.after_zeros-4.ensures i))))
