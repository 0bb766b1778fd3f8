use Rattle.std.proofs.Common.{◌∙◌, [], get_or, sym, ap}
use Rattle.std.specs.Prelude.{bit_xor, fold}
use Rattle.std.specs.Int.Bits.{xor_assoc}
use Rattle.crc32c.specs.Castagnoli.{byte_step, zero_bytes}
use Rattle.crc32c.proofs.Fours.{four_items}
use Rattle.crc32c.proofs.steps.next_sixteen.Goals as goal

pub returns : goal.returns
returns c =
    let fours = c.args.fours.now in
    let one = fold byte_step c.args.remainder (get_or fours 0 []) in
    let two = fold byte_step one (get_or fours 1 []) in
    let three = fold byte_step two (get_or fours 2 []) in
    let last = c.last_four_alone.result in
    let third = bit_xor c.four_alone.result last in
    let second = bit_xor c.four_alone-2.result third in
    sym (ap (fold (fold byte_step) c.args.remainder) (four_items [] fours c.told-fours)
    ∙ c.last_four_alone.ensures three
    ∙ ap (λ n. bit_xor n last) (c.four_alone.ensures two)
    ∙ xor_assoc (zero_bytes 8 two) c.four_alone.result last
    ∙ ap (λ n. bit_xor n third) (c.four_alone-2.ensures one)
    ∙ xor_assoc (zero_bytes 12 one) c.four_alone-2.result third
    ∙ ap (λ n. bit_xor n second) (sym c.four_then_zeros.ensures))
