use Rattle.std.proofs.Common.{◌∙◌, ◌+◌, sym, ap}
use Rattle.std.specs.Prelude.{bit_xor}
use Rattle.crc32c.specs.Castagnoli.{zero_bytes}
use Rattle.crc32c.proofs.Fours.{four-beside}
use Rattle.crc32c.proofs.steps.four_alone.Goals as goal

pub returns : goal.returns
returns c r =
    four-beside c.args.zeros r c.args.four.now c.told-four
    ∙ ap (bit_xor (zero_bytes (c.args.zeros + 4) r)) (sym c.four_then_zeros.ensures)
