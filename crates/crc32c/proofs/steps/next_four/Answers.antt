use Rattle.crc32c.specs.Castagnoli.{zero_bytes}
use Rattle.crc32c.proofs.steps.next_four.Goals as goal

pub returns : goal.returns
unfolding zero_bytes
returns c = c.four_then_zeros.ensures
