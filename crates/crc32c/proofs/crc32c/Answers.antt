use Rattle.std.proofs.Common.{[]}
use Rattle.crc32c.proofs.crc32c.Goals as goal

pub returns : goal.returns
returns c = c.finish.ensures c.args.bytes.now (c.update.ensures [] c.new-state.ensures)
