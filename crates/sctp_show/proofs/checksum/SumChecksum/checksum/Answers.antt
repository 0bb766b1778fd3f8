use Rattle.std.proofs.Common.{[], ◌∷◌, ◌++◌}
use Rattle.sctp_show.proofs.checksum.SumChecksum.checksum.Goals as goal

pub returns-in-Crc32c : goal.returns-in-Crc32c
returns-in-Crc32c c =
    let head = c.args.head.now in
    let summed = head ++ 0 ∷ 0 ∷ 0 ∷ 0 ∷ [] in
    let first = c.update.ensures [] c.new-crc.ensures in
    let second = c.update-in-Crc32c.ensures head first in
    rw c.in-Crc32c.is (c.finish.ensures (summed ++ c.args.tail.now) (c.update-in-Crc32c-2.ensures summed second))
