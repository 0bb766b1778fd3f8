use Rattle.std.proofs.Common.{[], ◌∷◌, ◌++◌}
use Rattle.sctp_packets.proofs.checksum.Crc32cChecksum.checksum.Goals as goal

pub returns : goal.returns
returns c =
    let head = c.args.head.now in
    let summed = head ++ 0 ∷ 0 ∷ 0 ∷ 0 ∷ [] in
    let first = c.update.ensures [] c.new-crc.ensures in
    let second = c.update-2.ensures head first in
    c.finish.ensures (summed ++ c.args.tail.now) (c.update-3.ensures summed second)
