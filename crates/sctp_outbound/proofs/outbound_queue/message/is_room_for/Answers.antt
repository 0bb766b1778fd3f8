use Rattle.std.proofs.Common.{ap, arith}
use Rattle.std.proofs.lemmas.Bool.Decides.{nat_tests}
use Rattle.std.proofs.lemmas.List.{take_all}
use Rattle.sctp_serial.specs.DataChunks.{bytes_of}
use Rattle.sctp_outbound.proofs.outbound_queue.message.is_room_for.Goals as goal

pub returns : goal.returns
returns c = let all = ap bytes_of (take_all c.loop-chunk.chunk-index c.args.chunks.now (omega arith)) in grind (arith, nat_tests, all)
