use Rattle.std.proofs.Common.{arith}
use Rattle.bench.proofs.NearChunks.{absent-below, below-sent, window-below}
use Rattle.bench.proofs.outbound.send.Goals as goal

pub send_next-requires-clause-fresh : goal.send_next-requires-clause-fresh
send_next-requires-clause-fresh c = absent-below c.args.tsn c.args.queue.now.inflight.chunks c.requires.in_flight

pub send_next-requires-clause-window : goal.send_next-requires-clause-window
send_next-requires-clause-window c =
    (0, window-below c.args.tsn c.args.queue.now.inflight.chunks c.args.tsn (omega arith) c.requires.some c.requires.near c.requires.in_flight)

pub returns : goal.returns
returns c = below-sent c.send_next.new.self c.args.queue.now c.args.tsn 0 c.in_ok-send_next.ensures.ok c.requires.some c.requires.in_flight
