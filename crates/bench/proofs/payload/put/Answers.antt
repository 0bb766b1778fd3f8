use Rattle.std.proofs.Common.{◌^◌, arith}
use Rattle.bench.proofs.NearChunks.{window-below, below-pushed}
use Rattle.bench.proofs.payload.put.Goals as goal

pub push-requires-clause-window : goal.push-requires-clause-window
push-requires-clause-window c =
    λ _. window-below (2 ^ 31) c.args.queue.now.chunks c.whole-chunk.result.tsn (omega arith) (omega arith) (omega arith) c.requires.held

pub returns-in_ok-push : goal.returns-in_ok-push
returns-in_ok-push c = below-pushed (2 ^ 31) c.push.new.self c.args.queue.now c.whole-chunk.result c.whole-chunk.result.tsn c.in_ok-push.field-0
    c.in_ok-push.ensures.ok (omega arith, omega arith) c.requires.held
