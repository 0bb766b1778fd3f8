use Rattle.std.proofs.Common.{◌≡◌, ◌<◌, ◌≤◌, ◌^◌, ◌++◌, length, length-append, drop, ap, arith}
use Rattle.std.specs.List.{concat}
use Rattle.sctp_util.proofs.util.bytes_source.BytesArrayBytesSource.pop_chunk.Goals as goal

pub invariant_of-self-2 : goal.invariant_of-self-2
invariant_of-self-2 c =
    let old = c.args.self.now in
    let new = c.pop_from.new.chunks in
    let at = c.in_ok-piece.consumed in
    let joins : c.in_ok-piece.piece ++ concat (drop at new) ≡ concat (drop old.consumed old.chunks.now) = c.in_ok-piece.ensures.joins in
    let parts = length-append c.in_ok-piece.piece (concat (drop at new)) in
    let few : length (concat (drop old.consumed old.chunks.now)) < 2 ^ 64 = old.small in
    let within : at ≤ length new = omega (arith, c.in_ok-piece.ensures.used.1, c.pop_from.auto.chunks) in
    let small : length (concat (drop at new)) < 2 ^ 64 = omega (arith, ap length joins, parts, few) in
    record { within = within; small = small }
