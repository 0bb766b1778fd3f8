use Rattle.std.proofs.Common.{◌<◌, length, arith}
use Rattle.sctp_util.proofs.ListsFrom.{left_whole, left_part, joins_part}
use Rattle.sctp_util.proofs.util.bytes_source.pop_from.Goals as goal

pub returns-then-len-limit-clause-left : goal.returns-then-len-limit-clause-left
returns-then-len-limit-clause-left c =
    let xss = c.args.chunks.now in
    let place = c.first_filled-place.result in
    let lt : place < length xss = omega (arith, c.first_filled-place.ensures.in_range) in
    rw (c.replace-piece.ensures.after, c.new-then-len-limit.ensures)
    (left_whole xss c.args.from place c.first_filled-place.ensures.onwards lt c.first_filled-place.ensures.skipped)

pub returns-clause-joins : goal.returns-clause-joins
returns-clause-joins c =
    let xss = c.args.chunks.now in
    let place = c.first_filled-place.result in
    let lt : place < length xss = omega (arith, c.first_filled-place.ensures.in_range) in
    joins_part xss c.args.from place c.first_filled-place.ensures.onwards lt c.first_filled-place.ensures.skipped c.args.limit c.in_ok-piece.piece
    c.split_to.new.self c.index-chunks-place-2.result c.in_ok-piece.ensures.front c.in_ok-piece.ensures.rest

pub returns-clause-left : goal.returns-clause-left
returns-clause-left c =
    let xss = c.args.chunks.now in
    let place = c.first_filled-place.result in
    let lt : place < length xss = omega (arith, c.first_filled-place.ensures.in_range) in
    left_part xss c.args.from place c.first_filled-place.ensures.onwards lt c.first_filled-place.ensures.skipped c.split_to.new.self
