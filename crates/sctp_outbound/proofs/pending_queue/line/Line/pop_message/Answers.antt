use Rattle.std.proofs.Common.{◌++◌, option_to_list, sym, ap, ap₂, ◌∙◌, arith}
use Rattle.sctp_serial.specs.DataChunks.{bytes_of}
use Rattle.sctp_outbound.specs.Marks.{is_of}
use Rattle.sctp_outbound.specs.Stored.{Stored}
use Rattle.sctp_outbound.specs.pending_queue.PendingQueue.{last_of}
use Rattle.sctp_outbound.proofs.lemmas.pending_queue.Front.{last_alone, no_more_of, stays_without}
use Rattle.sctp_outbound.proofs.lemmas.pending_queue.Waiting.{removed_and_left}
use Rattle.sctp_outbound.proofs.pending_queue.line.Line.pop_message.Goals as goal

pub overflow_sub-result : goal.overflow_sub-result
overflow_sub-result c =
    let m = c.args.message_id in
    let gone = stays_without m c.loop-chunk.self.chunks c.loop-chunk.invariant.front c.in_default.ensures.other.0 in
    let same = ap bytes_of (sym gone ∙ c.loop-chunk.invariant.kept) in
    let now = ap (λ (s : Stored). bytes_of s.chunks) c.in_default.ensures.other.1 in
    omega (arith, same, now, removed_and_left (is_of m) c.args.self.now.chunks)

pub returns-clause-bytes : goal.returns-clause-bytes
returns-clause-bytes c =
    let m = c.args.message_id in
    let gone = stays_without m c.loop-chunk.self.chunks c.loop-chunk.invariant.front c.in_default.ensures.other.0 in
    let same = ap bytes_of (sym gone ∙ c.loop-chunk.invariant.kept) in
    let now = ap (λ (s : Stored). bytes_of s.chunks) c.in_default.ensures.other.1 in
    omega (arith, same, now, removed_and_left (is_of m) c.args.self.now.chunks)

pub returns-clause-left : goal.returns-clause-left
returns-clause-left c =
    let m = c.args.message_id in
    let gone = stays_without m c.loop-chunk.self.chunks c.loop-chunk.invariant.front c.in_default.ensures.other.0 in
    let same = ap bytes_of (sym gone ∙ c.loop-chunk.invariant.kept) in
    let now = ap (λ (s : Stored). bytes_of s.chunks) c.in_default.ensures.other.1 in
    omega (arith, same, now, removed_and_left (is_of m) c.args.self.now.chunks)

pub returns-clause-last : goal.returns-clause-last
returns-clause-last c =
    let none = no_more_of c.args.message_id c.loop-chunk.self.chunks c.loop-chunk.invariant.front c.in_default.ensures.other.0 in
    sym (last_alone c.loop-chunk.last) ∙ ap (λ ys. last_of (option_to_list c.loop-chunk.last ++ ys)) (sym none) ∙ c.loop-chunk.invariant.last

pub returns-clause-rest : goal.returns-clause-rest
returns-clause-rest c =
    let gone = stays_without c.args.message_id c.loop-chunk.self.chunks c.loop-chunk.invariant.front c.in_default.ensures.other.0 in
    c.in_default.ensures.other.1
    ∙ ap₂ (λ ys r. let s : Stored = record { chunks = ys; room = r } in s) (sym gone ∙ c.loop-chunk.invariant.kept) c.loop-chunk.invariant.room
