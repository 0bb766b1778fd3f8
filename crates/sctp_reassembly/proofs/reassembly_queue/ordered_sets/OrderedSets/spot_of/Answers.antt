use Rattle.std.proofs.Common.{◌-◌, ◌^◌, ◌<◌, length, get_or, min, sym, ap, ◌∙◌, arith}
use Rattle.std.specs.List.{position_or_len}
use Rattle.sctp_data.specs.ChunkSet.{ChunkSet}
use Rattle.sctp_reassembly.specs.reassembly_queue.Fragments.{has_ssn}
use Rattle.sctp_serial.specs.DataChunks.{bytes_of}
use Rattle.sctp_reassembly.proofs.lemmas.reassembly_queue.ChunkSets.{chunks_at, chunks_none}
use Rattle.sctp_reassembly.proofs.lemmas.reassembly_queue.ExactFlags.{flag_on}
use Rattle.sctp_reassembly.proofs.reassembly_queue.ordered_sets.OrderedSets.spot_of.Goals as goal

pub returns-in-Ok-clause-bytes : goal.returns-in-Ok-clause-bytes
returns-in-Ok-clause-bytes c =
    let xs = c.self.inside.sets.items in
    let at = rw c.as_deque-sets.ensures at c.in-Ok.ensures.there in
    let read = rw c.as_deque-sets.ensures at c.index.ensures in
    let d = c.index.result.now in
    let within : position_or_len (has_ssn c.args.ssn) xs < length xs = omega (arith, at.0, at.1) in
    rw (← c.self.view_is)
    (c.len-bytes.ensures
    ∙ ap (λ (s : ChunkSet). min (bytes_of s.chunks) (2 ^ 64 - 1)) (read ∙ ap (λ i. get_or xs i d) at.0)
    ∙ ap (λ cs. min (bytes_of cs) (2 ^ 64 - 1)) (sym (chunks_at c.args.ssn xs d within)))

pub returns-in-Err-clause-bytes : goal.returns-in-Err-clause-bytes
returns-in-Err-clause-bytes c =
    let none = rw c.as_deque-sets.ensures at c.in-Err.ensures.free.absent in
    rw (← c.self.view_is) (sym (ap (λ xs. min (bytes_of xs) (2 ^ 64 - 1)) (chunks_none c.args.ssn c.self.inside.sets.items none)))

pub returns-in-Ok-clause-few : goal.returns-in-Ok-clause-few
returns-in-Ok-clause-few c =
    rw (← c.self.view_is) (λ up.
    let on = flag_on c.self.inside.ascending _ c.self.invariant.exact up in
    let few = rw c.as_deque-sets.ensures at c.seek-spot.ensures.few in
    let h = few on in
    omega (arith, h, c.tick.ensures))

pub returns-in-Err-clause-few : goal.returns-in-Err-clause-few
returns-in-Err-clause-few c =
    rw (← c.self.view_is) (λ up.
    let on = flag_on c.self.inside.ascending _ c.self.invariant.exact up in
    let few = rw c.as_deque-sets.ensures at c.seek-spot.ensures.few in
    let h = few on in
    omega (arith, h))
