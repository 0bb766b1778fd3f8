use Rattle.std.proofs.Common.{◌≡◌, [], length, ap, ◌∙◌, drop, arith}
use Rattle.std.proofs.lemmas.List.{drop_all}
use Rattle.sctp_receiver.specs.TsnFilter.{Filter}
use Rattle.sctp_serial.specs.DataChunks.{tsns}
use Rattle.sctp_link.specs.Tsns.{Kept, came, came_in}
use Rattle.sctp_link.proofs.link_receiver.tsn_queue.TsnQueue.forget_duplicates.Goals as goal

pub returns : goal.returns
returns c =
    let q = c.self.inside.queue in
    let n = c.self.inside.cumulative_tsn in
    let count = length c.duplicates-count.result.now in
    let none : drop count q.duplicates ≡ [] = drop_all count q.duplicates (omega (arith, ap length c.duplicates-count.ensures)) in
    ap (came_in n) c.forget_duplicates.ensures ∙ ap (came n (tsns q.chunks)) none
    ∙ ap (λ (k : Kept). let f : Filter = record k.filter { duplicates = [] } in f) c.self.view_is
