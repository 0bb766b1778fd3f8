use Rattle.std.proofs.Common.{◌≡◌, ◌∙◌, sym, length, rules}
use Rattle.sctp_util.proofs.Getting.{length-mapped}
use Rattle.sctp_link.specs.Progress.{standing_of}
use Rattle.sctp_link.proofs.progress.Progress.len.Goals as goal

pub returns : goal.returns
returns c =
    let h = c.self.inside in
    let count : c.len.result ≡ length h.streams.items = search rules in
    rw (← c.self.view_is) (count ∙ sym (length-mapped standing_of h.streams.items))
