use Rattle.std.proofs.Common.{sym, ap, length, ◌∙◌}
use Rattle.sctp_datagram.specs.Datagram.{Walked}
use Rattle.sctp_datagram.specs.Places.{place_at}
use Rattle.sctp_datagram.proofs.Walk.{length-rows_from}
use Rattle.sctp_datagram.proofs.datagram.Datagram.left.Goals as goal

pub returns : goal.returns
returns c =
    let same = ap (λ (w : Walked). length w.left) c.self.view_is in
    sym (length-rows_from place_at c.self.inside.left c.self.inside.raw.now c.self.inside.at) ∙ same
