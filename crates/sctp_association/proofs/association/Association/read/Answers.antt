use Rattle.std.proofs.Common.{Option, ap, sym, ◌∙◌}
use Rattle.sctp_association.proofs.Entering.{usable_same}
use Rattle.sctp_association.specs.Entering.{usable_in}
use Rattle.sctp_association.specs.StreamSet.{is_in}
use Rattle.sctp_association.specs.declared.inbound.Inbound.{Inbound}
use Rattle.sctp_association.proofs.association.Association.read.Goals as goal

pub returns-in-Some-clause-usable : goal.returns-in-Some-clause-usable
returns-in-Some-clause-usable c s =
    usable_same s c.in-Some.inbound c.read.new.self c.read.ensures.taken.streams (ap (is_in s) c.read.ensures.taken.discarded)
    ∙ sym (ap (λ (x : Option Inbound). usable_in s x) c.in-Some.is)
