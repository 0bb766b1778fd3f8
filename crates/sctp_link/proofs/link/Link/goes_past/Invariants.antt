use Rattle.sctp_link.proofs.Names.{◌≡◌, ℕ, ◌<◌, false, belongs_to}
use Rattle.sctp_link.proofs.link.Link.goes_past.Given as goal

abbrev pub invariant-loop-later : goal.invariant-loop-later
invariant-loop-later g l = (p : ℕ) → l.place < p → p < l.later → belongs_to l.self.recorded l.number p ≡ false
