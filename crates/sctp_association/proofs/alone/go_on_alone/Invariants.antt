use Rattle.sctp_association.proofs.Silence.{LastsFirst}
use Rattle.sctp_association.proofs.alone.go_on_alone.Given as goal

abbrev pub invariant-loop-now : goal.invariant-loop-now
invariant-loop-now l = LastsFirst l.now-index l.fn.moments l.initial.one l.one
