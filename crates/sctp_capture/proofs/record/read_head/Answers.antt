use Rattle.sctp_capture.proofs.record.read_head.Goals as goal

pub returns-in-None-clause-none : goal.returns-in-None-clause-none
returns-in-None-clause-none c = λ h head. c.in-None.ensures.none h.order h.nanoseconds head.magic
