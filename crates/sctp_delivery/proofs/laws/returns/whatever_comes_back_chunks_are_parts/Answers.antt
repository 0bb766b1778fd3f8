use Rattle.sctp_delivery.proofs.PlainLaws as laws
use Rattle.sctp_delivery.proofs.PlainRuns as runs
use Rattle.sctp_delivery.proofs.laws.returns.whatever_comes_back_chunks_are_parts.Goals as goal

pub returns : goal.returns
returns c = record { part = runs.parts; same = laws.same; modes = runs.sent-as-written }
