use Rattle.std.proofs.Common.{sym, ◌∙◌}
use Rattle.sctp_outbound.proofs.lemmas.payload_queue.Places.{is_read}
use Rattle.sctp_outbound.proofs.payload_queue.held.Seen.chunk.Goals as goal

pub index-requires : goal.index-requires
index-requires c = is_read _ _ c.self.invariant

pub returns : goal.returns
returns c = sym c.index.ensures ∙ c.self.view_is
