use Rattle.std.proofs.Common.{ap, ◌∙◌}
use Rattle.std.specs.List.{concat}
use Rattle.sctp_data.specs.ChunkSet.{ChunkSet}
use Rattle.sctp_reassembly.specs.declared.reassembly_queue.chunks.Chunks.{Chunks}
use Rattle.sctp_reassembly.specs.reassembly_queue.Chunks.{left_of, left_from}
use Rattle.sctp_reassembly.proofs.lemmas.reassembly_queue.PiecesTaken.{whole_payload}
use Rattle.sctp_reassembly.proofs.reassembly_queue.chunks.Chunks.new.Goals as goal

pub returns-clause-left : goal.returns-clause-left
returns-clause-left c =
    ap (λ (x : Chunks). concat (left_of x)) c.of.ensures ∙ ap (λ (s : ChunkSet). concat (left_from s.chunks 0 0)) c.new.ensures
    ∙ whole_payload c.args.chunks.items
