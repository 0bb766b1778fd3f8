use Rattle.std.proofs.Common.{◌∙◌}
use Rattle.sctp_chunks.specs.Framing.{declared_length, value_at}
use Rattle.sctp_chunks.proofs.Cuts.{drop_value}
use Rattle.sctp_chunks.proofs.chunk.chunk_header.share_value.Goals as goal

pub returns-clause-part : goal.returns-clause-part
unfolding value_at
returns-clause-part c =
    c.in_ok-slice.ensures.ok ∙ drop_value c.args.raw.now (declared_length c.args.raw.now) _ c.args.from c.requires.within c.requires.declares
