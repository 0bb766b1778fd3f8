use Rattle.std.proofs.Common.{refl}
use Rattle.sctp_association.proofs.Owing.{told_of}
use Rattle.sctp_association.proofs.association.Association.note_stream_told.Goals as goal

pub returns-in-Some-clause-told : goal.returns-in-Some-clause-told
returns-in-Some-clause-told c =
    told_of _ _ c.in-Some.inbound _ c.in-Some.is refl (record { unknown = refl; receiver = refl; delay = refl; usable = λ s. refl })
