use Rattle.std.proofs.Common.{sym, ap, ◌∙◌}
use Rattle.std.specs.List.{position_or_len, insert}
use Rattle.sctp_util.specs.Serial.{comes_before}
use Rattle.sctp_serial.specs.DataChunks.{chunk_before}
use Rattle.sctp_serial.proofs.lemmas.ListEdits.{inserted-position}
use Rattle.sctp_reassembly.proofs.reassembly_queue.fragment_places.insertion_place.Goals as goal

pub returns-clause-inserted : goal.returns-clause-inserted
returns-clause-inserted c x e =
    let xs = c.args.chunks.now in
    ap (λ i. insert xs i x) (c.first_after.ensures.place ∙ ap (λ t. position_or_len (λ y. comes_before t y.tsn) xs) (sym e))
    ∙ sym (inserted-position chunk_before x xs)
