use Rattle.sctp_chunks.specs.Kind.{wire_of}
use Rattle.sctp_c.proofs.Written.{is_encoded}
use Rattle.sctp_c.proofs.writing.chunk_of.Goals as goal

pub returns-clause-found : goal.returns-clause-found
returns-clause-found c =
    let reads = rw c.in_ok-raw.ensures.ok at c.in_ok-read.ensures.found in
    is_encoded c.encoded_under.result c.args.typ c.args.flags c.args.value.now (wire_of c.in_ok-read.read) reads c.encoded_under.ensures.ok
