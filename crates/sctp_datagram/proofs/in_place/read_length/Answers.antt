use Rattle.std.proofs.Common.{◌≡◌, false, inr, refl, rules}
use Rattle.std.proofs.lemmas.Result.{err_from_is_err_and}
use Rattle.sctp_chunks.specs.Framing.{flags_at, type_at}
use Rattle.sctp_chunks.specs.Wire.{data_chunk}
use Rattle.sctp_data.specs.PayloadData.{Data, data_in}
use Rattle.sctp_datagram.specs.Types.{is_read_type}
use Rattle.sctp_datagram.proofs.Strict.{other_type}
use Rattle.sctp_datagram.proofs.InPlace.{data_reads, data_valid, sack_reads, sack_valid, data_kind, sack_kind}
use Rattle.sctp_datagram.proofs.in_place.read_length.Goals as goal

pub returns-in_err-data_value-in-CT_PAYLOAD_DATA-clause-fault : goal.returns-in_err-data_value-in-CT_PAYLOAD_DATA-clause-fault
returns-in_err-data_value-in-CT_PAYLOAD_DATA-clause-fault c =
    let p = err_from_is_err_and c.from_residual.result c.from_residual.ensures.1 in
    rw (p.1, p.2) (inr (data_kind _ c.args.bytes.now (search rules) c.in_err-data_value-in-CT_PAYLOAD_DATA.ensures.fault))

pub returns-in_err-sack_value-in-CT_SACK-clause-fault : goal.returns-in_err-sack_value-in-CT_SACK-clause-fault
returns-in_err-sack_value-in-CT_SACK-clause-fault c =
    let p = err_from_is_err_and c.from_residual-in_err-sack_value-in-CT_SACK.result c.from_residual-in_err-sack_value-in-CT_SACK.ensures.1 in
    rw (p.1, p.2) (inr (sack_kind _ c.args.bytes.now (search rules) c.in_err-sack_value-in-CT_SACK.ensures.fault))

pub returns-in_ok-data_value-in-CT_PAYLOAD_DATA-clause-reads : goal.returns-in_ok-data_value-in-CT_PAYLOAD_DATA-clause-reads
returns-in_ok-data_value-in-CT_PAYLOAD_DATA-clause-reads c =
    let e = c.in_ok-data_value-in-CT_PAYLOAD_DATA.ensures in
    let d : Data = data_in (flags_at c.args.bytes.now) c.in_ok-data_value-in-CT_PAYLOAD_DATA.field-0.now in
    (data_chunk d, data_reads c.args.bytes.now _ d e.chunk e.value e.long refl)

pub returns-in_ok-sack_value-in-CT_SACK-clause-reads : goal.returns-in_ok-sack_value-in-CT_SACK-clause-reads
returns-in_ok-sack_value-in-CT_SACK-clause-reads c =
    let e = c.in_ok-sack_value-in-CT_SACK.ensures in
    (_, sack_reads c.args.bytes.now _ e.chunk e.value e.headed e.long)

pub returns-in_ok-chunk_length-in_default-2-clause-fault : goal.returns-in_ok-chunk_length-in_default-2-clause-fault
returns-in_ok-chunk_length-in_default-2-clause-fault c =
    let no : is_read_type (type_at c.args.bytes.now) ≡ false = search rules in
    inr (other_type _ c.args.bytes.now refl c.in_ok-chunk_length-in_default-2.ensures.framed no)

-- bytes that begin with a chunk of its type are not refused
pub returns-in_err-data_value-in-CT_PAYLOAD_DATA-clause-only : goal.returns-in_err-data_value-in-CT_PAYLOAD_DATA-clause-only
returns-in_err-data_value-in-CT_PAYLOAD_DATA-clause-only c = λ w starts.
    absurd (data_valid _ c.args.bytes.now w starts (search rules) c.in_err-data_value-in-CT_PAYLOAD_DATA.ensures.fault)

pub returns-in_err-data_value-in-CT_PAYLOAD_DATA-clause-in_place : goal.returns-in_err-data_value-in-CT_PAYLOAD_DATA-clause-in_place
returns-in_err-data_value-in-CT_PAYLOAD_DATA-clause-in_place c = λ w plain starts.
    absurd (data_valid _ c.args.bytes.now w starts (search rules) c.in_err-data_value-in-CT_PAYLOAD_DATA.ensures.fault)

pub returns-in_err-sack_value-in-CT_SACK-clause-only : goal.returns-in_err-sack_value-in-CT_SACK-clause-only
returns-in_err-sack_value-in-CT_SACK-clause-only c = λ w starts.
    absurd (sack_valid _ c.args.bytes.now w starts (search rules) c.in_err-sack_value-in-CT_SACK.ensures.fault)

pub returns-in_err-sack_value-in-CT_SACK-clause-in_place : goal.returns-in_err-sack_value-in-CT_SACK-clause-in_place
returns-in_err-sack_value-in-CT_SACK-clause-in_place c = λ w plain starts.
    absurd (sack_valid _ c.args.bytes.now w starts (search rules) c.in_err-sack_value-in-CT_SACK.ensures.fault)
