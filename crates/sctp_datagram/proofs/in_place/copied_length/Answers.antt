use Rattle.std.proofs.Common.{inl, inr, rules}
use Rattle.std.proofs.lemmas.Result.{err_from_is_err_and}
use Rattle.sctp_chunks.specs.Kind.{KindFault, wire_of}
use Rattle.sctp_datagram.proofs.Alone.{reads_of_cut, cut_reads, fault_of_cut}
use Rattle.sctp_datagram.proofs.in_place.copied_length.Goals as goal

pub returns-in_err-length-clause-fault : goal.returns-in_err-length-clause-fault
returns-in_err-length-clause-fault c =
    let p = err_from_is_err_and c.from_residual.result c.from_residual.ensures.1 in
    rw (p.1, p.2) (inr (inl c.in_err-length.ensures.fault))

pub returns-in_err-unmarshal-clause-only : goal.returns-in_err-unmarshal-clause-only
returns-in_err-unmarshal-clause-only c = λ w reads.
    let p = err_from_is_err_and c.from_residual-in_err-unmarshal.result c.from_residual-in_err-unmarshal.ensures.1 in
    rw (p.1, p.2) (c.in_err-unmarshal.ensures.only w tt (cut_reads c.args.bytes.now _ w (search rules) reads))

pub returns-in_err-unmarshal-clause-fault : goal.returns-in_err-unmarshal-clause-fault
returns-in_err-unmarshal-clause-fault c =
    let p = err_from_is_err_and c.from_residual-in_err-unmarshal.result c.from_residual-in_err-unmarshal.ensures.1 in
    rw (p.1, p.2) (fault_of_cut KindFault _ c.args.bytes.now _ c.in_ok-length.ensures.framed (search rules) c.in_err-unmarshal.ensures.fault)

pub returns-clause-reads : goal.returns-clause-reads
returns-clause-reads c =
    let w = wire_of c.in_ok-unmarshal.field-0 in
    (w, reads_of_cut c.args.bytes.now _ w c.in_ok-length.ensures.framed (search rules) c.in_ok-unmarshal.ensures.found)
