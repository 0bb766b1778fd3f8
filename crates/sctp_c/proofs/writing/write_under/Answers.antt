use Rattle.sctp_c.proofs.Written.{framed_refusal, whole_refusal}
use Rattle.sctp_c.proofs.writing.write_under.Goals as goal

pub returns-in-Some-clause-refused : goal.returns-in-Some-clause-refused
returns-in-Some-clause-refused c some long _ =
    framed_refusal c.args.typ c.args.flags c.args.value.now c.in-Some.end c.write_framed-in-Some.result c.in-Some.ensures.within
    c.write_framed-in-Some.ensures.codes some long c.write_framed-in-Some.ensures.large

pub returns-then-value-ge-PAYLOAD_DATA_HEADER_SIZE-clause-refused : goal.returns-then-value-ge-PAYLOAD_DATA_HEADER_SIZE-clause-refused
returns-then-value-ge-PAYLOAD_DATA_HEADER_SIZE-clause-refused c some long _ =
    whole_refusal c.args.typ c.args.flags c.args.value.now c.write_framed.result c.write_framed.ensures.codes some long c.write_framed.ensures.large
