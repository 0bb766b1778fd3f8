use Rattle.std.proofs.Common.{◌≡◌, rules, subst}
use Rattle.std.specs.Prelude.{option_map}
use Rattle.sctp_data.specs.declared.chunk.chunk_forward_tsn.ChunkForwardTsn.{ChunkForwardTsn}
use Rattle.sctp_sender.specs.Abandonment.{skip_end}
use Rattle.sctp_c.proofs.Forwards.{wanted}
use Rattle.sctp_c.proofs.sender.forwards.want_forward_tsn.Goals as goal

pub returns-in-Ok-Some-clause-short : goal.returns-in-Ok-Some-clause-short
returns-in-Ok-Some-clause-short c _ =
    let e = c.in-Ok-Some.ensures in
    let f = c.args.own.now.flight in
    let upto = subst (λ point. option_map (λ (d : ChunkForwardTsn). d.new_cumulative_tsn) c.in-Ok-Some.field-0 ≡ skip_end point f)
    c.advanced_ack_point.ensures e.tsn in
    wanted c.in-Ok-Some.field-0 c.in-Ok-Some.whole c.min-names.result f c.in-Ok-Some.field-0-is upto e.names (search rules)
