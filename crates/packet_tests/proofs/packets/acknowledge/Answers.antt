use Rattle.std.proofs.Common.{rules, ◌+◌, ◌<◌, ◌^◌, [], length, arith}
use Rattle.sctp_data.specs.SelectiveAck.{Sack, sack_value}
use Rattle.sctp_chunks.proofs.Lengths.{length_sack_value}
use Rattle.packet_tests.proofs.packets.acknowledge.Goals as goal

pub returns-clause-memory : goal.returns-clause-memory
returns-clause-memory g c =
    let s : Sack =
    record { cumulative_tsn_ack = c.args.cumulative_tsn_ack; advertised_receiver_window_credit = c.args.credit; gap_ack_blocks = []; duplicate_tsn = [] } in
    let short : 4 + length (sack_value s) < 2 ^ 16 = omega (arith, length_sack_value s) in
    search rules
