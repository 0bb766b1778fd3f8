use Rattle.sctp_data.specs.SelectiveAck.{sack_of}
use Rattle.sctp_chunks.specs.Wire.{sack_chunk}
use Rattle.sctp_packets.specs.Draft.{headed, with_chunk}
use Rattle.packet_tests.proofs.packets.write_sack.Goals as goal

pub returns : goal.returns
returns g c = record {
  reads = λ _.
      let h = headed c.args.header in
      let w = sack_chunk (sack_of c.args.sack.now) in
      c.seal.ensures.reads_back (with_chunk w h) (c.in_ok-put.ensures.draft c.if-not-branch.false h c.begin.ensures.draft) (tt, tt);
}
