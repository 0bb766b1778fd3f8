use Rattle.sctp_association.proofs.Sized as sized
use Rattle.sctp_association.proofs.laws.each_chunk_fits_a_packet.Goals as goal

pub returns : goal.returns
returns c = record {
  begun = sized.each-first;
  asked = sized.each-ask;
  sized = sized.each-size;
  timed = sized.each-timeout;
  polled = sized.each-poll;
  handled = sized.each-datagram;
  quiet = sized.each-other;
  fits = sized.each-fits;
}
