use Rattle.sctp_association.proofs.HostCalls as acts
use Rattle.sctp_association.proofs.laws.each_call_is_what_a_host_does.Goals as goal

pub returns : goal.returns
returns c = record {
  begun = acts.each-begins;
  asked = acts.each-ask-acts;
  sized = acts.each-size-acts;
  timed = acts.each-timeout-acts;
  read = acts.each-read-acts;
  polled = acts.each-poll-acts;
  handled = acts.each-datagram-acts;
  quiet = acts.each-other-is-quiet;
}
