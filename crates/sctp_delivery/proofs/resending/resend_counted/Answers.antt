use Rattle.sctp_delivery.proofs.NotedChunks as counts
use Rattle.sctp_delivery.proofs.resending.resend_counted.Goals as goal

pub returns : goal.returns
returns c = record {
  count = counts.count c.args.sender.now c.args.tsn c.args.now c.resend.result c.resend.ensures.answer c.resend.ensures.accepted;
  since = counts.since c.args.sender.now c.args.tsn c.args.now c.resend.result c.resend.ensures.answer c.resend.ensures.accepted;
}
