use Rattle.sctp_outbound.proofs.outbound_queue.OutboundQueue.is_late.Goals as goal

pub rest_waits-requires : goal.rest_waits-requires
rest_waits-requires c = c.are_whole.ensures.sent c.args.chunk.now.message_id c.requires
