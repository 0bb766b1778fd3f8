use Rattle.sctp_packets.proofs.packet.read_step.Goals as goal

pub returns-clause-found : goal.returns-clause-found
returns-clause-found c = record {
  chunk = c.in_ok-chunk.chunk;
  items = c.push_reserved.ensures.items;
  found = c.in_ok-chunk.ensures.found;
  rewritable = c.in_ok-chunk.ensures.rewritable;
  canonical = c.in_ok-chunk.ensures.canonical;
  fresh = c.in_ok-chunk.ensures.fresh;
}
