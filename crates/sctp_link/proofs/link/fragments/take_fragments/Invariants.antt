use Rattle.sctp_link.proofs.Names.{◌≤◌, ◌+◌, vec_capacity, AreNoted, outgoing_of, Leave, SendsOnly}
use Rattle.std.specs.Prelude.{vec_len}
use Rattle.sctp_link.proofs.link.fragments.take_fragments.Given as goal

abbrev pub invariant-loop-at : goal.invariant-loop-at
invariant-loop-at l = record {
  leave : Leave l.now l._at (outgoing_of l.fn.sender l.fn.progress l.fn.messages l.fn.slots.items) (outgoing_of l.sender l.progress l.messages l.slots.items);
  noted : AreNoted l.now l._at l.fn.sender.flight.queue.inflight.chunks l.sender.flight.queue.inflight.chunks;
  rest : SendsOnly l.fn.sender l.sender;
  flight : l.count ≤ l._at + l.sender.flight.queue.inflight.room;
  room : vec_len l.slots + l.count ≤ vec_capacity l.slots + l._at;
}
