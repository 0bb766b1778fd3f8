use Rattle.sctp_outbound.specs.payload_queue.PayloadQueue.{without_front}
use Rattle.sctp_outbound.proofs.lemmas.payload_queue.Payloads.{room_back, without_front_short}
use Rattle.sctp_outbound.proofs.payload_queue.PayloadQueue.pop.Goals as goal

pub returns-clause-rest : goal.returns-clause-rest
returns-clause-rest c =
    let q = c.args.self.now in
    let out = c.pop_leaving_room-chunk in
    room_back q out.new.self c.limit_room.new.self (without_front c.args.tsn q.chunks) c.room-room.result c.room-room.ensures out.ensures.rest
    out.ensures.places (without_front_short c.args.tsn q.chunks) c.limit_room.ensures
