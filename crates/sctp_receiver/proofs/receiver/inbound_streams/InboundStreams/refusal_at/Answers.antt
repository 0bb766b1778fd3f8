use Rattle.sctp_receiver.proofs.Names.{◌-◌, refl, sym, subst, IsOnlyPlace, IsWithinPushOn, numbers_of}
use Rattle.sctp_receiver.proofs.Inbounds.{is-found, why}
use Rattle.sctp_receiver.proofs.receiver.inbound_streams.InboundStreams.refusal_at.Goals as goal

pub returns-clause-refused : goal.returns-clause-refused
returns-clause-refused c =
    let ls = c.self.inside.items.items in
    let p : IsOnlyPlace c.args.chunk.now.stream_identifier (numbers_of ls) c.args.place = rw (← c.self.view_is) at c.requires in
    let x = c.index.result.now in
    rw (← c.self.view_is) (why c.args.chunk.now ls c.args.place p x x c.index.ensures refl c.refusal_without_memory.result
    c.refusal_without_memory.ensures.value)

pub returns-clause-cost : goal.returns-clause-cost
returns-clause-cost c =
    let ls = c.self.inside.items.items in
    let p : IsOnlyPlace c.args.chunk.now.stream_identifier (numbers_of ls) c.args.place = rw (← c.self.view_is) at c.requires in
    let x = c.index.result.now in
    let there = is-found c.args.chunk.now ls c.args.place p x x c.index.ensures refl in
    rw (← c.self.view_is) (subst (λ o. IsWithinPushOn c.args.chunk.now o (c.refusal_without_memory.new.turns - c.args.turns.now)) (sym there)
    c.refusal_without_memory.ensures.cost)
