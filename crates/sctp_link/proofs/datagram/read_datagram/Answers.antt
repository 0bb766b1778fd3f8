use Rattle.sctp_link.proofs.Names.{◌≡◌, ◌∷◌, [], ap, sym, subst, ◌∙◌, arith, map, AllByRecursion, err_from_is_err_and, nil_from_length, wire_of, IsFreshKind}
use Rattle.sctp_link.proofs.Names.{packet_with, all_last}
use Rattle.sctp_link.proofs.upkeep.Packets.{some_kind, last_kind}
use Rattle.sctp_link.proofs.datagram.read_datagram.Goals as goal

pub returns-in_err-packet-clause-memory : goal.returns-in_err-packet-clause-memory
returns-in_err-packet-clause-memory g c =
    let only = c.in_err-packet.ensures.only (packet_with (c.requires.0 ∷ [])) c.requires.1 in
    let p = err_from_is_err_and c.from_residual.result c.from_residual.ensures.1 in
    rw (p.1, p.2) only

pub unreachable-requires : goal.unreachable-requires
unreachable-requires g c =
    some_kind c.in_ok-packet.packet.chunks.items c.requires.0 (nil_from_length c.in_ok-packet.packet.chunks.items (omega (arith, c.in_default.ensures.cases.0)))
    (ap (λ p. p.chunks) (c.in_ok-packet.ensures.only (packet_with (c.requires.0 ∷ [])) c.requires.1))

pub returns-clause-chunk : goal.returns-clause-chunk
returns-clause-chunk g c = λ w reads.
    let one : map wire_of c.in_ok-packet.packet.chunks.items ≡ w ∷ [] = ap (λ p. p.chunks) (c.in_ok-packet.ensures.only (packet_with (w ∷ [])) reads) in
    last_kind c.pop.new.self.items c.in-Some.kind w (ap (map wire_of) (sym c.in-Some.ensures.items) ∙ one)

pub returns-clause-fresh : goal.returns-clause-fresh
returns-clause-fresh g c =
    all_last IsFreshKind c.pop.new.self.items c.in-Some.kind (subst (AllByRecursion IsFreshKind) c.in-Some.ensures.items c.in_ok-packet.ensures.fresh)
