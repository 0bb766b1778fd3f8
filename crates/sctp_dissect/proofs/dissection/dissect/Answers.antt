use Rattle.std.proofs.Common.{◌≡◌, drop, refl, arith}
use Rattle.std.proofs.lemmas.Grind.{common_steps}
use Rattle.std.specs.Prelude.{Some}
use Rattle.sctp_dissect.proofs.Packet.{shown_joins, packet_shown, shown_packet}
use Rattle.sctp_dissect.proofs.dissection.dissect.Goals as goal

pub returns-clause-joins : goal.returns-clause-joins
returns-clause-joins g c =
    let body : c.advance.new.self ≡ drop 12 c.args.raw.now = grind (arith, common_steps) in
    shown_joins _ c.args.raw.now c.advance.new.self c.in_ok-header.header
    (record { header = Some c.in_ok-header.header; items = c.in_ok-items.items; rest = c.in_ok-items.rest; fault = c.in_ok-items.fault }) refl
    c.in_ok-header.ensures body c.in_ok-items.ensures.items

pub returns-clause-packet : goal.returns-clause-packet
returns-clause-packet g c = λ p.
    let body : c.advance.new.self ≡ drop 12 c.args.raw.now = grind (arith, common_steps) in (
      packet_shown _ c.args.raw.now c.advance.new.self c.in_ok-header.header
          (record { header = Some c.in_ok-header.header; items = c.in_ok-items.items; rest = c.in_ok-items.rest; fault = c.in_ok-items.fault }) refl
          c.in_ok-header.ensures body c.in_ok-items.ensures.items c.in_ok-items.ensures.fault p,
      shown_packet _ c.args.raw.now c.advance.new.self c.in_ok-header.header
          (record { header = Some c.in_ok-header.header; items = c.in_ok-items.items; rest = c.in_ok-items.rest; fault = c.in_ok-items.fault })
          (omega arith) refl c.in_ok-header.ensures body c.in_ok-items.ensures.items p,
    )
