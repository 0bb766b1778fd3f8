use Rattle.sctp_link.proofs.Names.{◌≡◌, ◌<◌, ◌≤◌, true, length, not, refl, ap, sym, ◌∙◌, arith, ◌&&◌, nat_le, nat_tests, cumulative, arrived_at, Slot}
use Rattle.sctp_link.proofs.Names.{record_in, Reception}
use Rattle.sctp_link.proofs.acknowledgement.Reporting.{cumulative-place}
use Rattle.sctp_link.proofs.receiver.Hears.{slot-raw, slots-made}
use Rattle.sctp_link.proofs.link.Link.is_new.Goals as goal

pub returns-then-cumulative-place : goal.returns-then-cumulative-place
returns-then-cumulative-place g c =
    let w = record_in c.self.inside in
    let slots = c.self.inside.slots.items in
    let messages = c.self.inside.messages.items in
    let made : c.args.place < length w.slots = rw (← c.self.view_is) at c.requires in
    let inside : c.args.place < length slots = omega (arith, made, slots-made c.self.invariant.1 slots messages refl refl) in
    let at-place : arrived_at w c.args.place ≡ c.index.result.now.arrived = ap (λ t. t.arrived)
    (slot-raw c.self.invariant.1 slots messages refl refl c.args.place c.index.result.now inside) ∙ ap (λ (t : Slot). t.arrived) (sym c.index.ensures) in
    let at : cumulative w ≤ c.args.place =
    omega (
      arith,
      c.if-cumulative-place.true,
      c.count_of-cumulative.ensures,
      c.cumulative_tsn.ensures,
      ap (λ (r : Reception). r.cumulative_tsn) c.receiver.ensures,
      cumulative-place c.self.invariant.1 0,
    ) in
    let past : nat_le (cumulative w) c.args.place ≡ true = grind (arith, nat_tests) in
    rw (← c.self.view_is) (sym (ap (λ b. b && not (arrived_at w c.args.place)) past ∙ ap not at-place))
