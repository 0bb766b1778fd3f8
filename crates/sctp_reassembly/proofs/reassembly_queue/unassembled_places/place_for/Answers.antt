use Rattle.std.proofs.Common.{◌≡◌, ◌-◌, length, get_or, sym, ◌∙◌, subst, arith}
use Rattle.sctp_reassembly.proofs.lemmas.reassembly_queue.Digits.{within_digits, digits_le}
use Rattle.sctp_reassembly.proofs.lemmas.reassembly_queue.SerialPlaces.{flag_is_on, place_at_end}
use Rattle.sctp_reassembly.proofs.reassembly_queue.unassembled_places.place_for.Goals as goal

pub returns-then-not-sna32lt-clause-place : goal.returns-then-not-sna32lt-clause-place
returns-then-not-sna32lt-clause-place c =
    let xs = c.args.unassembled.now.chunks in
    let serial = flag_is_on _ xs c.if-not-is_serial.false c.is_serial.ensures in
    c.len-len.ensures
    ∙ place_at_end xs serial c.args.tsn c.ranges.tsn.fits c.look.result.now c.look-2.result.now (omega arith) c.look.ensures.value (sym c.sna32lt.ensures
    ∙ c.if-sna32lt.false) (subst (λ k. c.look-2.result.now ≡ get_or xs (k - 1) c.look-2.result.now) c.len-len.ensures c.look-2.ensures.value)
    (sym c.sna32lt-2.ensures ∙ c.if-not-sna32lt.true)

pub returns-clause-walk : goal.returns-clause-walk
returns-clause-walk c =
    let n = length c.args.unassembled.now.chunks in
    omega (
      arith,
      within_digits n (c.by_halves.new.turns - c.look-2.new.turns) c.by_halves.ensures.cost,
      digits_le n,
      c.look.ensures.turn,
      c.look-2.ensures.turn,
      c.by_halves.ensures.not_back,
    )
