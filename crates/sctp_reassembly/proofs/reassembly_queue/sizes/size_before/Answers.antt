use Rattle.std.proofs.Common.{refl, sym, subst, arith}
use Rattle.std.specs.List.{insert}
use Rattle.sctp_serial.specs.Runs.{IsStretch}
use Rattle.sctp_reassembly.proofs.lemmas.reassembly_queue.SerialPlaces.{place_upto, serial_without}
use Rattle.sctp_reassembly.proofs.lemmas.reassembly_queue.Stretches.{no_repeat}
use Rattle.sctp_reassembly.proofs.reassembly_queue.sizes.size_before.Goals as goal

pub returns-in-Some-clause-cost : goal.returns-in-Some-clause-cost
returns-in-Some-clause-cost c s t serial w =
    let xs = c.args.unassembled.now.chunks in
    let x = c.args.chunk.now in
    let le = place_upto x.tsn xs c.args.place c.requires in
    let without = serial_without xs c.args.place x le serial in
    let at = c.in-Some.ensures.near without (no_repeat xs c.args.place x le serial) in
    let down = c.bytes_down.ensures.cost x s t refl (subst (λ i. IsStretch (insert xs i x) i s t) (sym at) w) in
    omega (arith, at, down, c.in-Some.ensures.cost without)

pub returns-in-None-clause-cost : goal.returns-in-None-clause-cost
returns-in-None-clause-cost c s t serial w =
    let xs = c.args.unassembled.now.chunks in
    let x = c.args.chunk.now in
    let le = place_upto x.tsn xs c.args.place c.requires in
    omega (arith, c.in-None.ensures.cost (serial_without xs c.args.place x le serial))
