use Rattle.std.proofs.Common.{◌+◌, length, take, drop, length-append, length-drop, length-take-le, sym, ap, subst, arith}
use Rattle.sctp_serial.specs.Window.{IsSerial}
use Rattle.sctp_serial.specs.DataChunks.{bytes_of}
use Rattle.sctp_reassembly.proofs.lemmas.reassembly_queue.UnassembledBytes.{some_out}
use Rattle.sctp_reassembly.proofs.lemmas.reassembly_queue.SerialPlaces.{flag_is_on, serial_on, serial_cut}
use Rattle.sctp_reassembly.proofs.lemmas.reassembly_queue.Unassembled.{same_list, same_long}
use Rattle.sctp_reassembly.proofs.reassembly_queue.unassembled.Loose.take_range_counted.Goals as goal

pub is_still_serial-self-inside-requires : goal.is_still_serial-self-inside-requires
is_still_serial-self-inside-requires c on =
    let xs = c.self.inside.chunks.items in
    let all = same_long c.self.view_is in
    subst IsSerial (sym c.take_each.ensures.rest)
    (serial_cut xs c.args.first c.args.count (omega (arith, c.requires)) (flag_is_on _ xs on c.self.invariant.order))

pub invariant_of-self : goal.invariant_of-self
invariant_of-self c =
    let xs = c.self.inside.chunks.items in
    record {
      counted = c.bytes_without-self-inside.ensures.value (bytes_of (take c.args.count (drop c.args.first xs)))
          (omega (arith, c.self.invariant.counted, some_out xs c.args.first c.args.count, ap bytes_of c.take_each.ensures.rest))
          c.bytes_from-gone.ensures.value;
      order = c.is_still_serial-self-inside.ensures.flag;
      room = omega (arith, c.self.invariant.room, c.take_each.ensures.capacity);
      apart = tt;
    }

pub returns-clause-few : goal.returns-clause-few
returns-clause-few c serial small =
    let xs = c.self.inside.chunks.items in
    let same = same_list c.self.view_is in
    let on = serial_on c.self.inside.serial xs c.self.invariant.order (subst IsSerial (sym same) serial) in
    let counted = c.bytes_without-self-inside.ensures.none (omega (arith, c.self.invariant.counted, ap bytes_of same, small)) in
    omega (arith, c.bytes_from-gone.ensures.turns, counted, c.is_still_serial-self-inside.ensures.none on)

pub returns-clause-walk : goal.returns-clause-walk
returns-clause-walk c =
    let xs = c.self.inside.chunks.items in
    let f = c.args.first in
    let all = same_long c.self.view_is in
    let front = length-take-le f xs (omega (arith, c.requires)) in
    let left = length-append (take f xs) (drop (f + c.args.count) xs) in
    omega (
      arith,
      all,
      front,
      left,
      length-drop (f + c.args.count) xs,
      ap length c.take_each.ensures.rest,
      c.bytes_from-gone.ensures.turns,
      c.bytes_without-self-inside.ensures.walk,
      c.is_still_serial-self-inside.ensures.walk,
    )
