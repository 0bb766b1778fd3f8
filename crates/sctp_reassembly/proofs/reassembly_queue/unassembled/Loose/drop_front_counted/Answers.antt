use Rattle.std.proofs.Common.{length, length-drop, take, drop, sym, ap, ap₂, ◌∙◌, subst, arith}
use Rattle.std.proofs.lemmas.List.Sums.{sum_by-take-drop}
use Rattle.sctp_data.specs.declared.chunk.chunk_payload_data.ChunkPayloadData.{ChunkPayloadData}
use Rattle.sctp_serial.specs.DataChunks.{bytes_of}
use Rattle.sctp_serial.specs.Window.{IsSerial}
use Rattle.sctp_reassembly.proofs.lemmas.reassembly_queue.SerialPlaces.{flag_is_on, serial_on, serial_drop}
use Rattle.sctp_reassembly.proofs.lemmas.reassembly_queue.Unassembled.{same_list, same_long, same_places, same_parts}
use Rattle.sctp_reassembly.proofs.reassembly_queue.unassembled.Loose.drop_front_counted.Goals as goal

pub is_still_serial-self-inside-requires : goal.is_still_serial-self-inside-requires
is_still_serial-self-inside-requires c on =
    let xs = c.self.inside.chunks.items in
    subst IsSerial (sym c.loop-gone.invariant.rest)
    (serial_drop xs c.loop-gone._gone (omega (arith, same_long c.self.view_is, c.requires, c.loop-gone.auto._gone-end))
    (flag_is_on _ xs (sym c.loop-gone.invariant.serial ∙ on) c.self.invariant.order))

pub invariant_of-self : goal.invariant_of-self
invariant_of-self c =
    let xs = c.self.inside.chunks.items in
    let rest = c.loop-gone.invariant.rest ∙ ap (λ n. drop n xs) {x = c.loop-gone._gone} {y = c.args.count} (omega (arith, c.loop-gone.auto._gone-end)) in
    let all = sum_by-take-drop (λ (x : ChunkPayloadData). length x.user_data) xs c.args.count in
    record {
      counted = c.bytes_without-self-inside.ensures.value (bytes_of (take c.args.count xs))
          (c.loop-gone.invariant.counted ∙ omega (arith, c.self.invariant.counted, all, ap bytes_of rest)) c.bytes_from-gone.ensures.value;
      order = c.is_still_serial-self-inside.ensures.flag;
      room = omega (arith, c.self.invariant.room, c.loop-gone.invariant.capacity, c.loop-gone.invariant.places);
      apart = tt;
    }

pub returns-clause-value : goal.returns-clause-value
returns-clause-value c =
    same_parts (c.loop-gone.invariant.rest ∙ ap₂ drop {x = c.loop-gone._gone} {y = c.args.count} (omega (arith, c.loop-gone.auto._gone-end))
    (same_list c.self.view_is)) (c.loop-gone.invariant.places ∙ same_places c.self.view_is)

pub returns-clause-few : goal.returns-clause-few
returns-clause-few c serial small =
    let xs = c.self.inside.chunks.items in
    let i = c.loop-gone.invariant in
    let same = same_list c.self.view_is in
    let on = i.serial ∙ serial_on c.self.inside.serial xs c.self.invariant.order (subst IsSerial (sym same) serial) in
    let counted = c.bytes_without-self-inside.ensures.none (omega (arith, i.counted, c.self.invariant.counted, ap bytes_of same, small)) in
    omega (arith, c.bytes_from-gone.ensures.turns, counted, c.is_still_serial-self-inside.ensures.none on)

pub returns-clause-walk : goal.returns-clause-walk
returns-clause-walk c =
    let xs = c.self.inside.chunks.items in
    omega (
      arith,
      same_long c.self.view_is,
      ap length c.loop-gone.invariant.rest,
      length-drop c.loop-gone._gone xs,
      c.bytes_from-gone.ensures.turns,
      c.bytes_without-self-inside.ensures.walk,
      c.is_still_serial-self-inside.ensures.walk,
    )
