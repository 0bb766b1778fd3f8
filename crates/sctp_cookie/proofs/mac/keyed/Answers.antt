use Rattle.std.proofs.Common.{◌<◌, [], length, length-append, length-drop, get_or, ap, arith}
use Rattle.std.proofs.lemmas.List.{get_or_default, length-map, length-take}
use Rattle.std.proofs.lemmas.List.Edits.{map_over_more}
use Rattle.std.specs.Int.RustNames.{bit_xor}
use Rattle.sctp_cookie.proofs.Masks.{masked_block-done}
use Rattle.sctp_cookie.proofs.mac.keyed.Goals as goal

pub loop-byte-preserved : goal.loop-byte-preserved
loop-byte-preserved c =
    let long : c.loop-byte.byte-index < length c.loop-byte.byte-items =
    omega (arith, simp (length-append, length-map, length-take, length-drop) at (ap length c.loop-byte.invariant)) in
    map_over_more (λ byte. bit_xor byte c.args.pad) c.args.key.now c.loop-byte.byte-items c.loop-byte.byte-index
    (get_or c.loop-byte.byte-items c.loop-byte.byte-index 0) (omega arith) c.loop-byte.invariant
    (get_or_default c.loop-byte.byte-items c.loop-byte.byte-index _ _ long)

pub returns : goal.returns
returns c =
    let taken = c.update-2.ensures c.loop-byte.byte-items (c.update.ensures [] c.new-hasher.ensures) in
    rw (masked_block-done c.args.pad c.args.key.now c.loop-byte.byte-items c.loop-byte.byte-index c.told-key (omega arith) c.loop-byte.invariant) at taken
