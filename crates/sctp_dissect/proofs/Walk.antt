-- Walks over a datagram, beside those of the reader of packets.
use Rattle.std.proofs.Common.{◌≡◌, ℕ, ◌≤◌, List, [], ◌∷◌, ◌++◌, length, take, drop, zero, suc, refl, ap, sym, ◌∙◌, arith, append_assoc}
use Rattle.std.specs.Prelude.{map, min, Option, Some, None}
use Rattle.std.specs.List.{flat_map}
use Rattle.std.proofs.lemmas.List.{take-append-drop, length-take}
use Rattle.sctp_util.specs.Walk.{Walks}
use Rattle.sctp_util.specs.Padding.{padded_length}
use Rattle.sctp_chunks.specs.Framing.{declared_length}
use Rattle.sctp_chunks.specs.Wire.{Wire}
use Rattle.sctp_chunks.specs.Kind.{wire_of}
use Rattle.sctp_chunks.proofs.One.{reads_one}
use Rattle.sctp_packets.specs.Packet.{Steps, after}
use Rattle.sctp_dissect.specs.declared.dissection.Reading.{Reading}
use Rattle.sctp_dissect.specs.declared.dissection.Reading.TheVariants.{Strict, Raw}
use Rattle.sctp_dissect.specs.declared.dissection.Item.{Item}
use Rattle.sctp_dissect.specs.declared.dissection.Fault.{Fault}
use Rattle.sctp_dissect.specs.declared.dissection.Fault.TheVariants.{ShortPacket, ShortHeader, LengthTooSmall, LengthPastEnd}
use Rattle.sctp_dissect.specs.Dissection.{span, Reads, Shows, Stops, item_bytes, wire_in}

-- what is left behind as many bytes as were taken
pub drop_taken : (n : ℕ) (bytes : List ℕ) → drop (length (take n bytes)) bytes ≡ drop n bytes
drop_taken zero bytes = refl
drop_taken (suc n) [] = refl
drop_taken (suc n) (b ∷ bytes) = drop_taken n bytes

-- the items and the rest join to the bytes
pub walk_joins : (bytes : List ℕ) (items : List Item) (rest : List ℕ) → Walks Shows after bytes items rest → flat_map item_bytes items ++ rest ≡ bytes
unfolding Walks after span
walk_joins bytes [] rest w = sym w
walk_joins bytes (i ∷ is) rest w =
    let others : flat_map item_bytes is ++ rest ≡ drop (padded_length (declared_length bytes)) bytes = walk_joins (after bytes) is rest w.1 in
    let first : i.bytes ≡ take (padded_length (declared_length bytes)) bytes = w.0.bytes in
    let both : take (padded_length (declared_length bytes)) bytes ++ drop (padded_length (declared_length bytes)) bytes ≡ bytes =
    take-append-drop (padded_length (declared_length bytes)) bytes in
    let regrouped : (i.bytes ++ flat_map item_bytes is) ++ rest ≡ i.bytes ++ (flat_map item_bytes is ++ rest) =
    append_assoc i.bytes (flat_map item_bytes is) rest in
    cc

-- what an item leaves
pub left_after : (rest : List ℕ) (item : Item) (k : ℕ) → Shows rest item → k ≡ length item.bytes → drop k rest ≡ after rest
unfolding after span
left_after rest item k shows e =
    let bytes : item.bytes ≡ take (padded_length (declared_length rest)) rest = shows.bytes in
    let same : drop (length (take (padded_length (declared_length rest)) rest)) rest ≡ drop (padded_length (declared_length rest)) rest =
    drop_taken (padded_length (declared_length rest)) rest in
    cc

-- an item has at least four bytes, and no more than there are
pub taken_some : (rest : List ℕ) (item : Item) (k : ℕ) → Shows rest item → k ≡ length item.bytes → (4 ≤ k) × (k ≤ length rest)
unfolding span
taken_some rest item k shows e =
    let bytes : item.bytes ≡ take (padded_length (declared_length rest)) rest = shows.bytes in
    let counted : length (take (padded_length (declared_length rest)) rest) ≡ min (padded_length (declared_length rest))
    (length rest) = length-take (padded_length (declared_length rest)) rest in
    let same : k ≡ min (padded_length (declared_length rest)) (length rest) = cc in
    (omega (arith, shows.whole.headed, shows.whole.least), omega arith)

-- an item that is read as this chunk is that step of the reader of packets
strict_step : (bytes : List ℕ) (r : Reading) (w : Wire) → Reads bytes r → wire_in r ≡ Some w → Steps bytes w
strict_step bytes (Strict k) w reads is_w = let same : wire_of k ≡ w = cc in rw same at reads.0
strict_step bytes (Raw r) w reads is_w = cc

-- where each item is read, the reader of packets walks the same way
pub strict_walk : (bytes : List ℕ) (items : List Item) (ws : List Wire) → Walks Shows after bytes items []
    → map (λ item. wire_in item.reading) items ≡ map Some ws → Walks Steps after bytes ws []
unfolding Walks
strict_walk bytes [] [] w e = w
strict_walk bytes [] (v ∷ ws) w e = cc
strict_walk bytes (i ∷ is) [] w e = cc
strict_walk bytes (i ∷ is) (v ∷ ws) w e =
    let first : wire_in i.reading ≡ Some v = cc in
    let others : map (λ item. wire_in item.reading) is ≡ map Some ws = cc in
    (strict_step bytes i.reading v w.0.reading first, strict_walk (after bytes) is ws w.1 others)

-- where the walk stops, the reader of packets finds no chunk
no_step : (fault : Option Fault) (rest : List ℕ) → Stops fault rest → (w : Wire) → Steps rest w → ⊥
no_step None rest stops w s = omega (arith, ap length stops, s.chunk.is_framed.headed)
no_step (Some ShortPacket) rest stops w s = stops
no_step (Some ShortHeader) rest stops w s = omega (arith, stops.1, s.chunk.is_framed.headed)
no_step (Some LengthTooSmall) rest stops w s = omega (arith, stops.1, s.chunk.is_framed.least)
no_step (Some LengthPastEnd) rest stops w s = omega (arith, stops.2, s.chunk.is_framed.within)

-- bytes that are left over are some
no_rest : (fault : Option Fault) → Stops fault [] → fault ≡ None
no_rest None stops = refl
no_rest (Some ShortPacket) stops = absurd stops
no_rest (Some ShortHeader) stops = absurd (omega (arith, stops.0))
no_rest (Some LengthTooSmall) stops = absurd (omega (arith, stops.0))
no_rest (Some LengthPastEnd) stops = absurd (omega (arith, stops.0))

-- all of the items are read, as these chunks, and no bytes are left over
pub record IsAll (items : List Item) (ws : List Wire) (left : List ℕ) (why : Option Fault) : Type 0 where
  pub chunks : map (λ item. wire_in item.reading) items ≡ map Some ws
  pub rest : left ≡ []
  pub fault : why ≡ None

-- where the reader of packets takes a step, the item is read as that chunk
step_strict : (bytes : List ℕ) (r : Reading) (w : Wire) → Reads bytes r → Steps bytes w → wire_in r ≡ Some w
step_strict bytes (Strict k) w reads step = ap Some (reads_one bytes (wire_of k) w reads.0.chunk step.chunk)
step_strict bytes (Raw r) w reads step = absurd (reads.refused w step)

-- where the reader of packets walks to the end, each item is read, and nothing is left over
pub whole_walk : (bytes : List ℕ) (items : List Item) (rest : List ℕ) (fault : Option Fault) (ws : List Wire)
    → Walks Shows after bytes items rest → Stops fault rest → Walks Steps after bytes ws [] → IsAll items ws rest fault
unfolding Walks
whole_walk bytes [] rest fault [] w stops all =
    let ended : rest ≡ [] = sym w ∙ all in
    record { chunks = refl; rest = ended; fault = no_rest fault (rw ended at stops) }
whole_walk bytes [] rest fault (v ∷ ws) w stops all = absurd (no_step fault rest stops v (rw w at all.0))
whole_walk bytes (i ∷ is) rest fault [] w stops all = absurd (omega (arith, ap length all, w.0.whole.headed))
whole_walk bytes (i ∷ is) rest fault (v ∷ ws) w stops all =
    let others = whole_walk (after bytes) is rest fault ws w.1 stops all.1 in
    let first : wire_in i.reading ≡ Some v = step_strict bytes i.reading v w.0.reading all.0 in
    let same : map (λ item. wire_in item.reading) is ≡ map Some ws = others.chunks in
    record { chunks = cc; rest = others.rest; fault = others.fault }
