-- Which parts of a frame its headers rule out.
use Rattle.std.proofs.Common.{◌≡◌, ℕ, ◌+◌, ◌/◌, ◌<◌, ◌≤◌, ◌⊎◌, inl, inr, List, length, Result, Ok, Err, IfErr, arith}
use Rattle.std.specs.Prelude.{slice_index, ◌≢◌}
use Rattle.sctp_util.specs.Field.{u16_at}
use Rattle.std.proofs.lemmas.Bool.{cases_order}
use Rattle.sctp_capture.specs.Frame.{InUdp, IsCarried, IsIpv4Payload, IsIpv6Payload, IsIpPayload, IsTypePlace, IsMplsPlace, IsNetworkPlace, IsEthernetPlace}
use Rattle.sctp_capture.specs.Frame.{IsRawIp, IsPlace, InFrame}
use Rattle.sctp_capture.specs.Exported.{IsExported, IsHeld}

-- what holds with no look at the error
pub of_err : {T E : Type 0} (r : Result T E) (P : E → Type 0) → ((y : E) → P y) → IfErr r P
of_err (Ok x) P f = tt
of_err (Err y) P f = f y

-- the protocol of UDP leaves one form
pub only_udp : (port protocol : ℕ) (payload : List ℕ) (cut : ℕ) (bytes : List ℕ) (missing : ℕ) → protocol ≡ 17
    → IsCarried port protocol payload cut bytes missing → InUdp port payload cut bytes missing
only_udp port protocol payload cut bytes missing e (inl it) = absurd (omega (arith, e, it.0))
only_udp port protocol payload cut bytes missing e (inr it) = it.1

-- the version of a packet leaves one form
pub only_ipv4 : (packet : List ℕ) (lost protocol : ℕ) (payload : List ℕ) (cut : ℕ) → slice_index packet 0 / 16 ≡ 4
    → IsIpPayload packet lost protocol payload cut → IsIpv4Payload packet lost protocol payload cut
only_ipv4 packet lost protocol payload cut e (inl it) = it.1
only_ipv4 packet lost protocol payload cut e (inr it) = absurd (omega (arith, e, it.0))

pub only_ipv6 : (packet : List ℕ) (lost protocol : ℕ) (payload : List ℕ) (cut : ℕ) → slice_index packet 0 / 16 ≡ 6
    → IsIpPayload packet lost protocol payload cut → IsIpv6Payload packet protocol payload cut
only_ipv6 packet lost protocol payload cut e (inl it) = absurd (omega (arith, e, it.0))
only_ipv6 packet lost protocol payload cut e (inr it) = it.1

-- no packet is shorter than the header of IPv4
pub has_header : (packet : List ℕ) (lost protocol : ℕ) (payload : List ℕ) (cut : ℕ) → IsIpPayload packet lost protocol payload cut → 20 ≤ length packet
has_header packet lost protocol payload cut (inl it) = it.1.long
has_header packet lost protocol payload cut (inr it) = omega (arith, it.1.long)

-- the place of Ethernet is the only one for its link type
pub only_ethernet : (link_type : ℕ) (frame : List ℕ) (at : ℕ) → link_type ≡ 1 → IsPlace link_type frame at → IsEthernetPlace frame at
only_ethernet link_type frame at e (inl (inl it, _)) = absurd (omega (arith, e, it))
only_ethernet link_type frame at e (inl (inr it, _)) = absurd (omega (arith, e, it))
only_ethernet link_type frame at e (inr (inl it)) = it.1
only_ethernet link_type frame at e (inr (inr it)) = absurd (grind (arith, e, it))

-- an Ethernet frame has one such place
only_type_place : (frame : List ℕ) (a b : ℕ) → IsTypePlace frame a → IsTypePlace frame b → a ≡ b
only_type_place frame a b (inl x) (inl y) = omega (arith, x.1, y.1)
only_type_place frame a b (inl x) (inr y) = absurd (x.0 y.0)
only_type_place frame a b (inr x) (inl y) = absurd (y.0 x.0)
only_type_place frame a b (inr (t, inl x)) (inr (u, inl y)) = omega (arith, x.1, y.1)
only_type_place frame a b (inr (t, inl x)) (inr (u, inr y)) = absurd (x.0 y.0)
only_type_place frame a b (inr (t, inr x)) (inr (u, inl y)) = absurd (y.0 x.0)
only_type_place frame a b (inr (t, inr (v, inl x))) (inr (u, inr (w, inl y))) = omega (arith, x.1, y.1)
only_type_place frame a b (inr (t, inr (v, inl x))) (inr (u, inr (w, inr y))) = absurd (x.0 y.0)
only_type_place frame a b (inr (t, inr (v, inr x))) (inr (u, inr (w, inl y))) = absurd (y.0 x.0)
only_type_place frame a b (inr (t, inr (v, inr x))) (inr (u, inr (w, inr y))) = omega (arith, x.1, y.1)

bottom_is_not_above : (frame : List ℕ) (from a b : ℕ) (x : IsMplsPlace frame from a) (y : IsMplsPlace frame from b) → x.last < y.last → ⊥
bottom_is_not_above frame from a b x y lt = let zero = y.above x.last lt in omega (arith, zero, x.bottom)

-- the first label that says bottom of stack is one
only_mpls : (frame : List ℕ) (from a b : ℕ) → IsMplsPlace frame from a → IsMplsPlace frame from b → a ≡ b
only_mpls frame from a b x y = elim (cases_order x.last y.last) [
  | inl same ↦ omega (arith, same, x.is, y.is)
  | inr apart ↦ elim apart [
    | inl lt ↦ absurd (bottom_is_not_above frame from a b x y lt)
    | inr lt ↦ absurd (bottom_is_not_above frame from b a y x lt)
  ]
]

-- behind a protocol number is one place
pub only_network : (typ : ℕ) (frame : List ℕ) (from a b : ℕ) → IsNetworkPlace typ frame from a → IsNetworkPlace typ frame from b → a ≡ b
only_network typ frame from a b (inl x) (inl y) = omega (arith, x.1, y.1)
only_network typ frame from a b (inl x) (inr (inl y)) = absurd (grind (arith, x.0, y.0))
only_network typ frame from a b (inl x) (inr (inr y)) = absurd (grind (arith, x.0, y.0))
only_network typ frame from a b (inr (inl x)) (inl y) = absurd (grind (arith, x.0, y.0))
only_network typ frame from a b (inr (inl x)) (inr (inl y)) = omega (arith, x.1.2, y.1.2)
only_network typ frame from a b (inr (inl x)) (inr (inr y)) = absurd (grind (arith, x.0, y.0))
only_network typ frame from a b (inr (inr x)) (inl y) = absurd (grind (arith, x.0, y.0))
only_network typ frame from a b (inr (inr x)) (inr (inl y)) = absurd (grind (arith, x.0, y.0))
only_network typ frame from a b (inr (inr x)) (inr (inr y)) = only_mpls frame from a b x.1 y.1

-- and in an Ethernet frame
pub only_behind : (frame : List ℕ) (a b : ℕ) → IsEthernetPlace frame a → IsEthernetPlace frame b → a ≡ b
only_behind frame a b x y =
    let same = only_type_place frame x.0 y.0 x.1 y.1 in only_network (u16_at frame y.0) frame (y.0 + 2) a b (rw same at x.2) y.2

-- which stands behind the protocol number that was found
pub ethernet_network : (typ : ℕ) (frame : List ℕ) (type_at at : ℕ) → IsTypePlace frame type_at → typ ≡ u16_at frame type_at → IsEthernetPlace frame at
    → IsNetworkPlace typ frame (type_at + 2) at
ethernet_network typ frame type_at at place is it =
    let same = only_type_place frame it.0 type_at it.1 place in rw is (rw same at it.2)

-- the protocol numbers of MPLS leave one form
pub only_labels : (typ : ℕ) (frame : List ℕ) (from at : ℕ) → 34887 ≤ typ → typ < 34889 → IsNetworkPlace typ frame from at → IsMplsPlace frame from at
only_labels typ frame from at low high (inl it) = absurd (grind (arith, low, high, it.0))
only_labels typ frame from at low high (inr (inl it)) = absurd (grind (arith, low, high, it.0))
only_labels typ frame from at low high (inr (inr it)) = it.1

-- each other link type has one place
only_loopback : (link_type : ℕ) (frame : List ℕ) (at : ℕ) → (link_type ≡ 0) ⊎ (link_type ≡ 108) → IsPlace link_type frame at → at ≡ 4
only_loopback link_type frame at e it = grind (arith, e, it)

only_raw : (link_type : ℕ) (frame : List ℕ) (at : ℕ) → IsRawIp link_type → IsPlace link_type frame at → at ≡ 0
only_raw link_type frame at e it = grind (arith, e, it)

only_cooked : (link_type : ℕ) (frame : List ℕ) (at : ℕ) → link_type ≡ 113 → IsPlace link_type frame at → at ≡ 16
only_cooked link_type frame at e it = grind (arith, e, it)

only_cooked_2 : (link_type : ℕ) (frame : List ℕ) (at : ℕ) → link_type ≡ 276 → IsPlace link_type frame at → at ≡ 20
only_cooked_2 link_type frame at e it = grind (arith, e, it)

-- a frame's link type and bytes leave one place
pub only_place : (link_type : ℕ) (frame : List ℕ) (a b : ℕ) → IsPlace link_type frame a → IsPlace link_type frame b → a ≡ b
only_place link_type frame a b (inl x) y = let e = only_loopback link_type frame b x.0 y in omega (arith, e, x.1)
only_place link_type frame a b (inr (inl x)) y = only_behind frame a b x.1 (only_ethernet link_type frame b x.0 y)
only_place link_type frame a b (inr (inr (inl x))) y = let e = only_raw link_type frame b x.0 y in omega (arith, e, x.1)
only_place link_type frame a b (inr (inr (inr (inl x)))) y = let e = only_cooked link_type frame b x.0 y in omega (arith, e, x.1)
only_place link_type frame a b (inr (inr (inr (inr x)))) y = let e = only_cooked_2 link_type frame b x.0 y in omega (arith, e, x.1)

not_placed : (link_type : ℕ) (frame : List ℕ) (at : ℕ) → link_type ≡ 252 → IsPlace link_type frame at → ⊥
not_placed link_type frame at is (inl (inl e, _)) = omega (arith, is, e)
not_placed link_type frame at is (inl (inr e, _)) = omega (arith, is, e)
not_placed link_type frame at is (inr (inl it)) = let e = it.0 in omega (arith, is, e)
not_placed link_type frame at is (inr (inr (inl (inl e, _)))) = omega (arith, is, e)
not_placed link_type frame at is (inr (inr (inl (inr (inl e), _)))) = omega (arith, is, e)
not_placed link_type frame at is (inr (inr (inl (inr (inr (inl e)), _)))) = omega (arith, is, e)
not_placed link_type frame at is (inr (inr (inl (inr (inr (inr (inl e))), _)))) = omega (arith, is, e)
not_placed link_type frame at is (inr (inr (inl (inr (inr (inr (inr e))), _)))) = omega (arith, is, e)
not_placed link_type frame at is (inr (inr (inr (inl it)))) = let e = it.0 in omega (arith, is, e)
not_placed link_type frame at is (inr (inr (inr (inr it)))) = let e = it.0 in omega (arith, is, e)

-- a frame of link type 252 holds what is exported
pub held_exported : (link_type port : ℕ) (frame : List ℕ) (lost : ℕ) (bytes : List ℕ) (missing : ℕ) → link_type ≡ 252
    → ((b : List ℕ) → IsExported frame b → ⊥) → IsHeld link_type port frame lost bytes missing → ⊥
held_exported link_type port frame lost bytes missing is none (inl it) = not_placed link_type frame it.at is it.place
held_exported link_type port frame lost bytes missing is none (inr it) = none bytes it.1

-- one of another holds what an IP packet carries
pub held_framed : (link_type port : ℕ) (frame : List ℕ) (lost : ℕ) (bytes : List ℕ) (missing : ℕ) → link_type ≢ 252
    → ((b : List ℕ) (m : ℕ) → InFrame link_type port frame lost b m → ⊥) → IsHeld link_type port frame lost bytes missing → ⊥
held_framed link_type port frame lost bytes missing other none (inl it) = none bytes missing it
held_framed link_type port frame lost bytes missing other none (inr it) = other it.0
