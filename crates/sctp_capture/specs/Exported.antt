-- PDUs that Wireshark exports (link type 252): tags, and behind them the PDU.
use Rattle.std.specs.Prelude.{◌≡◌, ℕ, zero, suc, ◌+◌, ◌⊎◌, Bool, true, false, ◌==◌, ◌||◌, ◌&&◌, ltb, if◌then◌else◌, List, length, slice_index, slice_range}
use Rattle.std.specs.Prelude.{codes, Option, Some, None, IfSome}
use Rattle.std.specs.declared.net.ip_addr.IpAddr.{IpAddr}
use Rattle.sctp_util.specs.Field.{u16_at}
use Rattle.sctp_capture.specs.Lead.{begins_so}
use Rattle.sctp_capture.specs.Frame.{IsIpv4At, IsIpv6At, InFrame, HasEnds}

-- ---- tags

-- a tag has its number, the length of its value, and the value
abbrev pub tag_end : List ℕ → ℕ → ℕ
tag_end frame at = at + 4 + u16_at frame (at + 2)

abbrev pub value_at : List ℕ → ℕ → List ℕ
value_at frame at = slice_range frame (at + 4) (tag_end frame at)

-- where the first tag of a number stands, of so many from a place on: all of it is there, and no tag of number 0, the last one, is before it
unfoldable pub tag_at : ℕ → ℕ → List ℕ → ℕ → Option ℕ
tag_at zero number frame at = None
tag_at (suc count) number frame at =
    if ltb (length frame) (tag_end frame at) then None
    else if u16_at frame at == number then Some at
    else if u16_at frame at == 0 then None
    else tag_at count number frame (tag_end frame at)

-- of sixty-four tags
abbrev pub tag_in : ℕ → List ℕ → Option ℕ
tag_in number frame = tag_at 64 number frame 0

-- ---- the PDU

-- the name `sctp`, which bytes of 0 may pad
abbrev pub names_sctp : List ℕ → Bool
names_sctp value =
    begins_so (codes "sctp") value && (length value == 4 || slice_index value 4 == 0)

-- a PDU that goes to the dissector of SCTP: tag 12 has its name
abbrev pub is_named_by : List ℕ → Option ℕ → Bool
is_named_by frame None = false
is_named_by frame (Some at) = names_sctp (value_at frame at)

-- the datagram is what stands behind the last tag, of number 0
pub record IsExported (frame bytes : List ℕ) : Type 0 where
  pub is_named : is_named_by frame (tag_in 12 frame) ≡ true
  pub last : ℕ
  pub is_last : tag_in 0 frame ≡ Some last
  pub is : bytes ≡ slice_range frame (tag_end frame last) (length frame)

-- ---- addresses

-- an address, which a tag of its number has in four bytes, or one of another number in sixteen
abbrev pub IsFour : List ℕ → ℕ → IpAddr → Type 0
IsFour frame number address = (at : ℕ) × (tag_in number frame ≡ Some at)
    × (u16_at frame (at + 2) ≡ 4) × IsIpv4At frame (at + 4) address

abbrev pub IsSix : List ℕ → ℕ → IpAddr → Type 0
IsSix frame number address = (at : ℕ) × (tag_in number frame ≡ Some at)
    × (u16_at frame (at + 2) ≡ 16) × IsIpv6At frame (at + 4) address

abbrev pub IsAddress : List ℕ → ℕ → ℕ → IpAddr → Type 0
IsAddress frame four six address = IsFour frame four address ⊎ IsSix frame six address

-- source and destination, if there are any: tags 20 and 21 of IPv4, 22 and 23 of IPv6
abbrev pub AreExportedEnds : List ℕ → Option (IpAddr × IpAddr) → Type 0
AreExportedEnds frame ends =
    IfSome ends (λ e. IsAddress frame 20 22 e.0 × IsAddress frame 21 23 e.1)

-- ---- of any link type but 248

-- a datagram that a frame holds whose capture lost so many bytes at its end, so many bytes of which are missing: in an IP packet, or exported
abbrev pub IsHeld : ℕ → ℕ → List ℕ → ℕ → List ℕ → ℕ → Type 0
IsHeld link_type port frame lost bytes missing =
    InFrame link_type port frame lost bytes missing
    ⊎ ((link_type ≡ 252) × IsExported frame bytes × (missing ≡ lost))

-- the addresses between which it went
abbrev pub AreHeldEnds : ℕ → List ℕ → ℕ → Option (IpAddr × IpAddr) → Type 0
AreHeldEnds link_type frame lost ends =
    HasEnds link_type frame lost ends ⊎ ((link_type ≡ 252) × AreExportedEnds frame ends)
