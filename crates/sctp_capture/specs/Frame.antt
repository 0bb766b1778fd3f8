-- The SCTP datagram that stands in a frame.
use Rattle.std.specs.Prelude.{◌≡◌, ◌≢◌, ℕ, zero, suc, ◌+◌, ◌-◌, ◌*◌, ◌/◌, ◌%◌, ◌≤◌, ◌<◌, ◌⊎◌, ◌==◌, if◌then◌else◌, min, List, length, slice_index, slice_range}
use Rattle.std.specs.Prelude.{Option, IsSomeAnd}
use Rattle.std.specs.Net.Addr.{ipv4_octets, ipv6_segments, segments_of, IsV4And, IsV6And}
use Rattle.std.specs.declared.net.ip_addr.IpAddr.{IpAddr}
use Rattle.sctp_util.specs.Field.{u16_at}

-- where an IP packet or a UDP datagram ends that has its length at this place: there, or, if it is 0, with the bytes that it is in
abbrev pub end_of : List ℕ → ℕ → ℕ → ℕ
end_of bytes at whole = if u16_at bytes at == 0 then whole else u16_at bytes at

-- what a frame holds of the bytes up to this end, where a capture cuts frames, and how many of them it does not hold
abbrev pub held_to : ℕ → List ℕ → ℕ
held_to end bytes = min end (length bytes)

abbrev pub cut_to : ℕ → List ℕ → ℕ
cut_to end bytes = end - length bytes

-- where the UDP datagram ends that a payload begins, so many bytes of which are cut off (RFC 768)
abbrev pub udp_end : List ℕ → ℕ → ℕ
udp_end payload cut = end_of payload 4 (length payload + cut)

-- in UDP to or from the port: behind the header, to the length that it says
pub record InUdp (port : ℕ) (payload : List ℕ) (cut : ℕ) (bytes : List ℕ) (missing : ℕ) : Type 0 where
  pub long : 8 ≤ length payload
  pub has_port : (u16_at payload 0 ≡ port) ⊎ (u16_at payload 2 ≡ port)
  pub has_header : 8 ≤ udp_end payload cut
  pub has_all : udp_end payload cut ≤ length payload + cut
  pub is : bytes ≡ slice_range payload 8 (held_to (udp_end payload cut) payload)
  pub is_missing : missing ≡ cut_to (udp_end payload cut) payload

-- in what IP carries: all of it, or what UDP carries to or from the port (RFC 6951). So many bytes are cut off, and so many of the datagram are missing.
abbrev pub IsCarried : ℕ → ℕ → List ℕ → ℕ → List ℕ → ℕ → Type 0
IsCarried port protocol payload cut bytes missing =
    ((protocol ≡ 132) × (bytes ≡ payload) × (missing ≡ cut))
    ⊎ ((protocol ≡ 17) × InUdp port payload cut bytes missing)

-- the bytes of the header of an IPv4 packet (RFC 791 3.1)
abbrev pub ipv4_header : List ℕ → ℕ
ipv4_header packet = (slice_index packet 0 % 16) * 4

-- where an IPv4 packet ends, by its total length. So many bytes are lost behind those that are there
abbrev pub ipv4_end : List ℕ → ℕ → ℕ
ipv4_end packet lost = end_of packet 2 (length packet + lost)

-- what an IPv4 packet that is no fragment carries, and how many bytes of it are cut off: behind its header, to its total length
pub record IsIpv4Payload (packet : List ℕ) (lost protocol : ℕ) (payload : List ℕ) (cut : ℕ) : Type 0 where
  pub long : 20 ≤ length packet
  pub is_no_fragment : u16_at packet 6 % 16384 ≡ 0
  pub has_header : 20 ≤ ipv4_header packet
  pub is_held : ipv4_header packet ≤ length packet
  pub has_length : ipv4_header packet ≤ ipv4_end packet lost
  pub is_protocol : protocol ≡ slice_index packet 9
  pub is : payload ≡ slice_range packet (ipv4_header packet) (held_to (ipv4_end packet lost) packet)
  pub is_cut : cut ≡ cut_to (ipv4_end packet lost) packet

-- a fragment header of a packet that is whole: no offset, and no more fragments (RFC 6946)
abbrev pub IsAtomic : List ℕ → Type 0
IsAtomic payload =
    (8 ≤ length payload) × (u16_at payload 2 / 8 ≡ 0) × (u16_at payload 2 % 2 ≡ 0)

-- headers of IPv6 that another one follows: hop-by-hop options, routing, destination options (RFC 8200 4), and that of a whole packet
abbrev pub IsPassed : ℕ → List ℕ → Type 0
IsPassed protocol payload = (protocol ≡ 0) ⊎ ((protocol ≡ 43)
    ⊎ ((protocol ≡ 60) ⊎ ((protocol ≡ 44) × IsAtomic payload)))

-- the bytes of such a header (RFC 8200 4.3, 4.5)
abbrev pub passed_bytes : ℕ → List ℕ → ℕ
passed_bytes protocol payload = if protocol == 44 then 8 else 8 + 8 * slice_index payload 1

-- what stands behind fewer than so many such headers, each whole, and its protocol; it is no fragment (RFC 8200 4.5)
unfoldable pub IsUpper : ℕ → ℕ → List ℕ → ℕ → List ℕ → Type 0
IsUpper zero first payload protocol upper = ⊥
IsUpper (suc count) first payload protocol upper =
    (IsPassed first payload × (passed_bytes first payload ≤ length payload)
    × IsUpper count (slice_index payload 0)
    (slice_range payload (passed_bytes first payload) (length payload)) protocol upper)
    ⊎ ((IsPassed first payload → ⊥) × (first ≢ 44) × (protocol ≡ first) × (upper ≡ payload))

-- where an IPv6 packet ends, by its length
abbrev pub ipv6_end : List ℕ → ℕ
ipv6_end packet = 40 + u16_at packet 4

-- what an IPv6 packet carries, and how many bytes of it are cut off: behind its headers, of which fifteen may follow the first, to its length
pub record IsIpv6Payload (packet : List ℕ) (protocol : ℕ) (payload : List ℕ) (cut : ℕ) : Type 0 where
  pub long : 40 ≤ length packet
  pub is : IsUpper 16 (slice_index packet 6)
      (slice_range packet 40 (held_to (ipv6_end packet) packet)) protocol payload
  pub is_cut : cut ≡ cut_to (ipv6_end packet) packet

-- what an IP packet carries, by its version. So many bytes are lost behind those that are there
abbrev pub IsIpPayload : List ℕ → ℕ → ℕ → List ℕ → ℕ → Type 0
IsIpPayload packet lost protocol payload cut =
    ((slice_index packet 0 / 16 ≡ 4) × IsIpv4Payload packet lost protocol payload cut)
    ⊎ ((slice_index packet 0 / 16 ≡ 6) × IsIpv6Payload packet protocol payload cut)

-- the address that stands in a packet from a place on
abbrev pub IsIpv4At : List ℕ → ℕ → IpAddr → Type 0
IsIpv4At packet at address =
    IsV4And address (λ ip. ipv4_octets ip ≡ slice_range packet at (at + 4))

abbrev pub IsIpv6At : List ℕ → ℕ → IpAddr → Type 0
IsIpv6At packet at address =
    IsV6And address (λ ip. ipv6_segments ip ≡ segments_of (slice_range packet at (at + 16)))

-- source and destination of an IP packet (RFC 791 3.1, RFC 8200 3)
abbrev pub AreEnds : List ℕ → IpAddr × IpAddr → Type 0
AreEnds packet ends =
    ((slice_index packet 0 / 16 ≡ 4) × IsIpv4At packet 12 ends.0 × IsIpv4At packet 16 ends.1)
    ⊎ ((slice_index packet 0 / 16 ≡ 6) × IsIpv6At packet 8 ends.0 × IsIpv6At packet 24 ends.1)

-- in an IP packet, behind which so many bytes are lost
pub record InIp (port : ℕ) (packet : List ℕ) (lost : ℕ) (bytes : List ℕ) (missing : ℕ) : Type 0 where
  pub protocol : ℕ
  pub payload : List ℕ
  pub cut : ℕ
  pub is : IsIpPayload packet lost protocol payload cut
  pub carried : IsCarried port protocol payload cut bytes missing

-- the protocol number of a VLAN tag: of the inner or the outer one (IEEE 802.1Q), or of an outer one by its older number
abbrev pub IsTag : ℕ → Type 0
IsTag typ = (typ ≡ 33024) ⊎ ((typ ≡ 34984) ⊎ (typ ≡ 37120))

-- where the protocol number of an Ethernet frame stands: behind two addresses and up to three tags
abbrev pub IsTypePlace : List ℕ → ℕ → Type 0
IsTypePlace frame at =
    ((IsTag (u16_at frame 12) → ⊥) × (at ≡ 12))
    ⊎ (IsTag (u16_at frame 12) × (((IsTag (u16_at frame 16) → ⊥) × (at ≡ 16))
    ⊎ (IsTag (u16_at frame 16) × (((IsTag (u16_at frame 20) → ⊥) × (at ≡ 20))
    ⊎ (IsTag (u16_at frame 20) × (at ≡ 24))))))

-- where the IP packet of a PPPoE session begins: behind version and type 1, code 0, session, length, and PPP's number of IPv4 or IPv6 (RFC 2516 4)
abbrev pub IsPppoePlace : List ℕ → ℕ → ℕ → Type 0
IsPppoePlace frame from at =
    (u16_at frame from ≡ 4352)
    × ((u16_at frame (from + 6) ≡ 33) ⊎ (u16_at frame (from + 6) ≡ 87)) × (at ≡ from + 8)

-- where the IP packet below MPLS labels begins: behind the first one with the bit that says bottom of stack; a label has four bytes (RFC 3032 2.1)
pub record IsMplsPlace (frame : List ℕ) (from at : ℕ) : Type 0 where
  pub last : ℕ
  pub above : (k : ℕ) → k < last → slice_index frame (from + 4 * k + 2) % 2 ≡ 0
  pub bottom : slice_index frame (from + 4 * last + 2) % 2 ≡ 1
  pub is : at ≡ from + 4 * last + 4

-- where the IP packet begins behind such a protocol number, which ends here: that of IPv4 or IPv6, of a PPPoE session, or of MPLS
abbrev pub IsNetworkPlace : ℕ → List ℕ → ℕ → ℕ → Type 0
IsNetworkPlace typ frame from at =
    (((typ ≡ 2048) ⊎ (typ ≡ 34525)) × (at ≡ from))
    ⊎ (((typ ≡ 34916) × IsPppoePlace frame from at)
    ⊎ (((typ ≡ 34887) ⊎ (typ ≡ 34888)) × IsMplsPlace frame from at))

-- where an IP packet begins in an Ethernet frame: behind the protocol number
abbrev pub IsEthernetPlace : List ℕ → ℕ → Type 0
IsEthernetPlace frame at = (type_at : ℕ) × IsTypePlace frame type_at
    × IsNetworkPlace (u16_at frame type_at) frame (type_at + 2) at

-- a header of GRE whose bits 1, 4 and 5 and version are 0 (RFC 2784 2.2, 2.3; RFC 2890 2 has given bits 2 and 3 a meaning)
abbrev pub IsVersion0 : List ℕ → Type 0
IsVersion0 gre = (slice_index gre 0 / 64 % 2 ≡ 0)
    × ((slice_index gre 0 / 4 % 4 ≡ 0) × (slice_index gre 1 % 8 ≡ 0))

-- the bytes of that header: four, and four each for a checksum, a key and a sequence number, where their bits are set (RFC 2890 2)
abbrev pub gre_header : List ℕ → ℕ
gre_header gre = 4 + 4 * (slice_index gre 0 / 128) + 4 * (slice_index gre 0 / 32 % 2)
    + 4 * (slice_index gre 0 / 16 % 2)

-- what stands behind it
abbrev pub gre_rest : List ℕ → List ℕ
gre_rest gre = slice_range gre (gre_header gre) (length gre)

-- where an IP packet begins there: in an Ethernet frame, or behind another protocol number
abbrev pub IsGrePlace : ℕ → List ℕ → ℕ → Type 0
IsGrePlace typ rest at = ((typ ≡ 25944) × IsEthernetPlace rest at)
    ⊎ ((typ ≢ 25944) × IsNetworkPlace typ rest 0 at)

-- the IP packet that GRE carries, with room for its header
pub record IsGre (gre packet : List ℕ) : Type 0 where
  pub long : 4 ≤ length gre
  pub version : IsVersion0 gre
  pub is_held : gre_header gre ≤ length gre
  pub at : ℕ
  pub place : IsGrePlace (u16_at gre 2) (gre_rest gre) at
  pub room : at + 20 ≤ length (gre_rest gre)
  pub is : packet ≡ slice_range (gre_rest gre) at (length (gre_rest gre))

-- the IP packet that an IP packet carries in GRE, and how many bytes of it are cut off
pub record IsTunnelled (packet : List ℕ) (lost : ℕ) (inner : List ℕ) (cut : ℕ) : Type 0 where
  pub gre : List ℕ
  pub is : IsIpPayload packet lost 47 gre cut
  pub inside : IsGre gre inner

-- the IP packet behind so many tunnels, one in the other, or fewer where there are no more, and how many bytes of it are cut off
unfoldable pub IsInner : ℕ → List ℕ → ℕ → List ℕ → ℕ → Type 0
IsInner zero packet lost inner cut = (inner ≡ packet) × (cut ≡ lost)
IsInner (suc count) packet lost inner cut =
    ((next : List ℕ) × (less : ℕ) × IsTunnelled packet lost next less
    × IsInner count next less inner cut)
    ⊎ (((next : List ℕ) → (less : ℕ) → IsTunnelled packet lost next less → ⊥)
    × (inner ≡ packet) × (cut ≡ lost))

-- link types of a raw IP packet
abbrev pub IsRawIp : ℕ → Type 0
IsRawIp link_type = (link_type ≡ 12) ⊎ ((link_type ≡ 14)
    ⊎ ((link_type ≡ 101) ⊎ ((link_type ≡ 228) ⊎ (link_type ≡ 229))))

-- where the IP packet of a frame begins, by its link type: loopback, Ethernet, raw IP, Linux cooked of both versions
abbrev pub IsPlace : ℕ → List ℕ → ℕ → Type 0
IsPlace link_type frame at =
    (((link_type ≡ 0) ⊎ (link_type ≡ 108)) × (at ≡ 4))
    ⊎ (((link_type ≡ 1) × IsEthernetPlace frame at)
    ⊎ ((IsRawIp link_type × (at ≡ 0))
    ⊎ (((link_type ≡ 113) × (at ≡ 16)) ⊎ ((link_type ≡ 276) × (at ≡ 20)))))

-- in a frame that holds an IP packet, alone or in up to four tunnels, or as much of one as its capture kept, which lost so many bytes: so many of
-- the datagram are missing
pub record InFrame (link_type port : ℕ) (frame : List ℕ) (lost : ℕ) (bytes : List ℕ)
    (missing : ℕ) : Type 0 where
  pub at : ℕ
  pub place : IsPlace link_type frame at
  pub packet : List ℕ
  pub cut : ℕ
  pub inner : IsInner 4 (slice_range frame at (length frame)) lost packet cut
  pub inside : InIp port packet cut bytes missing

-- in a frame that holds an IP packet: the addresses of the innermost one
pub record HasEnds (link_type : ℕ) (frame : List ℕ) (lost : ℕ) (ends : Option (IpAddr × IpAddr))
    : Type 0 where
  pub at : ℕ
  pub place : IsPlace link_type frame at
  pub packet : List ℕ
  pub cut : ℕ
  pub inner : IsInner 4 (slice_range frame at (length frame)) lost packet cut
  pub are : IsSomeAnd ends (AreEnds packet)
