-- Where and when a packet was captured, as filters ask for it.
use Rattle.std.specs.Prelude.{ℕ, ◌+◌, ◌-◌, Bool, ◌==◌, ◌&&◌, ◌||◌, leb, ltb, if◌then◌else◌, List, length, Option, Some, None, option_map}
use Rattle.std.specs.List.{list_any}
use Rattle.std.specs.Net.Addr.{ipv4_bits, ipv6_bits}
use Rattle.std.specs.declared.net.ip_addr.IpAddr.{IpAddr}
use Rattle.std.specs.declared.net.ip_addr.IpAddr.TheVariants.{V4, V6}
use Rattle.sctp_capture.specs.declared.record.Time.{Time}
use Rattle.sctp_show.specs.Time.{total_of}
use Rattle.sctp_show.specs.declared.scene.Span.{Span}
use Rattle.sctp_show.specs.declared.scene.Scene.{Scene}

-- the number that the bits of an address say; for one of IPv4 that of the address of IPv6 which stands for it (RFC 4291 2.5.5.2)
abbrev pub number_of : IpAddr → ℕ
number_of (V4 a) = 281470681743360 + ipv4_bits a
number_of (V6 a) = ipv6_bits a

-- the nanoseconds from one time to another, if both are known, and it is not before it
abbrev pub since : Option Time → Option Time → Option ℕ
since None time = None
since (Some start) None = None
since (Some start) (Some time) =
    if ltb (total_of time) (total_of start) then None else Some (total_of time - total_of start)

-- of a packet, of which so many bytes are missing, and whose checksum is wrong or not, that went between these ends
abbrev pub scene_of : ℕ → Bool → Option (IpAddr × IpAddr) → Option Time → Option Time → Scene
scene_of missing is_wrong ends start time =
    record {
      missing = missing;
      is_wrong = is_wrong;
      source = option_map (λ (e : IpAddr × IpAddr). number_of e.0) ends;
      destination = option_map (λ (e : IpAddr × IpAddr). number_of e.1) ends;
      since = since start time;
    }

-- from the first number up to the last
abbrev pub is_in_span : ℕ → Span → Bool
is_in_span n span = leb span.first n && leb n span.last

-- the number is in one of the spans, or there is none; one that is not known is in none
abbrev pub is_span_asked : List Span → Option ℕ → Bool
is_span_asked spans None = length spans == 0
is_span_asked spans (Some n) = (length spans == 0) || list_any (is_in_span n) spans
